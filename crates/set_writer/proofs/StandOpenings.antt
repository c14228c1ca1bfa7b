-- Whether a set that is opened stands in what a crash leaves.
use Rattle.std.proofs.Common.{◌≡◌, inl, inr, ℕ, ◌+◌, ◌<◌, ◌≤◌, Bool, true, false, List, [], ◌∷◌, length, map, Some, refl, sym, ap, ◌∙◌, subst, arith}
use Rattle.std.specs.Prelude.{◌&&◌, ◌||◌}
use Rattle.std.specs.List.{AllByRecursion, list_all, list_any}
use Rattle.std.proofs.lemmas.Bool.{and_parts, and_from, and_right, cases_lt, le-leb}
use Rattle.std.proofs.lemmas.List.{take_all}
use Rattle.zone_bay.specs.Contents.{Contents, Lengths}
use Rattle.zone_bay.specs.Bay.{BayState}
use Rattle.marker_format.specs.Zone.{Array, has_foot}
use Rattle.array_model.specs.Drives.{bytes_at}
use Rattle.array_model.specs.Record.{is_ready}
use Rattle.array_model.specs.Reading.{Carrier}
use Rattle.array_model.specs.Sets.{stands}
use Rattle.set_table.specs.declared.zone_use.ZoneUse.TheVariants as uses
use Rattle.set_table.specs.Table.{Table, use_at, is_live}
use Rattle.set_table.specs.Table as table
use Rattle.set_writer.specs.Entry.{entries_bytes}
use Rattle.set_writer.specs.Members.{of_members, grown_by}
use Rattle.set_table.specs.Table.{array_of}
use Rattle.set_writer.specs.Writer.{opening}
use Rattle.set_writer.specs.ImageLaws.{bytes_opened, HoldBytes, View, carriers_in, AreLive, IsCut, AreFirm, AreWhole, HaveFirst, MayOpen, IsOpened, IsLeftNew}
use Rattle.set_writer.specs.PayloadLaws.{item_of}
use Rattle.set_writer.specs.SetReadLaws.{read_in, carried_on}
use Rattle.set_writer.specs.StandLaws.{is_cut, DoesNotStand, StandsOpen, IsLeftBehind, IsLeftOpening, OpeningIsLeft, FirmOpeningIsLeft}
use Rattle.set_writer.proofs.FormedLaws.{same_live}
use Rattle.set_writer.proofs.KeptSets.{told_both}
use Rattle.set_writer.proofs.KeptZones.{no_foot}
use Rattle.set_writer.proofs.OpeningImages.{opening_are, opened_are_set_bytes, fewer_not_ready, array_f, opened_holds, opening_leaves_first}
use Rattle.set_writer.proofs.SetImageRead.{opened_image_is_read}
use Rattle.set_writer.proofs.SetImages.{image_has_first}
use Rattle.set_writer.proofs.StandReads.{fewer_are_firm, firm_heads_are_carriers}
use Rattle.set_writer.proofs.StandSets.{settled_by_cut, few_do_not_stand, opening_ready}
use Rattle.set_writer.proofs.WriterImages.{whole_has_records, firm_held}

-- ---- what is left of a set that is opened

module _ (set' : ℕ) (cuts : List (ℕ × ℕ)) (t formed : Table) (firm : Lengths) (view : View) (first : HaveFirst (bytes_opened (array_of t) set' cuts) formed firm view) (may : MayOpen set' cuts t) (array : array_of formed ≡ array_of t) where
  -- no zone of it has a foot
  none_closed : (carriers : List Carrier) → AllByRecursion (IsCut (bytes_opened (array_of t) set' cuts) formed firm view) carriers → 0 < length carriers → list_all (λ (c : Carrier). has_foot (array_of t) (bytes_at view.held c.place)) carriers ≡ true → ⊥
  none_closed [] cuts_ some feet = absurd (omega (arith, some))
  none_closed (c ∷ carriers) cuts_ some feet =
      let below = subst (λ (a : Array). c.index < a.geometry.k + a.geometry.p) array cuts_.0.below in
      let foot = (and_parts (has_foot (array_of t) (bytes_at view.held c.place)) (list_all (λ (x : Carrier). has_foot (array_of t) (bytes_at view.held x.place)) carriers) feet).0 in
      no_foot (array_of t) set' c.index (opening (array_of t) set' cuts) below (opening_are (array_of t) set' may.together.within may.id may.from may.to cuts may.cuts_are may.kept) (omega arith) cuts_.0.bytes.0
      (ap (has_foot (array_of t)) (sym cuts_.0.bytes.2) ∙ foot)

  isnt_closed : 0 < (read_in view (bytes_opened (array_of t) set' cuts)).carriers → (read_in view (bytes_opened (array_of t) set' cuts)).closed ≡ false
  isnt_closed some = at (read_in view (bytes_opened (array_of t) set' cuts)).closed refl
    where
      at : (b : Bool) → (read_in view (bytes_opened (array_of t) set' cuts)).closed ≡ b → b ≡ false
      at true feet = absurd (none_closed (carriers_in view (bytes_opened (array_of t) set' cuts)) first.cut some feet)
      at false open_ = refl

  falls : stands t.geometry.k (read_in view (bytes_opened (array_of t) set' cuts)) ≡ false → DoesNotStand t.geometry.k (read_in view (bytes_opened (array_of t) set' cuts))
  falls isnt = record {
    stand = isnt;
    settled = λ sets. ap (λ b. b && (is_cut t.geometry.k sets (read_in view (bytes_opened (array_of t) set' cuts)) || (read_in view (bytes_opened (array_of t) set' cuts)).closed)) isnt;
    closed = isnt_closed;
  }

  module _ (enough : t.geometry.k ≤ (read_in view (bytes_opened (array_of t) set' cuts)).carriers) where
    stands_all : length (opening (array_of t) set' cuts) ≤ first.count → StandsOpen t.geometry.k (opening (array_of t) set' cuts) (read_in view (bytes_opened (array_of t) set' cuts))
    stands_all all =
        let k = may.together.within.k_from in
        let open_ = isnt_closed (omega (arith, k, enough)) in
        let records = opened_image_is_read set' cuts t formed firm view first may array enough ∙ ap (map item_of) (take_all first.count (opening (array_of t) set' cuts) all) in
        let stand = and_from _ (list_any is_ready (read_in view (bytes_opened (array_of t) set' cuts)).records) (le-leb t.geometry.k (read_in view (bytes_opened (array_of t) set' cuts)).carriers enough)
        (ap (list_any is_ready) records ∙ opening_ready (array_of t) set' cuts) in
        record {
          stand = stand;
          records = records;
          closed = open_;
          settled = λ sets. settled_by_cut t.geometry.k sets (read_in view (bytes_opened (array_of t) set' cuts)) open_ ∙ ap (λ b. b && is_cut t.geometry.k sets (read_in view (bytes_opened (array_of t) set' cuts))) stand;
        }

    by_count : IsLeftOpening t.geometry.k (opening (array_of t) set' cuts) (read_in view (bytes_opened (array_of t) set' cuts))
    by_count = elim (cases_lt first.count (length (opening (array_of t) set' cuts))) [
      | inl fewer ↦ inl (falls (and_right _ (list_any is_ready (read_in view (bytes_opened (array_of t) set' cuts)).records)
          (fewer_not_ready (array_of t) view.held set' cuts first.count (carriers_in view (bytes_opened (array_of t) set' cuts)) fewer first.agree)))
      | inr all ↦ inr (stands_all all)
    ]

    -- where all is firm it stands
    pub stands_firm : AreFirm (bytes_opened (array_of t) set' cuts) formed view.drives firm (length (opening (array_of t) set' cuts)) → StandsOpen t.geometry.k (opening (array_of t) set' cuts) (read_in view (bytes_opened (array_of t) set' cuts))
    stands_firm firm_of = stands_all (first.least (length (opening (array_of t) set' cuts)) (omega arith) firm_of)

  pub left_opening : IsLeftOpening t.geometry.k (opening (array_of t) set' cuts) (read_in view (bytes_opened (array_of t) set' cuts))
  left_opening = elim (cases_lt (read_in view (bytes_opened (array_of t) set' cuts)).carriers t.geometry.k) [
    | inl few ↦ inl (falls (few_do_not_stand t.geometry.k (read_in view (bytes_opened (array_of t) set' cuts)) [] few).0)
    | inr enough ↦ by_count enough
  ]

pub opening_is_left : OpeningIsLeft
opening_is_left = left_opening

pub firm_opening_is_left : FirmOpeningIsLeft
firm_opening_is_left set' cuts t formed firm view first may array firm_of enough = stands_firm set' cuts t formed firm view first may array enough firm_of

-- ---- behind an opening

-- where it is held, and all of it is firm, on the drives that are seen
pub opened_behind : (set' : ℕ) (cuts : List (ℕ × ℕ)) (t t' : Table) (held : Contents) (firm : Lengths) (view : View) → MayOpen set' cuts t → array_of t' ≡ array_of t → HoldBytes (bytes_opened (array_of t) set' cuts) t' held view.drives → AreWhole (bytes_opened (array_of t) set' cuts) t' view.drives firm → IsLeftBehind t' set' held firm view
    → ((read_in view (bytes_opened (array_of t) set' cuts)).carriers ≡ carried_on t' set' view.drives) × StandsOpen t.geometry.k (opening (array_of t) set' cuts) (read_in view (bytes_opened (array_of t) set' cuts))
opened_behind set' cuts t t' held firm view may array hold whole left =
    let bytes = opened_are_set_bytes set' cuts t may in
    let first = image_has_first (bytes_opened (array_of t) set' cuts) t' held firm view (sym array) bytes hold left.left in
    let all = whole_has_records (bytes_opened (array_of t) set' cuts) t' view.drives firm (sym array) bytes whole in
    let some = bytes.some in
    let carriers = firm_heads_are_carriers (bytes_opened (array_of t) set' cuts) t' firm view first (sym array) left.together left.zones (fewer_are_firm (bytes_opened (array_of t) set' cuts) t' view.drives firm 1 (length (opening (array_of t) set' cuts)) (omega (arith, some)) all) in
    let enough = left.enough in
    let k = ap (λ (a : Array). a.geometry.k) array in
    (carriers, firm_opening_is_left set' cuts t t' firm view first may array all (omega (arith, enough, k, carriers)))

module _ (set' : ℕ) (cuts : List (ℕ × ℕ)) (t t' : Table) (held : Contents) (old new : BayState) (view : View) (is : IsOpened set' cuts t t' held old new) where
  pub opening_stands_or_not : IsLeftNew t set' held old new view → IsLeftOpening t.geometry.k (opening (array_of t) set' cuts) (read_in view (bytes_opened (array_of t) set' cuts))
  opening_stands_or_not left =
      opening_is_left set' cuts t is.opens.formed old.firm view (opening_leaves_first set' cuts t t' held old new is view left).0 is.may (array_f set' cuts t t' held old new is)

  module _ (at : Contents) (told : new.contents ≡ Some at) (left : IsLeftBehind t' set' at new.firm view) where
    array_then : array_of t' ≡ array_of t
    array_then = ap (λ (s : Table). array_of s) is.opens.grows.table ∙ array_f set' cuts t t' held old new is

    live_before : AreLive t view.drives
    live_before d drive = sym (same_live (record t { spare = is.room }) is.opens.formed set' is.opens.members is.opens.forms d) ∙ is.opens.grows.leads.stays_lost d (left.live d drive)

    reach : (d z : ℕ) → is_live t' d ≡ true → at d z ≡ grown_by is.opens.formed (of_members (table.fragments_of is.opens.formed) set' (entries_bytes t.geometry.k (opening (array_of t) set' cuts))) held d z
    reach = told_both held at (λ h a. (d z : ℕ) → is_live t' d ≡ true → a d z ≡ grown_by is.opens.formed (of_members (table.fragments_of is.opens.formed) set' (entries_bytes t.geometry.k (opening (array_of t) set' cuts))) h d z) old.contents new.contents is.opens.grows.whole is.told told

    hold : HoldBytes (bytes_opened (array_of t) set' cuts) t' at view.drives
    hold d z index drive below carries =
        reach d z (left.live d drive)
        ∙ opened_holds set' cuts t t' held old new is view.drives live_before d z index drive (subst (λ (s : Table). index < table.fragments_of s) is.opens.grows.table below) (subst (λ (s : Table). use_at s.zones d z ≡ uses.Carrier set' index) is.opens.grows.table carries)

    pub opened_is_left : ((read_in view (bytes_opened (array_of t) set' cuts)).carriers ≡ carried_on t' set' view.drives) × StandsOpen t.geometry.k (opening (array_of t) set' cuts) (read_in view (bytes_opened (array_of t) set' cuts))
    opened_is_left = opened_behind set' cuts t t' at new.firm view is.may array_then hold (firm_held new (bytes_opened (array_of t) set' cuts) t' at view.drives told hold is.opens.firm left.live) left
