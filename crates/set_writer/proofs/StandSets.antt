-- Whether a writer's set stands in an image, and whether it is settled.
use Rattle.std.proofs.Common.{◌≡◌, inl, inr, ℕ, zero, suc, ◌+◌, ◌<◌, ◌≤◌, Bool, true, false, cond, List, [], ◌++◌, length, map, take, refl, sym, ap, ap₂, ◌∙◌, subst, arith, length-append}
use Rattle.std.specs.Prelude.{◌&&◌, ◌||◌}
use Rattle.std.specs.List.{AllByRecursion, list_any}
use Rattle.std.proofs.lemmas.Bool.{both_ways, le-leb, lt-leb}
use Rattle.std.proofs.lemmas.List.{append-nil, take_all, take_at}
use Rattle.std.proofs.Math.Bool.{or-false}
use Rattle.smore_base.specs.Geometry.{IsWithinLimits}
use Rattle.zone_bay.specs.Contents.{Lengths}
use Rattle.zone_bay.specs.Bay.{BayState}
use Rattle.marker_format.specs.Zone.{Array, has_foot}
use Rattle.array_model.specs.Drives.{bytes_at}
use Rattle.array_model.specs.Record.{is_ready}
use Rattle.array_model.specs.Reading.{Carrier}
use Rattle.array_model.specs.Sets.{ReadSet, stands}
use Rattle.array_model.specs.Enough.{is_settled}
use Rattle.array_model.proofs.SameZones.{all-map}
use Rattle.set_table.specs.Table.{Table}
use Rattle.set_writer.specs.Entry.{Entry}
use Rattle.set_table.specs.Table.{array_of}
use Rattle.set_writer.specs.Writer.{Writer, array_by, written, opening, digest, zone_bytes}
use Rattle.set_writer.specs.Laws.{records_of}
use Rattle.set_writer.specs.ImageLaws.{bytes_by, View, carriers_in, AgreeOn, IsCut, AreFirm, AreWhole, HaveFirst}
use Rattle.set_writer.specs.PayloadLaws.{item_of}
use Rattle.set_writer.specs.SetReadLaws.{read_in, are_ready}
use Rattle.set_writer.specs.StandLaws.{without_digest, is_cut, IsLeftOpen, IsLeftWhole, FewDoNotStand, IsWritten, IsLeftWritten, SetIsLeft, OpenIsLeft, WholeIsLeft, WholeMembersAreLeft, FirmReadyStands, FirmOpeningStands, FirmIsLeft}
use Rattle.set_writer.proofs.ClosingImages.{closed_agree_on_all}
use Rattle.set_writer.proofs.FoundCarriers.{or_right}
use Rattle.set_writer.proofs.SetsRead.{image_is_read, foot_is, all_alike, same_last, opening_is_ready}
use Rattle.set_writer.proofs.StandReads.{fewer_are_firm, firm_heads_are_carriers}
use Rattle.set_writer.proofs.StandRecords.{IsOther, IsOfDigest, others_are, ending_is, first_others, first_ready, ready_still}
use Rattle.set_writer.proofs.WriterImages.{writer_bytes, writer_has_first, whole_has_records, firm_members_have_all}

-- ---- what settles a set

-- One that isn't closed is settled by a cut alone,
pub settled_by_cut : (k : ℕ) (sets : List ReadSet) (s : ReadSet) → s.closed ≡ false → is_settled k sets s ≡ (stands k s && is_cut k sets s)
settled_by_cut k sets s open_ = ap (λ b. stands k s && (is_cut k sets s || b)) open_ ∙ ap (λ b. stands k s && b) (or-false (is_cut k sets s))

-- and one that is closed is where it stands.
settled_closed : (k : ℕ) (sets : List ReadSet) (s : ReadSet) → s.closed ≡ true → is_settled k sets s ≡ stands k s
settled_closed k sets s closed = ap (λ b. stands k s && b) (or_right (is_cut k sets s) s.closed closed) ∙ same_last (stands k s)

pub few_do_not_stand : FewDoNotStand
few_do_not_stand k s sets few =
    let falls : stands k s ≡ false = ap (λ b. b && list_any is_ready s.records) (lt-leb k s.carriers few) in
    (falls, ap (λ b. b && (is_cut k sets s || s.closed)) falls)

-- ---- what is left of a set

module _ (w : Writer) (es : List Entry) (t : Table) (firm : Lengths) (view : View) (is : IsWritten w es t) (enough : t.geometry.k ≤ (read_in view (bytes_by w es)).carriers) where
  within : IsWithinLimits w.geometry
  within = subst (λ (a : Array). IsWithinLimits a.geometry) (sym is.array) is.within

  enough_by : w.geometry.k ≤ (read_in view (bytes_by w es)).carriers
  enough_by = let k = ap (λ (a : Array). a.geometry.k) is.array in omega (arith, enough, k)

  some : 0 < length (carriers_in view (bytes_by w es))
  some = let least = within.k_from in let all = enough_by in omega (arith, least, all)

  others : AllByRecursion IsOther es
  others = let least = within.k_from in others_are (array_by w) w.set 0 0 es (omega (arith, least)) is.wrote.records

  digests : AllByRecursion IsOfDigest (cond w.is_closed (digest (written w w.set es)) [])
  digests = ending_is w.is_closed (written w w.set es)

  -- with so many of its records
  module _ (have : HaveFirst (bytes_by w es) t firm view) where
    records_read : (read_in view (bytes_by w es)).records ≡ map item_of (take have.count (records_of w es))
    records_read = image_is_read w es t firm view have within is.array is.wrote is.bytes enough_by

    others_read : without_digest (read_in view (bytes_by w es)).records ≡ map item_of (take have.count es)
    others_read = ap without_digest records_read ∙ first_others have.count es (cond w.is_closed (digest (written w w.set es)) []) others digests

    pub stand_read : stands t.geometry.k (read_in view (bytes_by w es)) ≡ are_ready (take have.count es)
    stand_read =
        ap₂ (λ a b. a && b) (le-leb t.geometry.k (read_in view (bytes_by w es)).carriers enough)
        (ap (list_any is_ready) records_read ∙ first_ready have.count es (cond w.is_closed (digest (written w w.set es)) []) digests)

    pub left_open : (read_in view (bytes_by w es)).closed ≡ false → IsLeftOpen t.geometry.k (records_of w es) es (AreFirm (bytes_by w es) t view.drives firm) (read_in view (bytes_by w es))
    left_open open_ = record {
      closed = open_;
      count = have.count;
      within = have.within;
      least = have.least;
      records = records_read;
      others = others_read;
      stand = stand_read;
      firm = λ c few firm_of ready.
          stand_read ∙ ready_still c have.count es (have.least c (omega (arith, few, length-append es (cond w.is_closed (digest (written w w.set es)) []))) firm_of) ready;
      settled = λ sets. settled_by_cut t.geometry.k sets (read_in view (bytes_by w es)) open_;
    }

    -- and with all of them
    module _ (all : length (records_of w es) ≤ have.count) (b : Bool) (closed : (read_in view (bytes_by w es)).closed ≡ b) where
      all_others : take have.count es ≡ es
      all_others = take_all have.count es (omega (arith, all, length-append es (cond w.is_closed (digest (written w w.set es)) [])))

      stand_whole : stands t.geometry.k (read_in view (bytes_by w es)) ≡ are_ready es
      stand_whole = stand_read ∙ ap are_ready all_others

      pub left_whole : IsLeftWhole t.geometry.k (records_of w es) es b (read_in view (bytes_by w es))
      left_whole = record {
        closed = closed;
        records = records_read ∙ ap (map item_of) (take_all have.count (records_of w es) all);
        others = others_read ∙ ap (map item_of) all_others;
        stand = stand_whole;
        settled = λ here sets. settled_closed t.geometry.k sets (read_in view (bytes_by w es)) (closed ∙ here) ∙ stand_whole;
        cut = λ here sets. settled_by_cut t.geometry.k sets (read_in view (bytes_by w es)) (closed ∙ here) ∙ ap (λ x. x && is_cut t.geometry.k sets (read_in view (bytes_by w es))) stand_whole;
      }

  module _ (first : HaveFirst (bytes_by w es) t firm view) where
    -- carriers with whole feet have all records
    closed_left : (read_in view (bytes_by w es)).closed ≡ true → (w.is_closed ≡ true) × IsLeftWhole t.geometry.k (records_of w es) es true (read_in view (bytes_by w es))
    closed_left feet =
        let agree = closed_agree_on_all w es t firm view is.wrote is.array first (some, feet) in
        let whole : HaveFirst (bytes_by w es) t firm view = record {
          cut = first.cut;
          count = length (records_of w es);
          within = omega arith;
          agree = subst (AgreeOn (array_by w) view.held (carriers_in view (bytes_by w es))) (sym (take_all (length (records_of w es)) (records_of w es) (omega arith))) agree.1;
          least = λ c few firm_of. few;
          found = first.found;
        } in
        (agree.0, left_whole whole (omega arith) true feet)

    pub set_left : IsLeftWritten w es t firm view
    set_left = at (read_in view (bytes_by w es)).closed refl
      where
        at : (b : Bool) → (read_in view (bytes_by w es)).closed ≡ b → IsLeftWritten w es t firm view
        at true feet = inr (closed_left feet)
        at false open_ = inl (left_open first open_)

    -- where all is firm, each carrier has its foot exactly where the set is closed
    module _ (whole : AreWhole (bytes_by w es) t view.drives firm) where
      foot_there : (c : Carrier) → IsCut (bytes_by w es) t firm view c → has_foot (array_by w) (bytes_at view.held c.place) ≡ w.is_closed
      foot_there c cut =
          let n = ap (λ (a : Array). a.geometry.k + a.geometry.p) is.array in
          let below = cut.below in
          let all = whole c.place.device c.place.zone c.index cut.drive cut.below cut.use_is in
          let reach = cut.bytes.1 in
          ap (has_foot (array_by w)) (cut.bytes.2 ∙ take_all cut.bytes.0 (zone_bytes w es c.index) (omega (arith, all, reach)))
          ∙ foot_is w es c.index (omega (arith, below, n)) is.wrote

      feet_there : (read_in view (bytes_by w es)).closed ≡ w.is_closed
      feet_there =
          all_alike (λ (c : Carrier). has_foot (array_by w) (bytes_at view.held c.place)) w.is_closed (carriers_in view (bytes_by w es)) (let least = some in omega (arith, least))
          (all-map (IsCut (bytes_by w es) t firm view) (λ (c : Carrier). has_foot (array_by w) (bytes_at view.held c.place) ≡ w.is_closed) (carriers_in view (bytes_by w es)) foot_there first.cut)

      pub all_left : IsLeftWhole t.geometry.k (records_of w es) es w.is_closed (read_in view (bytes_by w es))
      all_left =
          left_whole first (first.least (length (records_of w es)) (omega arith) (whole_has_records (bytes_by w es) t view.drives firm is.array (writer_bytes w es is.wrote) whole))
          w.is_closed feet_there

pub set_is_left : SetIsLeft
set_is_left w es t firm view first is enough = set_left w es t firm view is enough first

pub open_is_left : OpenIsLeft
open_is_left w es t firm view first is open_ enough = elim (set_is_left w es t firm view first is enough) [
  | inl there ↦
      subst (λ (all : List Entry). IsLeftOpen t.geometry.k all es (AreFirm (bytes_by w es) t view.drives firm) (read_in view (bytes_by w es)))
      (ap (λ b. es ++ cond b (digest (written w w.set es)) []) open_ ∙ append-nil es) there
  | inr closed ↦ absurd (both_ways w.is_closed open_ closed.0)
]

pub whole_is_left : WholeIsLeft
whole_is_left w es t firm view first is whole enough = all_left w es t firm view is enough first whole

-- ---- where members are seen

pub firm_ready_stands : FirmReadyStands
firm_ready_stands w es t firm view zero first is together zones few firm_of ready enough = absurd (both_ways false refl ready)
firm_ready_stands w es t firm view (suc c) first is together zones few firm_of ready enough =
    let carriers = firm_heads_are_carriers (bytes_by w es) t firm view first is.array together zones (fewer_are_firm (bytes_by w es) t view.drives firm 1 (suc c) (omega arith) firm_of) in
    let more = first.least (suc c) (omega (arith, few, length-append es (cond w.is_closed (digest (written w w.set es)) []))) firm_of in
    stand_read w es t firm view is (omega (arith, enough, carriers)) first ∙ ready_still (suc c) first.count es more ready

pub opening_ready : (array : Array) (set' : ℕ) (cuts : List (ℕ × ℕ)) → are_ready (opening array set' cuts) ≡ true
opening_ready array set' cuts = ap are_ready (sym (append-nil (opening array set' cuts))) ∙ opening_is_ready array set' cuts []

pub firm_opening_stands : FirmOpeningStands
firm_opening_stands w es more cuts t firm view first is together zones begins firm_of enough =
    let long = ap length begins in
    firm_ready_stands w es t firm view (length (opening (array_of t) w.set cuts)) first is together zones (omega (arith, long, length-append (opening (array_of t) w.set cuts) more)) firm_of
    (ap are_ready (ap (take (length (opening (array_of t) w.set cuts))) begins ∙ take_at (opening (array_of t) w.set cuts) more (length (opening (array_of t) w.set cuts)) refl) ∙ opening_ready (array_of t) w.set cuts)
    enough

-- ---- where all is firm

pub whole_members_are_left : WholeMembersAreLeft
whole_members_are_left w es t firm view first is whole together zones enough =
    let bytes = writer_bytes w es is.wrote in
    let all = whole_has_records (bytes_by w es) t view.drives firm is.array bytes whole in
    let some = bytes.some in
    let carriers = firm_heads_are_carriers (bytes_by w es) t firm view first is.array together zones (fewer_are_firm (bytes_by w es) t view.drives firm 1 (length (records_of w es)) (omega (arith, some)) all) in
    (carriers, whole_is_left w es t firm view first is whole (omega (arith, enough, carriers)))

pub firm_is_left : (bay : BayState) → FirmIsLeft bay
firm_is_left bay w es t held view told of_ fits firm left =
    whole_members_are_left w es t bay.firm view (writer_has_first w es t held bay.firm view of_.array fits left.live left.left)
    (record { array = of_.array; within = left.together.within; wrote = fits.wrote; bytes = fits.bytes })
    (firm_members_have_all bay w es t held view.drives told of_.array fits firm left.live) left.together left.zones left.enough
