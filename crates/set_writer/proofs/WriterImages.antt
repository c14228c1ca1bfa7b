-- What a crash leaves of the set that a writer wrote, where it appends a record or flushes.
use Rattle.std.proofs.Common.{◌≡◌, inl, inr, ℕ, zero, suc, ◌+◌, ◌*◌, ◌<◌, ◌≤◌, Bool, true, false, cond, List, [], ◌∷◌, ◌++◌, length, take, Option, Some, None, IfSome, refl, sym, ap, subst, ◌∙◌, arith, length-append}
use Rattle.std.specs.Prelude.{option_map, ◌==◌, nat_lt}
use Rattle.std.proofs.lemmas.Bool.{and_from, eq-eqb, lt-ltb}
use Rattle.std.proofs.lemmas.List.{append-nil, take_all, take-append-le}
use Rattle.rs_code.specs.Coded.{CodedPayload}
use Rattle.zone_bay.specs.Contents.{Contents, Lengths, Extends}
use Rattle.zone_bay.specs.Images.{IsImage, ImageOf, Between, During, LeftSince}
use Rattle.zone_bay.specs.Bay.{BayState, IsSound, IsImageNow}
use Rattle.zone_bay.proofs.Extends.{extends_itself}
use Rattle.zone_bay.proofs.Images.{more_leaves_more}
use Rattle.marker_format.specs.declared.marker.Marker.{Marker}
use Rattle.marker_format.specs.Zone.{Array, begun, has_foot}
use Rattle.array_model.specs.Drives.{is_among, first_of, bytes_at}
use Rattle.array_model.specs.ReadingLaws.{is_of_set}
use Rattle.array_model.specs.Reading.{Carrier, are_closed}
use Rattle.array_model.proofs.SameZones.{all-map}
use Rattle.std.specs.List.{AllByRecursion}
use Rattle.set_table.specs.declared.zone_use.ZoneUse.TheVariants as uses
use Rattle.set_table.specs.Table.{Table, use_at, is_live}
use Rattle.set_table.specs.Table as table
use Rattle.set_writer.specs.Entry.{Entry, entry_for, entry_bytes}
use Rattle.set_writer.specs.Members.{of_members, more_at, grown_by, is_member, HasZone, Leads, Grows, Flushes, MembersFirm}
use Rattle.set_table.specs.Table.{array_of}
use Rattle.set_writer.specs.Writer.{Writer, array_by, behind, closed, written, digest, blocks_in, zone_bytes, IsRecordAt, AreRecordsFrom, Wrote, Fits}
use Rattle.set_writer.specs.Calls.{IsOf}
use Rattle.set_writer.specs.Laws.{records_of}
use Rattle.set_writer.specs.ImageLaws.{SetBytes, bytes_by, FirstIsOf, AreSetBytes, HoldBytes, View, carriers_in, AreLive, IsMember, IsAlone, IsCrashView, AgreeOn, HaveFirst, OthersSay, IsLeftSince, Appends, HaveAll, AreFirm, AreWhole, IsCut, IsFlushed}
use Rattle.set_writer.proofs.WroteLaws.{appended_is_record, entry_same, fits_some, wrote_more, member_now, entries-more, zone_open, length-entries}
use Rattle.set_writer.proofs.ClosedZones.{closed_zone}
use Rattle.set_writer.proofs.BeganLaws.{firm_after}
use Rattle.set_writer.proofs.CutZones.{end_from-blocks, cut_zone_has_those}
use Rattle.set_writer.proofs.SetImages.{image_has_first}
use Rattle.set_writer.proofs.OtherSets.{member_is, none_more, others_say}

-- ---- what a writer wrote

module _ (w : Writer) (es : List Entry) (wrote : Wrote w es) where
  long_zone : (index : ℕ) → index < w.geometry.k + w.geometry.p → 512 * blocks_in (records_of w es) ≤ length (zone_bytes w es index)
  long_zone index below = at w.is_closed refl
    where
      at : (b : Bool) → w.is_closed ≡ b → 512 * blocks_in (es ++ cond b (digest (written w w.set es)) []) ≤ length (zone_bytes w es index)
      at true is = let long = (closed_zone w es index below is wrote).3 in omega (arith, long, end_from-blocks index 0 (es ++ digest (written w w.set es)))
      at false is =
          let long = ap length (zone_open w es index is) in
          let here = length-entries (array_by w) w.set 0 w.geometry.k index es refl below wrote.records in
          let nothing = ap (λ (l : List Entry). blocks_in l) (append-nil es) in
          omega (arith, long, here, nothing)

  head_is_of : (l more : List Entry) → 0 < length l → AreRecordsFrom (array_by w) w.set 0 l → FirstIsOf w.set (l ++ more)
  head_is_of [] more some are = absurd (omega (arith, some))
  head_is_of (e ∷ l) more some are = are.0.set_is

  pub writer_bytes : AreSetBytes (bytes_by w es)
  writer_bytes = record {
    first = λ n index below. cut_zone_has_those w es index below wrote n;
    long = long_zone;
    some = let s = wrote.some in omega (arith, s, length-append es (cond w.is_closed (digest (written w w.set es)) []));
    head = head_is_of es (cond w.is_closed (digest (written w w.set es)) []) wrote.some wrote.records;
  }

-- and the live drives hold just that
pub writer_holds : (w : Writer) (es : List Entry) (t : Table) (held : Contents) (drives : List ℕ) → Fits w es t held → AreLive t drives → HoldBytes (bytes_by w es) t held drives
writer_holds w es t held drives fits live d z index drive below is = fits.members d z index below (live d drive) is

pub writer_has_first : (w : Writer) (es : List Entry) (t : Table) (held : Contents) (firm : Lengths) (view : View) → array_by w ≡ array_of t → Fits w es t held → AreLive t view.drives → IsCrashView t w.set held firm view → HaveFirst (bytes_by w es) t firm view
writer_has_first w es t held firm view array fits live left = image_has_first (bytes_by w es) t held firm view array (writer_bytes w es fits.wrote) (writer_holds w es t held view.drives fits live) left

-- ---- crashes since a call

pub now_is : (o : Option Contents) (held : Contents) (firm : Lengths) (image : Contents) → o ≡ Some held → ImageOf o firm image → IsImage held firm image
now_is o held firm image told is = subst (λ (p : Option Contents). ImageOf p firm image) told is

-- what crashes since now may have left is an image of what is held
pub left_now : (bay : BayState) (image : Contents) → IsSound bay → LeftSince bay.left bay.moment image → IsImageNow bay image
left_now bay image sound (Between m, since, left) =
    let no_later = sound.none_later (Between m) image left in
    sound.only_now image (subst (λ n. bay.left (Between n) image) (let e : m ≡ bay.moment = omega (arith, since, no_later) in e) left)
left_now bay image sound (During m, since, left) =
    let no_later = sound.none_later (During m) image left in
    absurd (sound.none_yet image (subst (λ n. bay.left (During n) image) (let e : m ≡ bay.moment = omega (arith, since, no_later) in e) left))

-- Calls that led toward a goal leave images of it,
pub left_toward : (goal : Contents → Contents) (t t' : Table) (held : Contents) (old new : BayState) (image : Contents) → IsSound old → old.contents ≡ Some held → Extends held (goal held) → Leads goal t t' old new → LeftSince new.left old.moment image → IsImage (goal held) old.firm image
left_toward goal t t' held old new image sound told extends leads (i, since, left) = elim (leads.toward.goes_on.left i image left) [
  | inl was ↦ more_leaves_more held (goal held) old.firm image (subst (λ (o : Option Contents). IfSome o (λ h. (d z : ℕ) → old.firm d z ≤ length (h d z))) told sound.firm_held) extends (now_is old.contents held old.firm image told (left_now old image sound (i, since, was)))
  | inr new_one ↦ now_is (option_map goal old.contents) (goal held) old.firm image (ap (option_map goal) told) new_one.1
]

-- and where bytes come to the set's zones alone, the set stays alone.
pub alone_grown : (t : Table) (set' : ℕ) (m : ℕ → List ℕ) (held : Contents) (drives : List ℕ) → IsAlone t set' held drives → IsAlone t set' (grown_by t (of_members (table.fragments_of t) set' m) held) drives
alone_grown t set' m held drives alone d z drive from begins = at (is_member (table.fragments_of t) set' (use_at t.zones d z)) refl
  where
    at : (b : Bool) → is_member (table.fragments_of t) set' (use_at t.zones d z) ≡ b → IsMember t set' d z
    at true is = member_is (table.fragments_of t) set' (use_at t.zones d z) is
    at false absent =
        let same : grown_by t (of_members (table.fragments_of t) set' m) held d z ≡ held d z = ap (λ (l : List ℕ). held d z ++ l) (none_more t set' m d z absent) ∙ append-nil (held d z) in
        alone d z drive from (ap (λ (l : List ℕ). is_of_set set' (first_of (begun (array_of t) l))) (sym same) ∙ begins)

pub grown_extends : (t : Table) (set' : ℕ) (m : ℕ → List ℕ) (held : Contents) → Extends held (grown_by t (of_members (table.fragments_of t) set' m) held)
grown_extends t set' m held d z = (more_at t (of_members (table.fragments_of t) set' m) d z, refl)

-- ---- a record more

module _ (w : Writer) (es : List Entry) (m : Marker) (body : CodedPayload) (t t' : Table) (held : Contents) (old new : BayState) (appends : Appends w es m body t t' held old new) where
  is_record : IsRecordAt (array_by w) w.set w.records (entry_for m body.payload)
  is_record = appended_is_record w m body (fits_some w es appends.open_ appends.fits.wrote) appends.is

  pub appended_bytes : AreSetBytes (bytes_by (behind w m) (es ++ entry_for m body.payload ∷ []))
  appended_bytes = writer_bytes (behind w m) (es ++ entry_for m body.payload ∷ []) (wrote_more w es (entry_for m body.payload) t t appends.open_ is_record appends.fits.wrote)

  pub appended_holds : (drives : List ℕ) → AreLive t drives → HoldBytes (bytes_by (behind w m) (es ++ entry_for m body.payload ∷ [])) t (grown_by t (of_members (table.fragments_of t) w.set (entry_bytes w.geometry.k (entry_for m body.payload))) held) drives
  appended_holds drives live d z index drive below is =
      member_now t t w.set (entry_bytes w.geometry.k (entry_for m body.payload)) held (grown_by t (of_members (table.fragments_of t) w.set (entry_bytes w.geometry.k (entry_for m body.payload))) held) d z index refl below (live d drive) is refl
      ∙ ap (λ (l : List ℕ). l ++ entry_bytes w.geometry.k (entry_for m body.payload) index) (appends.fits.members d z index below (live d drive) is ∙ zone_open w es index appends.open_)
      ∙ sym (entries-more w.geometry.k es (entry_for m body.payload) index)
      ∙ sym (zone_open (behind w m) (es ++ entry_for m body.payload ∷ []) index appends.open_)

  pub appended_grows : Grows w.set (entry_bytes w.geometry.k (entry_for m body.payload)) t t' old new
  appended_grows = subst (λ (f : ℕ → List ℕ). Grows w.set f t t' old new) (entry_same w.geometry.k m body.payload) appends.spread.grows

  module _ (view : View) (left : IsLeftSince t w.set held old new view) where
    image : IsImage (grown_by t (of_members (table.fragments_of t) w.set (entry_bytes w.geometry.k (entry_for m body.payload))) held) old.firm view.held
    image = left_toward (grown_by t (of_members (table.fragments_of t) w.set (entry_bytes w.geometry.k (entry_for m body.payload)))) t t' held old new view.held appends.sound appends.told (grown_extends t w.set (entry_bytes w.geometry.k (entry_for m body.payload)) held) appended_grows.leads left.left

    pub append_leaves_first : HaveFirst (bytes_by (behind w m) (es ++ entry_for m body.payload ∷ [])) t old.firm view × OthersSay t w.set held old.firm view
    append_leaves_first = (
      image_has_first (bytes_by (behind w m) (es ++ entry_for m body.payload ∷ [])) t _ old.firm view appends.of.array appended_bytes (appended_holds view.drives left.live)
          (record { image = image; alone = alone_grown t w.set (entry_bytes w.geometry.k (entry_for m body.payload)) held view.drives left.alone }),
      others_say (bytes_by (behind w m) (es ++ entry_for m body.payload ∷ [])) t (entry_bytes w.geometry.k (entry_for m body.payload)) held old.firm view appends.of.array appended_bytes (appended_holds view.drives left.live) image,
    )

-- ---- all of it

-- the first of some records take no more blocks than all
pub first_blocks : (c : ℕ) (es : List Entry) → blocks_in (take c es) ≤ blocks_in es
first_blocks zero es = omega arith
first_blocks (suc c) [] = omega arith
first_blocks (suc c) (e ∷ es) = let rest = first_blocks c es in omega (arith, rest)

pub whole_has_records : (s : SetBytes) (t : Table) (drives : List ℕ) (firm : Lengths) → s.array ≡ array_of t → AreSetBytes s → AreWhole s t drives firm → AreFirm s t drives firm (length s.records)
whole_has_records s t drives firm array are whole d z index drive below is =
    let c = ap (λ (a : Array). a.geometry.k + a.geometry.p) array in
    let all = whole d z index drive below is in
    let least = are.long index (omega (arith, below, c)) in
    let most = first_blocks (length s.records) s.records in
    omega (arith, all, least, most)

-- Where all that was written is firm, a crash leaves it.
module _ (s : SetBytes) (t : Table) (held : Contents) (firm : Lengths) (view : View) (array : s.array ≡ array_of t) (are : AreSetBytes s) (hold : HoldBytes s t held view.drives) (whole : AreWhole s t view.drives firm) (left : IsCrashView t s.set held firm view) where
  first : HaveFirst s t firm view
  first = image_has_first s t held firm view array are hold left

  all_firm : AreFirm s t view.drives firm (length s.records)
  all_firm = whole_has_records s t view.drives firm array are whole

  -- a prefix with all the firm bytes
  all_there : (n : ℕ) (bytes : List ℕ) → length bytes ≤ n → take n bytes ≡ bytes
  all_there n bytes enough = take_all n bytes enough

  member_whole : (d z index : ℕ) → is_among view.drives d ≡ true → index < table.fragments_of t → use_at t.zones d z ≡ uses.Carrier s.set index → view.held d z ≡ s.zone index
  member_whole d z index drive below is =
      let part = left.image d z in
      let all = whole d z index drive below is in
      let enough = part.1 in
      part.2 ∙ ap (take part.0) (hold d z index drive below is) ∙ take_all part.0 (s.zone index) (omega (arith, all, enough))

  pub have_all : HaveAll s t view
  have_all = record {
    members = member_whole;
    carriers = all-map (IsCut s t firm view) (λ (c : Carrier). (c.index < table.fragments_of t) × (bytes_at view.held c.place ≡ s.zone c.index)) (carriers_in view s) (λ c cut. (cut.below, member_whole c.place.device c.place.zone c.index cut.drive cut.below cut.use_is)) first.cut;
    agree = subst (AgreeOn s.array view.held (carriers_in view s)) (take_all first.count s.records (first.least (length s.records) (omega arith) all_firm)) first.agree;
    found = λ d z index seen. first.found d z index seen (let most = first_blocks 1 s.records in let l = all_firm d z index seen.drive seen.below seen.use_is in let all = ap (λ (l : List Entry). blocks_in l) (take_all (length s.records) s.records (omega arith)) in omega (arith, most, l, all));
  }

-- a closed set's carriers have their feet then
feet_of : (w : Writer) (es : List Entry) (t : Table) (held : Contents) (carriers : List Carrier) → w.is_closed ≡ true → Wrote w es → array_by w ≡ array_of t → AllByRecursion (λ (c : Carrier). (c.index < table.fragments_of t) × (bytes_at held c.place ≡ zone_bytes w es c.index)) carriers → are_closed (array_by w) held carriers ≡ true
feet_of w es t held [] closed_ wrote array all = refl
feet_of w es t held (c ∷ carriers) closed_ wrote array all =
    let count = ap (λ (a : Array). a.geometry.k + a.geometry.p) array in
    let below = all.0.0 in
    and_from (has_foot (array_by w) (bytes_at held c.place)) _
    (ap (has_foot (array_by w)) all.0.1 ∙ (closed_zone w es c.index (omega (arith, below, count)) closed_ wrote).1)
    (feet_of w es t held carriers closed_ wrote array all.1)

pub closed_has_feet : (w : Writer) (es : List Entry) (t : Table) (view : View) → w.is_closed ≡ true → Wrote w es → array_by w ≡ array_of t → HaveAll (bytes_by w es) t view → are_closed (array_by w) view.held (carriers_in view (bytes_by w es)) ≡ true
closed_has_feet w es t view closed_ wrote array have = feet_of w es t view.held (carriers_in view (bytes_by w es)) closed_ wrote array have.carriers

pub own_member : (count set' index : ℕ) → index < count → is_member count set' (uses.Carrier set' index) ≡ true
own_member count set' index below = and_from (set' == set') (nat_lt index count) (eq-eqb set' set' refl) (lt-ltb index count below)

-- what is firm where all that the members hold is
firm_there : (set' : ℕ) (t : Table) (bay : BayState) (held : Contents) (o : Option Contents) → o ≡ Some held → IfSome o (λ at. (d z : ℕ) → HasZone (is_member (table.fragments_of t) set') t d → bay.firm d z ≡ length (at d z)) → (d z : ℕ) → HasZone (is_member (table.fragments_of t) set') t d → length (held d z) ≤ bay.firm d z
firm_there set' t bay held None is firm = absurd cc
firm_there set' t bay held (Some at) is firm = λ d z has.
    let same : at ≡ held = cc in
    let all = firm d z has in
    let long = ap (λ (c : Contents). length (c d z)) same in
    omega (arith, all, long)

-- what was written is firm on members of which all is
pub firm_held : (bay : BayState) (s : SetBytes) (t : Table) (held : Contents) (drives : List ℕ) → bay.contents ≡ Some held → HoldBytes s t held drives → MembersFirm s.set t bay → AreLive t drives → AreWhole s t drives bay.firm
firm_held bay s t held drives told hold firm live d z index drive below is =
    let whole = firm_there s.set t bay held bay.contents told firm d z (record { live = live d drive; zone = z; passes = ap (is_member (table.fragments_of t) s.set) is ∙ own_member (table.fragments_of t) s.set index below }) in
    let holds = ap length (hold d z index drive below is) in
    omega (arith, whole, holds)

pub firm_members_have_all : (bay : BayState) (w : Writer) (es : List Entry) (t : Table) (held : Contents) (drives : List ℕ) → bay.contents ≡ Some held → array_by w ≡ array_of t → Fits w es t held → MembersFirm w.set t bay → AreLive t drives
    → AreWhole (bytes_by w es) t drives bay.firm
firm_members_have_all bay w es t held drives told array fits firm live = firm_held bay (bytes_by w es) t held drives told (writer_holds w es t held drives fits live) firm live

pub flush_leaves_first : (w : Writer) (es : List Entry) (t t' : Table) (held : Contents) (old new : BayState) (view : View) → IsFlushed w es t t' held old new → IsLeftSince t w.set held old new view → IsImage held old.firm view.held × HaveFirst (bytes_by w es) t old.firm view
flush_leaves_first w es t t' held old new view is left =
    let image = left_toward (λ h. h) t t' held old new view.held is.sound is.told (extends_itself held) is.flushed.leads left.left in
    (image, writer_has_first w es t held old.firm view is.of.array is.fits left.live (record { image = image; alone = left.alone }))

pub flush_keeps_all : (w : Writer) (es : List Entry) (t t' : Table) (held : Contents) (old new : BayState) (view : View) → IsSound new → new.contents ≡ Some held → IsOf w t' new → Fits w es t' held → Flushes w.set t t' old new → IsLeftSince t' w.set held new new view → HaveAll (bytes_by w es) t' view
flush_keeps_all w es t t' held old new view sound told of_ fits flushed left =
    have_all (bytes_by w es) t' held new.firm view of_.array (writer_bytes w es fits.wrote) (writer_holds w es t' held view.drives fits left.live)
    (firm_members_have_all new w es t' held view.drives told of_.array fits (firm_after w.set t t' old new flushed) left.live)
    (record { image = now_is new.contents held new.firm view.held told (left_now new view.held sound left.left); alone = left.alone })

-- ---- what stays firm

-- the first of a list are those of a longer one
take_longer : (count : ℕ) (es more : List Entry) → count ≤ length es → take count (es ++ more) ≡ take count es
take_longer count es more few = take-append-le count es more few

pub firm_is_of_grown : (w : Writer) (es : List Entry) (m : Marker) (payload : List ℕ) (t : Table) (firm : Lengths) (drives : List ℕ) (count : ℕ) → count ≤ length es → AreFirm (bytes_by w es) t drives firm count
    → AreFirm (bytes_by (behind w m) (es ++ entry_for m payload ∷ [])) t drives firm count
firm_is_of_grown w es m payload t firm drives count few is d z index drive below carries =
    let was = is d z index drive below carries in
    let before = ap (λ (l : List Entry). blocks_in l) (take_longer count es (cond w.is_closed (digest (written w w.set es)) []) few) in
    let then = ap (λ (l : List Entry). blocks_in l) (take_longer count (es ++ entry_for m payload ∷ []) (cond w.is_closed (digest (written (behind w m) w.set (es ++ entry_for m payload ∷ []))) []) (omega (arith, few, length-append es (entry_for m payload ∷ [])))) in
    let both = ap (λ (l : List Entry). blocks_in l) (take_longer count es (entry_for m payload ∷ []) few) in
    omega (arith, was, before, then, both)

pub append_keeps_firm : (w : Writer) (es : List Entry) (m : Marker) (body : CodedPayload) (t t' : Table) (held : Contents) (old new : BayState) (drives : List ℕ) (count : ℕ) → Appends w es m body t t' held old new → count ≤ length es → AreFirm (bytes_by w es) t drives old.firm count
    → AreFirm (bytes_by (behind w m) (es ++ entry_for m body.payload ∷ [])) t' drives new.firm count
append_keeps_firm w es m body t t' held old new drives count appends few firm d z index drive below is =
    let same : t' ≡ record t { lost = t'.lost } = appends.spread.grows.table in
    let was = firm_is_of_grown w es m body.payload t old.firm drives count few firm d z index drive (subst (λ (s : Table). index < table.fragments_of s) same below) (subst (λ (s : Table). use_at s.zones d z ≡ uses.Carrier w.set index) same is) in
    let now = ap (λ (f : ℕ → ℕ → ℕ). f d z) appends.spread.firm in
    omega (arith, was, now)

pub firm_is_of_closed : (w : Writer) (es : List Entry) (t : Table) (firm : Lengths) (drives : List ℕ) (count : ℕ) → count ≤ length es → AreFirm (bytes_by w es) t drives firm count → AreFirm (bytes_by (closed w) es) t drives firm count
firm_is_of_closed w es t firm drives count few is d z index drive below carries =
    let was = is d z index drive below carries in
    let before = ap (λ (l : List Entry). blocks_in l) (take_longer count es (cond w.is_closed (digest (written w w.set es)) []) few) in
    let then = ap (λ (l : List Entry). blocks_in l) (take_longer count es (digest (written (closed w) w.set es)) few) in
    omega (arith, was, before, then)
