-- What a crash leaves of a set that is opened.
use Rattle.std.proofs.Common.{◌≡◌, inl, inr, ℕ, suc, ◌+◌, ◌<◌, ◌≤◌, false, List, [], ◌∷◌, ◌++◌, length, take, Some, refl, sym, ap, ap₂, subst, ◌∙◌, arith, length-append}
use Rattle.std.specs.Prelude.{◌||◌, All}
use Rattle.std.specs.List.{AllByRecursion, list_any}
use Rattle.std.proofs.lemmas.Bool.{cases_lt, both_ways}
use Rattle.std.proofs.lemmas.List.{nil_from_length, take_all, take-append-le}
use Rattle.smore_base.specs.Geometry.{IsWithinLimits}
use Rattle.zone_bay.specs.Contents.{Contents, Lengths}
use Rattle.zone_bay.specs.Images.{IsImage}
use Rattle.zone_bay.specs.Bay.{BayState}
use Rattle.marker_format.specs.declared.marker.Marker.{Marker}
use Rattle.marker_format.specs.declared.marker.TheConstants.{COUNTER_END}
use Rattle.marker_format.specs.Kind.{kind_of}
use Rattle.marker_format.specs.Zone.{Array, blocks_of, begun}
use Rattle.array_model.specs.Drives.{first_of}
use Rattle.array_model.specs.Reading.{Carrier, agreed, payload_of, record_by, records_from}
use Rattle.array_model.specs.ReadingLaws.{is_of_set}
use Rattle.array_model.specs.Record.{is_ready}
use Rattle.array_model.proofs.SameZones.{all-take}
use Rattle.set_table.specs.Table.{Table, use_at, is_live, Forms}
use Rattle.set_table.specs.Table as table
use Rattle.set_writer.specs.declared.first.First.TheVariants.{Opens, Keeps, IsReady}
use Rattle.set_writer.specs.Entry.{Entry, at_index, entries_bytes}
use Rattle.set_writer.specs.Members.{of_members, grown_by, HoldBlocks}
use Rattle.set_table.specs.Table.{array_of}
use Rattle.set_writer.specs.Writer.{first_record, cuts_from, headed, opening, AreRecordsFrom}
use Rattle.set_writer.specs.Laws.{markers_at}
use Rattle.set_writer.specs.Calls.{IsCuts}
use Rattle.set_writer.specs.ImageLaws.{bytes_opened, AreSetBytes, HoldBytes, View, carriers_in, AreLive, IsAlone, AgreeOn, HaveFirst, OthersSay, IsNew, IsOpened, IsLeftNew, IsNotReadyOrWhole, MayOpen}
use Rattle.set_writer.proofs.FirstLaws.{first_is_record}
use Rattle.set_writer.proofs.BeganLaws.{can_at}
use Rattle.set_writer.proofs.FormedLaws.{same_live, same_array, formed_hold}
use Rattle.set_writer.proofs.WroteLaws.{member_now, length-entries}
use Rattle.set_writer.proofs.CutZones.{cut_list_has_first}
use Rattle.set_writer.proofs.SetImages.{image_has_first}
use Rattle.set_writer.proofs.OtherSets.{others_say}
use Rattle.set_writer.proofs.WriterImages.{left_toward, alone_grown, grown_extends}

-- ---- the records

module _ (array : Array) (set' : ℕ) (within : IsWithinLimits array.geometry) (id : length array.id ≡ 16) (from : 1 ≤ set') (to : set' < COUNTER_END) where
  -- cuts, and a ready record behind them
  cuts_are : (position : ℕ) (cuts : List (ℕ × ℕ)) → 1 ≤ position → position + length cuts ≤ 33 → All (λ (cut : ℕ × ℕ). (1 ≤ cut.0) × (cut.0 < set')) cuts → All (λ (cut : ℕ × ℕ). cut.1 < 65536) cuts
      → AreRecordsFrom array set' position (cuts_from array set' position cuts ++ first_record array set' (position + length cuts) IsReady ∷ [])
  cuts_are position [] some few targets kept =
      subst (λ n. AreRecordsFrom array set' position (first_record array set' n IsReady ∷ [])) (let e : position ≡ position + 0 = omega arith in e)
      (first_is_record array set' position IsReady (can_at array set' position within id (from, to) (omega (arith, few))) some, tt)
  cuts_are position (cut ∷ cuts) some few targets kept =
      let target = targets 0 cut (omega arith) in (
        first_is_record array set' position (Keeps cut.0 cut.1) (can_at array set' position within id (from, to) (omega (arith, few))) (some, target.0, target.1, kept 0 cut (omega arith)),
        subst (λ n. AreRecordsFrom array set' (position + 1) (cuts_from array set' (position + 1) cuts ++ first_record array set' n IsReady ∷ [])) (let e : position + 1 + length cuts ≡ position + suc (length cuts) = omega arith in e)
            (cuts_are (position + 1) cuts (omega arith) (omega (arith, few)) (λ i d here. targets (suc i) d (omega (arith, here))) (λ i d here. kept (suc i) d (omega (arith, here)))),
      )

  pub opening_are : (cuts : List (ℕ × ℕ)) → IsCuts set' cuts → All (λ (cut : ℕ × ℕ). cut.1 < 65536) cuts → AreRecordsFrom array set' 0 (opening array set' cuts)
  opening_are cuts is kept =
      let few = is.few in (
        first_is_record array set' 0 Opens (can_at array set' 0 within id (from, to) (omega arith)) refl,
        cuts_are 1 cuts (omega arith) (omega (arith, few)) is.targets kept,
      )

  pub opening_bytes : (cuts : List (ℕ × ℕ)) → IsCuts set' cuts → All (λ (cut : ℕ × ℕ). cut.1 < 65536) cuts → AreSetBytes (bytes_opened array set' cuts)
  opening_bytes cuts is kept =
      let are = opening_are cuts is kept in
      record {
        first = λ n index below. cut_list_has_first n array set' index (opening array set' cuts) below are;
        long = λ index below. let l = length-entries array set' 0 array.geometry.k index (opening array set' cuts) refl below are in omega (arith, l);
        some = omega arith;
        head = refl;
      }

pub opened_are_set_bytes : (set' : ℕ) (cuts : List (ℕ × ℕ)) (t : Table) → MayOpen set' cuts t → AreSetBytes (bytes_opened (array_of t) set' cuts)
opened_are_set_bytes set' cuts t may = opening_bytes (array_of t) set' may.together.within may.id may.from may.to cuts may.cuts_are may.kept

-- ---- without the ready record

-- the record of a marker with the entry's kind is no ready record
abbrev pub NotReady : Entry → Type 0
NotReady e = (index : ℕ) (payload : List ℕ) → is_ready (record_by (kind_of e.marker.kind) (at_index index e.marker) payload) ≡ false

cuts_not_ready : (array : Array) (set' position : ℕ) (cuts : List (ℕ × ℕ)) → AllByRecursion NotReady (cuts_from array set' position cuts)
cuts_not_ready array set' position [] = tt
cuts_not_ready array set' position (cut ∷ cuts) = ((λ index payload. refl), cuts_not_ready array set' (position + 1) cuts)

headed_not_ready : (array : Array) (set' : ℕ) (cuts : List (ℕ × ℕ)) → AllByRecursion NotReady (headed array set' cuts)
headed_not_ready array set' cuts = ((λ index payload. refl), cuts_not_ready array set' 1 cuts)

none_ready : (array : Array) (held : Contents) (carriers : List Carrier) (block index : ℕ) (es : List Entry) → AllByRecursion NotReady es → list_any is_ready (records_from array held carriers block (markers_at index es)) ≡ false
none_ready array held carriers block index [] all = refl
none_ready array held carriers block index (e ∷ es) all =
    ap₂ (λ a b. a || b) (all.0 index (payload_of array held carriers block (at_index index e.marker))) (none_ready array held carriers (block + blocks_of (at_index index e.marker)) index es all.1)

-- fewer than all are none of a ready record
pub fewer_not_ready : (array : Array) (held : Contents) (set' : ℕ) (cuts : List (ℕ × ℕ)) (count : ℕ) (carriers : List Carrier) → count < length (opening array set' cuts) → AgreeOn array held carriers (take count (opening array set' cuts))
    → list_any is_ready (records_from array held carriers 0 (agreed array held carriers)) ≡ false
fewer_not_ready array held set' cuts count [] fewer agree = refl
fewer_not_ready array held set' cuts count (first ∷ others) fewer agree =
    let headed_only : take count (opening array set' cuts) ≡ take count (headed array set' cuts) = take-append-le count (headed array set' cuts) (first_record array set' (1 + length cuts) IsReady ∷ []) (omega (arith, fewer, length-append (headed array set' cuts) (first_record array set' (1 + length cuts) IsReady ∷ []))) in
    ap (λ (ms : List Marker). list_any is_ready (records_from array held (first ∷ others) 0 ms)) (agree ∙ ap (markers_at first.index) headed_only)
    ∙ none_ready array held (first ∷ others) 0 first.index (take count (headed array set' cuts)) (all-take NotReady count (headed array set' cuts) (headed_not_ready array set' cuts))

pub not_ready_or_whole : (array : Array) (set' : ℕ) (cuts : List (ℕ × ℕ)) (t : Table) (firm : Lengths) (view : View) → HaveFirst (bytes_opened array set' cuts) t firm view → IsNotReadyOrWhole array set' cuts view
not_ready_or_whole array set' cuts t firm view have = elim (cases_lt have.count (length (opening array set' cuts))) [
  | inl fewer ↦ inl (fewer_not_ready array view.held set' cuts have.count (carriers_in view (bytes_opened array set' cuts)) fewer have.agree)
  | inr all ↦ inr (subst (AgreeOn array view.held (carriers_in view (bytes_opened array set' cuts))) (take_all have.count (opening array set' cuts) all) have.agree)
]

-- ---- the zones

-- a set of which no zone was there is alone, however the table is
pub new_alone : (t : Table) (set' : ℕ) (held : Contents) (drives : List ℕ) → IsNew (array_of t) set' held drives → IsAlone t set' held drives
new_alone t set' held drives none d z drive from begins = absurd (both_ways _ (none d z drive from) begins)

module _ (set' : ℕ) (cuts : List (ℕ × ℕ)) (t t' : Table) (held : Contents) (old new : BayState) (is : IsOpened set' cuts t t' held old new) where
  pub array_f : array_of is.opens.formed ≡ array_of t
  array_f = same_array (record t { spare = is.room }) is.opens.formed set' is.opens.members is.opens.forms

  pub live_f : (drives : List ℕ) → AreLive t drives → AreLive is.opens.formed drives
  live_f drives live d drive = same_live (record t { spare = is.room }) is.opens.formed set' is.opens.members is.opens.forms d ∙ live d drive

  pub opened_bytes : AreSetBytes (bytes_opened (array_of t) set' cuts)
  opened_bytes = opened_are_set_bytes set' cuts t is.may

  empty_before : HoldBlocks is.opens.formed set' 0 held
  empty_before = formed_hold (record t { spare = is.room }) is.opens.formed set' is.opens.members (Some held) is.may.together.listed is.may.absent is.opens.forms is.empty

  abbrev goal : Contents
  goal = grown_by is.opens.formed (of_members (table.fragments_of is.opens.formed) set' (entries_bytes t.geometry.k (opening (array_of t) set' cuts))) held

  pub opened_holds : (drives : List ℕ) → AreLive t drives → HoldBytes (bytes_opened (array_of t) set' cuts) is.opens.formed (grown_by is.opens.formed (of_members (table.fragments_of is.opens.formed) set' (entries_bytes t.geometry.k (opening (array_of t) set' cuts))) held) drives
  opened_holds drives live d z index drive below carries =
      let lives = live_f drives live d drive in
      member_now is.opens.formed is.opens.formed set' (entries_bytes t.geometry.k (opening (array_of t) set' cuts)) held goal d z index refl below lives carries refl
      ∙ ap (λ (l : List ℕ). l ++ entries_bytes t.geometry.k (opening (array_of t) set' cuts) index) (nil_from_length (held d z) (let l = empty_before d z index below lives carries in omega (arith, l)))

  module _ (view : View) (left : IsLeftNew t set' held old new view) where
    image : IsImage goal old.firm view.held
    image = left_toward (grown_by is.opens.formed (of_members (table.fragments_of is.opens.formed) set' (entries_bytes t.geometry.k (opening (array_of t) set' cuts)))) is.opens.formed t' held old new view.held is.sound is.told (grown_extends is.opens.formed set' (entries_bytes t.geometry.k (opening (array_of t) set' cuts)) held) is.opens.grows.leads left.left

    alone : IsAlone is.opens.formed set' goal view.drives
    alone = alone_grown is.opens.formed set' (entries_bytes t.geometry.k (opening (array_of t) set' cuts)) held view.drives
        (new_alone is.opens.formed set' held view.drives (λ d z drive from. ap (λ (a : Array). is_of_set set' (first_of (begun a (held d z)))) array_f ∙ left.new_set d z drive from))

    opened_first : HaveFirst (bytes_opened (array_of t) set' cuts) is.opens.formed old.firm view
    opened_first = image_has_first (bytes_opened (array_of t) set' cuts) is.opens.formed goal old.firm view (sym array_f) opened_bytes (opened_holds view.drives left.live) (record { image = image; alone = alone })

    pub opening_leaves_first : HaveFirst (bytes_opened (array_of t) set' cuts) is.opens.formed old.firm view × IsNotReadyOrWhole (array_of t) set' cuts view × OthersSay is.opens.formed set' held old.firm view
    opening_leaves_first = (
      opened_first,
      not_ready_or_whole (array_of t) set' cuts is.opens.formed old.firm view opened_first,
      others_say (bytes_opened (array_of t) set' cuts) is.opens.formed (entries_bytes t.geometry.k (opening (array_of t) set' cuts)) held old.firm view (sym array_f) opened_bytes (opened_holds view.drives left.live) image,
    )
