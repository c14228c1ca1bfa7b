-- What the plain scan reads of a set.
use Rattle.std.proofs.Common.{◌≡◌, ℕ, ◌+◌, ◌*◌, ◌<◌, ◌≤◌, Bool, true, false, List, [], ◌∷◌, ◌++◌, length, map, take, Option, Some, IfSome, is_some, refl, sym, ap, ap₂, ◌∙◌, subst, arith}
use Rattle.std.specs.Prelude.{◌&&◌, ◌||◌}
use Rattle.std.specs.List.{AllByRecursion, list_all, list_any}
use Rattle.std.proofs.lemmas.Bool.{and_from, both_ways, le-leb}
use Rattle.std.proofs.lemmas.List.{map-append, take_all}
use Rattle.std.proofs.lemmas.List.Folds.{list_any-append}
use Rattle.smore_base.specs.Geometry.{IsWithinLimits}
use Rattle.zone_bay.specs.Contents.{Shape, Contents, Lengths}
use Rattle.zone_bay.specs.Bay.{BayState}
use Rattle.marker_format.specs.Zone.{Array, has_foot}
use Rattle.array_model.specs.Drives.{is_among, bytes_at}
use Rattle.array_model.specs.Record.{Record, is_ready}
use Rattle.array_model.specs.Reading.{Carrier}
use Rattle.array_model.specs.Enough.{is_settled}
use Rattle.array_model.specs.Sets.{ReadSet, stands, valid, kept_by}
use Rattle.array_model.proofs.SameZones.{all-map}
use Rattle.set_table.specs.declared.zone_use.ZoneUse.TheVariants as uses
use Rattle.set_table.specs.Table.{Table, use_at}
use Rattle.set_table.specs.Table as table
use Rattle.set_writer.specs.declared.first.First.TheVariants.{IsReady}
use Rattle.set_writer.specs.Entry.{Entry, HasBytes}
use Rattle.set_writer.specs.Writer.{Writer, array_by, first_record, headed, opening, blocks_in, zone_bytes, Wrote, Fits}
use Rattle.set_writer.specs.Laws.{markers_at, records_of}
use Rattle.set_writer.specs.ImageLaws.{bytes_by, View, carriers_in, IsCut, HaveFirst}
use Rattle.set_writer.specs.PayloadLaws.{item_of, ListsRecords}
use Rattle.set_writer.specs.SetReadLaws.{read_in, AreRead, ImageIsRead, ImageHasPayloads, carried_on, Holds, IsRead, are_ready, OpeningIsReady, CallsHold}
use Rattle.set_writer.proofs.ClosedZones.{closed_zone}
use Rattle.set_writer.proofs.CutRead.{records_are_coded, zone_begins}
use Rattle.set_writer.proofs.CutZones.{foot_is_whole}
use Rattle.set_writer.proofs.DigestRead.{digest_lists_records}
use Rattle.set_writer.proofs.FoundCarriers.{or_right}
use Rattle.set_writer.proofs.SetImageRead.{set_image_is_read, set_image_has_payloads}
use Rattle.set_writer.proofs.StandReads.{firm_heads_are_carriers}
use Rattle.set_writer.proofs.WriterImages.{first_blocks, writer_bytes, writer_has_first}

-- ---- images

written_read : (w : Writer) (es : List Entry) → IsWithinLimits w.geometry → Wrote w es → AllByRecursion HasBytes es → AreRead (bytes_by w es)
written_read w es within wrote bytes = record { within = within; coded = records_are_coded w es wrote bytes; zones = λ index below. zone_begins w es index }

pub image_is_read : ImageIsRead
image_is_read w es t firm view first within array wrote bytes =
    set_image_is_read (bytes_by w es) t firm view first array (writer_bytes w es wrote) (written_read w es within wrote bytes)

pub image_has_payloads : ImageHasPayloads
image_has_payloads w es t firm view first within array wrote bytes =
    set_image_has_payloads (bytes_by w es) t firm view first array (writer_bytes w es wrote) (written_read w es within wrote bytes)

-- ---- feet and ready records

-- a whole zone has a foot where the set is closed
pub foot_is : (w : Writer) (es : List Entry) (index : ℕ) → index < w.geometry.k + w.geometry.p → Wrote w es → has_foot (array_by w) (zone_bytes w es index) ≡ w.is_closed
foot_is w es index below wrote = at (has_foot (array_by w) (zone_bytes w es index)) w.is_closed refl refl
  where
    zone : List ℕ
    zone = zone_bytes w es index

    at : (a b : Bool) → has_foot (array_by w) (zone_bytes w es index) ≡ a → w.is_closed ≡ b → a ≡ b
    at true true has closed = refl
    at false false has open_ = refl
    at true false has open_ = absurd (both_ways w.is_closed open_ (foot_is_whole (length (zone_bytes w es index)) w es index below wrote (ap (has_foot (array_by w)) (take_all (length (zone_bytes w es index)) (zone_bytes w es index) (omega arith)) ∙ has)).0)
    at false true none closed = absurd (both_ways (has_foot (array_by w) (zone_bytes w es index)) none (closed_zone w es index below closed wrote).1)

same_twice : (b : Bool) → (b && b) ≡ b
same_twice true = refl
same_twice false = refl

pub same_last : (b : Bool) → (b && true) ≡ b
same_last true = refl
same_last false = refl

pub all_alike : (f : Carrier → Bool) (b : Bool) (cs : List Carrier) → 1 ≤ length cs → AllByRecursion (λ c. f c ≡ b) cs → list_all f cs ≡ b
all_alike f b [] some all = absurd (omega (arith, some))
all_alike f b (c ∷ []) some all = ap (λ x. x && true) all.0 ∙ same_last b
all_alike f b (c ∷ d ∷ cs) some all = ap₂ (λ x y. x && y) all.0 (all_alike f b (d ∷ cs) (omega arith) all.1) ∙ same_twice b

more_ready : (es more : List Entry) → are_ready es ≡ true → are_ready (es ++ more) ≡ true
more_ready es more ready = ap (list_any is_ready) (map-append item_of es more) ∙ list_any-append is_ready (map item_of es) (map item_of more) ∙ ap (λ b. b || list_any is_ready (map item_of more)) ready

pub opening_is_ready : OpeningIsReady
opening_is_ready array set' cuts more =
    let last = first_record array set' (1 + length cuts) IsReady in
    let front = headed array set' cuts in
    more_ready (opening array set' cuts) more
    (ap (list_any is_ready) (map-append item_of (headed array set' cuts) (last ∷ []))
    ∙ list_any-append is_ready (map item_of (headed array set' cuts)) (map item_of (last ∷ []))
    ∙ or_right (list_any is_ready (map item_of (headed array set' cuts))) (list_any is_ready (map item_of (last ∷ []))) refl)

-- ---- what drives hold

-- all that they hold, as it is firm
abbrev pub all_of : View → Lengths
all_of view d z = length (view.held d z)

module _ (w : Writer) (es : List Entry) (t : Table) (view : View) (holds : Holds w es t view) where
  pub first_there : HaveFirst (bytes_by w es) t (all_of view) view
  first_there = writer_has_first w es t view.held (all_of view) view holds.array holds.fits holds.live
      (record { image = λ d z. (length (view.held d z), omega arith, sym (take_all (length (view.held d z)) (view.held d z) (omega arith))); alone = holds.alone })

  count_is : w.geometry.k + w.geometry.p ≡ table.fragments_of t
  count_is = ap (λ (a : Array). a.geometry.k + a.geometry.p) holds.array

  -- each member has all blocks of the records
  long_there : (d z index c : ℕ) → is_among view.drives d ≡ true → index < table.fragments_of t → use_at t.zones d z ≡ uses.Carrier w.set index → 512 * blocks_in (take c (records_of w es)) ≤ length (view.held d z)
  long_there d z index c drive below is =
      let n = count_is in
      let bytes = ap length (holds.fits.members d z index below (holds.live d drive) is) in
      let long = (writer_bytes w es holds.fits.wrote).long index (omega (arith, below, n)) in
      let most = first_blocks c (records_of w es) in
      omega (arith, bytes, long, most)

  pub members_are_carriers : (read_in view (bytes_by w es)).carriers ≡ carried_on t w.set view.drives
  members_are_carriers = firm_heads_are_carriers (bytes_by w es) t (all_of view) view first_there holds.array holds.together holds.zones (λ d z index drive below is. long_there d z index 1 drive below is)

  module _ (enough : t.geometry.k ≤ carried_on t w.set view.drives) where
    within : IsWithinLimits w.geometry
    within = subst (λ (a : Array). IsWithinLimits a.geometry) (sym holds.array) holds.together.within

    enough_there : w.geometry.k ≤ (read_in view (bytes_by w es)).carriers
    enough_there = let k = ap (λ (a : Array). a.geometry.k) holds.array in let n = members_are_carriers in omega (arith, enough, k, n)

    all_there : first_there.count ≡ length (records_of w es)
    all_there =
        let least = first_there.least (length (records_of w es)) (omega arith) (λ d z index drive below is. long_there d z index (length (records_of w es)) drive below is) in
        let most = first_there.within in
        omega (arith, least, most)

    records_read : (read_in view (bytes_by w es)).records ≡ map item_of (records_of w es)
    records_read =
        image_is_read w es t (all_of view) view first_there within holds.array holds.fits.wrote holds.fits.bytes enough_there
        ∙ ap (λ n. map item_of (take n (records_of w es))) all_there
        ∙ ap (map item_of) (take_all (length (records_of w es)) (records_of w es) (omega arith))

    foot_there : (c : Carrier) → IsCut (bytes_by w es) t (all_of view) view c → has_foot (array_by w) (bytes_at view.held c.place) ≡ w.is_closed
    foot_there c cut =
        let n = count_is in
        let below = cut.below in
        let bytes = holds.fits.members c.place.device c.place.zone c.index cut.below (holds.live c.place.device cut.drive) cut.use_is in
        ap (has_foot (array_by w)) bytes ∙ foot_is w es c.index (omega (arith, below, n)) holds.fits.wrote

    closed_read : (read_in view (bytes_by w es)).closed ≡ w.is_closed
    closed_read = all_alike (λ (c : Carrier). has_foot (array_by w) (bytes_at view.held c.place)) w.is_closed (carriers_in view (bytes_by w es)) (let some = within.k_from in let k = enough_there in omega (arith, some, k)) (all-map (IsCut (bytes_by w es) t (all_of view) view) (λ (c : Carrier). has_foot (array_by w) (bytes_at view.held c.place) ≡ w.is_closed) (carriers_in view (bytes_by w es)) foot_there first_there.cut)

    pub whole_is_read : IsRead w es (read_in view (bytes_by w es))
    whole_is_read = record { records = records_read; closed = closed_read }

    pub opened_stands : are_ready es ≡ true → stands t.geometry.k (read_in view (bytes_by w es)) ≡ true
    opened_stands ready =
        let n = members_are_carriers in
        and_from _ (list_any is_ready (read_in view (bytes_by w es)).records) (le-leb t.geometry.k (read_in view (bytes_by w es)).carriers (omega (arith, enough, n)))
        (ap (list_any is_ready) records_read ∙ more_ready es _ ready)

    pub closed_is_settled : (sets : List ReadSet) → are_ready es ≡ true → w.is_closed ≡ true → is_settled t.geometry.k sets (read_in view (bytes_by w es)) ≡ true
    closed_is_settled sets ready closed =
        and_from (stands t.geometry.k (read_in view (bytes_by w es))) _ (opened_stands ready) (or_right (is_some (kept_by w.set (valid t.geometry.k sets))) (read_in view (bytes_by w es)).closed (closed_read ∙ closed))

    pub digest_is_read : (index : ℕ) → index < table.fragments_of t → w.is_closed ≡ true → ListsRecords (read_in view (bytes_by w es)).records (markers_at index (records_of w es))
    digest_is_read index below closed =
        let n = count_is in
        subst (λ (l : List Record). ListsRecords l (markers_at index (records_of w es))) (sym records_read) (digest_lists_records w es index (omega (arith, below, n)) closed holds.fits.wrote)

-- ---- what calls say

pub held_by_call : (bay : BayState) → CallsHold bay
held_by_call bay w es t view told shape of_ fits together live alone = record {
  array = of_.array;
  fits = told_fits bay.contents told fits;
  together = together;
  zones = of_.shape.zones ∙ ap (λ (s : Shape). s.zones) (sym shape);
  live = live;
  alone = alone;
}
  where
    told_fits : (o : Option Contents) → o ≡ Some view.held → IfSome o (Fits w es t) → Fits w es t view.held
    told_fits o is h = subst (λ (o : Option Contents). IfSome o (Fits w es t)) is h
