-- The records that carriers agree on are read as they were written.
use Rattle.std.proofs.Common.{◌≡◌, ℕ, suc, zero, ◌+◌, ◌*◌, ◌<◌, ◌≤◌, inl, inr, List, [], ◌∷◌, ◌++◌, length, map, take, refl, ap, ◌∙◌, arith, length-take, length-append}
use Rattle.std.specs.List.{AllByRecursion}
use Rattle.std.proofs.lemmas.List.{length-map}
use Rattle.marker_format.specs.declared.marker.Marker.{Marker}
use Rattle.marker_format.specs.Zone.{blocks_of, end_from, whole_records}
use Rattle.marker_format.proofs.ZoneLaws.{end_from-length, Stand-within}
use Rattle.array_model.specs.Drives.{records_at, bytes_at}
use Rattle.array_model.specs.Reading.{Carrier, fragments_of, IsPrefixAlike, agreed, alike, records_from}
use Rattle.array_model.proofs.Agreed.{held_by_each}
use Rattle.array_model.proofs.Records.{Among}
use Rattle.array_model.proofs.Settled.{whole_stand}
use Rattle.set_writer.specs.Entry.{Entry, at_index}
use Rattle.set_writer.specs.Writer.{Writer, array_by, blocks_in, zone_bytes, Wrote}
use Rattle.set_writer.specs.Laws.{markers_at, records_of}
use Rattle.set_writer.specs.PayloadLaws.{HoldsFirst, HoldsPrefix, AgreedIsRead}
use Rattle.set_writer.proofs.AgreedRecords.{cut_zone_has_first}
use Rattle.set_writer.proofs.CutRead.{written_is_read}

-- the first so many of some records end where their markers do
pub first_end : (index block count : ℕ) (es : List Entry) (ms rest : List Marker) → markers_at index es ≡ ms ++ rest → count ≤ length ms → block + blocks_in (take count es) ≤ end_from block ms
first_end index block zero es ms rest same few = omega (arith, end_from-length block ms)
first_end index block (suc count) [] ms rest same few = omega (arith, end_from-length block ms)
first_end index block (suc count) (e ∷ es) [] rest same few = absurd (omega (arith, few))
first_end index block (suc count) (e ∷ es) (m ∷ ms) rest same few =
    let this : at_index index e.marker ≡ m = cc in
    let those : markers_at index es ≡ ms ++ rest = cc in
    let size : blocks_of e.marker ≡ blocks_of m = ap blocks_of this in
    let more = first_end index (block + blocks_of m) count es ms rest those (omega (arith, few)) in
    omega (arith, more, size)

-- a cut zone with so many whole records is as long as these
zone_long : (n count : ℕ) (w : Writer) (es : List Entry) (index : ℕ) → index < fragments_of (array_by w) → Wrote w es → count ≤ length (whole_records (array_by w) (take n (zone_bytes w es index))) → 512 * blocks_in (take count (records_of w es)) ≤ n
zone_long n count w es index below wrote few =
    let zone = take n (zone_bytes w es index) in
    let ms = whole_records (array_by w) (take n (zone_bytes w es index)) in
    let first = cut_zone_has_first n w es index below wrote in
    let end = first_end index 0 count (records_of w es) ms first.0 first.1 few in
    let within = Stand-within (array_by w) zone _ 0 ms (whole_stand (array_by w) zone) (omega arith) in
    omega (arith, end, within, length-take n (zone_bytes w es index))

-- all of a list, by those among them
pub all_those : (P : Carrier → Type 0) (cs : List Carrier) → ((c : Carrier) → Among c cs → P c) → AllByRecursion P cs
all_those P [] each = tt
all_those P (c ∷ cs) each = (each c (inl refl), all_those P cs (λ x among. each x (inr among)))

pub all_two : (P Q : Carrier → Type 0) (cs : List Carrier) → AllByRecursion P cs → AllByRecursion (λ c. P c → Q c) cs → AllByRecursion Q cs
all_two P Q [] ps qs = tt
all_two P Q (c ∷ cs) ps qs = (qs.0 ps.0, all_two P Q cs ps.1 qs.1)

pub agreed_few : (a b : List Marker) → IsPrefixAlike a b → length a ≤ length b
agreed_few a b is = omega (arith, ap length is.1, length-append (map alike a) is.0, length-map a alike, length-map b alike)

pub agreed_is_read : AgreedIsRead
agreed_is_read w es count held carriers index within wrote bytes enough holds few same =
    let array = array_by w in
    let long : length (agreed (array_by w) held carriers) ≡ count = ap length same ∙ length-map (take count (records_of w es)) (λ (e : Entry). at_index index e.marker) ∙ (let l = length-take count (records_of w es) in omega (arith, l, few)) in
    let each : AllByRecursion (λ (c : Carrier). HoldsPrefix w es held c → HoldsFirst w es count held c) carriers = all_those (λ (c : Carrier). HoldsPrefix w es held c → HoldsFirst w es count held c) carriers
    (λ c among prefix.
    let some = agreed_few (agreed (array_by w) held carriers) (records_at (array_by w) held c.place) (held_by_each (array_by w) held carriers c among) in
    let is : whole_records (array_by w) (bytes_at held c.place) ≡ whole_records (array_by w) (take prefix.cut (zone_bytes w es c.index)) = ap (whole_records (array_by w)) prefix.bytes in
    record { below = prefix.below; cut = prefix.cut; long = zone_long prefix.cut count w es c.index prefix.below wrote (omega (arith, some, long, ap length is)); bytes = prefix.bytes }) in
    ap (records_from (array_by w) held carriers 0) same
    ∙ written_is_read w es count held carriers index within wrote bytes enough (all_two (HoldsPrefix w es held) (HoldsFirst w es count held) carriers holds each)
