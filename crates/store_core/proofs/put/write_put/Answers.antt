use Rattle.std.proofs.Common.{◌≡◌, ℕ, ◌+◌, ◌-◌, ◌*◌, ◌<◌, ◌≤◌, List, [], ◌++◌, length, take, drop, get_or, refl, sym, ap, subst, ◌∙◌, arith}
use Rattle.std.proofs.lemmas.List.{length-take, length-drop}
use Rattle.rs_code.specs.Blob.{CutBytes, AreParts}
use Rattle.rs_code.specs.Coded.{CodedPayload}
use Rattle.rs_code.specs.Fragments.{IsFragment}
use Rattle.marker_format.specs.declared.marker.Marker.{Marker}
use Rattle.marker_format.specs.Marker.{IsMarker}
use Rattle.store_core.specs.declared.zone.Load.{Load}
use Rattle.store_core.specs.declared.records.RecordPlace.{RecordPlace}
use Rattle.marker_format.specs.Fragment.{blocks_of, record_bytes}
use Rattle.store_core.specs.Records.{part_marker, put_marker, next_place}
use Rattle.store_core.specs.Store.{put_load}
use Rattle.store_core.proofs.PutBytes.{of_one, no_part, the_part, the_fragment, load_some, bytes_some, lone_note, own_part, own_note, both_written}
use Rattle.store_core.proofs.RecordAdded.{length-record_bytes}
use Rattle.store_core.proofs.put.write_put.Goals as goal

-- what is known of the part
record IsPart (object fragment : List ℕ) : Type 0 where
  some : 0 < length object
  whole : fragment ≡ object
  long : length fragment ≡ length object

part_known : (object : CutBytes) (parts : List CodedPayload) (index : ℕ) (part : CodedPayload) (fragment : List ℕ) → object.k ≡ 1 → object.p ≡ 1 → length object.bytes ≤ object.shard → AreParts object.k object.p (object.k * object.shard) object.bytes parts → 1 ≤ length parts → part ≡ get_or parts 0 part → index < 2
    → IsFragment part.k (part.k + part.p) part.payload index fragment → IsPart object.bytes fragment
part_known object parts index part fragment one p small are many is below it =
    let known = the_part object.bytes parts (of_one object parts one p small are) many part is in
    let whole = the_fragment part object.bytes index fragment known.0 known.2 known.3 below it in
    record { some = known.1; whole = whole; long = ap length whole }

pub write_record-requires-clause-marker : goal.write_record-requires-clause-marker
write_record-requires-clause-marker c =
    let object = c.args.object.now in
    let none = no_part object.bytes c.parts.result.now (of_one object c.parts.result.now c.requires.coded.k c.requires.coded.p c.requires.small.0 c.parts.ensures) c.in-empty.len_below in
    subst IsMarker (sym (c.put_note.ensures ∙ ap (λ n. put_marker c.args.place c.args.stamp n c.args.name) c.len-length.ensures)) (lone_note c.args.place c.args.stamp c.args.name object.bytes c.requires.place c.requires.stamp c.requires.name none)

pub write_record-end-requires-clause-marker : goal.write_record-end-requires-clause-marker
write_record-end-requires-clause-marker c =
    let object = c.args.object.now in
    let part = part_known object c.parts.result.now c.args.place.index c.part-item.result c.fragment-fragment.result.now c.requires.coded.k c.requires.coded.p c.requires.small.0 c.parts.ensures c.in-len1-up.len_at_least c.part-item.is c.requires.place.first.index c.fragment-fragment.ensures in
    subst IsMarker (sym (c.part-marker.ensures ∙ ap (part_marker c.args.place c.args.stamp) part.long)) (own_part c.args.place c.args.stamp (length object.bytes) c.requires.place.first c.requires.stamp part.some (omega (arith, c.requires.small)))

pub write_record-requires-in-len1-up-clause-marker : goal.write_record-requires-in-len1-up-clause-marker
write_record-requires-in-len1-up-clause-marker c =
    let object = c.args.object.now in
    let part = part_known object c.parts.result.now c.args.place.index c.part-item.result c.fragment-fragment.result.now c.requires.coded.k c.requires.coded.p c.requires.small.0 c.parts.ensures c.in-len1-up.len_at_least c.part-item.is c.requires.place.first.index c.fragment-fragment.ensures in
    let is : c.put_note-note.result ≡ put_marker (next_place c.args.place) c.args.stamp (length object.bytes) c.args.name =
    c.put_note-note.ensures ∙ ap (λ (p : RecordPlace). put_marker p c.args.stamp c.len-length.result c.args.name) c.next.ensures ∙ ap (λ n. put_marker (next_place c.args.place) c.args.stamp n c.args.name) c.len-length.ensures in
    subst IsMarker (sym is) (own_note c.args.place c.args.stamp (length object.bytes) c.args.name c.requires.place c.requires.stamp c.requires.name part.some (omega (arith, c.requires.small)))

-- the blocks of the part and of the note
blocks_are : (n : ℕ) → 0 < n → 512 * (1 + blocks_of n) + 512 ≡ 512 * (put_load n).blocks
blocks_are n some = omega (arith, ap (λ (l : Load). l.blocks) (load_some n some))

pub write_record-requires-in-len1-up-clause-room : goal.write_record-requires-in-len1-up-clause-room
write_record-requires-in-len1-up-clause-room c =
    let object = c.args.object.now in
    let part = part_known object c.parts.result.now c.args.place.index c.part-item.result c.fragment-fragment.result.now c.requires.coded.k c.requires.coded.p c.requires.small.0 c.parts.ensures c.in-len1-up.len_at_least c.part-item.is c.requires.place.first.index c.fragment-fragment.ensures in
    let end = c.write_record-end.result in
    let out = c.write_record-end.new.out in
    let end_is : end ≡ 512 * (1 + blocks_of (length object.bytes)) = c.write_record-end.ensures.end ∙ ap (λ n. 512 * (1 + blocks_of n)) part.long in
    omega (arith, length-take (length out - end) (drop end out), length-drop end out, end_is, c.write_record-end.auto.out, c.requires.room, blocks_are (length object.bytes) part.some)

pub returns-in-len1-up-clause-end : goal.returns-in-len1-up-clause-end
returns-in-len1-up-clause-end c =
    let object = c.args.object.now in
    let part = part_known object c.parts.result.now c.args.place.index c.part-item.result c.fragment-fragment.result.now c.requires.coded.k c.requires.coded.p c.requires.small.0 c.parts.ensures c.in-len1-up.len_at_least c.part-item.is c.requires.place.first.index c.fragment-fragment.ensures in
    let end_is : c.write_record-end.result ≡ 512 * (1 + blocks_of (length object.bytes)) = c.write_record-end.ensures.end ∙ ap (λ n. 512 * (1 + blocks_of n)) part.long in
    omega (arith, end_is, c.write_record-in-len1-up.ensures.end, blocks_are (length object.bytes) part.some)

pub returns-in-len1-up-clause-written : goal.returns-in-len1-up-clause-written
returns-in-len1-up-clause-written c =
    let object = c.args.object.now in
    let bytes = object.bytes in
    let place = c.args.place in
    let stamp = c.args.stamp in
    let part = part_known object c.parts.result.now place.index c.part-item.result c.fragment-fragment.result.now c.requires.coded.k c.requires.coded.p c.requires.small.0 c.parts.ensures c.in-len1-up.len_at_least c.part-item.is c.requires.place.first.index c.fragment-fragment.ensures in
    let first : c.part-marker.result ≡ part_marker place stamp (length bytes) = c.part-marker.ensures ∙ ap (part_marker place stamp) part.long in
    let second : c.put_note-note.result ≡ put_marker (next_place place) stamp (length bytes) c.args.name =
    c.put_note-note.ensures ∙ ap (λ (p : RecordPlace). put_marker p stamp c.len-length.result c.args.name) c.next.ensures ∙ ap (λ n. put_marker (next_place place) stamp n c.args.name) c.len-length.ensures in
    let first_is : record_bytes c.part-marker.result c.fragment-fragment.result.now ≡ record_bytes (part_marker place stamp (length bytes)) bytes = ap (λ (m : Marker). record_bytes m c.fragment-fragment.result.now) first ∙ ap (record_bytes (part_marker place stamp (length bytes))) part.whole in
    let second_is : record_bytes c.put_note-note.result [] ≡ record_bytes (put_marker (next_place place) stamp (length bytes) c.args.name) [] = ap (λ (m : Marker). record_bytes m []) second in
    let long_first = length-record_bytes (part_marker place stamp (length bytes)) bytes (own_part place stamp (length bytes) c.requires.place.first c.requires.stamp part.some (omega (arith, c.requires.small))) refl in
    let long_second = length-record_bytes (put_marker (next_place place) stamp (length bytes) c.args.name) [] (own_note place stamp (length bytes) c.args.name c.requires.place c.requires.stamp c.requires.name part.some (omega (arith, c.requires.small))) refl in
    let end_is : c.write_record-end.result ≡ 512 * (1 + blocks_of (length bytes)) = c.write_record-end.ensures.end ∙ ap (λ n. 512 * (1 + blocks_of n)) part.long in
    both_written c.write_record-end.result c.write_record-in-len1-up.result c.write_record-end.new.out c.write_record-in-len1-up.new.out _ _ _ _ _
    (c.write_record-end.ensures.written ∙ ap (λ (l : List ℕ). l ++ drop c.write_record-end.result c.args.out.now) first_is) (end_is ∙ sym long_first)
    (c.write_record-in-len1-up.ensures.written ∙ ap (λ (l : List ℕ). l ++ drop c.write_record-in-len1-up.result (take (length c.write_record-end.new.out - c.write_record-end.result) (drop c.write_record-end.result c.write_record-end.new.out))) second_is) (c.write_record-in-len1-up.ensures.end ∙ sym long_second)
    ∙ sym (bytes_some place stamp c.args.name bytes part.some)
