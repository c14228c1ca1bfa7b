-- The bytes of a put's records.
use Rattle.std.proofs.Common.{◌≡◌, ℕ, ◌+◌, ◌*◌, ◌<◌, ◌≤◌, false, cond, List, [], ◌∷◌, ◌++◌, length, take, get_or, refl, sym, ap, subst, ◌∙◌, arith}
use Rattle.std.specs.Prelude.{◌==◌}
use Rattle.std.proofs.lemmas.Bool.{ne_eqb}
use Rattle.std.proofs.lemmas.List.{append_assoc, length-append, take_at}
use Rattle.smore_base.specs.Name.{IsName}
use Rattle.smore_base.specs.Room.{record_blocks}
use Rattle.rs_code.specs.Blob.{CutBytes, AreParts}
use Rattle.rs_code.specs.Coded.{CodedPayload}
use Rattle.rs_code.specs.Fragments.{IsFragment}
use Rattle.marker_format.specs.Marker.{IsMarker}
use Rattle.store_core.specs.declared.zone.Load.{Load}
use Rattle.store_core.specs.declared.records.RecordPlace.{RecordPlace}
use Rattle.store_core.specs.Records.{IsPlace, HasPlaces, IsStamp, part_marker, put_marker, next_place, put_bytes}
use Rattle.marker_format.specs.Fragment.{record_bytes}
use Rattle.store_core.specs.Store.{put_load, note_load}
use Rattle.store_core.proofs.OwnMarkers.{part_is, put_is}
use Rattle.store_core.proofs.OneSource.{IsOne, is_none, is_part, parts_are, fragment_is_payload}
use Rattle.store_core.proofs.RecordAdded.{length-record_bytes}

-- ---- the part of an object

-- one of no bytes has no part, and another has one
pub of_one : (object : CutBytes) (parts : List CodedPayload) → object.k ≡ 1 → object.p ≡ 1 → length object.bytes ≤ object.shard → AreParts object.k object.p (object.k * object.shard) object.bytes parts → IsOne object.bytes parts
of_one object parts one p small are =
    let of_k : AreParts 1 object.p (1 * object.shard) object.bytes parts = subst (λ k. AreParts k object.p (k * object.shard) object.bytes parts) one are in
    let of_both : AreParts 1 1 (1 * object.shard) object.bytes parts = subst (λ p. AreParts 1 p (1 * object.shard) object.bytes parts) p of_k in
    parts_are (1 * object.shard) object.bytes parts of_both (omega (arith, small))

pub no_part : (object : List ℕ) (parts : List CodedPayload) → IsOne object parts → length parts < 1 → object ≡ []
no_part object [] (is_none none) few = none
no_part object (part ∷ []) (is_part part' payload some one p) few = absurd (omega (arith, few))
no_part object (part ∷ (next ∷ parts)) it few = elim it [ ]

pub the_part : (object : List ℕ) (parts : List CodedPayload) → IsOne object parts → 1 ≤ length parts → (part : CodedPayload) → part ≡ get_or parts 0 part → (part.payload ≡ object) × (0 < length object) × (part.k ≡ 1) × (part.p ≡ 1)
the_part object [] (is_none none) many part is = absurd (omega (arith, many))
the_part object (own ∷ []) (is_part own' payload some one p) many part is =
    (ap (λ (c : CodedPayload). c.payload) is ∙ payload, some, ap (λ (c : CodedPayload). c.k) is ∙ one, ap (λ (c : CodedPayload). c.p) is ∙ p)
the_part object (own ∷ (next ∷ parts)) it many part is = elim it [ ]

-- its fragment, whichever it is, has the bytes of the object
pub the_fragment : (part : CodedPayload) (object : List ℕ) (index : ℕ) (fragment : List ℕ) → part.payload ≡ object → part.k ≡ 1 → part.p ≡ 1 → index < 2 → IsFragment part.k (part.k + part.p) part.payload index fragment → fragment ≡ object
the_fragment part object index fragment payload one p below it =
    let of_k : IsFragment 1 (1 + part.p) part.payload index fragment = subst (λ k. IsFragment k (k + part.p) part.payload index fragment) one it in
    let of_both : IsFragment 1 2 part.payload index fragment = subst (λ p. IsFragment 1 (1 + p) part.payload index fragment) p of_k in
    fragment_is_payload part.payload index fragment below of_both ∙ payload

-- ---- its load

not_empty : (n : ℕ) → 0 < n → (n == 0) ≡ false
not_empty n some = ne_eqb n 0 (λ none. omega (arith, some, none))

pub load_some : (n : ℕ) → 0 < n → put_load n ≡ record { blocks = record_blocks n + 1; records = 2 }
load_some n some = ap (λ b. cond b note_load (let l : Load = record { blocks = record_blocks n + 1; records = 2 } in l)) (not_empty n some)

pub bytes_some : (place : RecordPlace) (stamp : ℕ) (name object : List ℕ) → 0 < length object → put_bytes place stamp name object ≡ record_bytes (part_marker place stamp (length object)) object ++ record_bytes (put_marker (next_place place) stamp (length object) name) []
bytes_some place stamp name object some =
    ap (λ b. cond b (record_bytes (put_marker place stamp 0 name) []) (record_bytes (part_marker place stamp (length object)) object ++ record_bytes (put_marker (next_place place) stamp (length object) name) [])) (not_empty (length object) some)

-- ---- its records

-- of an object without bytes, the note
pub lone_note : (place : RecordPlace) (stamp : ℕ) (name object : List ℕ) → HasPlaces place (put_load (length object)).records → IsStamp stamp → IsName name → object ≡ [] → IsMarker (put_marker place stamp (length object) name)
lone_note place stamp name object places drawn named none = put_is place stamp (length object) name places.first drawn.0 drawn.1 (omega (arith, ap length none)) named

-- of another, its part and the note behind it
pub own_part : (place : RecordPlace) (stamp bytes : ℕ) → IsPlace place → IsStamp stamp → 0 < bytes → bytes ≤ 65408 → IsMarker (part_marker place stamp bytes)
own_part place stamp bytes at drawn some few = part_is place stamp bytes at drawn.0 drawn.1 some few

pub own_note : (place : RecordPlace) (stamp bytes : ℕ) (name : List ℕ) → HasPlaces place (put_load bytes).records → IsStamp stamp → IsName name → 0 < bytes → bytes ≤ 65408 → IsMarker (put_marker (next_place place) stamp bytes name)
own_note place stamp bytes name places drawn named some few =
    let two : (put_load bytes).records ≡ 2 = ap (λ (l : Load). l.records) (load_some bytes some) in
    let at = places.first in
    put_is (next_place place) stamp bytes name (record { set_from = at.set_from; set_to = at.set_to; index = at.index; position = omega (arith, places.last, two); array = at.array }) drawn.0 drawn.1 (omega (arith, few)) named

pub length-put_bytes : (place : RecordPlace) (stamp : ℕ) (name object : List ℕ) → HasPlaces place (put_load (length object)).records → IsStamp stamp → IsName name → length object ≤ 65408 → length (put_bytes place stamp name object) ≡ 512 * (put_load (length object)).blocks
length-put_bytes place stamp name [] places drawn named few = length-record_bytes (put_marker place stamp 0 name) [] (lone_note place stamp name [] places drawn named refl) refl
length-put_bytes place stamp name (x ∷ xs) places drawn named few =
    let object = x ∷ xs in
    let some : 0 < length object = omega arith in
    let part = part_marker place stamp (length object) in
    let note = put_marker (next_place place) stamp (length object) name in
    omega (
      arith,
      ap length (bytes_some place stamp name object some),
      length-append (record_bytes part object) (record_bytes note []),
      length-record_bytes part object (own_part place stamp (length object) places.first drawn some few) refl,
      length-record_bytes note [] (own_note place stamp (length object) name places drawn named some few) refl,
      ap (λ (l : Load). l.blocks) (load_some (length object) some),
    )

-- ---- two records, one behind the other

pub both_written : (end n : ℕ) (out1 out2 first second rest1 rest2 post : List ℕ) → out1 ≡ first ++ rest1 → end ≡ length first → out2 ≡ second ++ rest2 → n ≡ length second → take (end + n) (take end out1 ++ (out2 ++ post)) ≡ first ++ second
both_written end n out1 out2 first second rest1 rest2 post one_is end_is two_is n_is =
    ap (λ (l : List ℕ). take (end + n) (l ++ (out2 ++ post))) (ap (take end) one_is ∙ take_at first rest1 end (sym end_is))
    ∙ ap (λ (l : List ℕ). take (end + n) (first ++ l)) (ap (λ (l : List ℕ). l ++ post) two_is ∙ append_assoc second rest2 post)
    ∙ ap (take (end + n)) (sym (append_assoc first second (rest2 ++ post)))
    ∙ take_at (first ++ second) (rest2 ++ post) (end + n) (omega (arith, length-append first second, end_is, n_is))
