-- The records of a zone that carries a set of k 1, with their payloads.
use Rattle.std.proofs.Common.{min, ◌≡◌, ℕ, zero, suc, ◌+◌, ◌-◌, ◌*◌, ◌≤◌, true, cond, List, [], ◌∷◌, ◌++◌, map, length, take, drop, Option, Some, refl, sym, ap, subst, ◌∙◌, arith}
use Rattle.std.specs.Prelude.{slice_index}
use Rattle.std.specs.Int.{div_ceil}
use Rattle.std.specs.Int.Bits.{bit_xor, xor_zero_r}
use Rattle.std.specs.List.{range_with_len}
use Rattle.std.proofs.lemmas.Bool.{and_parts, eqb-true, eq-eqb}
use Rattle.std.proofs.lemmas.List.{append-nil, take_all, ext_get_or, length-append, length-take, length-drop}
use Rattle.std.proofs.lemmas.List.FromFn.{get_or-map-range_with_len, length-map-range_with_len}
use Rattle.gf_field.specs.Product.{product}
use Rattle.gf_field.proofs.Linear.{product-zero_right}
use Rattle.zone_bay.specs.Contents.{Contents}
use Rattle.marker_format.specs.declared.marker.Marker.{Marker}
use Rattle.marker_format.specs.Kind.{kind_of}
use Rattle.marker_format.specs.Marker.{IsMarker}
use Rattle.marker_format.specs.Zone as zone
use Rattle.marker_format.specs.Zone.{Array, IsWhole, Stand, end_from, belongs}
use Rattle.array_model.specs.Payload.{Fragment, interpolated, byte_of, fragment_from, payload_from}
use Rattle.marker_format.specs.Fragment.{fragment_at, blocks_of}
use Rattle.array_model.specs.Reading.{Carrier, record_by, records_from, payload_of, fragment_on}
use Rattle.array_model.specs.Record.{Record}
use Rattle.marker_format.proofs.FragmentLaws.{content_from, fragment_at-front, fragment_read}
use Rattle.store_core.proofs.SaidLaws.{one_source}

-- ---- a payload of one fragment

value_of_one : (index value : ℕ) → bit_xor value (product (bit_xor 0 index) 0) ≡ value
value_of_one index value = ap (bit_xor value) (product-zero_right (bit_xor 0 index)) ∙ xor_zero_r value

byte_of_one : (index : ℕ) (bytes : List ℕ) (c : ℕ) → byte_of (record { index = index; bytes = bytes } ∷ []) c index ≡ slice_index bytes c
byte_of_one index bytes c = ap (λ b. cond b (slice_index bytes c) 0) (eq-eqb index index refl)

one_fragment : (index : ℕ) (bytes : List ℕ) (n : ℕ) → n ≡ length bytes → fragment_from (record { index = index; bytes = bytes } ∷ []) n 0 ≡ bytes
one_fragment index bytes n size =
    let given : List Fragment = record { index = index; bytes = bytes } ∷ [] in
    let value : ℕ → ℕ = λ c. interpolated (index ∷ []) (byte_of given c) 0 in
    let long = length-map-range_with_len value 0 n in
    ext_get_or 0 (map value (range_with_len 0 n)) bytes (long ∙ size) (λ c below.
    get_or-map-range_with_len value 0 n c c 0 (omega (arith, below, long)) (omega arith)
    ∙ value_of_one index (byte_of given c index) ∙ byte_of_one index bytes c)

pub one_payload : (index : ℕ) (bytes : List ℕ) (n : ℕ) → n ≡ length bytes → payload_from 1 (record { index = index; bytes = bytes } ∷ []) n ≡ bytes
unfolding payload_from
one_payload index bytes n size =
    let given : List Fragment = record { index = index; bytes = bytes } ∷ [] in
    ap (λ (l : List ℕ). take n l) (append-nil (fragment_from given (div_ceil n 1) 0) ∙ ap (λ k. fragment_from given k 0) (one_source n) ∙ one_fragment index bytes n size)
    ∙ take_all n bytes (omega (arith, size))

length-content_from : (count : ℕ) (bytes : List ℕ) (n : ℕ) → 512 * count ≤ length bytes → n ≤ 511 * count → length (content_from count bytes n) ≡ n
length-content_from zero bytes n within few = omega (arith, few)
length-content_from (suc count) bytes n within few =
    let first = take (min 511 n) (drop 1 bytes) in
    let rest = content_from count (drop 512 bytes) (n - 511) in
    let later = length-content_from count (drop 512 bytes) (n - 511) (omega (arith, within, length-drop 512 bytes)) (omega (arith, few)) in
    omega (arith, length-append first rest, length-take (min 511 n) (drop 1 bytes), length-drop 1 bytes, within, later)

pub length-fragment_at : (bytes : List ℕ) (block n : ℕ) → 512 * (block + blocks_of n) ≤ length bytes → length (fragment_at bytes block n) ≡ n
length-fragment_at bytes block n within = ap length (fragment_read bytes block n within) ∙ length-content_from (blocks_of n) (drop (512 * block) bytes) n (omega (arith, within, length-drop (512 * block) bytes)) (omega arith)

-- ---- the records

-- the records whose markers stand from the block on, by their own fragments
abbrev pub items_from : List ℕ → ℕ → List Marker → List Record
items_from bytes block [] = []
items_from bytes block (m ∷ ms) = record_by (kind_of m.kind) m (fragment_at bytes (block + 1) m.payload) ∷ items_from bytes (block + zone.blocks_of m) ms

-- of a record of k 1, the fragment is the payload
pub own_fragment : (array : Array) (m : Marker) → array.geometry.k ≡ 1 → IsMarker m → belongs array m ≡ true → m.fragment ≡ m.payload
own_fragment array m one fits ours =
    let k : m.k ≡ array.geometry.k = eqb-true m.k array.geometry.k (and_parts _ _ (and_parts _ _ (and_parts _ _ ours).0).0).0 in
    fits.fragment ∙ ap (div_ceil m.payload) (k ∙ one) ∙ one_source m.payload

-- they are read from their carrier
pub read_alone : (array : Array) (held : Contents) (carrier : Carrier) (before : Option Marker) (block : ℕ) (ms : List Marker) → array.geometry.k ≡ 1 → Stand array (held carrier.place.device carrier.place.zone) before block ms
    → records_from array held (carrier ∷ []) block ms ≡ items_from (held carrier.place.device carrier.place.zone) block ms
read_alone array held carrier before block [] one stand = refl
read_alone array held carrier before block (m ∷ ms) one stand =
    let bytes = held carrier.place.device carrier.place.zone in
    let own = own_fragment array m one stand.0.marker stand.0.ours in
    let within : 512 * ((block + 1) + blocks_of m.payload) ≤ length bytes = subst (λ n. 512 * ((block + 1) + blocks_of n) ≤ length bytes) own (omega (arith, stand.0.within)) in
    let payload : payload_of array held (carrier ∷ []) block m ≡ fragment_at bytes (block + 1) m.payload =
    ap (λ k. payload_from k (map (fragment_on held block m) (take k (carrier ∷ []))) m.payload) one
    ∙ ap (λ n. payload_from 1 (record { index = carrier.index; bytes = fragment_at bytes (block + 1) n } ∷ []) m.payload) own
    ∙ one_payload carrier.index (fragment_at bytes (block + 1) m.payload) m.payload (sym (length-fragment_at bytes (block + 1) m.payload within)) in
    ap (λ (l : List ℕ). record_by (kind_of m.kind) m l ∷ records_from array held (carrier ∷ []) (block + zone.blocks_of m) ms) payload
    ∙ ap (λ (l : List Record). record_by (kind_of m.kind) m (fragment_at bytes (block + 1) m.payload) ∷ l) (read_alone array held carrier (Some m) (block + zone.blocks_of m) ms one stand.2)

-- what stands behind them changes none
pub items-front : (array : Array) (bytes more : List ℕ) (before : Option Marker) (block : ℕ) (ms : List Marker) → array.geometry.k ≡ 1 → Stand array bytes before block ms → items_from (bytes ++ more) block ms ≡ items_from bytes block ms
items-front array bytes more before block [] one stand = refl
items-front array bytes more before block (m ∷ ms) one stand =
    let own = own_fragment array m one stand.0.marker stand.0.ours in
    let within : 512 * ((block + 1) + blocks_of m.payload) ≤ length bytes = subst (λ n. 512 * ((block + 1) + blocks_of n) ≤ length bytes) own (omega (arith, stand.0.within)) in
    ap (λ (l : List ℕ). record_by (kind_of m.kind) m l ∷ items_from (bytes ++ more) (block + zone.blocks_of m) ms) (fragment_at-front bytes more (block + 1) m.payload within)
    ∙ ap (λ (l : List Record). record_by (kind_of m.kind) m (fragment_at bytes (block + 1) m.payload) ∷ l) (items-front array bytes more (Some m) (block + zone.blocks_of m) ms one stand.2)

-- one record more
pub items-added : (bytes : List ℕ) (block : ℕ) (ms : List Marker) (m : Marker) → items_from bytes block (ms ++ m ∷ []) ≡ items_from bytes block ms ++ record_by (kind_of m.kind) m (fragment_at bytes (end_from block ms + 1) m.payload) ∷ []
items-added bytes block [] m = refl
items-added bytes block (x ∷ ms) m = ap (λ (l : List Record). record_by (kind_of x.kind) x (fragment_at bytes (block + 1) x.payload) ∷ l) (items-added bytes (block + zone.blocks_of x) ms m)
