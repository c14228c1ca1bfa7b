-- The bytes of a record in the zone of an index.
use Rattle.std.proofs.Common.{◌≡◌, ℕ, ◌+◌, ◌*◌, ◌<◌, true, List, [], ◌∷◌, ◌++◌, length, take, drop, refl, sym, ap, ap₂, ◌∙◌, arith, length-append}
use Rattle.std.specs.Prelude.{◌&&◌, ◌==◌}
use Rattle.std.specs.Int.{div_ceil}
use Rattle.std.specs.List.{AllByRecursion}
use Rattle.std.proofs.lemmas.Bool.{and_parts, eqb-true}
use Rattle.std.proofs.lemmas.List.{take_at}
use Rattle.marker_format.specs.declared.marker.Marker.{Marker}
use Rattle.marker_format.specs.Block.{marker_block}
use Rattle.marker_format.specs.Zone.{Array, belongs, blocks_of}
use Rattle.marker_format.proofs.BlockLaws.{length-marker_block}
use Rattle.array_model.specs.Reading.{fragments_of}
use Rattle.marker_format.specs.Fragment as blocks
use Rattle.set_writer.specs.Entry.{Entry, fragment, at_index, entry_bytes, entries_bytes, IsEntry}
use Rattle.set_writer.specs.Writer.{blocks_in}
use Rattle.marker_format.proofs.FragmentLaws.{length-blocks_from}
use Rattle.set_writer.proofs.FragmentLaws.{length-fragment}

-- a marker of the array is of its code
pub of_code : (array : Array) (m : Marker) → belongs array m ≡ true → m.k ≡ array.geometry.k
of_code array m ours =
    let g = array.geometry in
    let first = and_parts ((m.k == g.k) && (m.n == g.k + g.p)) _ (and_parts _ _ ours).0 in
    eqb-true m.k g.k (and_parts (m.k == g.k) (m.n == g.k + g.p) first.0).0

-- each fragment has as many bytes as the marker says
pub fragment_size : (array : Array) (e : Entry) (k index : ℕ) → IsEntry array e → k ≡ array.geometry.k → index < fragments_of array → length (fragment k e.payload index) ≡ e.marker.fragment
fragment_size array e k index is code below =
    let m = is.markers index below in
    length-fragment k e.payload index
    ∙ ap₂ div_ceil is.payload (code ∙ sym (of_code array e.marker is.ours))
    ∙ sym m.fragment

pub length-entry_bytes : (array : Array) (e : Entry) (k index : ℕ) → IsEntry array e → k ≡ array.geometry.k → index < fragments_of array → length (entry_bytes k e index) ≡ 512 * blocks_of e.marker
unfolding entry_bytes
length-entry_bytes array e k index is code below =
    let long = length-marker_block (at_index index e.marker) (is.markers index below) in
    let f = fragment k e.payload index in
    let size = ap (λ n. div_ceil n 511) (fragment_size array e k index is code below) in
    omega (arith, long, size, length-append (marker_block (at_index index e.marker)) (blocks.fragment_blocks f), length-blocks_from (blocks.blocks_of (length f)) f)

pub length-all_entries : (array : Array) (k index : ℕ) (es : List Entry) → k ≡ array.geometry.k → index < fragments_of array → AllByRecursion (IsEntry array) es → length (entries_bytes k es index) ≡ 512 * blocks_in es
length-all_entries array k index [] code below are = refl
length-all_entries array k index (e ∷ es) code below are =
    let here = length-entry_bytes array e k index are.0 code below in
    let rest = length-all_entries array k index es code below are.1 in
    length-append (entry_bytes k e index) (entries_bytes k es index) ∙ omega (arith, here, rest)

-- its bytes, as they are written
pub entry_written : (k index : ℕ) (e : Entry) (m : Marker) (f old out : List ℕ) (end : ℕ) → m ≡ at_index index e.marker → f ≡ fragment k e.payload index → out ≡ (marker_block m ++ blocks.fragment_blocks f) ++ drop end old → end ≡ length (entry_bytes k e index) → take end out ≡ entry_bytes k e index
unfolding entry_bytes
entry_written k index e m f old out end marker payload written size =
    let bytes : marker_block m ++ blocks.fragment_blocks f ≡ entry_bytes k e index = ap₂ (λ (a : Marker) (b : List ℕ). marker_block a ++ blocks.fragment_blocks b) marker payload in
    ap (take end) written ∙ take_at _ (drop end old) end (ap length bytes ∙ sym size) ∙ bytes
