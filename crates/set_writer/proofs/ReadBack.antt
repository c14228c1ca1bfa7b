-- The fragments that were put on the members are found on them again.
use Rattle.std.proofs.Common.{◌≡◌, ℕ, ◌+◌, ◌*◌, ◌<◌, List, [], ◌∷◌, ◌++◌, length, refl, sym, ap, ap₂, ◌∙◌, subst, arith, append_assoc, length-append}
use Rattle.std.specs.List.{AllByRecursion}
use Rattle.std.proofs.lemmas.Grind.{flat_map-append}
use Rattle.zone_bay.specs.Contents.{Contents}
use Rattle.marker_format.specs.declared.marker.Marker.{Marker}
use Rattle.marker_format.specs.Block.{marker_block}
use Rattle.marker_format.specs.Zone.{Array, end_from}
use Rattle.marker_format.specs.Fragment as blocks
use Rattle.marker_format.specs.Fragment.{fragment_blocks, fragment_at}
use Rattle.marker_format.proofs.BlockLaws.{length-marker_block}
use Rattle.marker_format.proofs.FragmentLaws.{length-blocks_from, fragment_at-front, fragment_at-end}
use Rattle.array_model.specs.Payload.{fragment_of}
use Rattle.array_model.specs.Reading.{Carrier, fragments_of, fragment_on}
use Rattle.array_model.specs.Kept.{HaveOnePayload}
use Rattle.array_model.proofs.SameZones.{all-map}
use Rattle.set_writer.specs.Entry.{Entry, fragment, at_index, entry_bytes, entries_bytes, IsEntry}
use Rattle.set_writer.specs.Writer.{blocks_in}
use Rattle.set_writer.specs.Laws.{markers_at}
use Rattle.set_writer.specs.PayloadLaws.{fragments_for, IsCoded, BeginsWith, HaveRecords, CarriersHaveOnePayload, CarriersHavePayloads}
use Rattle.set_writer.proofs.EntryLaws.{fragment_size, length-all_entries}
use Rattle.set_writer.proofs.ByteLaws.{all_front, all_behind}
use Rattle.set_writer.proofs.CutZones.{end_from-blocks}
use Rattle.set_writer.proofs.CodeLaws.{fragments_are_of_payload, fragment_for}

-- ---- a fragment in a zone

-- it stands behind the records before it and its marker
fragment_behind : (array : Array) (e : Entry) (index block : ℕ) (zone more : List ℕ) → IsEntry array e → index < fragments_of array → length zone ≡ 512 * block → fragment_at ((zone ++ entry_bytes array.geometry.k e index) ++ more) (block + 1) e.marker.fragment ≡ fragment array.geometry.k e.payload index
unfolding entry_bytes
fragment_behind array e index block zone more is below long =
    let k = array.geometry.k in
    let f = fragment array.geometry.k e.payload index in
    let m = marker_block (at_index index e.marker) in
    let size : length (fragment array.geometry.k e.payload index) ≡ e.marker.fragment = fragment_size array e array.geometry.k index is refl below in
    let front : length (zone ++ m) ≡ 512 * (block + 1) = omega (arith, long, length-append zone m, length-marker_block (at_index index e.marker) (is.markers index below)) in
    ap (λ n. fragment_at ((zone ++ (m ++ fragment_blocks f)) ++ more) (block + 1) n) (sym size)
    ∙ fragment_at-front (zone ++ (m ++ fragment_blocks f)) more (block + 1) (length f) (omega (arith, front, length-append zone m, length-append zone (m ++ fragment_blocks f), length-append m (fragment_blocks f), length-blocks_from (blocks.blocks_of (length f)) f))
    ∙ ap (λ (l : List ℕ). fragment_at l (block + 1) (length f)) (sym (append_assoc zone m (fragment_blocks f)))
    ∙ fragment_at-end (zone ++ m) f (block + 1) front

entries_split : (k index : ℕ) (before after : List Entry) (e : Entry) (rest : List ℕ) → entries_bytes k (before ++ e ∷ after) index ++ rest ≡ (entries_bytes k before index ++ entry_bytes k e index) ++ (entries_bytes k after index ++ rest)
entries_split k index before after e rest =
    ap (λ (l : List ℕ). l ++ rest) (flat_map-append (λ (x : Entry). entry_bytes k x index) before (e ∷ after))
    ∙ append_assoc (entries_bytes k before index) (entry_bytes k e index ++ entries_bytes k after index) rest
    ∙ ap (λ (l : List ℕ). entries_bytes k before index ++ l) (append_assoc (entry_bytes k e index) (entries_bytes k after index) rest)
    ∙ sym (append_assoc (entries_bytes k before index) (entry_bytes k e index) (entries_bytes k after index ++ rest))

pub entries_of : (array : Array) (es : List Entry) → AllByRecursion (IsCoded array) es → AllByRecursion (IsEntry array) es
entries_of array es all = all-map (IsCoded array) (IsEntry array) es (λ e is. is.entry) all

-- the carrier has the record's fragment of its index
pub fragment_found : (array : Array) (before after : List Entry) (e : Entry) (index : ℕ) (held : Contents) (c : Carrier) → AllByRecursion (IsCoded array) (before ++ e ∷ after) → BeginsWith array (before ++ e ∷ after) held c
    → (fragment_on held (blocks_in before) (at_index index e.marker) c).bytes ≡ fragment array.geometry.k e.payload c.index
fragment_found array before after e index held c coded begins =
    let k = array.geometry.k in
    let zone = entries_bytes array.geometry.k before c.index in
    let first = entries_of array before (all_front (IsCoded array) before (e ∷ after) coded) in
    let this = all_behind (IsCoded array) before (e ∷ after) coded in
    ap (λ (l : List ℕ). fragment_at l (blocks_in before + 1) e.marker.fragment) (begins.bytes ∙ entries_split array.geometry.k c.index before after e begins.rest)
    ∙ fragment_behind array e c.index (blocks_in before) zone (entries_bytes array.geometry.k after c.index ++ begins.rest) this.0.entry begins.below (length-all_entries array array.geometry.k c.index before refl begins.below first)

-- ---- one payload

-- it is that of the record
pub one_payload_of : (array : Array) (before after : List Entry) (e : Entry) (held : Contents) (carriers : List Carrier) (index : ℕ) → HaveRecords array (before ++ e ∷ after) held carriers
    → (one : HaveOnePayload array held carriers (blocks_in before) (at_index index e.marker)) × (one.payload ≡ e.payload)
one_payload_of array before after e held carriers index have =
    let w = have.within in
    let this = all_behind (IsCoded array) before (e ∷ after) have.coded in (
      record {
        payload = e.payload;
        bytes = this.0.entry.payload;
        fragments = fragments_for array.geometry.k (fragments_of array) e.payload;
        are = fragments_are_of_payload array.geometry.k (fragments_of array) e.payload w.k_from (omega arith) (let f = w.fragments in omega (arith, f)) this.0.bytes;
        each = all-map (BeginsWith array (before ++ e ∷ after) held) (λ (c : Carrier). (fragment_on held (blocks_in before) (at_index index e.marker) c).bytes ≡ fragment_of (fragments_for array.geometry.k (fragments_of array) e.payload) c.index) carriers
            (λ c begins. fragment_found array before after e index held c have.coded begins ∙ sym (fragment_for array.geometry.k (fragments_of array) e.payload c.index begins.below)) have.each;
      },
      refl,
    )

pub carriers_have_one_payload : CarriersHaveOnePayload
carriers_have_one_payload array before after e held carriers index have = (one_payload_of array before after e held carriers index have).0

-- ---- all payloads

-- the records before and behind one whose marker stands at a place of the list
record Split (index : ℕ) (es : List Entry) (before : List Marker) (m : Marker) : Type 0 where
  ahead : List Entry
  this : Entry
  behind : List Entry
  is : es ≡ ahead ++ this ∷ behind
  marker : m ≡ at_index index this.marker
  first : before ≡ markers_at index ahead

split_at : (index : ℕ) (es : List Entry) (more before after : List Marker) (m : Marker) → markers_at index es ++ more ≡ before ++ m ∷ after → length before < length es → Split index es before m
split_at index [] more before after m same few = absurd (omega (arith, few))
split_at index (e ∷ es) more [] after m same few = record { ahead = []; this = e; behind = es; is = refl; marker = (let h : at_index index e.marker ≡ m = cc in sym h); first = refl }
split_at index (e ∷ es) more (x ∷ before) after m same few =
    let head : at_index index e.marker ≡ x = cc in
    let rest : markers_at index es ++ more ≡ before ++ m ∷ after = cc in
    let it = split_at index es more before after m rest (omega (arith, few)) in
    record {
      ahead = e ∷ it.ahead;
      this = it.this;
      behind = it.behind;
      is = ap (λ (l : List Entry). e ∷ l) it.is;
      marker = it.marker;
      first = ap₂ (λ (a : Marker) (l : List Marker). a ∷ l) (sym head) it.first;
    }

pub carriers_have_payloads : CarriersHavePayloads
carriers_have_payloads array es held carriers index more have all before after m same few =
    let it = split_at index es more before after m (sym all ∙ same) few in
    let those = subst (λ (l : List Entry). HaveRecords array l held carriers) it.is have in
    let one = carriers_have_one_payload array it.ahead it.behind it.this held carriers index those in
    let block : blocks_in it.ahead ≡ end_from 0 before = sym (ap (end_from 0) it.first ∙ end_from-blocks index 0 it.ahead ∙ omega arith) in
    subst (λ b. HaveOnePayload array held carriers b m) block (subst (λ (x : Marker). HaveOnePayload array held carriers (blocks_in it.ahead) x) (sym it.marker) one)
