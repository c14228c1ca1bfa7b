-- What the bay says to a core once a record more stands behind its own.
use Rattle.std.proofs.Common.{◌≡◌, ℕ, ◌+◌, ◌*◌, ◌<◌, ◌≤◌, true, false, List, [], ◌∷◌, ◌++◌, length, take, Some, None, refl, sym, ap, subst, ◌∙◌, arith}
use Rattle.std.specs.Prelude.{◌||◌}
use Rattle.std.specs.List.{list_any}
use Rattle.std.proofs.lemmas.List.{append_assoc, length-append, length-take, take_all}
use Rattle.zone_bay.specs.Contents.{Shape, Contents}
use Rattle.marker_format.specs.declared.kind.Kind.TheVariants as kinds
use Rattle.marker_format.specs.declared.marker.Marker.{Marker}
use Rattle.marker_format.specs.Kind.{kind_of}
use Rattle.marker_format.specs.Marker.{IsMarker}
use Rattle.marker_format.specs.Block.{marker_block}
use Rattle.marker_format.specs.Zone as zone
use Rattle.marker_format.specs.Zone.{Array, has_kind, end_from, belongs, whole_records}
use Rattle.marker_format.specs.Laws.{Fill, MayFollow}
use Rattle.marker_format.proofs.BlockLaws.{length-marker_block}
use Rattle.array_model.specs.Drives.{label_on}
use Rattle.array_model.specs.Kept.{label_of}
use Rattle.marker_format.specs.Fragment.{fragment_at, fragment_blocks, record_bytes}
use Rattle.array_model.specs.Record.{Record}
use Rattle.array_model.specs.Reading.{record_by}
use Rattle.store_core.specs.declared.index.Index.{Index}
use Rattle.store_core.specs.declared.zone.OpenZone.{OpenZone}
use Rattle.store_core.specs.OpenZone.{behind}
use Rattle.store_core.specs.Opening.{IsAlone}
use Rattle.store_core.specs.Said.{Says}
use Rattle.store_core.specs.Zone.{set_of, index_of, counter_of, next_stamp}
use Rattle.store_core.specs.Held.{used, IsHeld}
use Rattle.marker_format.proofs.FragmentLaws.{fragment_at-end}
use Rattle.store_core.proofs.OpenRecords.{any_added, stamp_added}
use Rattle.store_core.proofs.OpenZones.{IsFilled, open_filled, filled_whole, filled_added, may_follow, length-record}
use Rattle.store_core.proofs.ZoneItems.{items_from, own_fragment, items-front, items-added}
use Rattle.store_core.proofs.Held.{some_there}

-- ---- a zone that a core stands behind, without its index

pub record StandsBehind (array : Array) (open_zone : OpenZone) (stamp : ℕ) (bytes : List ℕ) (ms : List Marker) : Type 0 where
  pub filled : IsFilled array bytes ms
  pub ready : list_any (has_kind kinds.Ready) ms ≡ true
  pub no_digest : list_any (has_kind kinds.Digest) ms ≡ false
  pub set : open_zone.set ≡ set_of ms
  pub place : open_zone.index ≡ index_of ms
  pub records : open_zone.records ≡ length ms
  pub blocks : length bytes ≡ 512 * open_zone.blocks
  pub later : next_stamp ms ≤ stamp

pub stands_held : (array : Array) (open_zone : OpenZone) (stamp : ℕ) (index : Index) (shape : Shape) (held : Contents) → IsHeld array open_zone stamp index shape held → StandsBehind array open_zone stamp (used open_zone held) (whole_records array (used open_zone held))
stands_held array open_zone stamp index shape held it = record {
  filled = open_filled array (used open_zone held) it.usable;
  ready = it.usable.ready;
  no_digest = it.usable.no_digest;
  set = it.set;
  place = it.place;
  records = it.records;
  blocks = omega (arith, length-take (512 * open_zone.blocks) (held 0 2), it.long);
  later = it.later;
}

-- with an index that has what its records say, it is the core's
pub held_stands : (array : Array) (open_zone : OpenZone) (stamp : ℕ) (index : Index) (shape : Shape) (held : Contents) (bytes : List ℕ) (ms : List Marker)
    → label_on shape held 0 ≡ Some (label_of array 0) → IsAlone shape held → held 0 2 ≡ bytes → StandsBehind array open_zone stamp bytes ms → Says index ms → IsHeld array open_zone stamp index shape held
held_stands array open_zone stamp index shape held bytes ms label alone is stands says =
    let all : used open_zone held ≡ bytes = ap (take (512 * open_zone.blocks)) is ∙ take_all (512 * open_zone.blocks) bytes (omega (arith, stands.blocks)) in
    let whole : whole_records array (used open_zone held) ≡ ms = ap (whole_records array) all ∙ filled_whole array bytes ms stands.filled in
    record {
      label = label;
      alone = alone;
      long = omega (arith, ap length is, stands.blocks);
      usable = record {
        full = ap (λ (l : List Marker). 512 * end_from 0 l) whole ∙ stands.filled.fill.full ∙ sym (ap length all);
        ready = ap (list_any (has_kind kinds.Ready)) whole ∙ stands.ready;
        no_digest = ap (list_any (has_kind kinds.Digest)) whole ∙ stands.no_digest;
      };
      set = stands.set ∙ ap set_of (sym whole);
      place = stands.place ∙ ap index_of (sym whole);
      records = stands.records ∙ ap length (sym whole);
      later = subst (λ (l : List Marker). next_stamp l ≤ stamp) (sym whole) stands.later;
      says = subst (Says index) (sym whole) says;
    }

-- ---- a record more

-- the record goes behind those of the zone
pub record Follows (array : Array) (open_zone : OpenZone) (m : Marker) (fragment : List ℕ) : Type 0 where
  pub fits : IsMarker m
  pub ours : belongs array m ≡ true
  pub no_head : has_kind kinds.Head m ≡ false
  pub no_trailer : has_kind kinds.Trailer m ≡ false
  pub no_digest : has_kind kinds.Digest m ≡ false
  pub set : m.set ≡ open_zone.set
  pub index : m.index ≡ open_zone.index
  pub position : m.position ≡ open_zone.records
  pub size : m.fragment ≡ length fragment

pub length-record_bytes : (m : Marker) (fragment : List ℕ) → IsMarker m → m.fragment ≡ length fragment → length (record_bytes m fragment) ≡ 512 * zone.blocks_of m
length-record_bytes m fragment fits size = omega (arith, length-append (marker_block m) (fragment_blocks fragment), length-marker_block m fits, length-record m fragment fits size)

set_more : (ms more : List Marker) → 0 < length ms → set_of (ms ++ more) ≡ set_of ms
set_more [] more some = absurd (omega (arith, some))
set_more (head ∷ ms) more some = refl

index_more : (ms more : List Marker) → 0 < length ms → index_of (ms ++ more) ≡ index_of ms
index_more [] more some = absurd (omega (arith, some))
index_more (head ∷ ms) more some = refl

module _ (array : Array) (open_zone : OpenZone) (stamp : ℕ) (bytes : List ℕ) (ms : List Marker) (stands : StandsBehind array open_zone stamp bytes ms)
    (m : Marker) (fragment : List ℕ) (follows : Follows array open_zone m fragment) where
  some : 0 < length ms
  some = let there = some_there (has_kind kinds.Ready) ms stands.ready in omega (arith, ap length there.2)

  may : MayFollow array ms m
  may =
      let there = some_there (has_kind kinds.Ready) ms stands.ready in
      subst (λ (l : List Marker). MayFollow array l m) (sym there.2)
      (may_follow array bytes there.0 there.1 m (subst (Fill array bytes) there.2 stands.filled.fill) (ap (list_any (has_kind kinds.Digest)) (sym there.2) ∙ stands.no_digest)
      follows.fits follows.ours follows.no_head follows.no_trailer follows.no_digest
      (follows.set ∙ stands.set ∙ ap set_of there.2) (follows.index ∙ stands.place ∙ ap index_of there.2) (follows.position ∙ stands.records ∙ ap length there.2))

  -- it is among those that the core stands behind then
  pub stands_added : (stamp' : ℕ) → stamp ≤ stamp' → counter_of m < stamp' → StandsBehind array (behind open_zone (record { blocks = zone.blocks_of m; records = 1 })) stamp' (bytes ++ record_bytes m fragment) (ms ++ m ∷ [])
  stands_added stamp' later below = record {
    filled = filled_added array bytes ms m fragment stands.filled some may follows.size;
    ready = any_added (has_kind kinds.Ready) ms m ∙ ap (λ b. b || has_kind kinds.Ready m) stands.ready;
    no_digest = any_added (has_kind kinds.Digest) ms m ∙ ap (λ b. b || has_kind kinds.Digest m) stands.no_digest ∙ follows.no_digest;
    set = stands.set ∙ sym (set_more ms (m ∷ []) some);
    place = stands.place ∙ sym (index_more ms (m ∷ []) some);
    records = omega (arith, stands.records, length-append ms (m ∷ []));
    blocks = omega (arith, length-append bytes (record_bytes m fragment), length-record_bytes m fragment follows.fits follows.size, stands.blocks);
    later = omega (arith, stamp_added ms m, stands.later, later, below);
  }

  -- and what it says stands behind what they say
  pub items_added : array.geometry.k ≡ 1 → items_from (bytes ++ record_bytes m fragment) 0 (ms ++ m ∷ []) ≡ items_from bytes 0 ms ++ record_by (kind_of m.kind) m fragment ∷ []
  items_added one =
      let all = bytes ++ record_bytes m fragment in
      let end = end_from 0 ms in
      let payload : m.payload ≡ length fragment = sym (own_fragment array m one follows.fits follows.ours) ∙ follows.size in
      let here : length (bytes ++ marker_block m) ≡ 512 * (end + 1) = omega (arith, length-append bytes (marker_block m), length-marker_block m follows.fits, stands.filled.fill.full) in
      let own : fragment_at all (end + 1) m.payload ≡ fragment =
      ap (λ (l : List ℕ). fragment_at l (end + 1) m.payload) (sym (append_assoc bytes (marker_block m) (fragment_blocks fragment)))
      ∙ ap (fragment_at ((bytes ++ marker_block m) ++ fragment_blocks fragment) (end + 1)) payload
      ∙ fragment_at-end (bytes ++ marker_block m) fragment (end + 1) here in
      items-added all 0 ms m
      ∙ ap (λ (l : List Record). l ++ record_by (kind_of m.kind) m (fragment_at all (end + 1) m.payload) ∷ []) (items-front array bytes (record_bytes m fragment) None 0 ms one stands.filled.fill.begin)
      ∙ ap (λ (l : List ℕ). items_from bytes 0 ms ++ record_by (kind_of m.kind) m l ∷ []) own
