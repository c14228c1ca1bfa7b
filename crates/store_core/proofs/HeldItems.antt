-- What an index has of each name and part, and what the records of its zone say with their payloads.
use Rattle.std.proofs.Common.{◌≡◌, ℕ, zero, suc, ◌+◌, ◌*◌, ◌≤◌, Bool, true, false, cond, List, [], ◌∷◌, length, Option, Some, None, is_some, Result, Ok, Err, refl, sym, ap, subst, ◌∙◌, arith}
use Rattle.std.specs.Prelude.{◌&&◌, ◌==◌, option_map}
use Rattle.std.specs.FinMap as finmap
use Rattle.std.proofs.lemmas.Bool.{eqb-true}
use Rattle.std.proofs.lemmas.List.{length-append}
use Rattle.smore_base.specs.Objects.{Value, Whole, Broken}
use Rattle.marker_format.specs.declared.kind.Kind.{Kind}
use Rattle.marker_format.specs.declared.kind.Kind.TheVariants as kinds
use Rattle.marker_format.specs.declared.marker.Marker.{Marker}
use Rattle.marker_format.specs.Kind.{kind_of, code_of}
use Rattle.marker_format.specs.Zone as zone
use Rattle.marker_format.specs.Zone.{Array, Stand, has_kind}
use Rattle.marker_format.specs.Fragment.{fragment_at, blocks_of}
use Rattle.array_model.specs.Record.{Record, Head, Ready, Part as PartRecord, Put, Delete, Cut, Digest, Snapshot, note_stamp, payload_of}
use Rattle.array_model.specs.Reading.{record_by}
use Rattle.array_model.specs.Map.{newest, later_note, is_less, part_of, or_else as payload_or, joined, parts_from, object_by, object_of, said_by as value_said, value_of}
use Rattle.store_core.specs.declared.extent.Extent.TheVariants.{Sized, Broken as BrokenExtent}
use Rattle.store_core.specs.declared.index.Note.{Note}
use Rattle.store_core.specs.declared.index.Part.{Part}
use Rattle.store_core.specs.declared.index.Index.{Index}
use Rattle.store_core.specs.Extent.{extent_of}
use Rattle.store_core.specs.Index.{notes_in, parts_in, added, bytes_from, extent_by, sizes_in, extent_in}
use Rattle.store_core.specs.Said.{said, note_read, part_at, or_else, part_from, Says}
use Rattle.store_core.proofs.SaidLaws.{kind_known}
use Rattle.store_core.proofs.ZoneItems.{items_from, own_fragment, length-fragment_at}

-- ---- the newest note

no_later : (name : List ℕ) (item : Record) (o : Option Record) → note_stamp name item ≡ None → later_note name item o ≡ o
no_later name item None none = ap (λ s. cond (is_some s) (Some item) None) none
no_later name item (Some n) none = ap (λ s. cond (is_less (note_stamp name n) s) (Some item) (Some n)) none ∙ at_one (note_stamp name n)
  where
    at_one : (s : Option ℕ) → cond (is_less s None) (Some item) (Some n) ≡ Some n
    at_one None = refl
    at_one (Some a) = refl

-- a payload makes no other note of a record
same_later : (name : List ℕ) (kind : Option Kind) (m : Marker) (payload : List ℕ) (o : Option Record) → later_note name (record_by kind m payload) o ≡ later_note name (record_by kind m []) o
same_later name (Some kinds.Put) m payload o = refl
same_later name (Some kinds.Delete) m payload o = refl
same_later name (Some kinds.Part) m payload o = no_later name (record_by (Some kinds.Part) m payload) o refl ∙ sym (no_later name (record_by (Some kinds.Part) m []) o refl)
same_later name (Some kinds.Digest) m payload o = no_later name (record_by (Some kinds.Digest) m payload) o refl ∙ sym (no_later name (record_by (Some kinds.Digest) m []) o refl)
same_later name (Some kinds.Snapshot) m payload o = no_later name (record_by (Some kinds.Snapshot) m payload) o refl ∙ sym (no_later name (record_by (Some kinds.Snapshot) m []) o refl)
same_later name (Some kinds.Head) m payload o = refl
same_later name (Some kinds.Cut) m payload o = refl
same_later name (Some kinds.Ready) m payload o = refl
same_later name (Some kinds.Trailer) m payload o = refl
same_later name None m payload o = refl

pub newest_items : (name : List ℕ) (bytes : List ℕ) (block : ℕ) (ms : List Marker) → newest name (items_from bytes block ms) ≡ newest name (said ms)
newest_items name bytes block [] = refl
newest_items name bytes block (m ∷ ms) =
    ap (later_note name (record_by (kind_of m.kind) m (fragment_at bytes (block + 1) m.payload))) (newest_items name bytes (block + zone.blocks_of m) ms)
    ∙ same_later name (kind_of m.kind) m (fragment_at bytes (block + 1) m.payload) (newest name (said ms))

-- ---- parts

-- the bytes of a part
abbrev pub payload_in : List ℕ → Part → List ℕ
payload_in bytes part = fragment_at bytes (part.block + 1) part.bytes

payload_at : (bytes : List ℕ) (block : ℕ) (m : Marker) (upload part : ℕ) → payload_of upload part (record_by (kind_of m.kind) m (fragment_at bytes (block + 1) m.payload)) ≡ option_map (payload_in bytes) (part_at block m upload part)
payload_at bytes block m upload part = at_kind (kind_of m.kind) refl
  where
    at_test : (b : Bool) → cond b (Some (fragment_at bytes (block + 1) m.payload)) None ≡ option_map (payload_in bytes) (cond b (Some (record { block = block; bytes = m.payload })) None)
    at_test true = refl
    at_test false = refl

    other : (kind : Kind) → kind_of m.kind ≡ Some kind → (code_of kind == 2) ≡ false → None ≡ option_map (payload_in bytes) (part_at block m upload part)
    other kind is apart = ap (λ b. option_map (payload_in bytes) (cond (b && (m.upload == upload) && (m.part == part)) (Some (record { block = block; bytes = m.payload })) None)) (sym (kind_known m kind kinds.Part is ∙ apart))

    unknown : kind_of m.kind ≡ None → None ≡ option_map (payload_in bytes) (part_at block m upload part)
    unknown none = at_part (has_kind kinds.Part m) refl
      where
        at_part : (b : Bool) → has_kind kinds.Part m ≡ b → None ≡ option_map (payload_in bytes) (cond (b && (m.upload == upload) && (m.part == part)) (Some (record { block = block; bytes = m.payload })) None)
        at_part true is = let no : kind_of m.kind ≡ Some kinds.Part = ap kind_of (eqb-true m.kind 2 is) in absurd cc
        at_part false is = refl

    at_kind : (kind : Option Kind) → kind_of m.kind ≡ kind → payload_of upload part (record_by kind m (fragment_at bytes (block + 1) m.payload)) ≡ option_map (payload_in bytes) (part_at block m upload part)
    at_kind (Some kinds.Part) is =
        at_test ((m.upload == upload) && (m.part == part))
        ∙ ap (λ b. option_map (payload_in bytes) (cond (b && (m.upload == upload) && (m.part == part)) (Some (record { block = block; bytes = m.payload })) None)) (sym (kind_known m kinds.Part kinds.Part is))
    at_kind (Some kinds.Head) is = other kinds.Head is refl
    at_kind (Some kinds.Put) is = other kinds.Put is refl
    at_kind (Some kinds.Delete) is = other kinds.Delete is refl
    at_kind (Some kinds.Cut) is = other kinds.Cut is refl
    at_kind (Some kinds.Ready) is = other kinds.Ready is refl
    at_kind (Some kinds.Digest) is = other kinds.Digest is refl
    at_kind (Some kinds.Snapshot) is = other kinds.Snapshot is refl
    at_kind (Some kinds.Trailer) is = other kinds.Trailer is refl
    at_kind None is = unknown is

pub part_read : (bytes : List ℕ) (block : ℕ) (ms : List Marker) (upload part : ℕ) → part_of upload part (items_from bytes block ms) ≡ option_map (payload_in bytes) (part_from block ms upload part)
part_read bytes block [] upload part = refl
part_read bytes block (m ∷ ms) upload part =
    ap (λ o. payload_or o (part_of upload part (items_from bytes (block + zone.blocks_of m) ms))) (payload_at bytes block m upload part)
    ∙ ap (payload_or (option_map (payload_in bytes) (part_at block m upload part))) (part_read bytes (block + zone.blocks_of m) ms upload part)
    ∙ mapped_or (part_at block m upload part)
  where
    mapped_or : (o : Option Part) → payload_or (option_map (payload_in bytes) o) (option_map (payload_in bytes) (part_from (block + zone.blocks_of m) ms upload part)) ≡ option_map (payload_in bytes) (or_else o (part_from (block + zone.blocks_of m) ms upload part))
    mapped_or None = refl
    mapped_or (Some p) = refl

-- a part lies within the bytes
abbrev pub LiesIn : List ℕ → Part → Type 0
LiesIn bytes part = 512 * ((part.block + 1) + blocks_of part.bytes) ≤ length bytes

pub part_lies : (array : Array) (bytes : List ℕ) (before : Option Marker) (block : ℕ) (ms : List Marker) (upload number : ℕ) (part : Part) → array.geometry.k ≡ 1 → Stand array bytes before block ms → part_from block ms upload number ≡ Some part → LiesIn bytes part
part_lies array bytes before block [] upload number part one stand e = absurd cc
part_lies array bytes before block (m ∷ ms) upload number part one stand e = at_one _ e (part_lies array bytes (Some m) (block + zone.blocks_of m) ms upload number part one stand.2)
  where
    here : LiesIn bytes (record { block = block; bytes = m.payload })
    here = subst (λ n. 512 * ((block + 1) + blocks_of n) ≤ length bytes) (own_fragment array m one stand.0.marker stand.0.ours) (omega (arith, stand.0.within))

    at_one : (b : Bool) → or_else (cond b (Some (record { block = block; bytes = m.payload })) None) (part_from (block + zone.blocks_of m) ms upload number) ≡ Some part → (part_from (block + zone.blocks_of m) ms upload number ≡ Some part → LiesIn bytes part) → LiesIn bytes part
    at_one true is later = let same : record { block = block; bytes = m.payload } ≡ part = cc in subst (LiesIn bytes) same here
    at_one false is later = later is

-- ---- what notes say

-- how many bytes are read
abbrev pub sized : Result (List ℕ) ℕ → Result ℕ ℕ
sized (Ok payload) = Ok (length payload)
sized (Err missing) = Err missing

joined_sized : (o : Option (List ℕ)) (part : ℕ) (rest : Result (List ℕ) ℕ) → sized (joined o part rest) ≡ added (option_map length o) part (sized rest)
joined_sized None part rest = refl
joined_sized (Some payload) part (Ok rest) = ap Ok (length-append payload rest)
joined_sized (Some payload) part (Err missing) = refl

module _ (array : Array) (one : array.geometry.k ≡ 1) (bytes : List ℕ) (ms : List Marker) (stand : Stand array bytes None 0 ms) (index : Index) (says : Says index ms) where
  items : List Record
  items = items_from bytes 0 ms

  -- a part's payload is found where the index says that it stands
  pub part_found : (upload part : ℕ) → part_of upload part (items_from bytes 0 ms) ≡ option_map (payload_in bytes) (finmap.get (parts_in index) (upload, part))
  part_found upload part = part_read bytes 0 ms upload part ∙ ap (option_map (payload_in bytes)) (sym (says.parts upload part))

  pub found_lies : (upload number : ℕ) (part : Part) → finmap.get (parts_in index) (upload, number) ≡ Some part → LiesIn bytes part
  found_lies upload number part e = part_lies array bytes None 0 ms upload number part one stand (sym (says.parts upload number) ∙ e)

  size_found : (upload part : ℕ) → option_map length (part_of upload part (items_from bytes 0 ms)) ≡ sizes_in (parts_in index) upload part
  size_found upload part = ap (option_map length) (part_found upload part) ∙ at_one (finmap.get (parts_in index) (upload, part)) refl
    where
      at_one : (o : Option Part) → finmap.get (parts_in index) (upload, part) ≡ o → option_map length (option_map (payload_in bytes) o) ≡ option_map (λ (p : Part). p.bytes) o
      at_one None e = refl
      at_one (Some p) e = ap Some (length-fragment_at bytes (p.block + 1) p.bytes (found_lies upload part p e))

  pub sizes_found : (upload part count : ℕ) → sized (parts_from (items_from bytes 0 ms) upload part count) ≡ bytes_from (sizes_in (parts_in index) upload) part count
  sizes_found upload part zero = refl
  sizes_found upload part (suc count) =
      joined_sized (part_of upload part (items_from bytes 0 ms)) part (parts_from (items_from bytes 0 ms) upload (part + 1) count)
      ∙ ap (λ o. added o part (sized (parts_from (items_from bytes 0 ms) upload (part + 1) count))) (size_found upload part)
      ∙ ap (added (sizes_in (parts_in index) upload part) part) (sizes_found upload (part + 1) count)

  extent_by_sizes : (note : Note) (r : Result (List ℕ) ℕ) → extent_of (object_by note.upload note.parts note.length r) ≡ extent_by note (sized r)
  extent_by_sizes note (Ok payload) = at_one (length payload == note.length)
    where
      at_one : (b : Bool) → extent_of (cond b (Whole payload) (Broken note.upload note.parts)) ≡ cond b (Sized (length payload)) (BrokenExtent note.upload note.parts)
      at_one true = refl
      at_one false = refl
  extent_by_sizes note (Err missing) = refl

  -- the object of a note has the extent that the index says
  pub extent_found : (note : Note) → extent_of (object_of (items_from bytes 0 ms) note.upload note.parts note.length) ≡ extent_in (parts_in index) note
  extent_found note = extent_by_sizes note (parts_from (items_from bytes 0 ms) note.upload 0 note.parts) ∙ ap (extent_by note) (sizes_found note.upload 0 note.parts)

  -- what a name stands for is what its note in the index says
  abbrev pub object_in : Note → Value
  object_in note = object_of (items_from bytes 0 ms) note.upload note.parts note.length

  value_noted : (o : Option Record) → value_said (items_from bytes 0 ms) o ≡ option_map object_in (note_read o)
  value_noted None = refl
  value_noted (Some (Put name stamp upload parts size)) = refl
  value_noted (Some (Delete name stamp)) = refl
  value_noted (Some (PartRecord upload part payload)) = refl
  value_noted (Some Head) = refl
  value_noted (Some Ready) = refl
  value_noted (Some (Cut target kept)) = refl
  value_noted (Some (Digest part parts payload)) = refl
  value_noted (Some (Snapshot stamp part parts size payload)) = refl

  pub value_found : (name : List ℕ) → value_of (items_from bytes 0 ms) name ≡ option_map object_in (finmap.get (notes_in index) name)
  value_found name = ap (value_said (items_from bytes 0 ms)) (newest_items name bytes 0 ms) ∙ value_noted (newest name (said ms)) ∙ ap (option_map object_in) (sym (says.notes name))

  pub extents_found : (name : List ℕ) → option_map extent_of (value_of (items_from bytes 0 ms) name) ≡ option_map (extent_in (parts_in index)) (finmap.get (notes_in index) name)
  extents_found name = ap (option_map extent_of) (value_found name) ∙ at_one (finmap.get (notes_in index) name)
    where
      at_one : (o : Option Note) → option_map extent_of (option_map object_in o) ≡ option_map (extent_in (parts_in index)) o
      at_one None = refl
      at_one (Some note) = ap Some (extent_found note)
