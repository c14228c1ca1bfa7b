-- What the records of a zone say of names and parts, by their markers alone.
use Rattle.std.specs.Prelude.{◌≡◌, ℕ, ◌+◌, ◌&&◌, ◌==◌, List, [], ◌∷◌, map, Option, Some, None, if◌then◌else◌}
use Rattle.std.specs.FinMap as finmap
use Rattle.marker_format.specs.declared.kind.Kind.TheVariants as kinds
use Rattle.marker_format.specs.declared.marker.Marker.{Marker}
use Rattle.marker_format.specs.Kind.{kind_of}
use Rattle.marker_format.specs.Zone.{blocks_of, has_kind}
use Rattle.array_model.specs.Record.{Record, Put, note_stamp}
use Rattle.array_model.specs.Reading.{record_by}
use Rattle.array_model.specs.Map.{newest, is_less}
use Rattle.store_core.specs.declared.index.Note.{Note}
use Rattle.store_core.specs.declared.index.Part.{Part}
use Rattle.store_core.specs.declared.index.Index.{Index}
use Rattle.store_core.specs.declared.said.Said.{Said}
use Rattle.store_core.specs.Extent.{ByName}
use Rattle.store_core.specs.Index.{notes_in, parts_in, with_note}

-- a record as its marker says it, without its payload
abbrev pub said_by : Marker → Record
said_by m = record_by (kind_of m.kind) m []

abbrev pub said : List Marker → List Record
said ms = map said_by ms

-- the note that a record is, where it gives its name an object
abbrev pub note_read : Option Record → Option Note
note_read (Some (Put name stamp upload parts bytes)) = Some (record { upload = upload; parts = parts; length = bytes })
note_read other = None

-- the stamp of a note of the name
abbrev pub stamp_read : List ℕ → Option Record → Option ℕ
stamp_read name None = None
stamp_read name (Some item) = note_stamp name item

-- a part of an upload, where the marker at this block is its
abbrev pub part_at : ℕ → Marker → ℕ → ℕ → Option Part
part_at block m upload number =
    if has_kind kinds.Part m && (m.upload == upload) && (m.part == number) then Some (record { block = block; bytes = m.payload }) else None

-- this one, or else the other
abbrev pub or_else : Option Part → Option Part → Option Part
or_else (Some part) other = Some part
or_else None other = other

-- the first copy of a part of an upload, among records that stand from the block on
abbrev pub part_from : ℕ → List Marker → ℕ → ℕ → Option Part
part_from block [] upload number = None
part_from block (m ∷ ms) upload number = or_else (part_at block m upload number) (part_from (block + blocks_of m) ms upload number)

-- The index has for each name the newest note, where it gives the name an object, and the first copy of each part.
pub record Says (index : Index) (ms : List Marker) : Type 0 where
  pub notes : (name : List ℕ) → finmap.get (notes_in index) name ≡ note_read (newest name (said ms))
  pub parts : (upload number : ℕ) → finmap.get (parts_in index) (upload, number) ≡ part_from 0 ms upload number

-- the greatest stamps of names
abbrev pub stamps_in : Said → ByName ℕ
stamps_in s = finmap.from_entries (map (λ e. (e.0.items, e.1)) s.stamps.entries)

-- this was said by the records, whichever name is asked for
pub record HasSaid (s : Said) (ms : List Marker) : Type 0 where
  pub says : Says s.index ms
  pub stamps : (name : List ℕ) → finmap.get (stamps_in s) name ≡ stamp_read name (newest name (said ms))

-- a note was added, unless the name has one with a greater stamp
pub record Noted (name : List ℕ) (stamp : ℕ) (note : Option Note) (old new : Said) : Type 0 where
  pub parts : parts_in new.index ≡ parts_in old.index
  pub notes : notes_in new.index ≡ (if is_less (Some stamp) (finmap.get (stamps_in old) name) then notes_in old.index else with_note name note (notes_in old.index))
  pub stamps : stamps_in new ≡ (if is_less (Some stamp) (finmap.get (stamps_in old) name) then stamps_in old else finmap.insert (stamps_in old) name stamp)
