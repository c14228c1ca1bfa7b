-- What a core's index says of each name, and where it says that parts stand.
use Rattle.std.specs.Prelude.{ℕ, zero, suc, ◌+◌, ◌==◌, List, map, Option, Some, None, option_map, is_some, Result, Ok, Err, if◌then◌else◌}
use Rattle.std.specs.Ordering.{nat_cmp, ordering_then}
use Rattle.std.specs.declared.cmp.Ordering.{Ordering}
use Rattle.std.specs.FinMap as finmap
use Rattle.store_core.specs.declared.extent.Extent.{Extent}
use Rattle.store_core.specs.declared.extent.Extent.TheVariants.{Sized, Broken}
use Rattle.store_core.specs.declared.index.Note.{Note}
use Rattle.store_core.specs.declared.index.Part.{Part}
use Rattle.store_core.specs.declared.index.Index.{Index}
use Rattle.store_core.specs.Extent.{ByName, Extents, mapped}

-- from names to the notes of their objects
abbrev pub Notes : Type 0
Notes = ByName Note

-- an upload, and the number of one of its parts
abbrev pub PartKey : Type 0
PartKey = ℕ × ℕ

-- by upload and number
abbrev pub part_cmp : PartKey → PartKey → Ordering
part_cmp a b = ordering_then (nat_cmp a.0 b.0) (nat_cmp a.1 b.1)

-- from these to where the parts stand
abbrev pub Parts : Type 0
Parts = finmap.FinMap part_cmp Part

-- the notes of an index
abbrev pub notes_in : Index → Notes
notes_in index = finmap.from_entries (map (λ e. (e.0.items, e.1)) index.names.entries)

-- the parts of an index
abbrev pub parts_in : Index → Parts
parts_in index = finmap.from_entries index.parts.entries

-- the same notes, but for one name, which has this one, or none
abbrev pub with_note : List ℕ → Option Note → Notes → Notes
with_note name None notes = finmap.remove notes name
with_note name (Some note) notes = finmap.insert notes name note

-- the same parts, and this one, unless it is there
abbrev pub with_part : PartKey → Part → Parts → Parts
with_part key part parts = if is_some (finmap.get parts key) then parts else finmap.insert parts key part

-- the note of a put of so many bytes
abbrev pub note_of : ℕ → ℕ → Note
note_of upload bytes = record { upload = upload; parts = if bytes == 0 then 0 else 1; length = bytes }

-- the same parts, and the one part of a put, where it has bytes
abbrev pub with_part_of : ℕ → Part → Parts → Parts
with_part_of upload part parts = if part.bytes == 0 then parts else finmap.insert parts (upload, 0) part

-- ---- what a note says

-- a part's bytes and those of the parts behind it, or the first part that isn't there
abbrev pub added : Option ℕ → ℕ → Result ℕ ℕ → Result ℕ ℕ
added None part rest = Err part
added (Some bytes) part (Ok rest) = Ok (bytes + rest)
added (Some bytes) part (Err missing) = Err missing

-- how many bytes so many parts have from this one on, or the first part that isn't there
abbrev pub bytes_from : (ℕ → Option ℕ) → ℕ → ℕ → Result ℕ ℕ
bytes_from sizes part zero = Ok 0
bytes_from sizes part (suc more) = added (sizes part) part (bytes_from sizes (part + 1) more)

-- what a note says, by how many bytes its parts have together
abbrev pub extent_by : Note → Result ℕ ℕ → Extent
extent_by note (Ok bytes) = if bytes == note.length then Sized bytes else Broken note.upload note.parts
extent_by note (Err missing) = Broken note.upload missing

-- the bytes of each part of an upload that is there
abbrev pub sizes_in : Parts → ℕ → ℕ → Option ℕ
sizes_in parts upload part = option_map (λ (p : Part). p.bytes) (finmap.get parts (upload, part))

-- what a note says, by which parts are there
abbrev pub extent_in : Parts → Note → Extent
extent_in parts note = extent_by note (bytes_from (sizes_in parts note.upload) 0 note.parts)

-- what an index says of each name
abbrev pub extents_in : Index → Extents
extents_in index = mapped (extent_in (parts_in index)) (notes_in index)
