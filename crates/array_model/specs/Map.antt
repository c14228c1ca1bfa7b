-- What valid records say of each name.
use Rattle.std.specs.Prelude.{ℕ, zero, suc, ◌+◌, Bool, false, nat_lt, ◌==◌, List, [], ◌∷◌, ◌++◌, length, map, Option, Some, None, Result, Ok, Err, is_some, if◌then◌else◌}
use Rattle.std.specs.FinMap as finmap
use Rattle.smore_base.specs.Objects.{Value, Whole, Broken, Map}
use Rattle.array_model.specs.Record.{Record, Put, Delete, note_stamp, payload_of}
use Rattle.array_model.specs.Sets.{ReadSet, Placed, records_of}

-- both are there, and the first is the lesser
abbrev pub is_less : Option ℕ → Option ℕ → Bool
is_less (Some a) (Some b) = nat_lt a b
is_less (Some a) None = false
is_less None b = false

-- a record, or a note behind it: the note behind it, unless its stamp is the lesser
abbrev pub later_note : List ℕ → Record → Option Record → Option Record
later_note name item None = if is_some (note_stamp name item) then Some item else None
later_note name item (Some note) = if is_less (note_stamp name note) (note_stamp name item) then Some item else Some note

-- The newest note of a name among records in order: that of the greatest stamp, and of those the last.
abbrev pub newest : List ℕ → List Record → Option Record
newest name [] = None
newest name (item ∷ items) = later_note name item (newest name items)

-- this one, or else the other
abbrev pub or_else : Option (List ℕ) → Option (List ℕ) → Option (List ℕ)
or_else None other = other
or_else (Some payload) other = Some payload

-- the first payload of this part of this upload among records in order
abbrev pub part_of : ℕ → ℕ → List Record → Option (List ℕ)
part_of upload part [] = None
part_of upload part (item ∷ items) = or_else (payload_of upload part item) (part_of upload part items)

-- a part's payload and the rest behind it, or the first part that isn't there
abbrev pub joined : Option (List ℕ) → ℕ → Result (List ℕ) ℕ → Result (List ℕ) ℕ
joined None part rest = Err part
joined (Some payload) part (Ok rest) = Ok (payload ++ rest)
joined (Some payload) part (Err missing) = Err missing

-- the payloads of so many parts from this one on, joined, or the first part that isn't there
abbrev pub parts_from : List Record → ℕ → ℕ → ℕ → Result (List ℕ) ℕ
parts_from items upload part zero = Ok []
parts_from items upload part (suc more) = joined (part_of upload part items) part (parts_from items upload (part + 1) more)

-- the object of these payloads, where they have so many bytes
abbrev pub object_by : ℕ → ℕ → ℕ → Result (List ℕ) ℕ → Value
object_by upload parts bytes (Ok payloads) = if length payloads == bytes then Whole payloads else Broken upload parts
object_by upload parts bytes (Err missing) = Broken upload missing

-- The object of an upload of so many parts and bytes: the payloads of its parts, joined, where all are there and have so
-- many bytes together. Else it is broken at the first part that isn't there, or behind the last one.
abbrev pub object_of : List Record → ℕ → ℕ → ℕ → Value
object_of items upload parts bytes = object_by upload parts bytes (parts_from items upload 0 parts)

-- what a note says of its name
abbrev pub said_by : List Record → Option Record → Option Value
said_by items (Some (Put name stamp upload parts bytes)) = Some (object_of items upload parts bytes)
said_by items other = None

-- what a name stands for
abbrev pub value_of : List Record → List ℕ → Option Value
value_of items name = said_by items (newest name items)

-- the records without their places
abbrev pub items_of : List Placed → List Record
items_of records = map (λ r. r.item) records

-- what is read of a name
abbrev pub value_in : ℕ → List ReadSet → List ℕ → Option Value
value_in k sets name = value_of (items_of (records_of k sets)) name

-- a name stands for what it is said to, or for nothing
abbrev pub with_value : List ℕ → Option Value → Map → Map
with_value name (Some value) objects = finmap.insert objects name value
with_value name None objects = finmap.remove objects name

-- what all names stand for, by what is said of the name of each note
abbrev pub map_by : List Record → List Record → Map
map_by items [] = finmap.empty
map_by items (Put name stamp upload parts bytes ∷ more) = with_value name (value_of items name) (map_by items more)
map_by items (Delete name stamp ∷ more) = with_value name (value_of items name) (map_by items more)
map_by items (item ∷ more) = map_by items more

-- The map of what is read: it has for each name what is read of it.
abbrev pub map_of : ℕ → List ReadSet → Map
map_of k sets = map_by (items_of (records_of k sets)) (items_of (records_of k sets))
