-- Which sets are worth cleaning, and which one is cleaned.
use Rattle.std.specs.Prelude.{ℕ, ◌*◌, Bool, ◌&&◌, nat_le, ◌==◌, List, [], ◌∷◌, length, filter, sum_by, Option, Some, None, if◌then◌else◌}
use Rattle.std.specs.Int.{div_ceil}
use Rattle.std.specs.List.{list_any, find}
use Rattle.smore_base.specs.Room.{record_blocks}
use Rattle.array_model.specs.Record.{Record, Part, Put, Delete, Snapshot}
use Rattle.array_model.specs.Sets.{ReadSet, Placed, records_of}
use Rattle.array_model.specs.Shelf.{is_on_shelf}
use Rattle.array_model.specs.NeedTests.{needed_of}
use Rattle.array_model.specs.Enough.{is_settled}

-- how many blocks a record with so many bytes of payload takes in each zone of its set
abbrev pub blocks_for : ℕ → ℕ → ℕ
blocks_for k bytes = record_blocks (div_ceil bytes k)

-- The blocks of a record that cleaning would move, if it is needed. A set's own records and its cuts don't count.
abbrev pub moved_blocks : ℕ → Record → ℕ
moved_blocks k (Part upload part payload) = blocks_for k (length payload)
moved_blocks k (Put name stamp upload parts bytes) = blocks_for k 0
moved_blocks k (Delete name stamp) = blocks_for k 0
moved_blocks k (Snapshot stamp part parts bytes payload) = blocks_for k (length payload)
moved_blocks k item = 0

-- the blocks of those of the records that stand in this set
abbrev pub blocks_in : ℕ → ℕ → List Placed → ℕ
blocks_in k id records = sum_by (λ it. if it.set == id then moved_blocks k it.item else 0) records

-- the used blocks of a set: those of its valid records
unfoldable pub used : ℕ → List ReadSet → ℕ → ℕ
used k sets id = blocks_in k id (records_of k sets)

-- its needed blocks: those of its needed records
unfoldable pub needed : ℕ → List ℕ → List ReadSet → ℕ → ℕ
needed k uploads sets id = blocks_in k id (needed_of k uploads sets)

-- A set is worth cleaning where it is settled, and so has k carriers, isn't dropped, and no more than three quarters of what
-- it uses are needed.
abbrev pub is_worth_cleaning : ℕ → List ℕ → List ReadSet → ReadSet → Bool
is_worth_cleaning k uploads sets set =
    is_settled k sets set && is_on_shelf k sets set.id && nat_le (4 * needed k uploads sets set.id) (3 * used k sets set.id)

-- one of these sets, of which records were moved since the opening, and which has k carriers still and isn't dropped
abbrev pub is_half_cleaned : ℕ → List ReadSet → List ℕ → ReadSet → Bool
is_half_cleaned k sets half set = list_any (λ id. id == set.id) half && nat_le k set.carriers && is_on_shelf k sets set.id

-- of two sets the one with fewer needed blocks, and else the first
abbrev pub with_fewer : (ℕ → ℕ) → ReadSet → Option ReadSet → Option ReadSet
with_fewer blocks set None = Some set
with_fewer blocks set (Some other) = if nat_le (blocks set.id) (blocks other.id) then Some set else Some other

-- the set with the fewest needed blocks, and of several the first
abbrev pub with_fewest : (ℕ → ℕ) → List ReadSet → Option ReadSet
with_fewest blocks [] = None
with_fewest blocks (set ∷ above) = with_fewer blocks set (with_fewest blocks above)

-- this one, or else the other
abbrev pub or_set : Option ReadSet → Option ReadSet → Option ReadSet
or_set (Some set) other = Some set
or_set None other = other

-- The victim is the set that is half cleaned, and else of the sets worth cleaning the one with the fewest needed blocks, and
-- of several the lowest.
unfoldable pub victim : ℕ → List ℕ → List ℕ → List ReadSet → Option ReadSet
victim k uploads half sets =
    or_set (find (is_half_cleaned k sets half) sets) (with_fewest (needed k uploads sets) (filter (is_worth_cleaning k uploads sets) sets))
