-- How many records a set has room for, and how many sets an array has room for.
use Rattle.std.specs.Prelude.{◌≡◌, ◌≤◌, ℕ, zero, suc, ◌+◌, ◌-◌, ◌*◌, ◌/◌, min, Bool, true, false, ◌&&◌, nat_le, List, [], ◌∷◌, sum_by, length, Option, Some, None, if◌then◌else◌}
use Rattle.std.specs.Int.{div_ceil}
use Rattle.smore_base.specs.declared.limits.TheConstants.{CONTENT_BYTES, LINE_BYTES, MAX_RECORDS}
use Rattle.smore_base.specs.declared.geometry.Geometry.{Geometry}

-- the bytes of a fragment of a payload
abbrev pub fragment_bytes : Geometry → ℕ → ℕ
fragment_bytes g payload = div_ceil payload g.k

-- the blocks that a record takes in a zone, by the bytes of its fragment: its marker's, and those of the fragment
abbrev pub record_blocks : ℕ → ℕ
record_blocks fragment = 1 + div_ceil fragment CONTENT_BYTES

-- the bytes of a record's payload, at most
abbrev pub payload_room : Geometry → ℕ
payload_room g = g.k * g.shard

-- ---- the closing of a set: its digest lists its records, and a foot and a trailer may follow

-- how many digest records list so many records
abbrev pub digest_records : Geometry → ℕ → ℕ
digest_records g records = div_ceil (LINE_BYTES * records) (payload_room g)

-- the blocks of digest records of so many bytes together: all but the last are full
abbrev pub digest_blocks : Geometry → ℕ → ℕ
digest_blocks g bytes =
    let full = bytes / payload_room g in
    let rest = bytes - full * payload_room g in
    full * record_blocks g.shard + (if nat_le 1 rest then record_blocks (fragment_bytes g rest) else 0)

-- The blocks that closing a set of so many records takes, with those of a foot and a trailer.
abbrev pub closing : Geometry → ℕ → ℕ
closing g records = digest_blocks g (LINE_BYTES * records) + 2

-- Whether a record of so many blocks fits a set that has used so many blocks for so many records: it can still be closed
-- behind it, and no record of it, those of the digest among them, has a number above the greatest.
abbrev pub fits : Geometry → ℕ → ℕ → ℕ → Bool
fits g blocks used records =
    nat_le (used + blocks + closing g (records + 1)) g.blocks && nat_le (records + 1 + digest_records g (records + 1)) MAX_RECORDS

-- ---- room: how many sets can be formed

-- so many sets of so many zones, each on drives of its own, can be formed of so many empty zones on the drives
abbrev pub can_form : ℕ → List ℕ → ℕ → Bool
can_form members empty sets = nat_le (members * sets) (sum_by (min sets) empty)

-- the greatest number of sets up to this one that can be formed
abbrev pub most_formed : ℕ → List ℕ → ℕ → ℕ
most_formed members empty zero = 0
most_formed members empty (suc sets) = if can_form members empty (suc sets) then suc sets else most_formed members empty sets

-- Room: the greatest number of sets of so many members that can be formed of so many empty zones on the drives that are
-- live. No more can be formed than zones are empty.
abbrev pub room : ℕ → List ℕ → ℕ
room members empty = most_formed members empty (sum_by (λ zones. zones) empty)

-- so many sets can be formed, and no more
pub record IsGreatest (members : ℕ) (empty : List ℕ) (sets : ℕ) : Type 0 where
  pub can : can_form members empty sets ≡ true
  pub most : (more : ℕ) → can_form members empty more ≡ true → more ≤ sets

-- Room is what its name says.
abbrev pub RoomIsGreatest : Type 0
RoomIsGreatest = (members : ℕ) (empty : List ℕ) → 1 ≤ members → IsGreatest members empty (room members empty)

-- ---- need: how many sets a step's records open

-- the set that takes the next record: the blocks that it has used, and its records
pub record OpenSet : Type 0 where
  pub used : ℕ
  pub records : ℕ

-- a set that was just opened has a head and a ready record, of a block each
abbrev pub fresh : OpenSet
fresh = record { used = 2; records = 2 }

-- the set behind a record of so many blocks
abbrev pub behind : ℕ → OpenSet → OpenSet
behind blocks set = record { used = set.used + blocks; records = set.records + 1 }

abbrev pub fits_open : Geometry → ℕ → Option OpenSet → Bool
fits_open g blocks None = false
fits_open g blocks (Some set) = fits g blocks set.used set.records

-- the set behind a record, which opened one where it didn't fit
abbrev pub open_behind : ℕ → Option OpenSet → OpenSet
open_behind blocks None = behind blocks fresh
open_behind blocks (Some set) = behind blocks set

-- Need: the number of sets that records open, by the bytes of their fragments in order, from an open set on that takes
-- records, or from none.
abbrev pub need : Geometry → Option OpenSet → List ℕ → ℕ
need g current [] = 0
need g current (fragment ∷ fragments) =
    let blocks = record_blocks fragment in
    if fits_open g blocks current then need g (Some (open_behind blocks current)) fragments
    else 1 + need g (Some (open_behind blocks None)) fragments

-- No step opens more sets than it has records.
abbrev pub NeedIsAtMost : Type 0
NeedIsAtMost = (g : Geometry) (current : Option OpenSet) (fragments : List ℕ) → need g current fragments ≤ length fragments
