-- Which valid records are needed.
use Rattle.std.specs.Prelude.{◌≡◌, ◌⊎◌, ℕ, ◌<◌, ◌≤◌, List, ◌∷◌, ◌++◌, length, sum_by, count_by, Some, is_some, Contains}
use Rattle.array_model.specs.Record.{Record, Put, Delete, Part, Cut, Snapshot, Head, Ready, Digest, note_stamp}
use Rattle.array_model.specs.Sets.{ReadSet, Placed, records_of, HasCarrier}
use Rattle.array_model.specs.Map.{newest, items_of}

-- A snapshot is complete where each of its parts is there, and their payloads have its bytes together.
pub record IsComplete (items : List Record) (stamp : ℕ) : Type 0 where
  pub parts : ℕ
  pub bytes : ℕ
  pub some : 0 < parts
  pub payloads : List (List ℕ)
  pub count : length payloads ≡ parts
  pub each : (i : ℕ) (payload : List ℕ) → i < parts → (before after : List (List ℕ)) → payloads ≡ before ++ payload ∷ after → length before ≡ i → Contains items (Snapshot stamp i parts bytes payload)
  pub whole : sum_by length payloads ≡ bytes

-- the complete snapshot with the greatest stamp
pub record IsNewestSnapshot (items : List Record) (stamp : ℕ) : Type 0 where
  pub complete : IsComplete items stamp
  pub newest_one : (other : ℕ) → IsComplete items other → other ≤ stamp

-- the upload is that of the newest note of a name
abbrev pub IsUploadOfNewest : List Record → ℕ → Type 0
IsUploadOfNewest items upload = (name : List ℕ) × (stamp : ℕ) × (parts : ℕ) × (bytes : ℕ) × (newest name items ≡ Some (Put name stamp upload parts bytes))

-- A record that must have a copy somewhere, among these records and for these uploads, which are in progress or are read.
abbrev pub IsWanted : List ℕ → List Record → Record → Type 0
-- the newest note of its name
IsWanted uploads items (Put name stamp upload parts bytes) = newest name items ≡ Some (Put name stamp upload parts bytes)
-- Without the newest note, a delete, an older note of the name would count.
IsWanted uploads items (Delete name stamp) = (newest name items ≡ Some (Delete name stamp)) × (1 < count_by (λ item. is_some (note_stamp name item)) items)
IsWanted uploads items (Part upload part payload) = Contains uploads upload ⊎ IsUploadOfNewest items upload
IsWanted uploads items (Snapshot stamp part parts bytes payload) = IsNewestSnapshot items stamp
IsWanted uploads items Head = ⊥
IsWanted uploads items Ready = ⊥
IsWanted uploads items (Cut target kept) = ⊥
IsWanted uploads items (Digest part parts payload) = ⊥

-- a cut that keeps as many of the target's records, or fewer
abbrev pub CutsAtMost : ℕ → ℕ → Record → Type 0
CutsAtMost target kept item = (fewer : ℕ) × (fewer ≤ kept) × (item ≡ Cut target fewer)

-- A cut counts for as long as its target has a carrier, also one below k: what it cut off would count again. A later cut
-- that keeps no more stands in for it.
abbrev pub IsLastCut : List ReadSet → List Placed → Record → Type 0
IsLastCut sets after item = (target : ℕ) × (kept : ℕ) × (item ≡ Cut target kept) × HasCarrier sets target × ((later : Placed) → Contains after later → CutsAtMost target kept later.item → ⊥)

-- A valid record is needed where it is wanted and is the first of its copies, or is a cut that counts.
pub record IsNeeded (k : ℕ) (uploads : List ℕ) (sets : List ReadSet) (it : Placed) : Type 0 where
  pub before : List Placed
  pub after : List Placed
  pub valid : records_of k sets ≡ before ++ it ∷ after
  pub why : (IsWanted uploads (items_of (records_of k sets)) it.item × ((copy : Placed) → Contains before copy → copy.item ≡ it.item → ⊥)) ⊎ IsLastCut sets after it.item

-- a set that holds a needed record
abbrev pub IsNeededSet : ℕ → List ℕ → List ReadSet → ℕ → Type 0
IsNeededSet k uploads sets id = (it : Placed) × IsNeeded k uploads sets it × (it.set ≡ id)
