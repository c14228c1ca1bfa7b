-- Which valid records are needed, as tests: what `Need` says, in a form that can be computed.
use Rattle.std.specs.Prelude.{ℕ, zero, suc, ◌+◌, ◌-◌, Bool, true, false, ◌&&◌, ◌||◌, not, nat_le, nat_lt, ◌==◌, List, [], ◌∷◌, length, count_by, Option, Some, None, is_some, if◌then◌else◌}
use Rattle.std.specs.List.{list_any, list_all}
use Rattle.std.specs.Str.{bytes_eq}
use Rattle.array_model.specs.Record.{Record, Head, Ready, Part, Put, Delete, Cut, Digest, Snapshot, note_stamp}
use Rattle.array_model.specs.Sets.{ReadSet, Placed, records_of}
use Rattle.array_model.specs.Map.{newest, items_of}

-- the two records are copies of each other
abbrev pub is_same : Record → Record → Bool
is_same Head Head = true
is_same Ready Ready = true
is_same (Part upload part payload) (Part u i p) = (upload == u) && (part == i) && bytes_eq payload p
is_same (Put name stamp upload parts bytes) (Put n s u is b) = bytes_eq name n && (stamp == s) && (upload == u) && (parts == is) && (bytes == b)
is_same (Delete name stamp) (Delete n s) = bytes_eq name n && (stamp == s)
is_same (Cut target kept) (Cut t n) = (target == t) && (kept == n)
is_same (Digest part parts payload) (Digest i is p) = (part == i) && (parts == is) && bytes_eq payload p
is_same (Snapshot stamp part parts bytes payload) (Snapshot s i is b p) = (stamp == s) && (part == i) && (parts == is) && (bytes == b) && bytes_eq payload p
is_same one other = false

-- the same as the record that is there
abbrev pub is_that : Record → Option Record → Bool
is_that item None = false
is_that item (Some other) = is_same item other

-- the record is a put note of this upload, and the newest note of its name
abbrev pub names_upload : List Record → ℕ → Record → Bool
names_upload items upload (Put name stamp u parts bytes) = (u == upload) && is_that (Put name stamp u parts bytes) (newest name items)
names_upload items upload item = false

-- ---- snapshots

-- what all parts of a snapshot say of it
pub record Stamped : Type 0 where
  pub stamp : ℕ
  pub parts : ℕ
  pub bytes : ℕ

-- how many bytes this part of the snapshot has, where the record is one
abbrev pub snapshot_bytes : Stamped → ℕ → Record → Option ℕ
snapshot_bytes of part (Snapshot stamp i parts bytes payload) =
    if (stamp == of.stamp) && (i == part) && (parts == of.parts) && (bytes == of.bytes) then Some (length payload) else None
snapshot_bytes of part item = None

-- so many bytes are had of what is left, and the rest passes
abbrev pub leaves : Option ℕ → ℕ → (ℕ → Bool) → Bool
leaves None left rest = false
leaves (Some n) left rest = nat_le n left && rest (left - n)

-- the parts from this one on, so many, are there and can have so many bytes together
abbrev pub can_have : List Record → Stamped → ℕ → ℕ → ℕ → Bool
can_have items of part zero left = left == 0
can_have items of part (suc more) left = list_any (λ item. leaves (snapshot_bytes of part item) left (can_have items of (part + 1) more)) items

-- the record is a part of a snapshot with this stamp of which all parts are there
abbrev pub completes : List Record → ℕ → Record → Bool
completes items stamp (Snapshot s i parts bytes payload) =
    (s == stamp) && nat_lt 0 parts && can_have items (record { stamp = stamp; parts = parts; bytes = bytes }) 0 parts bytes
completes items stamp item = false

-- a snapshot with this stamp is complete
abbrev pub is_complete : List Record → ℕ → Bool
is_complete items stamp = list_any (completes items stamp) items

-- the record is of no complete snapshot with a greater stamp
abbrev pub is_no_newer : List Record → ℕ → Record → Bool
is_no_newer items stamp (Snapshot s i parts bytes payload) = nat_le s stamp || not (is_complete items s)
is_no_newer items stamp item = true

-- ---- needed records

-- a copy of the record is to be there
abbrev pub is_wanted : List ℕ → List Record → Record → Bool
is_wanted uploads items (Put name stamp upload parts bytes) = is_that (Put name stamp upload parts bytes) (newest name items)
is_wanted uploads items (Delete name stamp) = is_that (Delete name stamp) (newest name items) && nat_lt 1 (count_by (λ item. is_some (note_stamp name item)) items)
is_wanted uploads items (Part upload part payload) = list_any (λ u. u == upload) uploads || list_any (names_upload items upload) items
is_wanted uploads items (Snapshot stamp part parts bytes payload) = is_complete items stamp && list_all (is_no_newer items stamp) items
is_wanted uploads items item = false

-- a set of this number has a carrier
abbrev pub has_carrier : List ReadSet → ℕ → Bool
has_carrier sets id = list_any (λ set. (set.id == id) && nat_lt 0 set.carriers) sets

-- a cut that keeps as many of the target's records, or fewer
abbrev pub cuts_at_most : ℕ → ℕ → Record → Bool
cuts_at_most target kept (Cut t fewer) = (t == target) && nat_le fewer kept
cuts_at_most target kept item = false

-- a cut that counts, before these records
abbrev pub is_last_cut : List ReadSet → List Placed → Record → Bool
is_last_cut sets after (Cut target kept) = has_carrier sets target && not (list_any (λ later. cuts_at_most target kept later.item) after)
is_last_cut sets after item = false

-- what a record stands between: the records before it and behind it
pub record Beside : Type 0 where
  pub before : List Placed
  pub after : List Placed

-- the record there is needed
abbrev pub is_needed : List ℕ → List ReadSet → List Record → Beside → Record → Bool
is_needed uploads sets items beside item =
    (is_wanted uploads items item && not (list_any (λ copy. is_same copy.item item) beside.before)) || is_last_cut sets beside.after item

-- the needed ones of records that stand behind these, the last of which comes first
abbrev pub needed_among : List ℕ → List ReadSet → List Record → List Placed → List Placed → List Placed
needed_among uploads sets items before [] = []
needed_among uploads sets items before (it ∷ after) =
    if is_needed uploads sets items (record { before = before; after = after }) it.item
    then it ∷ needed_among uploads sets items (it ∷ before) after
    else needed_among uploads sets items (it ∷ before) after

-- The needed records of what is read, in order.
unfoldable pub needed_of : ℕ → List ℕ → List ReadSet → List Placed
needed_of k uploads sets = needed_among uploads sets (items_of (records_of k sets)) [] (records_of k sets)
