-- Which records of sets are valid, whatever their payloads hold.
use Rattle.std.specs.Prelude.{◌≡◌, ℕ, ◌≤◌, List, [], ◌∷◌, length, map, take, Option, if◌then◌else◌}
use Rattle.std.specs.List.{AllByRecursion}
use Rattle.std.specs.Ordering.{nat_cmp}
use Rattle.std.specs.BTreeMap.{BTreeMap, get_by}
use Rattle.marker_format.specs.Kind.{kind_of}
use Rattle.array_model.specs.Record.{Record}
use Rattle.array_model.specs.Reading.{record_by}
use Rattle.array_model.specs.Sets.{ReadSet, ValidSet, stands, valid, kept_by}
use Rattle.array_scan.specs.declared.set_read.Carrier.{Carrier}
use Rattle.array_scan.specs.declared.set_read.RecordAt.{RecordAt}
use Rattle.array_scan.specs.declared.set_read.SetRead.{SetRead}
use Rattle.array_scan.specs.declared.judge.SetScan.{SetScan}

-- what the carriers of a set hold as the payloads of its records
abbrev pub Payloads : Type 0
Payloads = List Carrier → RecordAt → List ℕ

-- a record with this payload
abbrev pub record_with : (RecordAt → List ℕ) → RecordAt → Record
record_with payload r = record_by (kind_of r.marker.kind) r.marker (payload r)

-- the agreed list of a set, with its payloads
abbrev pub records_with : Payloads → SetRead → List Record
records_with payload s = map (record_with (payload s.carriers.items)) s.records.items

-- a set, with the payloads of its records
abbrev pub set_with : Payloads → SetRead → ReadSet
set_with payload s = record { id = s.id; carriers = length s.carriers.items; records = records_with payload s; closed = s.closed }

-- the sets that were judged, with the payloads of their records
abbrev pub sets_with : Payloads → List SetScan → List ReadSet
sets_with payload sets = map (λ s. set_with payload s.read) sets

-- those that stand, with the records that are valid
abbrev pub valid_with : Payloads → List SetScan → List ValidSet
valid_with payload [] = []
valid_with payload (s ∷ above) =
    if s.stands then record { id = s.read.id; records = take s.valid (records_with payload s.read) } ∷ valid_with payload above
    else valid_with payload above

-- how many records of the target the cuts keep that were noted
abbrev pub noted : BTreeMap ℕ ℕ → ℕ → Option ℕ
noted kept target = get_by (λ id. nat_cmp target id) kept

-- The sets are judged as what is read of them says, and it is noted what their valid cuts keep.
pub record IsJudged (k : ℕ) (sets : List SetScan) (kept : BTreeMap ℕ ℕ) : Type 0 where
  pub within : AllByRecursion (λ s. s.valid ≤ length s.read.records.items) sets
  pub standing : (payload : Payloads) → AllByRecursion (λ s. s.stands ≡ stands k (set_with payload s.read)) sets
  pub valid_are : (payload : Payloads) → valid k (sets_with payload sets) ≡ valid_with payload sets
  pub kept_are : (payload : Payloads) (target : ℕ) → noted kept target ≡ kept_by target (valid_with payload sets)
