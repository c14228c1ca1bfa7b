-- The valid records of sets, one after another.
use Rattle.std.specs.Prelude.{◌≡◌, ℕ, List, map, IsTrue, Contains}
use Rattle.array_model.specs.Record.{Record}
use Rattle.array_model.specs.Sets as model
use Rattle.array_scan.specs.declared.judge.SetScan.{SetScan}
use Rattle.array_scan.specs.declared.records.ValidRecord.{ValidRecord}
use Rattle.array_scan.specs.Judged.{Payloads, record_with}

-- what the record has as its payload
abbrev pub payload_with : Payloads → ValidRecord → List ℕ
payload_with payload v = payload v.set.now.carriers.items v.at.now

-- the record, with its payload
abbrev pub item_with : Payloads → ValidRecord → Record
item_with payload v = record_with (payload v.set.now.carriers.items) v.at.now

abbrev pub items_with : Payloads → List ValidRecord → List Record
items_with payload records = map (item_with payload) records

-- the record at its place, with its payload
abbrev pub placed_with : Payloads → ValidRecord → model.Placed
placed_with payload v = record { set = v.set.now.id; position = v.position; item = item_with payload v }

-- it is a record of one of these sets, which stands
pub record IsOfStanding (sets : List SetScan) (v : ValidRecord) : Type 0 where
  pub set : SetScan
  pub there : Contains sets set
  pub stands : IsTrue set.stands
  pub is : v.set.now ≡ set.read
