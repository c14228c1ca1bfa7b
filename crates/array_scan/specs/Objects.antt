-- What names stand for, without the bytes of objects.
use Rattle.std.specs.Prelude.{◌≡◌, ℕ, ◌+◌, ◌≤◌, List, length, Option, Some, None, option_map, Result, Ok, Err}
use Rattle.std.specs.Ordering.{nat_cmp}
use Rattle.std.specs.Cmp.Lexicographic.{slice_cmp}
use Rattle.std.specs.BTreeMap.{BTreeMap, get_by}
use Rattle.std.specs.FinMap as finmap
use Rattle.smore_base.specs.Objects as model
use Rattle.zone_bay.specs.Contents.{Shape}
use Rattle.array_model.specs.Record.{Record}
use Rattle.array_model.specs.Map.{with_value, value_of, map_by}
use Rattle.array_scan.specs.declared.set_read.Carrier.{Carrier}
use Rattle.array_scan.specs.declared.set_read.RecordAt.{RecordAt}
use Rattle.array_scan.specs.declared.records.ValidRecord.{ValidRecord}
use Rattle.array_scan.specs.declared.object.Object.{Object}
use Rattle.array_scan.specs.declared.object.Object.TheVariants as objects
use Rattle.array_scan.specs.declared.objects.What.{What}
use Rattle.array_scan.specs.declared.objects.What.TheVariants.{Whole, Broken}
use Rattle.array_scan.specs.Judged.{Payloads}
use Rattle.array_scan.specs.SetRead.{FitsBay}
use denote.Ref.{Bor}

-- each payload has as many bytes as its marker says
abbrev pub HasLengths : Payloads → Type 0
HasLengths payload = (carriers : List Carrier) (r : RecordAt) → length (payload carriers r) ≡ r.marker.payload

-- what a value is, but for its bytes
abbrev pub what_of : model.Value → What
what_of (model.Whole bytes) = Whole (length bytes)
what_of (model.Broken upload part) = Broken upload part

-- how many bytes there are, where they are there
abbrev pub len_of : Result (List ℕ) ℕ → Result ℕ ℕ
len_of (Ok bytes) = Ok (length bytes)
len_of (Err part) = Err part

-- so many more
abbrev pub add_len : ℕ → Result ℕ ℕ → Result ℕ ℕ
add_len more (Ok bytes) = Ok (more + bytes)
add_len more (Err part) = Err part

-- what the names stand for, by what is said of this one where there is one
abbrev pub with_name : List Record → Option (List ℕ) → List Record → model.Map
with_name items None rest = map_by items rest
with_name items (Some name) rest = with_value name (value_of items name) (map_by items rest)

-- what is told of the name
abbrev pub told_of : BTreeMap (Bor (List ℕ)) What → List ℕ → Option What
told_of objects name = get_by (λ k. slice_cmp nat_cmp name k.now) objects

-- They tell what each name stands for in the map.
abbrev pub Tells : BTreeMap (Bor (List ℕ)) What → model.Map → Type 0
Tells objects names = (name : List ℕ) → told_of objects name ≡ option_map what_of (finmap.get names name)

-- what a name stands for, by what was read of its object
abbrev pub value_by : Object → model.Value
value_by (objects.Whole bytes) = model.Whole bytes.items
value_by (objects.Broken upload part) = model.Broken upload part

-- k carriers in zones of the bay, whose indexes rise and are below n, have the record
pub record IsReadable (shape : Shape) (k n : ℕ) (v : ValidRecord) : Type 0 where
  pub fits : FitsBay shape n v.set.now
  pub enough : k ≤ length v.set.now.carriers.items
