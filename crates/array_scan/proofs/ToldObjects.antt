-- What is told of names, against the values.
use Rattle.std.proofs.Common.{◌≡◌, ℕ, suc, ◌+◌, ◌-◌, ◌*◌, ◌<◌, ◌≤◌, Bool, true, false, cond, List, [], length, Option, Some, None, Result, Ok, Err, refl, sym, ap, ap₂, ◌∙◌, arith, bytes_eq}
use Rattle.std.specs.Prelude.{option_map}
use Rattle.std.specs.Ordering.{nat_cmp}
use Rattle.std.specs.Cmp.Lexicographic.{slice_cmp}
use Rattle.std.specs.BTreeMap.{BTreeMap, UpdatesBy, is_at}
use Rattle.std.specs.Map.{lookup}
use Rattle.std.specs.FinMap as finmap
use Rattle.std.proofs.lemmas.Map.Text.{btree_map_updates_str}
use denote.Ref.{Bor}
use Rattle.std.proofs.lemmas.List.{length-append}
use Rattle.smore_base.specs.Objects as model
use Rattle.array_model.specs.Record.{Record}
use Rattle.array_model.specs.Map.{joined, part_of, parts_from, with_value, value_of, map_by}
use Rattle.array_model.proofs.MapLaws.{get_with}
use Rattle.array_scan.specs.declared.records.ValidRecord.{ValidRecord}
use Rattle.array_scan.specs.declared.objects.What.{What}
use Rattle.array_scan.specs.Judged.{Payloads}
use Rattle.array_scan.specs.Valid.{payload_with, items_with}
use Rattle.array_scan.specs.Objects.{HasLengths, what_of, len_of, add_len, Tells}

-- the first so many parts are there and have so many bytes
pub record PartsSoFar (records : List ValidRecord) (upload parts part bytes : ℕ) : Type 0 where
  pub few : bytes ≤ part * 4294967295
  pub len : (payload : Payloads) → HasLengths payload → len_of (parts_from (items_with payload records) upload 0 parts) ≡ add_len bytes (len_of (parts_from (items_with payload records) upload part (parts - part)))

none_added : (r : Result ℕ ℕ) → r ≡ add_len 0 r
none_added (Ok n) = ap Ok (let e : n ≡ 0 + n = omega arith in e)
none_added (Err part) = refl

pub parts_none : (records : List ValidRecord) (upload parts : ℕ) → PartsSoFar records upload parts 0 0
parts_none records upload parts = record {
  few = omega arith;
  len = λ payload lengths. none_added (len_of (parts_from (items_with payload records) upload 0 parts)) ∙ ap (λ n. add_len 0 (len_of (parts_from (items_with payload records) upload 0 n))) (let e : parts ≡ parts - 0 = omega arith in e);
}

added_twice : (one other : ℕ) (r : Result ℕ ℕ) → add_len one (add_len other r) ≡ add_len (one + other) r
added_twice one other (Ok n) = ap Ok (let e : one + (other + n) ≡ one + other + n = omega arith in e)
added_twice one other (Err part) = refl

joined_len : (payload : List ℕ) (part : ℕ) (r : Result (List ℕ) ℕ) → len_of (joined (Some payload) part r) ≡ add_len (length payload) (len_of r)
joined_len payload part (Ok rest) = ap Ok (length-append payload rest)
joined_len payload part (Err missing) = refl

module _ (records : List ValidRecord) (upload parts part bytes : ℕ) (below : part < parts) (so_far : PartsSoFar records upload parts part bytes) where
  next_is : (payload : Payloads) (o : Option (List ℕ)) → part_of upload part (items_with payload records) ≡ o → parts_from (items_with payload records) upload part (parts - part) ≡ joined o part (parts_from (items_with payload records) upload (part + 1) (parts - (part + 1)))
  next_is payload o is =
      ap (parts_from (items_with payload records) upload part) (let e : parts - part ≡ suc (parts - (part + 1)) = omega (arith, below) in e)
      ∙ ap (λ o. joined o part (parts_from (items_with payload records) upload (part + 1) (parts - (part + 1)))) is

  pub parts_more : (v : ValidRecord) (more : ℕ) → more ≡ v.at.now.marker.payload → more ≤ 4294967295 → ((payload : Payloads) → Some (payload_with payload v) ≡ part_of upload part (items_with payload records)) → PartsSoFar records upload parts (part + 1) (bytes + more)
  parts_more v more is few found = record {
    few = let before = so_far.few in omega (arith, before, few);
    len = λ payload lengths.
        let rest = parts_from (items_with payload records) upload (part + 1) (parts - (part + 1)) in
        so_far.len payload lengths
        ∙ ap (λ r. add_len bytes (len_of r)) (next_is payload (Some (payload_with payload v)) (sym (found payload)))
        ∙ ap (add_len bytes) (joined_len (payload_with payload v) part rest ∙ ap (λ n. add_len n (len_of rest)) (lengths v.set.now.carriers.items v.at.now ∙ sym is))
        ∙ added_twice bytes more (len_of rest);
  }

  pub part_missing : ((payload : Payloads) → None ≡ part_of upload part (items_with payload records)) → (payload : Payloads) → HasLengths payload → Err part ≡ len_of (parts_from (items_with payload records) upload 0 parts)
  part_missing none = λ payload lengths. sym (so_far.len payload lengths ∙ ap (λ r. add_len bytes (len_of r)) (next_is payload None (sym (none payload))))

pub parts_all : (records : List ValidRecord) (upload parts part bytes : ℕ) → part ≡ parts → PartsSoFar records upload parts part bytes → (payload : Payloads) → HasLengths payload → Ok bytes ≡ len_of (parts_from (items_with payload records) upload 0 parts)
parts_all records upload parts part bytes all so_far payload lengths =
    sym (so_far.len payload lengths
    ∙ ap (λ n. add_len bytes (len_of (parts_from (items_with payload records) upload part n))) (let e : parts - part ≡ 0 = omega (arith, all) in e)
    ∙ ap Ok (let e : bytes + 0 ≡ bytes = omega arith in e))

-- ---- the map

map_one : (b : Bool) (x y : Option model.Value) → cond b (option_map what_of x) (option_map what_of y) ≡ option_map what_of (cond b x y)
map_one true x y = refl
map_one false x y = refl

pub told_none : (objects : BTreeMap (Bor (List ℕ)) What) → objects.entries ≡ [] → Tells objects finmap.empty
told_none objects none name = ap (lookup (is_at (λ k. slice_cmp nat_cmp name k.now))) none ∙ ap (option_map what_of) (sym (finmap.get-empty (slice_cmp nat_cmp) name))

pub told_more : (old new : BTreeMap (Bor (List ℕ)) What) (items rest : List Record) (name : List ℕ) (w : Option What) (names : model.Map) → names ≡ with_value name (value_of items name) (map_by items rest) → w ≡ option_map what_of (value_of items name)
    → UpdatesBy (λ x y. slice_cmp nat_cmp x.now y.now) (λ k. slice_cmp nat_cmp name k.now) old new w → Tells old (map_by items rest) → Tells new names
told_more old new items rest name w names are is updates told q =
    btree_map_updates_str name old new w updates q
    ∙ ap₂ (cond (bytes_eq name q)) is (told q)
    ∙ map_one (bytes_eq name q) (value_of items name) (finmap.get (map_by items rest) q)
    ∙ ap (option_map what_of) (sym (get_with name q (value_of items name) (map_by items rest)) ∙ ap (λ m. finmap.get m q) (sym are))

pub told_other : (old : BTreeMap (Bor (List ℕ)) What) (names names' : model.Map) → names' ≡ names → Tells old names → Tells old names'
told_other old names names' same told q = told q ∙ ap (λ m. option_map what_of (finmap.get m q)) (sym same)
