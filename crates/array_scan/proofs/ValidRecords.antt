-- Valid records, as they are gathered set by set.
use Rattle.std.proofs.Common.{◌≡◌, ℕ, suc, ◌+◌, ◌<◌, ◌≤◌, Bool, true, false, cond, List, [], ◌∷◌, ◌++◌, length, map, take, drop, get_or, refl, sym, ap, ap₂, ◌∙◌, arith, drop-cons, append-nil, append_assoc}
use Rattle.std.specs.Prelude.{IsTrue, Contains}
use Rattle.std.specs.List.{AllByRecursion}
use Rattle.std.proofs.lemmas.List.{map-append, take-map, take_more, length-map, length-take, drop_all}
use Rattle.array_model.specs.Record.{Record}
use Rattle.array_model.specs.Sets as model
use Rattle.array_model.proofs.SameZones.{all-append}
use Rattle.array_scan.specs.declared.set_read.RecordAt.{RecordAt}
use Rattle.array_scan.specs.declared.judge.SetScan.{SetScan}
use Rattle.array_scan.specs.declared.records.ValidRecord.{ValidRecord}
use Rattle.array_scan.specs.Judged.{Payloads, record_with, records_with, valid_with}
use Rattle.array_scan.specs.Valid.{placed_with, IsOfStanding}

placed_joined : (set position : ℕ) (first rest : List Record) → model.placed_from set position (first ++ rest) ≡ model.placed_from set position first ++ model.placed_from set (position + length first) rest
placed_joined set position [] rest = ap (λ n. model.placed_from set n rest) (let e : position ≡ position + 0 = omega arith in e)
placed_joined set position (item ∷ first) rest =
    ap (λ r. record { set = set; position = position; item = item } ∷ r)
    (placed_joined set (position + 1) first rest ∙ ap (λ n. model.placed_from set (position + 1) first ++ model.placed_from set n rest) (let e : position + 1 + length first ≡ position + suc (length first) = omega arith in e))

-- the first so many records of a set were added
pub record AddedSoFar (s : SetScan) (old new : List ValidRecord) (n : ℕ) : Type 0 where
  pub added : (payload : Payloads) → map (placed_with payload) new ≡ map (placed_with payload) old ++ model.placed_from s.read.id 0 (take n (records_with payload s.read))
  pub of_set : (sets : List SetScan) → Contains sets s → IsTrue s.stands → AllByRecursion (IsOfStanding sets) old → AllByRecursion (IsOfStanding sets) new

pub added_none : (s : SetScan) (old : List ValidRecord) → AddedSoFar s old old 0
added_none s old = record { added = λ payload. sym (append-nil (map (placed_with payload) old)); of_set = λ sets there stands all. all }

module _ (s : SetScan) (old new : List ValidRecord) (v : ValidRecord) (n : ℕ) (d : RecordAt) (below : n < length s.read.records.items) (own : v.set.now ≡ s.read) (position : v.position ≡ n) (at : v.at.now ≡ get_or s.read.records.items n d) where
  placed_one : (payload : Payloads) → model.placed_from s.read.id 0 (take (n + 1) (records_with payload s.read)) ≡ model.placed_from s.read.id 0 (take n (records_with payload s.read)) ++ placed_with payload v ∷ []
  placed_one payload =
      let f = record_with (payload s.read.carriers.items) in
      let rs = s.read.records.items in
      let first = take n (map f rs) in
      let long : length first ≡ n = ap length (take-map f n rs) ∙ length-map (take n rs) f ∙ (let l = length-take n rs in omega (arith, l, below)) in
      ap (model.placed_from s.read.id 0) (take-map f (n + 1) rs ∙ ap (map f) (take_more rs n d below) ∙ map-append f (take n rs) (get_or rs n d ∷ []) ∙ ap (λ l. l ++ f (get_or rs n d) ∷ []) (sym (take-map f n rs)))
      ∙ placed_joined s.read.id 0 first (f (get_or rs n d) ∷ [])
      ∙ ap (λ p. model.placed_from s.read.id 0 first ++ p ∷ []) (λ i. record {
        set = (sym own i).id;
        position = ((let e : 0 + length first ≡ n = omega (arith, long) in e) ∙ sym position) i;
        item = record_with (payload ((sym own i).carriers.items)) (sym at i);
      })

  pub added_more : AddedSoFar s old new n → AddedSoFar s old (new ++ v ∷ []) (n + 1)
  added_more so_far = record {
    added = λ payload.
        map-append (placed_with payload) new (v ∷ [])
        ∙ ap (λ l. l ++ placed_with payload v ∷ []) (so_far.added payload)
        ∙ append_assoc (map (placed_with payload) old) (model.placed_from s.read.id 0 (take n (records_with payload s.read))) (placed_with payload v ∷ [])
        ∙ ap (λ l. map (placed_with payload) old ++ l) (sym (placed_one payload));
    of_set = λ sets there stands all. all-append (IsOfStanding sets) new (v ∷ []) (so_far.of_set sets there stands all) (record { set = s; there = there; stands = stands; is = own }, tt);
  }

-- the records of the first so many sets were added
pub record ValidSoFar (sets : List SetScan) (n : ℕ) (records : List ValidRecord) : Type 0 where
  pub all : (payload : Payloads) → map (placed_with payload) records ++ model.placed (valid_with payload (drop n sets)) ≡ model.placed (valid_with payload sets)
  pub of_sets : AllByRecursion (IsOfStanding sets) records

pub valid_none : (sets : List SetScan) → ValidSoFar sets 0 []
valid_none sets = record { all = λ payload. refl; of_sets = tt }

module _ (sets : List SetScan) (n : ℕ) (s : SetScan) (old : List ValidRecord) (below : n < length sets) (here : s ≡ get_or sets n s) (so_far : ValidSoFar sets n old) where
  left_is : (payload : Payloads) (b : Bool) → s.stands ≡ b → model.placed (valid_with payload (drop n sets)) ≡ model.placed (cond b (record { id = s.read.id; records = take s.valid (records_with payload s.read) } ∷ valid_with payload (drop (n + 1) sets)) (valid_with payload (drop (n + 1) sets)))
  left_is payload b is =
      ap (λ l. model.placed (valid_with payload l)) (drop-cons sets n s below ∙ ap₂ (λ (s : SetScan) m. s ∷ drop m sets) (sym here) (let e : suc n ≡ n + 1 = omega arith in e))
      ∙ ap (λ b. model.placed (cond b (record { id = s.read.id; records = take s.valid (records_with payload s.read) } ∷ valid_with payload (drop (n + 1) sets)) (valid_with payload (drop (n + 1) sets)))) is

  pub valid_standing : (new : List ValidRecord) → s.stands ≡ true → (Contains sets s → AddedSoFar s old new s.valid) → ValidSoFar sets (n + 1) new
  valid_standing new stands added_then =
      let there : Contains sets s = (n, below, sym here) in
      let added = added_then there in
      record {
        all = λ payload.
            ap (λ l. l ++ model.placed (valid_with payload (drop (n + 1) sets))) (added.added payload)
            ∙ append_assoc (map (placed_with payload) old) (model.placed_from s.read.id 0 (take s.valid (records_with payload s.read))) (model.placed (valid_with payload (drop (n + 1) sets)))
            ∙ ap (λ l. map (placed_with payload) old ++ l) (sym (left_is payload true stands))
            ∙ so_far.all payload;
        of_sets = added.of_set sets there stands so_far.of_sets;
      }

  pub valid_fallen : s.stands ≡ false → ValidSoFar sets (n + 1) old
  valid_fallen fall = record {
    all = λ payload. ap (λ l. map (placed_with payload) old ++ l) (sym (left_is payload false fall)) ∙ so_far.all payload;
    of_sets = so_far.of_sets;
  }

pub valid_all : (sets : List SetScan) (n : ℕ) (records : List ValidRecord) → length sets ≤ n → ValidSoFar sets n records → (payload : Payloads) → map (placed_with payload) records ≡ model.placed (valid_with payload sets)
valid_all sets n records all so_far payload = sym (append-nil (map (placed_with payload) records)) ∙ ap (λ l. map (placed_with payload) records ++ model.placed (valid_with payload l)) (sym (drop_all n sets all)) ∙ so_far.all payload
