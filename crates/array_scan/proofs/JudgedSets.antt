-- Sets as they are judged from the highest down.
use Rattle.std.proofs.Common.{◌≡◌, ℕ, suc, ◌+◌, ◌-◌, ◌<◌, ◌≤◌, Bool, true, false, cond, List, [], ◌∷◌, ◌++◌, length, map, take, drop, get_or, Option, None, refl, sym, ap, ap₂, ◌∙◌, arith, drop-cons, append-nil, append_assoc}
use Rattle.std.specs.BTreeMap.{BTreeMap}
use Rattle.std.proofs.lemmas.Bool.{false≢true}
use Rattle.std.proofs.lemmas.List.{take-map, length-map}
use Rattle.array_model.specs.Record.{Record, kept_of}
use Rattle.array_model.specs.Sets.{ValidSet, stands, valid, lesser, least_kept, kept_by, cut_to}
use Rattle.array_model.proofs.Sets.{lesser_regroup}
use Rattle.array_scan.specs.declared.set_read.RecordAt.{RecordAt}
use Rattle.array_scan.specs.declared.set_read.SetRead.{SetRead}
use Rattle.array_scan.specs.declared.judge.SetScan.{SetScan}
use Rattle.array_scan.specs.Judged.{Payloads, record_with, records_with, set_with, sets_with, valid_with, noted, IsJudged}

-- a list from its last so many elements on
pub from_last : {X : Type 0} (xs : List X) (i : ℕ) (x d : X) → i < length xs → x ≡ get_or xs (length xs - 1 - i) d → drop (length xs - (i + 1)) xs ≡ x ∷ drop (length xs - i) xs
from_last xs i x d below is =
    ap (λ n. drop n xs) (let e : length xs - (i + 1) ≡ length xs - 1 - i = omega arith in e)
    ∙ drop-cons xs (length xs - 1 - i) d (omega (arith, below))
    ∙ ap₂ ◌∷◌ (sym is) (ap (λ n. drop n xs) (let e : suc (length xs - 1 - i) ≡ length xs - i = omega (arith, below) in e))

-- one more record, before those that were noted
pub least_more : (target : ℕ) (payload : RecordAt → List ℕ) (records rest : List RecordAt) (r : RecordAt) (now mid first : Option ℕ) → now ≡ lesser (kept_of target (record_with payload r)) mid → mid ≡ lesser (least_kept target (map (record_with payload) rest)) first → records ≡ r ∷ rest
    → now ≡ lesser (least_kept target (map (record_with payload) records)) first
least_more target payload records rest r now mid first is so_far are =
    is ∙ ap (lesser (kept_of target (record_with payload r))) so_far
    ∙ sym (lesser_regroup (kept_of target (record_with payload r)) (least_kept target (map (record_with payload) rest)) first)
    ∙ ap (λ rs. lesser (least_kept target (map (record_with payload) rs)) first) (sym are)

-- a set that is judged beside those above it
pub record JudgedBeside (k : ℕ) (old new : BTreeMap ℕ ℕ) (s : SetScan) : Type 0 where
  pub within : s.valid ≤ length s.read.records.items
  pub standing : (payload : Payloads) → s.stands ≡ stands k (set_with payload s.read)
  pub cut : (items : List Record) → length items ≡ length s.read.records.items → s.stands ≡ true → take s.valid items ≡ cut_to (noted old s.read.id) items
  pub fallen : s.stands ≡ false → s.valid ≡ 0
  pub kept : (payload : Payloads) (target : ℕ) → noted new target ≡ lesser (least_kept target (map (record_with (payload s.read.carriers.items)) (take s.valid s.read.records.items))) (noted old target)

module _ (k : ℕ) (above : List SetScan) (old new : BTreeMap ℕ ℕ) (s : SetScan) (are : IsJudged k above old) (it : JudgedBeside k old new s) where
  valid_more : (payload : Payloads) (b : Bool) → s.stands ≡ b → valid k (sets_with payload (s ∷ above)) ≡ valid_with payload (s ∷ above)
  valid_more payload true stand =
      let items = records_with payload s.read in
      ap (λ b. cond b (record { id = s.read.id; records = cut_to (kept_by s.read.id (valid k (sets_with payload above))) items } ∷ valid k (sets_with payload above)) (valid k (sets_with payload above))) (sym (it.standing payload) ∙ stand)
      ∙ ap₂ (λ (n : Option ℕ) (sets : List ValidSet). record { id = s.read.id; records = cut_to n items } ∷ sets) (ap (kept_by s.read.id) (are.valid_are payload) ∙ sym (are.kept_are payload s.read.id)) (are.valid_are payload)
      ∙ ap (λ (rs : List Record). record { id = s.read.id; records = rs } ∷ valid_with payload above) (sym (it.cut items (length-map s.read.records.items (record_with (payload s.read.carriers.items))) stand))
      ∙ ap (λ b. cond b (record { id = s.read.id; records = take s.valid items } ∷ valid_with payload above) (valid_with payload above)) (sym stand)
  valid_more payload false fall =
      let items = records_with payload s.read in
      ap (λ b. cond b (record { id = s.read.id; records = cut_to (kept_by s.read.id (valid k (sets_with payload above))) items } ∷ valid k (sets_with payload above)) (valid k (sets_with payload above))) (sym (it.standing payload) ∙ fall)
      ∙ are.valid_are payload
      ∙ ap (λ b. cond b (record { id = s.read.id; records = take s.valid items } ∷ valid_with payload above) (valid_with payload above)) (sym fall)

  kept_more : (payload : Payloads) (target : ℕ) (b : Bool) → s.stands ≡ b → noted new target ≡ kept_by target (valid_with payload (s ∷ above))
  kept_more payload target true stand =
      it.kept payload target
      ∙ ap₂ (λ (rs : List Record) (o : Option ℕ). lesser (least_kept target rs) o) (sym (take-map (record_with (payload s.read.carriers.items)) s.valid s.read.records.items)) (are.kept_are payload target)
      ∙ ap (λ b. kept_by target (cond b (record { id = s.read.id; records = take s.valid (records_with payload s.read) } ∷ valid_with payload above) (valid_with payload above))) (sym stand)
  kept_more payload target false fall =
      it.kept payload target
      ∙ ap (λ n. lesser (least_kept target (map (record_with (payload s.read.carriers.items)) (take n s.read.records.items))) (noted old target)) (it.fallen fall)
      ∙ are.kept_are payload target
      ∙ ap (λ b. kept_by target (cond b (record { id = s.read.id; records = take s.valid (records_with payload s.read) } ∷ valid_with payload above) (valid_with payload above))) (sym fall)

  pub judged_more : IsJudged k (s ∷ above) new
  judged_more = record {
    within = (it.within, are.within);
    standing = λ payload. (it.standing payload, are.standing payload);
    valid_are = λ payload. valid_more payload s.stands refl;
    kept_are = λ payload target. kept_more payload target s.stands refl;
  }

-- the sets that are left, below those that were judged
pub record JudgedSoFar (k : ℕ) (sets left : List SetRead) (judged : List SetScan) (kept : BTreeMap ℕ ℕ) : Type 0 where
  pub all : sets ≡ left ++ map (λ (s : SetScan). s.read) judged
  pub are : IsJudged k judged kept

pub judged_none : (k : ℕ) (sets : List SetRead) (kept : BTreeMap ℕ ℕ) → ((target : ℕ) → noted kept target ≡ None) → JudgedSoFar k sets sets [] kept
judged_none k sets kept none = record {
  all = sym (append-nil sets);
  are = record { within = tt; standing = λ payload. tt; valid_are = λ payload. refl; kept_are = λ payload target. none target };
}

pub judged_one : (k : ℕ) (sets left less : List SetRead) (judged : List SetScan) (old new : BTreeMap ℕ ℕ) (s : SetScan) → left ≡ less ++ s.read ∷ [] → JudgedSoFar k sets left judged old → JudgedBeside k old new s → JudgedSoFar k sets less (s ∷ judged) new
judged_one k sets left less judged old new s last so_far it = record {
  all = so_far.all ∙ ap (λ l. l ++ map (λ (s : SetScan). s.read) judged) last ∙ append_assoc less (s.read ∷ []) (map (λ (s : SetScan). s.read) judged);
  are = judged_more k judged old new s so_far.are it;
}

-- the same where it stands, and where it doesn't
module _ (k : ℕ) (old new : BTreeMap ℕ ℕ) (s : SetScan) where
  abbrev Notes : Type 0
  Notes = (payload : Payloads) (target : ℕ) → noted new target ≡ lesser (least_kept target (map (record_with (payload s.read.carriers.items)) (take s.valid s.read.records.items))) (noted old target)

  pub beside_standing : (n : ℕ) → s.valid ≡ n → n ≤ length s.read.records.items → ((payload : Payloads) → s.stands ≡ stands k (set_with payload s.read))
      → ((items : List Record) → length items ≡ length s.read.records.items → take n items ≡ cut_to (noted old s.read.id) items) → s.stands ≡ true → Notes → JudgedBeside k old new s
  beside_standing n is fits standing cut stand notes = record {
    within = omega (arith, is, fits);
    standing = standing;
    cut = λ items long yes. ap (λ n. take n items) is ∙ cut items long;
    fallen = λ fall. absurd (false≢true (sym fall ∙ stand));
    kept = notes;
  }

  pub beside_fallen : s.valid ≡ 0 → ((payload : Payloads) → s.stands ≡ stands k (set_with payload s.read)) → s.stands ≡ false → Notes → JudgedBeside k old new s
  beside_fallen none standing fall notes = record {
    within = omega (arith, none);
    standing = standing;
    cut = λ items long yes. absurd (false≢true (sym fall ∙ yes));
    fallen = λ fall. none;
    kept = notes;
  }
