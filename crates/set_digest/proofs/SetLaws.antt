-- Sets by rising number: what an edit at a place is to the list.
use Rattle.std.proofs.Common.{◌≡◌, ◌≢◌, ◌⊎◌, ℕ, zero, suc, ◌+◌, ◌-◌, ◌<◌, ◌≤◌, Bool, true, cond, List, [], ◌∷◌, length, get_or, set, Option, Some, None, IsSome, is_some, Result, Ok, Err, IfErr, refl, sym, ap, ◌∙◌, subst, inl, inr, arith}
use Rattle.std.specs.List.{insert, remove}
use Rattle.std.specs.List.Sorted.{IsBinarySearchResult}
use Rattle.std.specs.Result.{MatchResult}
use Rattle.std.proofs.lemmas.List.Sorted.{searched}
use Rattle.std.specs.Ordering.{nat_cmp}
use Rattle.std.proofs.lemmas.Bool.{ne_eqb, eq-eqb, cases_lt}
use Rattle.std.proofs.lemmas.Bool.Decides.{nat_tests}
use Rattle.std.proofs.lemmas.List.{length-map}
use Rattle.std.proofs.Math.Seq.{map-set_same}
use Rattle.std.proofs.lemmas.List.Edits.{length-insert, length-remove, get_or-insert_below, get_or-insert_at, get_or-insert_above, get_or-remove_below, get_or-remove_above}
use Rattle.set_digest.specs.declared.line.Line.{Line}
use Rattle.set_digest.specs.Catalogue.{Listed, sets_of, AreRising, IsAt, IsGapFor, lines_of, lengthened, shortened, begun_by, with_line, cut_to, without}
use Rattle.set_digest.specs.Pool.{listed_at}

-- ---- places in the rest of a list

abbrev pub NoneBefore : List Listed → ℕ → ℕ → Type 0
NoneBefore ls k i = (j : ℕ) → j < i → get_or (sets_of ls) j 0 < k

abbrev pub NoneFrom : List Listed → ℕ → ℕ → Type 0
NoneFrom ls k i = (j : ℕ) → i ≤ j → j < length ls → k < get_or (sets_of ls) j 0

tail_before : (l : Listed) (ls : List Listed) (k i : ℕ) → NoneBefore (l ∷ ls) k (suc i) → NoneBefore ls k i
tail_before l ls k i before j lt = before (suc j) (omega (arith, lt))

tail_from : (l : Listed) (ls : List Listed) (k i : ℕ) → NoneFrom (l ∷ ls) k (suc i) → NoneFrom ls k i
tail_from l ls k i behind j le lt = behind (suc j) (omega (arith, le)) (omega (arith, lt))

-- ---- at the set's place

pub record At (ls : List Listed) (k i : ℕ) : Type 0 where
  pub before : NoneBefore ls k i
  pub here : get_or (sets_of ls) i 0 ≡ k
  pub behind : NoneFrom ls k (suc i)

at_place : (ls : List Listed) (k i : ℕ) → AreRising (sets_of ls) → IsAt ls k i → At ls k i
at_place ls k i rising is = record {
  before = λ j lt. omega (arith, rising j i lt (omega (arith, is.in_range, length-map ls (λ (l : Listed). l.set))), is.has_set);
  here = is.has_set;
  behind = λ j le lt. omega (arith, rising i j (omega (arith, le)) (omega (arith, lt, length-map ls (λ (l : Listed). l.set))), is.has_set);
}

tail_at : (l : Listed) (ls : List Listed) (k i : ℕ) → At (l ∷ ls) k (suc i) → At ls k i
tail_at l ls k i at = record { before = tail_before l ls k i at.before; here = at.here; behind = tail_from l ls k (suc i) at.behind }

lines_at : (ls : List Listed) (k i : ℕ) → i < length ls → At ls k i → lines_of k ls ≡ Some (listed_at ls i).lines
lines_at [] k i within at = absurd (omega (arith, within))
lines_at (l ∷ ls) k zero within at = ap (λ (b : Bool). cond b (Some l.lines) (lines_of k ls)) (eq-eqb l.set k at.here)
lines_at (l ∷ ls) k (suc i) within at =
    ap (λ (b : Bool). cond b (Some l.lines) (lines_of k ls)) (ne_eqb l.set k (λ e. omega (arith, e, at.before 0 (omega arith)))) ∙ lines_at ls k i (omega (arith, within)) (tail_at l ls k i at)

-- one step of each definition
line_here : (l : Listed) (ls : List Listed) (k : ℕ) (x : Line) → l.set ≡ k → with_line k x (l ∷ ls) ≡ lengthened x l ∷ ls
line_here l ls k x e = grind (arith, nat_tests)

line_gap : (l : Listed) (ls : List Listed) (k : ℕ) (x : Line) → k < l.set → with_line k x (l ∷ ls) ≡ begun_by k x ∷ (l ∷ ls)
line_gap l ls k x lt = grind (arith, nat_tests)

line_on : (l : Listed) (ls : List Listed) (k : ℕ) (x : Line) → l.set < k → with_line k x (l ∷ ls) ≡ l ∷ with_line k x ls
line_on l ls k x lt = grind (arith, nat_tests)

cut_here : (l : Listed) (ls : List Listed) (k n : ℕ) → l.set ≡ k → cut_to k n (l ∷ ls) ≡ shortened n l ∷ cut_to k n ls
cut_here l ls k n e = grind (arith, nat_tests)

cut_on : (l : Listed) (ls : List Listed) (k n : ℕ) → l.set ≢ k → cut_to k n (l ∷ ls) ≡ l ∷ cut_to k n ls
cut_on l ls k n other = grind (arith, nat_tests)

without_here : (l : Listed) (ls : List Listed) (k : ℕ) → l.set ≡ k → without k (l ∷ ls) ≡ without k ls
without_here l ls k e = grind (arith, nat_tests)

without_on : (l : Listed) (ls : List Listed) (k : ℕ) → l.set ≢ k → without k (l ∷ ls) ≡ l ∷ without k ls
without_on l ls k other = grind (arith, nat_tests)

-- sets that aren't this one stay
cut_others : (ls : List Listed) (k n : ℕ) → ((j : ℕ) → j < length ls → get_or (sets_of ls) j 0 ≢ k) → cut_to k n ls ≡ ls
cut_others [] k n others = refl
cut_others (l ∷ ls) k n others = cut_on l ls k n (others 0 (omega arith)) ∙ ap (λ t. l ∷ t) (cut_others ls k n (λ j lt. others (suc j) (omega (arith, lt))))

without_others : (ls : List Listed) (k : ℕ) → ((j : ℕ) → j < length ls → get_or (sets_of ls) j 0 ≢ k) → without k ls ≡ ls
without_others [] k others = refl
without_others (l ∷ ls) k others = without_on l ls k (others 0 (omega arith)) ∙ ap (λ t. l ∷ t) (without_others ls k (λ j lt. others (suc j) (omega (arith, lt))))

-- what the edits are there
with_line_at : (ls : List Listed) (k i : ℕ) (x : Line) → i < length ls → At ls k i → with_line k x ls ≡ set ls i (lengthened x (listed_at ls i))
with_line_at [] k i x within at = absurd (omega (arith, within))
with_line_at (l ∷ ls) k zero x within at = line_here l ls k x at.here
with_line_at (l ∷ ls) k (suc i) x within at = line_on l ls k x (at.before 0 (omega arith)) ∙ ap (λ t. l ∷ t) (with_line_at ls k i x (omega (arith, within)) (tail_at l ls k i at))

cut_at : (ls : List Listed) (k i n : ℕ) → i < length ls → At ls k i → cut_to k n ls ≡ set ls i (shortened n (listed_at ls i))
cut_at [] k i n within at = absurd (omega (arith, within))
cut_at (l ∷ ls) k zero n within at = cut_here l ls k n at.here ∙ ap (λ t. shortened n l ∷ t) (cut_others ls k n (λ j lt e. omega (arith, e, at.behind (suc j) (omega arith) (omega (arith, lt)))))
cut_at (l ∷ ls) k (suc i) n within at = cut_on l ls k n (λ e. omega (arith, e, at.before 0 (omega arith))) ∙ ap (λ t. l ∷ t) (cut_at ls k i n (omega (arith, within)) (tail_at l ls k i at))

without_at : (ls : List Listed) (k i : ℕ) → i < length ls → At ls k i → without k ls ≡ remove ls i
without_at [] k i within at = absurd (omega (arith, within))
without_at (l ∷ ls) k zero within at = without_here l ls k at.here ∙ without_others ls k (λ j lt e. omega (arith, e, at.behind (suc j) (omega arith) (omega (arith, lt))))
without_at (l ∷ ls) k (suc i) within at = without_on l ls k (λ e. omega (arith, e, at.before 0 (omega arith))) ∙ ap (λ t. l ∷ t) (without_at ls k i (omega (arith, within)) (tail_at l ls k i at))

-- What is so at the place of a set.
pub record Found (ls : List Listed) (k i : ℕ) : Type 0 where
  pub lines : lines_of k ls ≡ Some (listed_at ls i).lines
  pub longer : (x : Line) → with_line k x ls ≡ set ls i (lengthened x (listed_at ls i))
  pub shorter : (n : ℕ) → cut_to k n ls ≡ set ls i (shortened n (listed_at ls i))
  pub gone : without k ls ≡ remove ls i

pub found : (ls : List Listed) (k i : ℕ) → AreRising (sets_of ls) → IsAt ls k i → Found ls k i
found ls k i rising is =
    let at = at_place ls k i rising is in
    record {
      lines = lines_at ls k i is.in_range at;
      longer = λ x. with_line_at ls k i x is.in_range at;
      shorter = λ n. cut_at ls k i n is.in_range at;
      gone = without_at ls k i is.in_range at;
    }

-- ---- at a gap

lines_gap : (ls : List Listed) (k : ℕ) → ((j : ℕ) → j < length ls → get_or (sets_of ls) j 0 ≢ k) → lines_of k ls ≡ None
lines_gap [] k others = refl
lines_gap (l ∷ ls) k others = ap (λ (b : Bool). cond b (Some l.lines) (lines_of k ls)) (ne_eqb l.set k (others 0 (omega arith))) ∙ lines_gap ls k (λ j lt. others (suc j) (omega (arith, lt)))

with_line_gap : (ls : List Listed) (k i : ℕ) (x : Line) → i ≤ length ls → NoneBefore ls k i → NoneFrom ls k i → with_line k x ls ≡ insert ls i (begun_by k x)
with_line_gap [] k zero x within before behind = refl
with_line_gap [] k (suc i) x within before behind = absurd (omega (arith, within))
with_line_gap (l ∷ ls) k zero x within before behind = line_gap l ls k x (behind 0 (omega arith) (omega arith))
with_line_gap (l ∷ ls) k (suc i) x within before behind = line_on l ls k x (before 0 (omega arith)) ∙ ap (λ t. l ∷ t) (with_line_gap ls k i x (omega (arith, within)) (tail_before l ls k i before) (tail_from l ls k i behind))

-- What is so where a set isn't listed.
pub record Absent (ls : List Listed) (k i : ℕ) : Type 0 where
  pub lines : lines_of k ls ≡ None
  pub longer : (x : Line) → with_line k x ls ≡ insert ls i (begun_by k x)
  pub shorter : (n : ℕ) → cut_to k n ls ≡ ls
  pub gone : without k ls ≡ ls

pub absent : (ls : List Listed) (k i : ℕ) → IsGapFor ls k i → Absent ls k i
absent ls k i gap =
    let others : (j : ℕ) → j < length ls → get_or (sets_of ls) j 0 ≢ k = λ j lt e. elim (cases_lt j i) [
      | inl before ↦ omega (arith, e, gap.smaller_before j before)
      | inr behind ↦ omega (arith, e, gap.greater_after j behind lt)
    ] in
    record {
      lines = lines_gap ls k others;
      longer = λ x. with_line_gap ls k i x gap.in_range gap.smaller_before gap.greater_after;
      shorter = λ n. cut_others ls k n others;
      gone = without_others ls k others;
    }

-- there is room for a set that isn't listed
pub has_room : (o : Option (List Line)) (n : ℕ) → o ≡ None → IsSome o ⊎ (1 ≤ n) → 1 ≤ n
has_room o n none (inl some) = let no : is_some {T = List Line} None ≡ true = ap (is_some {T = List Line}) (sym none) ∙ some in absurd cc
has_room o n none (inr room) = room

-- ---- the numbers of the sets

pub same_sets : (ls : List Listed) (i : ℕ) (l : Listed) → l.set ≡ (listed_at ls i).set → sets_of (set ls i l) ≡ sets_of ls
same_sets ls i l same = map-set_same (λ (l : Listed). l.set) ls i l (record { set = 0; lines = [] }) same

-- ---- numbers that rise

pub rising_insert : (sets : List ℕ) (k i : ℕ) → AreRising sets → i ≤ length sets → ((j : ℕ) → j < i → get_or sets j 0 < k) → ((j : ℕ) → i ≤ j → j < length sets → k < get_or sets j 0) → AreRising (insert sets i k)
rising_insert sets k at rising within before behind i j lt in_range =
    let new = insert sets at k in
    let length_new = length-insert sets at k within in
    let below : (i : ℕ) → i < at → get_or new i 0 ≡ get_or sets i 0 = λ i b. get_or-insert_below sets at k 0 i b within in
    let here : (i : ℕ) → i ≡ at → get_or new i 0 ≡ k = λ i h. ap (λ n. get_or new n 0) h ∙ get_or-insert_at sets at k 0 within in
    let above : (i : ℕ) → at < i → get_or new i 0 ≡ get_or sets (i - 1) 0 = λ i a. subst (λ q. get_or new q 0 ≡ get_or sets (i - 1) 0) {x = i - 1 + 1} (omega arith) (get_or-insert_above sets at k 0 (i - 1) (omega arith) within) in
    grind (arith, below i, here i, above i, below j, here j, above j, rising i j, rising i (j - 1), rising (i - 1) (j - 1), before i, behind (j - 1))

pub rising_remove : (sets : List ℕ) (i : ℕ) → AreRising sets → i < length sets → AreRising (remove sets i)
rising_remove sets at rising within i j lt in_range =
    let new = remove sets at in
    let length_new = length-remove sets at within in
    let below : (i : ℕ) → i < at → get_or new i 0 ≡ get_or sets i 0 = λ i b. get_or-remove_below sets at 0 i b within in
    let above : (i : ℕ) → at ≤ i → get_or new i 0 ≡ get_or sets (i + 1) 0 = λ i a. get_or-remove_above sets at 0 i a within in
    grind (arith, below i, above i, below j, above j, rising i j, rising i (j + 1), rising (i + 1) (j + 1))

-- a search by number ends at the set's place, or at the gap for it
pub searched_sets : (ls : List Listed) (sets : List ℕ) (k : ℕ) (r : Result ℕ ℕ) → sets ≡ sets_of ls → AreRising sets → IsBinarySearchResult (λ y. nat_cmp y k) sets r → IfErr r (IsGapFor ls k)
searched_sets ls sets k r are rising by = by_result r (searched sets k r by (λ i j le below. grind (arith, rising i j, λ (same : i ≡ j). ap (λ n. get_or sets n 0) same)))
  where
    long : length sets ≡ length ls
    long = ap (λ (l : List ℕ). length l) are ∙ length-map ls (λ (l : Listed). l.set)

    by_result : (r : Result ℕ ℕ) → MatchResult r (λ i. (i < length sets) × (get_or sets i 0 ≡ k)) (λ i. (i ≤ length sets) × ((j : ℕ) → j < i → get_or sets j 0 < k) × ((j : ℕ) → i ≤ j → j < length sets → k < get_or sets j 0)) → IfErr r (IsGapFor ls k)
    by_result (Ok i) h = tt
    by_result (Err i) h = record {
      in_range = omega (arith, h.0, long);
      smaller_before = λ j lt. subst (λ (l : List ℕ). get_or l j 0 < k) are (h.1 j lt);
      greater_after = λ j le lt. subst (λ (l : List ℕ). k < get_or l j 0) are (h.2 j le (omega (arith, lt, long)));
    }
