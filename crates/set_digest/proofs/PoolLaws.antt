-- Rows of a pool, and what an edit of its lines leaves of each.
use Rattle.std.proofs.Common.{◌≡◌, ◌≢◌, ◌⊎◌, ℕ, zero, suc, ◌+◌, ◌-◌, ◌<◌, ◌≤◌, List, [], ◌∷◌, ◌++◌, length, map, take, drop, get_or, set, refl, sym, ap, ap₂, ◌∙◌, subst, inl, inr, arith}
use Rattle.std.specs.List.{insert, remove}
use Rattle.std.proofs.lemmas.List.{same_lists, drop-take, take-take, length-map, length-set, get_or-map, get_or-set_same, get_or-set_other, get_or_default, length-append, length-take, length-drop, drop-drop, drop_at}
use Rattle.std.proofs.lemmas.List.Edits.{length-insert, insert_end}
use Rattle.std.proofs.lemmas.Bool.{cases_lt, cases_eq}
use Rattle.std.proofs.lemmas.Bool.Decides.{nat_tests}
use Rattle.std.proofs.lemmas.Grind.{common_steps}
use Rattle.set_digest.specs.declared.line.Line.{Line}
use Rattle.set_digest.specs.declared.pool.Row.{Row}
use Rattle.set_digest.specs.Catalogue.{Listed, begun_by, lengthened, shortened}
use Rattle.set_digest.specs.Pool.{end_of, listed_by, listed_at, no_row, row_at, begin_of, moved_up, moved_down, AreApart, KeepsRows}

-- ---- parts of a list with one element more

-- so many elements from a place on
abbrev part : ℕ → ℕ → List Line → List Line
part start count lines = take count (drop start lines)

part_below : (start count at : ℕ) (lines : List Line) (x : Line) → start + count ≤ at → at ≤ length lines → part start count (insert lines at x) ≡ part start count lines
part_below zero zero at lines x ends within = refl
part_below zero (suc count) zero lines x ends within = absurd (omega (arith, ends))
part_below zero (suc count) (suc at) [] x ends within = absurd (omega (arith, within))
part_below zero (suc count) (suc at) (l ∷ ls) x ends within = ap (λ (t : List Line). l ∷ t) (part_below zero count at ls x (omega (arith, ends)) (omega (arith, within)))
part_below (suc start) count zero lines x ends within = absurd (omega (arith, ends))
part_below (suc start) count (suc at) [] x ends within = absurd (omega (arith, within))
part_below (suc start) count (suc at) (l ∷ ls) x ends within = part_below start count at ls x (omega (arith, ends)) (omega (arith, within))

drop_above : (start at : ℕ) (lines : List Line) (x : Line) → at ≤ start → at ≤ length lines → drop (suc start) (insert lines at x) ≡ drop start lines
drop_above start zero lines x above within = refl
drop_above zero (suc at) lines x above within = absurd (omega (arith, above))
drop_above (suc start) (suc at) [] x above within = absurd (omega (arith, within))
drop_above (suc start) (suc at) (l ∷ ls) x above within = drop_above start at ls x (omega (arith, above)) (omega (arith, within))

front_longer : (count : ℕ) (lines : List Line) (x : Line) → count ≤ length lines → take (suc count) (insert lines count x) ≡ take count lines ++ x ∷ []
front_longer zero lines x within = refl
front_longer (suc count) [] x within = absurd (omega (arith, within))
front_longer (suc count) (l ∷ ls) x within = ap (λ (t : List Line). l ∷ t) (front_longer count ls x (omega (arith, within)))

part_longer : (start count at : ℕ) (lines : List Line) (x : Line) → at ≡ start + count → at ≤ length lines → part start (suc count) (insert lines at x) ≡ part start count lines ++ x ∷ []
part_longer zero count at lines x is within =
    let same : at ≡ count = omega (arith, is) in
    ap (λ (n : ℕ). take (suc count) (insert lines n x)) same ∙ front_longer count lines x (omega (arith, same, within))
part_longer (suc start) count zero lines x is within = absurd (omega (arith, is))
part_longer (suc start) count (suc at) [] x is within = absurd (omega (arith, within))
part_longer (suc start) count (suc at) (l ∷ ls) x is within = part_longer start count at ls x (omega (arith, is)) (omega (arith, within))

-- ---- parts of a list without some elements

-- the list without the elements from a place to another
abbrev pub left_out : ℕ → ℕ → List Line → List Line
left_out from to lines = take from lines ++ drop to lines

front_of : (count from : ℕ) (lines rest : List Line) → count ≤ from → from ≤ length lines → take count (take from lines ++ rest) ≡ take count lines
front_of zero from lines rest ends within = refl
front_of (suc count) zero lines rest ends within = absurd (omega (arith, ends))
front_of (suc count) (suc from) [] rest ends within = absurd (omega (arith, within))
front_of (suc count) (suc from) (l ∷ ls) rest ends within = ap (λ (t : List Line). l ∷ t) (front_of count from ls rest (omega (arith, ends)) (omega (arith, within)))

part_before : (start count from to : ℕ) (lines : List Line) → start + count ≤ from → from ≤ length lines → part start count (left_out from to lines) ≡ part start count lines
part_before start count from to lines ends within =
    sym (drop-take start count (left_out from to lines)) ∙ ap (drop start) (front_of (start + count) from lines (drop to lines) ends within) ∙ drop-take start count lines

drop_behind : (start from to : ℕ) (lines : List Line) → to ≤ start → from ≤ to → to ≤ length lines → drop (start - (to - from)) (left_out from to lines) ≡ drop start lines
drop_behind start from to lines behind rises within =
    let more = start - to in
    let long : length (take from lines) ≡ from = omega (arith, length-take from lines) in
    ap (λ (n : ℕ). drop n (left_out from to lines)) (let e : start - (to - from) ≡ from + more = omega arith in e)
    ∙ sym (drop-drop more from (left_out from to lines))
    ∙ ap (drop more) (drop_at (take from lines) (drop to lines) from long)
    ∙ drop-drop more to lines
    ∙ ap (λ (n : ℕ). drop n lines) (let e : to + more ≡ start = omega arith in e)

-- ---- rows

row_at-map : (f : Row → Row) (rows : List Row) (i : ℕ) → i < length rows → row_at (map f rows) i ≡ f (row_at rows i)
row_at-map f rows i within = get_or-map f rows i no_row no_row within

-- the rows were changed, but for one, which is another
abbrev changed : (Row → Row) → ℕ → Row → List Row → List Row
changed f at row rows = set (map f rows) at row

changed_at : (f : Row → Row) (at : ℕ) (row : Row) (rows : List Row) → at < length rows → row_at (changed f at row rows) at ≡ row
changed_at f at row rows within = get_or-set_same (map f rows) at row no_row (omega (arith, length-map rows f))

changed_else : (f : Row → Row) (at : ℕ) (row : Row) (rows : List Row) (i : ℕ) → i < length rows → i ≢ at → row_at (changed f at row rows) i ≡ f (row_at rows i)
changed_else f at row rows i within other = get_or-set_other (map f rows) at i row no_row other ∙ row_at-map f rows i within

length-changed : (f : Row → Row) (at : ℕ) (row : Row) (rows : List Row) → length (changed f at row rows) ≡ length rows
length-changed f at row rows = length-set (map f rows) at row ∙ length-map rows f

-- what is listed then: the same, but for one set
pub listed_changed : (f : Row → Row) (at : ℕ) (row : Row) (rows : List Row) (old new : List Line) (l : Listed) → at < length rows → ((i : ℕ) → i < length rows → i ≢ at → listed_by new (f (row_at rows i)) ≡ listed_by old (row_at rows i)) → listed_by new row ≡ l
    → map (listed_by new) (changed f at row rows) ≡ set (map (listed_by old) rows) at l
listed_changed f at row rows old new l within others here =
    let all = changed f at row rows in
    let one = map (listed_by new) all in
    let two = set (map (listed_by old) rows) at l in
    let long : length one ≡ length rows = length-map all (listed_by new) ∙ length-changed f at row rows in
    let long_two : length two ≡ length rows = length-set (map (listed_by old) rows) at l ∙ length-map rows (listed_by old) in
    same_lists one two (long ∙ sym long_two) (λ k d below.
    let less : k < length rows = omega (arith, below, long) in
    get_or-map (listed_by new) all k no_row d (omega (arith, less, length-changed f at row rows)) ∙ elim (cases_eq k at) [
      | inl same ↦
          ap (λ (n : ℕ). listed_by new (row_at all n)) same ∙ ap (listed_by new) (changed_at f at row rows within) ∙ here
          ∙ sym (ap (λ (n : ℕ). get_or two n d) same ∙ get_or-set_same (map (listed_by old) rows) at l d (omega (arith, within, length-map rows (listed_by old))))
      | inr other ↦
          ap (listed_by new) (changed_else f at row rows k less other) ∙ others k less other
          ∙ sym (get_or-set_other (map (listed_by old) rows) at k l d other ∙ get_or-map (listed_by old) rows k no_row d less)
    ])

-- ---- a line more

begins : (behind : ℕ) (row : Row) → ((row.count ≡ 0) × (begin_of behind row ≡ behind)) ⊎ ((1 ≤ row.count) × (begin_of behind row ≡ row.start))
begins behind row = elim (cases_eq row.count 0) [
  | inl none ↦ inl (none, grind (arith, nat_tests))
  | inr some ↦ inr (grind (arith, some), grind (arith, nat_tests))
]

-- the row begins where this one has ended, or has ended where this one begins
sides : (rows : List Row) (lines : List Line) (at i : ℕ) → KeepsRows rows lines → at < length rows → i < length rows → i ≢ at → (end_of (row_at rows at) ≤ (row_at rows i).start) ⊎ (end_of (row_at rows i) ≤ (row_at rows at).start)
sides rows lines at i keeps within less other = elim (cases_lt i at) [
  | inl before ↦ elim (keeps.apart i at before within) [ inl first ↦ inr first | inr second ↦ inl second ]
  | inr behind ↦ keeps.apart at i (grind (arith, behind, other)) less
]

-- Where the row gets its next line: its lines end there among all, and a row that doesn't begin there or behind it has ended.
record Ends (rows : List Row) (lines : List Line) (at start : ℕ) : Type 0 where
  ends : start + (row_at rows at).count ≤ length lines
  apart : (i : ℕ) → i < length rows → i ≢ at → (start + (row_at rows at).count ≤ (row_at rows i).start) ⊎ (end_of (row_at rows i) ≤ start + (row_at rows at).count)
  own : part start (row_at rows at).count lines ≡ part (row_at rows at).start (row_at rows at).count lines
  -- a row that ended by then ended before the lines begin, or there are none of them
  before : (i : ℕ) → i < length rows → i ≢ at → (row_at rows i).start < start + (row_at rows at).count → end_of (row_at rows i) ≤ start

ends_of : (rows : List Row) (lines : List Line) (at : ℕ) → KeepsRows rows lines → at < length rows → Ends rows lines at (begin_of (length lines) (row_at rows at))
ends_of rows lines at keeps within = elim (begins (length lines) (row_at rows at)) [
  | inl (none, there) ↦ record {
    ends = omega (arith, none, there);
    apart = λ i less other. inr (omega (arith, there, keeps.within i less));
    own = (λ i. part (there i) (none i) lines) ∙ sym (ap (λ (n : ℕ). part (row_at rows at).start n lines) none);
    before = λ i less other lower. omega (arith, there, keeps.within i less);
  }
  | inr (some, there) ↦ record {
    ends = omega (arith, there, keeps.within at within);
    apart = λ i less other. elim (sides rows lines at i keeps within less other) [ inl first ↦ inl (omega (arith, there, first)) | inr second ↦ inr (omega (arith, there, second)) ];
    own = ap (λ (n : ℕ). part n (row_at rows at).count lines) there;
    before = λ i less other lower. elim (sides rows lines at i keeps within less other) [ inl first ↦ absurd (omega (arith, there, first, lower)) | inr second ↦ omega (arith, there, second) ];
  }
]

-- whether a row was moved up
up : (from : ℕ) (row : Row) → ((1 ≤ row.count) × (from ≤ row.start) × (moved_up from row ≡ record row { start = row.start + 1 })) ⊎ (((row.count ≡ 0) ⊎ (row.start < from)) × (moved_up from row ≡ row))
up from row = elim (cases_eq row.count 0) [
  | inl none ↦ inr (inl none, grind (arith, nat_tests))
  | inr some ↦ elim (cases_lt row.start from) [
    | inl lower ↦ inr (inr lower, grind (arith, nat_tests))
    | inr higher ↦ inl (grind (arith, some), higher, grind (arith, nat_tests))
  ]
]

module _ (rows : List Row) (lines : List Line) (at start : ℕ) (x : Line) (keeps : KeepsRows rows lines) (within : at < length rows) (it : Ends rows lines at start) where
  end_is : ℕ
  end_is = start + (row_at rows at).count

  grown : Row
  grown = record { set = (row_at rows at).set; start = start; count = (row_at rows at).count + 1 }

  listed_up : (i : ℕ) → i < length rows → i ≢ at → listed_by (insert lines end_is x) (moved_up end_is (row_at rows i)) ≡ listed_by lines (row_at rows i)
  unfolding end_is
  listed_up i less other = elim (up end_is (row_at rows i)) [
    | inl (some, higher, moved) ↦
        ap (listed_by (insert lines end_is x)) moved
        ∙ ap (λ (l : List Line). record { set = (row_at rows i).set; lines = take (row_at rows i).count l })
        (ap (λ (n : ℕ). drop n (insert lines end_is x)) (let e : (row_at rows i).start + 1 ≡ suc (row_at rows i).start = omega arith in e) ∙ drop_above (row_at rows i).start end_is lines x higher it.ends)
    | inr (inl none, stays) ↦
        ap (listed_by (insert lines end_is x)) stays
        ∙ (λ j. record { set = (row_at rows i).set; lines = part (row_at rows i).start (none j) (insert lines end_is x) })
        ∙ sym (λ j. record { set = (row_at rows i).set; lines = part (row_at rows i).start (none j) lines })
    | inr (inr lower, stays) ↦
        ap (listed_by (insert lines end_is x)) stays
        ∙ ap (λ (l : List Line). record { set = (row_at rows i).set; lines = l }) (part_below (row_at rows i).start (row_at rows i).count end_is lines x (omega (arith, it.before i less other lower)) it.ends)
  ]

  listed_grown : listed_by (insert lines end_is x) grown ≡ lengthened x (listed_by lines (row_at rows at))
  unfolding end_is grown
  listed_grown =
      let row = row_at rows at in
      ap (λ (l : List Line). record { set = row.set; lines = l })
      (ap (λ (n : ℕ). part start n (insert lines end_is x)) (let e : row.count + 1 ≡ suc row.count = omega arith in e)
      ∙ part_longer start row.count end_is lines x refl it.ends
      ∙ ap (λ (l : List Line). l ++ x ∷ []) it.own)

-- a row may have been moved up
abbrev MovedUp : ℕ → Row → Row → Type 0
MovedUp from row new = (new.count ≡ row.count) × (((1 ≤ row.count) × (from ≤ row.start) × (new.start ≡ row.start + 1)) ⊎ (((row.count ≡ 0) ⊎ (row.start < from)) × (new.start ≡ row.start)))

moved_up_is : (from : ℕ) (row : Row) → MovedUp from row (moved_up from row)
moved_up_is from row = elim (up from row) [
  | inl (some, higher, moved) ↦ (ap (λ (r : Row). r.count) moved, inl (some, higher, ap (λ (r : Row). r.start) moved))
  | inr (why, stays) ↦ (ap (λ (r : Row). r.count) stays, inr (why, ap (λ (r : Row). r.start) stays))
]

apart_up : (from : ℕ) (a b c d : Row) → MovedUp from a c → MovedUp from b d → (a.count ≡ 0 → a.start ≡ 0) → (b.count ≡ 0 → b.start ≡ 0) → AreApart a b → AreApart c d
apart_up from a b c d up_a up_b none_a none_b (inl first) = inl (grind arith)
apart_up from a b c d up_a up_b none_a none_b (inr second) = inr (grind arith)

within_up : (from n : ℕ) (a c : Row) → MovedUp from a c → end_of a ≤ n → end_of c ≤ n + 1
within_up from n a c up within = grind arith

none_up : (from : ℕ) (a c : Row) → MovedUp from a c → (a.count ≡ 0 → a.start ≡ 0) → c.count ≡ 0 → c.start ≡ 0
none_up from a c up none = grind arith

-- a row that wasn't moved yet
pub unmoved : (f : Row → Row) (rows : List Row) (i : ℕ) → i < length rows → row_at (map f (take i rows) ++ drop i rows) i ≡ row_at rows i
unmoved f rows i less = grind (arith, common_steps)

-- ---- what an edit of the rows keeps

-- each other row is so, and the one that was put in its place
keeps_changed : (f : Row → Row) (at : ℕ) (row : Row) (rows : List Row) (new : List Line) → at < length rows
    → ((i : ℕ) → i < length rows → i ≢ at → end_of (f (row_at rows i)) ≤ length new) → end_of row ≤ length new
    → ((i : ℕ) → i < length rows → i ≢ at → (f (row_at rows i)).count ≡ 0 → (f (row_at rows i)).start ≡ 0) → (row.count ≡ 0 → row.start ≡ 0)
    → ((i j : ℕ) → i < j → j < length rows → i ≢ at → j ≢ at → AreApart (f (row_at rows i)) (f (row_at rows j)))
    → ((i : ℕ) → i < length rows → i ≢ at → AreApart row (f (row_at rows i)))
    → KeepsRows (changed f at row rows) new
keeps_changed f at row rows new within ends own_end none own_none apart own_apart = record {
  within = λ i less.
      let below = in_range i less in
      elim (cases_eq i at) [
        | inl same ↦ subst (λ (r : Row). end_of r ≤ length new) (sym (here i same)) own_end
        | inr other ↦ subst (λ (r : Row). end_of r ≤ length new) (sym (there i below other)) (ends i below other)
      ];
  none = λ i less.
      let below = in_range i less in
      elim (cases_eq i at) [
        | inl same ↦ subst (λ (r : Row). r.count ≡ 0 → r.start ≡ 0) (sym (here i same)) own_none
        | inr other ↦ subst (λ (r : Row). r.count ≡ 0 → r.start ≡ 0) (sym (there i below other)) (none i below other)
      ];
  apart = λ i j lower less.
      let below = in_range j less in
      elim (cases_eq i at) [
        | inl same ↦
            let other : j ≢ at = λ e. omega (arith, e, same, lower) in
            subst (λ (r : Row). AreApart r (row_at (changed f at row rows) j)) (sym (here i same)) (subst (AreApart row) (sym (there j below other)) (own_apart j below other))
        | inr other ↦ elim (cases_eq j at) [
          | inl same ↦
              let less_i : i < length rows = omega (arith, lower, below) in
              subst (AreApart (row_at (changed f at row rows) i)) (sym (here j same)) (subst (λ (r : Row). AreApart r row) (sym (there i less_i other)) (turned row (f (row_at rows i)) (own_apart i less_i other)))
          | inr other_j ↦
              let less_i : i < length rows = omega (arith, lower, below) in
              subst (λ (r : Row). AreApart r (row_at (changed f at row rows) j)) (sym (there i less_i other)) (subst (AreApart (f (row_at rows i))) (sym (there j below other_j)) (apart i j lower below other other_j))
        ]
      ];
}
  where
    in_range : (i : ℕ) → i < length (changed f at row rows) → i < length rows
    in_range i less = omega (arith, less, length-changed f at row rows)

    here : (i : ℕ) → i ≡ at → row_at (changed f at row rows) i ≡ row
    here i same = ap (row_at (changed f at row rows)) same ∙ changed_at f at row rows within

    there : (i : ℕ) → i < length rows → i ≢ at → row_at (changed f at row rows) i ≡ f (row_at rows i)
    there i less other = changed_else f at row rows i less other

    turned : (a b : Row) → AreApart a b → AreApart b a
    turned a b (inl first) = inr first
    turned a b (inr second) = inl second

-- what stands after a line more of a row
pub record HasLine (rows : List Row) (lines : List Line) (at : ℕ) (x : Line) (rows' : List Row) (lines' : List Line) : Type 0 where
  pub keeps : KeepsRows rows' lines'
  pub listed : map (listed_by lines') rows' ≡ set (map (listed_by lines) rows) at (lengthened x (listed_at (map (listed_by lines) rows) at))

pub listed_at-map : (lines : List Line) (rows : List Row) (i : ℕ) → i < length rows → listed_at (map (listed_by lines) rows) i ≡ listed_by lines (row_at rows i)
listed_at-map lines rows i within = get_or-map (listed_by lines) rows i no_row _ within

-- the rows behind a line that was put at the end of all needn't be moved
pub none_behind : (rows : List Row) (lines : List Line) (from : ℕ) → KeepsRows rows lines → length lines ≤ from → map (moved_up from) rows ≡ rows
none_behind rows lines from keeps behind =
    same_lists (map (moved_up from) rows) rows (length-map rows (moved_up from)) (λ k d below.
    let less : k < length rows = omega (arith, below, length-map rows (moved_up from)) in
    get_or-map (moved_up from) rows k no_row d less ∙ stays k less ∙ get_or_default rows k no_row d less)
  where
    stays : (k : ℕ) → k < length rows → moved_up from (row_at rows k) ≡ row_at rows k
    stays k less = elim (up from (row_at rows k)) [
      | inl (some, higher, moved) ↦ absurd (omega (arith, some, higher, behind, keeps.within k less))
      | inr (why, same) ↦ same
    ]

has_line : (rows : List Row) (lines : List Line) (at : ℕ) (x : Line) → KeepsRows rows lines → at < length rows
    → let row = row_at rows at in
    let start = begin_of (length lines) row in
    HasLine rows lines at x (set (map (moved_up (start + row.count)) rows) at (record { set = row.set; start = start; count = row.count + 1 })) (insert lines (start + row.count) x)
unfolding end_is grown
has_line rows lines at x keeps within =
    let row = row_at rows at in
    let start = begin_of (length lines) row in
    let end = start + row.count in
    let it = ends_of rows lines at keeps within in
    let long : length (insert lines end x) ≡ length lines + 1 = length-insert lines end x it.ends in
    let new : Row = record { set = row.set; start = start; count = row.count + 1 } in
    record {
      keeps = keeps_changed (moved_up end) at new rows (insert lines end x) within
          (λ i less other. subst (λ (n : ℕ). end_of (moved_up end (row_at rows i)) ≤ n) (sym long) (within_up end (length lines) (row_at rows i) (moved_up end (row_at rows i)) (moved_up_is end (row_at rows i)) (keeps.within i less)))
          (omega (arith, it.ends, long))
          (λ i less other. none_up end (row_at rows i) (moved_up end (row_at rows i)) (moved_up_is end (row_at rows i)) (keeps.none i less))
          (λ none. absurd (omega (arith, none)))
          (λ i j lower less _ _. apart_up end (row_at rows i) (row_at rows j) (moved_up end (row_at rows i)) (moved_up end (row_at rows j)) (moved_up_is end (row_at rows i)) (moved_up_is end (row_at rows j)) (keeps.none i (omega (arith, lower, less))) (keeps.none j less) (keeps.apart i j lower less))
          (λ i less other. apart_grown start row.count (row_at rows i) (moved_up end (row_at rows i)) new refl refl (moved_up_is end (row_at rows i)) (keeps.none i less) (it.before i less other));
      listed = listed_changed (moved_up end) at new rows lines (insert lines end x) _ within (λ i less other. listed_up rows lines at start x keeps within it i less other) (listed_grown rows lines at start x keeps within it) ∙ ap (λ (l : Listed). set (map (listed_by lines) rows) at (lengthened x l)) (sym (listed_at-map lines rows at within));
    }
  where
    apart_grown : (start count : ℕ) (a c new : Row) → new.start ≡ start → new.count ≡ count + 1 → MovedUp (start + count) a c → (a.count ≡ 0 → a.start ≡ 0) → (a.start < start + count → end_of a ≤ start) → AreApart new c
    apart_grown start count a c new start_is count_is (same, inl (some, higher, moved)) none before = inl (omega (arith, start_is, count_is, higher, moved))
    apart_grown start count a c new start_is count_is (same, inr (inl empty, stays)) none before = inr (omega (arith, start_is, empty, stays, same, none empty))
    apart_grown start count a c new start_is count_is (same, inr (inr lower, stays)) none before = inr (omega (arith, start_is, stays, same, before lower))

pub has_line_as : (rows : List Row) (lines : List Line) (at : ℕ) (x : Line) → KeepsRows rows lines → at < length rows → (row : Row) (start : ℕ) (moved : List Row) (lines' : List Line) → row ≡ row_at rows at → start ≡ begin_of (length lines) row
    → moved ≡ map (moved_up (start + row.count)) rows → lines' ≡ insert lines (start + row.count) x → HasLine rows lines at x (set moved at (record { set = row.set; start = start; count = row.count + 1 })) lines'
has_line_as rows lines at x keeps within row start moved lines' row_is start_is moved_is lines_are =
    let F : Row → ℕ → Type 0 = λ r s. HasLine rows lines at x (set (map (moved_up (s + r.count)) rows) at (record { set = r.set; start = s; count = r.count + 1 })) (insert lines (s + r.count) x) in
    let here : F row start = subst (F row) (sym start_is) (subst (λ (r : Row). F r (begin_of (length lines) r)) (sym row_is) (has_line rows lines at x keeps within)) in
    let grown : Row = record { set = row.set; start = start; count = row.count + 1 } in
    subst (HasLine rows lines at x (set moved at grown)) (sym lines_are) (subst (λ (l : List Row). HasLine rows lines at x (set l at grown) (insert lines (start + row.count) x)) (sym moved_is) here)

-- ---- lines less

down : (end count : ℕ) (row : Row) → ((end ≤ row.start) × (moved_down end count row ≡ record row { start = row.start - count })) ⊎ ((row.start < end) × (moved_down end count row ≡ row))
down end count row = elim (cases_lt row.start end) [
  | inl lower ↦ inr (lower, grind (arith, nat_tests))
  | inr higher ↦ inl (higher, grind (arith, nat_tests))
]

-- A row begins behind these lines and may have been moved down, or has ended by this place and stays.
abbrev Settles : ℕ → ℕ → ℕ → Row → Row → Type 0
Settles low to by row new = (new.count ≡ row.count) × (((to ≤ row.start) × (new.start + by ≡ row.start)) ⊎ ((end_of row ≤ low) × (new.start ≡ row.start)))

apart_down : (low to by : ℕ) (a b c d : Row) → low + by ≤ to → Settles low to by a c → Settles low to by b d → AreApart a b → AreApart c d
apart_down low to by a b c d fits (same_a, inl (above_a, moved_a)) (same_b, inl (above_b, moved_b)) (inl first) = inl (omega (arith, same_a, moved_a, moved_b, first))
apart_down low to by a b c d fits (same_a, inl (above_a, moved_a)) (same_b, inl (above_b, moved_b)) (inr second) = inr (omega (arith, same_b, moved_a, moved_b, second))
apart_down low to by a b c d fits (same_a, inl (above_a, moved_a)) (same_b, inr (ends_b, stays_b)) apart = inr (omega (arith, same_b, above_a, moved_a, ends_b, stays_b, fits))
apart_down low to by a b c d fits (same_a, inr (ends_a, stays_a)) (same_b, inl (above_b, moved_b)) apart = inl (omega (arith, same_a, above_b, moved_b, ends_a, stays_a, fits))
apart_down low to by a b c d fits (same_a, inr (ends_a, stays_a)) (same_b, inr (ends_b, stays_b)) (inl first) = inl (omega (arith, same_a, stays_a, stays_b, first))
apart_down low to by a b c d fits (same_a, inr (ends_a, stays_a)) (same_b, inr (ends_b, stays_b)) (inr second) = inr (omega (arith, same_b, stays_a, stays_b, second))

within_down : (low to by long : ℕ) (a c : Row) → low + by ≤ long → Settles low to by a c → end_of a ≤ long → end_of c + by ≤ long
within_down low to by long a c fits (same, inl (above, moved)) within = omega (arith, same, moved, within)
within_down low to by long a c fits (same, inr (ends, stays)) within = omega (arith, same, ends, stays, fits)

none_down : (low to by : ℕ) (a c : Row) → 1 ≤ to → Settles low to by a c → (a.count ≡ 0 → a.start ≡ 0) → c.count ≡ 0 → c.start ≡ 0
none_down low to by a c some (same, inl (above, moved)) none empty = absurd (omega (arith, some, above, none (omega (arith, same, empty))))
none_down low to by a c some (same, inr (ends, stays)) none empty = omega (arith, stays, none (omega (arith, same, empty)))

apart_own : (low to by count : ℕ) (own a c : Row) → own.count ≡ count → ((count ≡ 0) × (own.start ≡ 0)) ⊎ (own.start ≡ low) → low + count + by ≡ to → Settles low to by a c → AreApart own c
apart_own low to by count own a c count_is (inl (none, front)) fits settles = inl (omega (arith, count_is, none, front))
apart_own low to by count own a c count_is (inr there) fits (same, inl (above, moved)) = inl (omega (arith, count_is, there, fits, above, moved))
apart_own low to by count own a c count_is (inr there) fits (same, inr (ends, stays)) = inr (omega (arith, same, there, ends, stays))

-- what stands after a row's lines were cut
pub record HasFewer (rows : List Row) (lines : List Line) (at count : ℕ) (rows' : List Row) (lines' : List Line) : Type 0 where
  pub keeps : KeepsRows rows' lines'
  pub listed : map (listed_by lines') rows' ≡ set (map (listed_by lines) rows) at (shortened count (listed_at (map (listed_by lines) rows) at))

module _ (rows : List Row) (lines : List Line) (at count : ℕ) (keeps : KeepsRows rows lines) (within : at < length rows) (fewer : count < (row_at rows at).count) where
  abbrev low : ℕ
  low = (row_at rows at).start

  abbrev to : ℕ
  to = end_of (row_at rows at)

  abbrev by : ℕ
  by = (row_at rows at).count - count

  abbrev left : List Line
  left = left_out (low + count) to lines

  abbrev cut : Row
  cut = record (row_at rows at) { count = count }

  abbrev own : Row
  own = record cut { start = begin_of 0 cut }

  settles : (i : ℕ) → i < length rows → i ≢ at → Settles low to by (row_at rows i) (moved_down to by (row_at rows i))
  settles i less other = elim (down to by (row_at rows i)) [
    | inl (higher, moved) ↦ (ap (λ (r : Row). r.count) moved, inl (higher, omega (arith, higher, ap (λ (r : Row). r.start) moved)))
    | inr (lower, stays) ↦ (
      ap (λ (r : Row). r.count) stays,
      inr (elim (sides rows lines at i keeps within less other) [ inl first ↦ absurd (omega (arith, first, lower)) | inr second ↦ second ], ap (λ (r : Row). r.start) stays),
    )
  ]

  listed_down : (i : ℕ) → i < length rows → i ≢ at → listed_by left (moved_down to by (row_at rows i)) ≡ listed_by lines (row_at rows i)
  listed_down i less other = elim (down to by (row_at rows i)) [
    | inl (higher, moved) ↦
        ap (listed_by left) moved
        ∙ ap (λ (l : List Line). record { set = (row_at rows i).set; lines = take (row_at rows i).count l })
        (ap (λ (n : ℕ). drop ((row_at rows i).start - n) left) (let e : by ≡ to - (low + count) = omega (arith, fewer) in e)
        ∙ drop_behind (row_at rows i).start (low + count) to lines higher (omega (arith, fewer)) (keeps.within at within))
    | inr (lower, stays) ↦
        let ended : end_of (row_at rows i) ≤ low = elim (sides rows lines at i keeps within less other) [ inl first ↦ absurd (omega (arith, first, lower)) | inr second ↦ second ] in
        ap (listed_by left) stays
        ∙ ap (λ (l : List Line). record { set = (row_at rows i).set; lines = l })
        (part_before (row_at rows i).start (row_at rows i).count (low + count) to lines (omega (arith, ended)) (omega (arith, fewer, keeps.within at within)))
  ]

  own_begins : ((count ≡ 0) × (own.start ≡ 0)) ⊎ ((1 ≤ count) × (own.start ≡ low))
  own_begins = begins 0 cut

  listed_own : listed_by left own ≡ shortened count (listed_by lines (row_at rows at))
  listed_own = ap (λ (l : List Line). record { set = (row_at rows at).set; lines = l })
      (elim own_begins [
        | inl (none, front) ↦ ap (λ (n : ℕ). take n (drop own.start left)) none ∙ sym (ap (λ (n : ℕ). take n (part low (row_at rows at).count lines)) none)
        | inr (some, there) ↦
            ap (λ (n : ℕ). part n count left) there
            ∙ part_before low count (low + count) to lines (omega arith) (omega (arith, fewer, keeps.within at within))
            ∙ sym (take-take count (row_at rows at).count (drop low lines) (omega (arith, fewer)))
      ])

  has_fewer : HasFewer rows lines at count (set (map (moved_down to by) rows) at own) left
  has_fewer =
      let long : length left + by ≡ length lines = omega (arith, length-append (take (low + count) lines) (drop to lines), length-take (low + count) lines, length-drop to lines, keeps.within at within, fewer) in
      let f = moved_down to by in
      record {
        keeps = keeps_changed f at own rows left within
            (λ i less other. omega (arith, long, within_down low to by (length lines) (row_at rows i) (f (row_at rows i)) (omega (arith, fewer, keeps.within at within)) (settles i less other) (keeps.within i less)))
            (elim own_begins [ inl (none, front) ↦ omega (arith, none, front) | inr (some, there) ↦ omega (arith, there, long, fewer, keeps.within at within) ])
            (λ i less other. none_down low to by (row_at rows i) (f (row_at rows i)) (omega (arith, fewer)) (settles i less other) (keeps.none i less))
            (λ none. elim own_begins [ inl (_, front) ↦ front | inr (some, _) ↦ absurd (omega (arith, none, some)) ])
            (λ i j lower less other_i other_j. apart_down low to by (row_at rows i) (row_at rows j) (f (row_at rows i)) (f (row_at rows j)) (omega (arith, fewer)) (settles i (omega (arith, lower, less)) other_i) (settles j less other_j) (keeps.apart i j lower less))
            (λ i less other. apart_own low to by count own (row_at rows i) (f (row_at rows i)) refl (elim own_begins [ inl front ↦ inl front | inr (_, there) ↦ inr there ]) (omega (arith, fewer)) (settles i less other));
        listed = listed_changed f at own rows lines left _ within listed_down listed_own ∙ ap (λ (l : Listed). set (map (listed_by lines) rows) at (shortened count l)) (sym (listed_at-map lines rows at within));
      }

pub has_fewer_as : (rows : List Row) (lines : List Line) (at count : ℕ) → KeepsRows rows lines → at < length rows → (row : Row) (start : ℕ) (moved : List Row) (lines' : List Line) → row ≡ row_at rows at → count < row.count → start ≡ begin_of 0 (record row { count = count })
    → moved ≡ map (moved_down (end_of row) (row.count - count)) rows → lines' ≡ left_out (row.start + count) (end_of row) lines → HasFewer rows lines at count (set moved at (record { set = row.set; start = start; count = count })) lines'
has_fewer_as rows lines at count keeps within row start moved lines' row_is fewer start_is moved_is lines_are =
    let F : Row → ℕ → Type 0 = λ r s. HasFewer rows lines at count (set (map (moved_down (end_of r) (r.count - count)) rows) at (record { set = r.set; start = s; count = count })) (left_out (r.start + count) (end_of r) lines) in
    let less : count < (row_at rows at).count = subst (λ (r : Row). count < r.count) row_is fewer in
    let here : F row start = subst (F row) (sym start_is) (subst (λ (r : Row). F r (begin_of 0 (record r { count = count }))) (sym row_is) (has_fewer rows lines at count keeps within less)) in
    let own : Row = record { set = row.set; start = start; count = count } in
    subst (HasFewer rows lines at count (set moved at own)) (sym lines_are) (subst (λ (l : List Row). HasFewer rows lines at count (set l at own) (left_out (row.start + count) (end_of row) lines)) (sym moved_is) here)

-- ---- rows more and less

pub map-insert : {X Y : Type 0} (f : X → Y) (xs : List X) (i : ℕ) (x : X) → map f (insert xs i x) ≡ insert (map f xs) i (f x)
map-insert f xs zero x = refl
map-insert f [] (suc i) x = refl
map-insert f (y ∷ ys) (suc i) x = ap (λ l. f y ∷ l) (map-insert f ys i x)

pub map-remove : {X Y : Type 0} (f : X → Y) (xs : List X) (i : ℕ) → map f (remove xs i) ≡ remove (map f xs) i
map-remove f [] zero = refl
map-remove f [] (suc i) = refl
map-remove f (y ∷ ys) zero = refl
map-remove f (y ∷ ys) (suc i) = ap (λ l. f y ∷ l) (map-remove f ys i)

listed_longer : (lines : List Line) (x : Line) (rows : List Row) → KeepsRows rows lines → map (listed_by (insert lines (length lines) x)) rows ≡ map (listed_by lines) rows
listed_longer lines x rows keeps =
    let one = map (listed_by (insert lines (length lines) x)) rows in
    let two = map (listed_by lines) rows in
    same_lists one two (length-map rows (listed_by (insert lines (length lines) x)) ∙ sym (length-map rows (listed_by lines))) (λ k d below.
    let less : k < length rows = omega (arith, below, length-map rows (listed_by (insert lines (length lines) x))) in
    get_or-map (listed_by (insert lines (length lines) x)) rows k no_row d less
    ∙ ap (λ (l : List Line). record { set = (row_at rows k).set; lines = l }) (part_below (row_at rows k).start (row_at rows k).count (length lines) lines x (omega (arith, keeps.within k less)) (omega arith))
    ∙ sym (get_or-map (listed_by lines) rows k no_row d less))

-- what is listed with one row more
pub listed_more : (lines : List Line) (x : Line) (rows : List Row) (at set : ℕ) → KeepsRows rows lines → map (listed_by (insert lines (length lines) x)) (insert rows at (record { set = set; start = length lines; count = 1 })) ≡ insert (map (listed_by lines) rows) at (begun_by set x)
listed_more lines x rows at set keeps =
    let all = insert lines (length lines) x in
    map-insert (listed_by all) rows at (record { set = set; start = length lines; count = 1 })
    ∙ ap₂ (λ (l : List Listed) (s : Listed). insert l at s) (listed_longer lines x rows keeps)
    (ap (λ (l : List Line). record { set = set; lines = l }) (ap (λ (l : List Line). take 1 (drop (length lines) l)) (insert_end lines x) ∙ ap (take 1) (drop_at lines (x ∷ []) (length lines) refl)))

pub remove-set : {X : Type 0} (xs : List X) (i : ℕ) (x : X) → remove (set xs i x) i ≡ remove xs i
remove-set [] zero x = refl
remove-set [] (suc i) x = refl
remove-set (y ∷ ys) zero x = refl
remove-set (y ∷ ys) (suc i) x = ap (λ l. y ∷ l) (remove-set ys i x)
