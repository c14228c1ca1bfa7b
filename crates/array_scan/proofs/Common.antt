-- The longest list of records with which two lists begin.
use Rattle.std.proofs.Common.{◌≡◌, ℕ, zero, suc, ◌+◌, ◌<◌, min, Bool, true, false, cond, List, [], ◌∷◌, ◌++◌, length, take, drop, get_or, refl, sym, ap, ◌∙◌, inl, inr, arith, drop-cons, append-nil, append_assoc, add-one}
use Rattle.std.proofs.lemmas.Bool.{false_from_ne_true, cases_lt}
use Rattle.std.proofs.lemmas.List.{map-append, take_more, drop_all}
use Rattle.std.proofs.lemmas.Slice.Eq.{bytes_eq-Decides}
use Rattle.marker_format.specs.declared.marker.Marker.{Marker}
use Rattle.marker_format.specs.Marker.{IsMarker, spelling_of}
use Rattle.array_model.specs.Reading.{aside, alike, agree, common}
use Rattle.array_model.proofs.Alike.{nothing_else_is_aside}
use Rattle.array_scan.specs.declared.set_read.RecordAt.{RecordAt}
use Rattle.array_scan.specs.SetRead.{AreMarkers, markers_of}

-- How far the two lists are known to agree.
abbrev pub AgreeTo : List RecordAt → List RecordAt → ℕ → Type 0
AgreeTo one other n = common (markers_of one) (markers_of other) ≡ markers_of (take n one) ++ common (markers_of (drop n one)) (markers_of (drop n other))

each_at : (records : List RecordAt) (i : ℕ) (d : RecordAt) → AreMarkers records → i < length records → IsMarker (get_or records i d).marker
each_at [] i d all below = absurd (omega arith)
each_at (r ∷ records) zero d all below = all.0
each_at (r ∷ records) (suc i) d all below = each_at records i d all.1 (omega (arith, below))

agree_true : (one other : Marker) → aside one ≡ aside other → agree one other ≡ true
agree_true one other same = (bytes_eq-Decides (alike one) (alike other)).1 (ap spelled_aside same)
  where
    spelled_aside : Marker → List ℕ
    spelled_aside m = spelling_of m

agree_false : (one other : Marker) → IsMarker one → IsMarker other → (aside one ≡ aside other → ⊥) → agree one other ≡ false
agree_false one other one_is other_is differ = false_from_ne_true (agree one other) (λ e. differ (nothing_else_is_aside one other one_is other_is e))

common_head : (x y : Marker) (xs ys : List Marker) (b : Bool) → agree x y ≡ b → common (x ∷ xs) (y ∷ ys) ≡ cond b (x ∷ common xs ys) []
common_head x y xs ys b is = ap (λ b. cond b (x ∷ common xs ys) []) is

common_none : (xs : List Marker) → common xs [] ≡ []
common_none [] = refl
common_none (x ∷ xs) = refl

pub agree_none : (one other : List RecordAt) → AgreeTo one other 0
agree_none one other = refl

-- the records at the place
at_place : (xs : List RecordAt) (i : ℕ) (d : RecordAt) → i < length xs → markers_of (drop i xs) ≡ (get_or xs i d).marker ∷ markers_of (drop (i + 1) xs)
at_place xs i d below = ap markers_of (drop-cons xs i d below ∙ ap (λ n. get_or xs i d ∷ drop n xs) (sym (add-one i)))

pub agree_more : (one other : List RecordAt) (i : ℕ) (d e : RecordAt) → i < length one → i < length other → aside (get_or one i d).marker ≡ aside (get_or other i e).marker → AgreeTo one other i → AgreeTo one other (i + 1)
agree_more one other i d e in_one in_other same so_far =
    let x = (get_or one i d).marker in
    let y = (get_or other i e).marker in
    let xs = markers_of (drop (i + 1) one) in
    let ys = markers_of (drop (i + 1) other) in
    so_far
    ∙ ap (λ l. markers_of (take i one) ++ common l (markers_of (drop i other))) (at_place one i d in_one)
    ∙ ap (λ l. markers_of (take i one) ++ common (x ∷ xs) l) (at_place other i e in_other)
    ∙ ap (λ l. markers_of (take i one) ++ l) (common_head x y xs ys true (agree_true x y same))
    ∙ sym (append_assoc (markers_of (take i one)) (x ∷ []) (common xs ys))
    ∙ ap (λ l. l ++ common xs ys) (sym (map-append (λ (r : RecordAt). r.marker) (take i one) (get_or one i d ∷ [])) ∙ ap markers_of (sym (take_more one i d in_one)))

pub agree_ends : (one other : List RecordAt) (i : ℕ) (d e : RecordAt) → i < length one → i < length other → AreMarkers one → AreMarkers other → (aside (get_or one i d).marker ≡ aside (get_or other i e).marker → ⊥) → AgreeTo one other i
    → markers_of (take i one) ≡ common (markers_of one) (markers_of other)
agree_ends one other i d e in_one in_other one_are other_are differ so_far =
    let x = (get_or one i d).marker in
    let y = (get_or other i e).marker in
    let xs = markers_of (drop (i + 1) one) in
    let ys = markers_of (drop (i + 1) other) in
    sym (so_far
    ∙ ap (λ l. markers_of (take i one) ++ common l (markers_of (drop i other))) (at_place one i d in_one)
    ∙ ap (λ l. markers_of (take i one) ++ common (x ∷ xs) l) (at_place other i e in_other)
    ∙ ap (λ l. markers_of (take i one) ++ l) (common_head x y xs ys false (agree_false x y (each_at one i d one_are in_one) (each_at other i e other_are in_other) differ))
    ∙ append-nil (markers_of (take i one)))

pub agree_all : (one other : List RecordAt) (n : ℕ) → n ≡ min (length one) (length other) → AgreeTo one other n → markers_of (take n one) ≡ common (markers_of one) (markers_of other)
agree_all one other n is so_far = sym (so_far ∙ ap (λ l. markers_of (take n one) ++ l) rest ∙ append-nil (markers_of (take n one)))
  where
    rest : common (markers_of (drop n one)) (markers_of (drop n other)) ≡ []
    rest = elim (cases_lt n (length one)) [
      | inl shorter ↦ ap (λ l. common (markers_of (drop n one)) (markers_of l)) (drop_all n other (omega (arith, is, shorter))) ∙ common_none (markers_of (drop n one))
      | inr all ↦ ap (λ l. common (markers_of l) (markers_of (drop n other))) (drop_all n one all)
    ]
