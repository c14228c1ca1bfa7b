-- Lists of jobs. A job is a link with its place, or `None`, a closing mark.
use Rattle.std.specs.Prelude.{◌≡◌, ℕ, ◌+◌, List, [], ◌∷◌, ◌++◌, Option, Some, None, ◌⊎◌}
use Rattle.std.specs.List.{sum_by}

module _ {X : Type 0} where
  -- the jobs that are something, in order
  abbrev pub links_of : List (Option X) → List X
  links_of [] = []
  links_of (Some x ∷ js) = x ∷ links_of js
  links_of (None ∷ js) = links_of js

  -- how many marks there are
  abbrev pub marks_of : List (Option X) → ℕ
  marks_of [] = 0
  marks_of (Some x ∷ js) = marks_of js
  marks_of (None ∷ js) = marks_of js + 1

  -- a mark may be put behind anything, a link behind links alone
  abbrev pub MayPut : List (Option X) → Option X → Type 0
  MayPut js (Some x) = marks_of js ≡ 0
  MayPut js None = Unit {0}

  -- no link stands behind a mark
  abbrev pub MarksBehind : List (Option X) → Type 0
  MarksBehind [] = Unit {0}
  MarksBehind (Some x ∷ js) = MarksBehind js
  MarksBehind (None ∷ js) = links_of js ≡ []

  -- the first list is the second with some of it left out
  abbrev pub InOrder : List X → List X → Type 0
  InOrder [] ys = Unit {0}
  InOrder (x ∷ xs) [] = ⊥
  InOrder (x ∷ xs) (y ∷ ys) = ((x ≡ y) × InOrder xs ys) ⊎ InOrder (x ∷ xs) ys

  -- each of the lists is the one with some of it left out
  abbrev pub EachInOrder : List (List X) → List X → Type 0
  EachInOrder [] ys = Unit {0}
  EachInOrder (xs ∷ xss) ys = InOrder xs ys × EachInOrder xss ys

  -- what the lists hold together, weighed by h
  abbrev pub weight : (X → ℕ) → List (List X) → ℕ
  weight h xss = sum_by (sum_by h) xss

  -- whatever a thing weighs, the lists weigh what the one does: each thing of it stands in one of them, once
  abbrev pub EachOnce : List (List X) → List X → Type 0
  EachOnce xss ys = (h : X → ℕ) → weight h xss ≡ sum_by h ys

  -- the thing behind what the first list holds
  abbrev pub add_own : X → List (List X) → List (List X)
  add_own x [] = []
  add_own x (xs ∷ xss) = (xs ++ x ∷ []) ∷ xss
