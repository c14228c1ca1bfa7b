-- What tests of lists tell.
use Rattle.std.proofs.Common.{Bool, List, [], ◌∷◌, Decides, inl, inr, refl, sym, subst}
use Rattle.std.specs.List.{list_any, list_all}
use Rattle.std.proofs.lemmas.Bool.{false≢true, and_parts, and_from, or_cases, or_left, or_right}
use Rattle.array_model.proofs.Records.{Among}

-- some one of these passes
pub Decides-any : {X : Type 0} (p : X → Bool) (P : X → Type 0) → ((x : X) → Decides (p x) (P x)) → (xs : List X) → Decides (list_any p xs) ((x : X) × Among x xs × P x)
Decides-any p P each [] = (λ e. absurd (false≢true e), λ found. absurd found.1)
Decides-any {X} p P each (y ∷ xs) =
    let rest = Decides-any p P each xs in (
      λ e. elim (or_cases (p y) (list_any p xs) e) [
        | inl here ↦ (y, inl refl, (each y).0 here)
        | inr later ↦ let it = rest.0 later in (it.0, inr it.1, it.2)
      ],
      λ found. elim found.1 [
        | inl here ↦ or_left (p y) (list_any p xs) ((each y).1 (subst P (sym here) found.2))
        | inr later ↦ or_right (p y) (list_any p xs) (rest.1 (found.0, later, found.2))
      ],
    )

-- each of these passes
pub Decides-all : {X : Type 0} (p : X → Bool) (P : X → Type 0) → ((x : X) → Decides (p x) (P x)) → (xs : List X) → Decides (list_all p xs) ((x : X) → Among x xs → P x)
Decides-all p P each [] = (λ e x found. absurd found, λ all. refl)
Decides-all {X} p P each (y ∷ xs) =
    let rest = Decides-all p P each xs in (
      λ e x found.
          let both = and_parts (p y) (list_all p xs) e in
          elim found [
            | inl here ↦ subst P here ((each y).0 both.0)
            | inr later ↦ rest.0 both.1 x later
          ],
      λ all. and_from (p y) (list_all p xs) ((each y).1 (all y (inl refl))) (rest.1 (λ x found. all x (inr found))),
    )
