-- Labels that say the same.
use Rattle.std.proofs.Common.{ℕ, ◌+◌, ◌<◌, List, [], ◌∷◌, length, take, get_or, inl, inr, sym, ◌∙◌, subst}
use Rattle.std.specs.List.{AllByRecursion}
use Rattle.std.proofs.lemmas.List.{take_more}
use Rattle.marker_format.specs.declared.label.Label.{Label}
use Rattle.array_model.proofs.Records.{all_among, among_from_contains}
use Rattle.array_model.proofs.SameZones.{all-append}
use Rattle.array_scan.specs.Drives.{SaySame, HasTwo}

pub says_more : (first d : Label) (ls : List Label) (n : ℕ) → n < length ls → SaySame (get_or ls n d) first → AllByRecursion (λ l. SaySame l first) (take n ls) → AllByRecursion (λ l. SaySame l first) (take (n + 1) ls)
says_more first d ls n below same so_far =
    subst (λ (xs : List Label). AllByRecursion (λ l. SaySame l first) xs) (sym (take_more ls n d below)) (all-append (λ l. SaySame l first) (take n ls) (get_or ls n d ∷ []) so_far (same, tt))

-- Where all say the same, no two differ.
pub none_differ : (first : Label) (ls : List Label) → AllByRecursion (λ l. SaySame l first) ls → HasTwo ls → ⊥
none_differ first ls all (a, b, here, there, inl differ) =
    let one = all_among (λ l. SaySame l first) ls a all (among_from_contains ls a here) in
    let other = all_among (λ l. SaySame l first) ls b all (among_from_contains ls b there) in
    differ (one.0 ∙ sym other.0)
none_differ first ls all (a, b, here, there, inr differ) =
    let one = all_among (λ l. SaySame l first) ls a all (among_from_contains ls a here) in
    let other = all_among (λ l. SaySame l first) ls b all (among_from_contains ls b there) in
    differ (one.1 ∙ sym other.1)
