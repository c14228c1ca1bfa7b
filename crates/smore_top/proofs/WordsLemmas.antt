-- When two words are `batch F`.
use Rattle.std.proofs.Common.{◌≡◌, ℕ, Bool, true, false, not, List, [], ◌∷◌, length, Some, refl, sym, ap, subst, ◌∙◌, arith, IsTrue, ◌↔◌}
use Rattle.std.specs.Prelude.{slice_get, codes}
use Rattle.std.specs.Str.{bytes_eq}
use Rattle.std.proofs.lemmas.Bool.{false≢true}
use Rattle.std.proofs.lemmas.Slice.Eq.{bytes_eq-Decides}
use Rattle.smore_top.specs.Words.{IsOption, IsBatch}

two_words : (words : List (List ℕ)) (a b : List ℕ) → length words ≡ 2 → Some a ≡ slice_get words 0 → Some b ≡ slice_get words 1 → words ≡ a ∷ b ∷ []
two_words [] a b two first second = absurd (omega arith)
two_words (x ∷ []) a b two first second = absurd (omega arith)
two_words (x ∷ y ∷ []) a b two first second = cc
two_words (x ∷ y ∷ z ∷ zs) a b two first second = absurd (omega arith)

same_folder : (command folder other : List ℕ) (words : List (List ℕ)) → words ≡ command ∷ folder ∷ [] → words ≡ codes "batch" ∷ other ∷ [] → folder ≡ other
same_folder command folder other words e f = cc

pub IsBatch-folder : (words : List (List ℕ)) (command folder : List ℕ) (dashed : Bool) → length words ≡ 2 → Some command ≡ slice_get words 0 → Some folder ≡ slice_get words 1 → command ≡ codes "batch" → (IsTrue dashed ↔ IsOption folder)
    → (IsTrue (not dashed) ↔ IsBatch words)
IsBatch-folder words command folder true two first second batch test =
    let one : words ≡ command ∷ folder ∷ [] = two_words words command folder two first second in
    let dashed : IsOption folder = test.0 refl in
    (λ h. absurd cc, λ is. absurd (is.2 (subst (λ (w : List ℕ). IsOption w) (same_folder command folder is.0 words one is.1) dashed)))
IsBatch-folder words command folder false two first second batch test =
    let one : words ≡ command ∷ folder ∷ [] = two_words words command folder two first second in
    let two : words ≡ codes "batch" ∷ folder ∷ [] = one ∙ ap (λ (w : List ℕ). w ∷ folder ∷ []) batch in
    (λ h. (folder, two, λ dashed. false≢true (test.1 dashed)), λ is. refl)

not_false : (b : Bool) → not b ≡ false → b ≡ true
not_false true e = refl
not_false false e = sym e

-- what a failed `!=` says
pub same_bytes : (a b : List ℕ) (differ : Bool) → differ ≡ not (bytes_eq a b) → differ ≡ false → a ≡ b
same_bytes a b differ e f = (bytes_eq-Decides a b).0 (not_false (bytes_eq a b) (sym e ∙ f))
