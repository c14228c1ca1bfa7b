-- Which zones of a device are written.
use Rattle.std.proofs.Common.{◌≡◌, ℕ, ◌+◌, ◌<◌, ◌≤◌, inl, inr, true, false, List, [], ◌∷◌, length, Option, Some, None, IfSome, refl, sym, ap, subst, ◌∙◌, arith}
use Rattle.std.specs.Prelude.{◌↔◌, IsTrue}
use Rattle.std.proofs.lemmas.Bool.{cases_lt}
use Rattle.smore_base.proofs.Told.{IfSome-both}
use Rattle.zone_bay.specs.Contents.{Contents}
use Rattle.store_core.specs.Opening.{IsBlankFrom}

no_bytes : (bytes : List ℕ) → length bytes ≡ 0 → bytes ≡ []
no_bytes [] e = refl
no_bytes (x ∷ bytes) e = absurd (omega (arith, e))

-- ---- of one device

module _ (old now : Option Contents) (device first zone bytes : ℕ) (same : now ≡ old)
    (so_far : IfSome old (λ held. IsBlankFrom first zone (held device))) (asked : IfSome now (λ held. bytes ≡ length (held device zone))) where
  told : IfSome old (λ held. bytes ≡ length (held device zone))
  told = subst (λ (c : Option Contents). IfSome c (λ held. bytes ≡ length (held device zone))) same asked

  -- one more isn't written
  pub blank_more : bytes ≡ 0 → IfSome old (λ held. IsBlankFrom first (zone + 1) (held device))
  blank_more none = IfSome-both old _ _ _ so_far told (λ held blank is z from below. elim (cases_lt z zone) [
    | inl before ↦ blank z from before
    | inr not_before ↦
        let here : z ≡ zone = omega (arith, not_before, below) in
        subst (λ (n : ℕ). held device n ≡ []) (sym here) (no_bytes (held device zone) (sym is ∙ none))
  ])

  -- one is
  pub none_blank : (zones : ℕ) → (bytes ≡ 0 → ⊥) → first ≤ zone → zone < zones → IfSome old (λ held. IsTrue false ↔ IsBlankFrom first zones (held device))
  none_blank zones some from below = IfSome-both old _ _ _ so_far told (λ held blank is. (λ t. absurd cc, λ all. absurd (some (is ∙ ap length (all zone from below)))))

-- none is, up to the last
pub all_blank : (old : Option Contents) (device first zone zones : ℕ) → zones ≤ zone → IfSome old (λ held. IsBlankFrom first zone (held device)) → IfSome old (λ held. IsTrue true ↔ IsBlankFrom first zones (held device))
all_blank old device first zone zones last so_far = IfSome-both old _ _ _ so_far so_far (λ held blank again. (λ t z from below. blank z from (omega (arith, below, last)), λ all. refl))

-- before the first
pub blank_start : (old : Option Contents) (device first : ℕ) → IfSome old (λ held. IsBlankFrom first first (held device))
blank_start None device first = tt
blank_start (Some held) device first = λ z from below. absurd (omega (arith, from, below))

-- the drives behind the first, so many of them, are blank
abbrev pub AreBlank : (drives zones : ℕ) → Contents → Type 0
AreBlank drives zones held = (d : ℕ) → 1 ≤ d → d < drives → IsBlankFrom 2 zones (held d)
