-- What is told of a bay's contents.
use Rattle.std.proofs.Common.{◌≡◌, Option, Some, None, IfSome, refl, subst}
use Rattle.std.specs.Prelude.{IfNone}

pub told_at : {B : Type 0} (o : Option B) (P : B → Type 0) (x : B) → o ≡ Some x → IfSome o P → P x
told_at {B} o P x is h = subst (λ (o : Option B). IfSome o P) is h

pub told_from : {B : Type 0} (o : Option B) (P : B → Type 0) → ((x : B) → o ≡ Some x → P x) → IfSome o P
told_from None P each = tt
told_from (Some x) P each = each x refl

pub none_at : {B : Type 0} (o : Option B) (P : Type 0) → o ≡ None → IfNone o P → P
none_at {B} o P is h = subst (λ (o : Option B). IfNone o P) is h
