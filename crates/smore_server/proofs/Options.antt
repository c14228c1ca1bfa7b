-- What is said where nothing is there.
use Rattle.std.proofs.Common.{◌≡◌, Option, None, Some, MatchOption, sym}
use Rattle.std.proofs.lemmas.Option.{none-some}

-- what is said of nothing
pub at_none : {T : Type 0} (o : Option T) (none : Type 0) (some : T → Type 0) → o ≡ None → MatchOption o none some → none
at_none None none some is said = said
at_none (Some value) none some is said = absurd (none-some value (sym is))
