-- Counts of faults over several calls.
use Rattle.std.proofs.Common.{ℕ, Result, Ok, Err, arith, ◌∙◌}
use Rattle.std.specs.Result.{IsErrAnd}
use Rattle.zone_bay.specs.Outside.{HasCause}

-- a count of faults that stayed, and then one more call
pub cause_later : {T E T' E' : Type 0} (x : T) (r : Result T' E') (a b c : ℕ) → HasCause {E = E} (Ok x) a b → HasCause r b c → HasCause r a c
cause_later x (Ok y) a b c first then = record { keeps = omega (arith, first.keeps, then.keeps); ok = then.ok ∙ first.ok; err = tt }
cause_later x (Err e) a b c first then = record { keeps = omega (arith, first.keeps, then.keeps); ok = tt; err = λ below. omega (arith, first.keeps, then.err below) }

-- the answer of a failed call, passed on
pub cause_failed : {T E T' E' : Type 0} (e : E) (r : Result T' E') (a b : ℕ) → HasCause {T = T} (Err e) a b → (Q : E' → Type 0) → IsErrAnd r Q → HasCause r a b
cause_failed e (Ok y) a b failed Q is = absurd is
cause_failed e (Err d) a b failed Q is = record { keeps = failed.keeps; ok = tt; err = failed.err }
