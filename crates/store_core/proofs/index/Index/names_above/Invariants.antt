use Rattle.std.proofs.Common.{ℕ, Vec, Global}
use Rattle.store_core.specs.Extent.{names_above}
use Rattle.store_core.specs.Index.{notes_in}
use Rattle.store_core.proofs.Listing.{names_of, IsListed}
use Rattle.store_core.proofs.index.Index.names_above.Given as goal

abbrev pub invariant-loop : goal.invariant-loop
invariant-loop l = IsListed (names_above (notes_in l.self) l.after-2) l.list (names_of (λ (k : Vec ℕ Global). k.items) l.above) l.counter
