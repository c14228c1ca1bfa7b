use Rattle.std.proofs.Common.{◌≡◌, drop, nat_lt}
use Rattle.std.specs.Prelude.{◌&&◌, ◌==◌}
use Rattle.std.specs.List.{list_any}
use Rattle.array_scan.specs.Judged.{Payloads, sets_with}
use Rattle.array_scan.proofs.cuts.has_carrier.Given as goal

abbrev pub invariant-loop-set : goal.invariant-loop-set
invariant-loop-set l = (payload : Payloads) → list_any (λ set. (set.id == l.id) && nat_lt 0 set.carriers) (sets_with payload l.sets) ≡ list_any (λ set. (set.id == l.id) && nat_lt 0 set.carriers) (sets_with payload (drop l.set-index l.sets))
