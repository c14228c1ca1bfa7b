use Rattle.std.proofs.Common.{◌≡◌, drop, map}
use Rattle.array_model.specs.NeedTests.{cuts_at_most}
use Rattle.array_scan.specs.Valid.{placed_with}
use Rattle.std.specs.List.{list_any}
use Rattle.array_scan.specs.Judged.{Payloads}
use Rattle.array_scan.proofs.cuts.some_cuts_at_most.Given as goal

abbrev pub invariant-loop-valid : goal.invariant-loop-valid
invariant-loop-valid l = (payload : Payloads) → list_any (λ later. cuts_at_most l.target l.kept later.item) (map (placed_with payload) l.records) ≡ list_any (λ later. cuts_at_most l.target l.kept later.item) (map (placed_with payload) (drop l.valid-index l.records))
