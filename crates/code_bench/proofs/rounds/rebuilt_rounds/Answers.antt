use Rattle.std.proofs.Common.{◌≡◌, ℕ, ◌+◌, ◌≤◌, take, sym, subst, ◌∙◌, arith}
use Rattle.std.specs.List.{range_with_len}
use Rattle.std.proofs.lemmas.List.{map-id}
use Rattle.std.proofs.lemmas.List.FromFn.{take-map-range_with_len}
use Rattle.rs_code.specs.Fragments.{AreIndexes}
use Rattle.rs_code.proofs.Sources.{range_is_indexes}
use Rattle.code_bench.specs.declared.rounds.TheConstants.{LEFT}
use Rattle.code_bench.proofs.rounds.rebuilt_rounds.Goals as goal

left_indexes : (k : ℕ) → k ≤ 19 → take k LEFT ≡ range_with_len 1 k
left_indexes k h = take-map-range_with_len (λ i. i) 1 19 k h ∙ map-id (range_with_len 1 k)

pub fragment_into-requires-clause-have : goal.fragment_into-requires-clause-have
fragment_into-requires-clause-have c =
    let code = c.args.shape.code in
    let few = code.few in
    let parity = code.has_parity in
    subst (AreIndexes code.k (code.k + code.p)) (sym (left_indexes code.k (omega arith))) (range_is_indexes 1 code.k (code.k + code.p) (omega arith))
