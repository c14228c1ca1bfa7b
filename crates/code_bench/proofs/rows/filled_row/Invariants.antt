use Rattle.std.proofs.Common.{◌≡◌, vec_len}
use Rattle.code_bench.proofs.rows.filled_row.Given as goal

abbrev pub invariant-loop : goal.invariant-loop
invariant-loop l = vec_len l.row ≡ l.counter
