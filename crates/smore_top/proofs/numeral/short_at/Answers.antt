use Rattle.std.proofs.Common.{◌^◌, arith}
use Rattle.smore_top.proofs.Numerals.{beyond_limit}
use Rattle.smore_top.proofs.numeral.short_at.Goals as goal

pub returns-in-Err : goal.returns-in-Err
returns-in-Err c n = beyond_limit (2 ^ 16) c.args.words.now c.args.index c.in_ok-number_at.field-0 n c.in-Err.ensures (omega arith) (omega arith) c.in_ok-number_at.ensures
