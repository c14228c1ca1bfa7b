use Rattle.gf_field.specs.Product.{product}
use Rattle.gf_kernel.specs.Rows.{made_byte, IsMadeBelow}
use Rattle.gf_kernel.proofs.rows.make_short_row.Given as goal

abbrev pub invariant-loop-i : goal.invariant-loop-i
invariant-loop-i l = IsMadeBelow l.i (made_byte l.keep (product l.c) l.fn.out l.src) l.fn.out l.out
