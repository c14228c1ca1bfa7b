use Rattle.std.proofs.Common.{◌∙◌, ap, arith}
use Rattle.std.specs.Int.{w32}
use Rattle.smore_base.specs.BigEndian.{number_of}
use Rattle.smore_base.proofs.BigEndianLaws.{exact32, Stands-number_at}
use Rattle.smore_base.proofs.big_endian.read_u32.Goals as goal

pub returns-clause-value : goal.returns-clause-value
unfolding number_of
returns-clause-value c = c.from_be_bytes.ensures ∙ ap (number_of w32) c.read_bytes.ensures.value

pub returns-clause-spelled : goal.returns-clause-spelled
returns-clause-spelled c = rw (returns-clause-value c) (Stands-number_at w32 c.args.bytes.now c.args.at exact32 (λ i. omega (arith, c.type_inv.bytes i)) c.requires)
