use Rattle.std.proofs.Common.{◌∙◌, ap, arith}
use Rattle.std.specs.Int.{w64}
use Rattle.smore_base.specs.BigEndian.{number_of}
use Rattle.smore_base.proofs.BigEndianLaws.{exact64, Stands-number_at}
use Rattle.smore_base.proofs.big_endian.read_u64.Goals as goal

pub returns-clause-value : goal.returns-clause-value
unfolding number_of
returns-clause-value c = c.from_be_bytes.ensures ∙ ap (number_of w64) c.read_bytes.ensures.value

pub returns-clause-spelled : goal.returns-clause-spelled
returns-clause-spelled c = rw (returns-clause-value c) (Stands-number_at w64 c.args.bytes.now c.args.at exact64 (λ i. omega (arith, c.type_inv.bytes i)) c.requires)
