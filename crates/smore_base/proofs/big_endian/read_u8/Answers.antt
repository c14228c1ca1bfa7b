use Rattle.std.proofs.Common.{arith}
use Rattle.std.specs.Int.{w8}
use Rattle.smore_base.proofs.BigEndianLaws.{exact8, byte_at, Stands-number_at}
use Rattle.smore_base.proofs.big_endian.read_u8.Goals as goal

pub returns-clause-value : goal.returns-clause-value
returns-clause-value c = byte_at c.args.bytes.now c.args.at

pub returns-clause-spelled : goal.returns-clause-spelled
returns-clause-spelled c = rw (returns-clause-value c) (Stands-number_at w8 c.args.bytes.now c.args.at exact8 (λ i. omega (arith, c.type_inv.bytes i)) c.requires)
