use Rattle.std.proofs.Common.{arith}
use Rattle.smore_base.proofs.BigEndianLaws.{IsWritten-then, IsWritten-nothing}
use Rattle.set_digest.proofs.line.write_fields.Goals as goal

pub returns-clause-written : goal.returns-clause-written
returns-clause-written c =
    IsWritten-then c.write_u16-at.ensures.written (IsWritten-then c.write_u8-at.ensures.written (IsWritten-then c.write_u32-at.ensures.written (IsWritten-then c.write_u16-at-2.ensures.written (IsWritten-then c.write_u64-at.ensures.written (IsWritten-then c.write_u64-at-2.ensures.written (IsWritten-then c.write_u32-at-2.ensures.written (IsWritten-then c.write_u32-at-3.ensures.written (IsWritten-then c.write_u32-at-4.ensures.written (IsWritten-then c.write_u32.ensures.written (IsWritten-nothing _ _) (omega arith)) (omega arith)) (omega arith)) (omega arith)) (omega arith)) (omega arith)) (omega arith)) (omega arith)) (omega arith)) (omega arith)
