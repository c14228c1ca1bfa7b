use Rattle.std.proofs.Common.{arith}
use Rattle.smore_base.proofs.BigEndianLaws.{IsWritten-then, IsWritten-nothing, IsWritten-all}
use Rattle.marker_format.specs.Foot.{spelling_of}
use Rattle.marker_format.proofs.foot.write_foot.Goals as goal

pub returns : goal.returns
unfolding spelling_of
returns c =
    let written =
    IsWritten-then c.write_bytes-at.ensures.written
    (IsWritten-then c.write_u64-at.ensures.written
    (IsWritten-then c.write_u8-at.ensures.written
    (IsWritten-then c.write_u16-at.ensures.written
    (IsWritten-then c.write_u32-at.ensures.written
    (IsWritten-then c.write_u32.ensures.written (IsWritten-nothing _ _)
    (omega arith)) (omega arith)) (omega arith)) (omega arith)) (omega arith)) (omega arith) in
    IsWritten-all written (omega arith)
