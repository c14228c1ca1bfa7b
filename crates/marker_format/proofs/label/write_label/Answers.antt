use Rattle.std.proofs.Common.{arith}
use Rattle.smore_base.proofs.BigEndianLaws.{IsWritten-then, IsWritten-nothing, IsWritten-all}
use Rattle.marker_format.specs.Label.{spelling_of}
use Rattle.marker_format.proofs.label.write_label.Goals as goal

pub returns : goal.returns
unfolding spelling_of
returns c =
    let row = IsWritten-then c.write_u8-at.ensures.written (IsWritten-then c.write_u8-at-2.ensures.written (IsWritten-then c.write_u8-at-3.ensures.written (IsWritten-then c.write_u8-at-4.ensures.written (IsWritten-then c.write_u8-at-5.ensures.written (IsWritten-then c.write_u16-at.ensures.written (IsWritten-then c.write_u32-at.ensures.written (IsWritten-then c.write_u32-at-2.ensures.written (IsWritten-nothing _ _) (omega arith)) (omega arith)) (omega arith)) (omega arith)) (omega arith)) (omega arith)) (omega arith)) (omega arith) in
    let written = IsWritten-then c.write_bytes-at.ensures.written (IsWritten-then row c.write_bytes.ensures.written (omega arith)) (omega arith) in
    IsWritten-all written (omega arith)
