use Rattle.std.proofs.Common.{arith}
use Rattle.smore_base.proofs.BigEndianLaws.{IsWritten-then}
use Rattle.set_digest.proofs.LineLaws.{name_written}
use Rattle.set_digest.proofs.line.write_name.Goals as goal

pub returns : goal.returns
returns c =
    let written = IsWritten-then c.write_u8-at.ensures.written c.write_bytes-at.ensures.written (omega arith) in
    name_written c.args.name.now c.args.out.now c.write_bytes-at.new.out c.write_zeros.new.out c.args.at c.write_bytes-at.result _ c.requires.short written.prefix (omega arith) c.write_zeros.ensures
