use Rattle.std.proofs.Common.{arith}
use Rattle.smore_base.proofs.BigEndianLaws.{byte_is}
use Rattle.smore_base.proofs.big_endian.write_u8.Goals as goal

pub returns-clause-written : goal.returns-clause-written
returns-clause-written c = rw (byte_is c.args.number (omega arith)) c.write_bytes.ensures.written
