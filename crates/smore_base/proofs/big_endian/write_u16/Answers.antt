use Rattle.smore_base.specs.BigEndian.{big_endian}
use Rattle.smore_base.proofs.big_endian.write_u16.Goals as goal

pub returns-clause-written : goal.returns-clause-written
unfolding big_endian
returns-clause-written c = rw c.to_be_bytes.ensures at c.write_bytes.ensures.written
