use Rattle.std.proofs.Common.{arith}
use Rattle.std.proofs.lemmas.Slice.{take-put_mid, drop-put_mid}
use Rattle.smore_base.proofs.big_endian.write_bytes.Goals as goal

pub returns-clause-written : goal.returns-clause-written
returns-clause-written c =
    let same = c.copy_from_slice.ensures.after in
    record {
      prefix = rw same (take-put_mid c.args.at _ c.args.out.now c.args.bytes.now _ (omega arith) (omega arith));
      rest = rw same (drop-put_mid c.args.at _ c.args.out.now c.args.bytes.now _ (omega arith) (omega arith) (omega arith));
    }
