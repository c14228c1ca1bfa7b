use Rattle.std.proofs.lemmas.Nat.{be_bytes_4}
use Rattle.smore_top.proofs.asking.body_length.Goals as goal

pub returns-clause-spelled : goal.returns-clause-spelled
returns-clause-spelled c = be_bytes_4 c.args.header.now c.from_be_bytes.result c.told-header c.fits-header c.from_be_bytes.ensures
