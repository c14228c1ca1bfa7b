use Rattle.set_tests.proofs.KeepLaws.{read_keeps}
use Rattle.set_tests.proofs.laws.reads_keep_sets.Goals as goal

pub returns : goal.returns
returns g c = λ old new w es t t' reads. read_keeps w es t t' (g.B.Bay.state old) (g.B.Bay.state new) reads
