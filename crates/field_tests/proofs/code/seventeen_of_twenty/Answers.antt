use Rattle.std.proofs.Common.{refl}
use Rattle.rs_code.proofs.Indexes.{rising_indexes}
use Rattle.field_tests.proofs.code.seventeen_of_twenty.Goals as goal

pub fragment_into-requires-clause-have : goal.fragment_into-requires-clause-have
fragment_into-requires-clause-have g c =
    rw (c.new-code.ensures.k, c.new-code.ensures.p) (rising_indexes 17 20 _ refl refl)
