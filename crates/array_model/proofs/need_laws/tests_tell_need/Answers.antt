use Rattle.array_model.proofs.NeedTests.{copies_are_equal, tests_are_need}
use Rattle.array_model.proofs.need_laws.tests_tell_need.Goals as goal

pub returns-clause-copies : goal.returns-clause-copies
returns-clause-copies c = copies_are_equal

pub returns-clause-needed : goal.returns-clause-needed
returns-clause-needed c = tests_are_need
