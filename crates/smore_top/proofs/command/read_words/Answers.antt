use Rattle.smore_top.proofs.Commands.{none_spelled, some_spelled}
use Rattle.smore_top.proofs.command.read_words.Goals as goal

pub returns-in_default : goal.returns-in_default
returns-in_default c = none_spelled c.args.words.now c.in_default.ensures

pub returns-in_default-of : goal.returns-in_default-of
returns-in_default-of c = some_spelled c.args.words.now c.in-Some.task c.in-Some.ensures
