use Rattle.smore_top.proofs.Commands.{one_command}
use Rattle.smore_top.proofs.laws.words_spell_one_command.Goals as goal

pub returns : goal.returns
returns c = one_command
