use Rattle.array_model.proofs.Behind.{records_without_note}
use Rattle.array_model.proofs.laws.records_without_note.Goals as goal

pub returns : goal.returns
returns c = records_without_note
