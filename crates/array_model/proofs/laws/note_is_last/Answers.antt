use Rattle.array_model.proofs.Behind.{put_note_is_last, delete_note_is_last}
use Rattle.array_model.proofs.laws.note_is_last.Goals as goal

pub returns-clause-put : goal.returns-clause-put
returns-clause-put c = put_note_is_last

pub returns-clause-delete : goal.returns-clause-delete
returns-clause-delete c = delete_note_is_last
