use Rattle.array_model.proofs.NoteNeed.{put_needs_its_parts, delete_needs_nothing, older_notes_unneeded, older_parts_unneeded}
use Rattle.array_model.proofs.laws.note_renews_need.Goals as goal

pub returns-clause-put : goal.returns-clause-put
returns-clause-put c = put_needs_its_parts

pub returns-clause-delete : goal.returns-clause-delete
returns-clause-delete c = delete_needs_nothing

pub returns-clause-notes : goal.returns-clause-notes
returns-clause-notes c = older_notes_unneeded

pub returns-clause-parts : goal.returns-clause-parts
returns-clause-parts c = older_parts_unneeded
