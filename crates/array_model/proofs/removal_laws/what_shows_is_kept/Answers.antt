use Rattle.array_model.proofs.Remains.{what_shows_is_kept, remains_are_kept}
use Rattle.array_model.proofs.removal_laws.what_shows_is_kept.Goals as goal

pub returns-clause-shows : goal.returns-clause-shows
returns-clause-shows c = what_shows_is_kept

pub returns-clause-remains : goal.returns-clause-remains
returns-clause-remains c = remains_are_kept
