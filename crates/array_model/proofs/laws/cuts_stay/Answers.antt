use Rattle.array_model.proofs.UnneededSets.{unneeded_keep_cuts}
use Rattle.array_model.proofs.CutsStay.{copies_keep_cuts, others_keep_cuts, dropped_set_keeps_cuts, opening_keeps_cuts}
use Rattle.array_model.proofs.laws.cuts_stay.Goals as goal

pub returns-clause-losses : goal.returns-clause-losses
returns-clause-losses c = unneeded_keep_cuts

pub returns-clause-copies : goal.returns-clause-copies
returns-clause-copies c = copies_keep_cuts

pub returns-clause-others : goal.returns-clause-others
returns-clause-others c = others_keep_cuts

pub returns-clause-dropped : goal.returns-clause-dropped
returns-clause-dropped c = dropped_set_keeps_cuts

pub returns-clause-opened : goal.returns-clause-opened
returns-clause-opened c = opening_keeps_cuts
