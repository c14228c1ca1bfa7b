use Rattle.marker_format.proofs.MarkerLaws as marker
use Rattle.marker_format.proofs.FootLaws as foot
use Rattle.marker_format.proofs.LabelLaws as label
use Rattle.marker_format.proofs.laws.spellings_are_apart.Goals as goal

pub returns-clause-markers : goal.returns-clause-markers
returns-clause-markers c = marker.one_spelling

pub returns-clause-feet : goal.returns-clause-feet
returns-clause-feet c = foot.one_spelling

pub returns-clause-labels : goal.returns-clause-labels
returns-clause-labels c = label.one_spelling
