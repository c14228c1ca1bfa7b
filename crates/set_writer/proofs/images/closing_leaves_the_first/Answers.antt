use Rattle.set_writer.proofs.ClosingImages.{closing_leaves_first, foot_comes_last, lost_before_feet}
use Rattle.set_writer.proofs.images.closing_leaves_the_first.Goals as goal

pub returns-clause-first : goal.returns-clause-first
returns-clause-first g c = λ old new w es t t' held view. closing_leaves_first w es t t' held (g.B.Bay.state old) (g.B.Bay.state new) view

pub returns-clause-foot : goal.returns-clause-foot
returns-clause-foot g c = λ old new w es t t' held image. foot_comes_last w es t t' held (g.B.Bay.state old) (g.B.Bay.state new) image

pub returns-clause-lost : goal.returns-clause-lost
returns-clause-lost g c = λ old new w es t t' held image. lost_before_feet w es t t' held (g.B.Bay.state old) (g.B.Bay.state new) image
