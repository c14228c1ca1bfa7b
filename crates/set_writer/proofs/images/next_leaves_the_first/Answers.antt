use Rattle.set_writer.proofs.NextSetImages.{next_leaves_first, whole_before}
use Rattle.set_writer.proofs.NextFeet.{next_foot_comes_last, next_lost_before_feet, next_byte_comes_last}
use Rattle.set_writer.proofs.images.next_leaves_the_first.Goals as goal

pub returns-clause-first : goal.returns-clause-first
returns-clause-first g c = λ old new set' least w w' es t t' held view. next_leaves_first set' least w w' es t t' held (g.B.Bay.state old) (g.B.Bay.state new) view

pub returns-clause-head : goal.returns-clause-head
returns-clause-head g c = λ old new set' least w w' es t t' held view is left closes d z drive from begins e y i member. whole_before set' least w w' es t t' held (g.B.Bay.state old) (g.B.Bay.state new) view is left closes d z drive from begins e y i member

pub returns-clause-foot : goal.returns-clause-foot
returns-clause-foot g c = λ old new set' least w w' es t t' held image is left closes d z index foot more e y i then. next_foot_comes_last set' least w w' es t t' held (g.B.Bay.state old) (g.B.Bay.state new) image is left closes d z index foot more e y i then

pub returns-clause-lost : goal.returns-clause-lost
returns-clause-lost g c = λ old new set' least w w' es t t' held image is left closes d z index foot more e loses. next_lost_before_feet set' least w w' es t t' held (g.B.Bay.state old) (g.B.Bay.state new) image is left closes d z index foot more e loses

pub returns-clause-byte : goal.returns-clause-byte
returns-clause-byte g c = λ old new set' least w w' es t t' held image is left closes d z index first some e y i then. next_byte_comes_last set' least w w' es t t' held (g.B.Bay.state old) (g.B.Bay.state new) image is left closes d z index first some e y i then
