use Rattle.set_table.specs.Points.{point_at}
use Rattle.set_writer.proofs.RoundLaws.{rounds_few}
use Rattle.set_writer.proofs.laws.rounds_are_few.Goals as goal

pub returns : goal.returns
returns g c = λ set' rounds t t' old new in_rounds. rounds_few set' rounds (g.B.Bay.state new).failed (point_at t (g.B.Bay.state old)) (point_at t' (g.B.Bay.state new)) in_rounds
