use Rattle.smore_top.specs.Task.{array_of}
use Rattle.smore_top.specs.Headline.{MakesArray}
use Rattle.smore_top.proofs.formatting.make_array.Goals as goal
use Rattle.smore_top.proofs.formatting.make_array.Goals.{In-Ok}

made : (g : _) (c : In-Ok g) → MakesArray (array_of c.args.new.now) (g.B.Bay.state c.args.bay.now) (g.B.Bay.state c.format.new.bay)
made g c = record {
  formatted = c.in-Ok.ensures.ok;
  firm = c.in-Ok.ensures.firm;
  keeps = c.in-Ok.ensures.keeps c.requires.geometry.one_source c.requires.geometry.one_parity;
  counts = c.in-Ok.ensures.counts;
  same_shape = c.format.ensures.shape;
}

pub returns-in-Ok-put_all-clause-formats : goal.returns-in-Ok-put_all-clause-formats
returns-in-Ok-put_all-clause-formats g c left = (made g (goal.at.returns-in-Ok-put_all-clause-formats g c).In-Ok, c.in-Ok-put_all.ensures.ok)

pub returns-in-Err-put_all-clause-formats : goal.returns-in-Err-put_all-clause-formats
returns-in-Err-put_all-clause-formats g c left = (made g (goal.at.returns-in-Err-put_all-clause-formats g c).In-Ok, c.in-Err-put_all.ensures.err)
