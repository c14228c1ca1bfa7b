use Rattle.std.proofs.Common.{◌∙◌, arith}
use Rattle.std.proofs.lemmas.List.{length-set}
use Rattle.set_table.specs.declared.members.Member.{Member}
use Rattle.set_reader.proofs.SourceLaws.{indexes_more}
use Rattle.set_reader.proofs.decode.indexes.Goals as goal

abbrev none : Member
none = record { index = 0; device = 0; zone = 0 }

pub loop-at-preserved : goal.loop-at-preserved
loop-at-preserved c =
    let long = c.loop-at.invariant.0 in (
      length-set c.loop-at.indexes c.loop-at.at _ ∙ long,
      indexes_more c.args.members.now c.loop-at.indexes c.loop-at.at none c.loop-at-test.true (omega (arith, c.loop-at-test.true, c.requires, long)) c.loop-at.invariant.1,
    )
