use Rattle.std.proofs.Common.{sym, ◌∙◌}
use mathlib.Core.Bool.{false≢true}
use Rattle.set_table.specs.declared.members.Member.{Member}
use Rattle.set_reader.proofs.SourceLaws.{index_at, own_places}
use Rattle.set_reader.proofs.decode.are_sources.Goals as goal

abbrev none : Member
none = record { index = 0; device = 0; zone = 0 }

pub returns-then-from-at : goal.returns-then-from-at
returns-then-from-at c = (
  λ never i below. absurd (false≢true never),
  λ own. absurd (c.if-from-at.true (c.from.ensures ∙ sym (index_at c.args.members.now c.loop-at.at none c.loop-at-test.true) ∙ own c.loop-at.at c.loop-at-test.true)),
)

pub loop-at-preserved : goal.loop-at-preserved
loop-at-preserved c =
    own_places c.args.members.now c.loop-at.at c.loop-at.invariant
    (index_at c.args.members.now c.loop-at.at none c.loop-at-test.true ∙ sym c.from.ensures ∙ c.if-from-at.false)
