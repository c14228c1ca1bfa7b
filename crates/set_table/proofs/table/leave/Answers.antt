use Rattle.std.proofs.Common.{inr, sym, ap, subst, ◌∙◌, IsSomeAnd, arith}
use Rattle.std.proofs.lemmas.Bool.{both_ways}
use Rattle.set_table.specs.declared.rows.Place.{Place}
use Rattle.set_table.specs.Zones.{carries}
use Rattle.set_table.specs.Table.{use_at, HasPlace}
use Rattle.set_table.proofs.RowLaws.{takes_none}
use Rattle.set_table.proofs.UseLaws.{carries_carrier}
use Rattle.set_table.proofs.table.leave.Goals as goal

pub returns-in_default-clause-rows : goal.returns-in_default-clause-rows
returns-in_default-clause-rows c = inr (
  (λ carried. subst (λ o. IsSomeAnd o (λ r. HasPlace r carried.2 carried.0 carried.1)) (sym c.in_default.ensures) (c.requires.places carried.0 carried.1 carried.2 carried.3)),
  takes_none c.args.rows.now.rows c.args.set (sym c.in_default.ensures),
)

pub returns-clause-rows : goal.returns-clause-rows
returns-clause-rows c = inr (
  (λ carried.
      let index = carried.2 in
      let at = subst (λ o. IsSomeAnd o (λ r. HasPlace r index carried.0 carried.1)) (sym c.in-Some.ensures) (c.requires.places carried.0 carried.1 index carried.3) in
      let small = c.requires.indexes carried.0 carried.1 index carried.3 in
      let there = ap (λ (p : Place). carries c.args.set index (use_at c.args.drives.now p.device p.zone)) at in
      both_ways (carries c.args.set index (use_at c.args.drives.now carried.0 carried.1)) (sym there ∙ c.loop-index.invariant index (omega (arith, small, c.loop-index-test.false))) (ap (carries c.args.set index) carried.3 ∙ carries_carrier c.args.set index)),
  c.remove.ensures.rows,
)
