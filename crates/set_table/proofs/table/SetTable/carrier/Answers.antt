use Rattle.std.proofs.Common.{◌≡◌, ℕ, sym, ap, subst, ◌∙◌}
use Rattle.std.proofs.lemmas.Bool.{both_ways}
use Rattle.set_table.specs.declared.zone_use.ZoneUse.TheVariants.{Carrier}
use Rattle.set_table.specs.declared.rows.Place.{Place}
use Rattle.set_table.specs.Zones.{carries}
use Rattle.set_table.specs.Table.{Table, use_at, is_live, HasPlace}
use Rattle.set_table.proofs.UseLaws.{carried_by_none, carried_at, carries_carrier, is_carrier_of}
use Rattle.set_table.proofs.table.SetTable.carrier.Goals as goal
use Rattle.set_table.proofs.table.SetTable.carrier.Goals.{After-is_live}

pub returns-in_default : goal.returns-in_default
returns-in_default c = λ d z live is.
    let inside = c.self.inside in
    carried_by_none inside.geometry inside.lost.items inside.drives.items inside.rows.rows c.self.invariant c.args.set c.in_default.ensures c.args.index d z (subst (λ (t : Table). use_at t.zones d z ≡ Carrier c.args.set c.args.index) (sym c.self.view_is) is)

-- a zone that carries the index is the place that the row has of it
placed : (c : After-is_live) (d z : ℕ) → use_at c.args.self.now.zones d z ≡ Carrier c.args.set c.args.index → HasPlace c.in-Some.row.now c.args.index d z
placed c d z is =
    let inside = c.self.inside in
    carried_at inside.geometry inside.lost.items inside.drives.items inside.rows.rows c.self.invariant c.args.set c.in-Some.row.now c.in-Some.ensures c.args.index d z (subst (λ (t : Table). use_at t.zones d z ≡ Carrier c.args.set c.args.index) (sym c.self.view_is) is)

pub returns-then-not-is_live : goal.returns-then-not-is_live
returns-then-not-is_live c = λ d z live is.
    let there = ap (λ (p : Place). is_live c.args.self.now p.device) (placed (goal.at.returns-then-not-is_live c).After-is_live d z is) in
    both_ways c.is_live.result c.if-not-is_live.true (c.is_live.ensures ∙ there ∙ live)

pub returns-then-not-carries : goal.returns-then-not-carries
returns-then-not-carries c = λ d z live is.
    let there = ap (λ (p : Place). carries c.args.set c.args.index (use_at c.args.self.now.zones p.device p.zone)) (placed (goal.at.returns-then-not-carries c).After-is_live d z is) in
    both_ways c.carries.result c.if-not-carries.true (c.carries.ensures ∙ ap (carries c.args.set c.args.index) c.use_of.ensures ∙ there ∙ ap (carries c.args.set c.args.index) is ∙ carries_carrier c.args.set c.args.index)

pub returns : goal.returns
returns c = record {
  live = sym c.is_live.ensures ∙ c.if-not-is_live.false;
  carries = sym c.use_of.ensures ∙ is_carrier_of c.args.set c.args.index c.use_of.result (sym c.carries.ensures ∙ c.if-not-carries.false);
  alone = λ e y is.
      let at = placed (goal.at.returns c).After-is_live e y is in
      (sym (ap (λ (p : Place). p.device) at), sym (ap (λ (p : Place). p.zone) at));
}
