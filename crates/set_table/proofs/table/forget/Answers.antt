use Rattle.std.proofs.Common.{sym, ap, ◌∙◌}
use Rattle.set_table.specs.declared.zone_use.ZoneUse.TheVariants.{Taken}
use Rattle.set_table.specs.Zones.{carries}
use Rattle.set_table.specs.Table.{use_at}
use Rattle.set_table.proofs.UseLaws.{carrier_within, is_carrier_of, put_is}
use Rattle.set_table.proofs.ForgetLaws.{without_unplaced, without_placed}
use Rattle.set_table.proofs.table.forget.Goals as goal

pub returns-then-not-carries : goal.returns-then-not-carries
returns-then-not-carries c =
    let used = c.use_in.ensures ∙ ap (λ l. use_at l c.args.place.device c.args.place.zone) c.deref.ensures.value in
    sym (without_unplaced c.args.set c.args.index c.args.drives.now.items c.args.place c.requires (ap (carries c.args.set c.args.index) (sym used) ∙ sym c.carries.ensures ∙ c.if-not-carries.true))

pub returns : goal.returns
returns c =
    let zones = c.args.drives.now.items in
    let used = c.use_in.ensures ∙ ap (λ l. use_at l c.args.place.device c.args.place.zone) c.deref.ensures.value in
    let does = ap (carries c.args.set c.args.index) (sym used) ∙ sym c.carries.ensures ∙ c.if-not-carries.false in
    let within = carrier_within zones c.args.place.device c.args.place.zone c.args.set c.args.index (is_carrier_of c.args.set c.args.index (use_at zones c.args.place.device c.args.place.zone) does) in
    put_is zones c.args.place.device c.args.place.zone Taken c.index_mut.result.now c.put.new.self within.0 c.index_mut.ensures.value c.put.ensures
    ∙ sym (without_placed c.args.set c.args.index zones c.args.place c.requires does)
