use Rattle.std.proofs.Common.{◌≡◌, ◌∙◌, ◌/◌, ◌+◌, ◌<◌, length, replicate, sym, ap, subst, arith}
use Rattle.std.proofs.lemmas.List.{length-replicate}
use Rattle.set_table.specs.declared.zone_use.ZoneUse.TheVariants.{Taken}
use Rattle.set_table.specs.Zones.{count_empty, before_empty, IsGrouped}
use Rattle.set_table.proofs.ZoneLaws.{none_empty, all_before}
use Rattle.set_table.proofs.GroupLaws.{none_grouped}
use Rattle.set_table.proofs.drive_zones.DriveZones.new.Goals as goal

pub invariant_of-drive : goal.invariant_of-drive
invariant_of-drive c =
    let zones = c.args.zones in
    let uses : c.in_ok-uses.uses.items ≡ replicate zones Taken = c.in_ok-uses.ensures.items_if_clones_equal (λ y same. same) in
    let groups : c.in_ok-groups.groups.items ≡ replicate (zones / 64 + 1) 0 = c.in_ok-groups.ensures.items_if_clones_equal (λ y same. same) in
    let grouped = none_grouped zones (zones / 64 + 1) (omega arith) in
    (subst (λ l. length l < 65536) (sym uses) (omega (arith, length-replicate zones Taken, c.ranges.zones.fits)), sym (ap count_empty uses ∙ none_empty zones), sym (ap before_empty uses ∙ all_before zones), subst (λ l. IsGrouped l c.in_ok-groups.groups.items) (sym uses) (subst (λ l. IsGrouped (replicate zones Taken) l) (sym groups) grouped))
