use Rattle.std.proofs.Common.{◌≡◌, length, is_some, ap, subst, arith, rules}
use Rattle.smore_base.proofs.Told.{IfSome-both}
use Rattle.store_core.specs.Opening.{array_by}
use Rattle.store_core.specs.Sound.{IsSoundIndex}
use Rattle.store_core.proofs.SetZones.{held_read, full_read, map_used_alone}
use Rattle.store_core.proofs.opening.serve.Goals as goal

pub invariant_of-result : goal.invariant_of-result
invariant_of-result g c =
    let r = c.args.records in
    let geometry = c.args.label.now.geometry in
    let array = array_by c.args.label.now in
    let bay = g.B.Bay.state c.args.bay in
    let id : length c.args.label.now.array ≡ 16 = search rules in
    let fits = c.requires.zone in
    record {
      limits = c.requires.one.limits;
      of_bay = c.requires.one.of_bay;
      one_source = c.requires.one.one_source;
      one_parity = c.requires.one.one_parity;
      id = id;
      of_set = r.placed fits.some;
      within = omega (arith, r.within, fits.has_blocks);
      few = r.few;
      stamp_from = r.stamp_from;
      stamp_to = r.stamp_to;
      room = c.requires.room;
      sound = subst (λ n. ∥ IsSoundIndex n geometry.shard r.next_stamp r.said.index ∥₁) fits.has_blocks (subst (λ n. ∥ IsSoundIndex r.blocks n r.next_stamp r.said.index ∥₁) fits.has_shard r.sound);
      told = ∣ IfSome-both bay.contents _ _ _ c.requires.labelled c.requires.read (λ held labelled read. held_read array bay.shape held r labelled read) ∣₁;
      full = ∣ IfSome-both bay.contents _ _ _ c.requires.labelled c.requires.read (λ held labelled read. full_read array bay.shape held r labelled read) ∣₁;
    }

pub returns-clause-map : goal.returns-clause-map
returns-clause-map g c =
    let array = array_by c.args.label.now in
    let bay = g.B.Bay.state c.args.bay in
    let one = c.requires.one in
    IfSome-both bay.contents _ _ _ c.requires.labelled c.requires.read (λ held labelled read.
    map_used_alone array bay.shape held read.holds c.args.records.zone.blocks read.read.blocks one.one_source one.one_parity (omega (arith, one.of_bay.devices, one.limits.drives_from, one.limits.k_from, one.limits.p_from)) (omega (arith, one.of_bay.zones, one.limits.zones_from)) (ap is_some labelled.label) labelled.alone)
