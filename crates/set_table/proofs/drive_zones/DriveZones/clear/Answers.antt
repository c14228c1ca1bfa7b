use Rattle.std.proofs.Common.{◌∙◌, ap, length, arith}
use Rattle.set_table.specs.Zones.{blank}
use Rattle.set_table.proofs.ZoneLaws.{blank_is}
use Rattle.set_table.proofs.drive_zones.DriveZones.clear.Goals as goal

pub returns : goal.returns
returns c =
    let zones = c.len-zones.result in
    let kept = c.loop-zone.invariant in
    blank_is zones c.loop-zone.self (omega (arith, kept.0, kept.1)) (record { long = kept.2; first = kept.3; second = kept.4; others = λ z from to. kept.5 z from (omega (arith, to, c.loop-zone-test.false, kept.1)) })
    ∙ ap blank (omega (arith, c.len-zones.ensures, c.self.inside.uses.ok, ap length c.self.view_is))
