use Rattle.std.proofs.Common.{◌≡◌, ◌<◌, ◌≤◌, ℕ, length, get_or}
use Rattle.set_table.specs.declared.zone_use.ZoneUse.TheVariants.{Empty, Taken}
use Rattle.set_table.proofs.drive_zones.DriveZones.clear.Given as goal

abbrev pub invariant-loop-zone : goal.invariant-loop-zone
invariant-loop-zone l =
    (2 ≤ l.zone) × (l.zone ≤ l.zones) × (length l.self ≡ l.zones)
    × (get_or l.self 0 Taken ≡ Taken) × (get_or l.self 1 Taken ≡ Taken)
    × ((z : ℕ) → 2 ≤ z → z < l.zone → get_or l.self z Taken ≡ Empty)
