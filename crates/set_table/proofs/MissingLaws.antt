-- Whether an index is carried, by what is told of its carrier.
use Rattle.std.proofs.Common.{◌≡◌, ℕ, ◌<◌, true, false, length, get_or, Option, Some, None, IsSome, is_some, sym, ap, subst, ◌∙◌, arith}
use mathlib.Core.Bool.{false≢true}
use Rattle.std.specs.Prelude.{◌&&◌}
use Rattle.std.specs.List.{list_any}
use Rattle.std.proofs.lemmas.Bool.{and_from, and_parts, false_from_ne_true}
use Rattle.std.proofs.lemmas.List.Folds.{list_any_at}
use Rattle.std.proofs.lemmas.List.FromFn.{length-range_with_len, get_or-range_with_len}
use Rattle.set_table.specs.declared.zone_use.ZoneUse.TheVariants.{Taken, Carrier}
use Rattle.set_table.specs.Zones.{carries}
use Rattle.set_table.specs.Table.{Table, zones_of, use_at, is_live, TellsCarrier, is_carried, drives_of}
use Rattle.set_table.proofs.Counts.{any_somewhere}
use Rattle.set_table.proofs.UseLaws.{carrier_within, carries_carrier, is_carrier_of}

module _ (t : Table) (set index : ℕ) (drives : length t.zones ≡ t.geometry.drives) where
  pub carried_by : (d z : ℕ) → is_live t d ≡ true → use_at t.zones d z ≡ Carrier set index → is_carried t set index ≡ true
  carried_by d z live is =
      let within = carrier_within t.zones d z set index is in
      let zone = list_any_at (carries set index) (zones_of t.zones d) z Taken within.1 (ap (carries set index) is ∙ carries_carrier set index) in
      let here = and_from (is_live t d) (list_any (carries set index) (zones_of t.zones d)) live zone in
      let drive : d < t.geometry.drives = omega (arith, within.0, drives) in
      let at = get_or-range_with_len 0 t.geometry.drives d 0 drive in
      list_any_at (λ d. is_live t d && list_any (carries set index) (zones_of t.zones d)) (drives_of t.geometry) d 0 (omega (arith, drive, length-range_with_len 0 t.geometry.drives))
      (subst (λ e. (is_live t e && list_any (carries set index) (zones_of t.zones e)) ≡ true) {x = d} (omega (arith, at)) here)

  pub carried_where : (o : Option (ℕ × ℕ)) → TellsCarrier t set index o → IsSome o → is_carried t set index ≡ true
  carried_where (Some p) told some = carried_by p.0 p.1 told.live told.carries
  carried_where None told some = absurd (false≢true some)

  pub not_carried_where : (o : Option (ℕ × ℕ)) → TellsCarrier t set index o → is_some o ≡ false → is_carried t set index ≡ false
  not_carried_where (Some p) told none = absurd (false≢true (sym none))
  not_carried_where None told none = false_from_ne_true (is_carried t set index) (λ any.
      let drive = any_somewhere (λ d. is_live t d && list_any (carries set index) (zones_of t.zones d)) (drives_of t.geometry) any in
      let d = get_or (drives_of t.geometry) drive.0 0 in
      let both = and_parts (is_live t d) (list_any (carries set index) (zones_of t.zones d)) (drive.2 0) in
      let zone = any_somewhere (carries set index) (zones_of t.zones d) both.1 in
      told d zone.0 both.0 (is_carrier_of set index (use_at t.zones d zone.0) (zone.2 Taken)))
