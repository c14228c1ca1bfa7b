-- A table where a zone carries an index of a set, and no other zone does any more.
use Rattle.std.proofs.Common.{◌≡◌, ◌≢◌, ℕ, ◌<◌, ◌≤◌, Bool, true, false, cond, List, length, Some, IsSome, IsSomeAnd, IfSome, inl, inr, refl, sym, ap, subst, ◌∙◌, arith}
use Rattle.std.specs.Prelude.{◌==◌}
use Rattle.std.proofs.lemmas.Bool.{eqb-true, eq-eqb, both_ways}
use Rattle.std.proofs.lemmas.List.{length-map}
use Rattle.smore_base.specs.declared.geometry.Geometry.{Geometry}
use Rattle.smore_base.specs.declared.limits.TheConstants.{MAX_FRAGMENTS}
use Rattle.set_table.specs.declared.zone_use.ZoneUse.{ZoneUse}
use Rattle.set_table.specs.declared.zone_use.ZoneUse.TheVariants.{Carrier}
use Rattle.set_table.specs.declared.rows.Row.{Row}
use Rattle.set_table.specs.Zones.{carries}
use Rattle.set_table.specs.Rows.{row_of, PutsRow}
use Rattle.set_table.specs.Table.{zones_of, use_at, put_use, without, forgets, IsBare, IsCarried, HasPlace, IsTable}
use Rattle.set_table.proofs.TableLaws.{length-put, put_there, shaped-put}
use Rattle.set_table.proofs.UseLaws.{carries_carrier, each_use, keeps_carrier}
use Rattle.set_table.proofs.ForgetLaws.{zones_without, length-without, shaped-without, had_without, keeps_without, taken_stays}

module _ (g : Geometry) (lost : List Bool) (zones : List (List ZoneUse)) (rows new : List Row) (changed : Row) (d z index : ℕ) where
  pub table_carrier : IsTable g lost zones rows → d < length zones → 2 ≤ z → z < length (zones_of zones d)
      → IsBare (use_at zones d z) → index < MAX_FRAGMENTS
      → length changed.places ≡ MAX_FRAGMENTS → HasPlace changed index d z → ((i e y : ℕ) → i ≢ index → use_at zones e y ≡ Carrier changed.set i → HasPlace changed i e y)
      → PutsRow changed rows new → IsTable g lost (put_use d z (Carrier changed.set index) (without changed.set index zones)) new
  table_carrier table was_drive high was_zone was_bare small long here others puts = record {
    within = table.within;
    devices = table.devices;
    drives = length-put left d z used ∙ length-without changed.set index zones ∙ table.drives;
    shaped = shaped-put left d z used g.zones high (shaped-without changed.set index zones g.zones table.shaped);
    carried = λ s some. carried s (changed.set == s) refl (subst IsSome (puts s) some);
    indexes = λ e y s i is. elim (each_use left d z used drive zone e y) [
      | inl it ↦ let same : index ≡ i = carrier_index (sym it.2 ∙ is) in subst (λ n. n < MAX_FRAGMENTS) same small
      | inr same ↦ table.indexes e y s i (had_without changed.set index zones e y s i (sym same ∙ is)).0
    ];
    places = λ e y s i is. subst (λ o. IsSomeAnd o (λ r. HasPlace r i e y)) (sym (puts s)) (elim (each_use left d z used drive zone e y) [
      | inl it ↦ there e y s i it.0 it.1 (sym it.2 ∙ is) (changed.set == s) refl
      | inr same ↦ elsewhere e y s i (sym same ∙ is) (changed.set == s) refl
    ]);
    full = λ s. subst (λ o. IfSome o (λ r. length r.places ≡ MAX_FRAGMENTS)) (sym (puts s)) (full s (changed.set == s));
  }
    where
      left : List (List ZoneUse)
      left = without changed.set index zones

      used : ZoneUse
      used = Carrier changed.set index

      drive : d < length left
      drive = omega (arith, was_drive, length-without changed.set index zones)

      zone : z < length (zones_of left d)
      zone = omega (arith, was_zone, ap length (zones_without changed.set index zones d), length-map (zones_of zones d) (forgets changed.set index))

      bare : IsBare (use_at left d z)
      bare s i is = taken_stays changed.set index zones d z s i (was_bare s i) is

      full : (s : ℕ) (b : Bool) → IfSome (cond b (Some changed) (row_of s rows)) (λ r. length r.places ≡ MAX_FRAGMENTS)
      full s true = long
      full s false = table.full s

      carrier_index : {s i : ℕ} → Carrier changed.set index ≡ Carrier s i → index ≡ i
      carrier_index e = cc

      carrier_set : {s i : ℕ} → Carrier changed.set index ≡ Carrier s i → changed.set ≡ s
      carrier_set e = cc

      carried : (s : ℕ) (b : Bool) → (changed.set == s) ≡ b → IsSome (cond b (Some changed) (row_of s rows)) → IsCarried (put_use d z used left) s
      carried s true e some = (d, z, index, put_there left d z used drive zone ∙ ap (λ n. Carrier n index) (eqb-true changed.set s e))
      carried s false e some =
          let it = table.carried s some in
          let kept = keeps_without changed.set index zones it.0 it.1 s it.2 (λ same. both_ways (changed.set == s) e (eq-eqb changed.set s (sym same))) it.3 in
          (it.0, it.1, it.2, keeps_carrier left d z used drive zone bare it.0 it.1 s it.2 kept)

      there : (e y s i : ℕ) → e ≡ d → y ≡ z → used ≡ Carrier s i → (b : Bool) → (changed.set == s) ≡ b → IsSomeAnd (cond b (Some changed) (row_of s rows)) (λ r. HasPlace r i e y)
      there e y s i drive_is zone_is is true t = subst (λ n. HasPlace changed n e y) (carrier_index is) (subst (λ n. HasPlace changed index n y) (sym drive_is) (subst (λ n. HasPlace changed index d n) (sym zone_is) here))
      there e y s i drive_is zone_is is false t = absurd (both_ways (changed.set == s) t (eq-eqb changed.set s (carrier_set is)))

      elsewhere : (e y s i : ℕ) → use_at left e y ≡ Carrier s i → (b : Bool) → (changed.set == s) ≡ b → IsSomeAnd (cond b (Some changed) (row_of s rows)) (λ r. HasPlace r i e y)
      elsewhere e y s i is true t =
          let was = had_without changed.set index zones e y s i is in
          let same = was.0 ∙ ap (λ n. Carrier n i) (sym (eqb-true changed.set s t)) in
          others i e y (λ j. both_ways (carries changed.set index (Carrier s i)) was.1 (ap (λ n. carries changed.set index (Carrier n i)) (sym (eqb-true changed.set s t)) ∙ ap (λ n. carries changed.set index (Carrier changed.set n)) j ∙ carries_carrier changed.set index)) same
      elsewhere e y s i is false t = table.places e y s i (had_without changed.set index zones e y s i is).0
