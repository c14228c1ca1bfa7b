-- Zones of which none carries an index of a set any more.
use Rattle.std.proofs.Common.{◌≡◌, ◌≢◌, ◌⊎◌, ℕ, zero, suc, ◌<◌, Bool, true, false, cond, List, [], ◌∷◌, map, length, get_or, set, inl, inr, refl, sym, ap, ◌∙◌, arith}
use Rattle.std.proofs.lemmas.Bool.{cases_Bool, false_from_ne_true, both_ways}
use Rattle.std.proofs.lemmas.List.{length-map}
use Rattle.set_table.specs.declared.zone_use.ZoneUse.{ZoneUse}
use Rattle.set_table.specs.declared.zone_use.ZoneUse.TheVariants.{Taken, Carrier}
use Rattle.set_table.specs.declared.rows.Place.{Place}
use Rattle.set_table.specs.Zones.{carries}
use Rattle.set_table.specs.Table.{zones_of, use_at, put_use, forgets, without, IsDrive}
use Rattle.set_table.proofs.UseLaws.{carrier_within, taken_is_bare, is_carrier_of}

module _ (number index : ℕ) where
  uses_same : (uses : List ZoneUse) → ((z : ℕ) → carries number index (get_or uses z Taken) ≡ false) → map (forgets number index) uses ≡ uses
  uses_same [] none = refl
  uses_same (u ∷ uses) none =
      ap (λ x. x ∷ map (forgets number index) uses) (ap (λ b. cond b Taken u) (none 0)) ∙ ap (λ l. u ∷ l) (uses_same uses (λ z. none (suc z)))

  uses_put : (uses : List ZoneUse) (z : ℕ) → z < length uses → carries number index (get_or uses z Taken) ≡ true → ((y : ℕ) → y ≢ z → carries number index (get_or uses y Taken) ≡ false) → map (forgets number index) uses ≡ set uses z Taken
  uses_put [] z within is others = absurd (omega (arith, within))
  uses_put (u ∷ uses) zero within is others =
      ap (λ x. x ∷ map (forgets number index) uses) (ap (λ b. cond b Taken u) is) ∙ ap (λ l. Taken ∷ l) (uses_same uses (λ y. others (suc y) (λ e. omega (arith, e))))
  uses_put (u ∷ uses) (suc z) within is others =
      ap (λ x. x ∷ map (forgets number index) uses) (ap (λ b. cond b Taken u) (others 0 (λ e. omega (arith, e)))) ∙ ap (λ l. u ∷ l) (uses_put uses z (omega (arith, within)) is (λ y apart. others (suc y) (λ e. apart (omega (arith, e)))))

  -- none did
  pub without_none : (zones : List (List ZoneUse)) → ((d z : ℕ) → carries number index (use_at zones d z) ≡ false) → without number index zones ≡ zones
  without_none [] none = refl
  without_none (uses ∷ zones) none = ap (λ l. l ∷ without number index zones) (uses_same uses (none 0)) ∙ ap (λ l. uses ∷ l) (without_none zones (λ d. none (suc d)))

  -- one did
  pub without_one : (zones : List (List ZoneUse)) (d z : ℕ) → d < length zones → z < length (zones_of zones d) → carries number index (use_at zones d z) ≡ true
      → ((e y : ℕ) → (e ≢ d) ⊎ (y ≢ z) → carries number index (use_at zones e y) ≡ false) → without number index zones ≡ put_use d z Taken zones
  without_one [] d z drive zone is others = absurd (omega (arith, drive))
  without_one (uses ∷ zones) zero z drive zone is others =
      ap (λ l. l ∷ without number index zones) (uses_put uses z zone is (λ y apart. others 0 y (inr apart))) ∙ ap (λ l. set uses z Taken ∷ l) (without_none zones (λ e y. others (suc e) y (inl (λ f. omega (arith, f)))))
  without_one (uses ∷ zones) (suc d) z drive zone is others =
      ap (λ l. l ∷ without number index zones) (uses_same uses (λ y. others 0 y (inl (λ f. omega (arith, f))))) ∙ ap (λ l. uses ∷ l) (without_one zones d z (omega (arith, drive)) zone is (λ e y apart. others (suc e) y (elim apart [
        | inl other ↦ inl (λ f. other (omega (arith, f)))
        | inr other ↦ inr other
      ])))

  uses_map : (uses : List ZoneUse) (z : ℕ) → get_or (map (forgets number index) uses) z Taken ≡ forgets number index (get_or uses z Taken)
  uses_map [] z = refl
  uses_map (u ∷ uses) zero = refl
  uses_map (u ∷ uses) (suc z) = uses_map uses z

  pub zones_without : (zones : List (List ZoneUse)) (d : ℕ) → zones_of (without number index zones) d ≡ map (forgets number index) (zones_of zones d)
  zones_without [] d = refl
  zones_without (uses ∷ zones) zero = refl
  zones_without (uses ∷ zones) (suc d) = zones_without zones d

  pub use_without : (zones : List (List ZoneUse)) (d z : ℕ) → use_at (without number index zones) d z ≡ forgets number index (use_at zones d z)
  use_without zones d z = ap (λ (l : List ZoneUse). get_or l z Taken) (zones_without zones d) ∙ uses_map (zones_of zones d) z

  pub length-without : (zones : List (List ZoneUse)) → length (without number index zones) ≡ length zones
  length-without zones = length-map zones (map (forgets number index))

  pub shaped-without : (zones : List (List ZoneUse)) (n : ℕ) → ((e : ℕ) → e < length zones → IsDrive n (zones_of zones e)) → (e : ℕ) → e < length (without number index zones) → IsDrive n (zones_of (without number index zones) e)
  shaped-without zones n shaped e within =
      let was = shaped e (omega (arith, within, length-without zones)) in
      record {
        length_is = ap length (zones_without zones e) ∙ length-map (zones_of zones e) (forgets number index) ∙ was.length_is;
        first = use_without zones e 0 ∙ ap (forgets number index) was.first;
        second = use_without zones e 1 ∙ ap (forgets number index) was.second;
      }

  -- each zone that carries a set carried it
  pub had_without : (zones : List (List ZoneUse)) (e y s i : ℕ) → use_at (without number index zones) e y ≡ Carrier s i → (use_at zones e y ≡ Carrier s i) × (carries number index (Carrier s i) ≡ false)
  had_without zones e y s i is = elim (cases_Bool (carries number index (use_at zones e y))) [
    | inl does ↦ absurd (taken_is_bare s i (sym (use_without zones e y ∙ ap (λ b. cond b Taken (use_at zones e y)) does) ∙ is))
    | inr does_not ↦
        let was = sym (use_without zones e y ∙ ap (λ b. cond b Taken (use_at zones e y)) does_not) ∙ is in
        (was, ap (carries number index) (sym was) ∙ does_not)
  ]

  -- each other carrier stays
  pub keeps_without : (zones : List (List ZoneUse)) (e y s i : ℕ) → s ≢ number → use_at zones e y ≡ Carrier s i → use_at (without number index zones) e y ≡ Carrier s i
  keeps_without zones e y s i apart is =
      use_without zones e y ∙ ap (forgets number index) is ∙ ap (λ b. cond b Taken (Carrier s i)) (other (carries number index (Carrier s i)) refl)
    where
      other : (b : Bool) → carries number index (Carrier s i) ≡ b → carries number index (Carrier s i) ≡ false
      other false e = e
      other true e = absurd (apart (same_set (is_carrier_of number index (Carrier s i) e)))
        where
          same_set : Carrier s i ≡ Carrier number index → s ≡ number
          same_set f = cc

  pub taken_stays : (zones : List (List ZoneUse)) (d z s i : ℕ) → (use_at zones d z ≡ Carrier s i → ⊥) → use_at (without number index zones) d z ≡ Carrier s i → ⊥
  taken_stays zones d z s i bare is = bare (had_without zones d z s i is).0

  -- by the place that may carry it
  module _ (zones : List (List ZoneUse)) (place : Place) (placed : (d z : ℕ) → use_at zones d z ≡ Carrier number index → place ≡ record { device = d; zone = z }) where
    pub without_unplaced : carries number index (use_at zones place.device place.zone) ≡ false → without number index zones ≡ zones
    without_unplaced does_not = without_none zones (λ d z. false_from_ne_true _ (λ does.
        let at = placed d z (is_carrier_of number index (use_at zones d z) does) in
        both_ways _ does_not (ap (λ (p : Place). carries number index (use_at zones p.device p.zone)) at ∙ does)))

    pub without_placed : carries number index (use_at zones place.device place.zone) ≡ true → without number index zones ≡ put_use place.device place.zone Taken zones
    without_placed does =
        let within = carrier_within zones place.device place.zone number index (is_carrier_of number index (use_at zones place.device place.zone) does) in
        without_one zones place.device place.zone within.0 within.1 does (λ e y apart. false_from_ne_true _ (λ other.
        let at = placed e y (is_carrier_of number index (use_at zones e y) other) in
        elim apart [
          | inl device ↦ device (sym (ap (λ (p : Place). p.device) at))
          | inr zone ↦ zone (sym (ap (λ (p : Place). p.zone) at))
        ]))
