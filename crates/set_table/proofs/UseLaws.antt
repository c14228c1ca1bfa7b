-- A table where one zone is put to another use, that carries a set then or doesn't.
use Rattle.std.proofs.Common.{◌≡◌, ◌⊎◌, ℕ, ◌+◌, ◌-◌, ◌<◌, ◌≤◌, Bool, true, false, cond, List, [], map, option_map, length, get_or, set, Option, Some, None, IsSome, IsSomeAnd, is_some, inl, inr, refl, sym, ap, subst, ◌∙◌, arith}
use Rattle.std.specs.Prelude.{◌==◌, ◌&&◌}
use Rattle.std.proofs.lemmas.Bool.{and_parts, eqb-true, eq-eqb, cases_eq, cases_lt}
use Rattle.std.proofs.lemmas.List.{get_or_past, get_or_default, set-get_or}
use Rattle.smore_base.specs.declared.geometry.Geometry.{Geometry}
use Rattle.set_table.specs.declared.zone_use.ZoneUse.{ZoneUse}
use Rattle.set_table.specs.declared.zone_use.ZoneUse.TheVariants.{Empty, Taken, Carrier}
use Rattle.set_table.specs.declared.rows.Row.{Row}
use Rattle.set_table.specs.Zones.{is_empty, carries}
use Rattle.set_table.specs.Rows.{RowList, row_of}
use Rattle.set_table.specs.Table.{marks_of, marked, zones_of, use_at, put_use, taken, IsBare, HasPlace, IsTable}
use Rattle.set_table.proofs.TableLaws.{marks_row, some_row, length-put, put_there, put_elsewhere, shaped-put}

pub taken_is_bare : IsBare Taken
taken_is_bare s i is = absurd cc

pub empty_is_bare : IsBare Empty
empty_is_bare s i is = absurd cc

pub bare_where_empty : (u : ZoneUse) → is_empty u ≡ true → IsBare u
bare_where_empty Empty e = empty_is_bare
bare_where_empty Taken e = taken_is_bare
bare_where_empty (Carrier s i) e = absurd cc

pub taken_where_empty : (u : ZoneUse) → is_empty u ≡ true → taken u ≡ Taken
taken_where_empty Empty e = refl
taken_where_empty Taken e = refl
taken_where_empty (Carrier s i) e = absurd cc

pub taken_elsewhere : (u : ZoneUse) → is_empty u ≡ false → taken u ≡ u
taken_elsewhere Empty e = absurd cc
taken_elsewhere Taken e = refl
taken_elsewhere (Carrier s i) e = refl

pub carries_carrier : (s i : ℕ) → carries s i (Carrier s i) ≡ true
carries_carrier s i = ap (λ b. b && (i == i)) (eq-eqb s s refl) ∙ eq-eqb i i refl

pub is_carrier_of : (s i : ℕ) (u : ZoneUse) → carries s i u ≡ true → u ≡ Carrier s i
is_carrier_of s i Empty e = absurd cc
is_carrier_of s i Taken e = absurd cc
is_carrier_of s i (Carrier t j) e =
    let both = and_parts (t == s) (j == i) e in
    ap (λ n. Carrier n j) (eqb-true t s both.0) ∙ ap (Carrier s) (eqb-true j i both.1)

-- the same use
pub put_same : (zones : List (List ZoneUse)) (d z : ℕ) → put_use d z (use_at zones d z) zones ≡ zones
put_same zones d z = ap (set zones d) (set-get_or (zones_of zones d) z Taken) ∙ set-get_or zones d []

-- what a zone is used for, of one drive that was found
pub put_is : (zones : List (List ZoneUse)) (d z : ℕ) (u : ZoneUse) (was now : List ZoneUse) → d < length zones → was ≡ get_or zones d was → now ≡ set was z u → set zones d now ≡ put_use d z u zones
put_is zones d z u was now within is put = ap (set zones d) (put ∙ ap (λ l. set l z u) (is ∙ get_or_default zones d was [] within))

-- the drive has the zone, where it carries a set
pub carrier_within : (zones : List (List ZoneUse)) (d z s i : ℕ) → use_at zones d z ≡ Carrier s i → (d < length zones) × (z < length (zones_of zones d))
carrier_within zones d z s i is = elim (cases_lt z (length (zones_of zones d))) [
  | inl zone ↦ (drive zone, zone)
  | inr past ↦ absurd (taken_is_bare s i (sym (get_or_past (zones_of zones d) z Taken past) ∙ is))
]
  where
    drive : z < length (zones_of zones d) → d < length zones
    drive zone = elim (cases_lt d (length zones)) [
      | inl within ↦ within
      | inr past ↦ absurd (omega (arith, zone, ap (length {A = ZoneUse}) (get_or_past zones d [] past)))
    ]

module _ (zones : List (List ZoneUse)) (d z : ℕ) (u : ZoneUse) (drive : d < length zones) (zone : z < length (zones_of zones d)) where
  -- this zone, or any other
  pub each_use : (e y : ℕ) → ((e ≡ d) × (y ≡ z) × (use_at (put_use d z u zones) e y ≡ u)) ⊎ (use_at (put_use d z u zones) e y ≡ use_at zones e y)
  each_use e y = elim (cases_eq e d) [
    | inr apart ↦ inr (put_elsewhere zones d z u e y drive (inl apart))
    | inl same ↦ elim (cases_eq y z) [
      | inr apart ↦ inr (put_elsewhere zones d z u e y drive (inr apart))
      | inl here ↦ inl (same, here, ap (λ n. use_at (put_use d z u zones) n y) same ∙ ap (use_at (put_use d z u zones) d) here ∙ put_there zones d z u drive zone)
    ]
  ]

  pub keeps_carrier : IsBare (use_at zones d z) → (e y s i : ℕ) → use_at zones e y ≡ Carrier s i → use_at (put_use d z u zones) e y ≡ Carrier s i
  keeps_carrier bare e y s i is = elim (each_use e y) [
    | inl it ↦ absurd (bare s i (sym (ap (λ n. use_at zones n y) it.0 ∙ ap (use_at zones d) it.1) ∙ is))
    | inr same ↦ same ∙ is
  ]

  pub had_carrier : IsBare u → (e y s i : ℕ) → use_at (put_use d z u zones) e y ≡ Carrier s i → use_at zones e y ≡ Carrier s i
  had_carrier bare e y s i is = elim (each_use e y) [
    | inl it ↦ absurd (bare s i (sym it.2 ∙ is))
    | inr same ↦ sym same ∙ is
  ]

-- ---- what is told of a carrier

module _ (g : Geometry) (lost : List Bool) (zones : List (List ZoneUse)) (rows : List Row) (table : IsTable g lost zones rows) (set : ℕ) where
  -- no zone carries a set that has no row
  pub carried_by_none : None ≡ row_of set rows → (index d z : ℕ) → use_at zones d z ≡ Carrier set index → ⊥
  carried_by_none none index d z is = subst (λ o. IsSomeAnd o (λ r. HasPlace r index d z)) (sym none) (table.places d z set index is)

  pub carried_at : (row : Row) → Some row ≡ row_of set rows → (index d z : ℕ) → use_at zones d z ≡ Carrier set index → HasPlace row index d z
  carried_at row some index d z is = subst (λ o. IsSomeAnd o (λ r. HasPlace r index d z)) (sym some) (table.places d z set index is)

-- there is room for the set's row
pub room_for : (rows : RowList) (set n : ℕ) → n ≡ set → IsSome (marks_of set (map marked rows.rows)) ⊎ (1 ≤ rows.capacity - length rows.rows) → IsSome (row_of n rows.rows) ⊎ (length rows.rows < rows.capacity)
room_for rows set n same (inl some) = inl (subst (λ q. IsSome (row_of q rows.rows)) (sym same) (some_row rows.rows set some))
room_for rows set n same (inr more) = inr (omega (arith, more))

pub some_alike : (rows : List Row) (q : ℕ) → is_some (row_of q rows) ≡ is_some (marks_of q (map marked rows))
some_alike rows q = at_one (row_of q rows) ∙ ap is_some (sym (marks_row rows q))
  where
    at_one : (o : Option Row) → is_some o ≡ is_some (option_map marked o)
    at_one None = refl
    at_one (Some row) = refl

pub none_row : (rows : List Row) (q : ℕ) → marks_of q (map marked rows) ≡ None → None ≡ row_of q rows
none_row rows q none = at_one (row_of q rows) (sym (marks_row rows q) ∙ none)
  where
    at_one : (o : Option Row) → option_map marked o ≡ None → None ≡ o
    at_one None e = refl
    at_one (Some row) e = absurd cc

-- for how many more sets there is room then
pub spare_left : (rows : List Row) (set n a b long : ℕ) → n ≡ set → a ≡ b → long ≡ length rows + cond (is_some (row_of n rows)) 0 1
    → a - long ≡ (b - length rows) - cond (is_some (marks_of set (map marked rows))) 0 1
spare_left rows set n a b long same room long_is =
    let some : cond {A = ℕ} (is_some (row_of n rows)) 0 1 ≡ cond (is_some (marks_of set (map marked rows))) 0 1 = ap (λ q. cond {A = ℕ} (is_some (row_of q rows)) 0 1) same ∙ ap (λ b. cond {A = ℕ} b 0 1) (some_alike rows set) in
    omega (arith, some, room, long_is)

-- the zone carries nothing before and after
pub table_bare : (g : Geometry) (lost : List Bool) (zones : List (List ZoneUse)) (rows : List Row) (d z : ℕ) (u : ZoneUse) → IsTable g lost zones rows → d < length zones → 2 ≤ z → z < length (zones_of zones d) → IsBare (use_at zones d z) → IsBare u → IsTable g lost (put_use d z u zones) rows
table_bare g lost zones rows d z u table drive high zone was now = record {
  within = table.within;
  devices = table.devices;
  drives = length-put zones d z u ∙ table.drives;
  shaped = shaped-put zones d z u g.zones high table.shaped;
  carried = λ s some. let it = table.carried s some in (it.0, it.1, it.2, keeps_carrier zones d z u drive zone was it.0 it.1 s it.2 it.3);
  indexes = λ e y s i is. table.indexes e y s i (had_carrier zones d z u drive zone now e y s i is);
  places = λ e y s i is. table.places e y s i (had_carrier zones d z u drive zone now e y s i is);
  full = table.full;
}
