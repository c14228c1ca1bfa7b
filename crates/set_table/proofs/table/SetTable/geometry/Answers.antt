use Rattle.std.proofs.Common.{◌≡◌, ◌≤◌, ℕ, List, Option, Some, None, IsSome, IsSomeAnd, inl, inr, refl, sym, ap, subst, ◌∙◌, arith}
use Rattle.std.proofs.lemmas.Bool.{cases_lt}
use Rattle.set_table.specs.declared.rows.Row.{Row}
use Rattle.set_table.specs.declared.rows.Place.{Place}
use Rattle.set_table.specs.declared.zone_use.ZoneUse.{ZoneUse}
use Rattle.set_table.specs.declared.zone_use.ZoneUse.TheVariants.{Taken, Carrier}
use Rattle.set_table.specs.Rows.{row_of}
use Rattle.set_table.specs.Table.{use_at, HasPlace, HangsTogether}
use Rattle.set_table.proofs.TableLaws.{some_row, some_marks}
use Rattle.set_table.proofs.UseLaws.{carrier_within, taken_is_bare}
use Rattle.set_table.proofs.table.SetTable.geometry.Goals as goal

-- zones 0 and 1 carry nothing
from_two : (zones : List (List ZoneUse)) (d z set index : ℕ) → use_at zones d 0 ≡ Taken → use_at zones d 1 ≡ Taken → use_at zones d z ≡ Carrier set index → 2 ≤ z
from_two zones d z set index first second is = elim (cases_lt z 2) [
  | inr from ↦ from
  | inl below ↦ elim (cases_lt z 1) [
    | inl none ↦ let e : z ≡ 0 = omega arith in absurd (taken_is_bare set index (sym first ∙ ap (use_at zones d) (sym e) ∙ is))
    | inr one ↦ let e : z ≡ 1 = omega arith in absurd (taken_is_bare set index (sym second ∙ ap (use_at zones d) (sym e) ∙ is))
  ]
]

has_row : (o : Option Row) (P : Row → Type 0) → IsSomeAnd o P → IsSome o
has_row None P p = absurd p
has_row (Some row) P p = refl

-- two zones that are the place of one index in a row are one
one_place : (o : Option Row) (index d z e y : ℕ) → IsSomeAnd o (λ row. HasPlace row index d z) → IsSomeAnd o (λ row. HasPlace row index e y) → (d ≡ e) × (z ≡ y)
one_place None index d z e y p q = absurd p
one_place (Some row) index d z e y p q = let same = sym p ∙ q in (ap (λ (at : Place). at.device) same, ap (λ (at : Place). at.zone) same)

pub returns-clause-together : goal.returns-clause-together
returns-clause-together c =
    let inside = c.self.inside in
    let is = c.self.invariant in
    let g = inside.geometry in
    let zones = inside.drives.items in
    let rows = inside.rows.rows in
    subst HangsTogether c.self.view_is record {
      within = is.within;
      devices = is.devices;
      drives = is.drives;
      zones = λ d below. (is.shaped d below).length_is;
      set_zones = λ d z set index carries.
          let at = carrier_within zones d z set index carries in
          let drive = is.shaped d at.0 in
          record {
            drive = omega (arith, at.0, is.drives);
            from = from_two zones d z set index drive.first drive.second carries;
            to = omega (arith, at.1, drive.length_is);
          };
      once = λ d z e y set index one other. one_place (row_of set rows) index d z e y (is.places d z set index one) (is.places e y set index other);
      listed = λ d z set index carries. some_marks rows set (has_row (row_of set rows) (λ row. HasPlace row index d z) (is.places d z set index carries));
      carried = λ set some. is.carried set (some_row rows set some);
    }
