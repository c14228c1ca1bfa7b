-- The lowest empty zone of a drive is taken.
use Rattle.std.proofs.Common.{◌≡◌, ℕ, ◌<◌, Bool, true, false, cond, inl, inr, List, [], ◌∷◌, length, get_or, set, Option, Some, None, refl, sym, ap, ◌∙◌, subst, arith}
use mathlib.Core.Bool.{false≢true}
use Rattle.std.specs.Prelude.{nat_lt}
use Rattle.std.proofs.lemmas.Bool.{cases_lt, ltb-true}
use Rattle.std.proofs.lemmas.List.{get_or_past, get_or-set_same}
use Rattle.set_table.specs.declared.zone_use.ZoneUse.{ZoneUse}
use Rattle.set_table.specs.declared.zone_use.ZoneUse.TheVariants.{Empty, Taken, Carrier}
use Rattle.set_table.specs.Zones.{before_empty, lowest_empty}
use Rattle.set_table.specs.Table.{Table, zones_of, use_at, put_use, is_live, taken}

empty_there : (uses : List ZoneUse) → before_empty uses < length uses → get_or uses (before_empty uses) Taken ≡ Empty
empty_there [] below = absurd (omega (arith, below))
empty_there (Empty ∷ uses) below = refl
empty_there (Taken ∷ uses) below = empty_there uses (omega (arith, below))
empty_there (Carrier s i ∷ uses) below = empty_there uses (omega (arith, below))

lowest_at : (uses : List ZoneUse) (z : ℕ) → lowest_empty uses ≡ Some z → (before_empty uses < length uses) × (before_empty uses ≡ z)
lowest_at uses z e = at_one (nat_lt (before_empty uses) (length uses)) refl e
  where
    at_one : (b : Bool) → nat_lt (before_empty uses) (length uses) ≡ b → cond b (Some (before_empty uses)) None ≡ Some z → (before_empty uses < length uses) × (before_empty uses ≡ z)
    at_one true is e = (ltb-true _ _ is, cc)
    at_one false is e = absurd cc

at_lowest : (zones : List (List ZoneUse)) (d z : ℕ) → lowest_empty (zones_of zones d) ≡ Some z → use_at (put_use d z (taken (use_at zones d z)) zones) d z ≡ Taken
at_lowest zones d z e =
    let uses = zones_of zones d in
    let at = lowest_at uses z e in
    let within : z < length uses = omega (arith, at.0, at.1) in
    let empty : use_at zones d z ≡ Empty = ap (λ n. get_or uses n Taken) (sym at.1) ∙ empty_there uses at.0 in
    let drive : d < length zones = elim (cases_lt d (length zones)) [
      | inl below ↦ below
      | inr past ↦ let none = ap length (get_or_past zones d [] past) in absurd (omega (arith, within, none))
    ] in
    ap (λ u. use_at (put_use d z (taken u) zones) d z) empty
    ∙ ap (λ (l : List ZoneUse). get_or l z Taken) (get_or-set_same zones d (set uses z Taken) [] drive)
    ∙ get_or-set_same uses z Taken Taken within

-- a zone that a live drive has as its lowest empty one
pub lowest_is_taken : (t : Table) (d z : ℕ) (o : Option ℕ) → (is_live t d ≡ true → o ≡ lowest_empty (zones_of t.zones d)) → (is_live t d ≡ false → o ≡ None) → o ≡ Some z → use_at (put_use d z (taken (use_at t.zones d z)) t.zones) d z ≡ Taken
lowest_is_taken t d z o live lost is = at_one (is_live t d) refl
  where
    at_one : (b : Bool) → is_live t d ≡ b → use_at (put_use d z (taken (use_at t.zones d z)) t.zones) d z ≡ Taken
    at_one true e = at_lowest t.zones d z (sym (live e) ∙ is)
    at_one false e = absurd (let none = lost e in cc)
