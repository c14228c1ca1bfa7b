-- A row that is put in with other marks, and the same places.
use Rattle.std.proofs.Common.{◌≡◌, ℕ, ◌+◌, ◌-◌, Bool, true, false, cond, List, [], ◌∷◌, map, length, get_or, Some, None, IsSome, IsSomeAnd, IfSome, is_some, option_map, refl, sym, ap, subst, ◌∙◌, arith}
use Rattle.std.specs.Prelude.{◌==◌}
use Rattle.std.proofs.lemmas.Bool.{eqb-true}
use Rattle.smore_base.specs.declared.geometry.Geometry.{Geometry}
use Rattle.smore_base.specs.declared.limits.TheConstants.{MAX_FRAGMENTS}
use Rattle.set_table.specs.declared.zone_use.ZoneUse.{ZoneUse}
use Rattle.set_table.specs.declared.rows.Row.{Row}
use Rattle.set_table.specs.Rows.{row_of, PutsRow}
use Rattle.set_table.specs.Table.{Marked, marks_of, Puts, Changes, nowhere, HasPlace, marked, IsTable}
use Rattle.set_table.proofs.TableLaws.{marks_row, puts_marks}

-- the row that is found is the set's
pub row_named : (rows : List Row) (q : ℕ) (row : Row) → Some row ≡ row_of q rows → row.set ≡ q
row_named [] q row is = absurd cc
row_named (x ∷ rows) q row is = at_one (x.set == q) refl is (row_named rows q row)
  where
    at_one : (b : Bool) → (x.set == q) ≡ b → Some row ≡ cond b (Some x) (row_of q rows) → (Some row ≡ row_of q rows → row.set ≡ q) → row.set ≡ q
    at_one true e here later = let same : row ≡ x = cc in ap (λ (r : Row). r.set) same ∙ eqb-true x.set q e
    at_one false e here later = later here

pub row_found : (rows : List Row) (q : ℕ) (row : Row) → Some row ≡ row_of q rows → Some row ≡ row_of row.set rows
row_found rows q row is = is ∙ ap (λ n. row_of n rows) (sym (row_named rows q row is))

pub none_marked : (rows : List Row) (q : ℕ) → None ≡ row_of q rows → (m : Marked) → marks_of q (map marked rows) ≡ Some m → ⊥
none_marked rows q is m had = differ (ap (option_map marked) is ∙ sym (marks_row rows q) ∙ had)
  where
    differ : None ≡ Some m → ⊥
    differ e = absurd cc

module _ (old new : List Row) (row changed : Row) (was : Some row ≡ row_of changed.set old) (puts : PutsRow changed old new) where
  -- each set that has a row then had one
  pub had_row : (q : ℕ) → IsSome (row_of q new) → IsSome (row_of q old)
  had_row q some = at_one (changed.set == q) refl (subst IsSome (puts q) some)
    where
      at_one : (b : Bool) → (changed.set == q) ≡ b → IsSome (cond b (Some changed) (row_of q old)) → IsSome (row_of q old)
      at_one true e here = subst IsSome (was ∙ ap (λ n. row_of n old) (eqb-true changed.set q e)) refl
      at_one false e there = there

  -- for as many more sets there is room
  pub spare_stays : (a b : ℕ) → a ≡ b → length new ≡ length old + cond (is_some (row_of changed.set old)) 0 1 → a - length new ≡ b - length old
  spare_stays a b same long =
      let some : cond {A = ℕ} (is_some (row_of changed.set old)) 0 1 ≡ 0 = ap (λ o. cond {A = ℕ} (is_some o) 0 1) (sym was) in
      omega (arith, same, long, some)

  pub places_stay : changed.places ≡ row.places → (q i d z : ℕ) → IsSomeAnd (row_of q old) (λ r. HasPlace r i d z) → IsSomeAnd (row_of q new) (λ r. HasPlace r i d z)
  places_stay places q i d z had = subst (λ o. IsSomeAnd o (λ r. HasPlace r i d z)) (sym (puts q)) (at_one (changed.set == q) refl)
    where
      at_one : (b : Bool) → (changed.set == q) ≡ b → IsSomeAnd (cond b (Some changed) (row_of q old)) (λ r. HasPlace r i d z)
      at_one true e = ap (λ l. get_or l i nowhere) places ∙ subst (λ o. IsSomeAnd o (λ r. HasPlace r i d z)) (sym (was ∙ ap (λ n. row_of n old) (eqb-true changed.set q e))) had
      at_one false e = had

  pub table_marked : (g : Geometry) (lost : List Bool) (zones : List (List ZoneUse)) → changed.places ≡ row.places → IsTable g lost zones old → IsTable g lost zones new
  table_marked g lost zones places table = record {
    within = table.within;
    devices = table.devices;
    drives = table.drives;
    shaped = table.shaped;
    indexes = table.indexes;
    carried = λ q some. table.carried q (had_row q some);
    places = λ d z q i is. places_stay places q i d z (table.places d z q i is);
    full = λ q. subst (λ o. IfSome o (λ r. length r.places ≡ MAX_FRAGMENTS)) (sym (puts q)) (at_one q (changed.set == q) refl);
  }
    where
      at_one : (q : ℕ) (b : Bool) → (changed.set == q) ≡ b → IfSome (cond b (Some changed) (row_of q old)) (λ r. length r.places ≡ MAX_FRAGMENTS)
      at_one q true e = ap length places ∙ subst (λ o. IfSome o (λ r. length r.places ≡ MAX_FRAGMENTS)) (sym was) (table.full changed.set)
      at_one q false e = table.full q

  pub changes_marks : (change : Marked → Marked) → marked changed ≡ change (marked row) → Changes change changed.set (map marked old) (map marked new)
  changes_marks change is m had =
      let same : marked row ≡ m = some_same (ap (option_map marked) was ∙ sym (marks_row old changed.set) ∙ had) in
      subst (λ n. Puts n (map marked old) (map marked new)) (is ∙ ap change same) (puts_marks changed old new puts)
    where
      some_same : {m n : Marked} → Some m ≡ Some n → m ≡ n
      some_same e = cc
