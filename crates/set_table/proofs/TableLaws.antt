-- What stays of a table where one of its zones is put to another use.
use Rattle.std.proofs.Common.{◌≡◌, ◌⊎◌, ◌≢◌, ℕ, ◌<◌, ◌≤◌, Bool, true, false, cond, List, [], ◌∷◌, map, length, get_or, set, Option, Some, None, IsSome, is_some, option_map, inl, inr, refl, sym, ap, subst, ◌∙◌, arith}
use Rattle.std.specs.Prelude.{◌==◌}
use Rattle.std.proofs.lemmas.Bool.{cases_eq}
use Rattle.std.proofs.lemmas.List.{get_or-set_same, get_or-set_other, length-set}
use Rattle.set_table.specs.declared.zone_use.ZoneUse.{ZoneUse}
use Rattle.set_table.specs.declared.zone_use.ZoneUse.TheVariants.{Taken}
use Rattle.set_table.specs.declared.rows.Row.{Row}
use Rattle.set_table.specs.Rows.{row_of, PutsRow, IsLeastAbove}
use Rattle.set_table.specs.Table.{Marked, marks_of, is_marked, IsNextSet, Puts, zones_of, use_at, put_use, IsDrive, marked}

-- ---- sets and rows

pub marks_row : (rows : List Row) (q : ℕ) → marks_of q (map marked rows) ≡ option_map marked (row_of q rows)
marks_row [] q = refl
marks_row (row ∷ rows) q = ap (cond (row.set == q) (Some (marked row))) (marks_row rows q) ∙ at_one (row.set == q)
  where
    at_one : (b : Bool) → cond b (Some (marked row)) (option_map marked (row_of q rows)) ≡ option_map marked (cond b (Some row) (row_of q rows))
    at_one true = refl
    at_one false = refl

pub some_row : (rows : List Row) (q : ℕ) → IsSome (marks_of q (map marked rows)) → IsSome (row_of q rows)
some_row rows q some = at_one (row_of q rows) (ap is_some (sym (marks_row rows q)) ∙ some)
  where
    at_one : (o : Option Row) → IsSome (option_map marked o) → IsSome o
    at_one (Some row) e = refl
    at_one None e = absurd cc

pub some_marks : (rows : List Row) (q : ℕ) → IsSome (row_of q rows) → IsSome (marks_of q (map marked rows))
some_marks rows q some = ap is_some (marks_row rows q) ∙ at_one (row_of q rows) some
  where
    at_one : (o : Option Row) → IsSome o → is_some (option_map marked o) ≡ true
    at_one (Some row) e = refl
    at_one None e = absurd cc

pub puts_marks : (row : Row) (old new : List Row) → PutsRow row old new → Puts (marked row) (map marked old) (map marked new)
puts_marks row old new puts q = marks_row new q ∙ ap (option_map marked) (puts q) ∙ at_one (row.set == q) ∙ ap (cond (row.set == q) (Some (marked row))) (sym (marks_row old q))
  where
    at_one : (b : Bool) → option_map marked (cond b (Some row) (row_of q old)) ≡ cond b (Some (marked row)) (option_map marked (row_of q old))
    at_one true = refl
    at_one false = refl

-- ---- one zone

module _ (zones : List (List ZoneUse)) (d z : ℕ) (u : ZoneUse) where
  pub length-put : length (put_use d z u zones) ≡ length zones
  length-put = length-set zones d (set (zones_of zones d) z u)

  pub put_there : d < length zones → z < length (zones_of zones d) → use_at (put_use d z u zones) d z ≡ u
  put_there drive zone = ap (λ (l : List ZoneUse). get_or l z Taken) (get_or-set_same zones d (set (zones_of zones d) z u) [] drive) ∙ get_or-set_same (zones_of zones d) z u Taken zone

  put_drive : (e y : ℕ) → e ≢ d → use_at (put_use d z u zones) e y ≡ use_at zones e y
  put_drive e y other = ap (λ (l : List ZoneUse). get_or l y Taken) (get_or-set_other zones d e (set (zones_of zones d) z u) [] other)

  put_zone : (y : ℕ) → d < length zones → y ≢ z → use_at (put_use d z u zones) d y ≡ use_at zones d y
  put_zone y drive other = ap (λ (l : List ZoneUse). get_or l y Taken) (get_or-set_same zones d (set (zones_of zones d) z u) [] drive) ∙ get_or-set_other (zones_of zones d) z y u Taken other

  pub put_elsewhere : (e y : ℕ) → d < length zones → (e ≢ d) ⊎ (y ≢ z) → use_at (put_use d z u zones) e y ≡ use_at zones e y
  put_elsewhere e y drive (inl other) = put_drive e y other
  put_elsewhere e y drive (inr other) = elim (cases_eq e d) [
    | inl same ↦ ap (λ n. use_at (put_use d z u zones) n y) same ∙ put_zone y drive other ∙ ap (λ n. use_at zones n y) (sym same)
    | inr apart ↦ put_drive e y apart
  ]

  -- each drive is one still
  pub shaped-put : (n : ℕ) → 2 ≤ z → ((e : ℕ) → e < length zones → IsDrive n (zones_of zones e)) → (e : ℕ) → e < length (put_use d z u zones) → IsDrive n (zones_of (put_use d z u zones) e)
  shaped-put n high shaped e within = at_one (cases_eq e d)
    where
      inside : e < length zones
      inside = omega (arith, within, length-put)

      at_one : (e ≡ d) ⊎ (e ≢ d) → IsDrive n (zones_of (put_use d z u zones) e)
      at_one (inr apart) = subst (IsDrive n) (sym (get_or-set_other zones d e (set (zones_of zones d) z u) [] apart)) (shaped e inside)
      at_one (inl same) =
          let drive : d < length zones = subst (λ k. k < length zones) same inside in
          let was = shaped d drive in
          let is : zones_of (put_use d z u zones) e ≡ set (zones_of zones d) z u = ap (zones_of (put_use d z u zones)) same ∙ get_or-set_same zones d (set (zones_of zones d) z u) [] drive in
          subst (IsDrive n) (sym is) (record {
            length_is = length-set (zones_of zones d) z u ∙ was.length_is;
            first = get_or-set_other (zones_of zones d) z 0 u Taken (λ low. omega (arith, low, high)) ∙ was.first;
            second = get_or-set_other (zones_of zones d) z 1 u Taken (λ low. omega (arith, low, high)) ∙ was.second;
          })

-- ---- what is told of sets

pub marked_some : (test : Marked → Bool) (rows : List Row) (q : ℕ) (row : Row) → Some row ≡ row_of q rows → test (marked row) ≡ is_marked test (marks_of q (map marked rows))
marked_some test rows q row is = ap (λ o. is_marked test (option_map marked o)) is ∙ ap (is_marked test) (sym (marks_row rows q))

pub marked_none : (test : Marked → Bool) (rows : List Row) (q : ℕ) → None ≡ row_of q rows → false ≡ is_marked test (marks_of q (map marked rows))
marked_none test rows q is = ap (λ o. is_marked test (option_map marked o)) is ∙ ap (is_marked test) (sym (marks_row rows q))

pub next_set : (rows : List Row) (k : ℕ) (o : Option ℕ) → IsLeastAbove k rows o → IsNextSet k (map marked rows) o
next_set rows k None none = λ q some. none q (some_row rows q some)
next_set rows k (Some least) it = (it.0, some_marks rows least it.1, λ q some more. it.2 q (some_row rows q some) more)
