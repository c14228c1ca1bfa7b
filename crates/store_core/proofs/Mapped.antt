-- What is made of each value of a map from names.
use Rattle.std.proofs.Common.{◌≡◌, ℕ, Bool, true, false, cond, List, [], ◌∷◌, map, Option, Some, refl, sym, ap, subst, ◌∙◌}
use Rattle.std.specs.Prelude.{◌&&◌, T, option_map}
use Rattle.std.specs.List.{filter}
use Rattle.std.specs.Ordering.{nat_cmp, eq_by_cmp, is_lt}
use Rattle.std.specs.Cmp.Lexicographic.{slice_cmp, nat_list_cmp_total}
use Rattle.std.specs.FinMap.{entries, entries_sorted, entries-from_sorted, get, get-entries, get-from_sorted, find, is_sorted, same_map}
use Rattle.std.specs.FinMap.Entries.{below_all}
use Rattle.store_core.specs.Extent.{ByName, mapped, names_above}
use Rattle.store_core.proofs.IndexMaps.{bytes_exact}

module _ {X Y : Type 0} (make : X → Y) where
  abbrev made : List (List ℕ × X) → List (List ℕ × Y)
  made es = map (λ e. (e.0, make e.1)) es

  below_made : (name : List ℕ) (es : List (List ℕ × X)) → below_all (slice_cmp nat_cmp) name (made es) ≡ below_all (slice_cmp nat_cmp) name es
  below_made name [] = refl
  below_made name (e ∷ es) = ap (λ b. is_lt (slice_cmp nat_cmp name e.0) && b) (below_made name es)

  sorted_made : (es : List (List ℕ × X)) → is_sorted (slice_cmp nat_cmp) (made es) ≡ is_sorted (slice_cmp nat_cmp) es
  sorted_made [] = refl
  sorted_made (e ∷ es) = ap (λ b. b && is_sorted (slice_cmp nat_cmp) (made es)) (below_made e.0 es) ∙ ap (λ b. below_all (slice_cmp nat_cmp) e.0 es && b) (sorted_made es)

  rises : (values : ByName X) → T (is_sorted (slice_cmp nat_cmp) (made (entries values)))
  rises values = subst T (sym (sorted_made (entries values))) (entries_sorted values)

  find_made : (name : List ℕ) (es : List (List ℕ × X)) → find (slice_cmp nat_cmp) name (made es) ≡ option_map make (find (slice_cmp nat_cmp) name es)
  find_made name [] = refl
  find_made name (e ∷ es) = at_one (eq_by_cmp (slice_cmp nat_cmp) name e.0) (find_made name es)
    where
      at_one : (b : Bool) {found : Option Y} → found ≡ option_map make (find (slice_cmp nat_cmp) name es) → cond b (Some (make e.1)) found ≡ option_map make (cond b (Some e.1) (find (slice_cmp nat_cmp) name es))
      at_one true same = refl
      at_one false same = same

  pub get-mapped : (values : ByName X) (name : List ℕ) → get (mapped make values) name ≡ option_map make (get values name)
  get-mapped values name =
      get-from_sorted (slice_cmp nat_cmp) (made (entries values)) name (rises values)
      ∙ find_made name (entries values) ∙ ap (option_map make) (sym (get-entries values name))

  names_made : (es : List (List ℕ × X)) → map (λ (e : List ℕ × Y). e.0) (made es) ≡ map (λ e. e.0) es
  names_made [] = refl
  names_made (e ∷ es) = ap (λ (l : List (List ℕ)). e.0 ∷ l) (names_made es)

  -- the names stay
  pub keys-mapped : (values : ByName X) → map (λ (e : List ℕ × Y). e.0) (entries (mapped make values)) ≡ map (λ e. e.0) (entries values)
  keys-mapped values = ap (map (λ (e : List ℕ × Y). e.0)) (entries-from_sorted (slice_cmp nat_cmp) (made (entries values)) (rises values)) ∙ names_made (entries values)

  pub above-mapped : (values : ByName X) (after : List ℕ) → names_above (mapped make values) after ≡ names_above values after
  above-mapped values after = ap (filter (λ name. is_lt (slice_cmp nat_cmp after name))) (keys-mapped values)

-- maps with the same values
pub same_by_name : {X : Type 0} (a b : ByName X) → ((name : List ℕ) → get a name ≡ get b name) → a ≡ b
same_by_name a b same = same_map nat_list_cmp_total bytes_exact a b same
