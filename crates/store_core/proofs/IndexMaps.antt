-- The maps of an index, as finite maps.
use Rattle.std.proofs.Common.{◌≡◌, ℕ, Bool, true, false, cond, List, [], ◌∷◌, map, Option, Some, None, refl, sym, ap, ◌∙◌}
use Rattle.std.specs.declared.cmp.Ordering.{Ordering}
use Rattle.std.specs.declared.cmp.Ordering.TheVariants.{Less, Equal, Greater}
use Rattle.std.specs.Ordering.{nat_cmp, eq_by_cmp, is_eq}
use Rattle.std.specs.Cmp.{IsTotalOrder, eq_by_cmp_equiv, nat_cmp_total, on_total, then_total}
use Rattle.std.specs.Cmp.Lexicographic.{slice_cmp, nat_list_cmp_total}
use Rattle.std.specs.FinMap.{FinMap, find, get, from_entries, insert, remove, same_map, get-from_entries, get-insert, get-remove, slice_cmp-IsAntisymmetric, nat_cmp-IsAntisymmetric, IsAntisymmetric}
use Rattle.std.specs.Map.{lookup, KeepsOthers}
use Rattle.std.specs.BTreeMap.{is_at}
use Rattle.std.proofs.lemmas.Map.Lookups.{exact_pairs, exact_unsigned}
use Rattle.store_core.specs.declared.index.Part.{Part}
use Rattle.store_core.specs.Extent.{ByName}
use Rattle.store_core.specs.Index.{PartKey, part_cmp}

-- ---- orders

pub part_cmp_total : IsTotalOrder part_cmp
part_cmp_total = then_total (on_total (λ (k : PartKey). k.0) nat_cmp_total) (on_total (λ (k : PartKey). k.1) nat_cmp_total)

pub part_cmp_exact : IsAntisymmetric part_cmp
part_cmp_exact = exact_pairs nat_cmp nat_cmp exact_unsigned exact_unsigned

pub bytes_exact : IsAntisymmetric (slice_cmp nat_cmp)
bytes_exact = slice_cmp-IsAntisymmetric nat_cmp-IsAntisymmetric

equal : (r : Ordering) → is_eq r ≡ true → r ≡ Equal
equal Less e = absurd cc
equal Equal e = refl
equal Greater e = absurd cc

pub same_part : (a b : PartKey) → eq_by_cmp part_cmp a b ≡ true → a ≡ b
same_part a b e = part_cmp_exact a b (equal (part_cmp a b) e)

pub same_name : (a b : List ℕ) → eq_by_cmp (slice_cmp nat_cmp) a b ≡ true → a ≡ b
same_name a b e = bytes_exact a b (equal (slice_cmp nat_cmp a b) e)

-- ---- maps from names

module _ {K : Type 0} (name_in : K → List ℕ) where
  -- how a name compares to keys
  abbrev pub at : List ℕ → K → Ordering
  at name k = slice_cmp nat_cmp name (name_in k)

  abbrev pub keys_cmp : K → K → Ordering
  keys_cmp a b = slice_cmp nat_cmp (name_in a) (name_in b)

module _ {K X : Type 0} (name_in : K → List ℕ) where
  -- the entries as a map from names
  abbrev pub by_name : List (K × X) → ByName X
  by_name es = from_entries (map (λ e. (name_in e.0, e.1)) es)

  found : (name : List ℕ) (es : List (K × X)) → find (slice_cmp nat_cmp) name (map (λ e. (name_in e.0, e.1)) es) ≡ lookup (is_at (at name_in name)) es
  found name [] = refl
  found name (e ∷ es) = ap (cond (is_eq (slice_cmp nat_cmp name (name_in e.0))) (Some e.1)) (found name es)

  pub get-by_name : (es : List (K × X)) (name : List ℕ) → get (by_name es) name ≡ lookup (is_at (at name_in name)) es
  get-by_name es name = get-from_entries nat_list_cmp_total (map (λ e. (name_in e.0, e.1)) es) name ∙ found name es

  module _ (old new : List (K × X)) (name : List ℕ) (w : Option X) (now : lookup (is_at (at name_in name)) new ≡ w) (keeps : KeepsOthers (eq_by_cmp (keys_cmp name_in)) (is_at (at name_in name)) old new) where
    -- another name finds what it found
    others : (q : List ℕ) → eq_by_cmp (slice_cmp nat_cmp) q name ≡ false → lookup (is_at (at name_in q)) new ≡ lookup (is_at (at name_in q)) old
    unfolding KeepsOthers
    others q other = keeps (is_at (at name_in q))
        (λ x y e. ap (λ (l : List ℕ). is_eq (slice_cmp nat_cmp l (name_in y))) (same_name q (name_in x) e))
        (λ k e. ap (λ (l : List ℕ). is_eq (slice_cmp nat_cmp q l)) (sym (same_name name (name_in k) e)) ∙ other)

    -- one name has this value now
    pub updated : (q : List ℕ) → get (by_name new) q ≡ cond (eq_by_cmp (slice_cmp nat_cmp) q name) w (get (by_name old) q)
    updated q = at_one (eq_by_cmp (slice_cmp nat_cmp) q name) refl
      where
        at_one : (b : Bool) → eq_by_cmp (slice_cmp nat_cmp) q name ≡ b → get (by_name new) q ≡ cond b w (get (by_name old) q)
        at_one true e = get-by_name new q ∙ ap (λ (l : List ℕ). lookup (is_at (at name_in l)) new) (same_name q name e) ∙ now
        at_one false e = get-by_name new q ∙ others q e ∙ sym (get-by_name old q)

  pub by_name-inserted : (old new : List (K × X)) (name : List ℕ) (x : X) → lookup (is_at (at name_in name)) new ≡ Some x → KeepsOthers (eq_by_cmp (keys_cmp name_in)) (is_at (at name_in name)) old new → by_name new ≡ insert (by_name old) name x
  by_name-inserted old new name x now keeps = same_map nat_list_cmp_total bytes_exact _ _ (λ q. updated old new name (Some x) now keeps q ∙ sym (get-insert nat_list_cmp_total (by_name old) name x q))

  pub by_name-removed : (old new : List (K × X)) (name : List ℕ) → lookup (is_at (at name_in name)) new ≡ None → KeepsOthers (eq_by_cmp (keys_cmp name_in)) (is_at (at name_in name)) old new → by_name new ≡ remove (by_name old) name
  by_name-removed old new name now keeps = same_map nat_list_cmp_total bytes_exact _ _ (λ q. updated old new name None now keeps q ∙ sym (get-remove nat_list_cmp_total (by_name old) name q))

-- ---- maps from parts

module _ {X : Type 0} where
  found_part : (key : PartKey) (es : List (PartKey × X)) → find part_cmp key es ≡ lookup (is_at (part_cmp key)) es
  found_part key [] = refl
  found_part key (e ∷ es) = ap (cond (is_eq (part_cmp key e.0)) (Some e.1)) (found_part key es)

  pub get-by_part : (es : List (PartKey × X)) (key : PartKey) → get (from_entries {R = part_cmp} es) key ≡ lookup (is_at (part_cmp key)) es
  get-by_part es key = get-from_entries part_cmp_total es key ∙ found_part key es

  module _ (old new : List (PartKey × X)) (key : PartKey) (w : Option X) (now : (q : PartKey) → lookup (is_at (part_cmp q)) new ≡ cond (is_at (part_cmp key) q) w (lookup (is_at (part_cmp q)) old)) where
    part_updated : (q : PartKey) → get (from_entries {R = part_cmp} new) q ≡ cond (eq_by_cmp part_cmp q key) w (get (from_entries {R = part_cmp} old) q)
    part_updated q = get-by_part new q ∙ now q
        ∙ ap (λ b. cond b w (lookup (is_at (part_cmp q)) old)) ((eq_by_cmp_equiv part_cmp_total).symm key q)
        ∙ ap (cond (eq_by_cmp part_cmp q key) w) (sym (get-by_part old q))

  pub by_part-inserted : (old new : List (PartKey × X)) (key : PartKey) (x : X) → ((q : PartKey) → lookup (is_at (part_cmp q)) new ≡ cond (is_at (part_cmp key) q) (Some x) (lookup (is_at (part_cmp q)) old)) → from_entries {R = part_cmp} new ≡ insert (from_entries old) key x
  by_part-inserted old new key x now = same_map part_cmp_total part_cmp_exact _ _ (λ q. part_updated old new key (Some x) now q ∙ sym (get-insert part_cmp_total (from_entries old) key x q))

  pub by_part-removed : (old new : List (PartKey × X)) (key : PartKey) → ((q : PartKey) → lookup (is_at (part_cmp q)) new ≡ cond (is_at (part_cmp key) q) None (lookup (is_at (part_cmp q)) old)) → from_entries {R = part_cmp} new ≡ remove (from_entries old) key
  by_part-removed old new key now = same_map part_cmp_total part_cmp_exact _ _ (λ q. part_updated old new key None now q ∙ sym (get-remove part_cmp_total (from_entries old) key q))

-- ---- undone

-- a part that was added and taken out again
pub part_taken_back : (parts : FinMap part_cmp Part) (key : PartKey) (part : Part) → get parts key ≡ None → remove (insert parts key part) key ≡ parts
part_taken_back parts key part fresh = same_map part_cmp_total part_cmp_exact _ _ (λ q. get-remove part_cmp_total (insert parts key part) key q ∙ at_one q (eq_by_cmp part_cmp q key) refl)
  where
    at_one : (q : PartKey) (b : Bool) → eq_by_cmp part_cmp q key ≡ b → cond b None (get (insert parts key part) q) ≡ get parts q
    at_one q true e = sym fresh ∙ ap (get parts) (sym (part_cmp_exact q key (equal (part_cmp q key) e)))
    at_one q false e = get-insert part_cmp_total parts key part q ∙ ap (λ b. cond b (Some part) (get parts q)) e
