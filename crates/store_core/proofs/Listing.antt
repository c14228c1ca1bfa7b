-- Listing the names of an index.
use Rattle.std.proofs.Common.{◌≡◌, ℕ, zero, suc, ◌+◌, ◌<◌, ◌≤◌, Bool, true, false, cond, List, [], ◌∷◌, ◌++◌, map, length, take, Option, Some, None, refl, sym, ap, subst, ◌∙◌, arith}
use Rattle.std.specs.Prelude.{◌&&◌, ◌||◌, is_some, MatchOption, IsSome, IsTrue, T}
use Rattle.std.specs.List.{filter, All, AllByRecursion, list_any}
use Rattle.std.specs.List.Sorted.{IsStrictlySortedBy}
use Rattle.std.specs.declared.cmp.Ordering.{Ordering}
use Rattle.std.specs.declared.cmp.Ordering.TheVariants.{Less}
use Rattle.std.specs.declared.ops.Bound.TheVariants.{Excluded, Unbounded}
use Rattle.std.specs.Ordering.{nat_cmp, eq_by_cmp, is_eq, is_lt}
use Rattle.std.specs.Cmp.{tied_itself}
use Rattle.std.specs.Cmp.Lexicographic.{slice_cmp, nat_list_cmp_total}
use Rattle.std.specs.FinMap.{entries, keys, get, contains_key-keys, is_sorted, from_entries, from_sorted, entries-from_sorted, get-from_sorted, get-from_entries, same_map}
use Rattle.std.specs.FinMap.Entries.{below_all, is_some-find}
use Rattle.std.specs.Map.{keys_of}
use Rattle.std.specs.BTreeMap.Range.{entries_between}
use Rattle.std.proofs.Math.Seq.{take-append_seam}
use Rattle.std.proofs.lemmas.List.Elements.{All-filter}
use Rattle.std.proofs.lemmas.List.{length-append, append_assoc, append-nil, take_all}
use Rattle.smore_base.specs.Name.{IsName}
use Rattle.store_core.specs.Extent.{ByName, names_above}
use Rattle.store_core.proofs.IndexMaps.{bytes_exact, keys_cmp, by_name}

-- ---- going over the names

-- these were taken of all, so many, and those above are left, which are names
pub record IsListed (all list above : List (List ℕ)) (count : ℕ) : Type 0 where
  pub rest : list ++ above ≡ all
  pub long : length list ≡ count
  pub names : AllByRecursion IsName above

pub listed_next : (all list above : List (List ℕ)) (name : List ℕ) (count : ℕ) → IsListed all list (name ∷ above) count → IsListed all (list ++ name ∷ []) above (count + 1)
listed_next all list above name count so_far = record {
  rest = append_assoc list (name ∷ []) above ∙ so_far.rest;
  long = omega (arith, so_far.long, length-append list (name ∷ []));
  names = so_far.names.1;
}

-- none is left
pub listed_all : (all list above : List (List ℕ)) (count most : ℕ) → IsListed all list above count → above ≡ [] → count ≤ most → list ≡ take most all
listed_all all list above count most so_far none few =
    let whole = sym so_far.rest ∙ ap (λ (l : List (List ℕ)). list ++ l) none ∙ append-nil list in
    sym whole ∙ sym (take_all most all (omega (arith, few, so_far.long, ap length whole)))

pub listed_few : (all list above : List (List ℕ)) (count : ℕ) → IsListed all list above count → above ≡ [] → length all ≡ count
listed_few all list above count so_far none = ap length (sym so_far.rest ∙ ap (λ (l : List (List ℕ)). list ++ l) none ∙ append-nil list) ∙ so_far.long

-- as many as are asked for
pub listed_most : (all list above : List (List ℕ)) (most : ℕ) → IsListed all list above most → list ≡ take most all
listed_most all list above most so_far = sym (take-append_seam list above) ∙ ap (λ n. take n (list ++ above)) so_far.long ∙ ap (take most) so_far.rest

-- others are left
pub listed_others : (all list above : List (List ℕ)) (most : ℕ) → IsListed all list above most → length all ≡ most + length above
listed_others all list above most so_far = omega (arith, so_far.long, length-append list above, ap length so_far.rest)

-- what is left is told by the next step
pub left_by_next : {A E : Type 0} (o : Option A) (b : Bool) (above : List E) (S : Type 0) (P : A → Type 0) → b ≡ is_some o → MatchOption o S P → (S → above ≡ []) → ((x : A) → P x → 0 < length above) → (IsTrue b → 0 < length above) × (0 < length above → IsTrue b)
left_by_next None b above S P is step none some = (λ t. absurd cc, λ l. let no : ⊥ = omega (arith, l, ap length (none step)) in absurd no)
left_by_next (Some x) b above S P is step none some = (λ t. some x step, λ l. is)

-- ---- where it begins

both_true : (a b : Bool) → T a → T b → T (a && b)
both_true true b p q = q
both_true false b p q = absurd p

or_right : (a b : Bool) → b ≡ true → (a || b) ≡ true
or_right true b t = refl
or_right false b t = t

or_left : (a b : Bool) → a ≡ true → (a || b) ≡ true
or_left true b t = refl
or_left false b t = absurd cc

less : (r : Ordering) → r ≡ Less → T (is_lt r)
less r is = subst (λ x. T (is_lt x)) (sym is) tt

module _ {K X : Type 0} (name_in : K → List ℕ) where
  abbrev named : List (K × X) → List (List ℕ × X)
  named es = map (λ e. (name_in e.0, e.1)) es

  -- the names of entries
  abbrev pub names_of : List (K × X) → List (List ℕ)
  names_of es = map (λ e. name_in e.0) es

  -- keys that rise are names that rise
  below : (k : K) (es : List (K × X)) → AllByRecursion (λ y. keys_cmp name_in k y ≡ Less) (keys_of es) → T (below_all (slice_cmp nat_cmp) (name_in k) (named es))
  below k [] h = tt
  below k (e ∷ es) h = both_true _ _ (less _ h.0) (below k es h.1)

  rises : (es : List (K × X)) → IsStrictlySortedBy (keys_cmp name_in) (keys_of es) → T (is_sorted (slice_cmp nat_cmp) (named es))
  unfolding IsStrictlySortedBy
  rises [] h = tt
  rises (e ∷ es) h = both_true _ _ (below e.0 es h.0) (rises es h.1)

  -- the entries are those of the map of names
  pub entries-by_name : (es : List (K × X)) → IsStrictlySortedBy (keys_cmp name_in) (keys_of es) → entries (by_name name_in es) ≡ named es
  entries-by_name es s =
      let r = rises es s in
      ap entries (same_map nat_list_cmp_total bytes_exact (from_entries (named es)) (from_sorted (named es)) (λ q. get-from_entries nat_list_cmp_total (named es) q ∙ sym (get-from_sorted (slice_cmp nat_cmp) (named es) q r)))
      ∙ entries-from_sorted (slice_cmp nat_cmp) (named es) r

  -- the names of a range above a name
  between : (a : K) (es : List (K × X)) → filter (λ name. is_lt (slice_cmp nat_cmp (name_in a) name)) (map (λ (e : List ℕ × X). e.0) (named es)) ≡ names_of (entries_between (keys_cmp name_in) (Excluded a) Unbounded es)
  between a [] = refl
  between a (e ∷ es) = at_one (is_lt (slice_cmp nat_cmp (name_in a) (name_in e.0))) _ (entries_between (keys_cmp name_in) (Excluded a) Unbounded es) (between a es)
    where
      at_one : (b : Bool) (xs : List (List ℕ)) (ys : List (K × X)) → xs ≡ names_of ys → cond b (name_in e.0 ∷ xs) xs ≡ names_of (cond (b && true) (e ∷ ys) ys)
      at_one true xs ys h = ap (λ (l : List (List ℕ)). name_in e.0 ∷ l) h
      at_one false xs ys h = h

  pub names_between : (a : K) (after : List ℕ) (es : List (K × X)) → name_in a ≡ after → IsStrictlySortedBy (keys_cmp name_in) (keys_of es) → names_of (entries_between (keys_cmp name_in) (Excluded a) Unbounded es) ≡ names_above (by_name name_in es) after
  names_between a after es is s =
      sym (between a es)
      ∙ ap (λ (l : List (List ℕ × X)). filter (λ name. is_lt (slice_cmp nat_cmp (name_in a) name)) (map (λ (e : List ℕ × X). e.0) l)) (sym (entries-by_name es s))
      ∙ ap (names_above (by_name name_in es)) is

  -- each name of the map is one
  each : (P : List ℕ → Type 0) (es : List (K × X)) → ((q : List ℕ) → list_any (eq_by_cmp (slice_cmp nat_cmp) q) (names_of es) ≡ true → P q) → AllByRecursion P (names_of es)
  each P [] h = tt
  each P (e ∷ es) h = (h (name_in e.0) (or_left _ _ (ap is_eq (tied_itself nat_list_cmp_total (name_in e.0)))), each P es (λ q t. h q (or_right _ _ t)))

  names_named : (es : List (K × X)) → map (λ (e : List ℕ × X). e.0) (named es) ≡ names_of es
  names_named [] = refl
  names_named (e ∷ es) = ap (λ (l : List (List ℕ)). name_in e.0 ∷ l) (names_named es)

  all_between : (P : List ℕ → Type 0) (a : K) (es : List (K × X)) → AllByRecursion P (names_of es) → AllByRecursion P (names_of (entries_between (keys_cmp name_in) (Excluded a) Unbounded es))
  all_between P a [] h = tt
  all_between P a (e ∷ es) h = at_one (is_lt (slice_cmp nat_cmp (name_in a) (name_in e.0))) (entries_between (keys_cmp name_in) (Excluded a) Unbounded es) (all_between P a es h.1)
    where
      at_one : (b : Bool) (ys : List (K × X)) → AllByRecursion P (names_of ys) → AllByRecursion P (names_of (cond (b && true) (e ∷ ys) ys))
      at_one true ys r = (h.0, r)
      at_one false ys r = r

  pub listing_begins : (a : K) (after : List ℕ) (es : List (K × X)) → name_in a ≡ after → IsStrictlySortedBy (keys_cmp name_in) (keys_of es)
      → ((q : List ℕ) → IsSome (get (by_name name_in es) q) → IsName q)
      → IsListed (names_above (by_name name_in es) after) [] (names_of (entries_between (keys_cmp name_in) (Excluded a) Unbounded es)) 0
  listing_begins a after es is s names = record {
    rest = names_between a after es is s;
    long = refl;
    names = all_between IsName a es (each IsName es (λ q t. names q (ap is_some (get-from_entries nat_list_cmp_total (named es) q) ∙ is_some-find (slice_cmp nat_cmp) q (named es) ∙ ap (list_any (eq_by_cmp (slice_cmp nat_cmp) q)) (names_named es) ∙ t)));
  }

-- ---- each of the names

all_of : {X : Type 0} (P : X → Type 0) (xs : List X) → AllByRecursion P xs → All P xs
all_of P [] each k d l = absurd (omega (arith, l))
all_of P (x ∷ xs) each zero d l = each.0
all_of P (x ∷ xs) each (suc k) d l = all_of P xs each.1 k d (omega (arith, l))

-- what holds of each name of a map holds of those above one
pub all_above : {X : Type 0} (values : ByName X) (after : List ℕ) (P : List ℕ → Type 0) → ((name : List ℕ) → IsSome (get values name) → P name) → All P (names_above values after)
all_above {X} values after P holds = All-filter (λ name. is_lt (slice_cmp nat_cmp after name)) P (keys values)
    (all_of P (keys values) (each {K = List ℕ} {X = X} (λ n. n) P (entries values) (λ q t. holds q (contains_key-keys values q ∙ t))))
