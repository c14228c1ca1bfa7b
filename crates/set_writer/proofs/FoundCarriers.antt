-- The carriers of a set on some drives, and the zones that carry it by the table.
use Rattle.std.proofs.Common.{◌≡◌, ℕ, zero, suc, ◌+◌, ◌<◌, ◌≤◌, Bool, true, false, cond, List, [], ◌∷◌, length, map, filter, get_or, nat_eq, Option, Some, None, is_some, refl, sym, ap, ◌∙◌, subst, arith}
use Rattle.std.specs.Prelude.{◌&&◌, ◌||◌, not, ◌==◌}
use Rattle.std.specs.List.{AllByRecursion, IsDistinct, filter_map, cons_option, list_any, range_with_len}
use Rattle.std.proofs.lemmas.Bool.{both_ways, eq-eqb, eqb-true, ne_eqb}
use Rattle.std.proofs.lemmas.List.Filters.{length-filter_both}
use Rattle.std.proofs.lemmas.List.FromFn.{length-range_with_len}
use Rattle.std.proofs.lemmas.Map.Keys.{IsDistinct-cons}
use Rattle.array_model.specs.Drives.{is_among}
use Rattle.array_model.specs.Reading.{Carrier}
use Rattle.set_table.specs.declared.zone_use.ZoneUse.{ZoneUse}
use Rattle.set_table.specs.declared.zone_use.ZoneUse.TheVariants as uses
use Rattle.set_table.specs.Zones.{carries}
use Rattle.set_table.specs.Table.{Table, zones_of, use_at, is_live, drives_of, is_carried, fragments_of}
use Rattle.set_table.proofs.UseLaws.{carries_carrier, is_carrier_of}
use Rattle.set_writer.specs.SetReadLaws.{live_drives, LiveMembersAreCarried}
use Rattle.set_writer.proofs.CarriedLaws.{any_zone}

-- ---- one carrier an index

module _ (o : ℕ → Option Carrier) (own : (i : ℕ) (c : Carrier) → o i ≡ Some c → c.index ≡ i) where
  above : (x first count : ℕ) → x < first → AllByRecursion (λ y. nat_eq x y ≡ false) (map (λ (c : Carrier). c.index) (filter_map o (range_with_len first count)))
  above x first zero less = tt
  above x first (suc count) less = at (o first) refl (above x (first + 1) count (omega (arith, less)))
    where
      rest : List Carrier
      rest = filter_map o (range_with_len (first + 1) count)

      at : (p : Option Carrier) → o first ≡ p → AllByRecursion (λ y. nat_eq x y ≡ false) (map (λ (c : Carrier). c.index) rest) → AllByRecursion (λ y. nat_eq x y ≡ false) (map (λ (c : Carrier). c.index) (cons_option p rest))
      at None is all = all
      at (Some c) is all = let same = own first c is in (ne_eqb x c.index (λ e. omega (arith, less, same, e)), all)

  -- so no two have the same index
  pub found_distinct : (first count : ℕ) → IsDistinct nat_eq (map (λ (c : Carrier). c.index) (filter_map o (range_with_len first count)))
  unfolding IsDistinct
  found_distinct first zero = tt
  found_distinct first (suc count) = at (o first) refl (found_distinct (first + 1) count)
    where
      rest : List Carrier
      rest = filter_map o (range_with_len (first + 1) count)

      at : (p : Option Carrier) → o first ≡ p → IsDistinct nat_eq (map (λ (c : Carrier). c.index) rest) → IsDistinct nat_eq (map (λ (c : Carrier). c.index) (cons_option p rest))
      at None is all = all
      at (Some c) is all = let same = own first c is in IsDistinct-cons nat_eq c.index (map (λ (x : Carrier). x.index) rest) (above c.index (first + 1) count (omega (arith, same))) all

  -- what holds of all that are found holds of that of an index
  pub found_has : (P : Carrier → Type 0) (first count i : ℕ) (c : Carrier) → AllByRecursion P (filter_map o (range_with_len first count)) → first ≤ i → i < first + count → o i ≡ Some c → P c
  found_has P first zero i c all from below is = absurd (omega (arith, from, below))
  found_has P first (suc count) i c all from below is = at (o first) refl all (λ rest ahead within. found_has P (first + 1) count i c rest ahead within is)
    where
      -- it isn't the first
      past : (first ≡ i → ⊥) → (first + 1 ≤ i) × (i < first + 1 + count)
      past other = (omega (arith, from, other), omega (arith, below))

      at : (p : Option Carrier) → o first ≡ p → AllByRecursion P (cons_option p (filter_map o (range_with_len (first + 1) count)))
          → (AllByRecursion P (filter_map o (range_with_len (first + 1) count)) → first + 1 ≤ i → i < first + 1 + count → P c) → P c
      at None none all behind = let ahead = past (λ same. let e : o first ≡ Some c = ap o same ∙ is in cc) in behind all ahead.0 ahead.1
      at (Some x) some all behind = first_or (nat_eq first i) refl
        where
          first_or : (b : Bool) → nat_eq first i ≡ b → P c
          first_or true same = let e : Some x ≡ Some c = sym some ∙ ap o (eqb-true first i same) ∙ is in subst P (let h : x ≡ c = cc in h) all.0
          first_or false other = let ahead = past (λ same. both_ways (nat_eq first i) other (eq-eqb first i same)) in behind all.1 ahead.0 ahead.1

  -- there are as many as pass the test
  pub found_count : (test : ℕ → Bool) (first count : ℕ) → ((i : ℕ) → first ≤ i → i < first + count → is_some (o i) ≡ test i) → length (filter_map o (range_with_len first count)) ≡ length (filter test (range_with_len first count))
  found_count test first zero same = refl
  found_count test first (suc count) same =
      at (o first) (test first) (same first (omega arith) (omega arith)) (found_count test (first + 1) count (λ i from below. same i (omega (arith, from)) (omega (arith, below))))
    where
      at : (p : Option Carrier) (b : Bool) → is_some p ≡ b → length (filter_map o (range_with_len (first + 1) count)) ≡ length (filter test (range_with_len (first + 1) count))
          → length (cons_option p (filter_map o (range_with_len (first + 1) count))) ≡ length (cond b (first ∷ filter test (range_with_len (first + 1) count)) (filter test (range_with_len (first + 1) count)))
      at None true is rest = absurd (both_ways false refl is)
      at None false is rest = rest
      at (Some c) true is rest = ap suc rest
      at (Some c) false is rest = absurd (both_ways true is refl)

-- ---- drives and zones

pub or_right : (a b : Bool) → b ≡ true → (a || b) ≡ true
or_right true b is = refl
or_right false b is = is

or_left : (a b : Bool) → a ≡ true → (a || b) ≡ true
or_left true b is = refl
or_left false b is = absurd (both_ways false refl is)

pub any_among : (f : ℕ → Bool) (ds : List ℕ) → list_any f ds ≡ true → (d : ℕ) × (is_among ds d ≡ true) × (f d ≡ true)
any_among f [] is = absurd (both_ways false refl is)
any_among f (d ∷ ds) is = at (f d) refl is (any_among f ds)
  where
    at : (b : Bool) → f d ≡ b → (b || list_any f ds) ≡ true → (list_any f ds ≡ true → (x : ℕ) × (is_among ds x ≡ true) × (f x ≡ true)) → (x : ℕ) × (is_among (d ∷ ds) x ≡ true) × (f x ≡ true)
    at true here is behind = (d, or_left (d == d) (is_among ds d) (eq-eqb d d refl), here)
    at false here is behind = let it = behind is in (it.0, or_right (d == it.0) (is_among ds it.0) it.1, it.2)

pub among_any : (f : ℕ → Bool) (ds : List ℕ) (d : ℕ) → is_among ds d ≡ true → f d ≡ true → list_any f ds ≡ true
among_any f [] d among is = among
among_any f (x ∷ ds) d among is = at (x == d) refl among (λ later. among_any f ds d later is)
  where
    at : (b : Bool) → (x == d) ≡ b → (b || is_among ds d) ≡ true → (is_among ds d ≡ true → list_any f ds ≡ true) → (f x || list_any f ds) ≡ true
    at true same among behind = or_left (f x) (list_any f ds) (ap f (eqb-true x d same) ∙ is)
    at false other among behind = or_right (f x) (list_any f ds) (behind among)

zone_any : (set' index : ℕ) (us : List ZoneUse) (z : ℕ) → get_or us z uses.Taken ≡ uses.Carrier set' index → list_any (carries set' index) us ≡ true
zone_any set' index [] z is = absurd cc
zone_any set' index (u ∷ us) zero is = or_left (carries set' index u) (list_any (carries set' index) us) (ap (carries set' index) is ∙ carries_carrier set' index)
zone_any set' index (u ∷ us) (suc z) is = or_right (carries set' index u) (list_any (carries set' index) us) (zone_any set' index us z is)

-- one of these drives has a zone that carries the index
abbrev pub is_carried_on : Table → ℕ → List ℕ → ℕ → Bool
is_carried_on t set' drives index = list_any (λ d. list_any (carries set' index) (zones_of t.zones d)) drives

pub carried_there : (t : Table) (set' index : ℕ) (drives : List ℕ) → is_carried_on t set' drives index ≡ true → (d z : ℕ) × (is_among drives d ≡ true) × (use_at t.zones d z ≡ uses.Carrier set' index)
carried_there t set' index drives is =
    let drive = any_among (λ d. list_any (carries set' index) (zones_of t.zones d)) drives is in
    let zone = any_zone (carries set' index) (zones_of t.zones drive.0) drive.2 in
    (drive.0, zone.0, drive.1, is_carrier_of set' index (use_at t.zones drive.0 zone.0) zone.1)

pub there_carried : (t : Table) (set' index : ℕ) (drives : List ℕ) (d z : ℕ) → is_among drives d ≡ true → use_at t.zones d z ≡ uses.Carrier set' index → is_carried_on t set' drives index ≡ true
there_carried t set' index drives d z among is = among_any (λ d. list_any (carries set' index) (zones_of t.zones d)) drives d among (zone_any set' index (zones_of t.zones d) z is)

-- ---- live drives

any_filtered : (p f : ℕ → Bool) (ds : List ℕ) → list_any f (filter p ds) ≡ list_any (λ d. p d && f d) ds
any_filtered p f [] = refl
any_filtered p f (d ∷ ds) = at (p d) (any_filtered p f ds)
  where
    at : (b : Bool) → list_any f (filter p ds) ≡ list_any (λ d. p d && f d) ds → list_any f (cond b (d ∷ filter p ds) (filter p ds)) ≡ ((b && f d) || list_any (λ d. p d && f d) ds)
    at true rest = ap (λ x. f d || x) rest
    at false rest = rest

pub live_are_carried : LiveMembersAreCarried
live_are_carried t set' =
    let n = fragments_of t in
    let on : ℕ → Bool = is_carried_on t set' (live_drives t) in
    let same : (index : ℕ) → is_carried_on t set' (live_drives t) index ≡ is_carried t set' index = λ index. any_filtered (is_live t) (λ d. list_any (carries set' index) (zones_of t.zones d)) (drives_of t.geometry) in
    let both = length-filter_both (is_carried_on t set' (live_drives t)) (λ index. not (is_carried t set' index)) (λ index. ap not (sym (same index))) (range_with_len 0 (fragments_of t)) in
    omega (arith, both, length-range_with_len 0 (fragments_of t))
