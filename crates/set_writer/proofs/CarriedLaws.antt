-- A set with enough members is in the table.
use Rattle.std.proofs.Common.{◌≡◌, ℕ, suc, ◌-◌, Bool, true, false, cond, List, [], ◌∷◌, length, get_or, None, is_some, refl, ap, ◌∙◌, arith}
use Rattle.std.specs.Prelude.{◌&&◌, ◌||◌, not, filter}
use Rattle.std.specs.List.{list_any, range_with_len}
use Rattle.std.proofs.lemmas.Bool.{and_parts, leb-true, both_ways}
use Rattle.std.proofs.lemmas.List.FromFn.{length-range_with_len}
use Rattle.set_table.specs.declared.zone_use.ZoneUse.{ZoneUse}
use Rattle.set_table.specs.declared.zone_use.ZoneUse.TheVariants.{Taken}
use Rattle.set_table.specs.Zones.{carries}
use Rattle.set_table.specs.Table.{Table, zones_of, use_at, is_live, drives_of, is_carried, fragments_of, missing_of, marks_of, HangsTogether}
use Rattle.set_table.proofs.UseLaws.{is_carrier_of}
use Rattle.set_writer.specs.Fit.{has_enough}

-- one that passes
pub any_zone : (f : ZoneUse → Bool) (us : List ZoneUse) → list_any f us ≡ true → (z : ℕ) × (f (get_or us z Taken) ≡ true)
any_zone f [] is = absurd (both_ways false refl is)
any_zone f (u ∷ us) is = at (f u) refl is (any_zone f us)
  where
    at : (b : Bool) → f u ≡ b → (b || list_any f us) ≡ true → (list_any f us ≡ true → (z : ℕ) × (f (get_or us z Taken) ≡ true)) → (z : ℕ) × (f (get_or (u ∷ us) z Taken) ≡ true)
    at true here is rest = (0, here)
    at false here is rest = (suc (rest is).0, (rest is).1)

none_any : (f : ℕ → Bool) (ds : List ℕ) → ((d : ℕ) → f d ≡ true → ⊥) → list_any f ds ≡ false
none_any f [] none = refl
none_any f (d ∷ ds) none = at (f d) refl (none_any f ds none)
  where
    at : (b : Bool) → f d ≡ b → list_any f ds ≡ false → (b || list_any f ds) ≡ false
    at true is rest = absurd (none d is)
    at false is rest = rest

all_pass : (f : ℕ → Bool) (l : List ℕ) → ((i : ℕ) → f i ≡ true) → filter f l ≡ l
all_pass f [] each = refl
all_pass f (i ∷ l) each = ap (λ b. cond b (i ∷ filter f l) (filter f l)) (each i) ∙ ap (λ (rest : List ℕ). i ∷ rest) (all_pass f l each)

-- a set that is in no table has no live member
pub enough_is_listed : (t : Table) (s : ℕ) → HangsTogether t → marks_of s t.sets ≡ None → has_enough t s ≡ true → ⊥
enough_is_listed t s together absent enough =
    let none : (index : ℕ) → is_carried t s index ≡ false = λ index. none_any (λ d. is_live t d && list_any (carries s index) (zones_of t.zones d)) (drives_of t.geometry) (λ d is.
    let found = any_zone (carries s index) (zones_of t.zones d) (and_parts (is_live t d) _ is).1 in
    let some : is_some (marks_of s t.sets) ≡ true = together.listed d found.0 s index (is_carrier_of s index (use_at t.zones d found.0) found.1) in
    both_ways (is_some (marks_of s t.sets)) (ap is_some absent) some) in
    let all : missing_of t s ≡ fragments_of t = ap (λ (l : List ℕ). length l) (all_pass (λ index. not (is_carried t s index)) (range_with_len 0 (fragments_of t)) (λ index. ap not (none index))) ∙ length-range_with_len 0 (fragments_of t) in
    let most = leb-true t.geometry.k (fragments_of t - missing_of t s) enough in
    let some = together.within.k_from in
    omega (arith, all, most, some)
