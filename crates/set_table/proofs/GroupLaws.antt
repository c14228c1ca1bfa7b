-- The groups of a drive's zones: what a use does to their counts, and how they are passed.
use Rattle.std.proofs.Common.{◌≡◌, ◌≢◌, ◌⊎◌, ℕ, zero, suc, ◌+◌, ◌-◌, ◌*◌, ◌/◌, ◌<◌, ◌≤◌, min, List, [], ◌∷◌, length, take, drop, replicate, get_or, set, inl, inr, refl, sym, ap, ◌∙◌, arith}
use Rattle.std.proofs.lemmas.Bool.{cases_eq, cases_lt}
use Rattle.std.proofs.lemmas.Grind.{get_or-set_at}
use Rattle.std.proofs.lemmas.List.{get_or_default, length-set, length-drop, drop-drop, get_or-set_other, length-replicate, get_or-replicate, drop-replicate}
use Rattle.set_table.specs.declared.zone_use.ZoneUse.{ZoneUse}
use Rattle.set_table.specs.declared.zone_use.ZoneUse.TheVariants.{Empty, Taken, Carrier}
use Rattle.set_table.specs.Zones.{count_empty, before_empty, empty_in, IsGrouped}
use Rattle.set_table.proofs.ZoneLaws.{ones, counted, count_few, before_end}

-- ---- so many zones from one on

-- a zone of these that is put to another use
window_in : (uses : List ZoneUse) (m n z : ℕ) (u : ZoneUse) → m ≤ z → z < m + n → z < length uses → count_empty (take n (drop m (set uses z u))) + ones (get_or uses z Taken) ≡ count_empty (take n (drop m uses)) + ones u
window_in [] m n z u from to within = absurd (omega (arith, within))
window_in (x ∷ uses) zero zero z u from to within = absurd (omega (arith, to))
window_in (x ∷ uses) zero (suc n) zero u from to within = omega (arith, counted x (take n uses), counted u (take n uses))
window_in (x ∷ uses) zero (suc n) (suc z) u from to within = omega (arith, counted x (take n uses), counted x (take n (set uses z u)), window_in uses zero n z u (omega arith) (omega (arith, to)) (omega (arith, within)))
window_in (x ∷ uses) (suc m) n zero u from to within = absurd (omega (arith, from))
window_in (x ∷ uses) (suc m) n (suc z) u from to within = window_in uses m n z u (omega (arith, from)) (omega (arith, to)) (omega (arith, within))

-- one of the others
window_out : (uses : List ZoneUse) (m n z : ℕ) (u : ZoneUse) → (z < m) ⊎ (m + n ≤ z) → take n (drop m (set uses z u)) ≡ take n (drop m uses)
window_out [] m n z u out = refl
window_out (x ∷ uses) zero zero z u out = refl
window_out (x ∷ uses) zero (suc n) zero u (inl below) = absurd (omega (arith, below))
window_out (x ∷ uses) zero (suc n) zero u (inr above) = absurd (omega (arith, above))
window_out (x ∷ uses) zero (suc n) (suc z) u (inl below) = absurd (omega (arith, below))
window_out (x ∷ uses) zero (suc n) (suc z) u (inr above) = ap (λ l. x ∷ l) (window_out uses zero n z u (inr (omega (arith, above))))
window_out (x ∷ uses) (suc m) n zero u out = refl
window_out (x ∷ uses) (suc m) n (suc z) u (inl below) = window_out uses m n z u (inl (omega (arith, below)))
window_out (x ∷ uses) (suc m) n (suc z) u (inr above) = window_out uses m n z u (inr (omega (arith, above)))

window_few : (n : ℕ) (uses : List ZoneUse) → count_empty (take n uses) ≤ n
window_few n uses = omega (arith, count_few (take n uses), long n uses)
  where
    long : (n : ℕ) (uses : List ZoneUse) → length (take n uses) ≤ n
    long zero uses = omega arith
    long (suc n) [] = omega arith
    long (suc n) (x ∷ uses) = omega (arith, long n uses)

-- none of these is empty: the first empty one from any of them on stands behind them
passed : (uses : List ZoneUse) (n z : ℕ) → count_empty (take n uses) ≡ 0 → z ≤ n → z ≤ length uses → z + before_empty (drop z uses) ≡ min n (length uses) + before_empty (drop n uses)
passed [] n zero none to within = omega (arith, before_end [] n (omega arith))
passed [] n (suc z) none to within = absurd (omega (arith, within))
passed (x ∷ uses) zero zero none to within = omega arith
passed (x ∷ uses) zero (suc z) none to within = absurd (omega (arith, to))
passed (Empty ∷ uses) (suc n) zero none to within = absurd (omega (arith, none))
passed (Taken ∷ uses) (suc n) zero none to within = omega (arith, passed uses n zero none (omega arith) (omega arith))
passed (Carrier s i ∷ uses) (suc n) zero none to within = omega (arith, passed uses n zero none (omega arith) (omega arith))
passed (x ∷ uses) (suc n) (suc z) none to within = omega (arith, passed uses n z (omega (arith, counted x (take n uses), none)) (omega (arith, to)) (omega (arith, within)))

-- ---- groups

-- the group of a zone
group_holds : (z : ℕ) → (z / 64 * 64 ≤ z) × (z < z / 64 * 64 + 64)
group_holds z = (omega arith, omega arith)

group_there : (z zones groups : ℕ) → z < zones → zones ≤ groups * 64 → z / 64 < groups
group_there z zones groups within all = omega (arith, within, all)

-- a group with no empty zone is passed
pub group_passed : (uses : List ZoneUse) (groups : List ℕ) (z : ℕ) → IsGrouped uses groups → z < length uses → get_or groups (z / 64) 0 ≡ 0 → z + before_empty (drop z uses) ≡ min ((z / 64 + 1) * 64) (length uses) + before_empty (drop ((z / 64 + 1) * 64) uses)
group_passed uses groups z is within none =
    let m = z / 64 * 64 in
    let holds = group_holds z in
    let step = passed (drop m uses) 64 (z - m) (sym (is.counts (z / 64) (group_there z (length uses) (length groups) within is.all)) ∙ none) (omega (arith, holds.1)) (omega (arith, length-drop m uses, within)) in
    let here : drop (z - m) (drop m uses) ≡ drop z uses = drop-drop (z - m) m uses ∙ ap (λ n. drop n uses) {x = m + (z - m)} (omega (arith, holds.0)) in
    let behind : drop 64 (drop m uses) ≡ drop ((z / 64 + 1) * 64) uses = drop-drop 64 m uses ∙ ap (λ n. drop n uses) {x = m + 64} (omega arith) in
    let before_here = ap before_empty here in
    let before_behind = ap before_empty behind in
    omega (arith, step, before_here, before_behind, length-drop m uses, holds.0, within)

-- ---- a zone put to another use

-- its group counts what the group counts then
pub group_counts : (uses : List ZoneUse) (groups : List ℕ) (z : ℕ) (u : ZoneUse) → IsGrouped uses groups → z < length uses → get_or groups (z / 64) 0 + ones u ≡ empty_in (set uses z u) (z / 64) + ones (get_or uses z Taken)
group_counts uses groups z u is within =
    let holds = group_holds z in
    omega (arith, is.counts (z / 64) (group_there z (length uses) (length groups) within is.all), window_in uses (z / 64 * 64) 64 z u holds.0 holds.1 within)

-- the counts afterwards, where so many zones of its group were counted
pub record PutGroup (uses : List ZoneUse) (groups : List ℕ) (z : ℕ) (u : ZoneUse) (count was now : ℕ) : Type 0 where
  pub some : was ≤ count
  pub few : count - was + now ≤ 64
  pub grouped : IsGrouped (set uses z u) (set groups (z / 64) (count - was + now))

pub put_group : (uses : List ZoneUse) (groups : List ℕ) (z : ℕ) (u : ZoneUse) (count was now : ℕ) → IsGrouped uses groups → z < length uses → count ≡ get_or groups (z / 64) count → was ≡ ones (get_or uses z Taken) → now ≡ ones u → PutGroup uses groups z u count was now
put_group uses groups z u count was now is within found was_is now_is =
    let there = group_there z (length uses) (length groups) within is.all in
    let count_is : count ≡ get_or groups (z / 64) 0 = found ∙ get_or_default groups (z / 64) count 0 there in
    let others = group_counts uses groups z Taken is within in
    let same = group_counts uses groups z u is within in
    let now_in : count - was + now ≡ empty_in (set uses z u) (z / 64) = omega (arith, same, others, count_is, was_is, now_is) in
    let long = length-set groups (z / 64) (count - was + now) in
    record {
      some = omega (arith, others, count_is, was_is);
      few = omega (arith, now_in, window_few 64 (drop (z / 64 * 64) (set uses z u)));
      grouped = record {
        all = omega (arith, is.all, length-set uses z u, long);
        counts = λ group below. at_one there (count - was + now) now_in group (omega (arith, below, long));
      };
    }
  where
    outside : (group : ℕ) → group ≢ z / 64 → (z < group * 64) ⊎ (group * 64 + 64 ≤ z)
    outside group apart = elim (cases_lt z (group * 64)) [
      | inl below ↦ inl below
      | inr above ↦ inr (omega (arith, above, apart))
    ]

    at_one : z / 64 < length groups → (k : ℕ) → k ≡ empty_in (set uses z u) (z / 64) → (group : ℕ) → group < length groups → get_or (set groups (z / 64) k) group 0 ≡ empty_in (set uses z u) group
    at_one there k k_is group below = elim (cases_eq group (z / 64)) [
      | inl e ↦ get_or-set_at groups (z / 64) group k 0 e there ∙ k_is ∙ ap (empty_in (set uses z u)) (sym e)
      | inr apart ↦ get_or-set_other groups (z / 64) group k 0 apart ∙ is.counts group below ∙ sym (ap count_empty (window_out uses (group * 64) 64 z u (outside group apart)))
    ]

-- ---- all zones taken

pub none_grouped : (zones groups : ℕ) → zones ≤ groups * 64 → IsGrouped (replicate zones Taken) (replicate groups 0)
none_grouped zones groups all = record {
  all = omega (arith, all, length-replicate zones Taken, length-replicate {A = ℕ} groups 0);
  counts = λ group below. get_or-replicate {A = ℕ} groups group 0 0 (omega (arith, below, length-replicate {A = ℕ} groups 0)) ∙ sym (ap (λ l. count_empty (take 64 l)) (drop-replicate (group * 64) zones Taken) ∙ none 64 (zones - group * 64));
}
  where
    none : (n zones : ℕ) → count_empty (take n (replicate zones Taken)) ≡ 0
    none zero zones = refl
    none (suc n) zero = refl
    none (suc n) (suc zones) = none n zones
