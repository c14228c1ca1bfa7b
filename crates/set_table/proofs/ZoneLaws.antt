-- The zones of a drive: how many are empty, and which is the lowest of these.
use Rattle.std.proofs.Common.{◌≡◌, ℕ, zero, suc, ◌+◌, ◌-◌, ◌<◌, ◌≤◌, min, Bool, true, false, cond, List, [], ◌∷◌, length, drop, replicate, get_or, set, refl, sym, ap, ◌∙◌, arith}
use Rattle.std.specs.Int.{from_bool}
use Rattle.std.proofs.lemmas.List.{ext_get_or, get_or_default, get_or-replicate, length-replicate, length-set}
use Rattle.set_table.specs.declared.zone_use.ZoneUse.{ZoneUse}
use Rattle.set_table.specs.declared.zone_use.ZoneUse.TheVariants.{Empty, Taken, Carrier}
use Rattle.set_table.specs.Zones.{is_empty, count_empty, before_empty, blank}

-- one for a zone that is empty
abbrev pub ones : ZoneUse → ℕ
ones u = from_bool (is_empty u)

pub counted : (u : ZoneUse) (uses : List ZoneUse) → count_empty (u ∷ uses) ≡ ones u + count_empty uses
counted Empty uses = omega arith
counted Taken uses = omega arith
counted (Carrier s i) uses = omega arith

-- a zone that is put to another use
pub count_set : (uses : List ZoneUse) (z : ℕ) (u : ZoneUse) → z < length uses → count_empty (set uses z u) + ones (get_or uses z Taken) ≡ count_empty uses + ones u
count_set [] z u within = absurd (omega (arith, within))
count_set (x ∷ uses) zero u within = omega (arith, counted x uses, counted u uses)
count_set (x ∷ uses) (suc z) u within = omega (arith, counted x uses, counted x (set uses z u), count_set uses z u (omega (arith, within)))

pub count_few : (uses : List ZoneUse) → count_empty uses ≤ length uses
count_few [] = omega arith
count_few (u ∷ uses) = omega (arith, counted u uses, count_few uses, few u)
  where
    few : (u : ZoneUse) → ones u ≤ 1
    few Empty = omega arith
    few Taken = omega arith
    few (Carrier s i) = omega arith

-- from the end on there is none
pub before_end : (uses : List ZoneUse) (z : ℕ) → length uses ≤ z → before_empty (drop z uses) ≡ 0
before_end [] zero past = refl
before_end [] (suc z) past = refl
before_end (x ∷ uses) zero past = absurd (omega (arith, past))
before_end (x ∷ uses) (suc z) past = before_end uses z (omega (arith, past))

-- where no zone below this one is empty
pub before_split : (uses : List ZoneUse) (z : ℕ) → z ≤ before_empty uses → before_empty uses ≡ z + before_empty (drop z uses)
before_split uses zero below = omega arith
before_split [] (suc z) below = absurd (omega (arith, below))
before_split (Empty ∷ uses) (suc z) below = absurd (omega (arith, below))
before_split (Taken ∷ uses) (suc z) below = omega (arith, before_split uses z (omega (arith, below)))
before_split (Carrier s i ∷ uses) (suc z) below = omega (arith, before_split uses z (omega (arith, below)))

-- a zone that becomes empty
pub before_freed : (uses : List ZoneUse) (z : ℕ) (u : ZoneUse) → is_empty u ≡ true → z < length uses → before_empty (set uses z u) ≡ min (before_empty uses) z
before_freed [] z u is within = absurd (omega (arith, within))
before_freed (x ∷ uses) zero u is within = ap (λ b. cond b 0 (suc (before_empty uses))) is ∙ omega arith
before_freed (Empty ∷ uses) (suc z) u is within = omega arith
before_freed (Taken ∷ uses) (suc z) u is within = omega (arith, before_freed uses z u is (omega (arith, within)))
before_freed (Carrier s i ∷ uses) (suc z) u is within = omega (arith, before_freed uses z u is (omega (arith, within)))

-- one that isn't empty then, and was not the lowest empty one
pub before_kept : (uses : List ZoneUse) (z : ℕ) (u : ZoneUse) → is_empty u ≡ false → (z ≡ before_empty uses → ⊥) → before_empty (set uses z u) ≡ before_empty uses
before_kept [] z u is other = refl
before_kept (Empty ∷ uses) zero u is other = absurd (other refl)
before_kept (Taken ∷ uses) zero u is other = ap (λ b. cond b 0 (suc (before_empty uses))) is
before_kept (Carrier s i ∷ uses) zero u is other = ap (λ b. cond b 0 (suc (before_empty uses))) is
before_kept (Empty ∷ uses) (suc z) u is other = refl
before_kept (Taken ∷ uses) (suc z) u is other = ap suc (before_kept uses z u is (λ e. other (ap suc e)))
before_kept (Carrier s i ∷ uses) (suc z) u is other = ap suc (before_kept uses z u is (λ e. other (ap suc e)))

-- one that was the lowest empty one
pub before_used : (uses : List ZoneUse) (z : ℕ) (u : ZoneUse) → is_empty u ≡ false → z ≡ before_empty uses → z < length uses → z ≤ before_empty (set uses z u)
before_used [] z u is low within = absurd (omega (arith, within))
before_used (Empty ∷ uses) zero u is low within = omega arith
before_used (Empty ∷ uses) (suc z) u is low within = absurd (omega (arith, low))
before_used (Taken ∷ uses) zero u is low within = absurd (omega (arith, low))
before_used (Taken ∷ uses) (suc z) u is low within = omega (arith, before_used uses z u is (omega (arith, low)) (omega (arith, within)))
before_used (Carrier s i ∷ uses) zero u is low within = absurd (omega (arith, low))
before_used (Carrier s i ∷ uses) (suc z) u is low within = omega (arith, before_used uses z u is (omega (arith, low)) (omega (arith, within)))

-- ---- zones of which none is empty

pub none_empty : (zones : ℕ) → count_empty (replicate zones Taken) ≡ 0
none_empty zero = refl
none_empty (suc zones) = none_empty zones

pub all_before : (zones : ℕ) → before_empty (replicate zones Taken) ≡ zones
all_before zero = refl
all_before (suc zones) = ap suc (all_before zones)

-- ---- blank zones

-- all from 2 on are empty, and the first two are not
pub record IsBlank (zones : ℕ) (uses : List ZoneUse) : Type 0 where
  pub long : length uses ≡ zones
  pub first : get_or uses 0 Taken ≡ Taken
  pub second : get_or uses 1 Taken ≡ Taken
  pub others : (z : ℕ) → 2 ≤ z → z < zones → get_or uses z Taken ≡ Empty

pub length-blank : (zones : ℕ) → 2 ≤ zones → length (blank zones) ≡ zones
length-blank zones some = omega (arith, length-replicate (zones - 2) Empty, some)

pub blank_is : (zones : ℕ) (uses : List ZoneUse) → 2 ≤ zones → IsBlank zones uses → uses ≡ blank zones
blank_is zones uses some is = ext_get_or Taken uses (blank zones) (is.long ∙ sym (length-blank zones some)) at_one
  where
    at_one : (z : ℕ) → z < length uses → get_or uses z Taken ≡ get_or (blank zones) z Taken
    at_one zero below = is.first
    at_one (suc zero) below = is.second
    at_one (suc (suc z)) below =
        let within : suc (suc z) < zones = omega (arith, below, is.long) in
        is.others (suc (suc z)) (omega arith) within ∙ sym (get_or-replicate (zones - 2) z Empty Taken (omega (arith, within)))

-- ---- one zone put to another use

-- what was found of the zone counts as many as it is there
pub ones_found : (uses : List ZoneUse) (z : ℕ) (found : ZoneUse) (test : Bool) (n : ℕ) → z < length uses → found ≡ get_or uses z found → test ≡ is_empty found → n ≡ from_bool test → n ≡ ones (get_or uses z Taken)
ones_found uses z found test n within is tested counted_is = counted_is ∙ ap from_bool (tested ∙ ap is_empty (is ∙ get_or_default uses z found Taken within))

pub ones_of : (u : ZoneUse) (test : Bool) (n : ℕ) → test ≡ is_empty u → n ≡ from_bool test → n ≡ ones u
ones_of u test n tested counted_is = counted_is ∙ ap from_bool tested

-- the zones' numbers afterwards
pub record Put (uses : List ZoneUse) (z : ℕ) (u : ZoneUse) (empty was now : ℕ) : Type 0 where
  pub some : was ≤ empty
  pub sum : empty - was + now < 65536
  pub long : length (set uses z u) < 65536
  pub count : empty - was + now ≡ count_empty (set uses z u)

pub put_is : (uses : List ZoneUse) (z : ℕ) (u : ZoneUse) (empty was now : ℕ) → length uses < 65536 → z < length uses → empty ≡ count_empty uses → was ≡ ones (get_or uses z Taken) → now ≡ ones u → Put uses z u empty was now
put_is uses z u empty was now short within counted_is was_is now_is =
    let same = count_set uses z u within in
    let others = count_set uses z Taken within in
    let long = length-set uses z u in
    let count : empty - was + now ≡ count_empty (set uses z u) = omega (arith, same, others, counted_is, was_is, now_is) in
    record {
      some = omega (arith, others, counted_is, was_is);
      sum = omega (arith, count, count_few (set uses z u), long, short);
      long = omega (arith, long, short);
      count = count;
    }
