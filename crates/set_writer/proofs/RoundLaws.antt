-- Rounds of calls on the members of a set, one behind the other.
use Rattle.std.proofs.Common.{◌≡◌, ℕ, zero, suc, ◌+◌, ◌*◌, ◌≤◌, Bool, true, false, List, [], ◌∷◌, ◌++◌, length, refl, sym, ap, subst, ◌∙◌, arith, length-append}
use Rattle.std.specs.Prelude.{not, ◌&&◌}
use Rattle.std.specs.Int.{from_bool}
use Rattle.std.specs.List.{list_any, range_with_len}
use Rattle.std.proofs.lemmas.Bool.{and_from, and_parts}
use Rattle.std.proofs.lemmas.List.Folds.{list_any_at}
use Rattle.std.proofs.lemmas.List.FromFn.{length-range_with_len}
use Rattle.std.proofs.lemmas.List.Filters.{length-filter_both}
use Rattle.std.proofs.Math.Nat.{mul-le-mul_left}
use Rattle.zone_bay.specs.Contents.{Contents}
use Rattle.zone_bay.specs.Outside.{counted}
use Rattle.zone_bay.specs.Bay.{BayState}
use Rattle.set_table.specs.Zones.{carries}
use Rattle.set_table.specs.Table.{Table, zones_of, is_live, IsCarrier, is_carried, drives_of, fragments_of, HangsTogether}
use Rattle.set_table.proofs.Counts.{count, count_more, any_somewhere}
use Rattle.set_table.proofs.MissingLaws.{carried_by}
use Rattle.set_writer.specs.Members.{Leads}
use Rattle.set_writer.specs.Fit.{live_of}
use Rattle.set_writer.specs.Rounds.{Round, EachRound, Rounds, InRounds}
use Rattle.set_table.specs.Points.{Point, point_at, last_point}

-- ---- a call for each member that is live

-- the indexes below this one that a live drive carries
abbrev pub live_below : Table → ℕ → ℕ → ℕ
live_below t set' i = count (is_carried t set') i

-- they are all live members
pub live_all : (t : Table) (set' : ℕ) → live_below t set' (fragments_of t) ≡ live_of t set'
live_all t set' =
    let both = length-filter_both (is_carried t set') (λ index. not (is_carried t set' index)) (λ index. refl) (range_with_len 0 (fragments_of t)) in
    let all = length-range_with_len 0 (fragments_of t) in
    omega (arith, both, all)

-- an index that is carried was carried before devices were lost
carried_before : (t t' : Table) (set' index : ℕ) → t' ≡ record t { lost = t'.lost } → ((d : ℕ) → is_live t' d ≡ true → is_live t d ≡ true) → is_carried t' set' index ≡ true → is_carried t set' index ≡ true
carried_before t t' set' index table stays is =
    let now : is_carried (record t { lost = t'.lost }) set' index ≡ true = subst (λ (s : Table). is_carried s set' index ≡ true) table is in
    let at = any_somewhere (λ d. is_live t' d && list_any (carries set' index) (zones_of t.zones d)) (drives_of t.geometry) now in
    let both = and_parts _ _ (at.2 0) in
    list_any_at (λ d. is_live t d && list_any (carries set' index) (zones_of t.zones d)) (drives_of t.geometry) at.0 0 at.1 (and_from _ _ (stays _ both.0) both.1)

no_more : (a b : Bool) → (a ≡ true → b ≡ true) → from_bool a ≤ from_bool b
no_more true b then = let is = ap from_bool (then refl) in omega (arith, is)
no_more false b then = omega arith

-- one index more
pub calls_more : (t t' : Table) (set' i before mid after : ℕ) → t' ≡ record t { lost = t'.lost } → ((d : ℕ) → is_live t' d ≡ true → is_live t d ≡ true) → mid ≤ before + live_below t set' i → after ≤ mid + from_bool (is_carried t' set' i) → after ≤ before + live_below t set' (i + 1)
calls_more t t' set' i before mid after table stays first next =
    let more = count_more (is_carried t set') i in
    let less = no_more (is_carried t' set' i) (is_carried t set' i) (carried_before t t' set' i table stays) in
    omega (arith, first, next, more, less)

-- the call on a carrier
pub one_call : (t : Table) (set' index d z before after : ℕ) → HangsTogether t → IsCarrier t set' index d z → after ≡ counted before → after ≤ before + from_bool (is_carried t set' index)
one_call t set' index d z before after together carrier is =
    let one = ap from_bool (carried_by t set' index together.drives d z carrier.live carrier.carries) in
    omega (arith, one, is)

-- ---- rounds

pub round_from : (set' : ℕ) (goal : Contents → Contents) (t t' : Table) (old new : BayState) → t' ≡ record t { lost = t'.lost } → Leads goal t t' old new → new.moment ≤ old.moment + live_of t set' → Round set' new.failed (point_at t old) (point_at t' new)
round_from set' goal t t' old new table leads few = record {
  table = table;
  stays_lost = leads.stays_lost;
  later = leads.toward.goes_on.later;
  few = few;
  no_fewer = leads.toward.goes_on.no_fewer;
  rose = leads.rose;
  failed_in = λ d more. let it = leads.toward.goes_on.rose d more in (it.4, (it.0, it.1, it.2, it.3));
}

-- no round, and one
pub no_rounds : (set' : ℕ) (failed : ℕ → ℕ → Type 0) (at : Point) → Rounds set' 0 failed at at
no_rounds set' failed at = record { points = []; count = refl; each = tt; ends = refl }

pub one_round : (set' : ℕ) (goal : Contents → Contents) (t t' : Table) (old new : BayState) → t' ≡ record t { lost = t'.lost } → Leads goal t t' old new → new.moment ≤ old.moment + live_of t set' → InRounds set' 1 t t' old new
one_round set' goal t t' old new table leads few = record { points = point_at t' new ∷ []; count = refl; each = (round_from set' goal t t' old new table leads few, tt); ends = refl }

-- what failed stays told
round_told : (set' : ℕ) (failed failed' : ℕ → ℕ → Type 0) (a b : Point) → ((d m : ℕ) → failed d m → failed' d m) → Round set' failed a b → Round set' failed' a b
round_told set' failed failed' a b told round = record {
  table = round.table;
  stays_lost = round.stays_lost;
  later = round.later;
  few = round.few;
  no_fewer = round.no_fewer;
  rose = round.rose;
  failed_in = λ d more. let it = round.failed_in d more in let at = it.1 in (it.0, (at.0, at.1, at.2, told d at.0 at.3));
}

each_told : (set' : ℕ) (failed failed' : ℕ → ℕ → Type 0) (a : Point) (points : List Point) → ((d m : ℕ) → failed d m → failed' d m) → EachRound set' failed a points → EachRound set' failed' a points
each_told set' failed failed' a [] told each = tt
each_told set' failed failed' a (next ∷ points) told each = (round_told set' failed failed' a next told each.0, each_told set' failed failed' next points told each.1)

pub rounds_told : (set' n : ℕ) (failed failed' : ℕ → ℕ → Type 0) (a b : Point) → ((d m : ℕ) → failed d m → failed' d m) → Rounds set' n failed a b → Rounds set' n failed' a b
rounds_told set' n failed failed' a b told rounds = record { points = rounds.points; count = rounds.count; each = each_told set' failed failed' a rounds.points told rounds.each; ends = rounds.ends }

-- rounds behind others
each_then : (set' : ℕ) (failed : ℕ → ℕ → Type 0) (a : Point) (ps qs : List Point) → EachRound set' failed a ps → EachRound set' failed (last_point a ps) qs → EachRound set' failed a (ps ++ qs)
each_then set' failed a [] qs first then = then
each_then set' failed a (p ∷ ps) qs first then = (first.0, each_then set' failed p ps qs first.1 then)

last_then : (a : Point) (ps qs : List Point) → last_point a (ps ++ qs) ≡ last_point (last_point a ps) qs
last_then a [] qs = refl
last_then a (p ∷ ps) qs = last_then p ps qs

pub rounds_then : (set' n m total : ℕ) (failed : ℕ → ℕ → Type 0) (a b c : Point) → n + m ≡ total → Rounds set' n failed a b → Rounds set' m failed b c → Rounds set' total failed a c
rounds_then set' n m total failed a b c sum first then = record {
  points = first.points ++ then.points;
  count = let x = first.count in let y = then.count in omega (arith, sum, x, y, length-append first.points then.points);
  each = each_then set' failed a first.points then.points first.each (subst (λ (p : Point). EachRound set' failed p then.points) (sym first.ends) then.each);
  ends = last_then a first.points then.points ∙ ap (λ (p : Point). last_point p then.points) first.ends ∙ then.ends;
}

-- those of two stretches of calls
pub in_rounds_then : (set' n m total : ℕ) (t t' t'' : Table) (old mid new : BayState) → n + m ≡ total → ((d k : ℕ) → mid.failed d k → new.failed d k) → InRounds set' n t t' old mid → InRounds set' m t' t'' mid new → InRounds set' total t t'' old new
in_rounds_then set' n m total t t' t'' old mid new sum told first then = rounds_then set' n m total new.failed (point_at t old) (point_at t' mid) (point_at t'' new) sum (rounds_told set' n mid.failed new.failed (point_at t old) (point_at t' mid) told first) then

-- ---- how many calls they are

count_no_more : (p q : ℕ → Bool) (n : ℕ) → ((i : ℕ) → p i ≡ true → q i ≡ true) → count p n ≤ count q n
count_no_more p q zero each = omega arith
count_no_more p q (suc n) each =
    let one : n + 1 ≡ suc n = omega arith in
    let rest = count_no_more p q n each in
    let here = no_more (p n) (q n) (each n) in
    subst (λ k. count p k ≤ count q k) one (omega (arith, rest, here, count_more p n, count_more q n))

-- no more members are live behind a round
live_fewer : (set' : ℕ) (failed : ℕ → ℕ → Type 0) (a b : Point) → Round set' failed a b → live_of b.table set' ≤ live_of a.table set'
live_fewer set' failed a b round =
    let count_is : fragments_of b.table ≡ fragments_of a.table = ap (λ (s : Table). s.geometry.k + s.geometry.p) round.table in
    let fewer = count_no_more (is_carried b.table set') (is_carried a.table set') (fragments_of a.table) (λ index. carried_before a.table b.table set' index round.table round.stays_lost) in
    let now = ap (live_below b.table set') count_is in
    omega (arith, fewer, now, live_all a.table set', live_all b.table set')

each_few : (set' : ℕ) (failed : ℕ → ℕ → Type 0) (a : Point) (points : List Point) → EachRound set' failed a points → (last_point a points).moment ≤ a.moment + length points * live_of a.table set'
each_few set' failed a [] each = omega arith
each_few set' failed a (next ∷ points) each =
    let rest = each_few set' failed next points each.1 in
    let few = each.0.few in
    let scaled = mul-le-mul_left (length points) (live_fewer set' failed a next each.0) in
    let step : suc (length points) * live_of a.table set' ≡ live_of a.table set' + length points * live_of a.table set' = grind arith in
    omega (arith, rest, few, scaled, step)

pub rounds_few : (set' n : ℕ) (failed : ℕ → ℕ → Type 0) (a b : Point) → Rounds set' n failed a b → b.moment ≤ a.moment + n * live_of a.table set'
rounds_few set' n failed a b rounds =
    subst (λ m. b.moment ≤ a.moment + m * live_of a.table set') rounds.count
    (subst (λ (p : Point). p.moment ≤ a.moment + length rounds.points * live_of a.table set') rounds.ends (each_few set' failed a rounds.points rounds.each))
