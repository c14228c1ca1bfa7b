-- Rounds of reads, each of which ends where a device is lost.
use Rattle.std.proofs.Common.{◌≡◌, ℕ, suc, ◌+◌, ◌*◌, ◌<◌, ◌≤◌, Bool, true, false, List, [], ◌∷◌, length, filter, get_or, refl, sym, ap, ◌∙◌, subst, arith}
use mathlib.Core.Bool.{false≢true}
use Rattle.std.specs.Prelude.{not}
use Rattle.zone_bay.specs.Contents.{Contents}
use Rattle.zone_bay.specs.Bay.{BayState}
use Rattle.marker_format.specs.declared.marker.Marker.{Marker}
use Rattle.set_table.specs.Table.{Table, IsCarrier, fragments_of, use_at}
use Rattle.set_table.specs.Points.{point_at}
use Rattle.set_reader.specs.Attempts.{Answered, Attempts, Failed}
use Rattle.set_reader.specs.Calls.{live_count, losses, OnlyReadsBy, CallsAtMost}
use Rattle.marker_format.specs.Zone.{Array}
use Rattle.set_table.specs.Table.{array_of}
use Rattle.set_reader.specs.Calls.{OnlyLoses}
use Rattle.set_reader.specs.Record.{HasRecord, StandsAt}
use Rattle.set_reader.proofs.CallLaws.{no_calls, calls_sum, calls_more}
use Rattle.set_reader.proofs.LossLaws.{nothing_read, reads_then}
use Rattle.set_reader.proofs.AttemptLaws.{AllFailed, none_failed, failed_more, attempts_then}

-- no device comes back
fewer_live : (before now : List Bool) → length now ≡ length before → ((d : ℕ) → not (get_or now d true) ≡ true → not (get_or before d true) ≡ true) → length (filter not now) ≤ length (filter not before)
fewer_live [] [] same stays = omega arith
fewer_live [] (y ∷ now) same stays = absurd (omega (arith, same))
fewer_live (x ∷ before) [] same stays = omega arith
fewer_live (x ∷ before) (true ∷ now) same stays =
    let rest = fewer_live before now (omega (arith, same)) (λ d. stays (suc d)) in
    let more = grow x before in
    omega (arith, rest, more)
  where
    grow : (x : Bool) (before : List Bool) → length (filter not before) ≤ length (filter not (x ∷ before))
    grow true before = omega arith
    grow false before = omega arith
fewer_live (true ∷ before) (false ∷ now) same stays = absurd (false≢true (stays 0 refl))
fewer_live (false ∷ before) (false ∷ now) same stays = omega (arith, fewer_live before now (omega (arith, same)) (λ d. stays (suc d)))

pub no_more_live : (t now : Table) (old new : BayState) → OnlyReadsBy t now old new → live_count now ≤ live_count t
no_more_live t now old new reads = fewer_live t.lost now.lost reads.devices reads.stays_lost

-- each round so far read no more than this, and lost a device
pub record Rounds (n : ℕ) (t now : Table) (old new : BayState) : Type 0 where
  pub reads : OnlyReadsBy t now old new
  pub fewer : live_count now ≤ live_count t
  pub few : CallsAtMost (n * losses t now) old new
  pub attempts : AllFailed n new.failed (point_at t old) (point_at now new)

pub no_round : (n : ℕ) (t : Table) (bay : BayState) → Rounds n t t bay bay
no_round n t bay = record { reads = nothing_read t bay; fewer = omega arith; few = no_calls (n * losses t t) bay; attempts = none_failed n bay.failed (point_at t bay) }

pub one_round : (n : ℕ) (t now next : Table) (old mid new : BayState) → Rounds n t now old mid → OnlyReadsBy now next mid new → live_count next < live_count now → CallsAtMost n mid new → Failed n new.failed (point_at now mid) (point_at next new) → Rounds n t next old new
one_round n t now next old mid new so_far reads falls few failed =
    let f = so_far.fewer in
    let more = so_far.few in
    let least : n * losses t now + n ≤ n * losses t next = grind arith in
    record {
      reads = reads_then t now next old mid new so_far.reads reads;
      fewer = omega (arith, f, falls);
      few = calls_more (n * losses t now + n) (n * losses t next) old new least (calls_sum (n * losses t now) n old mid new more few);
      attempts = failed_more n mid.failed new.failed (point_at t old) (point_at now mid) (point_at next new) reads.bay.goes_on.keeps_failed so_far.attempts failed;
    }

-- the last attempt was answered
pub last_attempt : (n : ℕ) (t now next : Table) (old mid new : BayState) → Rounds n t now old mid → OnlyReadsBy now next mid new → Answered n (point_at now mid) (point_at next new) → Attempts n new.failed (point_at t old) (point_at next new)
last_attempt n t now next old mid new so_far reads answered = attempts_then n mid.failed new.failed (point_at t old) (point_at now mid) (point_at next new) reads.bay.goes_on.keeps_failed so_far.attempts answered

-- the last round lost none
pub last_round : (n : ℕ) (t now next : Table) (old mid new : BayState) → Rounds n t now old mid → OnlyReadsBy now next mid new → CallsAtMost n mid new → CallsAtMost (n * (1 + losses t next)) old new
last_round n t now next old mid new so_far reads few =
    let f = so_far.fewer in
    let less = no_more_live now next mid new reads in
    let more = so_far.few in
    let least : n * losses t now + n ≤ n * (1 + losses t next) = grind arith in
    calls_more (n * losses t now + n) (n * (1 + losses t next)) old new least (calls_sum (n * losses t now) n old mid new more few)

-- ---- what stands still stands

pub still_carries : (t now : Table) (set index d z : ℕ) → OnlyLoses t now → IsCarrier now set index d z → IsCarrier t set index d z
still_carries t now set index d z loses is =
    let zones = ap (λ (x : Table). x.zones) loses.table in
    record {
      live = loses.stays_lost d is.live;
      carries = sym (ap (λ zones. use_at zones d z) zones) ∙ is.carries;
      alone = λ e y there. is.alone e y (ap (λ zones. use_at zones e y) zones ∙ there);
    }

pub still_stands : (t now : Table) (old new : BayState) (set block : ℕ) (m : Marker) (held : Contents) → OnlyReadsBy t now old new → StandsAt t set block m held → StandsAt now set block m held
still_stands t now old new set block m held reads stands index d z below is =
    let count : fragments_of now ≡ fragments_of t = ap fragments_of reads.table in
    subst (λ (a : Array). HasRecord a (held d z) block m) (sym (ap array_of reads.table)) (stands index d z (omega (arith, below, count)) (still_carries t now set index d z (record { table = reads.table; stays_lost = reads.stays_lost }) is))

-- the reads of the marker and those of the fragments
pub both_few : (t u v : Table) (old mid new : BayState) → 1 ≤ t.geometry.k → OnlyReadsBy t u old mid → OnlyReadsBy u v mid new → CallsAtMost (1 + losses t u) old mid → CallsAtMost (u.geometry.k * (1 + losses u v)) mid new
    → CallsAtMost (1 + t.geometry.k * (1 + losses t v)) old new
both_few t u v old mid new some first then few more =
    let k = t.geometry.k in
    let same : u.geometry.k ≡ k = ap (λ (x : Table). x.geometry.k) first.table in
    let more : CallsAtMost (k * (1 + losses u v)) mid new = subst (λ n. CallsAtMost (n * (1 + losses u v)) mid new) same more in
    let falls = no_more_live t u old mid first in
    let falls_on = no_more_live u v mid new then in
    let parts : losses t v ≡ losses t u + losses u v = omega (arith, falls, falls_on) in
    let scaled : losses t u ≤ k * losses t u = grind (arith, some) in
    let whole : k * (1 + losses t v) ≡ k * losses t u + k * (1 + losses u v) = ap (λ n. k * (1 + n)) parts ∙ (let e : k * (1 + (losses t u + losses u v)) ≡ k * losses t u + k * (1 + losses u v) = grind arith in e) in
    let all : (1 + losses t u) + k * (1 + losses u v) ≤ 1 + k * (1 + losses t v) = omega (arith, scaled, whole) in
    calls_more ((1 + losses t u) + k * (1 + losses u v)) (1 + k * (1 + losses t v)) old new all (calls_sum (1 + losses t u) (k * (1 + losses u v)) old mid new few more)
