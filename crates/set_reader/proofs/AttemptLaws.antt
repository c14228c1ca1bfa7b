-- Attempts, one behind the other.
use Rattle.std.proofs.Common.{◌≡◌, ℕ, true, List, [], ◌∷◌, ◌++◌, Some, None, IfSome, refl, sym, subst, ◌∙◌, arith}
use Rattle.smore_base.specs.declared.place.Place.{Place}
use Rattle.marker_format.specs.declared.marker.Marker.{Marker}
use Rattle.zone_bay.specs.Bay.{BayState}
use Rattle.zone_bay.proofs.Stretch.{no_fault}
use Rattle.set_table.specs.Table.{Table, is_live}
use Rattle.set_table.specs.Points.{Point, point_at, last_point}
use Rattle.set_reader.specs.Calls.{ReadsUntil}
use Rattle.set_reader.specs.Record.{StandsAt}
use Rattle.set_reader.specs.Attempts.{Answered, Failed, EachFailed, Attempts, ReadsInAttempts}
use Rattle.set_reader.proofs.Told.{told_at, told_from}
use Rattle.set_reader.proofs.LossLaws.{lost_of}

-- ---- one attempt

pub not_called : (calls : ℕ) (at : Point) → Answered calls at at
not_called calls at = record { table = refl; later = omega arith; few = omega arith; faults = λ d. refl }

pub attempt_answered : (t : Table) (calls : ℕ) (old new : BayState) → ReadsUntil calls None old new → Answered calls (point_at t old) (point_at t new)
attempt_answered t calls old new reads = record {
  table = refl;
  later = reads.bay.goes_on.later;
  few = reads.few.calls;
  faults = λ d. no_fault old new _ _ d reads.bay.goes_on (λ m is. none d is);
}
  where
    none : (d : ℕ) → None ≡ Some d → ⊥
    none d e = cc

pub attempt_failed : (t : Table) (d : ℕ) (calls : ℕ) (old new : BayState) → is_live t d ≡ true → ReadsUntil calls (Some d) old new → Failed calls new.failed (point_at t old) (point_at (lost_of t d) new)
attempt_failed t d calls old new live reads = record {
  device = d;
  live = live;
  table = refl;
  few = reads.few.calls;
  rose = reads.rose;
  others = λ e other. no_fault old new _ _ e reads.bay.goes_on (λ m is. other (same d e is));
  moment = reads.last.moment;
  since = reads.last.since;
  told = reads.last.failed;
  earlier = reads.last.before;
  last = reads.last.last;
}
  where
    same : (a b : ℕ) → Some a ≡ Some b → b ≡ a
    same a b e = cc

-- ---- those that failed

-- each of them failed, up to this point
pub record AllFailed (calls : ℕ) (failed : ℕ → ℕ → Type 0) (before after : Point) : Type 0 where
  pub points : List Point
  pub each : EachFailed calls failed before points
  pub ends : last_point before points ≡ after

pub none_failed : (calls : ℕ) (failed : ℕ → ℕ → Type 0) (at : Point) → AllFailed calls failed at at
none_failed calls failed at = record { points = []; each = tt; ends = refl }

-- what failed stays told
told_still : (calls : ℕ) (failed failed' : ℕ → ℕ → Type 0) (a b : Point) → ((d m : ℕ) → failed d m → failed' d m) → Failed calls failed a b → Failed calls failed' a b
told_still calls failed failed' a b keeps at = record {
  device = at.device;
  live = at.live;
  table = at.table;
  few = at.few;
  rose = at.rose;
  others = at.others;
  moment = at.moment;
  since = at.since;
  told = keeps at.device at.moment at.told;
  earlier = at.earlier;
  last = at.last;
}

each_still : (calls : ℕ) (failed failed' : ℕ → ℕ → Type 0) (a : Point) (points : List Point) → ((d m : ℕ) → failed d m → failed' d m) → EachFailed calls failed a points → EachFailed calls failed' a points
each_still calls failed failed' a [] keeps each = tt
each_still calls failed failed' a (next ∷ points) keeps each = (told_still calls failed failed' a next keeps each.0, each_still calls failed failed' next points keeps each.1)

each_more : (calls : ℕ) (failed : ℕ → ℕ → Type 0) (a b : Point) (points : List Point) → EachFailed calls failed a points → Failed calls failed (last_point a points) b → EachFailed calls failed a (points ++ b ∷ [])
each_more calls failed a b [] each next = (next, tt)
each_more calls failed a b (p ∷ points) each next = (each.0, each_more calls failed p b points each.1 next)

last_more : (a b : Point) (points : List Point) → last_point a (points ++ b ∷ []) ≡ b
last_more a b [] = refl
last_more a b (p ∷ points) = last_more p b points

-- one more
pub failed_more : (calls : ℕ) (failed failed' : ℕ → ℕ → Type 0) (a b c : Point) → ((d m : ℕ) → failed d m → failed' d m) → AllFailed calls failed a b → Failed calls failed' b c → AllFailed calls failed' a c
failed_more calls failed failed' a b c keeps so_far next = record {
  points = so_far.points ++ c ∷ [];
  each = each_more calls failed' a c so_far.points (each_still calls failed failed' a so_far.points keeps so_far.each) (subst (λ (p : Point). Failed calls failed' p c) (sym so_far.ends) next);
  ends = last_more a c so_far.points;
}

-- ---- and the last one, which was answered

pub attempts_then : (calls : ℕ) (failed failed' : ℕ → ℕ → Type 0) (a b c : Point) → ((d m : ℕ) → failed d m → failed' d m) → AllFailed calls failed a b → Answered calls b c → Attempts calls failed' a c
attempts_then calls failed failed' a b c keeps so_far next = record {
  points = so_far.points;
  each = each_still calls failed failed' a so_far.points keeps so_far.each;
  answered = subst (λ (p : Point). Answered calls p c) (sym so_far.ends) next;
}

pub no_attempts : (calls : ℕ) (failed : ℕ → ℕ → Type 0) (at : Point) → Attempts calls failed at at
no_attempts calls failed at = record { points = []; each = tt; answered = not_called calls at }

pub attempts_still : (calls : ℕ) (failed failed' : ℕ → ℕ → Type 0) (a b : Point) → ((d m : ℕ) → failed d m → failed' d m) → Attempts calls failed a b → Attempts calls failed' a b
attempts_still calls failed failed' a b keeps attempts = record {
  points = attempts.points;
  each = each_still calls failed failed' a attempts.points keeps attempts.each;
  answered = attempts.answered;
}

-- ---- those of a read of a record

-- no fragment was read
pub no_fragments : (t t' : Table) (place : Place) (old new : BayState) → Attempts 1 new.failed (point_at t old) (point_at t' new) → ReadsInAttempts t t' place old new
no_fragments t t' place old new marker = record {
  between = point_at t' new;
  marker = marker;
  fragments = no_attempts t.geometry.k new.failed (point_at t' new);
  no_payload = told_from old.contents _ (λ held is empty. refl);
}

-- fragments were read: the record has a payload
pub with_fragments : (t u t' : Table) (place : Place) (old mid new : BayState) (payload : ℕ) → u.geometry.k ≡ t.geometry.k → ((d m : ℕ) → mid.failed d m → new.failed d m) → (payload ≡ 0 → ⊥)
    → IfSome old.contents (λ held. (m : Marker) → StandsAt t place.set place.block m held → payload ≡ m.payload) → Attempts 1 mid.failed (point_at t old) (point_at u mid) → Attempts u.geometry.k new.failed (point_at u mid) (point_at t' new) → ReadsInAttempts t t' place old new
with_fragments t u t' place old mid new payload k keeps some told marker fragments = record {
  between = point_at u mid;
  marker = attempts_still 1 mid.failed new.failed (point_at t old) (point_at u mid) keeps marker;
  fragments = subst (λ (n : ℕ). Attempts n new.failed (point_at u mid) (point_at t' new)) k fragments;
  no_payload = told_from old.contents _ (λ held is empty. absurd (some (told_at old.contents _ held is told empty.0 empty.1 ∙ empty.2)));
}
