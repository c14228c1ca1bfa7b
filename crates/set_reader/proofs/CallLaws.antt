-- Reads, one after another.
use Rattle.std.proofs.Common.{◌≡◌, ℕ, ◌+◌, ◌≤◌, Option, Some, None, IfSome, inl, inr, arith}
use Rattle.std.specs.Prelude.{Result, Ok, Err, IsErr}
use Rattle.zone_bay.specs.Bay.{BayState, Call, Makes, device_of}
use Rattle.zone_bay.specs.Outside.{Rose}
use Rattle.zone_bay.specs.Stretch.{FailsReading}
use Rattle.zone_bay.proofs.Stretch.{reads_nothing, reads_join, reads_weaker}
use Rattle.zone_bay.proofs.Calls.{fails_reading_then}
use Rattle.set_reader.specs.Calls.{CallsAtMost, FailsLast, ReadsUntil}

-- how many calls were made
pub no_calls : (n : ℕ) (bay : BayState) → CallsAtMost n bay bay
no_calls n bay = record { calls = omega arith; reads = omega arith }

pub calls_sum : (a b : ℕ) (old mid new : BayState) → CallsAtMost a old mid → CallsAtMost b mid new → CallsAtMost (a + b) old new
calls_sum a b old mid new first then = record {
  calls = let x = first.calls in let y = then.calls in omega (arith, x, y);
  reads = let x = first.reads in let y = then.reads in omega (arith, x, y);
}

pub calls_more : (a b : ℕ) (old new : BayState) → a ≤ b → CallsAtMost a old new → CallsAtMost b old new
calls_more a b old new more few = record {
  calls = let x = few.calls in omega (arith, x, more);
  reads = let x = few.reads in omega (arith, x, more);
}

pub until_none : (bay : BayState) → ReadsUntil 0 None bay bay
until_none bay = record { bay = reads_nothing bay _; rose = tt; over = tt; last = tt; few = no_calls 0 bay }

no_device : (d : ℕ) → None ≡ Some d → ⊥
no_device d e = cc

rose_then : (old mid new : BayState) (failed : Option ℕ) → ((d : ℕ) → old.faults d ≤ mid.faults d) → IfSome failed (λ d. Rose (mid.faults d) (new.faults d)) → IfSome failed (λ d. Rose (old.faults d) (new.faults d))
rose_then old mid new None no_fewer rose = tt
rose_then old mid new (Some d) no_fewer rose = λ below. let before = no_fewer d in let r = rose below in omega (arith, before, r)

over_then : (a : ℕ) (old mid new : BayState) (failed : Option ℕ) → ReadsUntil a None old mid → IfSome failed (λ d. FailsReading d mid new) → IfSome failed (λ d. FailsReading d old new)
over_then a old mid new None first over = tt
over_then a old mid new (Some d) first over = fails_reading_then d old mid new _ first.bay over

-- the call that failed is the last one
pub fails_last : {T E : Type 0} (call : Call) (old new : BayState) (r : Result T E) → IsErr r → Makes call old new r → FailsLast (device_of call) old new
fails_last call old new (Ok x) failed makes = cc
fails_last call old new (Err e) failed makes =
    let later = makes.later in
    record {
      moment = old.moment;
      since = omega arith;
      before = makes.no_earlier;
      failed = makes.failure.told;
      last = omega (arith, later);
      alone = λ d m is. elim (makes.failure.only d m is) [
        | inl before ↦ inl before
        | inr by ↦ inr (let since = by.2 in omega (arith, later, since))
      ];
    }

last_then : (a : ℕ) (old mid new : BayState) (failed : Option ℕ) → ReadsUntil a None old mid → IfSome failed (λ d. FailsLast d mid new) → IfSome failed (λ d. FailsLast d old new)
last_then a old mid new None first last = tt
last_then a old mid new (Some d) first last = record {
  moment = last.moment;
  since = let before = first.bay.goes_on.later in let s = last.since in omega (arith, before, s);
  before = last.before;
  failed = last.failed;
  last = last.last;
  alone = λ e m is. elim (last.alone e m is) [
    | inl before ↦ inl (elim (first.bay.goes_on.failed e m before) [
      | inl long ↦ long
      | inr since ↦ absurd (no_device e since.1)
    ])
    | inr behind ↦ inr behind
  ];
}

pub until_then : (a b : ℕ) (old mid new : BayState) (failed : Option ℕ) → ReadsUntil a None old mid → ReadsUntil b failed mid new → ReadsUntil (a + b) failed old new
until_then a b old mid new failed first then = record {
  bay = reads_join old mid new _ (reads_weaker old mid _ _ (λ d m since none. absurd (no_device d none)) first.bay) then.bay;
  rose = rose_then old mid new failed first.bay.goes_on.no_fewer then.rose;
  over = over_then a old mid new failed first then.over;
  last = last_then a old mid new failed first then.last;
  few = calls_sum a b old mid new first.few then.few;
}

-- and no more than so many
pub until_more : (a b : ℕ) (old new : BayState) (failed : Option ℕ) → a ≤ b → ReadsUntil a failed old new → ReadsUntil b failed old new
until_more a b old new failed more reads = record { bay = reads.bay; rose = reads.rose; over = reads.over; last = reads.last; few = calls_more a b old new more reads.few }
