-- The calls of a bay that tells counts alone.
use Rattle.std.proofs.Common.{◌≡◌, ◌==◌, ℕ, Bool, true, false, cond, Result, Ok, Err, refl, inl, inr}
use Rattle.std.specs.Prelude.{[]}
use Rattle.zone_bay.specs.Contents.{Lengths}
use Rattle.zone_bay.specs.Bay.{Call, Written, Read, Append, Reset, Flush, Replace, device_of, firm_after, reads_after, Makes}
use Rattle.zone_bay.specs.Counts.{Counts, counts_alone, CountsCall}

-- nothing is firm of nothing
still_none : (call : Call) (answered : Bool) → ◌≡◌ {A = Lengths} (λ _ _. 0) (firm_after call answered (λ _ _. []) (λ _ _. 0))
still_none (Written device zone) answered = refl
still_none (Read device zone) answered = refl
still_none (Append device zone bytes) answered = refl
still_none (Reset device zone) answered = refl
still_none (Flush device) true = λ i d z. either (d == device) i
  where
    either : (here : Bool) → ◌≡◌ {A = ℕ} 0 (cond here 0 0)
    either true = refl
    either false = refl
still_none (Flush device) false = refl
still_none (Replace device) answered = refl

pub counts_call : {T E : Type 0} (call : Call) (old new : Counts) (r : Result T E) → CountsCall (device_of call) (counts_alone old) (counts_alone new) r → new.reads ≡ reads_after call (counts_alone old) → Makes call (counts_alone old) (counts_alone new) r
counts_call call old new (Ok x) counts reads = record {
  same_shape = counts.same_shape;
  later = counts.later;
  no_earlier = counts.no_earlier;
  in_time = counts.in_time;
  unchanged = λ at_last. (refl, refl);
  cause = counts.cause;
  others = counts.others;
  done = refl;
  part = tt;
  firm = still_none call true;
  reads = reads;
  time = record { keeps = λ i image is. is; in_call = λ image left. elim left [ inl is ↦ is | inr is ↦ is ]; only = λ i image is. inl is };
  failure = record { keeps = λ d m is. is; told = tt; only = λ d m is. inl tt };
}
counts_call call old new (Err e) counts reads = record {
  same_shape = counts.same_shape;
  later = counts.later;
  no_earlier = counts.no_earlier;
  in_time = counts.in_time;
  unchanged = λ at_last. (refl, refl);
  cause = counts.cause;
  others = counts.others;
  done = tt;
  part = (0, refl);
  firm = still_none call false;
  reads = reads;
  time = record { keeps = λ i image is. is; in_call = tt; only = λ i image is. inl is };
  failure = record { keeps = λ d m is. is; told = tt; only = λ d m is. inl tt };
}
