-- Calls on one device, one after another.
use Rattle.std.proofs.Common.{◌≡◌, ◌≢◌, ℕ, Result, Ok, Err, refl, ◌∙◌, arith}
use Rattle.std.specs.Result.{IsErr, IsErrAnd, OnOk, OnErr}
use Rattle.zone_bay.specs.Bay.{BayState, IsSound, Call, Written, Read, Flush, device_of, Makes}
use Rattle.zone_bay.specs.Stretch.{OnlyReads}
use Rattle.zone_bay.proofs.Calls.{call_goes, written_reads, read_reads, fails_reading, fails_reading_then, same_held}
use Rattle.zone_bay.proofs.Causes.{cause_later, cause_failed}
use Rattle.zone_bay.proofs.Stretch.{goes_nowhere, goes_join, goes_weaker, reads_nothing, reads_join, reads_weaker, no_fault}
use Rattle.zone_bay.specs.OneDevice.{CallsOn, ReadsOn}

-- ---- clauses of an answer

pub on_err : {T E P : Type 0} (r : Result T E) → (IsErr r → P) → OnErr r P
on_err (Ok x) p = tt
on_err (Err e) p = p refl

pub on_err_map : {T E P P' : Type 0} (r : Result T E) → (P → P') → OnErr r P → OnErr r P'
on_err_map (Ok x) f p = tt
on_err_map (Err e) f p = f p

pub on_ok_map : {T E P P' : Type 0} (r : Result T E) → (P → P') → OnOk r P → OnOk r P'
on_ok_map (Ok x) f p = f p
on_ok_map (Err e) f p = tt

-- ---- calls

-- no call
pub no_calls : {T E : Type 0} (device : ℕ) (x : T) (bay : BayState) → CallsOn {E = E} device bay bay (Ok x)
no_calls device x bay = record { goes_on = goes_nowhere bay _ _; cause = record { keeps = omega arith; ok = refl; err = tt } }

-- one call
pub call_on : {T E : Type 0} (call : Call) (old new : BayState) (r : Result T E) → IsSound old → Makes call old new r → CallsOn (device_of call) old new r
call_on call old new r sound makes = record { goes_on = goes_weaker old new _ _ _ _ (λ i image since left. tt) (λ d m since failed. failed) (call_goes call old new r sound makes); cause = makes.cause }

-- more calls, once those so far were answered
pub calls_join : {T E T' E' : Type 0} (device : ℕ) (x : T) (r : Result T' E') (old mid new : BayState) → CallsOn {E = E} device old mid (Ok x) → CallsOn device mid new r → CallsOn device old new r
calls_join {T = T} {E = E} device x r old mid new so_far more = record {
  goes_on = goes_join old mid new _ _ (goes_weaker old mid _ _ _ _ (λ i image since left. tt) (λ d m since failed. absurd (ok_fails failed.0)) so_far.goes_on) more.goes_on;
  cause = cause_later {E = E} x r _ _ _ so_far.cause more.cause;
}
  where
    ok_fails : IsErr {T = T} {E = E} (Ok x) → ⊥
    ok_fails h = cc

-- one call more
pub calls_go_on : {T E T' E' : Type 0} (call : Call) (x : T) (r : Result T' E') (old mid new : BayState) → IsSound mid → CallsOn {E = E} (device_of call) old mid (Ok x) → Makes call mid new r → CallsOn (device_of call) old new r
calls_go_on call x r old mid new sound so_far makes = calls_join (device_of call) x r old mid new so_far (call_on call mid new r sound makes)

-- the answer of a failed call, passed on
pub calls_failed : {T E T' E' : Type 0} (device : ℕ) (e : E) (r : Result T' E') (old new : BayState) → CallsOn {T = T} device old new (Err e) → (Q : E' → Type 0) → IsErrAnd r Q → CallsOn device old new r
calls_failed {T = T} device e r old new calls Q is = record {
  goes_on = goes_weaker old new _ _ _ _ (λ i image since left. tt) (λ d m since failed. (err_of Q r is, failed.1)) calls.goes_on;
  cause = cause_failed {T = T} e r _ _ calls.cause Q is;
}
  where
    err_of : {T E : Type 0} (Q : E → Type 0) (r : Result T E) → IsErrAnd r Q → IsErr r
    err_of Q (Ok x) is = absurd is
    err_of Q (Err e) is = refl

-- an answer that was made of another answered one
pub calls_answered : {T E T' E' : Type 0} (device : ℕ) (x : T) (y : T') (old new : BayState) → CallsOn {E = E} device old new (Ok x) → CallsOn {E = E'} device old new (Ok y)
calls_answered {T = T} {E = E} device x y old new calls = record {
  goes_on = goes_weaker old new _ _ _ _ (λ i image since left. tt) (λ d m since failed. absurd (ok_fails failed.0)) calls.goes_on;
  cause = record { keeps = calls.cause.keeps; ok = calls.cause.ok; err = tt };
}
  where
    ok_fails : IsErr {T = T} {E = E} (Ok x) → ⊥
    ok_fails h = cc

-- the other counts stay
pub others_stay : {T E : Type 0} (device d : ℕ) (old new : BayState) (r : Result T E) → CallsOn device old new r → d ≢ device → new.faults d ≡ old.faults d
others_stay device d old new r calls other = no_fault old new _ _ d calls.goes_on (λ m failed. other failed.1)

-- the contents stay where a call reads
pub written_keeps : {T E : Type 0} (device zone : ℕ) (old new : BayState) (r : Result T E) → IsSound old → Makes (Written device zone) old new r → new.contents ≡ old.contents
written_keeps device zone old new r sound makes = (written_reads device zone old new r sound makes).contents

pub read_keeps : {T E : Type 0} (device zone : ℕ) (old new : BayState) (r : Result T E) → IsSound old → Makes (Read device zone) old new r → new.contents ≡ old.contents
read_keeps device zone old new r sound makes = (read_reads device zone old new r sound makes).contents

pub flush_keeps : {T E : Type 0} (device : ℕ) (old new : BayState) (r : Result T E) → IsSound old → Makes (Flush device) old new r → new.contents ≡ old.contents
flush_keeps device old new (Ok x) sound makes = makes.done ∙ same_held old.contents
flush_keeps device old new (Err e) sound makes = makes.part.1 ∙ same_held old.contents

-- ---- calls that only read

reads_weaker_to : {T E T' E' : Type 0} (device : ℕ) (r : Result T E) (r' : Result T' E') (old new : BayState) → (IsErr r → IsErr r') → OnlyReads old new (λ d _. IsErr r × (d ≡ device)) → OnlyReads old new (λ d _. IsErr r' × (d ≡ device))
reads_weaker_to device r r' old new to only = reads_weaker old new _ _ (λ d m since failed. (to failed.0, failed.1)) only

ok_never_fails : (T E : Type 0) (x : T) → IsErr {T = T} {E = E} (Ok x) → ⊥
ok_never_fails T E x h = cc

-- no call
pub reads_none : {T E : Type 0} (device : ℕ) (x : T) (bay : BayState) → ReadsOn {E = E} device bay bay (Ok x)
reads_none device x bay = record { only = reads_nothing bay _; cause = record { keeps = omega arith; ok = refl; err = tt }; over = tt }

-- one that asks how much a zone holds
pub written_on : {T E : Type 0} (device zone : ℕ) (old new : BayState) (r : Result T E) → IsSound old → Makes (Written device zone) old new r → ReadsOn device old new r
written_on device zone old new r sound makes = record {
  only = written_reads device zone old new r sound makes;
  cause = makes.cause;
  over = on_err r (λ failed. fails_reading (Written device zone) old old new (λ _ _. Unit {0}) r sound (reads_nothing old _) failed makes);
}

-- one that reads
pub read_on : {T E : Type 0} (device zone : ℕ) (old new : BayState) (r : Result T E) → IsSound old → Makes (Read device zone) old new r → ReadsOn device old new r
read_on device zone old new r sound makes = record {
  only = read_reads device zone old new r sound makes;
  cause = makes.cause;
  over = on_err r (λ failed. fails_reading (Read device zone) old old new (λ _ _. Unit {0}) r sound (reads_nothing old _) failed makes);
}

-- more calls, once those so far were answered
pub reads_then : {T E T' E' : Type 0} (device : ℕ) (x : T) (r : Result T' E') (old mid new : BayState) → ReadsOn {E = E} device old mid (Ok x) → ReadsOn device mid new r → ReadsOn device old new r
reads_then {T = T} {E = E} device x r old mid new so_far more = record {
  only = reads_join old mid new _ (reads_weaker_to device (let ok : Result T E = Ok x in ok) r old mid (λ failed. absurd (ok_never_fails T E x failed)) so_far.only) more.only;
  cause = cause_later {E = E} x r _ _ _ so_far.cause more.cause;
  over = on_err_map r (fails_reading_then device old mid new _ so_far.only) more.over;
}

-- the answer of a failed call, passed on
pub reads_failed : {T E T' E' : Type 0} (device : ℕ) (e : E) (r : Result T' E') (old new : BayState) → ReadsOn {T = T} device old new (Err e) → (Q : E' → Type 0) → IsErrAnd r Q → ReadsOn device old new r
reads_failed {T = T} {E = E} device e r old new reads Q is = record {
  only = reads_weaker_to device (let failure : Result T E = Err e in failure) r old new (λ failed. err_of Q r is) reads.only;
  cause = cause_failed {T = T} e r _ _ reads.cause Q is;
  over = on_err r (λ failed. reads.over);
}
  where
    err_of : {T E : Type 0} (Q : E → Type 0) (r : Result T E) → IsErrAnd r Q → IsErr r
    err_of Q (Ok x) is = absurd is
    err_of Q (Err e) is = refl

-- an answer that was made of another answered one
pub reads_answered : {T E T' E' : Type 0} (device : ℕ) (x : T) (y : T') (old new : BayState) → ReadsOn {E = E} device old new (Ok x) → ReadsOn {E = E'} device old new (Ok y)
reads_answered {T = T} {E = E} {T' = T'} {E' = E'} device x y old new reads = record {
  only = reads_weaker_to device (let ok : Result T E = Ok x in ok) (let other : Result T' E' = Ok y in other) old new (λ failed. absurd (ok_never_fails T E x failed)) reads.only;
  cause = record { keeps = reads.cause.keeps; ok = reads.cause.ok; err = tt };
  over = tt;
}
