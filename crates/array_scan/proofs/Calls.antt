-- Calls that only read, one after another, and what is told of what a bay holds.
use Rattle.std.proofs.Common.{◌≡◌, ℕ, Option, Some, None, Result, Ok, Err, IfSome, IfOk, refl, sym, ap, ◌∙◌, subst, arith}
use Rattle.std.specs.Result.{IsErr, IsErrAnd}
use Rattle.std.proofs.lemmas.Result.{err_from_is_err_and}
use Rattle.zone_bay.specs.Outside.{Rose, HasCause}
use Rattle.zone_bay.specs.Bay.{BayState, IsSound, Read, Makes}
use Rattle.zone_bay.specs.Stretch.{OnlyReads, FailsReading}
use Rattle.zone_bay.proofs.Stretch.{reads_nothing, reads_join, reads_weaker}
use Rattle.zone_bay.proofs.Calls.{read_reads, fails_reading, fails_reading_then}
use Rattle.array_scan.specs.declared.refusal.ScanRefusal.{ScanRefusal}
use Rattle.array_scan.specs.declared.refusal.ScanRefusal.TheVariants.{Memory, Lost}
use Rattle.array_scan.specs.Calls.{OnlyRead, lost_by}

-- ---- what is told

-- what follows of each answer
pub ok_with : {T E : Type 0} (r : Result T E) (P Q : T → Type 0) → ((x : T) → P x → Q x) → IfOk r P → IfOk r Q
ok_with (Ok x) P Q follows is = follows x is
ok_with (Err e) P Q follows is = tt

pub told_at : {B : Type 0} (o : Option B) (P : B → Type 0) (x : B) → o ≡ Some x → IfSome o P → P x
told_at {B} o P x is h = subst (λ (o : Option B). IfSome o P) is h

pub told_from : {B : Type 0} (o : Option B) (P : B → Type 0) → ((x : B) → o ≡ Some x → P x) → IfSome o P
told_from None P each = tt
told_from (Some x) P each = each x refl

-- ---- calls

pub read_nothing : (bay : BayState) → OnlyRead bay bay None
read_nothing bay = record { only = reads_nothing bay _; rose = tt; over = tt }

rose_then : (old mid new : BayState) (f : Option ℕ) → OnlyRead old mid None → IfSome f (λ d. Rose (mid.faults d) (new.faults d)) → IfSome f (λ d. Rose (old.faults d) (new.faults d))
rose_then old mid new None first rose = tt
rose_then old mid new (Some d) first rose = λ below. let before = first.only.goes_on.no_fewer d in omega (arith, rose)

over_then : (old mid new : BayState) (f : Option ℕ) → OnlyRead old mid None → IfSome f (λ d. FailsReading d mid new) → IfSome f (λ d. FailsReading d old new)
over_then old mid new None first over = tt
over_then old mid new (Some d) first over = fails_reading_then d old mid new _ first.only over

pub read_then : (old mid new : BayState) (f : Option ℕ) → OnlyRead old mid None → OnlyRead mid new f → OnlyRead old new f
read_then old mid new f first then = record {
  only = reads_join old mid new _ (reads_weaker old mid _ _ (λ d m since none. absurd cc) first.only) then.only;
  rose = rose_then old mid new f first then.rose;
  over = over_then old mid new f first then.over;
}

-- a reader's calls, answered or failed
pub read_answered : {T : Type 0} (E : Type 0) (x : T) (device : ℕ) (old new : BayState) → OnlyReads old new (λ d _. IsErr {T = T} {E = E} (Ok x) × (d ≡ device)) → OnlyRead old new None
read_answered {T} E x device old new only = record { only = reads_weaker old new _ _ (λ d m since q. absurd (none q.0)) only; rose = tt; over = tt }
  where
    none : IsErr {T = T} {E = E} (Ok x) → ⊥
    none e = cc

pub read_failed : (T : Type 0) {E : Type 0} (e : E) (device : ℕ) (old new : BayState) → OnlyReads old new (λ d _. IsErr {T = T} {E = E} (Err e) × (d ≡ device)) → HasCause {T = T} {E = E} (Err e) (old.faults device) (new.faults device) → FailsReading device old new → OnlyRead old new (Some device)
read_failed T e device old new only cause over = record { only = reads_weaker old new _ _ (λ d m since q. ap Some (sym q.1)) only; rose = cause.err; over = over }

-- what is held stays told
pub same_held : (old new : BayState) (f : Option ℕ) → OnlyRead old new f → new.contents ≡ old.contents
same_held old new f read = read.only.contents

-- one read
pub read_call_failed : (T E : Type 0) (device zone : ℕ) (old new : BayState) (e : E) → IsSound old → Makes {T = T} (Read device zone) old new (Err e) → OnlyRead old new (Some device)
read_call_failed T E device zone old new e sound makes =
    read_failed T e device old new (read_reads device zone old new (Err e) sound makes) makes.cause (fails_reading {T = T} {E = E} (Read device zone) old old new (λ _ _. ⊥) (Err e) sound (reads_nothing old _) refl makes)

pub read_call_answered : {T : Type 0} (E : Type 0) (device zone : ℕ) (old new : BayState) (x : T) → IsSound old → Makes {E = E} (Read device zone) old new (Ok x) → OnlyRead old new None
read_call_answered E device zone old new x sound makes = read_answered E x device old new (read_reads device zone old new (Ok x) sound makes)

-- a failure that is handed on
pub failed_as : (T : Type 0) {U : Type 0} (old new : BayState) (e : ScanRefusal) (r : Result U ScanRefusal) → IsErrAnd r (λ y. y ≡ e) → OnlyRead old new (lost_by {T = T} (Err e)) → OnlyRead old new (lost_by r)
failed_as T {U} old new e r is read =
    let lost = err_from_is_err_and r is in
    let same : lost_by {T = T} (Err e) ≡ lost_by r = told e ∙ ap (λ (y : ScanRefusal). lost_by {T = U} (Err y)) (sym lost.2) ∙ ap (λ (r : Result U ScanRefusal). lost_by r) (sym lost.1) in
    subst (λ (o : Option ℕ). OnlyRead old new o) same read
  where
    told : (e : ScanRefusal) → lost_by {T = T} (Err e) ≡ lost_by {T = U} (Err e)
    told Memory = refl
    told (Lost d) = refl

-- the failure of a call is the answer
pub failed_call : {T U : Type 0} (old new : BayState) (called : Result T ScanRefusal) (e : ScanRefusal) (r : Result U ScanRefusal) → called ≡ Err e → IsErrAnd r (λ y. y ≡ e) → OnlyRead old new (lost_by called) → OnlyRead old new (lost_by r)
failed_call {T} old new called e r was is read = failed_as T old new e r is (subst (λ (c : Result T ScanRefusal). OnlyRead old new (lost_by c)) was read)
