use Rattle.std.proofs.Common.{◌≡◌, ℕ, true, false, List, Result, refl, ap, ◌∙◌}
use Rattle.std.specs.Result.{is_err, IsErr}
use Rattle.smore_base.proofs.Told.{Told-same, Told-weaker}
use Rattle.zone_bay.specs.Bay.{BayState, IsSound, Append, Flush, firm_after, held_in, Makes}
use Rattle.zone_bay.specs.Contents.{Lengths, appended}
use Rattle.zone_bay.specs.Stretch.{GoesToward}
use Rattle.bay_tests.specs.Testing.{on_both}
use Rattle.zone_bay.proofs.Extends.{extends_itself, extends_then, append_extends}
use Rattle.zone_bay.proofs.Calls.{made_of, told_made, made_then, firm_then}
use Rattle.zone_bay.proofs.Toward.{toward_start, toward_call, fails_toward}
use Rattle.bay_tests.proofs.counts.append_both.Goals as goal

-- the calls, one after another
module _ (zone : ℕ) (bytes : List ℕ) (Q : ℕ → ℕ → Type 0) (old : BayState) where
  none : GoesToward (on_both zone bytes) old old Q
  none = toward_start (on_both zone bytes) old Q (λ held. extends_then held _ _ (append_extends 0 zone bytes held) (append_extends 1 zone bytes _))

  module _ {T E : Type 0} (sound : IsSound old) (first : BayState) (r : Result T E) (append : Makes (Append 0 zone bytes) old first r) where
    one : ((m : ℕ) → IsErr r → Q 0 m) → GoesToward (on_both zone bytes) old first Q
    one = toward_call (Append 0 zone bytes) (on_both zone bytes) old old first Q sound none r (Told-same old.contents _ (λ held. append_extends 1 zone bytes _)) append

    module _ {U D : Type 0} (answered : is_err r ≡ false) (sound' : IsSound first) (second : BayState) (r' : Result U D) (append' : Makes (Append 1 zone bytes) first second r') where
      two : ((m : ℕ) → IsErr r' → Q 1 m) → GoesToward (on_both zone bytes) old second Q
      two = toward_call (Append 1 zone bytes) (on_both zone bytes) old first second Q sound' (one (λ m is. cc)) r' (told_made _ old.contents first.contents _ (made_of _ old first r answered append) (λ held. extends_itself _)) append'

      three : {V C : Type 0} → is_err r' ≡ false → IsSound second → (new : BayState) (r'' : Result V C) → Makes (Flush 0) second new r'' → ((m : ℕ) → IsErr r'' → Q 0 m) → GoesToward (on_both zone bytes) old new Q
      three answered' sound'' new r'' flush = toward_call (Flush 0) (on_both zone bytes) old second new Q sound'' (two (λ m is. cc)) r'' (Told-weaker old.contents second.contents _ _ (two (λ m is. cc)).toward (λ held at way. tt)) flush

pub returns-then-is_err-clause-goes_toward : goal.returns-then-is_err-clause-goes_toward
returns-then-is_err-clause-goes_toward g c = one _ _ _ _ (g.met.B.Bay.sound c.args.bay.now) _ _ c.append.ensures.call (λ m is. refl)

pub returns-then-is_err-2-clause-goes_toward : goal.returns-then-is_err-2-clause-goes_toward
returns-then-is_err-2-clause-goes_toward g c = two _ _ _ _ (g.met.B.Bay.sound c.args.bay.now) _ _ c.append.ensures.call (cc) (g.met.B.Bay.sound c.append.new.self) _ _ c.append-2.ensures.call (λ m is. refl)

pub returns-then-is_err-3-clause-goes_toward : goal.returns-then-is_err-3-clause-goes_toward
returns-then-is_err-3-clause-goes_toward g c = three _ _ _ _ (g.met.B.Bay.sound c.args.bay.now) _ _ c.append.ensures.call (cc) (g.met.B.Bay.sound c.append.new.self) _ _ c.append-2.ensures.call (cc) (g.met.B.Bay.sound c.append-2.new.self) _ _ c.flush.ensures.call (λ m is. refl)

pub returns-clause-goes_toward : goal.returns-clause-goes_toward
returns-clause-goes_toward g c = three _ _ _ _ (g.met.B.Bay.sound c.args.bay.now) _ _ c.append.ensures.call (cc) (g.met.B.Bay.sound c.append.new.self) _ _ c.append-2.ensures.call (cc) (g.met.B.Bay.sound c.append-2.new.self) _ _ c.flush.ensures.call (λ m is. cc)

-- each failure came on the way
pub returns-then-is_err-clause-failed : goal.returns-then-is_err-clause-failed
returns-then-is_err-clause-failed g c = fails_toward (Append 0 _ _) _ _ _ _ _ (g.met.B.Bay.sound c.args.bay.now) (none c.args.zone c.args.bytes.now (λ d m. Unit {0}) (g.B.Bay.state c.args.bay.now)) _ (cc) c.append.ensures.call

pub returns-then-is_err-2-clause-failed : goal.returns-then-is_err-2-clause-failed
returns-then-is_err-2-clause-failed g c = fails_toward (Append 1 _ _) _ _ _ _ _ (g.met.B.Bay.sound c.append.new.self) (one c.args.zone c.args.bytes.now (λ d m. Unit {0}) _ (g.met.B.Bay.sound c.args.bay.now) _ _ c.append.ensures.call (λ m is. tt)) _ (cc) c.append-2.ensures.call

pub returns-then-is_err-3-clause-failed : goal.returns-then-is_err-3-clause-failed
returns-then-is_err-3-clause-failed g c = fails_toward (Flush 0) _ _ _ _ _ (g.met.B.Bay.sound c.append-2.new.self) (two c.args.zone c.args.bytes.now (λ d m. Unit {0}) _ (g.met.B.Bay.sound c.args.bay.now) _ _ c.append.ensures.call (cc) (g.met.B.Bay.sound c.append.new.self) _ _ c.append-2.ensures.call (λ m is. tt)) _ (cc) c.flush.ensures.call

-- all three answered
pub returns-clause-done : goal.returns-clause-done
returns-clause-done g c = made_then (on_both c.args.zone c.args.bytes.now) (λ h. h) _ _ _
    (made_then (appended 0 c.args.zone c.args.bytes.now) (appended 1 c.args.zone c.args.bytes.now) _ _ _
    (made_of (Append 0 c.args.zone c.args.bytes.now) _ _ _ (cc) c.append.ensures.call)
    (made_of (Append 1 c.args.zone c.args.bytes.now) _ _ _ (cc) c.append-2.ensures.call))
    (made_of (Flush 0) _ _ _ (cc) c.flush.ensures.call)

pub returns-clause-firm : goal.returns-clause-firm
returns-clause-firm g c = firm_then (Flush 0) _ _ _ (cc) c.flush.ensures.call ∙ ap (λ (f : Lengths). firm_after (Flush 0) true (held_in (g.B.Bay.state c.flush.new.self)) f)
    (firm_then (Append 1 c.args.zone c.args.bytes.now) _ _ _ (cc) c.append-2.ensures.call ∙ firm_then (Append 0 c.args.zone c.args.bytes.now) _ _ _ (cc) c.append.ensures.call)
