-- Bytes are put at the end of zone 2 of drive 0, and made firm.
use Rattle.std.proofs.Common.{ℕ, true, List, length, Result, Ok, Err, refl, sym, ap, ◌∙◌, arith}
use Rattle.std.specs.Prelude.{option_map}
use Rattle.std.specs.Result.{IsErr, IsErrAnd}
use Rattle.std.proofs.lemmas.List.{take_all}
use Rattle.smore_base.proofs.Told.{Told-same, Told-weaker}
use Rattle.zone_bay.specs.Contents.{Lengths, appended}
use Rattle.zone_bay.specs.Bay.{BayState, IsSound, Append, Flush, firm_after, held_in, Makes}
use Rattle.zone_bay.specs.Stretch.{GoesToward}
use Rattle.zone_bay.proofs.Extends.{extends_itself, append_extends}
use Rattle.zone_bay.proofs.Calls.{made_then}
use Rattle.zone_bay.proofs.Causes.{cause_later, cause_failed}
use Rattle.zone_bay.proofs.Toward.{toward_start, toward_call, fails_toward}
use Rattle.store_core.specs.DeviceCalls.{Appends}
use Rattle.zone_bay.proofs.OneDevice.{flush_keeps}

module _ (bytes : List ℕ) (old mid : BayState) (sound : IsSound old) where
  start : {Q : ℕ → ℕ → Type 0} → GoesToward (appended 0 2 bytes) old old Q
  start {Q} = toward_start (appended 0 2 bytes) old Q (λ held. append_extends 0 2 bytes held)

  appending : {T E : Type 0} (r : Result T E) → Makes (Append 0 2 bytes) old mid r → {Q : ℕ → ℕ → Type 0} → ((m : ℕ) → IsErr r → Q 0 m) → GoesToward (appended 0 2 bytes) old mid Q
  appending r makes {Q} fails = toward_call (Append 0 2 bytes) (appended 0 2 bytes) old old mid Q sound start r (Told-same old.contents _ (λ held. extends_itself (appended 0 2 bytes held))) makes fails

  -- the append failed
  pub append_failed : {T E T' E' : Type 0} (e : E) (r : Result T' E') → Makes {T = T} (Append 0 2 bytes) old mid (Err e) → (Q : E' → Type 0) → IsErrAnd r Q → Appends bytes old mid r
  append_failed {T = T} {E = E} e (Ok x) makes Q is = absurd is
  append_failed {T = T} {E = E} e (Err e') makes Q is =
      let failure : Result T E = Err e in
      record {
        done = tt;
        firm = tt;
        part = makes.part;
        toward = appending failure makes (λ m failed. (refl, refl));
        failed = fails_toward (Append 0 2 bytes) (appended 0 2 bytes) old old mid (λ d m. Unit {0}) sound start failure refl makes;
        cause = cause_failed {T = T} e (Err e') _ _ makes.cause Q is;
      }

  module _ {T E : Type 0} (x : T) (append : Makes {E = E} (Append 0 2 bytes) old mid (Ok x)) (sound' : IsSound mid) (new : BayState) where
    flushing : {T' E' : Type 0} (r : Result T' E') → Makes (Flush 0) mid new r → {Q : ℕ → ℕ → Type 0} → ((m : ℕ) → IsErr r → Q 0 m) → GoesToward (appended 0 2 bytes) old new Q
    flushing r flush {Q} fails = toward_call (Flush 0) (appended 0 2 bytes) old mid new Q sound' (appending (let ok : Result T E = Ok x in ok) append (λ m failed. cc)) r (Told-weaker old.contents mid.contents _ _ (appending (let ok : Result T E = Ok x in ok) append {Q = Q} (λ m failed. cc)).toward (λ held at way. tt)) flush fails

    -- the flush came behind it, and was answered or failed
    pub append_flushed : {T' E' : Type 0} (r : Result T' E') → Makes (Flush 0) mid new r → Appends bytes old new r
    append_flushed (Ok y) flush = record {
      done = made_then (appended 0 2 bytes) (λ h. h) _ _ _ append.done flush.done;
      firm = flush.firm ∙ ap (λ (f : Lengths). firm_after (Flush 0) true (held_in new) f) append.firm;
      part = tt;
      toward = flushing _ flush (λ m failed. absurd cc);
      failed = tt;
      cause = cause_later {E = E} x _ _ _ _ append.cause flush.cause;
    }
    append_flushed {T'} {E'} (Err e) flush =
        let failure : Result T' E' = Err e in
        record {
          done = tt;
          firm = tt;
          part = (length bytes, flush_keeps 0 mid new failure sound' flush ∙ append.done ∙ ap (λ (l : List ℕ). option_map (appended 0 2 l) old.contents) (sym (take_all (length bytes) bytes (omega arith))));
          toward = flushing failure flush (λ m failed. (refl, refl));
          failed = fails_toward (Flush 0) (appended 0 2 bytes) old mid new (λ d m. Unit {0}) sound' (appending (let ok : Result T E = Ok x in ok) append (λ m failed. tt)) failure refl flush;
          cause = cause_later {E = E} x failure _ _ _ append.cause flush.cause;
        }
