-- Blocks as they are read.
use Rattle.std.proofs.Common.{◌≡◌, ℕ, ◌+◌, ◌*◌, ◌<◌, ◌≤◌, Bool, cond, List, length, take, drop, replicate, Option, Some, None, sym, ap, ◌∙◌, arith}
use Rattle.std.specs.Prelude.{IfSome, IfNone, MatchOption, option_map}
use Rattle.std.proofs.lemmas.Bool.{le-leb, lt-leb}
use Rattle.zone_bay.specs.Contents.{Contents, Reads}
use Rattle.marker_format.specs.Zone.{block_at}
use Rattle.zone_parse.specs.Walk.{shown}

-- both outcomes in one
pub both_outcomes : {A : Type 0} (P : A → Type 0) (Q : Type 0) (o : Option A) → IfSome o P → IfNone o Q → MatchOption o Q P
both_outcomes P Q (Some x) some none = some
both_outcomes P Q None some none = none

pub shown_short : (bytes : List ℕ) (block : ℕ) → length bytes < 512 * (block + 1) → shown bytes block ≡ replicate 512 0
unfolding shown
shown_short bytes block short = ap (λ (b : Bool). cond b (block_at bytes block) (replicate 512 0)) (lt-leb (512 * (block + 1)) (length bytes) short)

pub shown_whole : (bytes : List ℕ) (block : ℕ) → 512 * (block + 1) ≤ length bytes → shown bytes block ≡ block_at bytes block
unfolding shown
shown_whole bytes block whole = ap (λ (b : Bool). cond b (block_at bytes block) (replicate 512 0)) (le-leb (512 * (block + 1)) (length bytes) whole)

-- zeros in place of a block that isn't there
pub shows_zeros : (contents : Option Contents) (d z written block : ℕ) (out : List ℕ) → IfSome (option_map (λ held. held d z) contents) (λ bytes. length bytes ≡ written) → written < 512 * (block + 1) → out ≡ replicate 512 0
    → IfSome (option_map (λ held. held d z) contents) (λ bytes. out ≡ shown bytes block)
shows_zeros None d z written block out is short zeros = tt
shows_zeros (Some held) d z written block out is short zeros = zeros ∙ sym (shown_short (held d z) block (omega (arith, is, short)))

-- a block that was read
pub shows_block : (contents : Option Contents) (d z written block at : ℕ) (out : List ℕ) → IfSome (option_map (λ held. held d z) contents) (λ bytes. length bytes ≡ written) → 512 * (block + 1) ≤ written
    → at ≡ 512 * block → length out ≡ 512 → IfSome contents (λ held. Reads (held d z) at out) → IfSome (option_map (λ held. held d z) contents) (λ bytes. out ≡ shown bytes block)
shows_block None d z written block at out is whole at-is len read = tt
shows_block (Some held) d z written block at out is whole at-is len read =
    read ∙ (λ i. take (len i) (drop (at-is i) (held d z))) ∙ sym (shown_whole (held d z) block (omega (arith, is, whole)))
