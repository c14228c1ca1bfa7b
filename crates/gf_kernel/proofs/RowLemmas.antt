-- A row, made from its beginning on.
use Rattle.std.proofs.Common.{◌≡◌, ℕ, ◌+◌, ◌-◌, ◌*◌, ◌/◌, ◌<◌, ◌≤◌, List, length, Bool, get_or, ap, ◌∙◌, arith, inl, inr}
use Rattle.std.proofs.lemmas.Bool.{cases_lt}
use Rattle.std.specs.Simd.Lanes.{put_chunk}
use Rattle.std.proofs.lemmas.Simd.{get_or-put_chunk_below, get_or-put_chunk_at, get_or-put_chunk_above, length-put_chunk}
use Rattle.gf_kernel.specs.Lanes.{HasLanes}
use Rattle.gf_kernel.specs.Rows.{kept, made_byte, IsMadeBelow}
use Rattle.gf_kernel.proofs.LaneLemmas.{HasLanes-same}
use Rattle.std.specs.Int.Bits.{bit_xor}

-- the lanes for a place of a row that is as it was from there on
same_lanes : (keep : Bool) (times : ℕ → ℕ) (old row src lanes : List ℕ) (at : ℕ) → IsMadeBelow at (made_byte keep times old src) old row
    → HasLanes 32 lanes (λ k. made_byte keep times row src (at + k)) → HasLanes 32 lanes (λ k. made_byte keep times old src (at + k))
same_lanes keep times old row src lanes at m h =
    HasLanes-same 32 lanes (λ k. made_byte keep times row src (at + k)) (λ k. made_byte keep times old src (at + k)) h
    (λ k l. ap (λ b. bit_xor (kept keep b) (times (get_or src (at + k) 0))) (m.same (at + k) (omega arith)))

-- the lanes that stand at a place
put_at : (at i : ℕ) (row lanes : List ℕ) → length lanes ≡ 32 → at + 32 ≤ length row → at ≤ i → i < at + 32
    → get_or (put_chunk at row lanes) i 0 ≡ get_or lanes (i - at) 0
put_at at i row lanes long fits from to =
    ap (λ j. get_or (put_chunk at row lanes) j 0) (let e : i ≡ at + (i - at) = omega arith in e)
    ∙ get_or-put_chunk_at at row lanes (i - at) 0 (omega arith) (omega arith)

-- a step makes 32 more bytes
pub made_more : (keep : Bool) (times : ℕ → ℕ) (old row src lanes : List ℕ) (step : ℕ)
    → IsMadeBelow (step * 32) (made_byte keep times old src) old row → HasLanes 32 lanes (λ k. made_byte keep times row src (step * 32 + k)) → step * 32 + 32 ≤ length row
    → IsMadeBelow ((step + 1) * 32) (made_byte keep times old src) old (put_chunk (step * 32) row lanes)
made_more keep times old row src lanes step m h fits =
    let at = step * 32 in
    let f = made_byte keep times old src in
    let here = same_lanes keep times old row src lanes at m h in
    let long = h.long in
    record {
      made = λ i l. elim (cases_lt i at) as (λ _. get_or (put_chunk at row lanes) i 0 ≡ f i) [
        | inl below ↦ get_or-put_chunk_below at row lanes i 0 below ∙ m.made i below
        | inr from ↦ put_at at i row lanes long fits (omega arith) (omega arith) ∙ here.each (i - at) (omega arith) ∙ ap f (omega arith)
      ];
      same = λ i l. get_or-put_chunk_above at row lanes i 0 (omega arith) ∙ m.same i (omega arith);
    }

-- the last 32 bytes, of which some may be made already, are written
pub made_whole : (step : ℕ) (f : ℕ → ℕ) (old row lanes : List ℕ) (size : ℕ) → IsMadeBelow (step * 32) f old row → HasLanes 32 lanes (λ k. f (size - 32 + k))
    → length row ≡ size → 32 ≤ size → size / 32 ≤ step
    → (i : ℕ) → i < length (put_chunk (size - 32) row lanes) → get_or (put_chunk (size - 32) row lanes) i 0 ≡ f i
made_whole step f old row lanes size m h same least ended i l =
    let at = size - 32 in
    let long = h.long in
    let lt : i < size = omega (arith, length-put_chunk at row lanes) in
    elim (cases_lt i at) as (λ _. get_or (put_chunk at row lanes) i 0 ≡ f i) [
      | inl below ↦ get_or-put_chunk_below at row lanes i 0 below ∙ m.made i (omega arith)
      | inr from ↦ put_at at i row lanes long (omega arith) (omega arith) (omega arith) ∙ h.each (i - at) (omega arith) ∙ ap f (omega arith)
    ]
