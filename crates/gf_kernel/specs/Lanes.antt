-- What a vector of bytes holds, lane by lane.
use Rattle.std.specs.Prelude.{◌≡◌, ℕ, ◌/◌, ◌%◌, ◌<◌, List, length, slice_index, bit_xor}

-- v has that many lanes, and lane k holds f k
pub record HasLanes (width : ℕ) (v : List ℕ) (f : ℕ → ℕ) : Type 0 where
  pub long : length v ≡ width
  pub each : (k : ℕ) → k < width → slice_index v k ≡ f k

-- the sum of what stands in one table at the lower half of a byte, and in another at its upper half
abbrev pub looked_up : List ℕ → List ℕ → ℕ → ℕ
looked_up lower upper b = bit_xor (slice_index lower (b % 16)) (slice_index upper (b / 16))
