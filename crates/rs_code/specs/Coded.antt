-- What a payload with its fragments is, and how it is kept.
use Rattle.std.specs.Prelude.{◌≡◌, ℕ, ◌+◌, ◌*◌, ◌≤◌, List, length, map, take}
use Rattle.std.specs.List.{range_with_len}
use Rattle.rs_code.specs.Fragments.{piece, fragment_len, AreFragments}

-- a payload that is made into k source fragments and p of parity
pub record CodedPayload : Type 0 where
  pub payload : List ℕ
  pub k : ℕ
  pub p : ℕ

-- the first n pieces of f bytes
abbrev pub pieces : ℕ → ℕ → List ℕ → List (List ℕ)
pieces n f bytes = map (piece bytes f) (range_with_len 0 n)

-- The bytes are the fragments of the payload that they begin with.
pub record KeepsFragments (k p payload_len f : ℕ) (bytes : List ℕ) : Type 0 where
  pub has_source : 1 ≤ k
  pub size : length bytes ≡ (k + p) * f
  pub payload_fits : payload_len ≤ length bytes
  pub pieces_of : f ≡ fragment_len k payload_len
  pub are : AreFragments k (k + p) (take payload_len bytes) (pieces (k + p) f bytes)
