-- What is seen of the streams that lie in memory.
use Rattle.std.specs.Prelude.{◌≡◌, ℕ, ◌<◌, ◌≤◌, List, [], length, drop, All, vec_len, slice_index_or}
use Rattle.std.specs.List.{flat_map}
use Rattle.std.specs.Global.{Vec}

-- the calls of a stream: how many were made, how many of them failed, and the numbers, from 1, of those that fail
pub record CallCount : Type 0 where
  pub made : ℕ
  pub faults : ℕ
  pub failing : List ℕ

-- no call was made, and none fails
abbrev pub no_calls : CallCount
no_calls = record { made = 0; faults = 0; failing = [] }

-- a source: the bytes that are left, and its calls
pub record SourceState : Type 0 where
  pub left : List ℕ
  pub calls : CallCount

-- a sink: the bytes that it holds, how many it takes at once, and its calls
pub record SinkState : Type 0 where
  pub held : List ℕ
  pub most : ℕ
  pub calls : CallCount

-- the bytes of the pieces, in order
abbrev pub joined : List (Vec ℕ) → List ℕ
joined pieces = flat_map (λ piece. piece.items) pieces

-- Where a source stands among its pieces: the pieces from `front` on are left, of the first of them the bytes from
-- `at` on.
abbrev pub left_of : List (Vec ℕ) → ℕ → ℕ → List ℕ
left_of pieces front at = drop at (joined (drop front pieces))

-- no piece is empty, and a byte of the front piece is left where a piece is left
pub record IsAmongPieces (pieces : List (Vec ℕ)) (front at : ℕ) : Type 0 where
  pub none_empty : All (λ piece. 0 < vec_len piece) pieces
  pub inside : (piece : Vec ℕ) → front < length pieces → at < length (slice_index_or pieces front piece).items
  pub begins : length pieces ≤ front → at ≡ 0
