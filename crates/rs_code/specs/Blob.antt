-- What bytes cut into coded parts are.
use Rattle.std.specs.Prelude.{◌≡◌, ℕ, ◌*◌, ◌<◌, ◌≤◌, List, [], ◌∷◌, length, All}
use Rattle.std.specs.List.{flat_map}
use Rattle.rs_code.specs.Coded.{CodedPayload}

-- bytes that are cut into parts of k shards, to each of which p shards of parity are made
pub record CutBytes : Type 0 where
  pub bytes : List ℕ
  pub k : ℕ
  pub p : ℕ
  pub shard : ℕ

-- the payloads of parts, joined
abbrev pub joined : List CodedPayload → List ℕ
joined parts = flat_map (λ part. part.payload) parts

-- each part has that many bytes, except that the last may have fewer, though not none
abbrev pub AreWholeButLast : ℕ → List CodedPayload → Type 0
AreWholeButLast size [] = Unit {0}
AreWholeButLast size (part ∷ []) = (0 < length part.payload) × (length part.payload ≤ size)
AreWholeButLast size (part ∷ (next ∷ parts)) = (length part.payload ≡ size) × AreWholeButLast size (next ∷ parts)

-- the parts of bytes that are cut at each multiple of that size
pub record AreParts (k p size : ℕ) (bytes : List ℕ) (parts : List CodedPayload) : Type 0 where
  pub all_bytes : joined parts ≡ bytes
  pub code : All (λ part. (part.k ≡ k) × (part.p ≡ p)) parts
  pub sizes : AreWholeButLast size parts

-- What a blob keeps of its parts.
pub record KeepsParts (k p shard len : ℕ) (parts : List CodedPayload) : Type 0 where
  pub len_is : len ≡ length (joined parts)
  pub are : AreParts k p (k * shard) (joined parts) parts
