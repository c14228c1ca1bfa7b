-- How the bytes of each format begin and end.
use Rattle.std.specs.Prelude.{◌≡◌, ℕ, List, length, take, All}

-- so many bytes, of which the first eight are the magic word
abbrev pub HasFrame : List ℕ → ℕ → List ℕ → Type 0
HasFrame magic n bytes = (length bytes ≡ n) × (take 8 bytes ≡ magic)

-- each byte is 0
abbrev pub AreZeros : List ℕ → Type 0
AreZeros bytes = All (λ byte. byte ≡ 0) bytes
