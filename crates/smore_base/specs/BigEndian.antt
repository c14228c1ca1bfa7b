-- Fields of records: numbers with the highest byte first, and where a field stands.
use Rattle.std.specs.Prelude.{◌≡◌, ℕ, ◌+◌, ◌^◌, ◌<◌, List, [], ◌∷◌, ◌++◌, length, take, drop, slice_index}
use Rattle.std.specs.Int.{Width, byte_len, to_be_bytes, from_be_bytes}

-- the bytes of a number in this width, the highest first
unfoldable pub big_endian : Width → ℕ → List ℕ
big_endian w n = to_be_bytes w n

-- the number that the bytes are in this width
unfoldable pub number_of : Width → List ℕ → ℕ
number_of w bytes = from_be_bytes w bytes

-- the number whose bytes stand from there on
abbrev pub number_at : Width → List ℕ → ℕ → ℕ
number_at w bytes at = number_of w (take (byte_len w) (drop at bytes))

-- each is a byte
abbrev pub AreBytes : List ℕ → Type 0
AreBytes bytes = (i : ℕ) → slice_index bytes i < 256

-- The text was written from `at` to `end`, and all else is as it was.
pub record IsWritten (at end : ℕ) (text old new : List ℕ) : Type 0 where
  pub prefix : take end new ≡ take at old ++ text
  pub rest : drop end new ≡ drop end old

-- the text stands from `at` to `end`
abbrev pub Stands : ℕ → ℕ → List ℕ → List ℕ → Type 0
Stands at end text bytes = take end bytes ≡ take at bytes ++ text

-- In this width numbers and their bytes belong to each other, one to one.
pub record IsExact (w : Width) : Type 0 where
  pub long : (n : ℕ) → length (big_endian w n) ≡ byte_len w
  -- what was written is read back
  pub read_back : (n : ℕ) → n < 256 ^ byte_len w → number_of w (big_endian w n) ≡ n
  -- what is read was written so
  pub so_written : (bytes : List ℕ) → AreBytes bytes → length bytes ≡ byte_len w → big_endian w (number_of w bytes) ≡ bytes
  pub within : (bytes : List ℕ) → AreBytes bytes → number_of w bytes < 256 ^ byte_len w

-- A row of fields: numbers in their widths, one behind the other.
abbrev pub Fields : Type 0
Fields = List (Width × ℕ)

-- the bytes of a row of fields
abbrev pub spelled : Fields → List ℕ
spelled [] = []
spelled (f ∷ fs) = big_endian f.0 f.1 ++ spelled fs

-- the row of fields of these widths whose bytes stand from there on
abbrev pub fields_at : List Width → List ℕ → ℕ → Fields
fields_at [] bytes at = []
fields_at (w ∷ ws) bytes at = (w, number_at w bytes at) ∷ fields_at ws bytes (at + byte_len w)

-- how many bytes fields of these widths have
abbrev pub bytes_of : List Width → ℕ
bytes_of [] = 0
bytes_of (w ∷ ws) = byte_len w + bytes_of ws
