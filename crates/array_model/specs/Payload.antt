-- The payload of a record, from k of its fragments. The bytes of the fragments in each column are the values of one polynomial
-- of degree below k at the points that are their indexes, and the first k fragments are the payload, padded with zeros.
use Rattle.std.specs.Prelude.{◌≡◌, ◌*◌, ◌-◌, ◌<◌, ◌++◌, replicate, slice_index_or, ℕ, zero, suc, ◌==◌, List, [], ◌∷◌, length, map, take, slice_index, bit_xor, nat_eq, if◌then◌else◌}
use Rattle.std.specs.List.{AllByRecursion, IsDistinct, concat, flat_map, range_with_len}
use Rattle.std.specs.Int.{div_ceil}
use Rattle.gf_field.specs.Product.{product}
use Rattle.gf_field.specs.Polynomial.{IsCodeword}

-- a to the power n, in the field of bytes
unfoldable pub power : ℕ → ℕ → ℕ
power a zero = 1
power a (suc n) = product a (power a n)

-- The inverse of a byte other than 0: its power 255 is 1.
abbrev pub inverse : ℕ → ℕ
inverse a = power a 254

-- what values have left beside the one at this point: the value less that one, over the point less this one
abbrev pub beside : ℕ → (ℕ → ℕ) → ℕ → ℕ
beside first value point = product (bit_xor (value point) (value first)) (inverse (bit_xor point first))

-- The value at x of the polynomial of degree below the number of these points that has these values at them. It is the value
-- at the first point, and x less that point times what the polynomial through the others' values beside it has at x.
abbrev pub interpolated : List ℕ → (ℕ → ℕ) → ℕ → ℕ
interpolated [] value x = 0
interpolated (first ∷ points) value x = bit_xor (value first) (product (bit_xor x first) (interpolated points (beside first value) x))

-- a fragment of this index
pub record Fragment : Type 0 where
  pub index : ℕ
  pub bytes : List ℕ

-- the indexes of fragments
abbrev pub indexes_of : List Fragment → List ℕ
indexes_of given = map (λ fragment. fragment.index) given

-- byte c of the given fragment of an index
abbrev pub byte_of : List Fragment → ℕ → ℕ → ℕ
byte_of [] c index = 0
byte_of (fragment ∷ given) c index = if fragment.index == index then slice_index fragment.bytes c else byte_of given c index

-- the fragment of an index, of so many bytes, from the given ones
abbrev pub fragment_from : List Fragment → ℕ → ℕ → List ℕ
fragment_from given bytes index = map (λ c. interpolated (indexes_of given) (byte_of given c) index) (range_with_len 0 bytes)

-- the payload of so many bytes, from k given fragments
unfoldable pub payload_from : ℕ → List Fragment → ℕ → List ℕ
payload_from k given bytes = take bytes (flat_map (fragment_from given (div_ceil bytes k)) (range_with_len 0 k))

-- ---- codes

-- the fragment of this index
abbrev pub fragment_of : List (List ℕ) → ℕ → List ℕ
fragment_of fragments index = slice_index_or fragments index []

-- n lists of so many bytes of which each column is a codeword
pub record IsCode (k n bytes : ℕ) (fragments : List (List ℕ)) : Type 0 where
  pub count : length fragments ≡ n
  pub lengths : (i : ℕ) → i < n → length (fragment_of fragments i) ≡ bytes
  pub columns : (c : ℕ) → c < bytes → IsCodeword k n (map (λ fragment. slice_index fragment c) fragments)

-- The n fragments of a payload: a code of the least length, of which the first k are the payload with zeros behind it.
pub record AreFragments (k n : ℕ) (payload : List ℕ) (fragments : List (List ℕ)) : Type 0 where
  pub code : IsCode k n (div_ceil (length payload) k) fragments
  pub source : concat (take k fragments) ≡ payload ++ replicate (k * div_ceil (length payload) k - length payload) 0

-- k distinct ones of a code's n fragments
pub record AreSome (k n : ℕ) (fragments : List (List ℕ)) (given : List Fragment) : Type 0 where
  pub count : length given ≡ k
  pub distinct : IsDistinct nat_eq (indexes_of given)
  pub each : AllByRecursion (λ fragment. (fragment.index < n) × (fragment.bytes ≡ fragment_of fragments fragment.index)) given
