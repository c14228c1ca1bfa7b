-- What the fragments of bytes are, by codewords alone.
use Rattle.std.specs.Prelude.{◌≡◌, ℕ, ◌-◌, ◌*◌, ◌<◌, ◌≤◌, List, [], ◌++◌, length, map, take, drop, replicate, slice_index, slice_index_or, nat_eq}
use Rattle.std.specs.List.{IsDistinct, range_with_len, All}
use Rattle.std.specs.Int.{div_ceil}
use Rattle.gf_field.specs.Field.{AreBytes}
use Rattle.gf_field.specs.Polynomial.{IsCodeword}

-- piece i of bytes that are cut into pieces of f
abbrev pub piece : List ℕ → ℕ → ℕ → List ℕ
piece bytes f i = take f (drop (i * f) bytes)

-- the fragment of index i
abbrev pub fragment_at : List (List ℕ) → ℕ → List ℕ
fragment_at fragments i = slice_index_or fragments i []

-- byte c of each fragment, in order of index
abbrev pub column : List (List ℕ) → ℕ → List ℕ
column fragments c = map (λ fragment. slice_index fragment c) fragments

-- n fragments of f bytes are a code where each column is a codeword.
pub record IsCode (k n f : ℕ) (fragments : List (List ℕ)) : Type 0 where
  pub count : length fragments ≡ n
  pub lengths : (i : ℕ) → i < n → length (fragment_at fragments i) ≡ f
  pub columns : (c : ℕ) → c < f → IsCodeword k n (column fragments c)

-- the bytes, cut into pieces of f, are the fragments of these indexes, in this order
abbrev pub HoldsFragments : List (List ℕ) → ℕ → List ℕ → List ℕ → Type 0
HoldsFragments fragments f indexes bytes =
    (i : ℕ) → i < length indexes → piece bytes f i ≡ fragment_at fragments (slice_index indexes i)

-- some code has these fragments at these indexes
abbrev pub HasCode : ℕ → ℕ → ℕ → List ℕ → List ℕ → Type 0
HasCode k n f indexes bytes = (fragments : List (List ℕ)) × IsCode k n f fragments × HoldsFragments fragments f indexes bytes

-- in each code that has these fragments at these indexes, the wanted one is this
abbrev pub GivesFragment : ℕ → ℕ → ℕ → List ℕ → List ℕ → ℕ → List ℕ → Type 0
GivesFragment k n f indexes bytes want made =
    (fragments : List (List ℕ)) → IsCode k n f fragments → HoldsFragments fragments f indexes bytes → made ≡ fragment_at fragments want

-- the indexes of the source fragments, which are the first k
abbrev pub sources : ℕ → List ℕ
sources k = range_with_len 0 k

-- how many bytes each fragment of a payload of this length has: the least with which k hold it
abbrev pub fragment_len : ℕ → ℕ → ℕ
fragment_len k length = div_ceil length k

-- a payload and zeros after it, so that it is k pieces
abbrev pub padded : ℕ → List ℕ → List ℕ
padded k payload = payload ++ replicate (k * fragment_len k (length payload) - length payload) 0

-- the n fragments of a payload
abbrev pub AreFragments : ℕ → ℕ → List ℕ → List (List ℕ) → Type 0
AreFragments k n payload fragments =
    let f = fragment_len k (length payload) in
    IsCode k n f fragments × HoldsFragments fragments f (sources k) (padded k payload)

-- the bytes are a payload's fragment of this index
pub record IsFragment (k n : ℕ) (payload : List ℕ) (index : ℕ) (bytes : List ℕ) : Type 0 where
  pub fragments : List (List ℕ)
  pub of_payload : AreFragments k n payload fragments
  pub here : fragment_at fragments index ≡ bytes

-- k distinct indexes below n
pub record AreIndexes (k n : ℕ) (indexes : List ℕ) : Type 0 where
  pub count : length indexes ≡ k
  pub distinct : IsDistinct nat_eq indexes
  pub below : All (λ i. i < n) indexes

-- Two codes that have k fragments in common, whichever, are the same.
abbrev pub AnyFragmentsGiveAll : Type 0
AnyFragmentsGiveAll =
    (k n f : ℕ) (indexes : List ℕ) (one other : List (List ℕ)) → n ≤ 256 → AreIndexes k n indexes
    → IsCode k n f one → IsCode k n f other
    → ((i : ℕ) → i < k → fragment_at one (slice_index indexes i) ≡ fragment_at other (slice_index indexes i))
    → one ≡ other

-- A payload of bytes has fragments, and no others.
abbrev pub EachPayloadHasOneCode : Type 0
EachPayloadHasOneCode =
    (k n : ℕ) (payload : List ℕ) → 1 ≤ k → n ≤ 256 → k ≤ n → AreBytes payload
    → (fragments : List (List ℕ)) × AreFragments k n payload fragments
    × ((others : List (List ℕ)) → AreFragments k n payload others → others ≡ fragments)
