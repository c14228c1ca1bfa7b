-- Pieces of bytes.
use Rattle.std.proofs.Common.{◌≡◌, ℕ, suc, ◌+◌, ◌-◌, ◌*◌, ◌<◌, ◌≤◌, List, [], ◌++◌, length, get_or, take, drop, sym, ap, ◌∙◌, arith, subst, inl, inr}
use Rattle.std.proofs.Math.Nat.{mul-le-mul_right}
use Rattle.std.proofs.lemmas.Bool.{cases_lt}
use Rattle.std.proofs.lemmas.List.{take-take, take_all, drop-take, drop-drop, drop_at, take_at, length-take-le, ext_get_or}
use Rattle.std.proofs.lemmas.List.FromFn.{length-range_with_len, get_or-range_with_len, length-map-range_with_len, get_or-map-range_with_len}
use Rattle.std.proofs.lemmas.Slice.{take-put_mid_below}
use borrow.Rule.Slice.PartMut.{put_mid, post_of}
use Rattle.gf_field.specs.Field.{IsByte}
use Rattle.rs_code.specs.Fragments.{piece, fragment_at, IsCode, GivesFragment, sources}
use Rattle.rs_code.specs.Coded.{pieces}
use Rattle.rs_code.proofs.Codes.{code_through}
use Rattle.rs_code.proofs.Sources.{sources_are_indexes}

pub piece_within : (n f i : ℕ) → i < n → i * f + f ≤ n * f
piece_within n f i h = let fits = mul-le-mul_right f (let s : suc i ≤ n = omega arith in s) in omega arith

-- bytes with the same beginning have the same pieces in it
pub same_piece : (xs ys : List ℕ) (n f i : ℕ) → take n xs ≡ take n ys → i * f + f ≤ n → piece xs f i ≡ piece ys f i
same_piece xs ys n f i e h =
    let m = i * f + f in
    sym (drop-take (i * f) f xs)
    ∙ ap (drop (i * f)) (sym (take-take m n xs h) ∙ ap (take m) e ∙ take-take m n ys h)
    ∙ drop-take (i * f) f ys

pub piece_behind : (k f j : ℕ) (xs ys : List ℕ) → length xs ≡ k * f → piece (xs ++ ys) f (k + j) ≡ piece ys f j
piece_behind k f j xs ys l =
    let e : (k + j) * f ≡ k * f + j * f = omega arith in
    ap (λ n. take f (drop n (xs ++ ys))) e
    ∙ ap (take f) (sym (drop-drop (j * f) (k * f) (xs ++ ys)) ∙ ap (drop (j * f)) (drop_at xs ys (k * f) l))

pub first_of_two : (f : ℕ) (xs ys : List ℕ) → length xs ≡ f → piece (xs ++ ys) f 0 ≡ xs
first_of_two f xs ys l = ap (λ n. take f (drop n (xs ++ ys))) (let z : 0 * f ≡ 0 = omega arith in z) ∙ take_at xs ys f l

pub second_of_two : (f : ℕ) (xs ys : List ℕ) → length xs ≡ f → length ys ≡ f → piece (xs ++ ys) f 1 ≡ ys
second_of_two f xs ys l m =
    piece_behind 1 f 0 xs ys (let one : length xs ≡ 1 * f = omega arith in one)
    ∙ ap (λ n. take f (drop n ys)) (let z : 0 * f ≡ 0 = omega arith in z)
    ∙ take_all f ys (omega arith)

-- the only piece
pub piece_whole : (f : ℕ) (xs : List ℕ) → length xs ≡ f → piece xs f 0 ≡ xs
piece_whole f xs l = ap (λ n. take f (drop n xs)) (let z : 0 * f ≡ 0 = omega arith in z) ∙ take_all f xs (omega arith)

-- ---- after pieces are written
piece_kept : (f i j size : ℕ) (xs ys : List ℕ) → i < j → j * f ≤ length xs → piece (put_mid (j * f) size xs ys) f i ≡ piece xs f i
piece_kept f i j size xs ys h within =
    same_piece (put_mid (j * f) size xs ys) xs (j * f) f i (take-put_mid_below (j * f) size xs ys (j * f) (omega arith) within) (piece_within j f i h)

piece_inside : (f j i n size : ℕ) (xs ys : List ℕ) → j * f ≤ length xs → length ys ≡ n * f → i < n → piece (put_mid (j * f) size xs ys) f (j + i) ≡ piece ys f i
piece_inside f j i n size xs ys h l within =
    let behind = ys ++ post_of (j * f) size xs in
    piece_behind j f i (take (j * f) xs) behind (length-take-le (j * f) xs h)
    ∙ same_piece behind ys (n * f) f i (take_at ys (post_of (j * f) size xs) (n * f) l ∙ sym (take_all (n * f) ys (omega arith))) (piece_within n f i within)

-- what holds of the pieces in front, and of those that are written behind them, holds of all
pub pieces_more : (P : ℕ → List ℕ → Type 0) (f j n size : ℕ) (xs ys : List ℕ) → j * f ≤ length xs → length ys ≡ n * f
    → ((i : ℕ) → i < j → P i (piece xs f i)) → ((i : ℕ) → i < n → P (j + i) (piece ys f i))
    → (i : ℕ) → i < j + n → P i (piece (put_mid (j * f) size xs ys) f i)
pieces_more P f j n size xs ys starts l front behind i h =
    let new = put_mid (j * f) size xs ys in
    elim (cases_lt i j) as (λ _. P i (piece new f i)) [
      | inl before ↦ subst (P i) (sym (piece_kept f i j size xs ys before starts)) (front i before)
      | inr from ↦
          let within : i - j < n = omega arith in
          subst (λ m. P m (piece new f m)) (let e : j + (i - j) ≡ i = omega arith in e)
          (subst (P (j + (i - j))) (sym (piece_inside f j (i - j) n size xs ys starts l within)) (behind (i - j) within))
    ]

pub pieces_at : (n f : ℕ) (bytes : List ℕ) (i : ℕ) → i < n → fragment_at (pieces n f bytes) i ≡ piece bytes f i
pieces_at n f bytes i h = get_or-map-range_with_len (piece bytes f) 0 n i i [] h (omega arith)

-- The pieces are a code where those at the front are of the source fragments, and those behind them are what any code that begins with these has there.
pub pieces_are_code : (k p f : ℕ) (bytes rows parity : List ℕ) → k + p ≤ 256 → ((i : ℕ) → IsByte (get_or rows i 0)) → length rows ≡ k * f → length parity ≡ p * f
    → bytes ≡ rows ++ parity
    → ((j : ℕ) → j < p → GivesFragment k (k + p) f (sources k) rows (k + j) (piece parity f j))
    → IsCode k (k + p) f (pieces (k + p) f bytes)
pieces_are_code k p f bytes rows parity small hb ls lp e behind =
    let n = k + p in
    let through = code_through k n f (sources k) rows small (sources_are_indexes k n (omega arith)) hb ls in
    let all = through.0 in
    let code = through.1 in
    let held = through.2 in
    let count = length-range_with_len 0 k in
    let same : pieces n f bytes ≡ all =
    ext_get_or [] (pieces n f bytes) all (length-map-range_with_len (piece bytes f) 0 n ∙ sym code.count)
    (λ i h.
    let total = length-map-range_with_len (piece bytes f) 0 n in
    let lt : i < n = omega arith in
    pieces_at n f bytes i lt ∙ ap (λ b. piece b f i) e
    ∙ elim (cases_lt i k) as (λ _. piece (rows ++ parity) f i ≡ fragment_at all i) [
      | inl before ↦
          same_piece (rows ++ parity) rows (k * f) f i (take_at rows parity (k * f) ls ∙ sym (take_all (k * f) rows (omega arith))) (piece_within k f i before)
          ∙ held i (omega arith)
          ∙ ap (fragment_at all) (get_or-range_with_len 0 k i 0 before ∙ (let z : 0 + i ≡ i = omega arith in z))
      | inr back ↦
          let place : k + (i - k) ≡ i = omega arith in
          ap (piece (rows ++ parity) f) (sym place)
          ∙ piece_behind k f (i - k) rows parity ls ∙ behind (i - k) (omega arith) all code held ∙ ap (fragment_at all) place
    ])
    in
    subst (IsCode k n f) (sym same) code
