-- What the operations on vectors hold at each lane.
use Rattle.std.proofs.Common.{◌≡◌, ℕ, ◌+◌, ◌*◌, ◌/◌, ◌%◌, ◌<◌, List, length, get_or, replicate, refl, ap, ap₂, ◌∙◌, arith, w8}
use Rattle.std.specs.Simd.Lanes.{zip2}
use Rattle.std.proofs.lemmas.Simd.{length-zip2, get_or-zip2, get_or-replicate, length-replicate, length-swz_l, get_or-swz_l_below, swz_l, SwzOk, SwzOk-from_below, Each1-from_get_or}
use Rattle.gf_kernel.specs.Lanes.{HasLanes}

-- a splat
pub HasLanes-splat : (n x : ℕ) → HasLanes n (replicate n x) (λ k. x)
HasLanes-splat n x = record { long = length-replicate n x; each = λ k l. get_or-replicate n k x 0 l }

-- an operator on two vectors
pub HasLanes-zip2 : (n : ℕ) (op : ℕ → ℕ → ℕ) (a b : List ℕ) (f g : ℕ → ℕ) → HasLanes n a f → HasLanes n b g → HasLanes n (zip2 op a b) (λ k. op (f k) (g k))
HasLanes-zip2 n op a b f g p q =
    let la = p.long in
    let lb = q.long in
    record {
      long = length-zip2 op a b (omega arith) ∙ la;
      each = λ k l. get_or-zip2 op a b k 0 0 0 (omega arith) (omega arith) ∙ ap₂ op (p.each k l) (q.each k l);
    }

-- any vector of that length holds its lanes
pub HasLanes-own : (n : ℕ) (a : List ℕ) → length a ≡ n → HasLanes n a (λ k. get_or a k 0)
HasLanes-own n a l = record { long = l; each = λ k h. refl }

pub HasLanes-same : (n : ℕ) (a : List ℕ) (f g : ℕ → ℕ) → HasLanes n a f → ((k : ℕ) → k < n → f k ≡ g k) → HasLanes n a g
HasLanes-same n a f g h e = record { long = h.long; each = λ k l. h.each k l ∙ e k l }

module _ (js : List ℕ) (f : ℕ → ℕ) (h : HasLanes 32 js f) (small : (k : ℕ) → k < 32 → f k < 16) where
  -- positions below 16 may be looked up
  pub SwzOk-halves : SwzOk w8 16 32 0 js
  SwzOk-halves =
      let long = h.long in
      SwzOk-from_below w8 16 2 32 0 js refl (omega arith) (Each1-from_get_or (λ j. j < 16) js 0 (λ i l. omega (arith, h.each i (omega arith), small i (omega arith))))

  -- what a look-up gives, in a vector that holds the table twice
  pub HasLanes-look_up : (wide table : List ℕ) → HasLanes 32 wide (λ k. get_or table (k % 16) 0) → HasLanes 32 (swz_l w8 16 wide 0 js) (λ k. get_or table (f k) 0)
  HasLanes-look_up wide table twice =
      let long = h.long in
      record {
        long = length-swz_l w8 16 wide 0 js ∙ long;
        each = λ k l.
            let e = h.each k l in
            let below = small k l in
            get_or-swz_l_below w8 16 wide 0 js k (omega arith) (omega arith)
            ∙ ap (λ j. get_or wide j 0) (let at : 16 * ((0 + k) / 16) + get_or js k 0 ≡ 16 * (k / 16) + f k = omega arith in at)
            ∙ twice.each (16 * (k / 16) + f k) (omega arith)
            ∙ ap (λ j. get_or table j 0) (omega arith);
      }
