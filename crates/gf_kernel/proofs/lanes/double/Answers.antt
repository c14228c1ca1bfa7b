use Rattle.std.proofs.Common.{ℕ, ◌*◌, ◌/◌, ◌%◌, ◌^◌, get_or, replicate, arith, w8, Fits}
use Rattle.std.proofs.lemmas.Simd.{Each1-get_or}
use Rattle.std.specs.Int.Bits.{bit_xor}
use Rattle.gf_field.specs.Product.{product}
use Rattle.gf_kernel.proofs.LaneLemmas.{HasLanes-own, HasLanes-splat, HasLanes-zip2, HasLanes-same}
use Rattle.gf_kernel.proofs.Products.{shifted_and_reduced}
use Rattle.gf_kernel.proofs.lanes.double.Goals as goal

pub returns : goal.returns
returns c =
    let v = c.args.lanes in
    let long = c.fits-lanes.0 in
    let lane = λ (k : ℕ). get_or v k 0 in
    let own = HasLanes-own 32 v long in
    let shifted = HasLanes-zip2 32 (λ a b. a * 2 ^ b % 2 ^ 8) v (replicate 32 1) lane (λ k. 1) own (HasLanes-splat 32 1) in
    let out = HasLanes-zip2 32 (λ a b. a / 2 ^ b) v (replicate 32 7) lane (λ k. 7) own (HasLanes-splat 32 7) in
    let reduced = HasLanes-zip2 32 (λ a b. a * b % 2 ^ 8) _ (replicate 32 29) (λ k. lane k / 2 ^ 7) (λ k. 29) out (HasLanes-splat 32 29) in
    HasLanes-same 32 _ (λ k. bit_xor (lane k * 2 ^ 1 % 2 ^ 8) (lane k / 2 ^ 7 * 29 % 2 ^ 8)) (λ k. product 2 (lane k))
    (HasLanes-zip2 32 bit_xor _ _ (λ k. lane k * 2 ^ 1 % 2 ^ 8) (λ k. lane k / 2 ^ 7 * 29 % 2 ^ 8) shifted reduced)
    (λ k l. shifted_and_reduced (lane k) (Each1-get_or (Fits w8) v k 0 (omega arith) c.fits-lanes.1).fits)
