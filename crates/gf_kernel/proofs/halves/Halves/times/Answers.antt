use Rattle.std.proofs.Common.{◌≡◌, ℕ, ◌/◌, ◌%◌, ◌^◌, ◌<◌, List, length, get_or, replicate, arith, w8, Fits}
use Rattle.std.specs.Int.Bits.{bit_xor, bit_and}
use Rattle.std.specs.Simd.Lanes.{zip2, Each1}
use Rattle.std.proofs.lemmas.Nat.{and_mask}
use Rattle.std.proofs.lemmas.Simd.{Each1-get_or}
use Rattle.gf_kernel.specs.Lanes.{HasLanes}
use Rattle.gf_kernel.proofs.LaneLemmas.{HasLanes-own, HasLanes-splat, HasLanes-zip2, HasLanes-same, SwzOk-halves, HasLanes-look_up}
use Rattle.gf_kernel.proofs.halves.Halves.times.Goals as goal

lower : (v : List ℕ) → length v ≡ 32 → HasLanes 32 (zip2 bit_and v (replicate 32 15)) (λ k. get_or v k 0 % 16)
lower v long =
    HasLanes-same 32 _ (λ k. bit_and (get_or v k 0) 15) (λ k. get_or v k 0 % 16)
    (HasLanes-zip2 32 bit_and v (replicate 32 15) (λ k. get_or v k 0) (λ k. 15) (HasLanes-own 32 v long) (HasLanes-splat 32 15))
    (λ k l. and_mask (get_or v k 0) 4)

upper : (v : List ℕ) → length v ≡ 32 → HasLanes 32 (zip2 (λ a b. a / 2 ^ b) v (replicate 32 4)) (λ k. get_or v k 0 / 16)
upper v long = HasLanes-zip2 32 (λ a b. a / 2 ^ b) v (replicate 32 4) (λ k. get_or v k 0) (λ k. 4) (HasLanes-own 32 v long) (HasLanes-splat 32 4)

small : (v : List ℕ) → length v ≡ 32 → Each1 (Fits w8) v → (k : ℕ) → k < 32 → get_or v k 0 / 16 < 16
small v long fits k l = omega (arith, (Each1-get_or (Fits w8) v k 0 (omega arith) fits).fits)

pub swizzle-lower : goal.swizzle-lower
swizzle-lower c = SwzOk-halves _ (λ k. get_or c.args.lanes k 0 % 16) (lower c.args.lanes c.fits-lanes.0) (λ k l. omega arith)

pub swizzle-upper : goal.swizzle-upper
swizzle-upper c = SwzOk-halves _ (λ k. get_or c.args.lanes k 0 / 16) (upper c.args.lanes c.fits-lanes.0) (small c.args.lanes c.fits-lanes.0 c.fits-lanes.1)

pub returns : goal.returns
returns c =
    let v = c.args.lanes in
    let low = lower v c.fits-lanes.0 in
    let high = upper v c.fits-lanes.0 in
    HasLanes-zip2 32 bit_xor _ _ (λ k. get_or c.args.self.lower (get_or v k 0 % 16) 0) (λ k. get_or c.args.self.upper (get_or v k 0 / 16) 0)
    (HasLanes-look_up _ (λ k. get_or v k 0 % 16) low (λ k l. omega arith) c.twice.result c.args.self.lower c.twice.ensures)
    (HasLanes-look_up _ (λ k. get_or v k 0 / 16) high (small v c.fits-lanes.0 c.fits-lanes.1) c.twice-2.result c.args.self.upper c.twice-2.ensures)
