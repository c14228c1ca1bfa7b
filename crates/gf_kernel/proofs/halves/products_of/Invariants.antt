use Rattle.std.proofs.Common.{◌%◌, ◌^◌, ◌≤◌, get_or}
use Rattle.gf_field.specs.Product.{product}
use Rattle.gf_field.specs.Power.{power_of_two}
use Rattle.gf_kernel.specs.Lanes.{HasLanes}
use Rattle.gf_kernel.specs.declared.halves.TheConstants.{HALF_BYTES}
use Rattle.gf_kernel.proofs.halves.products_of.Given as goal

-- what was added are the products of the bits of c below this place
abbrev pub invariant-loop-place : goal.invariant-loop-place
invariant-loop-place l = record {
  within : l.place ≤ 8;
  doubled : HasLanes 32 l.doubled (λ k. product (power_of_two l.place) (get_or HALF_BYTES k 0));
  summed : HasLanes 32 l.sum (λ k. product (l.c % 2 ^ l.place) (get_or HALF_BYTES k 0));
}
