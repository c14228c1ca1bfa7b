use Rattle.std.proofs.Common.{◌≡◌, drop}
use Rattle.gf_field.specs.Product.{product}
use Rattle.gf_field.specs.Field.{IsByte}
use Rattle.rs_code.specs.Factor.{differences}
use Rattle.rs_code.proofs.factor.factor.Given as goal

abbrev pub invariant-loop-m : goal.invariant-loop-m
invariant-loop-m l = record {
  above_is_byte : IsByte l.above;
  below_is_byte : IsByte l.below;
  above : product l.above (differences (drop l.m-index l.points) l.own l.want) ≡ differences l.points l.own l.want;
  below : product l.below (differences (drop l.m-index l.points) l.own l.own) ≡ differences l.points l.own l.own;
}
