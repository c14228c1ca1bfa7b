use Rattle.std.proofs.Common.{refl, arith}
use Rattle.marker_format.specs.declared.kind.Kind.TheVariants.{Ready}
use Rattle.record_tests.proofs.lines.ready.Goals as goal

pub returns-clause-line : goal.returns-clause-line
returns-clause-line c = record {
  kind = Ready;
  coded = refl;
  listed = tt;
  first = tt;
  stamp = refl;
  stamp_to = omega arith;
  upload = refl;
  upload_to = omega arith;
  payload = refl;
  fragment = (λ e. e, λ e. e);
  name = tt;
  counts = (refl, refl, refl);
  position_to = omega arith;
  block_to = omega arith;
  fragment_to = omega arith;
  part_to = omega arith;
  parts_to = omega arith;
  length_to = omega arith;
  payload_to = omega arith;
}
