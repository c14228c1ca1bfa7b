use Rattle.std.proofs.Common.{◌≡◌, ◌*◌, ◌-◌, ◌++◌, length, take, drop}
use Rattle.marker_format.proofs.FragmentLaws.{content_from}
use Rattle.marker_format.proofs.fragment.read_fragment.Given as goal

-- what is filled so far and what the other blocks have is the fragment
abbrev pub invariant-loop-i : goal.invariant-loop-i
invariant-loop-i l = record {
  long : length l.out ≡ length l.fn.out;
  filled : take (511 * l.i) l.out ++ content_from (l.count - l.i) (drop (512 * l.i) l.blocks) (length l.out - 511 * l.i) ≡ content_from l.count l.blocks (length l.out);
}
