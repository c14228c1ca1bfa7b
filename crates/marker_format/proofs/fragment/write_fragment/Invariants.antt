use Rattle.std.proofs.Common.{◌≡◌, ◌*◌, ◌-◌, ◌++◌, length, take, drop}
use Rattle.marker_format.specs.Fragment.{blocks_from, fragment_blocks}
use Rattle.marker_format.proofs.fragment.write_fragment.Given as goal

-- the blocks so far and those of the rest are those of the fragment
abbrev pub invariant-loop-i : goal.invariant-loop-i
invariant-loop-i l = record {
  long : length l.out ≡ 512 * l.count;
  written : take (512 * l.i) l.out ++ blocks_from (l.count - l.i) (drop (511 * l.i) l.fragment) ≡ fragment_blocks l.fragment;
}
