use Rattle.std.proofs.Common.{◌≡◌, ◌++◌, ◌+◌, ◌-◌, ◌*◌, ◌≤◌, length, take}
use Rattle.set_digest.specs.Lines.{spelling_of_list}
use Rattle.set_digest.proofs.lines.write_lines.Given as goal

abbrev pub invariant-loop-line : goal.invariant-loop-line
invariant-loop-line l = record {
  written : l.out.items ≡ l.fn.out.items ++ spelling_of_list (take l.line-index l.lines);
  room : l.out.len + 320 * (length l.lines - l.line-index) ≤ l.out.cap;
}
