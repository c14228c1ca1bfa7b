use Rattle.std.proofs.Common.{◌≡◌, ◌*◌, ◌≤◌, length, take}
use Rattle.smore_top.specs.Frames.{name_fields}
use Rattle.smore_top.proofs.reply_frame.bytes_of_names.Given as goal

-- the bytes of the names so far; each takes 257 at most
abbrev pub invariant-loop-name : goal.invariant-loop-name
invariant-loop-name l = record {
  sum : l.bytes ≡ length (name_fields (take l.name-index l.names));
  few : l.bytes ≤ 257 * l.name-index;
}
