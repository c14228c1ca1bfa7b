use Rattle.std.proofs.Common.{◌≡◌, ◌++◌, take}
use Rattle.smore_top.specs.Frames.{name_fields}
use Rattle.smore_top.proofs.reply_frame.push_names.Given as goal

abbrev pub invariant-loop-name : goal.invariant-loop-name
invariant-loop-name l = l.out.items ≡ l.fn.out.items ++ name_fields (take l.name-index l.names)
