use Rattle.smore_top.proofs.WordReads.{format_read, format_begins, format_has}
use Rattle.smore_top.proofs.task.read_format.Goals as goal

pub returns-in_default : goal.returns-in_default
returns-in_default c array is = c.in_default.ensures array.id (format_begins c.args.words.now array is)

pub returns-in_default-read_geometry : goal.returns-in_default-read_geometry
returns-in_default-read_geometry c array is = c.in_default-read_geometry.ensures array.geometry (format_has c.args.words.now array is)

pub returns : goal.returns
returns c = format_read c.args.words.now c.in-Some.id c.in-Some-read_geometry.geometry c.in-Some.ensures c.in-Some-read_geometry.ensures
