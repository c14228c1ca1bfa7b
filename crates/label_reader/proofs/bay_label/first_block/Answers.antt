use Rattle.std.proofs.Common.{rules}
use Rattle.zone_bay.specs.declared.failed.Failed.{Failed}
use Rattle.zone_bay.proofs.OneDevice.{written_on, read_on, reads_then, reads_failed, reads_answered, written_keeps}
use Rattle.label_reader.proofs.bay_label.first_block.Goals as goal

pub returns-in_err-read-clause-reads : goal.returns-in_err-read-clause-reads
returns-in_err-read-clause-reads g c =
    reads_failed c.args.device _ _ _ _ (reads_then c.args.device _ _ _ _ _ (written_on c.args.device 0 _ _ _ (g.met.B.Bay.sound c.args.bay.now) c.in_ok-written.ensures.call) (read_on c.args.device 0 _ _ _ (g.met.B.Bay.sound c.written.new.self) c.in_err-read.ensures.call)) _ c.from_residual-in_err-read.ensures.1

pub returns-clause-block : goal.returns-clause-block
returns-clause-block g c =
    let same = written_keeps c.args.device 0 _ _ _ (g.met.B.Bay.sound c.args.bay.now) c.written.ensures.call in
    let bytes = rw same at c.in_ok-read.ensures.bytes in
    search rules

pub returns-clause-reads : goal.returns-clause-reads
returns-clause-reads g c =
    reads_answered {E = Failed} c.args.device _ _ _ _ (reads_then c.args.device _ _ _ _ _ (written_on c.args.device 0 _ _ _ (g.met.B.Bay.sound c.args.bay.now) c.in_ok-written.ensures.call) (read_on c.args.device 0 _ _ _ (g.met.B.Bay.sound c.written.new.self) c.in_ok-read.ensures.call))
