use Rattle.std.proofs.Common.{◌≡◌, ◌+◌, length, take}
use Rattle.set_writer.specs.Writer.{array_by, headed}
use Rattle.set_writer.specs.Calls.{Began}
use Rattle.set_writer.specs.Rounds.{InRounds}
use Rattle.set_writer.proofs.writer.SetWriter.begin.Given as goal

abbrev pub invariant-loop-cut : goal.invariant-loop-cut
invariant-loop-cut g l = record {
  began : Began l.fn.self (headed (array_by l.fn.self) l.fn.self.set (take l.cut-index l.cuts)) l.self l.fn.table l.table (g.B.Bay.state l.fn.bay) (g.B.Bay.state l.bay);
  firm : (g.B.Bay.state l.bay).firm ≡ (g.B.Bay.state l.fn.bay).firm;
  calls : InRounds l.fn.self.set (length (take l.cut-index l.cuts) + 1) l.fn.table l.table (g.B.Bay.state l.fn.bay) (g.B.Bay.state l.bay);
}
