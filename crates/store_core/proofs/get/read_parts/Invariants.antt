use Rattle.std.proofs.Common.{◌≡◌, length, IfSome, Ok}
use Rattle.store_core.specs.Index.{parts_in, sizes_in}
use Rattle.zone_bay.specs.OneDevice.{ReadsOn}
use Rattle.store_core.proofs.Extents.{IsSoFar}
use Rattle.store_core.proofs.PartsRead.{IsFilledSoFar}
use Rattle.store_core.proofs.get.read_parts.Given as goal

abbrev pub invariant-loop-number : goal.invariant-loop-number
invariant-loop-number g l = record {
  reads : ReadsOn {T = Unit {0}} {E = Unit {0}} 0 (g.B.Bay.state l.fn.bay) (g.B.Bay.state l.bay) (Ok tt);
  room : length l.buffer ≡ length l.fn.buffer;
  long : length l.out ≡ length l.fn.out;
  sum : IsSoFar (sizes_in (parts_in l.index) l.note.upload) l.note.parts l.number l.at;
  filled : IfSome (g.B.Bay.state l.fn.bay).contents (λ held. IsFilledSoFar (parts_in l.index) (held 0 2) l.note.upload l.note.parts l.number l.at l.out);
}
