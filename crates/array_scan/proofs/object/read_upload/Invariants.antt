use Rattle.array_scan.proofs.ReadObjects.{PartsRead}
use Rattle.array_scan.proofs.object.read_upload.Given as goal

abbrev pub invariant-loop-part : goal.invariant-loop-part
invariant-loop-part g l = PartsRead l.code.k (g.B.Bay.state l.fn.bay) (g.B.Bay.state l.bay) l.records l.upload l.note.parts l.part l.bytes.items
