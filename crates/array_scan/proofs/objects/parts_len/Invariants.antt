use Rattle.array_scan.proofs.ToldObjects.{PartsSoFar}
use Rattle.array_scan.proofs.objects.parts_len.Given as goal

abbrev pub invariant-loop-part : goal.invariant-loop-part
invariant-loop-part l = PartsSoFar l.records l.upload l.parts l.part l.bytes
