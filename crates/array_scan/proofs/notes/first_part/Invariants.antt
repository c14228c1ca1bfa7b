use Rattle.array_scan.proofs.FoundNotes.{NotAmongFirst}
use Rattle.array_scan.proofs.notes.first_part.Given as goal

abbrev pub invariant-loop-valid : goal.invariant-loop-valid
invariant-loop-valid l = NotAmongFirst l.records l.upload l.part l.valid-index
