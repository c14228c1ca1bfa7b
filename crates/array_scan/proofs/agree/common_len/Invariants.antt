use Rattle.array_scan.proofs.Common.{AgreeTo}
use Rattle.array_scan.proofs.agree.common_len.Given as goal

abbrev pub invariant-loop-i : goal.invariant-loop-i
invariant-loop-i l = AgreeTo l.one l.other l.i
