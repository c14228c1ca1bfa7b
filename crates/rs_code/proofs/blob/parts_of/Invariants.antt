use Rattle.std.proofs.Common.{◌≡◌, ◌++◌, length, All}
use Rattle.rs_code.specs.Coded.{CodedPayload}
use Rattle.rs_code.specs.Blob.{joined}
use Rattle.rs_code.proofs.Parts.{AreWhole}
use Rattle.rs_code.proofs.blob.parts_of.Given as goal

abbrev pub invariant-loop-rest : goal.invariant-loop-rest
invariant-loop-rest l = record {
  all_bytes : joined l.parts.items ++ l.rest ≡ l.bytes;
  code : All (λ (part : CodedPayload). (part.k ≡ l.code.k) × (part.p ≡ l.code.p)) l.parts.items;
  whole : AreWhole l.size l.parts.items;
}

abbrev pub decreases-loop-rest : goal.decreases-loop-rest
decreases-loop-rest l = length l.rest
