-- Histories of calls.
use Rattle.std.specs.Prelude.{◌≡◌, List, [], ◌∷◌}
use Rattle.object_machine.specs.declared.op.Op.{Op}
use Rattle.object_machine.specs.declared.reply.Reply.{Reply}
use Rattle.object_machine.specs.declared.machine.Entry.{Entry}

-- Entries are a legal history from one state to another where a chain of moves with these calls and answers leads
-- from one to the other.
abbrev pub IsLegalHistory : {S : Type 0} → (S → Op → Reply → S → Type 0) → S → List Entry → S → Type 0
IsLegalHistory moves from [] to = to ≡ from
IsLegalHistory {S} moves from (entry ∷ entries) to = (next : S) × moves from entry.op entry.reply next × IsLegalHistory moves next entries to
