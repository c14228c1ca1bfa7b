use Rattle.std.proofs.Common.{◌∙◌, sym, refl}
use Rattle.bay_memory.specs.declared.memory_bay.MemoryBay.{MemoryBay}
use Rattle.bay_memory.specs.Views.{views_of}
use Rattle.bay_memory.specs.Operation.{call_of}
use Rattle.bay_memory.proofs.Calls.{due_last, steady_kept, makes_done, memory_done, makes_failed, memory_failed}
use Rattle.bay_memory.proofs.memory_bay.MemoryBay.make.Goals as goal

pub begin-requires-clause-last : goal.begin-requires-clause-last
begin-requires-clause-last c = λ at_last. c.requires.due.1 (due_last (call_of c.args.operation) c.args.self.now at_last)

pub returns-clause-call : goal.returns-clause-call
returns-clause-call c = makes_done (call_of c.args.operation) c.args.due c.args.self.now c.begin.new.self c.begin.result c.begin.ensures (sym c.is_err.ensures.value ∙ c.if-is_err.false) c.requires.due _

pub returns-clause-memory : goal.returns-clause-memory
returns-clause-memory c = memory_done (call_of c.args.operation) c.args.due c.args.self.now c.begin.new.self c.begin.result c.begin.ensures (sym c.is_err.ensures.value ∙ c.if-is_err.false) c.requires.due _

pub returns-then-is_err-clause-call : goal.returns-then-is_err-clause-call
returns-then-is_err-clause-call c =
    let mid = c.begin.new.self in
    let new : MemoryBay = record mid { array = c.fail.new.self; steady = steady_kept mid.moment (views_of mid.array) (views_of c.fail.new.self) c.fail.ensures.fault.tracks mid.steady } in
    makes_failed (call_of c.args.operation) c.args.due c.args.self.now mid new c.begin.result c.begin.ensures (sym c.is_err.ensures.value ∙ c.if-is_err.true) c.requires.due (rw c.device.ensures at c.fail.ensures.fault) c.fail.ensures.shape refl refl (record { listed = refl; asked = refl; kept = refl }) _

pub returns-then-is_err-clause-memory : goal.returns-then-is_err-clause-memory
returns-then-is_err-clause-memory c = memory_failed (call_of c.args.operation) c.args.due c.args.self.now c.begin.new.self _ c.begin.result c.begin.ensures (sym c.is_err.ensures.value ∙ c.if-is_err.true) c.requires.due (rw c.device.ensures at c.fail.ensures.fault) c.fail.ensures.shape refl refl (record { listed = refl; asked = refl; kept = refl }) _
