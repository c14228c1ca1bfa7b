use Rattle.std.proofs.Common.{◌∙◌, rules, refl, sym, inl, inr}
use Rattle.bay_memory.specs.Operation.{call_of}
use Rattle.bay_memory.proofs.Begins.{begins_failed, begins_done}
use Rattle.bay_memory.proofs.memory_bay.MemoryBay.begin.Goals as goal
use Rattle.bay_memory.proofs.memory_bay.MemoryBay.begin.Goals.{then-due-via-then-due, then-due-via-else-due+then-is_err}

pub returns-then-due : goal.returns-then-due
returns-then-due c =
    let take = c.take_image-image in
    elim c.then-due.branch [
      | then-due-via-then-due w ↦ rw w.self-is (begins_failed c.args.due (call_of c.args.operation) c.args.self.now take.new.self _ take.result take.ensures.array.array (search rules) (search rules) c.reads_with-reads.ensures take.ensures.listed refl refl take.ensures.image take.ensures.err _ (inl w.if-due.true))
      | then-due-via-else-due+then-is_err w ↦ rw w.self-is (begins_failed c.args.due (call_of c.args.operation) c.args.self.now take.new.self _ take.result take.ensures.array.array (search rules) (search rules) c.reads_with-reads.ensures take.ensures.listed refl refl take.ensures.image take.ensures.err _ (inr (sym w.is_err.ensures.value ∙ w.if-is_err.true)))
    ]

pub returns : goal.returns
returns c =
    let take = c.take_image-image in
    begins_done c.args.due (call_of c.args.operation) c.args.self.now take.new.self _ take.result c.make.result (sym c.is_err.ensures.value ∙ c.if-is_err.false) (sym c.is_err-2.ensures.value ∙ c.if-is_err-2.false) c.if-due.false take.ensures.image take.ensures.array.array c.make.ensures.shape c.make.ensures.call refl refl _ (search rules) (search rules) c.reads_with-reads.ensures take.ensures.listed
