use Rattle.std.proofs.Common.{◌∙◌, refl, ap, length}
use Rattle.std.specs.Result.{is_ok}
use Rattle.zone_bay.specs.Contents.{Contents}
use Rattle.zone_bay.specs.Bay.{Written}
use Rattle.bay_memory.specs.MemoryBay.{state_of}
use Rattle.bay_memory.proofs.Calls.{makes_as, held_same}
use Rattle.bay_memory.proofs.memory_bay.MemoryBayBay.written.Goals as goal

pub returns-in_err-make-clause-call : goal.returns-in_err-make-clause-call
returns-in_err-make-clause-call c = makes_as (Written c.args.device c.args.zone) (state_of c.args.self.now) (state_of c.make.new.self) _ c.from_residual.result c.from_residual.ensures.0 c.in_err-make.ensures.call

pub returns-clause-length : goal.returns-clause-length
returns-clause-length c =
    let same = held_same (Written c.args.device c.args.zone) c.args.self.now c.make.new.self c.make.result (ap is_ok c.in_ok-make.was) (λ held. refl) c.make.ensures.call in
    ap length c.held.ensures ∙ ap (λ (held : Contents). length (held c.args.device c.args.zone)) same
