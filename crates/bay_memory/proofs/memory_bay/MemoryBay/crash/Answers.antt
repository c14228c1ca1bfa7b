use Rattle.bay_memory.specs.MemoryBay.{contents_of, firm_of}
use Rattle.bay_memory.proofs.Kept.{kept_left}
use Rattle.bay_memory.proofs.memory_bay.MemoryBay.crash.Goals as goal

pub returns-clause-allowed : goal.returns-clause-allowed
returns-clause-allowed c = kept_left c.args.keep c.args.removed.now (contents_of c.args.self.now) (firm_of c.args.self.now) _ c.args.self.now.array.whole.firm_held c.in_ok-of.ensures.bytes
