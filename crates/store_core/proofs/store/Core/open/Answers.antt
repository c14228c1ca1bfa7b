use Rattle.store_core.proofs.OpeningReads.{opens_behind, refuses_lost, refuses_other}
use Rattle.store_core.proofs.store.Core.open.Goals as goal

pub returns-in-Ok-Some : goal.returns-in-Ok-Some
returns-in-Ok-Some g c = opens_behind c.args.bay c.find_opening.new.bay (g.met.B.Bay.sound c.args.bay) c.in-Ok-Some.ensures.reads.only c.begin.result c.begin.ensures

pub returns-in-Ok-None : goal.returns-in-Ok-None
returns-in-Ok-None g c = refuses_other ⊥ (g.B.Bay.state c.args.bay) (g.B.Bay.state c.find_opening.new.bay) (rw c.in-Ok-None.field-0-is at c.in-Ok-None.ensures.found) c.in-Ok-None.ensures.reads

pub returns-in-Err-Lost : goal.returns-in-Err-Lost
returns-in-Err-Lost g c = refuses_lost _ (g.B.Bay.state c.args.bay) (g.B.Bay.state c.find_opening.new.bay) c.in-Err-Lost.field-0-is c.in-Err-Lost.ensures.reads
