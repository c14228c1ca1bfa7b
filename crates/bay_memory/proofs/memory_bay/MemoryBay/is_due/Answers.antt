use Rattle.std.proofs.Common.{inr, ⊎_elim, eqb}
use Rattle.std.proofs.lemmas.List.Elements.{contains_decides, Decides-contains}
use Rattle.std.proofs.lemmas.Bool.Decides.{Decides-eqb}
use Rattle.bay_memory.proofs.memory_bay.MemoryBay.is_due.Goals as goal

pub returns-else-self : goal.returns-else-self
returns-else-self c =
    let calls = c.args.self.now.listed.items in
    let decides = Decides-contains calls c.args.self.now.moment c.contains.result (contains_decides eqb Decides-eqb calls c.args.self.now.moment c.contains.result (rw c.deref.ensures.value at c.contains.ensures.cases)) in
    (λ found. inr (decides.0 found), λ due. ⊎_elim (λ at_last. absurd (c.if-self.false at_last)) decides.1 due)
