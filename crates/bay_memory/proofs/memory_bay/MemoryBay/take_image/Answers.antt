use Rattle.std.proofs.Common.{◌∙◌, ap, refl}
use Rattle.zone_bay.specs.Contents.{Contents}
use Rattle.bay_memory.specs.declared.asked.Asked.{Asked}
use Rattle.bay_memory.specs.Operation.{call_of, done_unless, put_by}
use Rattle.bay_memory.specs.MemoryBay.{contents_of, firm_of}
use Rattle.bay_memory.proofs.Kept.{kept_all, kept_pair, asked_same}
use Rattle.bay_memory.proofs.memory_bay.MemoryBay.take_image.Goals as goal

pub returns-clause-image : goal.returns-clause-image
returns-clause-image c =
    let held = contents_of c.args.self.now in
    record {
      not_asked = λ not. absurd (not (c.in-Some.asked, c.in-Some.is, c.if-asked-self.true));
      no_longer = λ asked. refl;
      done = λ asked is at_it. kept_pair _ _ _ _ c.in_ok-image.ensures.shape
          (c.in_ok-image.ensures.bytes ∙ ap (λ (h : Contents). put_by c.done.result h) (kept_all held (firm_of c.args.self.now)) ∙ c.done.ensures.made_by held
          ∙ ap (λ (a : Asked). done_unless c.args.due (call_of c.args.operation) a.bytes held) (asked_same c.in-Some.is is));
      failed = λ asked. tt;
    }
