use Rattle.std.proofs.Common.{arith, refl}
use Rattle.bay_memory.specs.Past.{all_firm}
use Rattle.bay_memory.specs.Zone.{track_of}
use Rattle.bay_memory.proofs.Past.{goes, now_all_firm}
use Rattle.bay_memory.proofs.zone.Zone.flush.Goals as goal

pub returns : goal.returns
returns c =
    let old = c.args.self.now in
    goes c.args.moment all_firm (track_of old) _ old.past_in c.requires c.was-was.result c.was-was.ensures
    c.push_reserved.ensures.items
    (now_all_firm old.bytes.items old.start old.firm _ (omega (arith, old.firm_in, old.bytes.ok.0)))
    refl
