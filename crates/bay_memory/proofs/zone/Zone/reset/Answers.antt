use Rattle.std.proofs.Common.{arith, refl}
use Rattle.bay_memory.specs.Past.{all_gone}
use Rattle.bay_memory.specs.Zone.{track_of}
use Rattle.bay_memory.proofs.Past.{goes, now_all_gone}
use Rattle.bay_memory.proofs.zone.Zone.reset.Goals as goal

pub returns : goal.returns
returns c =
    let old = c.args.self.now in
    goes c.args.moment all_gone (track_of old) _ old.past_in c.requires c.was-was.result c.was-was.ensures
    c.push_reserved.ensures.items
    (now_all_gone old.bytes.items _ (omega (arith, old.bytes.ok.0)))
    refl
