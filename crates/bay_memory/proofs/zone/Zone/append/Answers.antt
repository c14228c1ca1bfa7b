use Rattle.std.proofs.Common.{arith}
use Rattle.bay_memory.specs.Past.{with_more}
use Rattle.bay_memory.specs.Zone.{track_of}
use Rattle.bay_memory.proofs.Past.{goes_with, now_with_more}
use Rattle.bay_memory.proofs.zone.Zone.append.Goals as goal

pub returns-clause-ok : goal.returns-clause-ok
returns-clause-ok c =
    let old = c.args.self.now in
    let put = c.in_ok-extend_from_slice.ensures.items in
    goes_with c.args.moment (with_more c.args.bytes.now) (track_of old) _ old.past_in c.requires c.was-was.result c.was-was.ensures
    (rw c.in_ok-reserve.ensures.items at c.push_reserved.ensures.items)
    (now_with_more old.bytes.items _ c.args.bytes.now old.start old.firm put (omega (arith, old.firm_in)))
    c.args.bytes.now put
