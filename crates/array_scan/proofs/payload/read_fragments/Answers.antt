use Rattle.array_scan.specs.Calls.{lost_by}
use Rattle.array_scan.proofs.Calls.{read_then, failed_as}
use Rattle.array_scan.proofs.payload.read_fragments.Goals as goal

pub returns-in_err-add_fragment-clause-reads : goal.returns-in_err-add_fragment-clause-reads
returns-in_err-add_fragment-clause-reads g c =
    let mid = g.B.Bay.state c.loop-carrier.bay in
    let after = g.B.Bay.state c.add_fragment.new.bay in
    read_then (g.B.Bay.state c.args.bay.now) mid after (lost_by c.from_residual-in_err-add_fragment.result) c.loop-carrier.invariant.read
    (failed_as (Unit {0}) mid after c.in_err-add_fragment.field-0.0 c.from_residual-in_err-add_fragment.result c.from_residual-in_err-add_fragment.ensures.1 c.in_err-add_fragment.ensures.reads)
