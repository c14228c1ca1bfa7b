use Rattle.std.proofs.Common.{◌≡◌, ◌+◌, ap, subst, arith}
use Rattle.smore_base.specs.declared.geometry.Geometry.{Geometry}
use Rattle.set_table.specs.Table.{fragments_of}
use Rattle.set_writer.specs.Members.{is_member, FlushesBy}
use Rattle.set_writer.proofs.MemberCalls.{flushes_none}
use Rattle.set_writer.proofs.EachMember.{is_no_member, flush_more}
use Rattle.set_writer.proofs.RoundLaws.{live_below, live_all, calls_more}
use Rattle.set_writer.proofs.members.flush_all.Goals as goal

pub loop-index-init : goal.loop-index-init
loop-index-init g c = record { flushed = flushes_none _ c.args.table.now _ (is_no_member c.args.set); calls = omega arith }

pub loop-index-preserved : goal.loop-index-preserved
loop-index-preserved g c =
    let so_far = c.loop-index.invariant.flushed in
    record {
      flushed = flush_more c.args.set c.loop-index.index c.args.table.now c.loop-index.table c.flush_of.new.table _ _ _ (g.met.B.Bay.sound c.args.bay.now) (g.met.B.Bay.sound c.loop-index.bay) (g.met.B.Bay.sound c.flush_of.new.bay) so_far c.flush_of.ensures.flushed;
      calls = calls_more c.args.table.now c.loop-index.table c.args.set c.loop-index.index _ _ _ so_far.table so_far.leads.stays_lost c.loop-index.invariant.calls c.flush_of.ensures.calls;
    }

pub returns-clause-flushed : goal.returns-clause-flushed
returns-clause-flushed g c =
    let all : c.loop-index.index ≡ fragments_of c.args.table.now = let a = ap (λ (x : Geometry). x.k + x.p) c.geometry-geometry.ensures.same in let d = c.loop-index-test.false in let e = c.loop-index.auto.index-end in omega (arith, a, d, e) in
    subst (λ n. FlushesBy (is_member n c.args.set) c.args.table.now c.loop-index.table (g.B.Bay.state c.args.bay.now) (g.B.Bay.state c.loop-index.bay)) all c.loop-index.invariant.flushed

pub returns-clause-calls : goal.returns-clause-calls
returns-clause-calls g c =
    let all : c.loop-index.index ≡ fragments_of c.args.table.now = let a = ap (λ (x : Geometry). x.k + x.p) c.geometry-geometry.ensures.same in let d = c.loop-index-test.false in let e = c.loop-index.auto.index-end in omega (arith, a, d, e) in
    let few = c.loop-index.invariant.calls in
    let count = ap (live_below c.args.table.now c.args.set) all in
    omega (arith, few, count, live_all c.args.table.now c.args.set)
