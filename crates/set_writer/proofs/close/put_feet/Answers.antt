use Rattle.std.proofs.Common.{◌≡◌, ℕ, ◌+◌, ◌<◌, List, length, ap, subst, arith}
use Rattle.std.specs.Prelude.{IfSome}
use Rattle.smore_base.specs.declared.geometry.Geometry.{Geometry}
use Rattle.set_table.specs.Table.{fragments_of}
use Rattle.marker_format.specs.Block.{foot_block}
use Rattle.set_writer.specs.Members.{of_members, of_one, SpreadsBy, HasRoom}
use Rattle.set_writer.proofs.MemberCalls.{spreads_none}
use Rattle.set_writer.proofs.EachMember.{no_members, room_now, spread_more}
use Rattle.set_writer.proofs.RoundLaws.{live_below, live_all, calls_more}
use Rattle.set_writer.proofs.close.put_feet.Goals as goal

pub loop-index-init : goal.loop-index-init
loop-index-init g c = record { spread = spreads_none _ c.args.table.now _ (no_members c.args.foot.set (λ index. foot_block (record c.args.foot { index = index }))); calls = omega arith }

pub loop-index-preserved : goal.loop-index-preserved
loop-index-preserved g c = record {
  spread = spread_more c.args.foot.set c.loop-index.index (λ index. foot_block (record c.args.foot { index = index })) c.args.table.now c.loop-index.table c.append_to.new.table _ _ _ (g.met.B.Bay.sound c.args.bay.now) (g.met.B.Bay.sound c.loop-index.bay) c.loop-index.invariant.spread
      (subst (λ (l : List ℕ). SpreadsBy (of_one c.args.foot.set c.loop-index.index l) c.loop-index.table c.append_to.new.table (g.B.Bay.state c.loop-index.bay) (g.B.Bay.state c.append_to.new.bay)) c.write_foot_block.ensures c.append_to.ensures.spread);
  calls = calls_more c.args.table.now c.loop-index.table c.args.foot.set c.loop-index.index _ _ _ c.loop-index.invariant.spread.grows.table c.loop-index.invariant.spread.grows.leads.stays_lost c.loop-index.invariant.calls c.append_to.ensures.calls;
}

pub append_to-requires-clause-room : goal.append_to-requires-clause-room
append_to-requires-clause-room g c =
    let n = ap (λ (x : Geometry). x.k + x.p) c.geometry-geometry.ensures.same in
    let below : c.loop-index.index < fragments_of c.args.table.now = omega (arith, n, c.loop-index-test.true) in
    let long : 512 ≡ length c.write_foot_block.new.out = omega (arith, c.write_foot_block.auto.out) in
    subst (λ b. IfSome (g.B.Bay.state c.loop-index.bay).contents (HasRoom c.loop-index.table c.args.foot.set c.loop-index.index b)) long
    (room_now c.args.foot.set c.loop-index.index 512 (λ index. foot_block (record c.args.foot { index = index })) c.args.table.now c.loop-index.table (g.B.Bay.state c.args.bay.now) (g.B.Bay.state c.loop-index.bay) below c.loop-index.invariant.spread c.requires.room)

pub returns-clause-spread : goal.returns-clause-spread
returns-clause-spread g c =
    let all : c.loop-index.index ≡ fragments_of c.args.table.now = let a = ap (λ (x : Geometry). x.k + x.p) c.geometry-geometry.ensures.same in let d = c.loop-index-test.false in let e = c.loop-index.auto.index-end in omega (arith, a, d, e) in
    subst (λ n. SpreadsBy (of_members n c.args.foot.set (λ index. foot_block (record c.args.foot { index = index }))) c.args.table.now c.loop-index.table (g.B.Bay.state c.args.bay.now) (g.B.Bay.state c.loop-index.bay)) all c.loop-index.invariant.spread

pub returns-clause-calls : goal.returns-clause-calls
returns-clause-calls g c =
    let all : c.loop-index.index ≡ fragments_of c.args.table.now = let a = ap (λ (x : Geometry). x.k + x.p) c.geometry-geometry.ensures.same in let d = c.loop-index-test.false in let e = c.loop-index.auto.index-end in omega (arith, a, d, e) in
    let few = c.loop-index.invariant.calls in
    let count = ap (live_below c.args.table.now c.args.foot.set) all in
    omega (arith, few, count, live_all c.args.table.now c.args.foot.set)
