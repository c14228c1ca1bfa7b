use Rattle.std.proofs.Common.{◌≡◌, ◌<◌, ap, subst, arith}
use Rattle.set_table.specs.Table.{fragments_of}
use Rattle.set_writer.specs.Entry.{entry_bytes}
use Rattle.set_writer.specs.Body.{entry_of}
use Rattle.set_writer.specs.Members.{of_members, SpreadsBy}
use Rattle.set_writer.proofs.MemberCalls.{spreads_none}
use Rattle.set_writer.proofs.EachMember.{no_members, room_now, spread_more}
use Rattle.set_writer.proofs.RoundLaws.{live_below, live_all, calls_more}
use Rattle.set_writer.proofs.record.put_all.Goals as goal

pub loop-index-init : goal.loop-index-init
loop-index-init g c = record { bytes = λ some. absurd (omega (arith, some)); spread = spreads_none _ c.args.table.now _ (no_members c.args.item.marker.now.set (entry_bytes c.args.code.now.k (entry_of c.args.item))); calls = omega arith }

pub put_on-requires-clause-room : goal.put_on-requires-clause-room
put_on-requires-clause-room g c = let a = c.requires.code.0 in let b = c.requires.code.1 in let below : c.loop-index.index < fragments_of c.args.table.now = omega (arith, a, b, c.loop-index-test.true) in room_now c.args.item.marker.now.set c.loop-index.index _ (entry_bytes c.args.code.now.k (entry_of c.args.item)) c.args.table.now c.loop-index.table (g.B.Bay.state c.args.bay.now) (g.B.Bay.state c.loop-index.bay) below c.loop-index.invariant.spread c.requires.room

pub loop-index-preserved : goal.loop-index-preserved
loop-index-preserved g c = record {
  bytes = λ some. c.put_on.ensures.bytes;
  spread = spread_more c.args.item.marker.now.set c.loop-index.index (entry_bytes c.args.code.now.k (entry_of c.args.item)) c.args.table.now c.loop-index.table c.put_on.new.table _ _ _ (g.met.B.Bay.sound c.args.bay.now) (g.met.B.Bay.sound c.loop-index.bay) c.loop-index.invariant.spread c.put_on.ensures.spread;
  calls = calls_more c.args.table.now c.loop-index.table c.args.item.marker.now.set c.loop-index.index _ _ _ c.loop-index.invariant.spread.grows.table c.loop-index.invariant.spread.grows.leads.stays_lost c.loop-index.invariant.calls c.put_on.ensures.calls;
}

pub returns-clause-spread : goal.returns-clause-spread
returns-clause-spread g c =
    let all : c.loop-index.index ≡ fragments_of c.args.table.now = let a = c.requires.code.0 in let b = c.requires.code.1 in let d = c.loop-index-test.false in let e = c.loop-index.auto.index-end in omega (arith, a, b, d, e) in
    subst (λ n. SpreadsBy (of_members n c.args.item.marker.now.set (entry_bytes c.args.code.now.k (entry_of c.args.item))) c.args.table.now c.loop-index.table (g.B.Bay.state c.args.bay.now) (g.B.Bay.state c.loop-index.bay)) all c.loop-index.invariant.spread

pub returns-clause-bytes : goal.returns-clause-bytes
returns-clause-bytes g c = c.loop-index.invariant.bytes (let d = c.loop-index-test.false in let has = c.args.code.now.has_source in omega (arith, d, has))

pub returns-clause-calls : goal.returns-clause-calls
returns-clause-calls g c =
    let all : c.loop-index.index ≡ fragments_of c.args.table.now = let a = c.requires.code.0 in let b = c.requires.code.1 in let d = c.loop-index-test.false in let e = c.loop-index.auto.index-end in omega (arith, a, b, d, e) in
    let few = c.loop-index.invariant.calls in
    let count = ap (live_below c.args.table.now c.args.item.marker.now.set) all in
    omega (arith, few, count, live_all c.args.table.now c.args.item.marker.now.set)
