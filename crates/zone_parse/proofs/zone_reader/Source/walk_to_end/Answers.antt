use Rattle.std.proofs.Common.{◌+◌, sym, subst}
use Rattle.zone_parse.specs.declared.walk.Walk.{Walk}
use Rattle.zone_parse.proofs.Reading.{Walked, NextRead, walked_more, walked_end}
use Rattle.zone_parse.proofs.zone_reader.Source.walk_to_end.Goals as goal

pub loop-block-preserved : goal.loop-block-preserved
loop-block-preserved g c =
    let s = c.args.self.now in
    let before = g.B.Bay.state c.args.bay.now in
    let mid = g.B.Bay.state c.loop-block.bay in
    let after = g.B.Bay.state c.block.new.bay in
    let walk = c.loop-block.walk in
    let records = c.loop-block.records in
    let block = c.in_ok-block.block in
    let read : NextRead s before mid after c.args.from walk records block c.requires.zone c.loop-block.invariant = record { shows = c.in_ok-block.ensures.shown; only = c.in_ok-block.ensures.reads; once = c.in_ok-block.ensures.once } in
    subst (λ (w : Walk). Walked s before after c.args.from w (records + 1)) (sym c.behind-walk.ensures) (walked_more s before mid after c.args.from walk records block c.requires.zone c.loop-block.invariant c.in-Some.marker read c.in-Some.ensures.record)

pub returns-in-None-clause-end : goal.returns-in-None-clause-end
returns-in-None-clause-end g c =
    let s = c.args.self.now in
    let before = g.B.Bay.state c.args.bay.now in
    let mid = g.B.Bay.state c.loop-block.bay in
    let after = g.B.Bay.state c.block.new.bay in
    let walk = c.loop-block.walk in
    let records = c.loop-block.records in
    let block = c.in_ok-block.block in
    let read : NextRead s before mid after c.args.from walk records block c.requires.zone c.loop-block.invariant = record { shows = c.in_ok-block.ensures.shown; only = c.in_ok-block.ensures.reads; once = c.in_ok-block.ensures.once } in
    walked_end s before mid after c.args.from walk records block c.requires.zone c.loop-block.invariant read c.in-None.ensures.record
