use Rattle.std.proofs.Common.{◌≡◌, ◌+◌, ap, ◌∙◌, arith, ◌++◌, ◌-◌, take}
use Rattle.std.specs.Prelude.{replicate}
use Rattle.std.specs.Int.{div_ceil}
use Rattle.std.specs.List.{flat_map, range_with_len}
use Rattle.marker_format.specs.Fragment.{content_at}
use Rattle.array_scan.specs.SetRead.{place_of}
use Rattle.array_scan.proofs.Calls.{told_at, told_from}
use Rattle.array_scan.proofs.ReadPayloads.{blocks_more, fragment_cut}
use Rattle.array_scan.proofs.payload.add_fragment.Goals as goal

pub loop-i-preserved : goal.loop-i-preserved
loop-i-preserved g c =
    blocks_more (place_of c.args.place) c.args.at.now.block (g.B.Bay.state c.args.bay.now) (g.B.Bay.state c.loop-i.bay) (g.B.Bay.state c.add_content.new.bay) c.args.out.now.items c.loop-i.out.items c.add_content.new.out.items c.loop-i.i _
    (omega (arith, c.from-in-loop-i.ensures, c.from-in-loop-i-2.ensures)) c.loop-i.invariant c.in_ok-add_content.ensures.reads c.in_ok-add_content.ensures.content

pub returns-clause-fragment : goal.returns-clause-fragment
returns-clause-fragment g c =
    let bay = g.B.Bay.state c.args.bay.now in
    let block = c.args.at.now.block in
    let fragment = c.args.at.now.marker.fragment in
    let ends : c.loop-i.i ≡ div_ceil fragment 511 = omega (arith, c.loop-i.auto.i-end, c.loop-i-test.false, c.div_ceil-i-end.ensures, c.from.ensures) in
    told_from bay.contents _ (λ held is.
    let zone = held c.args.place.device c.args.place.zone in
    let items = told_at bay.contents _ held is c.loop-i.invariant.told ∙ ap (λ n. c.args.out.now.items ++ flat_map (content_at zone) (range_with_len (block + 1) n)) ends in
    fragment_cut c.args.out.now.items (flat_map (content_at zone) (range_with_len (block + 1) (div_ceil fragment 511))) c.loop-i.out.items c.truncate.new.self.items _ c.saturating_add.result fragment c.in-Some.behind c.args.f items
    (omega (arith, c.saturating_add.ensures, c.len-from.ensures, c.from.ensures, c.args.out.now.ok.0, c.args.out.now.small)) c.truncate.ensures.items (omega (arith, c.in-Some.ensures, c.len-from.ensures, c.args.out.now.ok.0))
    (c.in_ok-resize.ensures.items ∙ ap (λ n. take c.in-Some.behind c.truncate.new.self.items ++ replicate (c.in-Some.behind - n) 0) c.truncate.new.self.ok.0))
