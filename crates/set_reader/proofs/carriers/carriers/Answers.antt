use Rattle.std.proofs.Common.{◌≡◌, ◌+◌, arith, sym, ap, subst, refl}
use Rattle.smore_base.specs.declared.geometry.Geometry.{Geometry}
use Rattle.set_table.specs.Table.{fragments_of}
use Rattle.set_reader.proofs.CarrierLaws.{CarriersBelow, below_more, below_past, below_all}
use Rattle.set_reader.proofs.carriers.carriers.Goals as goal

pub push-requires : goal.push-requires
push-requires c =
    let within = c.geometry-geometry.ensures.within in
    (omega arith, omega (arith, c.loop-index.invariant.few, c.loop-index-test.true, within.fragments))

pub loop-index-preserved : goal.loop-index-preserved
loop-index-preserved c =
    subst (CarriersBelow c.args.table.now c.args.set (c.loop-index.index + 1)) (sym c.push.ensures.items)
    (below_more c.args.table.now c.args.set c.loop-index.index c.loop-index.members.items _ c.geometry-geometry.ensures.together.drives (omega (arith, c.loop-index-test.true, ap (λ (g : Geometry). g.k + g.p) c.geometry-geometry.ensures.same)) refl c.in-Some.ensures c.loop-index.invariant)

pub loop-index-preserved-in_default : goal.loop-index-preserved-in_default
loop-index-preserved-in_default c = below_past c.args.table.now c.args.set c.loop-index.index c.loop-index.members.items c.geometry-geometry.ensures.together.drives c.in_default.ensures c.loop-index.invariant

pub returns : goal.returns
returns c =
    let g = c.geometry-geometry.ensures.same in
    let all : c.loop-index.index ≡ fragments_of c.args.table.now = omega (arith, c.loop-index.auto.index-end, c.loop-index-test.false, ap (λ (g : Geometry). g.k + g.p) g) in
    below_all c.args.table.now c.args.set c.loop-index.index c.loop-index.members.items all c.loop-index.invariant
