use Rattle.std.proofs.Common.{refl, arith, ap}
use Rattle.std.proofs.lemmas.List.{length-map}
use Rattle.smore_base.specs.declared.geometry.Geometry.{Geometry}
use Rattle.set_reader.specs.Carriers.{carrier_by, carriers_by}
use Rattle.set_reader.proofs.CarrierLaws.{carriers_and_missing}
use Rattle.set_reader.proofs.carriers.enough_carriers.Goals as goal

pub returns-then-len-geometry-clause-refused : goal.returns-then-len-geometry-clause-refused
returns-then-len-geometry-clause-refused c =
    let counted = carriers_and_missing c.args.table.now c.args.set (carriers_by c.carriers-members.result.items) c.carriers-members.ensures in
    let k = ap (λ (g : Geometry). g.k) c.geometry.ensures.same in
    (refl, c.missing.ensures, omega (arith, counted, k, c.missing.ensures, c.if-len-geometry.true, c.len.ensures.value, length-map c.carriers-members.result.items carrier_by))

pub returns-clause-few : goal.returns-clause-few
returns-clause-few c =
    let counted = carriers_and_missing c.args.table.now c.args.set (carriers_by c.carriers-members.result.items) c.carriers-members.ensures in
    let k = ap (λ (g : Geometry). g.k) c.geometry.ensures.same in
    omega (arith, counted, k, c.if-len-geometry.false, c.len.ensures.value, length-map c.carriers-members.result.items carrier_by)
