use Rattle.std.proofs.Common.{◌≡◌, Some, sym, ap, ◌∙◌, arith}
use Rattle.std.specs.Prelude.{option_map}
use Rattle.store_core.specs.declared.index.Part.{Part}
use Rattle.store_core.specs.Index.{parts_in, sizes_in}
use Rattle.store_core.proofs.Extents.{sum_goes_on}
use Rattle.store_core.proofs.index.Index.extent.Goals as goal

pub loop-number-preserved : goal.loop-number-preserved
loop-number-preserved c =
    let sizes = sizes_in (parts_in c.args.self.now) c.args.note.now.upload in
    let there : sizes c.loop-number.number ≡ Some c.from-bytes.result =
    ap (option_map (λ (p : Part). p.bytes)) (sym c.in-Some.ensures) ∙ ap Some (sym c.from-bytes.ensures) in (
      omega (arith, c.loop-number.invariant.0),
      sum_goes_on sizes c.args.note.now.parts c.loop-number.number c.loop-number.bytes c.from-bytes.result c.loop-number-test.true there c.loop-number.invariant.1,
    )
