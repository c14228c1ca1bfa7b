use Rattle.std.proofs.Common.{ℕ, List, Some, ap, sym, subst, ◌∙◌}
use Rattle.std.specs.Prelude.{IsTrue, ◌↔◌}
use Rattle.std.specs.Option.{option_copied}
use Rattle.array_scan.specs.SetRead.{array_by}
use Rattle.array_scan.specs.Scan.{AreSetsOf}
use Rattle.array_scan.specs.Enough.{EachKeepsOn}
use Rattle.array_scan.proofs.Calls.{told_at, told_from, ok_with}
use Rattle.array_scan.proofs.NamedObjects.{kept_named}
use Rattle.array_scan.proofs.answers.Scan.keeps_carriers.Goals as goal

pub returns-in-Some-clause-kept : goal.returns-in-Some-clause-kept
returns-in-Some-clause-kept g c =
    let bay = g.B.Bay.state c.args.bay.now in
    let l = c.in-Some.label.now in
    let scan = c.args.self.now in
    let leaving = c.args.leaving.now in
    told_from bay.contents _ (λ held is.
    ok_with c.keep_carriers.result _ _
    (λ enough told away scanned.
    kept_named bay.shape held away scan scanned leaving l (ap option_copied (sym c.in-Some.is) ∙ c.label.ensures) enough
    (subst (λ (ds : List ℕ). AreSetsOf (Some (array_by l)) bay.shape held ds scan.sets → IsTrue enough ↔ EachKeepsOn (Some (array_by l)) bay.shape held ds leaving) c.deref.ensures.value told))
    (told_at bay.contents _ held is c.keep_carriers.ensures.kept))
