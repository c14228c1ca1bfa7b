use Rattle.std.proofs.Common.{◌+◌, ℕ, ap, ap₂, sym, subst, ◌∙◌}
use Rattle.std.specs.List.{AllByRecursion}
use Rattle.std.specs.Option.{option_copied}
use Rattle.array_scan.specs.declared.judge.SetScan.{SetScan}
use Rattle.array_scan.specs.SetRead.{FitsBay}
use Rattle.array_scan.specs.Scan.{placed_in}
use Rattle.array_scan.proofs.Calls.{told_at, told_from, ok_with}
use Rattle.array_scan.proofs.NamedObjects.{sets_k, sets_fit, needed_named, needed_none}
use Rattle.array_scan.proofs.answers.Scan.needed.Goals as goal

pub returns-in_default-clause-needed : goal.returns-in_default-clause-needed
returns-in_default-clause-needed g c =
    let bay = g.B.Bay.state c.args.bay.now in
    told_from bay.contents _ (λ held is away scan. ap (placed_in bay.shape held away) c.new.ensures.items ∙ needed_none bay.shape held away c.args.self.now scan (ap option_copied (sym c.in_default.is) ∙ c.label.ensures))

pub needed_of-requires : goal.needed_of-requires
needed_of-requires g c =
    let bay = g.B.Bay.state c.args.bay.now in
    let scan = c.args.self.now in
    let l = c.in-Some.label.now in
    let code = c.new-code.result in
    let first = ap option_copied (sym c.in-Some.is) ∙ c.label.ensures in
    record {
      k = sets_k bay.shape scan l c.requires first ∙ sym c.new-code.ensures.k;
      fit = subst (λ (n : ℕ). AllByRecursion (λ (s : SetScan). FitsBay bay.shape n s.read) scan.sets.list.items) (sym (ap₂ ◌+◌ c.new-code.ensures.k c.new-code.ensures.p)) (sets_fit bay.shape scan l c.requires first);
    }

pub returns-clause-needed : goal.returns-clause-needed
returns-clause-needed g c =
    let bay = g.B.Bay.state c.args.bay.now in
    let l = c.in-Some.label.now in
    told_from bay.contents _ (λ held is.
    ok_with c.needed_of.result _ _
    (λ needed found away scan. needed_named bay.shape held away c.args.self.now scan l (ap option_copied (sym c.in-Some.is) ∙ c.label.ensures) c.new-code.result.k c.new-code.ensures.k needed.items found)
    (told_at bay.contents _ held is c.needed_of.ensures.needed))
