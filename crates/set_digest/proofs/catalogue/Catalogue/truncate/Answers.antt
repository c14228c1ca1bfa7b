use Rattle.std.proofs.Common.{◌+◌, length, set, sym, ap, ◌∙◌, refl, arith}
use Rattle.set_digest.specs.Catalogue.{Catalogued, count_of, sets_of, shortened}
use Rattle.set_digest.specs.Pool.{listed_at}
use Rattle.set_digest.proofs.SetLaws.{found, absent, same_sets}
use Rattle.set_digest.proofs.catalogue.Catalogue.truncate.Goals as goal

pub cut_row-requires-clause-has : goal.cut_row-requires-clause-has
cut_row-requires-clause-has c =
    let it = found c.args.self.now.listed c.args.set c.in-Ok.at c.in-Ok.ensures.rising c.in-Ok.ensures.found in
    omega (arith, c.requires.has, ap count_of it.lines, ap (λ (x : Catalogued). length (listed_at x.listed c.in-Ok.at).lines) c.self.view_is)

pub invariant_of-self : goal.invariant_of-self
invariant_of-self c = (c.self.invariant.0 ∙ sym (ap sets_of c.cut_row.ensures.listed ∙ same_sets c.self.inside.pool.listed c.in-Ok.at _ refl), c.self.invariant.1)

pub returns-in-Ok-clause-listed : goal.returns-in-Ok-clause-listed
returns-in-Ok-clause-listed c =
    let it = found c.args.self.now.listed c.args.set c.in-Ok.at c.in-Ok.ensures.rising c.in-Ok.ensures.found in
    c.cut_row.ensures.listed
    ∙ ap (λ (x : Catalogued). set x.listed c.in-Ok.at (shortened c.args.lines (listed_at x.listed c.in-Ok.at))) c.self.view_is
    ∙ sym (it.shorter c.args.lines)

pub returns-in-Ok-clause-lines : goal.returns-in-Ok-clause-lines
returns-in-Ok-clause-lines c =
    let it = found c.args.self.now.listed c.args.set c.in-Ok.at c.in-Ok.ensures.rising c.in-Ok.ensures.found in
    c.cut_row.ensures.lines ∙ ap (λ (x : Catalogued). x.spare_lines + length (listed_at x.listed c.in-Ok.at).lines) c.self.view_is ∙ ap (λ n. c.args.self.now.spare_lines + n) (sym (ap count_of it.lines))

pub returns-in-Err-clause-listed : goal.returns-in-Err-clause-listed
returns-in-Err-clause-listed c = sym ((absent c.args.self.now.listed c.args.set _ c.in-Err.ensures.absent).shorter c.args.lines)

pub returns-in-Err-clause-lines : goal.returns-in-Err-clause-lines
returns-in-Err-clause-lines c =
    let it = absent c.args.self.now.listed c.args.set _ c.in-Err.ensures.absent in
    omega (arith, c.requires.has, ap count_of it.lines)
