use Rattle.std.proofs.Common.{List, Some, sym, ap, ◌∙◌}
use Rattle.set_digest.specs.declared.line.Line.{Line}
use Rattle.set_digest.specs.Catalogue.{Catalogued}
use Rattle.set_digest.specs.Pool.{listed_at}
use Rattle.set_digest.proofs.SetLaws.{found, absent}
use Rattle.set_digest.proofs.catalogue.Catalogue.lines.Goals as goal

pub returns-in-Ok : goal.returns-in-Ok
returns-in-Ok c =
    let it = found c.args.self.now.listed c.args.set c.in-Ok.at c.in-Ok.ensures.rising c.in-Ok.ensures.found in
    ap (λ (l : List Line). Some l) (c.lines.ensures ∙ ap (λ (x : Catalogued). (listed_at x.listed c.in-Ok.at).lines) c.self.view_is) ∙ sym it.lines

pub returns-in-Err : goal.returns-in-Err
returns-in-Err c = sym (absent c.args.self.now.listed c.args.set _ c.in-Err.ensures.absent).lines
