use Rattle.std.proofs.Common.{subst, sym, ◌∙◌, IfErr}
use Rattle.set_digest.specs.Catalogue.{Catalogued, AreRising, IsGapFor}
use Rattle.set_digest.proofs.SetLaws.{searched_sets}
use Rattle.set_digest.proofs.catalogue.Catalogue.search.Goals as goal

pub returns-clause-absent : goal.returns-clause-absent
returns-clause-absent c =
    let value = c.deref.ensures.value in
    subst (λ (x : Catalogued). IfErr c.binary_search.result (IsGapFor x.listed c.args.set)) c.self.view_is
    (searched_sets c.self.inside.pool.listed c.deref.result.now c.args.set c.binary_search.result (value ∙ c.self.invariant.0) (subst AreRising (sym value) c.self.invariant.1) c.binary_search.ensures.position)
