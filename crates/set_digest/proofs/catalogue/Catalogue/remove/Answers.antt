use Rattle.std.proofs.Common.{◌≡◌, ◌+◌, ◌<◌, ℕ, List, length, min, cond, is_some, sym, ap, ◌∙◌, subst, arith}
use Rattle.std.specs.List.{remove}
use Rattle.std.proofs.lemmas.List.{length-map}
use Rattle.set_digest.specs.Catalogue.{Catalogued, Listed, AreRising, count_of, sets_of}
use Rattle.set_digest.specs.Pool.{listed_at}
use Rattle.set_digest.proofs.PoolLaws.{map-remove}
use Rattle.set_digest.proofs.SetLaws.{found, absent, rising_remove}
use Rattle.set_digest.proofs.catalogue.Catalogue.remove.Goals as goal

pub invariant_of-self : goal.invariant_of-self
invariant_of-self c =
    let at = c.in-Ok.at in
    let sets = c.self.inside.sets.items in
    let listed = ap sets_of c.take_row.ensures.listed ∙ map-remove (λ (l : Listed). l.set) c.self.inside.pool.listed at in
    let items = c.remove.ensures.items in
    let within : at < length sets = omega (arith, c.in-Ok.ensures.found.in_range, length-map c.args.self.now.listed (λ (l : Listed). l.set), ap (λ (l : List ℕ). length l) c.self.invariant.0, ap (λ (x : Catalogued). length (sets_of x.listed)) c.self.view_is) in
    (items ∙ ap (λ (l : List ℕ). remove l at) c.self.invariant.0 ∙ sym listed, subst AreRising (sym items) (rising_remove sets at c.self.invariant.1 within))

pub returns-in-Ok-clause-listed : goal.returns-in-Ok-clause-listed
returns-in-Ok-clause-listed c =
    let it = found c.args.self.now.listed c.args.set c.in-Ok.at c.in-Ok.ensures.rising c.in-Ok.ensures.found in
    c.take_row.ensures.listed ∙ ap (λ (x : Catalogued). remove x.listed c.in-Ok.at) c.self.view_is ∙ sym it.gone

pub returns-in-Ok-clause-sets : goal.returns-in-Ok-clause-sets
returns-in-Ok-clause-sets c =
    let n = c.args.self.now.spare_sets in
    let it = found c.args.self.now.listed c.args.set c.in-Ok.at c.in-Ok.ensures.rising c.in-Ok.ensures.found in
    let sets = c.self.inside.sets in
    let more : min _ c.take_row.new.self.spare_rows ≡ n + 1 = omega (arith, c.remove.ensures.len, c.remove.ensures.capacity, c.take_row.ensures.rows, ap (λ (x : Catalogued). x.spare_sets) c.self.view_is, sets.ok, c.remove.new.self.ok) in
    more ∙ ap (λ o. n + cond (is_some o) 1 0) (sym it.lines)

pub returns-in-Ok-clause-lines : goal.returns-in-Ok-clause-lines
returns-in-Ok-clause-lines c =
    let it = found c.args.self.now.listed c.args.set c.in-Ok.at c.in-Ok.ensures.rising c.in-Ok.ensures.found in
    c.take_row.ensures.lines ∙ ap (λ (x : Catalogued). x.spare_lines + length (listed_at x.listed c.in-Ok.at).lines) c.self.view_is ∙ ap (λ n. c.args.self.now.spare_lines + n) (sym (ap count_of it.lines))

pub returns-in-Err-clause-listed : goal.returns-in-Err-clause-listed
returns-in-Err-clause-listed c = sym (absent c.args.self.now.listed c.args.set _ c.in-Err.ensures.absent).gone

pub returns-in-Err-clause-sets : goal.returns-in-Err-clause-sets
returns-in-Err-clause-sets c =
    let n = c.args.self.now.spare_sets in
    let it = absent c.args.self.now.listed c.args.set _ c.in-Err.ensures.absent in
    (let e : n ≡ n + 0 = omega arith in e) ∙ ap (λ o. n + cond (is_some o) 1 0) (sym it.lines)

pub returns-in-Err-clause-lines : goal.returns-in-Err-clause-lines
returns-in-Err-clause-lines c =
    let it = absent c.args.self.now.listed c.args.set _ c.in-Err.ensures.absent in
    omega (arith, ap count_of it.lines)
