use Rattle.std.proofs.Common.{◌≡◌, ◌-◌, ◌<◌, ◌≤◌, ℕ, List, length, min, set, cond, is_ok, is_some, true, sym, ap, ◌∙◌, refl, subst, arith}
use Rattle.std.specs.List.{insert}
use Rattle.std.proofs.lemmas.List.{length-map}
use Rattle.std.proofs.lemmas.List.Edits.{length-insert}
use Rattle.set_digest.specs.declared.line.Line.{Line}
use Rattle.set_digest.specs.Catalogue.{Catalogued, Listed, AreRising, sets_of, lines_of, lengthened, begun_by}
use Rattle.set_digest.specs.Pool.{listed_at}
use Rattle.set_digest.proofs.PoolLaws.{map-insert}
use Rattle.set_digest.proofs.SetLaws.{Absent, found, absent, has_room, same_sets, rising_insert}
use Rattle.set_digest.proofs.catalogue.Catalogue.add_line.Goals as goal
use Rattle.set_digest.proofs.catalogue.Catalogue.add_line.Goals.{After-put_row}

-- ---- a set that is listed

pub invariant_of-self : goal.invariant_of-self
invariant_of-self c = (c.self.invariant.0 ∙ sym (ap sets_of c.put_line.ensures.listed ∙ same_sets c.self.inside.pool.listed c.in-Ok.at _ refl), c.self.invariant.1)

pub returns-in-Ok-clause-listed : goal.returns-in-Ok-clause-listed
returns-in-Ok-clause-listed c =
    let old = c.args.self.now.listed in
    let it = found old c.args.set c.in-Ok.at c.in-Ok.ensures.rising c.in-Ok.ensures.found in
    c.put_line.ensures.listed
    ∙ ap (λ (x : Catalogued). set x.listed c.in-Ok.at (lengthened c.copied.result (listed_at x.listed c.in-Ok.at))) c.self.view_is
    ∙ ap (λ (l : Line). set old c.in-Ok.at (lengthened l (listed_at old c.in-Ok.at))) c.copied.ensures
    ∙ sym (it.longer c.args.line.now)

pub returns-in-Ok-clause-sets : goal.returns-in-Ok-clause-sets
returns-in-Ok-clause-sets c =
    let n = c.args.self.now.spare_sets in
    let it = found c.args.self.now.listed c.args.set c.in-Ok.at c.in-Ok.ensures.rising c.in-Ok.ensures.found in
    ap (min _) c.put_line.ensures.rows
    ∙ ap (λ (x : Catalogued). x.spare_sets) c.self.view_is
    ∙ (let e : n ≡ n - 0 = omega arith in e)
    ∙ ap (λ o. n - cond (is_some o) 0 1) (sym it.lines)

-- ---- a set that isn't

-- there is room for it among the numbers
record Inserted (c : After-put_row) : Type 0 where
  it : Absent c.args.self.now.listed c.args.set c.in-Err.at
  some : 1 ≤ c.args.self.now.spare_sets
  room : c.self.inside.sets.len < c.self.inside.sets.cap
  items : c.insert.new.self.items ≡ insert (sets_of c.args.self.now.listed) c.in-Err.at c.args.set

inserted : (c : After-put_row) → Inserted c
inserted c =
    let old = c.args.self.now.listed in
    let it = absent old c.args.set c.in-Err.at c.in-Err.ensures.absent in
    let some = has_room (lines_of c.args.set old) c.args.self.now.spare_sets it.lines c.requires.set_room in
    let room : c.self.inside.sets.len < c.self.inside.sets.cap = omega (arith, some, ap (λ (x : Catalogued). x.spare_sets) c.self.view_is, c.self.inside.sets.ok) in
    let ok : is_ok c.insert.result ≡ true = c.insert.ensures.succeeds room in
    record {
      it = it;
      some = some;
      room = room;
      items = c.insert.ensures.items
          ∙ ap (λ b. cond b (insert c.self.inside.sets.items c.in-Err.at c.args.set) c.self.inside.sets.items) ok
          ∙ ap (λ (l : List ℕ). insert l c.in-Err.at c.args.set) (c.self.invariant.0 ∙ ap (λ (x : Catalogued). sets_of x.listed) c.self.view_is);
    }

pub put_row-requires-clause-room : goal.put_row-requires-clause-room
put_row-requires-clause-room c =
    let it = absent c.args.self.now.listed c.args.set c.in-Err.at c.in-Err.ensures.absent in
    let some = has_room (lines_of c.args.set c.args.self.now.listed) c.args.self.now.spare_sets it.lines c.requires.set_room in
    omega (arith, some, ap (λ (x : Catalogued). x.spare_sets) c.self.view_is)

pub invariant_of-self-in-Err : goal.invariant_of-self-in-Err
invariant_of-self-in-Err c =
    let old = c.args.self.now.listed in
    let gap = c.in-Err.ensures.absent in
    let it = inserted c in
    let long = length-map old (λ (l : Listed). l.set) in
    let listed = ap sets_of (c.put_row.ensures.listed ∙ ap (λ (x : Catalogued). insert x.listed c.in-Err.at (begun_by c.args.set c.copied-in-Err.result)) c.self.view_is) ∙ map-insert (λ (l : Listed). l.set) old c.in-Err.at (begun_by c.args.set c.copied-in-Err.result) in
    let rising = rising_insert (sets_of old) c.args.set c.in-Err.at c.in-Err.ensures.rising (omega (arith, gap.in_range, long)) gap.smaller_before (λ j le lt. gap.greater_after j le (omega (arith, lt, long))) in
    (it.items ∙ sym listed, subst AreRising (sym it.items) rising)

pub returns-in-Err-clause-listed : goal.returns-in-Err-clause-listed
returns-in-Err-clause-listed c =
    let old = c.args.self.now.listed in
    c.put_row.ensures.listed
    ∙ ap (λ (x : Catalogued). insert x.listed c.in-Err.at (begun_by c.args.set c.copied-in-Err.result)) c.self.view_is
    ∙ ap (λ (l : Line). insert old c.in-Err.at (begun_by c.args.set l)) c.copied-in-Err.ensures
    ∙ sym ((inserted c).it.longer c.args.line.now)

pub returns-in-Err-clause-sets : goal.returns-in-Err-clause-sets
returns-in-Err-clause-sets c =
    let n = c.args.self.now.spare_sets in
    let it = inserted c in
    let sets = c.self.inside.sets in
    let long = ap (λ (l : List ℕ). length l) (c.insert.ensures.items ∙ ap (λ b. cond b (insert sets.items c.in-Err.at c.args.set) sets.items) (c.insert.ensures.succeeds it.room)) in
    let more = length-insert sets.items c.in-Err.at c.args.set (omega (arith, c.in-Err.ensures.absent.in_range, length-map c.args.self.now.listed (λ (l : Listed). l.set), ap (λ (l : List ℕ). length l) c.self.invariant.0, ap (λ (x : Catalogued). length (sets_of x.listed)) c.self.view_is)) in
    let less : min _ c.put_row.new.self.spare_rows ≡ n - 1 = omega (arith, it.room, long, more, (c.insert.ensures.in_place it.room).1.0, c.put_row.ensures.rows, ap (λ (x : Catalogued). x.spare_sets) c.self.view_is, sets.ok) in
    less ∙ ap (λ o. n - cond (is_some o) 0 1) (sym it.it.lines)
