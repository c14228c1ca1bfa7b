use Rattle.std.proofs.Common.{◌≡◌, Bool, true, false, length, Option, Some, None, refl, sym, ap, subst, ◌∙◌}
use Rattle.std.specs.Prelude.{IsSome, is_some, not}
use Rattle.std.specs.FinMap as finmap
use Rattle.smore_base.specs.Name.{IsName}
use Rattle.object_machine.specs.declared.op.Op.TheVariants.{Delete}
use Rattle.object_machine.specs.declared.reply.Refusal.TheVariants.{NameBad}
use Rattle.object_machine.specs.declared.reply.Reply.TheVariants.{NotFound}
use Rattle.store_core.specs.declared.index.Note.{Note}
use Rattle.store_core.specs.Index.{notes_in}
use Rattle.store_core.specs.Core.{case_of}
use Rattle.store_core.proofs.StoreMoves.{delete_refused}
use Rattle.store_core.proofs.CoreSteps.{steps_answered, steps_refused, knows_none, knows_some}
use Rattle.store_core.proofs.store.Core.delete.Goals as goal

none_of : (o : Option Note) (b : Bool) → is_some o ≡ not b → b ≡ true → o ≡ None
none_of None b e is = refl
none_of (Some note) b e is = absurd (let no : true ≡ false = e ∙ ap not is in cc)

pub returns-in-Err : goal.returns-in-Err
returns-in-Err g c =
    let core = c.args.self.now in
    let bad = c.in-Err.ensures.bad in
    let same = c.as_slice-key.ensures in
    steps_refused core core (refl, refl, refl, refl, refl) (Delete c.args.name.now) (NameBad c.in-Err.field-0.length) _ c.refused.ensures
    (λ named. bad.1 (subst IsName (sym same) named), bad.0 ∙ ap length same)

pub returns-then-is_none : goal.returns-then-is_none
returns-then-is_none g c =
    let core = c.args.self.now in
    let name = c.args.name.now in
    let named : IsName name = subst IsName c.as_slice-key.ensures c.in-Ok.ensures.name.1 in
    let none : finmap.get (notes_in core.index) name ≡ None = ap (finmap.get (notes_in core.index)) (sym c.as_slice-key.ensures) ∙ sym c.note.ensures ∙ none_of c.note.result c.is_none.result c.is_none.ensures c.if-is_none.true in
    steps_answered core core (refl, refl, refl, refl, refl) (Delete name) NotFound (named, knows_none core name none) tt tt tt

pub returns-in-Some : goal.returns-in-Some
returns-in-Some g c =
    let core = c.args.self.now in
    let name = c.args.name.now in
    let same = c.as_slice-key.ensures in
    let named : IsName name = subst IsName same c.in-Ok.ensures.name.1 in
    let noted : IsSome (finmap.get (notes_in core.index) name) = subst IsSome (c.note.ensures ∙ ap (finmap.get (notes_in core.index)) same) (c.is_none.ensures ∙ ap not c.if-is_none.false) in
    steps_refused core core (refl, refl, refl, refl, refl) (Delete name) c.in-Some.why _ c.refused-in-Some.ensures
    (delete_refused (case_of core core) name c.in-Some.why named (knows_some core name noted) c.in-Some.ensures)

pub append_delete-requires-clause-may : goal.append_delete-requires-clause-may
append_delete-requires-clause-may g c =
    let core = c.args.self.now in
    let key = c.as_slice-key.result.now in
    let noted : IsSome (finmap.get (notes_in core.index) key) = subst IsSome c.note.ensures (c.is_none.ensures ∙ ap not c.if-is_none.false) in
    record {
      named = c.in-Ok.ensures.name.1;
      there = knows_some core key noted;
      may = c.in_default.ensures.0;
      works = c.in_default.ensures.1;
    }
