use Rattle.std.proofs.Common.{◌≡◌, length, Some, None, refl, sym, ap, subst, ◌∙◌, arith}
use Rattle.std.specs.FinMap as finmap
use Rattle.smore_base.specs.Name.{IsName}
use Rattle.object_machine.specs.declared.op.Op.TheVariants.{Get}
use Rattle.object_machine.specs.declared.reply.Refusal.TheVariants.{NameBad, TooLarge, Damaged}
use Rattle.object_machine.specs.declared.reply.Reply.TheVariants.{NotFound}
use Rattle.store_core.specs.declared.extent.Extent.TheVariants.{Sized, Broken}
use Rattle.store_core.specs.Index.{notes_in}
use Rattle.store_core.proofs.CoreSteps.{steps_answered, steps_refused, knows_note, knows_none}
use Rattle.store_core.proofs.store.Core.get.Goals as goal

pub returns-in-Err : goal.returns-in-Err
returns-in-Err g c =
    let core = c.args.self.now in
    let name = c.args.name.now in
    let bad = c.in-Err.ensures.bad in
    let same = c.as_slice.ensures in
    steps_refused core core (refl, refl, refl, refl, refl) (Get name) (NameBad c.in-Err.field-0.length) _ c.refused.ensures
    (λ named. bad.1 (subst IsName (sym same) named), bad.0 ∙ ap length same)

pub returns-in_default-note : goal.returns-in_default-note
returns-in_default-note g c =
    let core = c.args.self.now in
    let name = c.args.name.now in
    let named : IsName name = subst IsName c.as_slice.ensures c.in_default.ensures.name.1 in
    let none : finmap.get (notes_in core.index) name ≡ None = ap (finmap.get (notes_in core.index)) (sym c.as_slice-2.ensures) ∙ sym c.note.ensures ∙ c.in_default-note.is in
    steps_answered core core (refl, refl, refl, refl, refl) (Get name) NotFound (named, knows_none core name none) tt tt tt

pub returns-in-Broken : goal.returns-in-Broken
returns-in-Broken g c =
    let core = c.args.self.now in
    let name = c.args.name.now in
    let named : IsName name = subst IsName c.as_slice.ensures c.in_default.ensures.name.1 in
    let noted : finmap.get (notes_in core.index) name ≡ Some c.in-Some.note = ap (finmap.get (notes_in core.index)) (sym c.as_slice-2.ensures) ∙ sym c.note.ensures ∙ c.in-Some.is in
    steps_refused core core (refl, refl, refl, refl, refl) (Get name) (Damaged c.in-Broken.upload c.in-Broken.part) _ c.refused-in-Broken.ensures
    (named, knows_note core name c.in-Some.note (Broken c.in-Broken.upload c.in-Broken.part) noted (sym c.extent.ensures ∙ c.in-Broken.is))

pub returns-in-Sized : goal.returns-in-Sized
returns-in-Sized g c =
    let core = c.args.self.now in
    let name = c.args.name.now in
    let named : IsName name = subst IsName c.as_slice.ensures c.in_default.ensures.name.1 in
    let noted : finmap.get (notes_in core.index) name ≡ Some c.in-Some.note = ap (finmap.get (notes_in core.index)) (sym c.as_slice-2.ensures) ∙ sym c.note.ensures ∙ c.in-Some.is in
    let same = c.from-in-Sized.ensures in
    steps_refused core core (refl, refl, refl, refl, refl) (Get name) (TooLarge c.from-in-Sized.result) _ c.refused-in-Sized.ensures
    (named, knows_note core name c.in-Some.note (Sized c.in-Sized.bytes) noted (sym c.extent.ensures ∙ c.in-Sized.is) ∙ ap (λ n. Some (Sized n)) (sym same), omega (arith, same, c.from.ensures, c.if-from-gt-MAX_OBJECT_BYTES.true))
