use Rattle.std.proofs.Common.{◌≡◌, length, refl, sym, ap, subst, ◌∙◌, arith}
use Rattle.smore_base.specs.Name.{IsName}
use Rattle.object_machine.specs.declared.op.Op.TheVariants.{Put}
use Rattle.object_machine.specs.declared.reply.Refusal.TheVariants.{NameBad, TooLarge}
use Rattle.object_machine.specs.declared.reply.Reply.TheVariants.{Refused}
use Rattle.store_core.specs.declared.zone.Load.{Load}
use Rattle.store_core.specs.Store.{AppendCause, put_load}
use Rattle.store_core.specs.Core.{case_of}
use Rattle.store_core.proofs.StoreMoves.{put_refused}
use Rattle.store_core.proofs.CoreSteps.{steps_refused}
use Rattle.store_core.proofs.store.Core.put.Goals as goal

pub returns-in-Err : goal.returns-in-Err
returns-in-Err g c =
    let core = c.args.self.now in
    let bad = c.in-Err.ensures.bad in
    let same = c.as_slice-key.ensures in
    steps_refused core core (refl, refl, refl, refl, refl) (Put c.args.name.now c.args.object.now) (NameBad c.in-Err.field-0.length) _ c.refused.ensures
    (λ named. bad.1 (subst IsName (sym same) named), bad.0 ∙ ap length same)

pub returns-then-length-from : goal.returns-then-length-from
returns-then-length-from g c =
    let core = c.args.self.now in
    let named : IsName c.args.name.now = subst IsName c.as_slice-key.ensures c.in-Ok.ensures.name.1 in
    steps_refused core core (refl, refl, refl, refl, refl) (Put c.args.name.now c.args.object.now) (TooLarge c.len-length.result) _ c.refused-then-length-from.ensures
    (named, omega (arith, c.len-length.ensures, c.from.ensures, c.if-length-from.true), c.len-length.ensures)

pub returns-in-Some : goal.returns-in-Some
returns-in-Some g c =
    let core = c.args.self.now in
    let bytes = length c.args.object.now.bytes in
    let named : IsName c.args.name.now = subst IsName c.as_slice-key.ensures c.in-Ok.ensures.name.1 in
    let load : c.put_load-load.result ≡ put_load bytes = c.put_load-load.ensures ∙ ap put_load c.len-length.ensures in
    steps_refused core core (refl, refl, refl, refl, refl) (Put c.args.name.now c.args.object.now) c.in-Some.why _ c.refused-in-Some.ensures
    (put_refused (case_of core core) c.args.name.now bytes c.in-Some.why named (omega (arith, c.len-length.ensures, c.from.ensures, c.if-length-from.false))
    (subst (λ (l : Load). AppendCause (case_of core core) l (Refused c.in-Some.why)) load c.in-Some.ensures))
