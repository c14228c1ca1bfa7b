use Rattle.std.proofs.Common.{◌≡◌, ◌<◌, ◌∙◌, List, ℕ, length, take, min, refl, sym, ap, subst, arith}
use Rattle.std.specs.Prelude.{◌↔◌, IsTrue}
use Rattle.std.specs.List.{All}
use Rattle.std.proofs.lemmas.List.{length-take}
use Rattle.std.proofs.lemmas.List.Elements.{All-take}
use Rattle.smore_base.specs.Name.{IsName}
use Rattle.object_machine.specs.declared.op.Op.TheVariants.{List as ListNames}
use Rattle.object_machine.specs.declared.reply.Reply.TheVariants.{Names}
use Rattle.object_machine.specs.declared.reply.Refusal.TheVariants.{Memory, NameBad}
use Rattle.store_core.specs.Extent.{names_above}
use Rattle.store_core.specs.Index.{notes_in, parts_in, extent_in}
use Rattle.store_core.specs.Core.{known_in}
use Rattle.store_core.specs.Store.{Lists}
use Rattle.store_core.proofs.Mapped.{above-mapped}
use Rattle.store_core.proofs.Listing.{all_above}
use Rattle.store_core.proofs.CoreSteps.{core_sound, steps_answered, steps_refused}
use Rattle.store_core.proofs.store.Core.list.Goals as goal

pub returns-then-length-gt-MAX_NAME_BYTES : goal.returns-then-length-gt-MAX_NAME_BYTES
returns-then-length-gt-MAX_NAME_BYTES g c =
    steps_refused c.args.self.now _ (refl, refl, refl, refl, refl) (ListNames c.args.after.now c.args.limit) (NameBad c.len-length.result) _ c.refused.ensures (omega arith, c.len-length.ensures)

pub names_above-requires : goal.names_above-requires
names_above-requires g c = (core_sound c.args.self.now).names

pub returns-in-Ok : goal.returns-in-Ok
returns-in-Ok g c =
    let core = c.args.self.now in
    let after = c.args.after.now in
    let notes = notes_in core.index in
    let limit = c.args.limit in
    let most = min limit 1000 in
    let known = names_above notes after in
    let above : names_above (known_in core) after ≡ known = above-mapped (extent_in (parts_in core.index)) notes after in
    let asked : names_above notes c.as_slice.result.now ≡ known = ap (names_above notes) c.as_slice.ensures in
    let first : c.in-Ok.names ≡ take most known = c.in-Ok.ensures.names ∙ ap (take c.min.result) asked ∙ ap (λ n. take n known) c.min.ensures in
    let lists : Lists (known_in core) after limit c.in-Ok.names c.in-Ok.more = record {
      first = first ∙ ap (take most) (sym above);
      others = subst (λ (l : List (List ℕ)). IsTrue c.in-Ok.more ↔ (most < length l)) (asked ∙ sym above) (subst (λ n. IsTrue c.in-Ok.more ↔ (n < length (names_above notes c.as_slice.result.now))) c.min.ensures c.in-Ok.ensures.more);
    } in
    let all : All IsName c.in-Ok.names = subst (All IsName) (sym first) (All-take IsName most known (all_above notes after IsName (core_sound core).names)) in
    steps_answered core _ (refl, refl, refl, refl, refl) (ListNames after limit) (Names c.in-Ok.names c.in-Ok.more) (omega arith, lists) tt tt (omega (arith, ap length first, length-take most known), all)

pub returns-in-Err : goal.returns-in-Err
returns-in-Err g c =
    steps_refused c.args.self.now _ (refl, refl, refl, refl, refl) (ListNames c.args.after.now c.args.limit) Memory _ c.refused-in-Err.ensures (omega arith)
