use Rattle.std.proofs.Common.{◌≡◌, ℕ, ◌<◌, ◌≤◌, Bool, true, false, List, [], length, Some, Ok, Err, refl, sym, ap, subst, ◌∙◌, arith}
use Rattle.std.specs.FinMap as finmap
use Rattle.std.proofs.lemmas.List.{nil_from_length, take_at}
use Rattle.smore_base.specs.Objects.{Whole}
use Rattle.smore_base.proofs.Told.{IfSome-both}
use Rattle.object_machine.specs.declared.op.Op.TheVariants.{Get}
use Rattle.object_machine.specs.declared.reply.Refusal.{Refusal}
use Rattle.object_machine.specs.declared.reply.Refusal.TheVariants.{Memory, TooFewFragments}
use Rattle.object_machine.specs.declared.reply.Reply.TheVariants.{Object, Refused}
use Rattle.store_core.specs.declared.extent.Extent.TheVariants.{Sized}
use Rattle.store_core.specs.Index.{parts_in, extent_in}
use Rattle.store_core.specs.Get.{AllCanBeRead}
use Rattle.store_core.specs.Store.{IsReadable}
use Rattle.store_core.specs.Core.{case_of, standing_of}
use Rattle.store_core.proofs.CoreSteps.{if_some, if_all, steps_without, steps_as, steps_refused, steps_reading, all_written, all_readable, note_gives, knows_note}
use Rattle.store_core.proofs.store.Core.read.Goals as goal

not_nothing : (n : ℕ) → (n ≡ 0 → ⊥) → 0 < n
not_nothing n other = omega (arith, other)

not_lost : (lost : Bool) → lost ≡ false → lost ≡ true → ⊥
not_lost true works lost = cc
not_lost false works lost = cc

pub returns-then-note-eq0 : goal.returns-then-note-eq0
returns-then-note-eq0 g c name named noted =
    let core = c.args.self.now in
    let note = c.args.note.now in
    let none : c.from.result ≡ [] = c.from.ensures ∙ c.new.ensures.items in
    let sized : extent_in (parts_in core.index) note ≡ Sized 0 = c.requires.sized ∙ ap Sized c.if-note-eq0.true in
    let known : finmap.get (case_of core core).known name ≡ Some (Sized (length c.from.result)) = knows_note core name note (Sized 0) noted sized ∙ ap (λ (l : List ℕ). Some (Sized (length l))) (sym none) in
    let few : length c.from.result ≤ 16777216 = omega (arith, ap length none) in
    let gives = if_some (g.B.Bay.state core.bay).contents _ _ (λ held it. it.0 ∙ ap (λ (l : List ℕ). Some (Whole l)) (nil_from_length _ it.1 ∙ sym none)) (note_gives core name note 0 noted sized) in
    steps_without core core (refl, refl, refl, refl, refl) (Get name) (Object c.from.result) (named, known, few, λ lost. none) tt gives few

pub returns-then-self : goal.returns-then-self
returns-then-self g c name named noted =
    let core = c.args.self.now in
    let note = c.args.note.now in
    let readable : IsReadable (case_of core core) name note.length = record { known = knows_note core name note (Sized note.length) noted c.requires.sized; some = not_nothing note.length c.if-note-eq0.false; small = c.requires.small } in
    steps_refused core core (refl, refl, refl, refl, refl) (Get name) (TooFewFragments (standing_of core).set 2) _ (c.refused.ensures ∙ ap (λ (why : Refusal). Refused why) c.lost_refusal.ensures)
    (named, (note.length, readable), record { lost = c.if-self.true; set = refl; fragments = refl })

pub returns-in_default : goal.returns-in_default
returns-in_default g c name named noted =
    let core = c.args.self.now in
    let note = c.args.note.now in
    let readable : IsReadable (case_of core core) name note.length = record { known = knows_note core name note (Sized note.length) noted c.requires.sized; some = not_nothing note.length c.if-note-eq0.false; small = c.requires.small } in
    steps_refused core core (refl, refl, refl, refl, refl) (Get name) Memory _ c.refused-in_default.ensures (named, (note.length, readable), c.if-self.false)

pub read_parts-requires-clause-room : goal.read_parts-requires-clause-room
read_parts-requires-clause-room g c =
    let core = c.args.self.now in
    subst (λ n. AllCanBeRead (g.B.Bay.state core.bay).shape.blocks n (parts_in core.index) c.args.note.now.upload) (sym (ap length c.deref_mut.ensures.value)) (all_readable core c.args.note.now.upload)

pub read_parts-requires-clause-written : goal.read_parts-requires-clause-written
read_parts-requires-clause-written g c = all_written c.args.self.now c.args.note.now.upload

pub returns-in-Ok-read_parts : goal.returns-in-Ok-read_parts
returns-in-Ok-read_parts g c name named noted =
    let core = c.args.self.now in
    let note = c.args.note.now in
    let is = c.from-in-Ok-read_parts.ensures in
    let out = c.read_parts.new.out in
    let filled : length out ≡ c.in-Ok.bytes.len = c.in-Ok-read_parts.ensures.length ∙ c.deref_mut-2.ensures.len in
    let whole : c.from-in-Ok-read_parts.result ≡ out = is ∙ take_at out _ c.in-Ok.bytes.len filled in
    let long : length c.from-in-Ok-read_parts.result ≡ note.length = ap length whole ∙ filled ∙ c.in-Ok.ensures.len in
    let known : finmap.get (case_of core core).known name ≡ Some (Sized (length c.from-in-Ok-read_parts.result)) = knows_note core name note (Sized note.length) noted c.requires.sized ∙ ap (λ n. Some (Sized n)) (sym long) in
    let few : length c.from-in-Ok-read_parts.result ≤ 16777216 = omega (arith, long, c.requires.small) in
    let gives = IfSome-both (g.B.Bay.state core.bay).contents _ _ _ (note_gives core name note note.length noted c.requires.sized) c.in-Ok-read_parts.ensures.bytes
    (λ held it bytes. it.0 ∙ ap (λ (l : List ℕ). Some (Whole l)) (sym bytes ∙ sym whole)) in
    steps_reading (Ok c.in-Ok-read_parts.field-0) core _ name (Object c.from-in-Ok-read_parts.result) refl refl refl c.if-self.false c.if-self.false c.in-Ok-read_parts.ensures.reads
    (named, known, few, λ lost. absurd (not_lost core.is_lost c.if-self.false lost)) tt refl (λ calm. omega (arith, long, ap length calm, c.if-note-eq0.false)) gives few

pub returns-in-Err : goal.returns-in-Err
returns-in-Err g c name named noted =
    let core = c.args.self.now in
    let note = c.args.note.now in
    let why = TooFewFragments (standing_of core).set 2 in
    let is : c.refused-in-Err.result ≡ Refused why = c.refused-in-Err.ensures ∙ ap (λ (w : Refusal). Refused w) c.lost_refusal-in-Err.ensures in
    steps_as core _ (Get name) (Refused why) _ is
    (steps_reading (Err c.in-Err.field-0) core _ name (Refused why) refl refl refl c.if-self.false refl c.in-Err.ensures.reads
    (named, (note.length, record { known = knows_note core name note (Sized note.length) noted c.requires.sized; some = not_nothing note.length c.if-note-eq0.false; small = c.requires.small }), record { lost = refl; set = refl; fragments = refl })
    tt refl (λ calm. calm) (if_all (g.B.Bay.state core.bay).contents _ (λ held. tt)) tt)
