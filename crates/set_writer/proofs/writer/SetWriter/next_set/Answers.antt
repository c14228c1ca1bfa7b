use Rattle.std.proofs.Common.{◌≡◌, ℕ, ◌/◌, true, [], length, Result, Ok, Err, inr, sym, ap, subst, ◌∙◌, arith}
use Rattle.std.specs.Prelude.{OnOk, MatchResult}
use Rattle.zone_bay.specs.Bay.{BayState}
use Rattle.set_table.specs.Table.{Table}
use Rattle.set_writer.specs.declared.refusal.WriteRefusal.{WriteRefusal}
use Rattle.set_writer.specs.declared.refusal.WriteRefusal.TheVariants.{Memory, TooFew, NoFit, Short}
use Rattle.set_writer.specs.Writer.{Writer, array_by, begun, opening}
use Rattle.set_writer.specs.Fit.{has_enough}
use Rattle.set_writer.specs.Refusal.{ShortRefusal}
use Rattle.set_writer.specs.Calls.{FitsSome, StillFits, OldHolds, Began, Follows, NextRefusal}
use Rattle.set_writer.proofs.FitLaws.{open_listed}
use Rattle.set_writer.proofs.NextLaws.{next_hold, follows, follows_spare, follows_set, follows_open, follows_some, follows_room, follows_old, still_some, ended_holds}
use Rattle.set_writer.proofs.writer.SetWriter.next_set.Goals as goal

pub start-requires-clause-held : goal.start-requires-clause-held
start-requires-clause-held g c = next_hold c.args.self.now c.args.table.now c.end.new.table c.form_set.new.self c.args.id c.in_default-form_set.field-0.items (g.B.Bay.state c.args.bay.now) (g.B.Bay.state c.end.new.bay) c.end.ensures.together c.requires.absent c.end.ensures.ends c.in_default-form_set.ensures.1 c.requires.held

-- what is answered once the next set was opened
answered : (set' s least : ℕ) (w w' : Writer) (t t' : Table) (old new : BayState) (r : Result (Unit {0}) WriteRefusal) → s ≡ set' → Follows set' least w w' t t' old new → MatchResult r (λ _. has_enough t' s ≡ true) (ShortRefusal t' s)
    → MatchResult r (λ _. Follows set' least w w' t t' old new × (has_enough t' set' ≡ true)) (NextRefusal set' least w w' t t' old new)
answered set' s least w w' t t' old new (Ok u) same follows is = (follows, ap (has_enough t') (sym same) ∙ is)
answered set' s least w w' t t' old new (Err (Short told missing)) same follows is = inr (follows, subst (λ n. ShortRefusal t' n (Short told missing)) same is)
answered set' s least w w' t t' old new (Err Memory) same follows is = absurd is
answered set' s least w w' t t' old new (Err (TooFew live)) same follows is = absurd is
answered set' s least w w' t t' old new (Err (NoFit blocks left)) same follows is = absurd is

pub returns-clause-answer : goal.returns-clause-answer
returns-clause-answer g c =
    let w = c.args.self.now in
    let began = subst (λ (v : Writer). Began (begun v c.args.id) (opening (array_by v) c.args.id []) c.start.new.self c.form_set.new.self c.start.new.table (g.B.Bay.state c.end.new.bay) (g.B.Bay.state c.start.new.bay)) c.end.ensures.writer c.start.ensures.began in
    answered c.args.id c.self.inside.set c.args.least w c.start.new.self c.args.table.now c.start.new.table (g.B.Bay.state c.args.bay.now) (g.B.Bay.state c.start.new.bay) c.check_live.result
    (ap (λ (v : Writer). v.set) c.self.view_is ∙ follows_set w c.start.new.self c.args.table.now c.end.new.table c.form_set.new.self c.start.new.table c.args.id c.in_default-form_set.field-0.items _ _ _ (g.met.B.Bay.sound c.args.bay.now) (g.met.B.Bay.sound c.end.new.bay) (g.met.B.Bay.sound c.start.new.bay) c.requires.of.array c.end.ensures.together c.requires.absent c.end.ensures.ends c.in_default-form_set.ensures.1 began c.start.ensures.firm)
    (follows w c.start.new.self c.args.table.now c.end.new.table c.form_set.new.self c.start.new.table c.args.id c.in_default-form_set.field-0.items _ _ _ (g.met.B.Bay.sound c.args.bay.now) (g.met.B.Bay.sound c.end.new.bay) (g.met.B.Bay.sound c.start.new.bay) c.requires.of.array c.end.ensures.together c.requires.absent c.end.ensures.ends c.in_default-form_set.ensures.1 began c.start.ensures.firm c.args.least c.in_default-form_set.ensures.0 c.in_default.ensures.answer c.requires.held c.start.ensures.others c.start.ensures.calls)
    c.check_live.ensures

pub returns-clause-spare : goal.returns-clause-spare
returns-clause-spare g c =
    let w = c.args.self.now in
    let began = subst (λ (v : Writer). Began (begun v c.args.id) (opening (array_by v) c.args.id []) c.start.new.self c.form_set.new.self c.start.new.table (g.B.Bay.state c.end.new.bay) (g.B.Bay.state c.start.new.bay)) c.end.ensures.writer c.start.ensures.began in
    let open_ = ap (λ (v : Writer). v.is_closed) c.self.view_is ∙ follows_open w c.start.new.self c.args.table.now c.end.new.table c.form_set.new.self c.start.new.table c.args.id c.in_default-form_set.field-0.items _ _ _ (g.met.B.Bay.sound c.args.bay.now) (g.met.B.Bay.sound c.end.new.bay) (g.met.B.Bay.sound c.start.new.bay) c.requires.of.array c.end.ensures.together c.requires.absent c.end.ensures.ends c.in_default-form_set.ensures.1 began c.start.ensures.firm in
    let listed = open_listed c.self.inside.geometry (record { set = c.self.inside.set; used = c.self.inside.used; records = c.self.inside.records; lines = length c.self.inside.lines.items; is_closed = c.self.inside.is_closed }) open_ c.self.invariant.can in
    let lines = ap (λ (v : Writer). length v.lines / 320) c.self.view_is in
    let records = ap (λ (v : Writer). v.records) c.self.view_is in
    follows_spare w c.start.new.self c.args.table.now c.end.new.table c.form_set.new.self c.start.new.table c.args.id c.in_default-form_set.field-0.items _ _ _ (g.met.B.Bay.sound c.args.bay.now) (g.met.B.Bay.sound c.end.new.bay) (g.met.B.Bay.sound c.start.new.bay) c.requires.of.array c.end.ensures.together c.requires.absent c.end.ensures.ends c.in_default-form_set.ensures.1 began c.start.ensures.firm
    (omega (arith, listed, lines, records))

pub returns-clause-held : goal.returns-clause-held
returns-clause-held g c =
    let w = c.args.self.now in
    let began = subst (λ (v : Writer). Began (begun v c.args.id) (opening (array_by v) c.args.id []) c.start.new.self c.form_set.new.self c.start.new.table (g.B.Bay.state c.end.new.bay) (g.B.Bay.state c.start.new.bay)) c.end.ensures.writer c.start.ensures.began in
    follows_some w c.start.new.self c.args.table.now c.end.new.table c.form_set.new.self c.start.new.table c.args.id c.in_default-form_set.field-0.items _ _ _ (g.met.B.Bay.sound c.args.bay.now) (g.met.B.Bay.sound c.end.new.bay) (g.met.B.Bay.sound c.start.new.bay) c.requires.of.array c.end.ensures.together c.requires.absent c.end.ensures.ends c.in_default-form_set.ensures.1 began c.start.ensures.firm c.requires.held

pub returns-clause-room : goal.returns-clause-room
returns-clause-room g c =
    let w = c.args.self.now in
    let began = subst (λ (v : Writer). Began (begun v c.args.id) (opening (array_by v) c.args.id []) c.start.new.self c.form_set.new.self c.start.new.table (g.B.Bay.state c.end.new.bay) (g.B.Bay.state c.start.new.bay)) c.end.ensures.writer c.start.ensures.began in
    follows_room w c.start.new.self c.args.table.now c.end.new.table c.form_set.new.self c.start.new.table c.args.id c.in_default-form_set.field-0.items _ _ _ (g.met.B.Bay.sound c.args.bay.now) (g.met.B.Bay.sound c.end.new.bay) (g.met.B.Bay.sound c.start.new.bay) c.requires.of.array c.end.ensures.together c.requires.absent c.end.ensures.ends c.in_default-form_set.ensures.1 began c.start.ensures.firm

-- where no set is opened
pub returns-in-Err-clause-held : goal.returns-in-Err-clause-held
returns-in-Err-clause-held g c = still_some c.args.self.now c.end.new.self c.args.table.now c.end.new.table (g.B.Bay.state c.args.bay.now) (g.B.Bay.state c.end.new.bay) c.in-Err.ensures.held c.requires.held

pub returns-in-Err-form_set-clause-held : goal.returns-in-Err-form_set-clause-held
returns-in-Err-form_set-clause-held g c =
    subst (λ (t : Table). FitsSome c.end.new.self t (g.B.Bay.state c.end.new.bay)) (sym c.in-Err-form_set.ensures.2)
    (still_some c.args.self.now c.end.new.self c.args.table.now c.end.new.table (g.B.Bay.state c.args.bay.now) (g.B.Bay.state c.end.new.bay) c.end.ensures.held c.requires.held)

-- ---- the old set

pub returns-clause-old : goal.returns-clause-old
returns-clause-old g c =
    let w = c.args.self.now in
    let began = subst (λ (v : Writer). Began (begun v c.args.id) (opening (array_by v) c.args.id []) c.start.new.self c.form_set.new.self c.start.new.table (g.B.Bay.state c.end.new.bay) (g.B.Bay.state c.start.new.bay)) c.end.ensures.writer c.start.ensures.began in
    λ other. follows_old w c.start.new.self c.args.table.now c.end.new.table c.form_set.new.self c.start.new.table c.args.id c.in_default-form_set.field-0.items _ _ _ (g.met.B.Bay.sound c.args.bay.now) (g.met.B.Bay.sound c.end.new.bay) (g.met.B.Bay.sound c.start.new.bay) c.requires.of.array c.end.ensures.together c.requires.absent c.end.ensures.ends c.in_default-form_set.ensures.1 began c.start.ensures.firm other
    (subst (λ (v : Writer). StillFits w v c.args.table.now c.end.new.table (g.B.Bay.state c.args.bay.now) (g.B.Bay.state c.end.new.bay)) c.end.ensures.writer c.end.ensures.held)

pub returns-in-Err-clause-old : goal.returns-in-Err-clause-old
returns-in-Err-clause-old g c = λ other. ended_holds c.args.self.now c.end.new.self c.args.table.now c.end.new.table (g.B.Bay.state c.args.bay.now) (g.B.Bay.state c.end.new.bay) c.in-Err.ensures.writer c.in-Err.ensures.held

pub returns-in-Err-form_set-clause-old : goal.returns-in-Err-form_set-clause-old
returns-in-Err-form_set-clause-old g c = λ other.
    subst (λ (t : Table). OldHolds c.args.self.now c.args.table.now t (g.B.Bay.state c.args.bay.now) (g.B.Bay.state c.end.new.bay)) (sym c.in-Err-form_set.ensures.2)
    (ended_holds c.args.self.now c.end.new.self c.args.table.now c.end.new.table (g.B.Bay.state c.args.bay.now) (g.B.Bay.state c.end.new.bay) c.end.ensures.writer c.end.ensures.held)

-- ---- the writer

on_ok : {P : Type 0} (r : Result (Unit {0}) WriteRefusal) → P → OnOk r P
on_ok (Ok u) is = is
on_ok (Err e) is = tt

pub returns-clause-own : goal.returns-clause-own
returns-clause-own g c =
    let w = c.args.self.now in
    let began = subst (λ (v : Writer). Began (begun v c.args.id) (opening (array_by v) c.args.id []) c.start.new.self c.form_set.new.self c.start.new.table (g.B.Bay.state c.end.new.bay) (g.B.Bay.state c.start.new.bay)) c.end.ensures.writer c.start.ensures.began in
    on_ok c.check_live.result (
      follows_set w c.start.new.self c.args.table.now c.end.new.table c.form_set.new.self c.start.new.table c.args.id c.in_default-form_set.field-0.items _ _ _ (g.met.B.Bay.sound c.args.bay.now) (g.met.B.Bay.sound c.end.new.bay) (g.met.B.Bay.sound c.start.new.bay) c.requires.of.array c.end.ensures.together c.requires.absent c.end.ensures.ends c.in_default-form_set.ensures.1 began c.start.ensures.firm,
      follows_open w c.start.new.self c.args.table.now c.end.new.table c.form_set.new.self c.start.new.table c.args.id c.in_default-form_set.field-0.items _ _ _ (g.met.B.Bay.sound c.args.bay.now) (g.met.B.Bay.sound c.end.new.bay) (g.met.B.Bay.sound c.start.new.bay) c.requires.of.array c.end.ensures.together c.requires.absent c.end.ensures.ends c.in_default-form_set.ensures.1 began c.start.ensures.firm,
    )
