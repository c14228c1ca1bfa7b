use Rattle.std.proofs.Common.{ℕ, ◌∙◌, ◌+◌, ◌≤◌, List, IfSome, Err, sym, ap, subst}
use Rattle.set_table.specs.Table.{Table, with_empty_of}
use Rattle.set_writer.specs.Members.{HoldBlocks}
use Rattle.set_table.specs.Table.{array_of}
use Rattle.set_writer.specs.Writer.{Writer, EmptyHold, opening}
use Rattle.set_writer.proofs.FormedLaws.{reserved_hold}
use Rattle.zone_bay.specs.Bay.{BayState}
use Rattle.set_writer.specs.declared.refusal.WriteRefusal.{WriteRefusal}
use Rattle.set_writer.specs.declared.refusal.WriteRefusal.TheVariants.{Memory, TooFew, NoFit, Short}
use Rattle.set_writer.specs.Refusal.{ShortRefusal}
use Rattle.set_writer.specs.Calls.{Opens, OpenRefusal, WereEnough, KeepsRoom}
use Rattle.set_writer.proofs.WroteLaws.{written-stays}
use Rattle.set_writer.proofs.OpenedLaws.{opened_writer, opened_array, opened, opened_fits, opened_empty, opened_room}
use Rattle.set_writer.proofs.open.open_set.Goals as goal

pub begin-requires-clause-held : goal.begin-requires-clause-held
begin-requires-clause-held g c =
    let set_is = ap (λ (w : Writer). w.set) c.in-Ok.ensures.begun in
    subst (λ s. IfSome (g.B.Bay.state c.args.bay.now).contents (HoldBlocks c.form_set.new.self s 0)) (sym set_is)
    (reserved_hold c.args.table.now c.reserve.new.self c.form_set.new.self c.args.id c.in_default-form_set.field-0.items (g.B.Bay.state c.args.bay.now).contents c.reserve.ensures.kept c.for_table.ensures.together.listed c.requires.absent c.in_default-form_set.ensures.1 c.requires.empty)

pub returns-in-Ok-check_live-clause-answer : goal.returns-in-Ok-check_live-clause-answer
returns-in-Ok-check_live-clause-answer g c =
    let forms = c.in_default-form_set.ensures.1 in
    let began = c.begin.ensures.began in (
      opened_writer c.in-Ok.writer c.begin.new.self c.args.table.now c.reserve.new.self c.form_set.new.self c.begin.new.table c.args.id c.args.cuts.now _ _ _ c.in-Ok.ensures.begun c.in-Ok.ensures.array c.reserve.ensures.kept forms began,
      opened_array c.in-Ok.writer c.begin.new.self c.args.table.now c.reserve.new.self c.form_set.new.self c.begin.new.table c.args.id c.args.cuts.now _ _ _ c.in-Ok.ensures.begun c.in-Ok.ensures.array c.reserve.ensures.kept forms began,
      opened c.in-Ok.writer c.begin.new.self c.args.table.now c.reserve.new.self c.form_set.new.self c.begin.new.table c.args.id c.args.cuts.now _ _ _ c.in-Ok.ensures.begun c.in-Ok.ensures.array c.reserve.ensures.kept forms began c.begin.ensures.firm c.begin.ensures.others c.begin.ensures.calls,
      c.in-Ok-check_live.ensures,
    )

pub returns-in-Ok-check_live-clause-held : goal.returns-in-Ok-check_live-clause-held
returns-in-Ok-check_live-clause-held g c = opened_fits c.in-Ok.writer c.begin.new.self c.args.table.now c.reserve.new.self c.form_set.new.self c.begin.new.table c.args.id c.args.cuts.now _ _ _ c.in-Ok.ensures.begun c.in-Ok.ensures.array c.reserve.ensures.kept c.in_default-form_set.ensures.1 c.begin.ensures.began c.for_table.ensures.together.listed c.requires.absent c.requires.empty

-- too few of the members are left
short_open : (set' least : ℕ) (cuts : List (ℕ × ℕ)) (t t' : Table) (old new : BayState) (refusal : WriteRefusal) → (room : ℕ) × Opens set' cuts (record t { spare = room }) t' old new → ShortRefusal t' set' refusal → OpenRefusal set' least cuts t t' old new refusal
short_open set' least cuts t t' old new (Short told missing) opens is = (opens, is)
short_open set' least cuts t t' old new Memory opens is = absurd is
short_open set' least cuts t t' old new (TooFew live) opens is = absurd is
short_open set' least cuts t t' old new (NoFit blocks left) opens is = absurd is

pub returns-in-Err-check_live-clause-answer : goal.returns-in-Err-check_live-clause-answer
returns-in-Err-check_live-clause-answer g c = short_open c.args.id c.args.least c.args.cuts.now c.args.table.now c.begin.new.table (g.B.Bay.state c.args.bay.now) (g.B.Bay.state c.begin.new.bay) c.in-Err-check_live.refusal
    (opened c.in-Ok.writer c.begin.new.self c.args.table.now c.reserve.new.self c.form_set.new.self c.begin.new.table c.args.id c.args.cuts.now _ _ _ c.in-Ok.ensures.begun c.in-Ok.ensures.array c.reserve.ensures.kept c.in_default-form_set.ensures.1 c.begin.ensures.began c.begin.ensures.firm c.begin.ensures.others c.begin.ensures.calls)
    c.in-Err-check_live.ensures

-- enough drives had an empty zone
were_enough : (least : ℕ) (t : Table) (refusal : WriteRefusal) → least ≤ with_empty_of t → WereEnough least t refusal
were_enough least t (Short told missing) enough = enough
were_enough least t Memory enough = tt
were_enough least t (TooFew live) enough = tt
were_enough least t (NoFit blocks left) enough = tt

pub returns-in-Err-check_live-clause-drives : goal.returns-in-Err-check_live-clause-drives
returns-in-Err-check_live-clause-drives g c = were_enough c.args.least c.args.table.now c.in-Err-check_live.refusal
    (subst (λ (s : Table). c.args.least ≤ with_empty_of s) c.reserve.ensures.kept c.in_default-form_set.ensures.0)

-- ---- what is left behind it

pub returns-then-is_err-clause-empty : goal.returns-then-is_err-clause-empty
returns-then-is_err-clause-empty g c = subst (λ (t : Table). IfSome (g.B.Bay.state c.args.bay.now).contents (EmptyHold t)) (sym c.reserve.ensures.kept) c.requires.empty

pub returns-in-Err-clause-empty : goal.returns-in-Err-clause-empty
returns-in-Err-clause-empty g c = subst (λ (t : Table). IfSome (g.B.Bay.state c.args.bay.now).contents (EmptyHold t)) (sym (c.in-Err.ensures.2 ∙ c.reserve.ensures.kept)) c.requires.empty

pub returns-in-Ok-check_live-clause-own : goal.returns-in-Ok-check_live-clause-own
returns-in-Ok-check_live-clause-own g c =
    let is = opened_writer c.in-Ok.writer c.begin.new.self c.args.table.now c.reserve.new.self c.form_set.new.self c.begin.new.table c.args.id c.args.cuts.now _ _ _ c.in-Ok.ensures.begun c.in-Ok.ensures.array c.reserve.ensures.kept c.in_default-form_set.ensures.1 c.begin.ensures.began in
    let st = written-stays c.begin.new.self c.args.id (opening (array_of c.args.table.now) c.args.id c.args.cuts.now) in
    (ap (λ (w : Writer). w.set) is ∙ st.set_is, ap (λ (w : Writer). w.is_closed) is ∙ st.open_)

pub returns-in-Ok-check_live-clause-empty : goal.returns-in-Ok-check_live-clause-empty
returns-in-Ok-check_live-clause-empty g c = opened_empty c.in-Ok.writer c.begin.new.self c.args.table.now c.reserve.new.self c.form_set.new.self c.begin.new.table c.args.id c.args.cuts.now _ _ _ c.in-Ok.ensures.begun c.in-Ok.ensures.array c.reserve.ensures.kept c.in_default-form_set.ensures.1 c.begin.ensures.began c.requires.empty

pub returns-in-Err-check_live-clause-empty : goal.returns-in-Err-check_live-clause-empty
returns-in-Err-check_live-clause-empty g c = opened_empty c.in-Ok.writer c.begin.new.self c.args.table.now c.reserve.new.self c.form_set.new.self c.begin.new.table c.args.id c.args.cuts.now _ _ _ c.in-Ok.ensures.begun c.in-Ok.ensures.array c.reserve.ensures.kept c.in_default-form_set.ensures.1 c.begin.ensures.began c.requires.empty

pub returns-in-Ok-check_live-clause-room : goal.returns-in-Ok-check_live-clause-room
returns-in-Ok-check_live-clause-room g c = opened_room c.in-Ok.writer c.begin.new.self c.args.table.now c.reserve.new.self c.form_set.new.self c.begin.new.table c.args.id c.args.cuts.now _ _ _ c.in-Ok.ensures.begun c.in-Ok.ensures.array c.reserve.ensures.kept c.in_default-form_set.ensures.1 c.begin.ensures.began c.reserve.ensures.no_less

short_room : (t t' : Table) (set' : ℕ) (refusal : WriteRefusal) → t.spare ≤ t'.spare + 1 → ShortRefusal t' set' refusal → KeepsRoom {T = Unit {0}} t t' (Err refusal)
short_room t t' set' (Short told missing) room is = room
short_room t t' set' Memory room is = absurd is
short_room t t' set' (TooFew live) room is = absurd is
short_room t t' set' (NoFit blocks left) room is = absurd is

pub returns-in-Err-check_live-clause-room : goal.returns-in-Err-check_live-clause-room
returns-in-Err-check_live-clause-room g c = short_room c.args.table.now c.begin.new.table c.args.id c.in-Err-check_live.refusal
    (opened_room c.in-Ok.writer c.begin.new.self c.args.table.now c.reserve.new.self c.form_set.new.self c.begin.new.table c.args.id c.args.cuts.now _ _ _ c.in-Ok.ensures.begun c.in-Ok.ensures.array c.reserve.ensures.kept c.in_default-form_set.ensures.1 c.begin.ensures.began c.reserve.ensures.no_less)
    c.in-Err-check_live.ensures
