-- What follows from legal histories, of any moves. A clause can't range over moves, which are predicates: those of
-- `laws` range over machines, and a crate above with moves of its own takes these.
use Rattle.std.proofs.Common.{◌≡◌, zero, suc, List, [], ◌∷◌, Option, Some, None, refl, ap, sym, ◌∙◌, subst}
use Rattle.std.specs.FinMap as map
use Rattle.smore_base.specs.Told.{Told}
use Rattle.object_machine.specs.declared.op.Op.{Op}
use Rattle.object_machine.specs.declared.reply.Reply.{Reply}
use Rattle.object_machine.specs.declared.machine.Entry.{Entry}
use Rattle.object_machine.specs.State.{State, Step}
use Rattle.object_machine.specs.History.{IsLegalHistory}
use Rattle.object_machine.specs.Laws.{HistoriesGoOn, HistoriesJoin, HistoriesSplit, HistoriesAreSteps, HistoriesFollow, HistoryDecides, DeletedStaysAbsent}
use Rattle.object_machine.proofs.StateLaws.{answer_decides, stays_absent}

-- One move more, from where a legal history leads, makes a legal history with one entry more.
pub legal_more : {S : Type 0} (moves : S → Op → Reply → S → Type 0) → HistoriesGoOn moves
legal_more moves from to next [] entry legal move = (next, subst (λ s. moves s entry.op entry.reply next) legal move, refl)
legal_more moves from to next (first ∷ entries) entry legal move = (legal.0, legal.1, legal_more moves legal.0 to next entries entry legal.2 move)

pub legal_join : {S : Type 0} (moves : S → Op → Reply → S → Type 0) → HistoriesJoin moves
legal_join moves from middle to [] after legal then = subst (λ s. IsLegalHistory moves s after to) legal then
legal_join moves from middle to (first ∷ before) after legal then = (legal.0, legal.1, legal_join moves legal.0 middle to before after legal.2 then)

pub legal_split : {S : Type 0} (moves : S → Op → Reply → S → Type 0) → HistoriesSplit moves
legal_split moves from to entries zero legal = (from, refl, legal)
legal_split moves from to [] (suc count) legal = (from, refl, legal)
legal_split moves from to (first ∷ entries) (suc count) legal =
    let rest = legal_split moves legal.0 to entries count legal.2 in
    (rest.0, (legal.0, legal.1, rest.1), rest.2)

pub legal_follows : {S T : Type 0} (moves : S → Op → Reply → S → Type 0) (others : T → Op → Reply → T → Type 0) → HistoriesFollow moves others
legal_follows moves others f each from to [] legal = ap f legal
legal_follows moves others f each from to (entry ∷ entries) legal = (f legal.0, each from legal.0 entry.op entry.reply legal.1, legal_follows moves others f each legal.0 to entries legal.2)

-- A legal history stays legal under weaker moves.
pub legal_weaker : {S : Type 0} (moves weaker : S → Op → Reply → S → Type 0) → ((old new : S) (op : Op) (reply : Reply) → moves old op reply new → weaker old op reply new) → (from to : S) (entries : List Entry) → IsLegalHistory moves from entries to → IsLegalHistory weaker from entries to
legal_weaker moves weaker each = legal_follows moves weaker (λ s. s) each

-- a step where the states are told, and then a history
told_more : (old next new : Option State) (entry : Entry) (entries : List Entry) → Told old next (λ s t. Step s entry.op entry.reply t) → Told next new (λ s t. IsLegalHistory Step s entries t) → Told old new (λ s t. IsLegalHistory Step s (entry ∷ entries) t)
told_more None None None entry entries step then = tt
told_more None None (Some t) entry entries step then = then
told_more None (Some s) new entry entries step then = absurd step
told_more (Some r) None new entry entries step then = absurd step
told_more (Some r) (Some s) None entry entries step then = then
told_more (Some r) (Some s) (Some t) entry entries step then = (s, step, then)

told_same : (old : Option State) → Told old old (λ s t. t ≡ s)
told_same None = tt
told_same (Some s) = refl

told_none : (old new : Option State) → new ≡ old → Told old new (λ s t. IsLegalHistory Step s [] t)
told_none old new same = subst (λ (o : Option State). Told old o (λ s t. t ≡ s)) (sym same) (told_same old)

-- Histories of moves that are steps where the states are told.
pub legal_steps : {S : Type 0} (moves : S → Op → Reply → S → Type 0) (state : S → Option State) → ((old new : S) (op : Op) (reply : Reply) → moves old op reply new → Told (state old) (state new) (λ s t. Step s op reply t)) → HistoriesAreSteps moves state
legal_steps moves state each from to [] legal = told_none (state from) (state to) (ap state legal)
legal_steps moves state each from to (entry ∷ entries) legal =
    told_more (state from) (state legal.0) (state to) entry entries (each from legal.0 entry.op entry.reply legal.1) (legal_steps moves state each legal.0 to entries legal.2)

pub history_decides : HistoryDecides
history_decides from from' to to' [] equal one other = record { objects = ap (λ (s : State). s.objects) other ∙ equal.objects ∙ sym (ap (λ (s : State). s.objects) one) }
history_decides from from' to to' (entry ∷ entries) equal one other =
    history_decides one.0 other.0 to to' entries (answer_decides from from' one.0 other.0 entry.op entry.reply equal one.1 other.1) one.2 other.2

pub deleted_stays_absent : DeletedStaysAbsent
deleted_stays_absent from to [] name absent none legal = ap (λ (s : State). map.get s.objects name) legal ∙ absent
deleted_stays_absent from to (entry ∷ entries) name absent none legal =
    deleted_stays_absent legal.0 to entries name (stays_absent from legal.0 entry.op entry.reply name absent none.0 legal.1) none.1 legal.2
