-- What follows from steps of the store machine, and from legal histories.
use Rattle.std.specs.Prelude.{◌≡◌, ◌≢◌, ◌⊎◌, ℕ, List, [], ◌∷◌, ◌++◌, take, drop, Option, Some, None, ⊤}
use Rattle.std.specs.FinMap as map
use Rattle.rs_code.specs.Blob.{CutBytes}
use Rattle.smore_base.specs.Name.{IsName}
use Rattle.smore_base.specs.Objects.{Whole, Broken}
use Rattle.smore_base.specs.Told.{Told}
use Rattle.object_machine.specs.declared.op.Op.{Op}
use Rattle.object_machine.specs.declared.op.Op.TheVariants.{Put, Get, Delete, List as ListNames}
use Rattle.object_machine.specs.declared.reply.Reply.{Reply}
use Rattle.object_machine.specs.declared.reply.Reply.TheVariants.{Done, Object, NotFound, Refused}
use Rattle.object_machine.specs.declared.reply.Refusal.{Refusal}
use Rattle.object_machine.specs.declared.reply.Refusal.TheVariants.{Memory, NameBad, Full, Damaged}
use Rattle.object_machine.specs.declared.machine.Entry.{Entry}
use Rattle.object_machine.specs.State.{State, HasObject, EqualButLost, OnlyLoses, Step}
use Rattle.object_machine.specs.History.{IsLegalHistory}

-- A refused call changes nothing.
abbrev pub RefusedChangesNothing : Type 0
RefusedChangesNothing = (old new : State) (op : Op) (why : Refusal) → Step old op (Refused why) new → OnlyLoses old new

-- No get is refused for want of room,
abbrev pub GetIsNeverFull : Type 0
GetIsNeverFull = (old new : State) (name : List ℕ) (need room : ℕ) → Step old (Get name) (Refused (Full need room)) new → ⊥

-- and no put for an object that is broken.
abbrev pub PutIsNeverDamaged : Type 0
PutIsNeverDamaged = (old new : State) (name : List ℕ) (object : CutBytes) (upload part : ℕ) → Step old (Put name object) (Refused (Damaged upload part)) new → ⊥

-- No list is refused but for its name's length, or for want of memory.
abbrev pub ListIsRefusedForItsName : Type 0
ListIsRefusedForItsName = (old new : State) (after : List ℕ) (limit : ℕ) (why : Refusal) → Step old (ListNames after limit) (Refused why) new → (why ≡ Memory) ⊎ ((length : ℕ) × (why ≡ NameBad length))

-- A get changes nothing, whatever it answers.
abbrev pub GetChangesNothing : Type 0
GetChangesNothing = (old new : State) (name : List ℕ) (reply : Reply) → Step old (Get name) reply new → OnlyLoses old new

-- Nor does a list.
abbrev pub ListChangesNothing : Type 0
ListChangesNothing = (old new : State) (after : List ℕ) (limit : ℕ) (reply : Reply) → Step old (ListNames after limit) reply new → OnlyLoses old new

-- The bytes that a get answers are those of the object that the name has.
abbrev pub ObjectIsHeld : Type 0
ObjectIsHeld = (old new : State) (name bytes : List ℕ) → Step old (Get name) (Object bytes) new → map.get old.objects name ≡ Some (Whole bytes)

-- A get of a broken object is refused.
abbrev pub BrokenIsRefused : Type 0
BrokenIsRefused = (old new : State) (name : List ℕ) (upload part : ℕ) (reply : Reply) → map.get old.objects name ≡ Some (Broken upload part) → Step old (Get name) reply new → (why : Refusal) × (reply ≡ Refused why)

-- A name that a get doesn't find has no object.
abbrev pub NotFoundIsAbsent : Type 0
NotFoundIsAbsent = (old new : State) (name : List ℕ) → Step old (Get name) NotFound new → map.get old.objects name ≡ None

-- And where a name has none, a get doesn't find it.
abbrev pub AbsentIsNotFound : Type 0
AbsentIsNotFound = (old new : State) (name : List ℕ) (reply : Reply) → IsName name → map.get old.objects name ≡ None → Step old (Get name) reply new → reply ≡ NotFound

-- After a put that is done the name has the object.
abbrev pub PutIsKept : Type 0
PutIsKept = (old new : State) (name : List ℕ) (object : CutBytes) → Step old (Put name object) Done new → map.get new.objects name ≡ Some (Whole object.bytes)

-- And each other name has what it had.
abbrev pub PutKeepsOthers : Type 0
PutKeepsOthers = (old new : State) (name other : List ℕ) (object : CutBytes) → Step old (Put name object) Done new → other ≢ name → map.get new.objects other ≡ map.get old.objects other

-- A delete that is done found an object,
abbrev pub DeletedWasThere : Type 0
DeletedWasThere = (old new : State) (name : List ℕ) → Step old (Delete name) Done new → HasObject old.objects name

-- of which the name has none from then on.
abbrev pub DeletedIsGone : Type 0
DeletedIsGone = (old new : State) (name : List ℕ) → Step old (Delete name) Done new → map.get new.objects name ≡ None

-- Each other name has what it had.
abbrev pub DeleteKeepsOthers : Type 0
DeleteKeepsOthers = (old new : State) (name other : List ℕ) → Step old (Delete name) Done new → other ≢ name → map.get new.objects other ≡ map.get old.objects other

-- A name without an object is not found by a delete.
abbrev pub AbsentIsNotDeleted : Type 0
AbsentIsNotDeleted = (old new : State) (name : List ℕ) (reply : Reply) → IsName name → map.get old.objects name ≡ None → Step old (Delete name) reply new → reply ≡ NotFound

-- a put of the name that is done
abbrev pub IsDonePut : List ℕ → Op → Reply → Type 0
IsDonePut name (Put other object) Done = other ≡ name
IsDonePut name op reply = ⊥

-- no entry is such a put
abbrev pub HasNoDonePut : List ℕ → List Entry → Type 0
HasNoDonePut name [] = ⊤
HasNoDonePut name (entry ∷ entries) = (IsDonePut name entry.op entry.reply → ⊥) × HasNoDonePut name entries

-- A name that has no object has none after a legal history, unless a put of it was done there.
abbrev pub DeletedStaysAbsent : Type 0
DeletedStaysAbsent = (from to : State) (entries : List Entry) (name : List ℕ) → map.get from.objects name ≡ None → HasNoDonePut name entries → IsLegalHistory Step from entries to → map.get to.objects name ≡ None

-- The call and its answer decide all but which devices are lost.
abbrev pub AnswerDecides : Type 0
AnswerDecides = (old old' new new' : State) (op : Op) (reply : Reply) → EqualButLost old old' → Step old op reply new → Step old' op reply new' → EqualButLost new new'

-- So do the calls and answers of a legal history.
abbrev pub HistoryDecides : Type 0
HistoryDecides = (from from' to to' : State) (entries : List Entry) → EqualButLost from from' → IsLegalHistory Step from entries to → IsLegalHistory Step from' entries to' → EqualButLost to to'

-- A legal history goes on by a move from its end.
abbrev pub HistoriesGoOn : {S : Type 0} → (S → Op → Reply → S → Type 0) → Type 0
HistoriesGoOn {S} moves = (from to next : S) (entries : List Entry) (entry : Entry) → IsLegalHistory moves from entries to → moves to entry.op entry.reply next → IsLegalHistory moves from (entries ++ entry ∷ []) next

-- A legal history and one that begins at its end are one.
abbrev pub HistoriesJoin : {S : Type 0} → (S → Op → Reply → S → Type 0) → Type 0
HistoriesJoin {S} moves = (from middle to : S) (before after : List Entry) → IsLegalHistory moves from before middle → IsLegalHistory moves middle after to → IsLegalHistory moves from (before ++ after) to

-- A legal history is two, split behind any number of its calls.
abbrev pub HistoriesSplit : {S : Type 0} → (S → Op → Reply → S → Type 0) → Type 0
HistoriesSplit {S} moves = (from to : S) (entries : List Entry) (count : ℕ) → IsLegalHistory moves from entries to → (middle : S) × IsLegalHistory moves from (take count entries) middle × IsLegalHistory moves middle (drop count entries) to

-- Where the states are told, a legal history is one of steps of the store machine.
abbrev pub HistoriesAreSteps : {S : Type 0} → (S → Op → Reply → S → Type 0) → (S → Option State) → Type 0
HistoriesAreSteps {S} moves state = (from to : S) (entries : List Entry) → IsLegalHistory moves from entries to → Told (state from) (state to) (λ s t. IsLegalHistory Step s entries t)

-- What takes each move of one machine to a move of another takes its legal histories to legal ones.
abbrev pub HistoriesFollow : {S T : Type 0} → (S → Op → Reply → S → Type 0) → (T → Op → Reply → T → Type 0) → Type 0
HistoriesFollow {S} {T} moves others =
    (f : S → T) → ((old new : S) (op : Op) (reply : Reply) → moves old op reply new → others (f old) op reply (f new))
    → (from to : S) (entries : List Entry) → IsLegalHistory moves from entries to → IsLegalHistory others (f from) entries (f to)
