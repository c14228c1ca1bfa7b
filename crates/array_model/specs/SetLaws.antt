-- Laws of lists of sets: what may be lost or added while every name stands for what it stood for. They hold of any lists,
-- whether a store reaches them or not, and for any tables of uploads and readers.
use Rattle.std.specs.Prelude.{◌≡◌, ◌⊎◌, length, take, ℕ, ◌<◌, ◌≤◌, true, false, List, [], ◌∷◌, ◌++◌, Some, None, Contains}
use Rattle.std.specs.List.{AllZip, AllByRecursion}
use Rattle.std.specs.FinMap as finmap
use Rattle.array_model.specs.Record.{Record, Head, Ready, Part, Put, Delete, Cut, note_stamp}
use Rattle.array_model.specs.Sets.{ReadSet, ValidSet, Placed, AreRising, stands, lesser, least_kept, kept_by, valid, records_of, HasCarrier}
use Rattle.array_model.specs.Map.{items_of, newest, object_of, value_in, map_of}
use Rattle.array_model.specs.Need.{IsNeeded, IsNeededSet, IsUploadOfNewest}

-- The map has for each name what is read of it,
abbrev pub MapHasWhatIsRead : Type 0
MapHasWhatIsRead = (k : ℕ) (sets : List ReadSet) (name : List ℕ) → finmap.get (map_of k sets) name ≡ value_in k sets name

-- so lists of which the same is read have one map.
abbrev pub SameValuesSameMap : Type 0
SameValuesSameMap = (k : ℕ) (old new : List ReadSet) → ((name : List ℕ) → value_in k new name ≡ value_in k old name) → map_of k new ≡ map_of k old

-- A note of the name, among records in order: of the notes before it none has a greater stamp, and of those behind it each
-- has a lesser one.
pub record IsGreatestNote (name : List ℕ) (items : List Record) (note : Record) : Type 0 where
  pub before : List Record
  pub after : List Record
  pub place : items ≡ before ++ note ∷ after
  pub stamp : ℕ
  pub is : note_stamp name note ≡ Some stamp
  pub earlier : (other : Record) (its : ℕ) → Contains before other → note_stamp name other ≡ Some its → its ≤ stamp
  pub later : (other : Record) (its : ℕ) → Contains after other → note_stamp name other ≡ Some its → its < stamp

-- The newest note has the greatest stamp, and of equal stamps the last place,
abbrev pub NewestIsGreatest : Type 0
NewestIsGreatest = (name : List ℕ) (items : List Record) (note : Record) → newest name items ≡ Some note → IsGreatestNote name items note

-- and where there is no newest note, none of the records is a note of the name.
abbrev pub NoNewestNoNote : Type 0
NoNewestNoNote = (name : List ℕ) (items : List Record) (item : Record) → newest name items ≡ None → Contains items item → note_stamp name item ≡ None

-- Two valid notes of one name with one stamp are equal. (Else the one in the higher set may hide the other, and where it
-- goes away, the other counts.)
abbrev pub NotesAreOne : ℕ → List ReadSet → Type 0
NotesAreOne k sets = (name : List ℕ) (stamp : ℕ) (one other : Record) → Contains (items_of (records_of k sets)) one → Contains (items_of (records_of k sets)) other → note_stamp name one ≡ Some stamp → note_stamp name other ≡ Some stamp → one ≡ other

-- The same set, with as many carriers or fewer. While k are left it says what it said. (From fewer more records may be read.)
pub record LosesCarriers (k : ℕ) (old new : ReadSet) : Type 0 where
  pub id : new.id ≡ old.id
  pub records : k ≤ new.carriers → new.records ≡ old.records
  pub carriers : new.carriers ≤ old.carriers

-- Each of these sets, where it holds a record that is needed in the old ones, has k carriers.
abbrev pub AreEnough : ℕ → List ℕ → List ReadSet → List ReadSet → Type 0
AreEnough k uploads old new = AllByRecursion (λ set. IsNeededSet k uploads old set.id → k ≤ set.carriers) new

-- Sets lose carriers, but each set that holds a needed record keeps k of them.
pub record LosesUnneeded (k : ℕ) (uploads : List ℕ) (old new : List ReadSet) : Type 0 where
  pub fewer : AllZip (LosesCarriers k) old new
  pub enough : AreEnough k uploads old new

-- Each name stands for what it stood for.
pub record ReadsTheSame (k : ℕ) (old new : List ReadSet) : Type 0 where
  pub map : map_of k new ≡ map_of k old
  pub value : (name : List ℕ) → value_in k new name ≡ value_in k old name

-- So it does, and what is valid was valid, what is needed was needed, each at its place. So the premise on notes still
-- holds.
pub record SaysTheSame (k : ℕ) (uploads : List ℕ) (old new : List ReadSet) : Type 0 where
  pub reads : ReadsTheSame k old new
  pub valid : (it : Placed) → Contains (records_of k new) it → Contains (records_of k old) it
  pub needed : (it : Placed) → IsNeeded k uploads new it → IsNeeded k uploads old it
  pub notes : NotesAreOne k new

-- Unneeded sets may go: any sets lose any number of carriers, but those that hold a needed record keep k.
abbrev pub UnneededSetsMayGo : Type 0
UnneededSetsMayGo = (k : ℕ) (uploads : List ℕ) (old new : List ReadSet) → 0 < k → NotesAreOne k old → LosesUnneeded k uploads old new → SaysTheSame k uploads old new

-- So they may go one after another, where each time the needed ones of that time keep k,
abbrev pub LossesFollow : Type 0
LossesFollow = (k : ℕ) (uploads : List ℕ) (old mid new : List ReadSet) → 0 < k → NotesAreOne k old → LosesUnneeded k uploads old mid → LosesUnneeded k uploads mid new → SaysTheSame k uploads old new

-- and they do where those that are needed at first keep k to the end.
abbrev pub FirstNeedIsEnough : Type 0
FirstNeedIsEnough = (k : ℕ) (uploads : List ℕ) (old mid new : List ReadSet) → 0 < k → NotesAreOne k old → AllZip (LosesCarriers k) old mid → AllZip (LosesCarriers k) mid new → AreEnough k uploads old new → LosesUnneeded k uploads old mid × LosesUnneeded k uploads mid new

-- More records behind those of the highest set that stands.
pub record Appends (k : ℕ) (more : List Record) (old new : List ReadSet) : Type 0 where
  pub below : List ReadSet
  pub top : ReadSet
  pub above : List ReadSet
  pub was : old ≡ below ++ top ∷ above
  pub stood : stands k top ≡ true
  pub highest : AllByRecursion (λ set. stands k set ≡ false) above
  pub is : new ≡ below ++ record top { records = top.records ++ more } ∷ above

-- a record that says nothing yet: it is no note, no cut, and no part of the object of a newest note among these
abbrev pub IsWithoutNote : List Record → Record → Type 0
IsWithoutNote items (Part upload part payload) = IsUploadOfNewest items upload → ⊥
IsWithoutNote items (Put name stamp upload parts bytes) = ⊥
IsWithoutNote items (Delete name stamp) = ⊥
IsWithoutNote items (Cut target kept) = ⊥
IsWithoutNote items item = Unit {0}

-- Records without their note say nothing: parts of an upload that no newest note names, digests and snapshots.
abbrev pub RecordsWithoutNote : Type 0
RecordsWithoutNote = (k : ℕ) (more : List Record) (old new : List ReadSet) → Appends k more old new → AllByRecursion (IsWithoutNote (items_of (records_of k old))) more → ReadsTheSame k old new

-- no note of the name has a greater stamp
abbrev pub NoneAbove : List Record → List ℕ → ℕ → Type 0
NoneAbove items name stamp = (item : Record) (its : ℕ) → Contains items item → note_stamp name item ≡ Some its → its ≤ stamp

-- A put note whose stamp is the greatest gives its name the object of its upload,
abbrev pub PutNoteIsLast : Type 0
PutNoteIsLast = (k : ℕ) (name : List ℕ) (stamp upload parts bytes : ℕ) (old new : List ReadSet) → Appends k (Put name stamp upload parts bytes ∷ []) old new → NoneAbove (items_of (records_of k old)) name stamp → map_of k new ≡ finmap.insert (map_of k old) name (object_of (items_of (records_of k old)) upload parts bytes)

-- and a delete note takes its name out.
abbrev pub DeleteNoteIsLast : Type 0
DeleteNoteIsLast = (k : ℕ) (name : List ℕ) (stamp : ℕ) (old new : List ReadSet) → Appends k (Delete name stamp ∷ []) old new → NoneAbove (items_of (records_of k old)) name stamp → map_of k new ≡ finmap.remove (map_of k old) name

-- each note of the name has a lesser stamp
abbrev pub AllBelow : List Record → List ℕ → ℕ → Type 0
AllBelow items name stamp = (item : Record) (its : ℕ) → Contains items item → note_stamp name item ≡ Some its → its < stamp

-- With a put note whose stamp is above those of its name, what is needed is the note, or was needed while its upload was in
-- progress,
abbrev pub PutNeedsItsParts : Type 0
PutNeedsItsParts = (k : ℕ) (uploads name : List ℕ) (stamp upload parts bytes : ℕ) (old new : List ReadSet) (it : Placed) → Appends k (Put name stamp upload parts bytes ∷ []) old new → AllBelow (items_of (records_of k old)) name stamp → IsNeeded k uploads new it → (it.item ≡ Put name stamp upload parts bytes) ⊎ IsNeeded k (upload ∷ uploads) old it

-- and with such a delete note the note, or what was needed.
abbrev pub DeleteNeedsNothing : Type 0
DeleteNeedsNothing = (k : ℕ) (uploads name : List ℕ) (stamp : ℕ) (old new : List ReadSet) (it : Placed) → Appends k (Delete name stamp ∷ []) old new → AllBelow (items_of (records_of k old)) name stamp → IsNeeded k uploads new it → (it.item ≡ Delete name stamp) ⊎ IsNeeded k uploads old it

-- a note of this name with this stamp: a put note or a delete note
abbrev pub IsNote : List ℕ → ℕ → Record → Type 0
IsNote name stamp note = ((upload : ℕ) × (parts : ℕ) × (bytes : ℕ) × (note ≡ Put name stamp upload parts bytes)) ⊎ (note ≡ Delete name stamp)

-- No other note of its name is needed then,
abbrev pub OlderNotesUnneeded : Type 0
OlderNotesUnneeded = (k : ℕ) (uploads name : List ℕ) (stamp : ℕ) (note : Record) (old new : List ReadSet) (it : Placed) (its : ℕ) → IsNote name stamp note → Appends k (note ∷ []) old new → AllBelow (items_of (records_of k old)) name stamp → IsNeeded k uploads new it → note_stamp name it.item ≡ Some its → it.item ≡ note

-- the upload is that of the newest note of another name
abbrev pub IsUploadOfOther : List ℕ → List Record → ℕ → Type 0
IsUploadOfOther name items upload = (other : List ℕ) × (stamp : ℕ) × (parts : ℕ) × (bytes : ℕ) × (newest other items ≡ Some (Put other stamp upload parts bytes)) × (other ≡ name → ⊥)

-- and no part of their uploads, if it isn't one of the note, of an upload in progress or of another name's object.
abbrev pub OlderPartsUnneeded : Type 0
OlderPartsUnneeded = (k : ℕ) (uploads name : List ℕ) (stamp : ℕ) (note : Record) (old new : List ReadSet) (it : Placed) (upload part : ℕ) (payload : List ℕ) → IsNote name stamp note → Appends k (note ∷ []) old new → AllBelow (items_of (records_of k old)) name stamp → IsNeeded k uploads new it → it.item ≡ Part upload part payload → ((parts : ℕ) × (bytes : ℕ) × (note ≡ Put name stamp upload parts bytes)) ⊎ (Contains uploads upload ⊎ IsUploadOfOther name (items_of (records_of k old)) upload)

-- Each valid cut is of a lower set than the one that it stands in.
abbrev pub CutsAreOfLower : ℕ → List ReadSet → Type 0
CutsAreOfLower k sets = (it : Placed) (target kept : ℕ) → Contains (records_of k sets) it → it.item ≡ Cut target kept → target < it.set

-- a copy of a needed record
abbrev pub IsCopyOfNeeded : ℕ → List ℕ → List ReadSet → Record → Type 0
IsCopyOfNeeded k uploads sets item = (it : Placed) × IsNeeded k uploads sets it × (it.item ≡ item)

-- Copies of needed records change nothing.
abbrev pub CopiesChangeNothing : Type 0
CopiesChangeNothing = (k : ℕ) (uploads : List ℕ) (more : List Record) (old new : List ReadSet) → AreRising old → CutsAreOfLower k old → Appends k more old new → AllByRecursion (IsCopyOfNeeded k uploads old) more → ReadsTheSame k old new

-- They make nothing needed of the sets below.
abbrev pub CopiesMakeNothingNeeded : Type 0
CopiesMakeNothingNeeded = (k : ℕ) (uploads : List ℕ) (more : List Record) (old new : List ReadSet) (it : Placed) → AreRising old → CutsAreOfLower k old → (appends : Appends k more old new) → AllByRecursion (IsCopyOfNeeded k uploads old) more → it.set < appends.top.id → IsNeeded k uploads new it → IsNeeded k uploads old it

-- Two valid parts of one upload with one number are equal. (Else, once the first is gone, the other takes its place.)
abbrev pub PartsAreOne : ℕ → List ReadSet → Type 0
PartsAreOne k sets = (upload part : ℕ) (one other : List ℕ) → Contains (items_of (records_of k sets)) (Part upload part one) → Contains (items_of (records_of k sets)) (Part upload part other) → one ≡ other

-- All that is needed of the set has copies in higher sets.
abbrev pub HasHigherCopies : ℕ → List ℕ → List ReadSet → ℕ → Type 0
HasHigherCopies k uploads sets id = (it : Placed) → IsNeeded k uploads sets it → it.set ≡ id → (copy : Placed) × Contains (records_of k sets) copy × (id < copy.set) × (copy.item ≡ it.item)

-- So it has where all of it is copied behind the records of the highest set.
abbrev pub CopiedSetHasCopies : Type 0
CopiedSetHasCopies = (k : ℕ) (uploads : List ℕ) (more : List Record) (id : ℕ) (old new : List ReadSet) → AreRising old → CutsAreOfLower k old → (appends : Appends k more old new) → AllByRecursion (IsCopyOfNeeded k uploads old) more → ((it : Placed) → IsNeeded k uploads old it → it.set ≡ id → Contains more it.item) → id < appends.top.id → HasHigherCopies k uploads new id

-- A set is dropped: behind the records of a higher set that is the highest that stands comes its cut to 0.
pub record DropsSet (k : ℕ) (uploads : List ℕ) (id : ℕ) (old new : List ReadSet) : Type 0 where
  pub rising : AreRising old
  pub notes : NotesAreOne k old
  pub parts : PartsAreOne k old
  pub copies : HasHigherCopies k uploads old id
  pub appends : Appends k (Cut id 0 ∷ []) old new
  pub lower : id < appends.top.id

-- A dropped set is gone: without it each name stands for what it stood for,
abbrev pub DroppedSetIsGone : Type 0
DroppedSetIsGone = (k : ℕ) (uploads : List ℕ) (id : ℕ) (old new : List ReadSet) → 0 < k → DropsSet k uploads id old new → ReadsTheSame k old new

-- nothing of it is valid any more,
abbrev pub DroppedSetIsEmpty : Type 0
DroppedSetIsEmpty = (k : ℕ) (uploads : List ℕ) (id : ℕ) (old new : List ReadSet) (it : Placed) → 0 < k → DropsSet k uploads id old new → Contains (records_of k new) it → it.set ≡ id → ⊥

-- the same sets, but of one whatever may be read
abbrev pub AreSameBut : ℕ → List ReadSet → List ReadSet → Type 0
AreSameBut id old new = AllZip (λ set set'. (set'.id ≡ set.id) × ((set.id ≡ id → ⊥) → set' ≡ set)) old new

-- and whatever is read of it then, as its carriers go one by one, it stays so.
abbrev pub DroppedSetMayGo : Type 0
DroppedSetMayGo = (k : ℕ) (uploads : List ℕ) (id : ℕ) (old mid new : List ReadSet) → 0 < k → DropsSet k uploads id old mid → AreSameBut id mid new → ReadsTheSame k old new

-- A new highest set that stands, with its head, cuts and its ready record.
pub record Opens (k : ℕ) (cuts : List Record) (old new : List ReadSet) : Type 0 where
  pub top : ReadSet
  pub is : new ≡ old ++ top ∷ []
  pub records : top.records ≡ Head ∷ (cuts ++ Ready ∷ [])
  pub carriers : k ≤ top.carriers

-- of this set no more than so many records are valid
abbrev pub HasAtMost : ℕ → List ReadSet → ℕ → ℕ → Type 0
HasAtMost k sets id most = AllByRecursion (λ (set : ValidSet). set.id ≡ id → length set.records ≤ most) (valid k sets)

-- nothing but cuts is needed of this set, and these are among the records
abbrev pub OnlyCutsNeeded : ℕ → List ℕ → List ReadSet → List Record → ℕ → Type 0
OnlyCutsNeeded k uploads sets cuts id = (it : Placed) → IsNeeded k uploads sets it → it.set ≡ id → Contains cuts it.item × ((target : ℕ) × (kept : ℕ) × (it.item ≡ Cut target kept))

-- A cut of an opening cuts a set at the length of its valid records or behind it, is a copy of a needed cut, or cuts a set
-- to 0 of which nothing but cuts is needed, which are copied beside it.
abbrev pub IsOpeningCut : ℕ → List ℕ → List ReadSet → List Record → Record → Type 0
IsOpeningCut k uploads sets cuts item = (target : ℕ) × (kept : ℕ) × (item ≡ Cut target kept) × (HasAtMost k sets target kept ⊎ (IsCopyOfNeeded k uploads sets item ⊎ ((kept ≡ 0) × OnlyCutsNeeded k uploads sets cuts target)))

-- A set is opened with such cuts.
pub record OpensWithCuts (k : ℕ) (uploads : List ℕ) (cuts : List Record) (old new : List ReadSet) : Type 0 where
  pub rising : AreRising old
  pub notes : NotesAreOne k old
  pub lower : CutsAreOfLower k old
  pub opens : Opens k cuts old new
  pub each : AllByRecursion (IsOpeningCut k uploads old cuts) cuts

-- An opening changes nothing,
abbrev pub OpeningChangesNothing : Type 0
OpeningChangesNothing = (k : ℕ) (uploads : List ℕ) (cuts : List Record) (old new : List ReadSet) → 0 < k → OpensWithCuts k uploads cuts old new → ReadsTheSame k old new

-- a set that is cut here, with the same records as far as it is cut, whichever of its carriers are read and whatever stands
-- behind; it stands as it stood, or is cut to 0
pub record IsSameToCut (k : ℕ) (cuts : List Record) (old new : ReadSet) : Type 0 where
  pub id : new.id ≡ old.id
  pub kept : ℕ
  pub cut : Contains cuts (Cut old.id kept)
  pub first : take kept new.records ≡ take kept old.records
  pub stand : (stands k new ≡ stands k old) ⊎ (kept ≡ 0)

-- and its cuts fix what was read: it stays so, whatever comes to stand where sets are cut off.
abbrev pub OpeningFixesWhatWasRead : Type 0
OpeningFixesWhatWasRead = (k : ℕ) (uploads : List ℕ) (cuts : List Record) (old old' mid new : List ReadSet) → 0 < k → (it : OpensWithCuts k uploads cuts old mid) → AllZip (λ set set'. (set' ≡ set) ⊎ IsSameToCut k cuts set set') old old' → new ≡ old' ++ it.opens.top ∷ [] → ReadsTheSame k old new

-- Of each set with a carrier as many records are kept as were, or as more cuts keep, where these are fewer.
abbrev pub CutsStay : ℕ → List Record → List ReadSet → List ReadSet → Type 0
CutsStay k more old new = (target : ℕ) → HasCarrier old target → kept_by target (valid k new) ≡ lesser (kept_by target (valid k old)) (least_kept target more)

-- So it is where unneeded sets go,
abbrev pub UnneededKeepCuts : Type 0
UnneededKeepCuts = (k : ℕ) (uploads : List ℕ) (old new : List ReadSet) → 0 < k → LosesUnneeded k uploads old new → CutsStay k [] old new

-- with copies of needed records,
abbrev pub CopiesKeepCuts : Type 0
CopiesKeepCuts = (k : ℕ) (uploads : List ℕ) (more : List Record) (old new : List ReadSet) → AreRising old → CutsAreOfLower k old → Appends k more old new → AllByRecursion (IsCopyOfNeeded k uploads old) more → CutsStay k [] old new

-- with records behind that are no cuts, as with a note,
abbrev pub OthersKeepCuts : Type 0
OthersKeepCuts = (k : ℕ) (more : List Record) (old new : List ReadSet) → Appends k more old new → ((target kept : ℕ) → Contains more (Cut target kept) → ⊥) → CutsStay k [] old new

-- where a set is dropped, of which none are kept then,
abbrev pub DroppedSetKeepsCuts : Type 0
DroppedSetKeepsCuts = (k : ℕ) (uploads : List ℕ) (id : ℕ) (old new : List ReadSet) → 0 < k → DropsSet k uploads id old new → CutsStay k (Cut id 0 ∷ []) old new

-- and with the cuts of an opening.
abbrev pub OpeningKeepsCuts : Type 0
OpeningKeepsCuts = (k : ℕ) (uploads : List ℕ) (cuts : List Record) (old new : List ReadSet) → 0 < k → OpensWithCuts k uploads cuts old new → CutsStay k cuts old new
