-- The store machine: what it may answer to a call, and what that leaves.
use Rattle.std.specs.Prelude.{◌≡◌, ℕ, ◌≤◌, ◌<◌, ◌↔◌, min, List, length, take, Bool, IsTrue, IsSome, Some, None, ⊤}
use Rattle.std.specs.List.{filter}
use Rattle.std.specs.Ordering.{nat_cmp, is_lt}
use Rattle.std.specs.Cmp.Lexicographic.{slice_cmp}
use Rattle.std.specs.FinMap as map
use Rattle.std.specs.FinSet as set
use Rattle.smore_base.specs.declared.limits.TheConstants.{MAX_NAME_BYTES}
use Rattle.smore_base.specs.Name.{IsName}
use Rattle.smore_base.specs.Objects.{Map, Whole}
use Rattle.object_machine.specs.declared.limits.TheConstants.{MAX_OBJECT_BYTES, MAX_NAMES}
use Rattle.object_machine.specs.declared.op.Op.{Op}
use Rattle.object_machine.specs.declared.op.Op.TheVariants.{Put, Get, Delete, List as ListNames}
use Rattle.object_machine.specs.declared.reply.Reply.{Reply}
use Rattle.object_machine.specs.declared.reply.Reply.TheVariants.{Done, Object, NotFound, Names, Refused}
use Rattle.object_machine.specs.declared.reply.Refusal.{Refusal}
use Rattle.object_machine.specs.declared.reply.Refusal.TheVariants.{Memory, NameBad, TooLarge, Full, TooFewFragments, Spent, Damaged}

pub record State : Type 0 where
  -- what each name stands for: an object, or a broken one
  pub objects : Map
  -- the devices that are lost
  pub lost : set.FinSet nat_cmp

abbrev pub IsLost : State → ℕ → Type 0
IsLost state device = IsTrue (set.contains state.lost device)

-- the name has an object, be it a broken one
abbrev pub HasObject : Map → List ℕ → Type 0
HasObject objects name = IsSome (map.get objects name)

-- the names above this one that have an object, in byte order
abbrev pub names_above : Map → List ℕ → List (List ℕ)
names_above objects after = filter (λ name. is_lt (slice_cmp nat_cmp after name)) (map.keys objects)

-- as many names as a list gives where there are enough
abbrev pub most_names : ℕ → ℕ
most_names limit = min limit MAX_NAMES

-- The first names above this one that have an object, and whether others follow.
pub record ListsNames (objects : Map) (after : List ℕ) (limit : ℕ) (names : List (List ℕ)) (more : Bool) : Type 0 where
  pub first : names ≡ take (most_names limit) (names_above objects after)
  pub others : IsTrue more ↔ (most_names limit < length (names_above objects after))

-- The refusals of each call.
abbrev pub MayRefuse : Op → Refusal → Type 0
MayRefuse (Put name object) Memory = ⊤
MayRefuse (Put name object) (NameBad n) = ⊤
MayRefuse (Put name object) (TooLarge n) = ⊤
MayRefuse (Put name object) (Full need room) = ⊤
MayRefuse (Put name object) (TooFewFragments of_set missing) = ⊤
MayRefuse (Put name object) Spent = ⊤
MayRefuse (Get name) Memory = ⊤
MayRefuse (Get name) (NameBad n) = ⊤
MayRefuse (Get name) (TooLarge n) = ⊤
MayRefuse (Get name) (TooFewFragments of_set missing) = ⊤
MayRefuse (Get name) (Damaged upload part) = ⊤
MayRefuse (Delete name) Memory = ⊤
MayRefuse (Delete name) (NameBad n) = ⊤
MayRefuse (Delete name) (Full need room) = ⊤
MayRefuse (Delete name) (TooFewFragments of_set missing) = ⊤
MayRefuse (Delete name) Spent = ⊤
MayRefuse (ListNames after limit) Memory = ⊤
MayRefuse (ListNames after limit) (NameBad n) = ⊤
-- no other refusal is given
MayRefuse op why = ⊥

-- Two states are equal in all but the devices that are lost.
pub record EqualButLost (a b : State) : Type 0 where
  pub objects : b.objects ≡ a.objects

-- All stays as it was, but that more devices may be lost.
pub record OnlyLoses (old new : State) : Type 0 where
  pub rest : EqualButLost old new
  pub stay_lost : (device : ℕ) → IsLost old device → IsLost new device

-- the state, where the name has this object
abbrev pub with_object : State → List ℕ → List ℕ → State
with_object state name object = record state { objects = map.insert state.objects name (Whole object) }

-- the state, where the name has no object
abbrev pub without_object : State → List ℕ → State
without_object state name = record state { objects = map.remove state.objects name }

-- A step: which answer may come to a call, by the state before it, and what becomes of that state.
abbrev pub Step : State → Op → Reply → State → Type 0
-- the name has the object from then on
Step old (Put name object) Done new = IsName name × (length object.bytes ≤ MAX_OBJECT_BYTES) × OnlyLoses (with_object old name object.bytes) new
Step old (Put name object) (Refused why) new = MayRefuse (Put name object) why × OnlyLoses old new
-- exactly the bytes that the name has; a broken object is never given
Step old (Get name) (Object bytes) new = (map.get old.objects name ≡ Some (Whole bytes)) × (length bytes ≤ MAX_OBJECT_BYTES) × OnlyLoses old new
-- a name without an object is always answered so
Step old (Get name) NotFound new = IsName name × (map.get old.objects name ≡ None) × OnlyLoses old new
Step old (Get name) (Refused why) new = MayRefuse (Get name) why × (IsName name → HasObject old.objects name) × OnlyLoses old new
-- the name had an object, and has none from then on
Step old (Delete name) Done new = HasObject old.objects name × IsName name × OnlyLoses (without_object old name) new
-- a name without an object is always answered so
Step old (Delete name) NotFound new = IsName name × (map.get old.objects name ≡ None) × OnlyLoses old new
Step old (Delete name) (Refused why) new = MayRefuse (Delete name) why × (IsName name → HasObject old.objects name) × OnlyLoses old new
-- exactly the first names above this one
Step old (ListNames after limit) (Names names more) new = ListsNames old.objects after limit names more × (length after ≤ MAX_NAME_BYTES) × OnlyLoses old new
Step old (ListNames after limit) (Refused why) new = MayRefuse (ListNames after limit) why × OnlyLoses old new
-- no other answer is given
Step old op reply new = ⊥
