-- How a core stands to what its bay holds has one proof.
use Rattle.std.proofs.Common.{◌≡◌, ℕ, Bool, List, Option, Some, None, IfSome}
use Rattle.std.proofs.Props.{props}
use Rattle.std.specs.Coded.{codes, le_prop, Unit-prop}
use Rattle.zone_bay.specs.Contents.{Shape, Contents}
use Rattle.marker_format.specs.Zone.{Array}
use Rattle.marker_format.specs.declared.label.Label.{Label}
use Rattle.marker_format.specs.declared.marker.Marker.{Marker}
use Rattle.store_core.specs.declared.index.Note.{Note}
use Rattle.store_core.specs.declared.index.Part.{Part}
use Rattle.store_core.specs.declared.index.Index.{Index}
use Rattle.store_core.specs.declared.zone.OpenZone.{OpenZone}
use Rattle.store_core.specs.Said.{Says}
use Rattle.store_core.specs.Opening.{HoldsSet, IsOpenZone}
use Rattle.store_core.specs.Held.{IsHeld, IsAll, IsFull}
use mathlib.Core.Logic.{∥∥₁_elim}

labels_set : (a b : Option Label) → IsProp (a ≡ b)
labels_set a b = hlevel (props, codes)

notes_set : (a b : Option Note) → IsProp (a ≡ b)
notes_set a b = hlevel (props, codes)

parts_set : (a b : Option Part) → IsProp (a ≡ b)
parts_set a b = hlevel (props, codes)

numbers_set : (a b : ℕ) → IsProp (a ≡ b)
numbers_set a b = hlevel props

bools_set : (a b : Bool) → IsProp (a ≡ b)
bools_set a b = hlevel props

lists_set : (a b : List ℕ) → IsProp (a ≡ b)
lists_set a b = hlevel props

Says-prop : (index : Index) (ms : List Marker) → IsProp (Says index ms)
Says-prop index ms x y = λ i. record {
  notes = λ name. notes_set _ _ (x.notes name) (y.notes name) i;
  parts = λ upload number. parts_set _ _ (x.parts upload number) (y.parts upload number) i;
}

IsOpenZone-prop : (array : Array) (bytes : List ℕ) → IsProp (IsOpenZone array bytes)
IsOpenZone-prop array bytes x y = λ i. record {
  full = numbers_set _ _ x.full y.full i;
  ready = bools_set _ _ x.ready y.ready i;
  no_digest = bools_set _ _ x.no_digest y.no_digest i;
}

IsHeld-prop : (array : Array) (zone : OpenZone) (stamp : ℕ) (index : Index) (shape : Shape) (held : Contents) → IsProp (IsHeld array zone stamp index shape held)
IsHeld-prop array zone stamp index shape held x y = λ i. record {
  label = labels_set _ _ x.label y.label i;
  alone = λ d z drive from to other. lists_set _ _ (x.alone d z drive from to other) (y.alone d z drive from to other) i;
  long = le_prop x.long y.long i;
  usable = IsOpenZone-prop _ _ x.usable y.usable i;
  set = numbers_set _ _ x.set y.set i;
  place = numbers_set _ _ x.place y.place i;
  records = numbers_set _ _ x.records y.records i;
  later = le_prop x.later y.later i;
  says = Says-prop _ _ x.says y.says i;
}

some_prop : {A : Type 0} (P : A → Type 0) (o : Option A) → ((x : A) → IsProp (P x)) → IsProp (IfSome o P)
some_prop P None each = Unit-prop
some_prop P (Some x) each = each x

-- what is kept of a core's bay, as it is
pub held_now : (array : Array) (zone : OpenZone) (stamp : ℕ) (index : Index) (shape : Shape) (contents : Option Contents) → ∥ IfSome contents (λ held. IsHeld array zone stamp index shape held) ∥₁ → IfSome contents (λ held. IsHeld array zone stamp index shape held)
held_now array zone stamp index shape contents kept = ∥∥₁_elim kept (some_prop _ contents (λ held. IsHeld-prop array zone stamp index shape held)) (λ x. x)

HoldsSet-prop : (array : Array) (bytes : List ℕ) → IsProp (HoldsSet array bytes)
HoldsSet-prop array bytes x y = λ i. record {
  ready = bools_set _ _ x.ready y.ready i;
  no_digest = bools_set _ _ x.no_digest y.no_digest i;
  first = bools_set _ _ x.first y.first i;
}

IsAll-prop : (array : Array) (zone : OpenZone) (held : Contents) → IsProp (IsAll array zone held)
IsAll-prop array zone held x y = λ i. record {
  whole = λ whole. numbers_set _ _ (x.whole whole) (y.whole whole) i;
  torn = λ torn. (HoldsSet-prop _ _ (x.torn torn).0 (y.torn torn).0 i, numbers_set _ _ (x.torn torn).1 (y.torn torn).1 i);
}

IsFull-prop : (array : Array) (is_lost : Bool) (zone : OpenZone) (held : Contents) → IsProp (IsFull array is_lost zone held)
IsFull-prop array is_lost zone held x y = λ i works. IsAll-prop array zone held (x works) (y works) i

pub full_now : (array : Array) (is_lost : Bool) (zone : OpenZone) (contents : Option Contents) → ∥ IfSome contents (λ held. IsFull array is_lost zone held) ∥₁ → IfSome contents (λ held. IsFull array is_lost zone held)
full_now array is_lost zone contents kept = ∥∥₁_elim kept (some_prop _ contents (λ held. IsFull-prop array is_lost zone held)) (λ x. x)
