-- A table in which a set was formed: its members' zones were empty.
use Rattle.std.proofs.Common.{◌≡◌, ◌⊎◌, inl, inr, ℕ, ◌+◌, ◌≤◌, Bool, true, false, cond, set, List, [], ◌∷◌, length, Option, Some, None, IfSome, IsSome, is_some, refl, sym, ap, subst, ◌∙◌, arith}
use Rattle.std.specs.Prelude.{filter}
use Rattle.std.specs.List.{AllByRecursion}
use Rattle.std.proofs.lemmas.Bool.{cases_lt}
use Rattle.std.proofs.lemmas.List.{set_past, set-get_or}
use Rattle.zone_bay.specs.Contents.{Contents}
use Rattle.set_table.specs.declared.zone_use.ZoneUse.{ZoneUse}
use Rattle.set_table.specs.declared.zone_use.ZoneUse.TheVariants.{Empty, Carrier}
use Rattle.set_table.specs.declared.members.Member.{Member}
use Rattle.set_table.specs.Zones.{before_empty}
use Rattle.set_table.specs.Table.{Table, zones_of, use_at, put_use, is_live, has_empty, drives_of, members_from, with_members, marks_of, PutsFormed, Forms}
use Rattle.set_table.proofs.TableLaws.{put_there}
use Rattle.set_table.proofs.UseLaws.{each_use}
use Rattle.set_table.proofs.FormLaws.{lowest_use}
use Rattle.set_writer.specs.Members.{HoldBlocks}
use Rattle.set_table.specs.Table.{array_of}
use Rattle.set_writer.specs.Writer.{EmptyHold}

-- the zone was empty and carries the set, or is used as it was
abbrev pub FromEmpty : ℕ → List (List ZoneUse) → List (List ZoneUse) → ℕ → ℕ → Type 0
FromEmpty set' old new d z = ((use_at old d z ≡ Empty) × (i : ℕ) × (use_at new d z ≡ Carrier set' i)) ⊎ (use_at new d z ≡ use_at old d z)

-- one zone that was empty carries the set now
put_from : (set' index : ℕ) (old zones : List (List ZoneUse)) (d z : ℕ) → use_at old d z ≡ Empty → ((e y : ℕ) → FromEmpty set' old zones e y) → (e y : ℕ) → FromEmpty set' old (put_use d z (Carrier set' index) zones) e y
put_from set' index old zones d z empty each e y = elim (cases_lt d (length zones)) [
  | inr past ↦ still (ap (λ zs. use_at zs e y) (set_past zones d (set (zones_of zones d) z (Carrier set' index)) past)) (each e y)
  | inl drive ↦ elim (cases_lt z (length (zones_of zones d))) [
    | inr past ↦ still (ap (λ us. use_at (set zones d us) e y) (set_past (zones_of zones d) z (Carrier set' index) past) ∙ ap (λ zs. use_at zs e y) (set-get_or zones d [])) (each e y)
    | inl zone ↦ elim (each_use zones d z (Carrier set' index) drive zone e y) [
      | inl here ↦ inl (
        subst (λ n. use_at old n y ≡ Empty) (sym here.0) (subst (λ n. use_at old d n ≡ Empty) (sym here.1) empty),
        index,
        subst (λ n. use_at (put_use d z (Carrier set' index) zones) n y ≡ Carrier set' index) (sym here.0) (subst (λ n. use_at (put_use d z (Carrier set' index) zones) d n ≡ Carrier set' index) (sym here.1) (put_there zones d z (Carrier set' index) drive zone)),
      )
      | inr same ↦ still same (each e y)
    ]
  ]
]
  where
    still : use_at (put_use d z (Carrier set' index) zones) e y ≡ use_at zones e y → FromEmpty set' old zones e y → FromEmpty set' old (put_use d z (Carrier set' index) zones) e y
    still same (inl was) = inl (was.0, was.1, same ∙ was.2)
    still same (inr before) = inr (same ∙ before)

-- each zone that a set was formed of was empty
formed_from : (t : Table) (set' index : ℕ) (ds : List ℕ) (zones : List (List ZoneUse)) → AllByRecursion (λ d. has_empty t d ≡ true) ds → ((e y : ℕ) → FromEmpty set' t.zones zones e y) → (e y : ℕ) → FromEmpty set' t.zones (with_members set' (members_from t index ds) zones) e y
formed_from t set' index [] zones all each = each
formed_from t set' index (d ∷ ds) zones all each = formed_from t set' (index + 1) ds (put_use d (before_empty (zones_of t.zones d)) (Carrier set' index) zones) all.1 (put_from set' index t.zones zones d (before_empty (zones_of t.zones d)) (lowest_use t d all.0) each)

pub chosen_all : (t : Table) (chosen : ℕ → Bool) (ds : List ℕ) → ((d : ℕ) → chosen d ≡ true → has_empty t d ≡ true) → AllByRecursion (λ d. has_empty t d ≡ true) (filter chosen ds)
chosen_all t chosen [] each = tt
chosen_all t chosen (d ∷ ds) each = at_one (chosen d) refl (chosen_all t chosen ds each)
  where
    at_one : (b : Bool) → chosen d ≡ b → AllByRecursion (λ d. has_empty t d ≡ true) (filter chosen ds) → AllByRecursion (λ d. has_empty t d ≡ true) (cond b (d ∷ filter chosen ds) (filter chosen ds))
    at_one true is rest = (each d is, rest)
    at_one false is rest = rest

pub from_empty : (t t' : Table) (set' : ℕ) (members : List Member) → Forms t set' members t' → (e y : ℕ) → FromEmpty set' t.zones t'.zones e y
from_empty t t' set' members forms e y =
    subst (λ zones. FromEmpty set' t.zones zones e y) (sym (ap (λ (s : Table). s.zones) forms.zones ∙ ap (λ (ms : List Member). with_members set' ms t.zones) forms.members_are))
    (formed_from t set' 0 (filter forms.is_chosen (drives_of t.geometry)) t.zones (chosen_all t forms.is_chosen (drives_of t.geometry) forms.choice.empty) (λ e y. inr refl) e y)

-- the same drives are live
pub same_live : (t t' : Table) (set' : ℕ) (members : List Member) → Forms t set' members t' → (d : ℕ) → is_live t' d ≡ is_live t d
same_live t t' set' members forms d = ap (λ (s : Table). is_live s d) forms.zones

-- a set that a zone carries is in the table
abbrev pub Listed : Table → Type 0
Listed t = (d z s i : ℕ) → use_at t.zones d z ≡ Carrier s i → IsSome (marks_of s t.sets)

-- a zone that carries the set was empty
pub carried_empty : (t t' : Table) (set' : ℕ) (members : List Member) (d z index : ℕ) → Listed t → marks_of set' t.sets ≡ None → Forms t set' members t' → use_at t'.zones d z ≡ Carrier set' index → use_at t.zones d z ≡ Empty
carried_empty t t' set' members d z index listed absent forms is = elim (from_empty t t' set' members forms d z) [
  | inl empty ↦ empty.0
  | inr same ↦ let some : is_some (marks_of set' t.sets) ≡ true = listed d z set' index (sym same ∙ is) in absurd (none_some (marks_of set' t.sets) absent some)
]
  where
    none_some : {A : Type 0} (o : Option A) → o ≡ None → is_some o ≡ true → ⊥
    none_some None e some = cc
    none_some (Some x) e some = cc

-- The members of a set that was just formed hold nothing,
pub formed_hold : (t t' : Table) (set' : ℕ) (members : List Member) (o : Option Contents) → Listed t → marks_of set' t.sets ≡ None → Forms t set' members t' → IfSome o (EmptyHold t) → IfSome o (HoldBlocks t' set' 0)
formed_hold t t' set' members None listed absent forms empty = tt
formed_hold t t' set' members (Some held) listed absent forms empty = λ d z index below live is.
    ap (λ (l : List ℕ). length l) (empty d z (sym (same_live t t' set' members forms d) ∙ live) (carried_empty t t' set' members d z index listed absent forms is))

-- and so do zones that are empty still.
pub formed_empty : (t t' : Table) (set' : ℕ) (members : List Member) (o : Option Contents) → Forms t set' members t' → IfSome o (EmptyHold t) → IfSome o (EmptyHold t')
formed_empty t t' set' members None forms empty = tt
formed_empty t t' set' members (Some held) forms empty = λ d z live is. elim (from_empty t t' set' members forms d z) [
  | inl was ↦ empty d z (sym (same_live t t' set' members forms d) ∙ live) was.0
  | inr same ↦ empty d z (sym (same_live t t' set' members forms d) ∙ live) (sym same ∙ is)
]

-- There is room for one set less at most.
pub formed_spare : (t t' : Table) (set' : ℕ) (members : List Member) → Forms t set' members t' → t.spare ≤ t'.spare + 1
formed_spare t t' set' members forms = at members forms.sets
  where
    at : (ms : List Member) → PutsFormed set' ms t t' → t.spare ≤ t'.spare + 1
    at [] puts = let same = puts.1 in omega (arith, same)
    at (m ∷ ms) puts = let less = puts.1 in omega (arith, less)

-- of the same array
pub same_array : (t t' : Table) (set' : ℕ) (members : List Member) → Forms t set' members t' → array_of t' ≡ array_of t
same_array t t' set' members forms = ap (λ (s : Table). array_of s) forms.zones

-- what is known of a table with more room
listed_still : (t t' : Table) → t' ≡ record t { spare = t'.spare } → Listed t → Listed t'
listed_still t t' is listed = subst Listed (sym is) listed

absent_still : (t t' : Table) (set' : ℕ) → t' ≡ record t { spare = t'.spare } → marks_of set' t.sets ≡ None → marks_of set' t'.sets ≡ None
absent_still t t' set' is absent = ap (λ (s : Table). marks_of set' s.sets) is ∙ absent

pub empty_still : (t t' : Table) (o : Option Contents) → t' ≡ record t { spare = t'.spare } → IfSome o (EmptyHold t) → IfSome o (EmptyHold t')
empty_still t t' o is empty = subst (λ (s : Table). IfSome o (EmptyHold s)) (sym is) (at_told o empty)
  where
    at_told : (o : Option Contents) → IfSome o (EmptyHold t) → IfSome o (EmptyHold (record t { spare = t'.spare }))
    at_told None e = tt
    at_told (Some held) e = e

-- the members of a set that was formed in it
pub reserved_hold : (t r t' : Table) (set' : ℕ) (members : List Member) (o : Option Contents) → r ≡ record t { spare = r.spare } → Listed t → marks_of set' t.sets ≡ None → Forms r set' members t' → IfSome o (EmptyHold t) → IfSome o (HoldBlocks t' set' 0)
reserved_hold t r t' set' members o is listed absent forms empty = formed_hold r t' set' members o (listed_still t r is listed) (absent_still t r set' is absent) forms (empty_still t r o is empty)

pub reserved_empty : (t r t' : Table) (set' : ℕ) (members : List Member) (o : Option Contents) → r ≡ record t { spare = r.spare } → Forms r set' members t' → IfSome o (EmptyHold t) → IfSome o (EmptyHold t')
reserved_empty t r t' set' members o is forms empty = formed_empty r t' set' members o forms (empty_still t r o is empty)
