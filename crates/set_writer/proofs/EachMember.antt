-- Calls on one member after another, by rising index.
use Rattle.std.proofs.Common.{◌≡◌, inl, inr, ℕ, ◌+◌, ◌<◌, Bool, true, false, cond, List, [], ◌++◌, length, Option, Some, None, IfSome, refl, sym, ap, ◌∙◌, arith}
use Rattle.std.specs.Prelude.{◌&&◌, ◌||◌, ◌==◌, nat_lt}
use Rattle.std.proofs.lemmas.Bool.{cases_eq, cases_lt, eq-eqb, ne_eqb, lt-ltb, le-ltb}
use Rattle.std.proofs.lemmas.List.{append-nil}
use Rattle.smore_base.specs.Told.{Told}
use Rattle.smore_base.specs.declared.geometry.Geometry.{Geometry}
use Rattle.zone_bay.specs.Contents.{Contents}
use Rattle.zone_bay.specs.Bay.{BayState, IsSound}
use Rattle.set_table.specs.declared.zone_use.ZoneUse.{ZoneUse}
use Rattle.set_table.specs.declared.zone_use.ZoneUse.TheVariants.{Empty, Taken, Carrier}
use Rattle.set_table.specs.Zones.{carries}
use Rattle.set_table.specs.Table.{Table, use_at, is_live, fragments_of}
use Rattle.set_writer.specs.Members.{of_members, of_one, grown_by, HasRoom, AllHaveRoom, SpreadsBy, is_member, FlushesBy}
use Rattle.set_writer.proofs.MemberCalls.{more_live, spreads_then, flushes_then}

-- ---- one index more

pub members_more : (set i : ℕ) (m : ℕ → List ℕ) (u : ZoneUse) → of_members i set m u ++ of_one set i (m i) u ≡ of_members (i + 1) set m u
members_more set i m Empty = refl
members_more set i m Taken = refl
members_more set i m (Carrier s j) = at_one (s == set)
  where
    at_one : (b : Bool) → cond (b && nat_lt j i) (m j) [] ++ cond (b && (j == i)) (m i) [] ≡ cond (b && nat_lt j (i + 1)) (m j) []
    at_one false = refl
    at_one true = elim (cases_lt j i) [
      | inl before ↦ rw (lt-ltb j i before, ne_eqb j i (λ e. omega arith), lt-ltb j (i + 1) (omega arith)) (append-nil (m j))
      | inr from ↦ elim (cases_eq j i) [
        | inl here ↦ rw (le-ltb j i from, eq-eqb j i here, lt-ltb j (i + 1) (omega arith)) (ap m (sym here))
        | inr other ↦ rw (le-ltb j i from, ne_eqb j i other, le-ltb j (i + 1) (omega arith)) refl
      ]
    ]

pub no_members : (set : ℕ) (m : ℕ → List ℕ) (u : ZoneUse) → of_members 0 set m u ≡ []
no_members set m Empty = refl
no_members set m Taken = refl
no_members set m (Carrier s j) = at_one (s == set)
  where
    at_one : (b : Bool) → cond (b && nat_lt j 0) (m j) [] ≡ []
    at_one false = refl
    at_one true = rw (le-ltb j 0 (omega arith)) refl

pub is_member_more : (set i : ℕ) (u : ZoneUse) → is_member (i + 1) set u ≡ (is_member i set u || carries set i u)
is_member_more set i Empty = refl
is_member_more set i Taken = refl
is_member_more set i (Carrier s j) = at_one (s == set)
  where
    at_one : (b : Bool) → (b && nat_lt j (i + 1)) ≡ ((b && nat_lt j i) || (b && (j == i)))
    at_one false = refl
    at_one true = elim (cases_lt j i) [
      | inl before ↦ rw (lt-ltb j (i + 1) (omega arith), lt-ltb j i before) refl
      | inr from ↦ elim (cases_eq j i) [
        | inl here ↦ rw (lt-ltb j (i + 1) (omega arith), le-ltb j i from, eq-eqb j i here) refl
        | inr other ↦ rw (le-ltb j (i + 1) (omega arith), le-ltb j i from, ne_eqb j i other) refl
      ]
    ]

pub is_no_member : (set : ℕ) (u : ZoneUse) → is_member 0 set u ≡ false
is_no_member set Empty = refl
is_no_member set Taken = refl
is_no_member set (Carrier s j) = at_one (s == set)
  where
    at_one : (b : Bool) → (b && nat_lt j 0) ≡ false
    at_one false = refl
    at_one true = le-ltb j 0 (omega arith)

-- ---- what holds between two members

-- the members from this index on hold what they held
pub room_now : (set i bytes : ℕ) (m : ℕ → List ℕ) (t t' : Table) (old mid : BayState) → i < fragments_of t → SpreadsBy (of_members i set m) t t' old mid → IfSome old.contents (AllHaveRoom t set bytes) → IfSome mid.contents (HasRoom t' set i bytes)
room_now set i bytes m t t' old mid below spread room = told old.contents mid.contents spread.grows.whole room
  where
    zones : t'.zones ≡ t.zones
    zones = ap (λ (s : Table). s.zones) spread.grows.table

    none : (z d : ℕ) → use_at t.zones d z ≡ Carrier set i → of_members i set m (use_at t.zones d z) ≡ []
    none z d is = ap (of_members i set m) is ∙ rw (eq-eqb set set refl, le-ltb i i (omega arith)) refl

    told : (o n : Option Contents) → Told o n (λ held at. (d z : ℕ) → is_live t' d ≡ true → at d z ≡ grown_by t (of_members i set m) held d z) → IfSome o (AllHaveRoom t set bytes) → IfSome n (HasRoom t' set i bytes)
    told o None w r = tt
    told None (Some at) w r = absurd w
    told (Some held) (Some at) w r = λ d z live is.
        let before = spread.grows.leads.stays_lost d live in
        let is' : use_at t.zones d z ≡ Carrier set i = ap (λ zs. use_at zs d z) (sym zones) ∙ is in
        let same : at d z ≡ held d z = w d z live ∙ ap (λ (l : List ℕ). held d z ++ l) (more_live t (of_members i set m) d z before ∙ none z d is') ∙ append-nil (held d z) in
        let fits = r d z i below before is' in
        let g = ap (λ (x : Geometry). x.blocks) (ap (λ (s : Table). s.geometry) spread.grows.table) in
        let long = ap (λ (l : List ℕ). length l) same in
        omega (arith, fits, g, long)

-- one member more
pub spread_more : (set i : ℕ) (m : ℕ → List ℕ) (t t' t'' : Table) (old mid new : BayState) → IsSound old → IsSound mid → SpreadsBy (of_members i set m) t t' old mid → SpreadsBy (of_one set i (m i)) t' t'' mid new → SpreadsBy (of_members (i + 1) set m) t t'' old new
spread_more set i m t t' t'' old mid new sound sound' a b = spreads_then (of_members i set m) (of_one set i (m i)) (of_members (i + 1) set m) t t' t'' old mid new sound sound' a b (members_more set i m)

pub flush_more : (set i : ℕ) (t t' t'' : Table) (old mid new : BayState) → IsSound old → IsSound mid → IsSound new → FlushesBy (is_member i set) t t' old mid → FlushesBy (carries set i) t' t'' mid new → FlushesBy (is_member (i + 1) set) t t'' old new
flush_more set i t t' t'' old mid new sound sound' sound'' a b = flushes_then (is_member i set) (carries set i) (is_member (i + 1) set) t t' t'' old mid new sound sound' sound'' a b (is_member_more set i)
