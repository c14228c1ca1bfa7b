-- What calls on the members of a set do: the drives that carry its indexes, each in a zone of its own.
use Rattle.std.specs.Prelude.{◌≡◌, ℕ, ◌+◌, ◌*◌, ◌<◌, ◌≤◌, Bool, true, false, ◌&&◌, ◌==◌, nat_lt, List, [], ◌++◌, length, IfSome, if◌then◌else◌}
use Rattle.smore_base.specs.Told.{Told}
use Rattle.smore_base.specs.declared.geometry.Geometry.{Geometry}
use Rattle.smore_base.specs.declared.limits.TheConstants.{BLOCK_BYTES}
use Rattle.marker_format.specs.Zone.{Array}
use Rattle.zone_bay.specs.Outside.{Rose}
use Rattle.zone_bay.specs.Contents.{Contents}
use Rattle.zone_bay.specs.Bay.{BayState}
use Rattle.zone_bay.specs.Stretch.{GoesToward, FailsToward}
use Rattle.set_table.specs.declared.zone_use.ZoneUse.{ZoneUse}
use Rattle.set_table.specs.declared.zone_use.ZoneUse.TheVariants.{Empty, Taken, Carrier}
use Rattle.set_table.specs.Zones.{carries}
use Rattle.set_table.specs.Table.{Table, use_at, is_live, fragments_of, Loses}

-- ---- what is put on them

-- the bytes of the index that a zone carries, where it is one of the set's first so many
abbrev pub of_members : ℕ → ℕ → (ℕ → List ℕ) → ZoneUse → List ℕ
of_members count set more Empty = []
of_members count set more Taken = []
of_members count set more (Carrier s index) = if (s == set) && nat_lt index count then more index else []

-- these bytes, where a zone carries this index of the set
abbrev pub of_one : ℕ → ℕ → List ℕ → ZoneUse → List ℕ
of_one set index bytes u = if carries set index u then bytes else []

-- what a zone gets, by what it is used for, where its drive is live
unfoldable pub more_at : Table → (ZoneUse → List ℕ) → ℕ → ℕ → List ℕ
more_at t more d z = if is_live t d then more (use_at t.zones d z) else []

-- what zones hold, with that at their ends
abbrev pub grown_by : Table → (ZoneUse → List ℕ) → Contents → Contents
grown_by t more held d z = held d z ++ more_at t more d z

-- the zone that carries the index has room for so many bytes more
abbrev pub HasRoom : Table → ℕ → ℕ → ℕ → Contents → Type 0
HasRoom t set index bytes held = (d z : ℕ) → is_live t d ≡ true → use_at t.zones d z ≡ Carrier set index → length (held d z) + bytes ≤ BLOCK_BYTES * t.geometry.blocks

-- the zones that carry the set have
abbrev pub AllHaveRoom : Table → ℕ → ℕ → Contents → Type 0
AllHaveRoom t set bytes held = (d z index : ℕ) → index < fragments_of t → is_live t d ≡ true → use_at t.zones d z ≡ Carrier set index → length (held d z) + bytes ≤ BLOCK_BYTES * t.geometry.blocks

-- payloads are made into the geometry's fragments
abbrev pub IsOfCode : Geometry → ℕ → ℕ → Type 0
IsOfCode g k p = (k ≡ g.k) × (p ≡ g.p)

-- ---- what calls on them do

-- Calls led toward a goal, whichever of them failed: a device was lost where a call on it failed, and no other device failed.
pub record Leads (goal : Contents → Contents) (t t' : Table) (old new : BayState) : Type 0 where
  pub stays_lost : (d : ℕ) → is_live t' d ≡ true → is_live t d ≡ true
  pub toward : GoesToward goal old new (λ d m. Loses t t' d)
  pub rose : (d : ℕ) → Loses t t' d → Rose (old.faults d) (new.faults d)
  pub failed : (d : ℕ) → Loses t t' d → FailsToward goal d old new

-- the drives that are live have all that was aimed at
abbrev pub AllReach : (Contents → Contents) → Table → BayState → BayState → Type 0
AllReach goal t' old new = Told old.contents new.contents (λ held at. (d z : ℕ) → is_live t' d ≡ true → at d z ≡ goal held d z)

-- Zones of live drives got bytes at their ends, by what they are used for. A drive that was lost has a part of them, the others have
-- all. Of the table only losses changed.
pub record GrowsBy (more : ZoneUse → List ℕ) (t t' : Table) (old new : BayState) : Type 0 where
  pub table : t' ≡ record t { lost = t'.lost }
  pub leads : Leads (grown_by t more) t t' old new
  pub whole : AllReach (grown_by t more) t' old new

-- and nothing is firm that wasn't
pub record SpreadsBy (more : ZoneUse → List ℕ) (t t' : Table) (old new : BayState) : Type 0 where
  pub grows : GrowsBy more t t' old new
  pub firm : new.firm ≡ old.firm

-- the live members of the set got the bytes of their indexes
abbrev pub Spreads : ℕ → (ℕ → List ℕ) → Table → Table → BayState → BayState → Type 0
Spreads set more t = SpreadsBy (of_members (fragments_of t) set more) t

-- the zone carries one of the first so many indexes of the set
abbrev pub is_member : ℕ → ℕ → ZoneUse → Bool
is_member count set Empty = false
is_member count set Taken = false
is_member count set (Carrier s index) = (s == set) && nat_lt index count

-- the device is live, and one of its zones is used so
pub record HasZone (test : ZoneUse → Bool) (t : Table) (d : ℕ) : Type 0 where
  pub live : is_live t d ≡ true
  pub zone : ℕ
  pub passes : test (use_at t.zones d zone) ≡ true

-- all that these drives hold is firm
abbrev pub AllFirm : (ZoneUse → Bool) → Table → BayState → Type 0
AllFirm test t bay = IfSome bay.contents (λ held. (d z : ℕ) → HasZone test t d → bay.firm d z ≡ length (held d z))

-- All that is held was made firm on the live drives that have a zone which is used so. Nothing that is held changed, and no other
-- device was flushed.
pub record FlushesBy (test : ZoneUse → Bool) (t t' : Table) (old new : BayState) : Type 0 where
  pub table : t' ≡ record t { lost = t'.lost }
  pub leads : Leads (λ held. held) t t' old new
  pub contents : new.contents ≡ old.contents
  pub firm : AllFirm test t' new
  pub others : (d z : ℕ) → (HasZone test t d → ⊥) → new.firm d z ≡ old.firm d z

-- the live members of the set were flushed
abbrev pub Flushes : ℕ → Table → Table → BayState → BayState → Type 0
Flushes set t = FlushesBy (is_member (fragments_of t) set) t

-- no device without a live member of the set was flushed
abbrev pub OthersStay : ℕ → Table → BayState → BayState → Type 0
OthersStay set t old new = (d z : ℕ) → (HasZone (is_member (fragments_of t) set) t d → ⊥) → new.firm d z ≡ old.firm d z

-- The live members of the set got the bytes of their indexes, by calls of which some were flushes.
abbrev pub Grows : ℕ → (ℕ → List ℕ) → Table → Table → BayState → BayState → Type 0
Grows set more t = GrowsBy (of_members (fragments_of t) set more) t

-- all that the live members of the set hold is firm
abbrev pub MembersFirm : ℕ → Table → BayState → Type 0
MembersFirm set t = AllFirm (is_member (fragments_of t) set) t

-- the zones that carry the set hold so many blocks
abbrev pub HoldBlocks : Table → ℕ → ℕ → Contents → Type 0
HoldBlocks t set blocks held = (d z index : ℕ) → index < fragments_of t → is_live t d ≡ true → use_at t.zones d z ≡ Carrier set index → length (held d z) ≡ BLOCK_BYTES * blocks
