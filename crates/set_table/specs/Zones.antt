-- The zones of a drive.
use Rattle.std.specs.Prelude.{◌≡◌, ℕ, suc, ◌-◌, ◌*◌, ◌<◌, ◌≤◌, Bool, true, false, ◌&&◌, ◌==◌, List, [], ◌∷◌, length, take, drop, get_or, filter, replicate, nat_lt, Option, Some, None, if◌then◌else◌}
use Rattle.set_table.specs.declared.zone_use.ZoneUse.{ZoneUse}
use Rattle.set_table.specs.declared.zone_use.ZoneUse.TheVariants.{Empty, Taken, Carrier}
use Rattle.set_table.specs.declared.drive_zones.TheConstants.{GROUP}

-- the zone is empty
abbrev pub is_empty : ZoneUse → Bool
is_empty Empty = true
is_empty Taken = false
is_empty (Carrier set index) = false

-- the zone carries the index of the set
abbrev pub carries : ℕ → ℕ → ZoneUse → Bool
carries set index Empty = false
carries set index Taken = false
carries set index (Carrier s i) = (s == set) && (i == index)

-- how many zones are empty
abbrev pub count_empty : List ZoneUse → ℕ
count_empty uses = length (filter is_empty uses)

-- how many zones stand below the first empty one
abbrev pub before_empty : List ZoneUse → ℕ
before_empty [] = 0
before_empty (u ∷ uses) = if is_empty u then 0 else suc (before_empty uses)

-- the lowest empty zone
abbrev pub lowest_empty : List ZoneUse → Option ℕ
lowest_empty uses = if nat_lt (before_empty uses) (length uses) then Some (before_empty uses) else None

-- The zones of a drive that carries nothing: zones 0 and 1 are no set zones.
abbrev pub blank : ℕ → List ZoneUse
blank zones = Taken ∷ Taken ∷ replicate (zones - 2) Empty

-- how many zones of a group are empty
abbrev pub empty_in : List ZoneUse → ℕ → ℕ
empty_in uses group = count_empty (take GROUP (drop (group * GROUP) uses))

-- each zone is in a group whose empty zones are counted
pub record IsGrouped (uses : List ZoneUse) (groups : List ℕ) : Type 0 where
  pub all : length uses ≤ length groups * GROUP
  pub counts : (group : ℕ) → group < length groups → get_or groups group 0 ≡ empty_in uses group
