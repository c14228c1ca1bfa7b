-- Points between calls on the drives of a table.
use Rattle.std.specs.Prelude.{ℕ, List, [], ◌∷◌}
use Rattle.zone_bay.specs.Bay.{BayState}
use Rattle.set_table.specs.Table.{Table}

-- a point between two calls: the table, how many calls were made so far, and how often each device has failed
pub record Point : Type 0 where
  pub table : Table
  pub moment : ℕ
  pub faults : ℕ → ℕ

abbrev pub point_at : Table → BayState → Point
point_at t bay = record { table = t; moment = bay.moment; faults = bay.faults }

-- the last of these points
abbrev pub last_point : Point → List Point → Point
last_point at [] = at
last_point at (next ∷ points) = last_point next points
