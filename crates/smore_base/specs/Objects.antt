-- What an array says of each name.
use Rattle.std.specs.Prelude.{ℕ, List}
use Rattle.std.specs.Ordering.{nat_cmp}
use Rattle.std.specs.Cmp.Lexicographic.{slice_cmp}
use Rattle.std.specs.FinMap as map

-- A name stands for an object, which is bytes; or for a broken one, of whose upload this part is the first that isn't
-- there, or of whose parts, as many as this number, the lengths don't add up.
pub data Value : Type 0 where
  Whole : List ℕ → Value
  Broken : (upload part : ℕ) → Value

-- from names to values; names are compared by their bytes
abbrev pub Map : Type 0
Map = map.FinMap (slice_cmp nat_cmp) Value
