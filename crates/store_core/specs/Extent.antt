-- What is known of each name without the bytes of its object.
use Rattle.std.specs.Prelude.{ℕ, List, length, map}
use Rattle.std.specs.List.{filter}
use Rattle.std.specs.Ordering.{nat_cmp, is_lt}
use Rattle.std.specs.Cmp.Lexicographic.{slice_cmp}
use Rattle.std.specs.FinMap as finmap
use Rattle.smore_base.specs.Objects.{Value, Whole, Broken as BrokenObject, Map}
use Rattle.store_core.specs.declared.extent.Extent.{Extent}
use Rattle.store_core.specs.declared.extent.Extent.TheVariants.{Sized, Broken}

-- from names to values of a type
abbrev pub ByName : Type 0 → Type 0
ByName X = finmap.FinMap (slice_cmp nat_cmp) X

-- the same names, each with what is made of its value
abbrev pub mapped : {X Y : Type 0} → (X → Y) → ByName X → ByName Y
mapped make values = finmap.from_sorted (map (λ e. (e.0, make e.1)) (finmap.entries values))

-- the names above this one, in byte order
abbrev pub names_above : {X : Type 0} → ByName X → List ℕ → List (List ℕ)
names_above values after = filter (λ name. is_lt (slice_cmp nat_cmp after name)) (finmap.keys values)

-- from names to what is known of their objects
abbrev pub Extents : Type 0
Extents = ByName Extent

-- what is known of an object, or of a broken one
abbrev pub extent_of : Value → Extent
extent_of (Whole bytes) = Sized (length bytes)
extent_of (BrokenObject upload part) = Broken upload part

-- what is known of each name of a map
abbrev pub extents_of : Map → Extents
extents_of objects = mapped extent_of objects
