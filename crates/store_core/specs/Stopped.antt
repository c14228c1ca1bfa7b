-- What a crash leaves of a store, and that a stop at any call loses nothing. How an array lies on its drives is no matter here.
use Rattle.std.specs.Prelude.{◌≡◌, ◌⊎◌, ℕ, List, Contains, IsSome, ⊤}
use Rattle.smore_base.specs.Objects.{Map}
use Rattle.zone_bay.specs.Contents.{Shape, Contents}
use Rattle.zone_bay.specs.Images.{without_each}
use Rattle.zone_bay.specs.Bay.{BayState, IsImageNow}
use Rattle.zone_bay.specs.Stretch.{GoesOn}
pub use Rattle.marker_format.specs.Zone.{Array}
use Rattle.array_model.specs.Reading.{read_of}
use Rattle.array_model.specs.Map.{map_of}
use Rattle.store_core.specs.declared.store.TheConstants.{DRIVE}
use Rattle.store_core.specs.Opening.{CanOpen}

-- A bay of this array with these bytes can be opened, and each name stands for its object.
pub record OpensTo (array : Array) (shape : Shape) (objects : Map) (held : Contents) : Type 0 where
  pub can : CanOpen shape held array
  pub map : map_of array.geometry.k (read_of array shape held) ≡ objects

-- what is left of an image where the flash and any drives but drive 0 are missing, or none
abbrev pub IsLeftOf : Contents → Contents → Type 0
IsLeftOf image left = (missing : List ℕ) × (Contains missing DRIVE → ⊥) × (left ≡ without_each missing image)

-- An image that opens to these objects, whatever is missing of it.
abbrev pub RecoversTo : Array → Shape → Map → Contents → Type 0
RecoversTo array shape objects image = (left : Contents) → IsLeftOf image left → OpensTo array shape objects left

-- The bay tells what it holds, and all that a crash now may leave recovers to these objects.
pub record Keeps (array : Array) (objects : Map) (bay : BayState) : Type 0 where
  pub told : IsSome bay.contents
  pub now : (image : Contents) → IsImageNow bay image → RecoversTo array bay.shape objects image

-- Calls led from old to new. What a crash in them may have left recovers to the objects of before them or to those of after
-- them, and what a crash now may leave to those of after them.
pub record MayStop (array : Array) (before after : Map) (old new : BayState) : Type 0 where
  pub within : GoesOn old new (λ i image. RecoversTo array old.shape before image ⊎ RecoversTo array old.shape after image) (λ d m. ⊤)
  pub keeps : Keeps array after new
