-- What a bay in memory tells, and what its calls do beside what those of any bay do.
use Rattle.std.specs.Prelude.{◌≡◌, ◌⊎◌, ℕ, ◌+◌, ◌<◌, ◌≤◌, Bool, false, true, List, [], Contains, Option, None, Some, option_map, Result, MatchResult, is_ok, OnOk, OnErr}
use Rattle.zone_bay.specs.Outside.{last, counted}
use Rattle.zone_bay.specs.Contents.{Shape, Contents, Lengths}
use Rattle.zone_bay.specs.Images.{IsImage, Instant, Between, During, moment_of}
use Rattle.zone_bay.specs.Bay.{BayState, Call, Replace, device_of, reads_after}
use Rattle.bay_memory.specs.Past.{held_at}
use Rattle.bay_memory.specs.Operation.{done_by}
use Rattle.bay_memory.specs.Device.{View, NeedsMemory}
use Rattle.bay_memory.specs.Array.{view_at, track_at, contents_in, firm_in, failed_in, lost_in, lost_then, ArrayGoes, KeepsTracks, AllKeepFailures}
use Rattle.bay_memory.specs.Views.{views_of, shape_of}
use Rattle.bay_memory.specs.Image.{image_shape, image_bytes}
use Rattle.bay_memory.specs.declared.asked.Asked.{Asked}
use Rattle.bay_memory.specs.declared.image.Image.{Image}
use Rattle.bay_memory.specs.declared.memory_bay.MemoryBay.{MemoryBay}

abbrev pub bay_views : MemoryBay → List View
bay_views bay = views_of bay.array

abbrev pub bay_shape : MemoryBay → Shape
bay_shape bay = shape_of bay.array

abbrev pub contents_of : MemoryBay → Contents
contents_of bay = contents_in (bay_views bay)

abbrev pub firm_of : MemoryBay → Lengths
firm_of bay = firm_in (bay_views bay)

abbrev pub faults_of : MemoryBay → ℕ → ℕ
faults_of bay device = (view_at (bay_views bay) device).faults

abbrev pub failed_of : MemoryBay → ℕ → ℕ → Type 0
failed_of bay = failed_in (bay_views bay)

abbrev pub lost_of : MemoryBay → ℕ → Bool
lost_of bay = lost_in (bay_views bay)

abbrev pub bay_moment : MemoryBay → ℕ
bay_moment bay = bay.moment

abbrev pub reads_of : MemoryBay → ℕ
reads_of bay = bay.reads

-- the numbers of the calls that are to fail
abbrev pub listed_calls : MemoryBay → List ℕ
listed_calls bay = bay.listed.items

-- what each zone held at a moment, and how much of it was firm
abbrev pub contents_then : List View → ℕ → Contents
contents_then views moment d z = (held_at (track_at views d z) moment).bytes

abbrev pub firm_then : List View → ℕ → Lengths
firm_then views moment d z = (held_at (track_at views d z) moment).firm

-- Between two calls a crash left an image of what was held then. In a call it left that, or an image of what was held
-- once the call was done, with no more firm than before.
abbrev pub left_in : List View → ℕ → Instant → Contents → Type 0
left_in views moment (Between m) image = (m ≤ moment) × IsImage (contents_then views m) (firm_then views m) image
left_in views moment (During m) image = (m < moment) × (IsImage (contents_then views m) (firm_then views m) image ⊎ IsImage (contents_then views (m + 1)) (firm_then views m) image)

abbrev pub left_of : MemoryBay → Instant → Contents → Type 0
left_of bay = left_in (bay_views bay) bay.moment

-- all that it tells as a bay
abbrev pub state_of : MemoryBay → BayState
state_of bay = record {
  shape = bay_shape bay;
  contents = Some (contents_of bay);
  firm = firm_of bay;
  left = left_of bay;
  faults = faults_of bay;
  failed = failed_of bay;
  moment = bay.moment;
  reads = bay.reads;
}

-- the call whose image is asked for, and the image that is kept
abbrev pub asked_of : MemoryBay → Option Asked
asked_of bay = bay.asked

abbrev pub stored_of : MemoryBay → Option Image
stored_of bay = bay.kept

-- the call that is made next is to fail, whatever its device
abbrev pub IsDue : MemoryBay → Type 0
IsDue bay = (bay_moment bay ≡ last) ⊎ Contains (listed_calls bay) (bay_moment bay)

-- or since its device is lost
abbrev pub IsDueOn : ℕ → MemoryBay → Type 0
IsDueOn device bay = IsDue bay ⊎ (lost_of bay device ≡ true)

-- A lost device can be replaced.
abbrev pub IsDueFor : Call → MemoryBay → Type 0
IsDueFor (Replace device) bay = IsDue bay
IsDueFor call bay = IsDueOn (device_of call) bay

-- the image of the call that is made next is asked for
abbrev pub IsAsked : MemoryBay → Type 0
IsAsked bay = (asked : Asked) × (asked_of bay ≡ Some asked) × (asked.call ≡ bay_moment bay)

-- of the image that is kept, its shape and the bytes of each zone
abbrev pub kept_of : MemoryBay → Option (Shape × Contents)
kept_of bay = option_map (λ image. (image_shape image, image_bytes image)) (stored_of bay)

abbrev pub KeepsImage : Contents → MemoryBay → MemoryBay → Type 0
KeepsImage image old new = kept_of new ≡ Some (bay_shape old, image)

-- no memory is found for the bytes of an append, or for an image, of which none is kept then
abbrev pub FindsNoMemory : Call → MemoryBay → MemoryBay → Type 0
FindsNoMemory call old new = NeedsMemory call ⊎ (IsAsked old × (kept_of new ≡ None))

-- A call whose image is asked for keeps it: where it is answered, what is held when so many bytes are done; where it
-- fails, all that was held, or none. Any other call leaves that as it was.
pub record TakesImage {T E : Type 0} (done_at : ℕ → Contents → Contents) (old new : MemoryBay) (result : Result T E) : Type 0 where
  pub not_asked : ¬ IsAsked old → (asked_of new ≡ asked_of old) × (stored_of new ≡ stored_of old)
  pub no_longer : IsAsked old → asked_of new ≡ None
  pub done : (asked : Asked) → asked_of old ≡ Some asked → asked.call ≡ bay_moment old → OnOk result (KeepsImage (done_at asked.bytes (contents_of old)) old new)
  pub failed : IsAsked old → OnErr result ((kept_of new ≡ None) ⊎ KeepsImage (contents_of old) old new)

-- What a call has done before its failure is counted.
pub record Begins {T E : Type 0} (due : Bool) (call : Call) (old new : MemoryBay) (result : Result T E) : Type 0 where
  pub shape : bay_shape new ≡ bay_shape old
  pub later : bay_moment new ≡ counted (bay_moment old)
  pub no_earlier : bay_moment old ≤ bay_moment new
  pub reads : reads_of new ≡ reads_after call (state_of old)
  pub listed : listed_calls new ≡ listed_calls old
  pub ok : OnOk result ((due ≡ false) × ArrayGoes (bay_moment old) call (bay_views old) (bay_views new))
  pub err : OnErr result (KeepsTracks (bay_views old) (bay_views new) × ((due ≡ true) ⊎ FindsNoMemory call old new))
  pub failures : AllKeepFailures (bay_views old) (bay_views new)
  pub lost : lost_of new ≡ lost_then call (is_ok result) (bay_views old)
  pub image : TakesImage (λ n. done_by n call) old new result

-- what a call does beside what it does to any bay
pub record MakesInMemory {T E : Type 0} (call : Call) (old new : MemoryBay) (result : Result T E) : Type 0 where
  -- it fails where it is due to, and else only for want of memory
  pub exact : MatchResult result (λ _. ¬ IsDueFor call old) (λ _. IsDueFor call old ⊎ FindsNoMemory call old new)
  -- a failed call changes nothing that is held, and is counted once
  pub kept : OnErr result ((contents_of new ≡ contents_of old) × (firm_of new ≡ firm_of old))
  pub count : OnErr result (faults_of new (device_of call) ≡ counted (faults_of old (device_of call)))
  pub listed : listed_calls new ≡ listed_calls old
  pub lost : lost_of new ≡ lost_then call (is_ok result) (bay_views old)
  pub image : TakesImage (λ n. done_by n call) old new result
  -- the image that it keeps is one that a crash at that moment may leave
  pub allowed : (image : Contents) → IsAsked old → KeepsImage image old new → (i : Instant) × (moment_of i ≡ bay_moment old) × left_of new i image

-- no call was made, none is to fail, and no image is asked for
pub record IsNew (bay : MemoryBay) : Type 0 where
  pub faults : faults_of bay ≡ (λ _. 0)
  pub failed : (d m : ℕ) → failed_of bay d m → ⊥
  pub lost : lost_of bay ≡ (λ _. false)
  pub moment : bay_moment bay ≡ 0
  pub reads : reads_of bay ≡ 0
  pub listed : listed_calls bay ≡ []
  pub asked : asked_of bay ≡ None
  pub kept : stored_of bay ≡ None

-- nothing is held, no call was made and none is to fail
pub record IsBlank (devices zones blocks : ℕ) (bay : MemoryBay) : Type 0 where
  pub shape : bay_shape bay ≡ record { devices = devices; zones = zones; blocks = blocks }
  pub contents : contents_of bay ≡ (λ _ _. [])
  pub new : IsNew bay

-- what is held and was held, what failed and what is lost, and the calls made
pub record KeepsArray (old new : MemoryBay) : Type 0 where
  pub array : new.array ≡ old.array
  pub moment : bay_moment new ≡ bay_moment old
  pub reads : reads_of new ≡ reads_of old

-- which calls are to fail or to be kept, and what is kept
pub record KeepsRequests (old new : MemoryBay) : Type 0 where
  pub listed : listed_calls new ≡ listed_calls old
  pub asked : asked_of new ≡ asked_of old
  pub kept : stored_of new ≡ stored_of old
