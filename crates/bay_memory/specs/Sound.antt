-- The laws of a bay, of a bay in memory.
use Rattle.std.specs.Prelude.{◌≡◌, ◌⊎◌, ℕ, ◌<◌, ◌≤◌, suc, List, [], ◌∷◌, length, slice_index_or}
use Rattle.std.proofs.Common.{refl, subst, sym, ap, arith, inl, inr}
use Rattle.std.proofs.lemmas.Bool.{cases_lt, lt-ltb}
use Rattle.std.proofs.lemmas.List.{get_or_past, length-map}
use Rattle.zone_bay.specs.Contents.{Contents}
use Rattle.zone_bay.specs.Images.{IsFirmPrefix, IsImage, Instant, Between, During, moment_of}
use Rattle.zone_bay.specs.Bay.{IsSound}
use Rattle.bay_memory.specs.declared.was.Was.{Was}
use Rattle.bay_memory.specs.Past.{State, Track, IsSteady, blank_track, state_at, now, held_at}
use Rattle.bay_memory.specs.Device.{View, view_of, view_with}
use Rattle.bay_memory.specs.Array.{view_at, track_at, IsWhole, AllSteady, contents_in, firm_in}
use Rattle.bay_memory.specs.MemoryBay.{bay_views, contents_of, firm_of, contents_then, firm_then, left_of, bay_moment, state_of}
use Rattle.bay_memory.specs.declared.memory_bay.MemoryBay.{MemoryBay}

-- where each change was made before the moment, a zone held then what it holds now
state_steady : (past : List Was) (ever : List ℕ) (now : State) (moment m : ℕ) → ((i : ℕ) (was : Was) → i < length past → (slice_index_or past i was).moment < moment) → moment ≤ m → state_at past ever now m ≡ now
state_steady [] ever now moment m steady later = λ i. now
state_steady (was ∷ past) ever now moment m steady later =
    let earlier : was.moment < moment = steady 0 was (omega arith) in
    rw (lt-ltb was.moment m (omega arith)) (state_steady past ever now moment m (λ i w h. steady (suc i) w (omega arith)) later)

pub held_steady : (moment m : ℕ) (track : Track) → IsSteady moment track → moment ≤ m → held_at track m ≡ now track
held_steady moment m track steady later = state_steady track.past track.ever (now track) moment m steady later

-- images of what is held now, and of what was held then
pub image_then : (views : List View) (moment m : ℕ) (image : Contents) → AllSteady moment views → moment ≤ m → IsImage (contents_in views) (firm_in views) image → IsImage (contents_then views m) (firm_then views m) image
image_then views moment m image steady later is d z = subst (λ (s : State). IsFirmPrefix s.bytes s.firm (image d z)) (sym (held_steady moment m (track_at views d z) (steady d z) later)) (is d z)

pub image_now : (views : List View) (moment m : ℕ) (image : Contents) → AllSteady moment views → moment ≤ m → IsImage (contents_then views m) (firm_then views m) image → IsImage (contents_in views) (firm_in views) image
image_now views moment m image steady later is d z = subst (λ (s : State). IsFirmPrefix s.bytes s.firm (image d z)) (held_steady moment m (track_at views d z) (steady d z) later) (is d z)

pub counts_image : (bay : MemoryBay) (image : Contents) → IsImage (contents_of bay) (firm_of bay) image → left_of bay (Between (bay_moment bay)) image
counts_image bay image is = (omega arith, image_then (bay_views bay) bay.moment bay.moment image bay.steady (omega arith) is)

-- past the last device or the last zone nothing is held
pub none_outside : (zones blocks : ℕ) (views : List View) → IsWhole zones blocks views → (d z : ℕ) → (length views ≤ d) ⊎ (zones ≤ z) → track_at views d z ≡ blank_track
none_outside zones blocks views whole d z outside = elim (cases_lt d (length views)) [
  | inl device_in ↦ get_or_past (view_at views d).tracks z blank_track (elim outside [ inl past ↦ absurd (omega arith) | inr past ↦ omega (arith, whole.zones_held d device_in) ])
  | inr past ↦ rw (get_or_past views d (view_with []) past) refl
]

pub is_sound : (bay : MemoryBay) → IsSound (state_of bay)
is_sound bay = record {
  firm_held = bay.array.whole.firm_held;
  fits = bay.array.whole.fits;
  inside = λ d z outside. ap (λ (t : Track). (now t).bytes) (none_outside bay.array.zones bay.array.blocks (bay_views bay) bay.array.whole d z (elim outside [ inl past ↦ inl (omega (arith, length-map bay.array.devices.items view_of)) | inr past ↦ inr past ]));
  counts_now = counts_image bay;
  only_now = λ image left. image_now (bay_views bay) bay.moment bay.moment image bay.steady (omega arith) left.1;
  none_yet = λ image left. omega (arith, left.0);
  none_later = none_past;
}
  where
    none_past : (i : Instant) (image : Contents) → left_of bay i image → moment_of i ≤ bay_moment bay
    none_past (Between m) image left = left.0
    none_past (During m) image left = omega (arith, left.0)
