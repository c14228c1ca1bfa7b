-- A call on one device, as a change of what the array tells.
use Rattle.std.proofs.Common.{Result, Ok, Err, ◌≡◌, ◌≢◌, ℕ, ◌*◌, ◌<◌, ◌≤◌, ◌==◌, Bool, true, false, List, length, get_or, set, map, cond, refl, sym, subst, ◌∙◌, ap, arith, inl, inr}
use Rattle.std.specs.Prelude.{[]}
use Rattle.std.specs.Result.{is_ok, OnOk, OnErr}
use Rattle.std.proofs.lemmas.List.{get_or-map, map-set, length-map, length-set, length-append}
use Rattle.std.proofs.lemmas.Result.{on_ok_weaker, on_err_weaker}
use Rattle.std.proofs.lemmas.Bool.{cases_eq, eq-eqb, ne_eqb}
use Rattle.smore_base.specs.declared.limits.TheConstants.{BLOCK_BYTES}
use Rattle.zone_bay.specs.Outside.{counted}
use Rattle.zone_bay.specs.Contents.{Contents}
use Rattle.zone_bay.specs.Bay.{Call, Written, Read, Append, Reset, Flush, Replace, device_of}
use Rattle.bay_memory.specs.declared.device.Device.{Device}
use Rattle.bay_memory.specs.Operation.{Fits}
use Rattle.bay_memory.specs.Past.{State, Track, IsSteady, Goes, now}
use Rattle.bay_memory.specs.Device.{View, view_of, view_with, track_in, AreSteady, zone_after, lost_after, ZonesGo, DeviceMakes, NotesFailure, KeepsFailures}
use Rattle.bay_memory.specs.Array.{view_at, track_at, contents_in, IsWhole, AllSteady, state_after, ArrayGoes, ArrayMakes, KeepsTracks, AllKeepFailures, NotesFault, lost_in, with_lost}
use Rattle.bay_memory.proofs.Zones.{set_read, choice_true, choice_false, goes_unchanged}

-- what a call makes of the zones of its device, and of others
after-here : (call : Call) (z : ℕ) → state_after call (device_of call) z ≡ zone_after call z
after-here call z = choice_true (device_of call == device_of call) (zone_after call z) (λ state. state) (eq-eqb (device_of call) (device_of call) refl)

after-there : (call : Call) (d z : ℕ) → d ≢ device_of call → state_after call d z ≡ (λ state. state)
after-there call d z other = choice_false (d == device_of call) (zone_after call z) (λ state. state) (ne_eqb d (device_of call) other)

-- a zone holds no more than its blocks, and has no more bytes firm than it holds
abbrev Bounded : ℕ → State → Type 0
Bounded blocks state = (length state.bytes ≤ BLOCK_BYTES * blocks) × (state.firm ≤ length state.bytes)

bounded_zone : (call : Call) (blocks : ℕ) (held : Contents) (z : ℕ) (state : State) → Fits call (BLOCK_BYTES * blocks) held → state.bytes ≡ held (device_of call) z → Bounded blocks state → Bounded blocks (zone_after call z state)
bounded_zone (Written device zone) blocks held z state fits is bounded = bounded
bounded_zone (Read device zone) blocks held z state fits is bounded = bounded
bounded_zone (Append device zone bytes) blocks held z state fits is bounded = elim (cases_eq z zone) [
  | inl here ↦ rw (eq-eqb z zone here) (
    omega (arith, length-append state.bytes bytes, ap length is, ap (λ (n : ℕ). length (held device n)) here),
    omega (arith, length-append state.bytes bytes),
  )
  | inr there ↦ rw (ne_eqb z zone there) bounded
]
bounded_zone (Reset device zone) blocks held z state fits is bounded = elim (cases_eq z zone) [
  | inl here ↦ rw (eq-eqb z zone here) (omega arith, omega arith)
  | inr there ↦ rw (ne_eqb z zone there) bounded
]
bounded_zone (Flush device) blocks held z state fits is bounded = (bounded.0, omega arith)
bounded_zone (Replace device) blocks held z state fits is bounded = (omega arith, omega arith)

bounded_after : (call : Call) (blocks : ℕ) (views : List View) → Fits call (BLOCK_BYTES * blocks) (contents_in views) → ((d z : ℕ) → Bounded blocks (now (track_at views d z))) → (d z : ℕ) → Bounded blocks (state_after call d z (now (track_at views d z)))
bounded_after call blocks views fits bounded d z = elim (cases_eq d (device_of call)) [
  | inl here ↦ rw (eq-eqb d (device_of call) here) (bounded_zone call blocks (contents_in views) z (now (track_at views d z)) fits (ap (λ (n : ℕ). contents_in views n z) here) (bounded d z))
  | inr there ↦ rw (ne_eqb d (device_of call) there) (bounded d z)
]

-- an array stays whole
pub whole_changed : (zones blocks moment : ℕ) (call : Call) (old new : List View) → IsWhole zones blocks old → Fits call (BLOCK_BYTES * blocks) (contents_in old) → ArrayGoes moment call old new → IsWhole zones blocks new
whole_changed zones blocks moment call old new whole fits goes = record {
  few = omega (arith, whole.few, goes.count);
  zones_held = λ d within. goes.zones d ∙ whole.zones_held d (omega (arith, goes.count));
  fits = λ d z. (bounds d z).0;
  firm_held = λ d z. (bounds d z).1;
}
  where
    bounds : (d z : ℕ) → Bounded blocks (now (track_at new d z))
    bounds d z = subst (λ (s : State). Bounded blocks s) (sym (goes.each d z).changed) (bounded_after call blocks old fits (λ d z. (whole.fits d z, whole.firm_held d z)) d z)

pub whole_kept : (zones blocks : ℕ) (old new : List View) → IsWhole zones blocks old → KeepsTracks old new → IsWhole zones blocks new
whole_kept zones blocks old new whole keeps = record {
  few = omega (arith, whole.few, keeps.count);
  zones_held = λ d within. ap length (keeps.tracks d) ∙ whole.zones_held d (omega (arith, keeps.count));
  fits = λ d z. subst (λ (t : List Track). length (now (track_in t z)).bytes ≤ BLOCK_BYTES * blocks) (sym (keeps.tracks d)) (whole.fits d z);
  firm_held = λ d z. subst (λ (t : List Track). (now (track_in t z)).firm ≤ length (now (track_in t z)).bytes) (sym (keeps.tracks d)) (whole.firm_held d z);
}

-- which of the other devices are lost
lost_elsewhere : (call : Call) (answered : Bool) (d : ℕ) (lost : Bool) → d ≢ device_of call → lost ≡ lost_after call answered d lost
lost_elsewhere (Written device zone) answered d lost other = refl
lost_elsewhere (Read device zone) answered d lost other = refl
lost_elsewhere (Append device zone bytes) answered d lost other = refl
lost_elsewhere (Reset device zone) answered d lost other = refl
lost_elsewhere (Flush device) answered d lost other = refl
lost_elsewhere (Replace device) true d lost other = rw (ne_eqb d device other) refl
lost_elsewhere (Replace device) false d lost other = refl

-- a fact that holds either way
pub either_way : {T E : Type 0} {P : Type 0} (r : Result T E) → OnOk r P → OnErr r P → P
either_way (Ok x) ok err = ok
either_way (Err e) ok err = err

module _ (devices : List Device) (i : ℕ) (old new : Device) (in_list : i < length devices) (is : old ≡ get_or devices i old) where
  in_range : i < length (map view_of devices)
  in_range = omega (arith, length-map devices view_of)

  pub view_read : view_at (map view_of devices) i ≡ view_of old
  view_read = get_or-map view_of devices i old (view_with []) (omega (arith, length-map devices view_of)) ∙ ap view_of (sym is)

  pub zones_counted : (zones blocks : ℕ) → IsWhole zones blocks (map view_of devices) → length (view_of old).tracks ≡ zones
  zones_counted zones blocks whole = ap (λ (v : View). length v.tracks) (sym view_read) ∙ whole.zones_held i in_range

  view_set : (d : ℕ) → view_at (map view_of (set devices i new)) d ≡ cond (d == i) (view_of new) (view_at (map view_of devices) d)
  view_set d = ap (λ (l : List View). get_or l d (view_with [])) (map-set view_of devices i new) ∙ set_read (map view_of devices) i (view_of new) d (view_with []) in_range

  count_same : length (map view_of (set devices i new)) ≡ length (map view_of devices)
  count_same = ap length (map-set view_of devices i new) ∙ length-set (map view_of devices) i (view_of new)

  -- what holds of this device before and after, and of the others as they are
  each_view : (P : ℕ → View → View → Type 0) → P i (view_of old) (view_of new) → ((d : ℕ) → d ≢ i → P d (view_at (map view_of devices) d) (view_at (map view_of devices) d)) → (d : ℕ) → P d (view_at (map view_of devices) d) (view_at (map view_of (set devices i new)) d)
  each_view P this others d = subst (λ (v : View). P d (view_at (map view_of devices) d) v) (sym (view_set d)) (elim (cases_eq d i) [
    | inl same ↦ rw (eq-eqb d i same, same, view_read) this
    | inr other ↦ rw (ne_eqb d i other) (others d other)
  ])

  pub failures_kept : KeepsFailures (view_of old) (view_of new) → AllKeepFailures (map view_of devices) (map view_of (set devices i new))
  failures_kept keeps = each_view (λ d v w. KeepsFailures v w) keeps (λ d h. record { faults = refl; failed = refl; unnoted = refl })

  view_now : view_at (map view_of (set devices i new)) i ≡ view_of new
  view_now = view_set i ∙ rw (eq-eqb i i refl) refl

  pub lost_kept : (view_of new).lost ≡ (view_of old).lost → lost_in (map view_of (set devices i new)) ≡ lost_in (map view_of devices)
  lost_kept same = let each = each_view (λ d v w. w.lost ≡ v.lost) same (λ d h. refl) in λ k d. each d k

  pub lost_becomes : (lost : Bool) → (view_of new).lost ≡ lost → lost_in (map view_of (set devices i new)) ≡ with_lost i lost (map view_of devices)
  lost_becomes lost is_so = let each = each_view (λ d v w. w.lost ≡ cond (d == i) lost v.lost) (rw (eq-eqb i i refl) is_so) (λ d h. rw (ne_eqb d i h) refl) in λ k d. each d k

  pub tracks_kept : (view_of new).tracks ≡ (view_of old).tracks → KeepsTracks (map view_of devices) (map view_of (set devices i new))
  tracks_kept same = record { count = count_same; tracks = each_view (λ d v w. w.tracks ≡ v.tracks) same (λ d h. refl) }

  pub fault_noted : (moment : ℕ) → (view_of new).tracks ≡ (view_of old).tracks → (view_of new).faults ≡ counted (view_of old).faults → (view_of old).faults ≤ (view_of new).faults → NotesFailure moment (view_of old) (view_of new) → (view_of new).lost ≡ (view_of old).lost → NotesFault i moment (map view_of devices) (map view_of (set devices i new))
  fault_noted moment tracks faults no_fewer noted lost = record {
    tracks = tracks_kept tracks;
    faults = rw (view_now, view_read) faults;
    no_fewer = rw (view_now, view_read) no_fewer;
    noted = rw (view_now, view_read) noted;
    others = each_view (λ d v w. d ≢ i → KeepsFailures v w) (λ h. absurd (h refl)) (λ d h h'. record { faults = refl; failed = refl; unnoted = refl });
    lost = lost_kept lost;
  }

  module _ (moment : ℕ) (steady : AllSteady moment (map view_of devices)) (call : Call) (asked : i ≡ device_of call) where
    pub this_steady : AreSteady moment (view_of old).tracks
    this_steady z = subst (λ (v : View). IsSteady moment (track_in v.tracks z)) view_read (steady i z)

    pub call_goes : ZonesGo moment (zone_after call) (view_of old).tracks (view_of new).tracks → ArrayGoes moment call (map view_of devices) (map view_of (set devices i new))
    call_goes goes = record {
      count = count_same;
      zones = each_view (λ d v w. length w.tracks ≡ length v.tracks) goes.count (λ d h. refl);
      each = each_view (λ d v w. (z : ℕ) → Goes moment (state_after call d z) (track_in v.tracks z) (track_in w.tracks z))
          (λ z. subst (λ (f : State → State). Goes moment f (track_in (view_of old).tracks z) (track_in (view_of new).tracks z)) (sym (ap (λ (n : ℕ). state_after call n z) asked ∙ after-here call z)) (goes.each z))
          (λ d h z. subst (λ (f : State → State). Goes moment f (track_at (map view_of devices) d z) (track_at (map view_of devices) d z)) (sym (after-there call d z (λ same. h (same ∙ sym asked)))) (goes_unchanged moment (track_at (map view_of devices) d z) (steady d z)));
    }

    pub call_made : {T E : Type 0} (r : Result T E) → DeviceMakes moment call (view_of old) (view_of new) r → ArrayMakes moment call (map view_of devices) (map view_of (set devices i new)) r
    call_made r makes = record {
      ok = on_ok_weaker r call_goes makes.ok;
      err = on_err_weaker r (λ kept. (tracks_kept kept.0, kept.1)) makes.err;
      failures = failures_kept makes.failures;
      lost = λ k d. lost d k;
    }
      where
        lost : (d : ℕ) → lost_in (map view_of (set devices i new)) d ≡ lost_after call (is_ok r) d (lost_in (map view_of devices) d)
        lost = each_view (λ d v w. w.lost ≡ lost_after call (is_ok r) d v.lost) (rw asked makes.lost) (λ d h. lost_elsewhere call (is_ok r) d _ (λ same. h (same ∙ sym asked)))

-- the array stays whole
pub whole_made : {T E : Type 0} (zones blocks moment : ℕ) (call : Call) (old new : List View) (r : Result T E) → IsWhole zones blocks old → Fits call (BLOCK_BYTES * blocks) (contents_in old) → ArrayMakes moment call old new r → IsWhole zones blocks new
whole_made zones blocks moment call old new r whole fits makes = either_way r
    (on_ok_weaker r (whole_changed zones blocks moment call old new whole fits) makes.ok)
    (on_err_weaker r (λ kept. whole_kept zones blocks old new whole kept.0) makes.err)
