-- A change of one zone, as a change of the tracks of its device.
use Rattle.std.proofs.Common.{Result, Ok, Bool, true, false, ◌≡◌, ℕ, ◌+◌, ◌<◌, ◌≤◌, ◌==◌, List, length, get_or, set, map, cond, refl, sym, subst, ◌∙◌, ap, arith, inl, inr}
use Rattle.std.specs.Result.{OnOk, OnErr}
use Rattle.std.proofs.lemmas.List.{get_or-set_same, get_or-set_other, get_or-map, map-set, set-get_or, length-map, length-set, get_or_past}
use Rattle.std.proofs.lemmas.Result.{on_ok_weaker, on_err_weaker}
use Rattle.std.proofs.lemmas.Bool.{cases_eq, cases_lt, eq-eqb, ne_eqb}
use Rattle.zone_bay.specs.Bay.{Call, Append, Reset}
use Rattle.bay_memory.specs.declared.device.Device.{Device}
use Rattle.bay_memory.specs.declared.zone.Zone.{Zone}
use Rattle.bay_memory.specs.Past.{State, Track, IsSteady, Goes, with_more, all_gone, blank_track}
use Rattle.bay_memory.specs.Zone.{track_of}
use Rattle.bay_memory.specs.Device.{View, view_of, track_in, AreSteady, ZonesGo, DeviceMakes}

-- what stands at a place of a list after a write at a place
pub set_read : {A : Type 0} (l : List A) (i : ℕ) (a : A) (j : ℕ) (d : A) → i < length l → get_or (set l i a) j d ≡ cond (j == i) a (get_or l j d)
set_read l i a j d within = elim (cases_eq j i) [
  | inl same ↦ rw (eq-eqb j i same, same) (get_or-set_same l i a d within)
  | inr other ↦ rw (ne_eqb j i other) (get_or-set_other l i j a d other)
]

-- a choice of two changes
pub choice_true : {A : Type 0} (b : Bool) (f g : A → A) → b ≡ true → (λ a. cond b (f a) (g a)) ≡ f
choice_true {A = A} b f g is = ap {B = A → A} (λ b a. cond b (f a) (g a)) is

pub choice_false : {A : Type 0} (b : Bool) (f g : A → A) → b ≡ false → (λ a. cond b (f a) (g a)) ≡ g
choice_false {A = A} b f g is = ap {B = A → A} (λ b a. cond b (f a) (g a)) is

-- a change of one zone alone
abbrev pub at_zone : ℕ → (State → State) → ℕ → State → State
at_zone zone change z state = cond (z == zone) (change state) state

-- a zone of which nothing is changed
pub goes_unchanged : (moment : ℕ) (track : Track) → IsSteady moment track → Goes moment (λ state. state) track track
goes_unchanged moment track steady = record { changed = refl; until = λ m h. refl; since = λ m later i was within. let h = steady i was within in omega arith }

module _ (zones : List Zone) (z : ℕ) (old : Zone) (in_range : z < length (map track_of zones)) (is : old ≡ get_or zones z old) where
  pub track_read : track_in (map track_of zones) z ≡ track_of old
  track_read = get_or-map track_of zones z old blank_track (omega (arith, length-map zones track_of)) ∙ ap track_of (sym is)

  pub track_set : (new : Zone) (y : ℕ) → track_in (map track_of (set zones z new)) y ≡ cond (y == z) (track_of new) (track_in (map track_of zones) y)
  track_set new y = ap (λ (l : List Track). get_or l y blank_track) (map-set track_of zones z new) ∙ set_read (map track_of zones) z (track_of new) y blank_track in_range

  pub tracks_kept : (new : Zone) → track_of new ≡ track_of old → map track_of (set zones z new) ≡ map track_of zones
  tracks_kept new same = map-set track_of zones z new ∙ ap (λ (t : Track). set (map track_of zones) z t) (same ∙ sym track_read) ∙ set-get_or (map track_of zones) z blank_track

  pub tracks_go : (new : Zone) (moment : ℕ) (change : State → State) → AreSteady moment (map track_of zones) → Goes moment change (track_of old) (track_of new) → ZonesGo moment (at_zone z change) (map track_of zones) (map track_of (set zones z new))
  tracks_go new moment change steady goes = record { count = ap length (map-set track_of zones z new) ∙ length-set (map track_of zones) z (track_of new); each = each }
    where
      each : (y : ℕ) → Goes moment (at_zone z change y) (track_in (map track_of zones) y) (track_in (map track_of (set zones z new)) y)
      each y = subst (λ (t : Track). Goes moment (at_zone z change y) (track_in (map track_of zones) y) t) (sym (track_set new y)) (elim (cases_eq y z) [
        | inl same ↦ here same
        | inr other ↦ subst (λ (f : State → State). Goes moment f (track_in (map track_of zones) y) (cond (y == z) (track_of new) (track_in (map track_of zones) y))) (sym (choice_false (y == z) change (λ state. state) (ne_eqb y z other))) (rw (ne_eqb y z other) (goes_unchanged moment (track_in (map track_of zones) y) (steady y)))
      ])
        where
          here : y ≡ z → Goes moment (at_zone z change y) (track_in (map track_of zones) y) (cond (y == z) (track_of new) (track_in (map track_of zones) y))
          here same = subst (λ (f : State → State). Goes moment f (track_in (map track_of zones) y) (cond (y == z) (track_of new) (track_in (map track_of zones) y))) (sym (choice_true (y == z) change (λ state. state) (eq-eqb y z same))) (rw (eq-eqb y z same, same, track_read) goes)

  pub track_steady : (moment : ℕ) → AreSteady moment (map track_of zones) → IsSteady moment (track_of old)
  track_steady moment steady = subst (λ (t : Track). IsSteady moment t) track_read (steady z)

-- a call on one zone of a device
module _ (device : Device) (z : ℕ) (old : Zone) (in_range : z < length (map track_of device.zones.items)) (is : old ≡ get_or device.zones.items z old) (moment : ℕ) (steady : AreSteady moment (map track_of device.zones.items)) (zone : ℕ) (here : z ≡ zone) (new : Zone) (call : Call) where
  -- the device with that zone
  abbrev after : View
  after = record (view_of device) { tracks = map track_of (set device.zones.items z new) }

  goes_there : (change : State → State) → Goes moment change (track_of old) (track_of new) → ZonesGo moment (at_zone zone change) (map track_of device.zones.items) (map track_of (set device.zones.items z new))
  goes_there change goes = subst (λ (n : ℕ). ZonesGo moment (at_zone n change) (map track_of device.zones.items) (map track_of (set device.zones.items z new))) here (tracks_go device.zones.items z old in_range is new moment change steady goes)

  pub append_made : {T E : Type 0} (r : Result T E) (d : ℕ) (bytes : List ℕ) → call ≡ Append d zone bytes → OnOk r (Goes moment (with_more bytes) (track_of old) (track_of new)) → OnErr r (track_of new ≡ track_of old) → DeviceMakes moment call (view_of device) after r
  append_made r d bytes is_append ok err = rw is_append (record {
    ok = on_ok_weaker r (goes_there (with_more bytes)) ok;
    err = on_err_weaker r (λ same. (tracks_kept device.zones.items z old in_range is new same, tt)) err;
    failures = record { faults = refl; failed = refl; unnoted = refl };
    lost = refl;
  })

  pub reset_made : {T E : Type 0} (x : T) (d : ℕ) → call ≡ Reset d zone → Goes moment all_gone (track_of old) (track_of new) → DeviceMakes {E = E} moment call (view_of device) after (Ok x)
  reset_made x d is_reset goes = rw is_reset (record {
    ok = goes_there all_gone goes;
    err = tt;
    failures = record { faults = refl; failed = refl; unnoted = refl };
    lost = refl;
  })

-- one more zone of all is changed
module _ (moment index : ℕ) (change : State → State) (first zones : List Zone) (old new : Zone) (count : length zones ≡ length first) (in_range : index < length zones) (is : old ≡ get_or zones index old) (changed : (z : ℕ) → z < index → Goes moment change (track_in (map track_of first) z) (track_in (map track_of zones) z)) (rest : (z : ℕ) → index ≤ z → track_in (map track_of zones) z ≡ track_in (map track_of first) z) (now_goes : Goes moment change (track_of (get_or zones index old)) (track_of new)) where
  goes : Goes moment change (track_of old) (track_of new)
  goes = subst (λ (z : Zone). Goes moment change (track_of z) (track_of new)) (sym is) now_goes

  within : index < length (map track_of zones)
  within = omega (arith, length-map zones track_of)

  pub more_changed : (z : ℕ) → z < index + 1 → Goes moment change (track_in (map track_of first) z) (track_in (map track_of (set zones index new)) z)
  more_changed z h = subst (λ (t : Track). Goes moment change (track_in (map track_of first) z) t) (sym (track_set zones index old within is new z)) (elim (cases_eq z index) [
    | inl same ↦ rw (eq-eqb z index same, same) (subst (λ (t : Track). Goes moment change t (track_of new)) (sym (track_read zones index old within is) ∙ rest index (omega arith)) goes)
    | inr other ↦ rw (ne_eqb z index other) (changed z (omega (arith, other)))
  ])

  pub rest_left : (z : ℕ) → index + 1 ≤ z → track_in (map track_of (set zones index new)) z ≡ track_in (map track_of first) z
  rest_left z h = track_set zones index old within is new z ∙ rw (ne_eqb z index (λ same. omega arith)) (rest z (omega arith))

  pub steady_there : AreSteady moment (map track_of first) → IsSteady moment (track_of old)
  steady_there steady = subst (λ (t : Track). IsSteady moment t) (sym (rest index (omega arith)) ∙ track_read zones index old within is) (steady index)

-- all are changed
pub all_changed : (moment : ℕ) (change : State → State) (first zones : List Zone) → length zones ≡ length first → ((z : ℕ) → z < length first → Goes moment change (track_in (map track_of first) z) (track_in (map track_of zones) z)) → Goes moment change blank_track blank_track → ZonesGo moment (λ _. change) (map track_of first) (map track_of zones)
all_changed moment change first zones count changed none = record {
  count = omega (arith, length-map zones track_of, length-map first track_of, count);
  each = λ z. elim (cases_lt z (length first)) [
    | inl within ↦ changed z within
    | inr past ↦ rw (get_or_past (map track_of first) z blank_track (omega (arith, length-map first track_of)), get_or_past (map track_of zones) z blank_track (omega (arith, length-map zones track_of, count))) none
  ];
}
