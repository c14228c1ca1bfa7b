-- Copies of zones and devices, made one after another, and what an array of such copies holds.
use Rattle.std.proofs.Common.{◌≡◌, ◌≢◌, ◌⊎◌, ℕ, ◌+◌, ◌*◌, ◌<◌, ◌≤◌, zero, suc, min, List, [], ◌∷◌, ◌++◌, length, get_or, map, replicate, take, Option, Some, None, refl, sym, subst, ◌∙◌, ap, arith, inl, inr}
use Rattle.std.specs.List.{Contains}
use Rattle.std.proofs.lemmas.List.{get_or_append_left, get_or_push, get_or_past, get_or-replicate, length-append, length-map, length-replicate, length-take, map-append, take_all, take_min, append-nil}
use Rattle.std.proofs.lemmas.Bool.{cases_eq, cases_lt, eq-eqb, ne_eqb}
use Rattle.smore_base.specs.declared.limits.TheConstants.{BLOCK_BYTES}
use Rattle.zone_bay.specs.Contents.{Shape, Contents, Lengths}
use Rattle.zone_bay.proofs.Images.{same_contents, missing_hold_nothing, others_keep_theirs}
use Rattle.bay_memory.specs.declared.crash.Crash.{Crash}
use Rattle.bay_memory.specs.declared.operation.Put.{Put}
use Rattle.bay_memory.specs.declared.device.Device.{Device}
use Rattle.bay_memory.specs.declared.zone.Zone.{Zone}
use Rattle.bay_memory.specs.Past.{State, Track, IsFresh, now, blank_track}
use Rattle.bay_memory.specs.Zone.{track_of}
use Rattle.bay_memory.specs.Operation.{behind_in, put_by, PutFits}
use Rattle.bay_memory.specs.Device.{View, view_of, view_with, track_in}
use Rattle.bay_memory.specs.Array.{view_at, track_at, contents_in, firm_in, IsWhole, AreFresh}
use Rattle.bay_memory.specs.Keep.{kept_bytes, kept, kept_with, left_by}
use Rattle.bay_memory.specs.Copies.{AreCopies, IsCopy, AreDeviceCopies}
use Rattle.bay_memory.specs.Sound.{none_outside}

-- what holds at each place of a list to which one more is added
module _ {A B : Type 0} (f : A → B) (before now : List A) (more : A) (put : now ≡ before ++ more ∷ []) (n : ℕ) (count : length (map f before) ≡ n) where
  one_more : length (map f now) ≡ n + 1
  one_more = omega (arith, length-map now f, ap length put, length-append before (more ∷ []), length-map before f, count)

  each_and_one_more : (P : ℕ → B → Type 0) (d : B) → ((k : ℕ) → k < n → P k (get_or (map f before) k d)) → P n (f more) → (k : ℕ) → k < n + 1 → P k (get_or (map f now) k d)
  each_and_one_more P d each last k within = subst (λ (l : List A). P k (get_or (map f l) k d)) (sym put) (subst (λ (l : List B). P k (get_or l k d)) (sym (map-append f before (more ∷ []))) (elim (cases_eq k n) [
    | inl same ↦ rw (get_or_push (map f before) (f more) d k (omega arith), same) last
    | inr other ↦ rw (get_or_append_left (map f before) (f more ∷ []) d k (omega arith)) (each k (omega arith))
  ]))

-- one more zone, and one more device
pub more_zones : (left : Contents) (device zone : ℕ) (before now : List Zone) (more : Zone) → now ≡ before ++ more ∷ [] → AreCopies left device zone (map track_of before) → IsFresh (left device zone) (track_of more) → AreCopies left device (zone + 1) (map track_of now)
more_zones left device zone before now more put copies fresh = record {
  count = one_more track_of before now more put zone copies.count;
  each = each_and_one_more track_of before now more put zone copies.count (λ z track. IsFresh (left device z) track) blank_track copies.each fresh;
}

pub more_devices : (left : Contents) (device zones : ℕ) (before now : List Device) (more : Device) → now ≡ before ++ more ∷ [] → AreDeviceCopies left device zones (map view_of before) → IsCopy left device zones (view_of more) → AreDeviceCopies left (device + 1) zones (map view_of now)
more_devices left device zones before now more put copies copy = record {
  count = one_more view_of before now more put device copies.count;
  each = each_and_one_more view_of before now more put device copies.count (λ d view. IsCopy left d zones view) (view_with []) copies.each copy;
}

-- what an append has put behind each zone
pub put_behind : (put : Option Put) (held : Contents) (d z : ℕ) → put_by put held d z ≡ held d z ++ behind_in put d z
put_behind None held d z = sym (append-nil (held d z))
put_behind (Some put) held d z = elim (cases_eq d put.device) [
  | inl same ↦ elim (cases_eq z put.zone) [
    | inl there ↦ rw (eq-eqb d put.device same, eq-eqb z put.zone there, same, there) refl
    | inr other ↦ rw (eq-eqb d put.device same, ne_eqb z put.zone other) (sym (append-nil (held d z)))
  ]
  | inr other ↦ rw (ne_eqb d put.device other) (sym (append-nil (held d z)))
]

-- nothing is put where there is no zone, and no more than there is room for
behind_outside : (put : Option Put) (shape : Shape) (held : Contents) (d z : ℕ) → PutFits put shape held → (shape.devices ≤ d) ⊎ (shape.zones ≤ z) → behind_in put d z ≡ []
behind_outside None shape held d z fits outside = refl
behind_outside (Some put) shape held d z fits outside = elim (cases_eq d put.device) [
  | inl same ↦ elim (cases_eq z put.zone) [
    | inl there ↦ absurd (elim outside [ inl past ↦ omega (arith, fits.device_in) | inr past ↦ omega (arith, fits.zone_in) ])
    | inr other ↦ rw (eq-eqb d put.device same, ne_eqb z put.zone other) refl
  ]
  | inr other ↦ rw (ne_eqb d put.device other) refl
]

behind_fits : (put : Option Put) (shape : Shape) (held : Contents) (d z : ℕ) → PutFits put shape held → length (held d z) ≤ BLOCK_BYTES * shape.blocks → length (held d z) + length (behind_in put d z) ≤ BLOCK_BYTES * shape.blocks
behind_fits None shape held d z fits room = omega arith
behind_fits (Some put) shape held d z fits room = elim (cases_eq d put.device) [
  | inl same ↦ elim (cases_eq z put.zone) [
    | inl there ↦ rw (eq-eqb d put.device same, eq-eqb z put.zone there, same, there) fits.fits
    | inr other ↦ rw (eq-eqb d put.device same, ne_eqb z put.zone other) (omega arith)
  ]
  | inr other ↦ rw (ne_eqb d put.device other) (omega arith)
]

-- the bytes of a copy of a zone
pub bytes_copied : (crash : Crash) (held : Contents) (firm : Lengths) (device zone : ℕ) (there behind : List ℕ) (firm_there bytes n : ℕ) → there ≡ held device zone → firm_there ≡ firm device zone → bytes ≡ kept_bytes crash.keep device zone (length there) firm_there → n ≡ min bytes (length there) → behind ≡ behind_in crash.put device zone → take n there ++ behind ≡ kept_with crash held firm device zone
bytes_copied crash held firm device zone there behind firm_there bytes n is firm_is bytes_is n_is behind_is =
    rw (behind_is, n_is, take_min bytes there, bytes_is, is, firm_is) (sym (put_behind crash.put (kept crash.keep held firm) device zone))

-- whether a list has a number
cases_contains : (list : List ℕ) (n : ℕ) → Contains list n ⊎ ¬ Contains list n
cases_contains [] n = inr (λ (k, within, is). omega arith)
cases_contains (first ∷ list) n = elim (cases_eq first n) [
  | inl same ↦ inl (zero, omega arith, same)
  | inr other ↦ elim (cases_contains list n) [
    | inl (k, within, is) ↦ inl (suc k, omega arith, is)
    | inr none ↦ inr (absent none other)
  ]
]
  where
    absent : ¬ Contains list n → first ≢ n → ¬ Contains (first ∷ list) n
    absent none other (zero, within, is) = other is
    absent none other (suc k, within, is) = none (k, omega arith, is)

-- a copy of a device that is there, and of one that is removed
module _ (crash : Crash) (held : Contents) (firm : Lengths) (device zones : ℕ) (view : View) where
  pub copy_there : (tracks : List Track) → ¬ Contains crash.removed.now device → view ≡ view_with tracks → AreCopies (kept_with crash held firm) device zones tracks → IsCopy (left_by crash held firm) device zones view
  copy_there tracks there is copies = rw is (record {
    fresh = refl;
    copied = record {
      count = copies.count;
      each = λ z within. subst (λ (l : List ℕ). IsFresh l (track_in tracks z)) (sym (others_keep_theirs crash.removed.now (kept_with crash held firm) device z there)) (copies.each z within);
    };
  })

  pub copy_removed : Contains crash.removed.now device → view ≡ view_with (replicate zones blank_track) → IsCopy (left_by crash held firm) device zones view
  copy_removed gone blank = rw blank (record {
    fresh = refl;
    copied = record {
      count = length-replicate zones blank_track;
      each = λ z within. rw (missing_hold_nothing crash.removed.now (kept_with crash held firm) device z gone, get_or-replicate zones z blank_track blank_track within) (record { holds = refl; unchanged = refl });
    };
  })

-- The copies of all devices, of an array that is whole, hold what the crash leaves.
module _ (shape : Shape) (old new : List View) (counted : length old ≡ shape.devices) (whole : IsWhole shape.zones shape.blocks old) (crash : Crash) (fits : PutFits crash.put shape (contents_in old)) (copies : AreDeviceCopies (left_by crash (contents_in old) (firm_in old)) shape.devices shape.zones new) where
  -- what the crash leaves, and what it leaves where no device is removed
  abbrev left : Contents
  left = left_by crash (contents_in old) (firm_in old)

  abbrev all : Contents
  all = kept_with crash (contents_in old) (firm_in old)

  left_is : (d z : ℕ) → (left d z ≡ []) ⊎ (left d z ≡ take (kept_bytes crash.keep d z (length (contents_in old d z)) (firm_in old d z)) (contents_in old d z) ++ behind_in crash.put d z)
  left_is d z = elim (cases_contains crash.removed.now d) [
    | inl gone ↦ inl (missing_hold_nothing crash.removed.now all d z gone)
    | inr there ↦ inr (others_keep_theirs crash.removed.now all d z there ∙ put_behind crash.put (kept crash.keep (contents_in old) (firm_in old)) d z)
  ]

  left_outside : (d z : ℕ) → (shape.devices ≤ d) ⊎ (shape.zones ≤ z) → left d z ≡ []
  left_outside d z outside = elim (left_is d z) [
    | inl none ↦ none
    | inr is ↦ is ∙ rw (none_outside shape.zones shape.blocks old whole d z (elim outside [ inl past ↦ inl (omega arith) | inr past ↦ inr past ]), behind_outside crash.put shape (contents_in old) d z fits outside, append-nil) (take_all _ [] (omega arith))
  ]

  blank_there : (d z : ℕ) → (shape.devices ≤ d) ⊎ (shape.zones ≤ z) → track_at new d z ≡ blank_track → IsFresh (left d z) (track_at new d z)
  blank_there d z outside blank = subst (λ (l : List ℕ). IsFresh l (track_at new d z)) (sym (left_outside d z outside)) (subst (λ (t : Track). IsFresh [] t) (sym blank) (record { holds = refl; unchanged = refl }))

  -- each zone holds what the crash leaves of it, firm, and has held it from the start
  left_fresh : (d z : ℕ) → IsFresh (left d z) (track_at new d z)
  left_fresh d z = elim (cases_lt d shape.devices) [
    | inl device_in ↦ elim (cases_lt z shape.zones) [
      | inl zone_in ↦ (copies.each d device_in).copied.each z zone_in
      | inr past ↦ blank_there d z (inr past) (get_or_past (view_at new d).tracks z blank_track (omega (arith, (copies.each d device_in).copied.count)))
    ]
    | inr past ↦ blank_there d z (inl past) (rw (get_or_past new d (view_with []) (omega (arith, copies.count))) refl)
  ]

  pub copies_hold : contents_in new ≡ left
  copies_hold = same_contents (contents_in new) left (λ d z. ap (λ (s : State). s.bytes) (left_fresh d z).holds)

  -- no more than there is room for
  left_fits : (d z : ℕ) → length (left d z) ≤ BLOCK_BYTES * shape.blocks
  left_fits d z = elim (left_is d z) [
    | inl none ↦ rw none (omega arith)
    | inr is ↦
        let n : ℕ = kept_bytes crash.keep d z (length (contents_in old d z)) (firm_in old d z) in
        omega (arith, ap length is, length-append (take n (contents_in old d z)) (behind_in crash.put d z), length-take n (contents_in old d z), behind_fits crash.put shape (contents_in old) d z fits (whole.fits d z))
  ]

  firm_whole : (d z : ℕ) → firm_in new d z ≡ length (contents_in new d z)
  firm_whole d z = ap (λ (s : State). s.firm) (left_fresh d z).holds ∙ sym (ap (λ (s : State). length s.bytes) (left_fresh d z).holds)

  pub copies_fresh : AreFresh new
  copies_fresh = record {
    devices = λ d. elim (cases_lt d shape.devices) [
      | inl device_in ↦ (copies.each d device_in).fresh
      | inr past ↦ rw (get_or_past new d (view_with []) (omega (arith, copies.count))) refl
    ];
    zones = λ d z. (left_fresh d z).unchanged;
    all_firm = firm_whole;
  }

  pub copies_whole : IsWhole shape.zones shape.blocks new
  copies_whole = record {
    few = omega (arith, copies.count, whole.few);
    zones_held = λ d within. (copies.each d (omega (arith, copies.count))).copied.count;
    fits = λ d z. omega (arith, left_fits d z, ap (λ (s : State). length s.bytes) (left_fresh d z).holds);
    firm_held = λ d z. omega (arith, firm_whole d z);
  }
