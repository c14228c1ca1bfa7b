-- Sets that aren't there yet.
use Rattle.std.proofs.Common.{◌≡◌, inl, inr, ℕ, Bool, true, false, cond, List, [], Option, Some, None, Contains, refl, sym, ap, ap₂, subst, ◌∙◌}
use Rattle.std.specs.Prelude.{◌&&◌, ◌==◌, is_some}
use Rattle.std.specs.List.{find}
use Rattle.std.proofs.lemmas.Bool.{cases_lt, and_parts, and_from, eq-eqb, eqb-true, ne_eqb, both_ways}
use Rattle.marker_format.specs.declared.marker.Marker.{Marker}
use Rattle.marker_format.specs.Zone.{Array, begun, records_from, whole_records}
use Rattle.zone_bay.specs.Contents.{Contents}
use Rattle.array_model.specs.Drives.{Place, bytes_at, first_of, head_at}
use Rattle.array_model.specs.ReadingLaws.{is_of_set}
use Rattle.array_model.proofs.Records.{contains_from_among}
use Rattle.set_table.specs.Table.{array_of}
use Rattle.set_writer.specs.ImageLaws.{View, places_of, begins_with, IsOfAnother, is_half_rebuilt, ShowsNone, NothingIsNew, NewByZone, NewIsAlone, AloneByZone}
use Rattle.set_writer.specs.ReadLaws.{UnreadIsNew}
use Rattle.set_writer.proofs.ReadLists.{find_among, head_is_read}
use Rattle.set_writer.proofs.SetImages.{place_found, whole_begun}

nothing_begins : (array : Array) (set' : ℕ) → begins_with array set' [] ≡ false
unfolding begun records_from
nothing_begins array set' = refl

pub nothing_is_new : NothingIsNew
nothing_is_new array set' held drives nothing d z drive from = ap (begins_with array set') (nothing d z drive from) ∙ nothing_begins array set'

pub new_is_alone : NewIsAlone
new_is_alone t set' held drives none d z drive from begins = absurd (both_ways (begins_with (array_of t) set' (held d z)) (none d z drive from) begins)

-- ---- zones that show none

another_not : (set' : ℕ) (o : Option Marker) → IsOfAnother set' o → is_of_set set' o ≡ false
another_not set' None is = absurd is
another_not set' (Some head) is = ne_eqb head.set set' is

-- a zone with a whole head begins with it
another_begins : (array : Array) (set' : ℕ) (bytes : List ℕ) → IsOfAnother set' (first_of (whole_records array bytes)) → begins_with array set' bytes ≡ false
another_begins array set' bytes = at (first_of (whole_records array bytes)) refl
  where
    at : (o : Option Marker) → first_of (whole_records array bytes) ≡ o → IsOfAnother set' o → begins_with array set' bytes ≡ false
    at None none is = absurd is
    at (Some head) there is = ap (is_of_set set') (whole_begun array bytes head there) ∙ ne_eqb head.set set' is

-- one that isn't half rebuilt begins with just its whole records
whole_are_begun : (array : Array) (bytes : List ℕ) → is_half_rebuilt array bytes ≡ false → whole_records array bytes ≡ begun array bytes
unfolding whole_records
whole_are_begun array bytes whole = ap (λ b. cond b [] (begun array bytes)) whole

none_begins : (array : Array) (set' : ℕ) (held : Contents) (place : Place) → ShowsNone array set' held place → begins_with array set' (bytes_at held place) ≡ false
none_begins array set' held place (inl nothing) = ap (begins_with array set') nothing ∙ nothing_begins array set'
none_begins array set' held place (inr (inl head)) = another_begins array set' (bytes_at held place) head
none_begins array set' held place (inr (inr (inl first))) = another_not set' (first_of (begun array (bytes_at held place))) first
none_begins array set' held place (inr (inr (inr (none, whole)))) = ap (λ ms. is_of_set set' (first_of ms)) (sym (whole_are_begun array (bytes_at held place) whole)) ∙ ap (is_of_set set') none

pub new_by_zone : NewByZone
new_by_zone array set' held drives shows d z drive from = none_begins array set' held (record { device = d; zone = z }) (shows d z drive from)

pub alone_by_zone : AloneByZone
alone_by_zone t set' held drives shows d z drive from begins = elim (shows d z drive from) [
  | inl member ↦ member
  | inr none ↦ absurd (both_ways (begins_with (array_of t) set' (held d z)) (none_begins (array_of t) set' held (record { device = d; zone = z }) none) begins)
]

-- ---- sets that aren't in the list

-- a set zone of a drive that is seen is one of the places
there_is : (view : View) (d z : ℕ) → (test : Place → Bool) → ((p : Place) → test p ≡ true → p ≡ record { device = d; zone = z }) → is_some (find test (places_of view)) ≡ true → Contains (places_of view) (record { device = d; zone = z })
there_is view d z test same = at (find test (places_of view)) refl
  where
    at : (o : Option Place) → find test (places_of view) ≡ o → is_some o ≡ true → Contains (places_of view) (record { device = d; zone = z })
    at None none some = absurd cc
    at (Some place) found some =
        let is = find_among test (places_of view) place found in
        subst (Contains (places_of view)) (same place is.1) (contains_from_among (places_of view) place is.0)

pub unread_is_new : UnreadIsNew
unread_is_new array set' view outside whole unread d z drive from = elim (cases_lt z view.shape.zones) [
  | inl below ↦
      let there = there_is view d z (λ place. (place.device == d) && (place.zone == z))
      (λ place is. let both = and_parts (place.device == d) (place.zone == z) is in ap₂ (λ e y. record { device = e; zone = y }) (eqb-true place.device d both.0) (eqb-true place.zone z both.1))
      (place_found (λ place. (place.device == d) && (place.zone == z)) view.shape view.drives d z drive from below (and_from (d == d) (z == z) (eq-eqb d d refl) (eq-eqb z z refl))) in
      ap (λ ms. is_of_set set' (first_of ms)) (sym (whole_are_begun array (view.held d z) (whole (record { device = d; zone = z }) there))) ∙ not_there (record { device = d; zone = z }) there
  | inr above ↦ ap (begins_with array set') (outside d z drive above) ∙ nothing_begins array set'
]
  where
    not_there : (place : Place) → Contains (places_of view) place → is_of_set set' (head_at array view.held place) ≡ false
    not_there place there = at (is_of_set set' (head_at array view.held place)) refl
      where
        at : (b : Bool) → is_of_set set' (head_at array view.held place) ≡ b → b ≡ false
        at false is = refl
        at true is = absurd (unread _ (head_is_read array view.shape view.held view.drives set' place there is) refl)
