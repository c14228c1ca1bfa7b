-- The carriers of a set in an image: they have one list of records, and each index has one zone.
use Rattle.std.proofs.Common.{◌≡◌, ℕ, zero, suc, ◌+◌, true, List, [], ◌∷◌, map, take, Contains, refl, sym, ap, ap₂, subst, ◌∙◌, arith}
use Rattle.std.specs.List.{AllByRecursion}
use Rattle.std.proofs.lemmas.Bool.{eq-eqb}
use Rattle.zone_bay.specs.Contents.{Lengths}
use Rattle.marker_format.specs.declared.marker.Marker.{Marker}
use Rattle.marker_format.specs.Zone.{Array, begun, whole_records}
use Rattle.array_model.specs.Drives.{Place, is_of, first_of, head_at, records_at}
use Rattle.array_model.specs.Reading.{Carrier, alike, IsPrefixAlike}
use Rattle.array_model.specs.ReadingLaws.{is_of_set}
use Rattle.array_model.specs.Kept.{HaveOneList}
use Rattle.array_model.proofs.SameZones.{all-map}
use Rattle.set_table.specs.declared.zone_use.ZoneUse.TheVariants as uses
use Rattle.set_table.specs.Table.{Table, use_at}
use Rattle.set_writer.specs.Entry.{Entry, at_index}
use Rattle.set_table.specs.Table.{array_of}
use Rattle.set_writer.specs.Laws.{markers_at}
use Rattle.set_writer.specs.ImageLaws.{SetBytes, AreSetBytes, View, places_of, carriers_in, IsCut, HaveFirst}
use Rattle.set_writer.specs.KeptLaws.{IsShown, IsCarriedOnce}
use Rattle.set_writer.proofs.SetImages.{IsPlace, places_are, whole_begun, head_is, index_there}

-- ---- one list

-- the first of a set's records in one zone are the first ones of them all
alike_first : (i count : ℕ) (es : List Entry) → IsPrefixAlike (markers_at i (take count es)) (markers_at 0 es)
alike_first i zero es = (map alike (markers_at 0 es), refl)
alike_first i (suc count) [] = ([], refl)
alike_first i (suc count) (e ∷ es) = let rest = alike_first i count es in (rest.0, ap (λ (l : List (List ℕ)). alike (at_index 0 e.marker) ∷ l) rest.1)

pub lists_are_one : (s : SetBytes) (t : Table) (firm : Lengths) (view : View) → s.array ≡ array_of t → AreSetBytes s → HaveFirst s t firm view → HaveOneList s.array view.held (carriers_in view s)
lists_are_one s t firm view array are has = (
  markers_at 0 s.records,
  all-map (IsCut s t firm view) (λ (c : Carrier). IsPrefixAlike (records_at s.array view.held c.place) (markers_at 0 s.records)) (carriers_in view s) one has.cut,
)
  where
    one : (c : Carrier) → IsCut s t firm view c → IsPrefixAlike (records_at s.array view.held c.place) (markers_at 0 s.records)
    one c cut =
        let count = ap (λ a. a.geometry.k + a.geometry.p) array in
        let below = cut.below in
        let first = are.first cut.bytes.0 c.index (omega (arith, below, count)) in
        subst (λ (ms : List Marker). IsPrefixAlike ms (markers_at 0 s.records)) (sym (ap (whole_records s.array) cut.bytes.2 ∙ first.records)) (alike_first c.index first.count s.records)

-- ---- one zone an index

pub all_contains : {A : Type 0} (P : A → Type 0) (xs : List A) (x : A) → AllByRecursion P xs → Contains xs x → P x
all_contains P [] x all has = let below = has.1 in absurd (omega (arith, below))
all_contains P (y ∷ xs) x all (zero, below, is) = subst P is all.0
all_contains P (y ∷ xs) x all (suc i, below, is) = all_contains P xs x all.1 (i, omega (arith, below), is)

module _ (s : SetBytes) (t : Table) (firm : Lengths) (view : View) (array : s.array ≡ array_of t) (are : AreSetBytes s) (shown : IsShown s t firm view) where
  -- a place with a head of an index carries it by the table
  place_carries : (index : ℕ) (place : Place) → IsPlace view.shape view.drives place → is_of s.set index (head_at s.array view.held place) ≡ true → use_at t.zones place.device place.zone ≡ uses.Carrier s.set index
  place_carries index place there is =
      let head = head_is s.set index (head_at s.array view.held place) is in
      let d = place.device in
      let z = place.zone in
      let began = whole_begun s.array (view.held d z) head.0 head.1 in
      let tells : is_of_set s.set (first_of (begun (array_of t) (view.held d z))) ≡ true = ap (λ (a : Array). is_of_set s.set (first_of (begun a (view.held d z)))) (sym array) ∙ ap (is_of_set s.set) began ∙ eq-eqb head.0.set s.set head.2 in
      let member = shown.alone d z there.0 there.1 tells in
      let part = shown.cut d z member.0 there.0 member.1 member.2 in
      let bytes : view.held d z ≡ take part.0 (s.zone member.0) = part.2 in
      let count = ap (λ a. a.geometry.k + a.geometry.p) array in
      let below = member.1 in
      let has = are.first part.0 member.0 (omega (arith, below, count)) in
      let same : index ≡ member.0 = sym head.3 ∙ index_there s.array (view.held d z) (take part.0 (s.zone member.0)) member.0 has.count s.records head.0 bytes has.records head.1 in
      member.2 ∙ ap (uses.Carrier s.set) (sym same)

  pub places_are_alone : IsCarriedOnce t s.set view.drives → (index : ℕ) (one other : Place) → Contains (places_of view) one → Contains (places_of view) other
      → is_of s.set index (head_at s.array view.held one) ≡ true → is_of s.set index (head_at s.array view.held other) ≡ true → one ≡ other
  places_are_alone once index one other has_one has_other is_one is_other =
      let there = all_contains (IsPlace view.shape view.drives) (places_of view) one (places_are view.shape view.drives) has_one in
      let yonder = all_contains (IsPlace view.shape view.drives) (places_of view) other (places_are view.shape view.drives) has_other in
      let same = once one.device one.zone other.device other.zone index there.0 yonder.0 (place_carries index one there is_one) (place_carries index other yonder is_other) in
      ap₂ (λ d z. record { device = d; zone = z }) same.0 same.1
