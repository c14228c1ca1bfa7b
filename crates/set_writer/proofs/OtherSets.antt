-- What is read of the other sets where the zones of one grew, in an image of that and without what grew.
use Rattle.std.proofs.Common.{◌≡◌, ◌≢◌, ◌⊎◌, inl, inr, ℕ, zero, suc, ◌+◌, ◌<◌, Bool, true, false, cond, List, [], ◌∷◌, ◌++◌, length, map, take, Option, Some, None, refl, sym, ap, ap₂, subst, ◌∙◌, arith}
use Rattle.std.specs.Prelude.{not, ◌==◌, nat_lt, filter}
use Rattle.std.specs.List.{AllByRecursion}
use Rattle.std.proofs.lemmas.Bool.{cases_eq, cases_lt, cases_order, and_parts, and_left, eq-eqb, ne_eqb, eqb-true, ltb-true, both_ways}
use Rattle.std.proofs.lemmas.List.{append-nil, take_all, take_at, take-take, take-append-le, length-take}
use Rattle.zone_bay.specs.Contents.{Contents, Lengths}
use Rattle.zone_bay.specs.Images.{IsImage}
use Rattle.marker_format.specs.declared.marker.Marker.{Marker}
use Rattle.marker_format.specs.Zone.{Array, whole_records}
use Rattle.array_model.specs.Drives.{Place, is_of, first_of, head_at, bytes_at}
use Rattle.array_model.specs.Reading.{Carrier, carriers_of, read_set, with_id, with_head, ids_at}
use Rattle.array_model.specs.Sets.{ReadSet}
use Rattle.array_model.proofs.SameZones.{all-map, TellsSame, carriers_among, carriers-same, read_set-same, Rise, rise_lower, with_id-before, with_id-there, with_id-behind, ids_rise}
use Rattle.set_table.specs.declared.zone_use.ZoneUse.{ZoneUse}
use Rattle.set_table.specs.declared.zone_use.ZoneUse.TheVariants as uses
use Rattle.set_table.specs.Table.{Table, use_at}
use Rattle.set_table.specs.Table as table
use Rattle.set_writer.specs.Entry.{Entry}
use Rattle.set_writer.specs.Members.{of_members, more_at, grown_by, is_member}
use Rattle.set_table.specs.Table.{array_of}
use Rattle.set_writer.specs.Laws.{markers_at}
use Rattle.set_writer.specs.ImageLaws.{SetBytes, FirstIsOf, AreSetBytes, HoldBytes, View, places_of, cut_back, others_of, OthersSay}
use Rattle.set_writer.proofs.MemberCalls.{more_live, more_lost, live_or_lost}
use Rattle.set_writer.proofs.KeptCarriers.{all_contains}
use Rattle.set_writer.proofs.NextLaws.{member_or_none}
use Rattle.set_writer.proofs.SetImages.{IsPlace, places_are}

-- ---- numbers of sets

-- the numbers but this one
abbrev pub but : ℕ → List ℕ → List ℕ
but set' ids = filter (λ id. not (id == set')) ids

but_keeps : (set' id : ℕ) (ids : List ℕ) → id ≢ set' → but set' (id ∷ ids) ≡ id ∷ but set' ids
but_keeps set' id ids other = ap (λ b. cond (not b) (id ∷ but set' ids) (but set' ids)) (ne_eqb id set' other)

but_drops : (set' id : ℕ) (ids : List ℕ) → id ≡ set' → but set' (id ∷ ids) ≡ but set' ids
but_drops set' id ids same = ap (λ b. cond (not b) (id ∷ but set' ids) (but set' ids)) (eq-eqb id set' same)

but_rises : (set' low : ℕ) (ids : List ℕ) → Rise low ids → Rise low (but set' ids)
but_rises set' low [] rise = tt
but_rises set' low (id ∷ ids) rise = at (not (id == set')) (but_rises set' id ids rise.1)
  where
    at : (b : Bool) → Rise id (but set' ids) → Rise low (cond b (id ∷ but set' ids) (but set' ids))
    at true rest = (rise.0, rest)
    at false rest = let above = rise.0 in rise_lower low id (but set' ids) (omega (arith, above)) rest

-- a number below the others is put before them
put_first : (id : ℕ) (ids : List ℕ) → Rise id ids → with_id id ids ≡ id ∷ ids
put_first id [] rise = refl
put_first id (other ∷ ids) rise = with_id-before id other ids rise.0

-- Another number is put among the others as among all,
but_other : (set' id low : ℕ) (ids : List ℕ) → Rise low ids → id ≢ set' → but set' (with_id id ids) ≡ with_id id (but set' ids)
but_other set' id low [] rise other = but_keeps set' id [] other
but_other set' id low (x ∷ ids) rise other = elim (cases_order id x) [
  | inl same ↦
      ap (but set') (with_id-there id x ids same) ∙ keep (λ e. other (same ∙ e)) ∙ sym (with_id-there id x (but set' ids) same) ∙ ap (with_id id) (sym (keep (λ e. other (same ∙ e))))
  | inr (inl less) ↦
      ap (but set') (with_id-before id x ids less) ∙ but_keeps set' id (x ∷ ids) other ∙ sym (put_first id (but set' (x ∷ ids)) (but_rises set' id (x ∷ ids) (less, rise.1)))
  | inr (inr more) ↦ ap (but set') (with_id-behind id x ids more) ∙ elim (cases_eq x set') [
    | inl own ↦ but_drops set' x (with_id id ids) own ∙ but_other set' id x ids rise.1 other ∙ ap (with_id id) (sym (but_drops set' x ids own))
    | inr one ↦
        but_keeps set' x (with_id id ids) one ∙ ap (λ (l : List ℕ). x ∷ l) (but_other set' id x ids rise.1 other) ∙ sym (with_id-behind id x (but set' ids) more) ∙ ap (with_id id) (sym (but_keeps set' x ids one))
  ]
]
  where
    keep : x ≢ set' → but set' (x ∷ ids) ≡ x ∷ but set' ids
    keep one = but_keeps set' x ids one

-- and this one isn't seen among them.
but_own : (set' id low : ℕ) (ids : List ℕ) → Rise low ids → id ≡ set' → but set' (with_id id ids) ≡ but set' ids
but_own set' id low [] rise own = but_drops set' id [] own
but_own set' id low (x ∷ ids) rise own = elim (cases_order id x) [
  | inl same ↦ ap (but set') (with_id-there id x ids same)
  | inr (inl less) ↦ ap (but set') (with_id-before id x ids less) ∙ but_drops set' id (x ∷ ids) own
  | inr (inr more) ↦ ap (but set') (with_id-behind id x ids more) ∙ ap (λ (l : List ℕ). cond (not (x == set')) (x ∷ l) l) (but_own set' id x ids rise.1 own)
]

-- ---- heads

-- no head, or one of the set
abbrev pub NoOther : ℕ → Option Marker → Type 0
NoOther set' None = Unit {0}
NoOther set' (Some head) = head.set ≡ set'

-- two places that begin alike, but for heads of the set
abbrev pub Alike : ℕ → Option Marker → Option Marker → Type 0
Alike set' one other = (one ≡ other) ⊎ (NoOther set' one × NoOther set' other)

no_other_is : (set' other index : ℕ) (o : Option Marker) → other ≢ set' → NoOther set' o → is_of other index o ≡ false
no_other_is set' other index None differ own = refl
no_other_is set' other index (Some head) differ own = and_left (head.set == other) (head.index == index) (ne_eqb head.set other (λ e. differ (sym e ∙ own)))

no_other_head : (set' low : ℕ) (o : Option Marker) (ids : List ℕ) → Rise low ids → NoOther set' o → but set' (with_head o ids) ≡ but set' ids
no_other_head set' low None ids rise own = refl
no_other_head set' low (Some head) ids rise own = but_own set' head.set low ids rise own

same_head : (set' : ℕ) (o : Option Marker) (xs ys : List ℕ) → Rise 0 xs → Rise 0 ys → but set' xs ≡ but set' ys → but set' (with_head o xs) ≡ but set' (with_head o ys)
same_head set' None xs ys rise rise' same = same
same_head set' (Some head) xs ys rise rise' same = elim (cases_eq head.set set') [
  | inl own ↦ but_own set' head.set 0 xs rise own ∙ same ∙ sym (but_own set' head.set 0 ys rise' own)
  | inr other ↦ but_other set' head.set 0 xs rise other ∙ ap (with_id head.set) same ∙ sym (but_other set' head.set 0 ys rise' other)
]

ids_alike : (array : Array) (one other : Contents) (set' : ℕ) (places : List Place) → AllByRecursion (λ place. Alike set' (head_at array one place) (head_at array other place)) places → but set' (ids_at array one places) ≡ but set' (ids_at array other places)
ids_alike array one other set' [] all = refl
ids_alike array one other set' (place ∷ places) all = elim all.0 [
  | inl same ↦ ap (λ (o : Option Marker). but set' (with_head o (ids_at array one places))) same ∙ same_head set' (head_at array other place) (ids_at array one places) (ids_at array other places) (ids_rise array one places) (ids_rise array other places) (ids_alike array one other set' places all.1)
  | inr own ↦
      no_other_head set' 0 (head_at array one place) (ids_at array one places) (ids_rise array one places) own.0
      ∙ ids_alike array one other set' places all.1
      ∙ sym (no_other_head set' 0 (head_at array other place) (ids_at array other places) (ids_rise array other places) own.1)
]

-- the other sets are those with the other numbers
others-map : (set' : ℕ) (read : ℕ → ReadSet) (ids : List ℕ) → ((id : ℕ) → (read id).id ≡ id) → others_of set' (map read ids) ≡ map read (but set' ids)
others-map set' read [] own = refl
others-map set' read (id ∷ ids) own =
    ap (λ n. cond (not (n == set')) (read id ∷ others_of set' (map read ids)) (others_of set' (map read ids))) (own id)
    ∙ ap (λ (l : List ReadSet). cond (not (id == set')) (read id ∷ l) l) (others-map set' read ids own)
    ∙ at (not (id == set'))
  where
    at : (b : Bool) → cond b (read id ∷ map read (but set' ids)) (map read (but set' ids)) ≡ map read (cond b (id ∷ but set' ids) (but set' ids))
    at true = refl
    at false = refl

each_other : (set' : ℕ) (one other : ℕ → ReadSet) (ids : List ℕ) → ((id : ℕ) → id ≢ set' → one id ≡ other id) → map one (but set' ids) ≡ map other (but set' ids)
each_other set' one other [] same = refl
each_other set' one other (id ∷ ids) same = elim (cases_eq id set') [
  | inl own ↦ ap (map one) (but_drops set' id ids own) ∙ each_other set' one other ids same ∙ ap (map other) (sym (but_drops set' id ids own))
  | inr differ ↦ ap (map one) (but_keeps set' id ids differ) ∙ ap₂ (λ (r : ReadSet) (rs : List ReadSet). r ∷ rs) (same id differ) (each_other set' one other ids same) ∙ ap (map other) (sym (but_keeps set' id ids differ))
]

-- ---- zones

-- without what came behind, a prefix is a prefix of what was there
take_back : (n : ℕ) (held more : List ℕ) → take (length held) (take n (held ++ more)) ≡ take n held
take_back n held more = elim (cases_lt (length held) n) [
  | inl far ↦ take-take (length held) n (held ++ more) (omega (arith, far)) ∙ take_at held more (length held) refl ∙ sym (take_all n held (omega (arith, far)))
  | inr near ↦ ap (take (length held)) (take-append-le n held more near) ∙ take_all (length held) (take n held) (omega (arith, length-take n held))
]

-- a prefix of a prefix
pub take_some : (m n : ℕ) (bytes : List ℕ) → (k : ℕ) × (take m (take n bytes) ≡ take k bytes)
take_some m n bytes = elim (cases_lt n m) [
  | inl more ↦ (n, take_all m (take n bytes) (omega (arith, more, length-take n bytes)))
  | inr less ↦ (m, take-take m n bytes less)
]

pub member_is : (count set' : ℕ) (u : ZoneUse) → is_member count set' u ≡ true → (index : ℕ) × (index < count) × (u ≡ uses.Carrier set' index)
member_is count set' uses.Empty is = absurd (both_ways false refl is)
member_is count set' uses.Taken is = absurd (both_ways false refl is)
member_is count set' (uses.Carrier s index) is = let both = and_parts (s == set') (nat_lt index count) is in (index, ltb-true index count both.1, ap (λ n. uses.Carrier n index) (eqb-true s set' both.0))

-- a zone that is no member of the set got nothing
pub none_more : (t : Table) (set' : ℕ) (m : ℕ → List ℕ) (d z : ℕ) → is_member (table.fragments_of t) set' (use_at t.zones d z) ≡ false → more_at t (of_members (table.fragments_of t) set' m) d z ≡ []
none_more t set' m d z absent = elim (live_or_lost t d) [
  | inl live ↦ more_live t (of_members (table.fragments_of t) set' m) d z live ∙ elim (member_or_none (table.fragments_of t) set' m (use_at t.zones d z)) [
    | inl is ↦ absurd (both_ways (is_member (table.fragments_of t) set' (use_at t.zones d z)) absent is)
    | inr none ↦ none
  ]
  | inr lost ↦ more_lost t (of_members (table.fragments_of t) set' m) d z lost
]

-- the head of a zone with the first records of a set is no other set's
first_no_other : (set' index count : ℕ) (es : List Entry) → FirstIsOf set' es → NoOther set' (first_of (markers_at index (take count es)))
first_no_other set' index zero es head = tt
first_no_other set' index (suc count) [] head = tt
first_no_other set' index (suc count) (e ∷ es) head = head

module _ (s : SetBytes) (t : Table) (more : ℕ → List ℕ) (held : Contents) (firm : Lengths) (view : View) (array : s.array ≡ array_of t) (are : AreSetBytes s) (hold : HoldBytes s t (grown_by t (of_members (table.fragments_of t) s.set more) held) view.drives)
    (image : IsImage (grown_by t (of_members (table.fragments_of t) s.set more) held) firm view.held) where
  back : Contents
  back = cut_back held view.held

  back_is : (d z : ℕ) → cut_back held view.held d z ≡ take (image d z).0 (held d z)
  back_is d z = ap (take (length (held d z))) (image d z).2 ∙ take_back (image d z).0 (held d z) (more_at t (of_members (table.fragments_of t) s.set more) d z)

  before : IsImage held firm (cut_back held view.held)
  before d z = ((image d z).0, (image d z).1, back_is d z)

  same_zone : (d z : ℕ) → is_member (table.fragments_of t) s.set (use_at t.zones d z) ≡ false → cut_back held view.held d z ≡ view.held d z
  same_zone d z absent =
      back_is d z
      ∙ ap (take (image d z).0) (sym (append-nil (held d z)) ∙ ap (λ (l : List ℕ). held d z ++ l) (sym (none_more t s.set more d z absent)))
      ∙ sym (image d z).2

  -- what any prefix of a member's zone begins with
  member_head : (n index : ℕ) → index < table.fragments_of t → NoOther s.set (first_of (whole_records (array_of t) (take n (s.zone index))))
  member_head n index below =
      let c = ap (λ (a : Array). a.geometry.k + a.geometry.p) array in
      let has = are.first n index (omega (arith, below, c)) in
      subst (λ (ms : List Marker). NoOther s.set (first_of ms)) (sym has.records ∙ ap (λ (a : Array). whole_records a (take n (s.zone index))) array) (first_no_other s.set index has.count s.records are.head)

  -- a zone of the set on these drives says nothing of other sets, nor did it before
  member_says : (place : Place) → IsPlace view.shape view.drives place → is_member (table.fragments_of t) s.set (use_at t.zones place.device place.zone) ≡ true → NoOther s.set (head_at (array_of t) view.held place) × NoOther s.set (head_at (array_of t) (cut_back held view.held) place)
  member_says place there is =
      let d = place.device in
      let z = place.zone in
      let m = member_is (table.fragments_of t) s.set (use_at t.zones place.device place.zone) is in
      let n = (image place.device place.zone).0 in
      let now : view.held place.device place.zone ≡ take (image place.device place.zone).0 (s.zone m.0) = (image place.device place.zone).2 ∙ ap (take (image place.device place.zone).0) (hold place.device place.zone m.0 there.0 m.1 m.2) in
      let some = take_some (length (held place.device place.zone)) (image place.device place.zone).0 (s.zone m.0) in
      let then : cut_back held view.held place.device place.zone ≡ take some.0 (s.zone m.0) = ap (take (length (held place.device place.zone))) now ∙ some.1 in (
        subst (λ (l : List ℕ). NoOther s.set (first_of (whole_records (array_of t) l))) (sym now) (member_head (image place.device place.zone).0 m.0 m.1),
        subst (λ (l : List ℕ). NoOther s.set (first_of (whole_records (array_of t) l))) (sym then) (member_head some.0 m.0 m.1),
      )

  places : AllByRecursion (IsPlace view.shape view.drives) (places_of view)
  places = places_are view.shape view.drives

  either : (place : Place) → (is_member (table.fragments_of t) s.set (use_at t.zones place.device place.zone) ≡ true) ⊎ (is_member (table.fragments_of t) s.set (use_at t.zones place.device place.zone) ≡ false)
  either place = at (is_member (table.fragments_of t) s.set (use_at t.zones place.device place.zone)) refl
    where
      at : (b : Bool) → is_member (table.fragments_of t) s.set (use_at t.zones place.device place.zone) ≡ b → (is_member (table.fragments_of t) s.set (use_at t.zones place.device place.zone) ≡ true) ⊎ (is_member (table.fragments_of t) s.set (use_at t.zones place.device place.zone) ≡ false)
      at true is = inl is
      at false is = inr is

  heads : AllByRecursion (λ place. Alike s.set (head_at (array_of t) view.held place) (head_at (array_of t) (cut_back held view.held) place)) (places_of view)
  heads = all-map (IsPlace view.shape view.drives) (λ place. Alike s.set (head_at (array_of t) view.held place) (head_at (array_of t) (cut_back held view.held) place)) (places_of view)
      (λ place there. elim (either place) [
        | inl is ↦ inr (member_says place there is)
        | inr absent ↦ inl (ap (λ (l : List ℕ). first_of (whole_records (array_of t) l)) (sym (same_zone place.device place.zone absent)))
      ])
      places

  module _ (other : ℕ) (differ : other ≢ s.set) where
    tells : AllByRecursion (TellsSame (array_of t) (cut_back held view.held) view.held other) (places_of view)
    tells = all-map (IsPlace view.shape view.drives) (TellsSame (array_of t) (cut_back held view.held) view.held other) (places_of view)
        (λ place there index. elim (either place) [
          | inl is ↦ let says = member_says place there is in no_other_is s.set other index _ differ says.0 ∙ sym (no_other_is s.set other index _ differ says.1)
          | inr absent ↦ ap (λ (l : List ℕ). is_of other index (first_of (whole_records (array_of t) l))) (sym (same_zone place.device place.zone absent))
        ])
        places

    same_carriers : carriers_of (array_of t) view.held (places_of view) other ≡ carriers_of (array_of t) (cut_back held view.held) (places_of view) other
    same_carriers = carriers-same (array_of t) (cut_back held view.held) view.held (places_of view) other tells

    same_bytes : AllByRecursion (λ (c : Carrier). bytes_at view.held c.place ≡ bytes_at (cut_back held view.held) c.place) (carriers_of (array_of t) (cut_back held view.held) (places_of view) other)
    same_bytes = carriers_among (array_of t) (cut_back held view.held) view.held (IsPlace view.shape view.drives) (places_of view) other places
        (λ place index is there. elim (either place) [
          | inl member ↦ absurd (both_ways _ (no_other_is s.set other index _ differ (member_says place there member).1) is)
          | inr absent ↦ sym (same_zone place.device place.zone absent)
        ])

    says_same : read_set (array_of t) view.held (places_of view) other ≡ read_set (array_of t) (cut_back held view.held) (places_of view) other
    says_same = read_set-same (array_of t) (cut_back held view.held) view.held (places_of view) other tells same_bytes

  pub others_say : OthersSay t s.set held firm view
  others_say = record {
    before = before;
    zones = same_zone;
    each = says_same;
    sets =
        others-map s.set (read_set (array_of t) view.held (places_of view)) (ids_at (array_of t) view.held (places_of view)) (λ id. refl)
        ∙ ap (map (read_set (array_of t) view.held (places_of view))) (ids_alike (array_of t) view.held (cut_back held view.held) s.set (places_of view) heads)
        ∙ each_other s.set (read_set (array_of t) view.held (places_of view)) (read_set (array_of t) (cut_back held view.held) (places_of view)) (ids_at (array_of t) (cut_back held view.held) (places_of view)) says_same
        ∙ sym (others-map s.set (read_set (array_of t) (cut_back held view.held) (places_of view)) (ids_at (array_of t) (cut_back held view.held) (places_of view)) (λ id. refl));
    carriers = same_carriers;
    bytes = same_bytes;
    heads = λ other index place differ there. all_contains (TellsSame (array_of t) (cut_back held view.held) view.held other) (places_of view) place (tells other differ) there index;
  }
