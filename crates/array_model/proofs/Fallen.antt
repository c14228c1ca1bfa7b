-- A set that doesn't stand says nothing.
use Rattle.std.proofs.Common.{◌≡◌, ℕ, ◌<◌, Bool, true, false, cond, eqb, inl, inr, List, [], ◌∷◌, map, Option, Some, None, refl, sym, ap, ap₂, ◌∙◌, arith}
use Rattle.std.specs.Prelude.{not, filter, nat_le}
use Rattle.std.specs.List.{AllByRecursion, list_any}
use Rattle.std.proofs.lemmas.Bool.{cases_order, and_left, and_right, eqb-true, eqb-false, ne_eqb, not-true, not-false}
use Rattle.zone_bay.specs.Contents.{Contents}
use Rattle.marker_format.specs.declared.marker.Marker.{Marker}
use Rattle.marker_format.specs.Zone.{Array, begun, records_from, whole_records}
use Rattle.array_model.specs.Record.{is_ready}
use Rattle.array_model.specs.Sets.{ReadSet, stands, cut_to, kept_by, valid, placed}
use Rattle.array_model.specs.Drives.{Place, bytes_at, first_of, head_at, is_of, places_on}
use Rattle.array_model.specs.Reading.{read_set, with_id, with_head, ids_at}
use Rattle.array_model.specs.ReadingLaws.{is_of_set, without_set, FallenSaysNothing, UnreadySaysNothing}
use Rattle.array_model.proofs.SameZones.{carriers_among, read_set-same, TellsSame, IsSame, Rise, rise_lower, with_id-before, with_id-there, with_id-behind, ids_rise}

-- ---- numbers without one

pub filter_rises : (keep : ℕ → Bool) (low : ℕ) (ids : List ℕ) → Rise low ids → Rise low (filter keep ids)
filter_rises keep low [] rise = tt
filter_rises keep low (id ∷ ids) rise = at_one (keep id) (filter_rises keep id ids rise.1)
  where
    at_one : (b : Bool) → Rise id (filter keep ids) → Rise low (cond b (id ∷ filter keep ids) (filter keep ids))
    at_one true rest = (rise.0, rest)
    at_one false rest = let above = rise.0 in rise_lower low id (filter keep ids) (omega arith) rest

with_id-lowest : (id : ℕ) (ids : List ℕ) → Rise id ids → with_id id ids ≡ id ∷ ids
with_id-lowest id [] rise = refl
with_id-lowest id (other ∷ ids) rise = with_id-before id other ids rise.0

filter_with_id : (keep : ℕ → Bool) (low id : ℕ) (ids : List ℕ) → Rise low ids → filter keep (with_id id ids) ≡ cond (keep id) (with_id id (filter keep ids)) (filter keep ids)
filter_with_id keep low id [] rise = refl
filter_with_id keep low id (other ∷ ids) rise = elim (cases_order id other) [
  | inl same ↦
      ap (filter keep) (with_id-there id other ids same)
      ∙ at_same same (keep other)
      ∙ ap (λ b. cond b (with_id id (filter keep (other ∷ ids))) (filter keep (other ∷ ids))) (ap keep (sym same))
  | inr (inl less) ↦
      ap (filter keep) (with_id-before id other ids less)
      ∙ ap (λ l. cond (keep id) l (filter keep (other ∷ ids))) (sym (with_id-lowest id (filter keep (other ∷ ids)) (filter_rises keep id (other ∷ ids) (less, rise.1))))
  | inr (inr more) ↦
      ap (filter keep) (with_id-behind id other ids more)
      ∙ ap (λ l. cond (keep other) (other ∷ l) l) (filter_with_id keep other id ids rise.1)
      ∙ at_more more (keep other) (keep id)
]
  where
    at_same : id ≡ other → (b : Bool) → cond b (other ∷ filter keep ids) (filter keep ids) ≡ cond b (with_id id (cond b (other ∷ filter keep ids) (filter keep ids))) (cond b (other ∷ filter keep ids) (filter keep ids))
    at_same same true = sym (with_id-there id other (filter keep ids) same)
    at_same same false = refl

    at_more : other < id → (b c : Bool) → cond b (other ∷ cond c (with_id id (filter keep ids)) (filter keep ids)) (cond c (with_id id (filter keep ids)) (filter keep ids)) ≡ cond c (with_id id (cond b (other ∷ filter keep ids) (filter keep ids))) (cond b (other ∷ filter keep ids) (filter keep ids))
    at_more more true true = sym (with_id-behind id other (filter keep ids) more)
    at_more more true false = refl
    at_more more false c = refl

-- Without some sets that don't stand, the valid sets are the same.
valid_without : (k : ℕ) (f g : ℕ → ReadSet) (keep : ℕ → Bool) (ids : List ℕ) → ((id : ℕ) → keep id ≡ true → f id ≡ g id) → ((id : ℕ) → keep id ≡ false → stands k (g id) ≡ false) → valid k (map f (filter keep ids)) ≡ valid k (map g ids)
valid_without k f g keep [] same fell = refl
valid_without k f g keep (id ∷ ids) same fell = at_one (keep id) refl (valid_without k f g keep ids same fell)
  where
    at_one : (b : Bool) → keep id ≡ b → valid k (map f (filter keep ids)) ≡ valid k (map g ids) → valid k (map f (cond b (id ∷ filter keep ids) (filter keep ids))) ≡ valid k (map g (id ∷ ids))
    at_one true is rest =
        ap (λ set. valid k (set ∷ map f (filter keep ids))) (same id is)
        ∙ ap (λ above. cond (stands k (g id)) (record { id = (g id).id; records = cut_to (kept_by (g id).id above) (g id).records } ∷ above) above) rest
    at_one false is rest =
        rest
        ∙ sym (ap (λ b. cond b (record { id = (g id).id; records = cut_to (kept_by (g id).id (valid k (map g ids))) (g id).records } ∷ valid k (map g ids)) (valid k (map g ids))) (fell id is))

-- ---- zones without those of a set

pub nothing_whole : (array : Array) → whole_records array [] ≡ []
unfolding whole_records begun records_from
nothing_whole array = refl

module _ (array : Array) (set : ℕ) (held : Contents) where
  abbrev other : Contents
  other = without_set array set held

  abbrev keep : ℕ → Bool
  keep id = not (eqb id set)

  head_without : (place : Place) → head_at array other place ≡ cond (is_of_set set (head_at array held place)) None (head_at array held place)
  head_without place = at_one (is_of_set set (head_at array held place))
    where
      at_one : (b : Bool) → first_of (whole_records array (cond b [] (bytes_at held place))) ≡ cond b None (head_at array held place)
      at_one true = ap first_of (nothing_whole array)
      at_one false = refl

  -- a head of another set is none of this one
  other_head : (id index : ℕ) (o : Option Marker) → (id ≡ set → ⊥) → is_of_set set o ≡ true → is_of id index o ≡ false
  other_head id index None differs is = refl
  other_head id index (Some head) differs is = and_left (eqb head.set id) (eqb head.index index) (ne_eqb head.set id (λ e. differs (sym e ∙ eqb-true head.set set is)))

  tells_same : (id : ℕ) (place : Place) → (id ≡ set → ⊥) → TellsSame array held other id place
  tells_same id place differs index = ap (is_of id index) (head_without place) ∙ at_one (is_of_set set (head_at array held place)) refl
    where
      at_one : (b : Bool) → is_of_set set (head_at array held place) ≡ b → is_of id index (cond b None (head_at array held place)) ≡ is_of id index (head_at array held place)
      at_one true is = sym (other_head id index (head_at array held place) differs is)
      at_one false is = refl

  holds_same : (id index : ℕ) (place : Place) → (id ≡ set → ⊥) → is_of id index (head_at array held place) ≡ true → IsSame array held other place
  holds_same id index place differs is = at_one (is_of_set set (head_at array held place)) refl
    where
      at_one : (b : Bool) → is_of_set set (head_at array held place) ≡ b → cond b [] (bytes_at held place) ≡ bytes_at held place
      at_one true of_set = let none = other_head id index (head_at array held place) differs of_set in absurd cc
      at_one false of_set = refl

  all_places : (P : Place → Type 0) (places : List Place) → ((place : Place) → P place) → AllByRecursion P places
  all_places P [] each = tt
  all_places P (place ∷ places) each = (each place, all_places P places each)

  others_same : (places : List Place) (id : ℕ) → keep id ≡ true → read_set array other places id ≡ read_set array held places id
  others_same places id kept =
      let differs : id ≡ set → ⊥ = eqb-false id set (not-true (eqb id set) kept) in
      read_set-same array held other places id (all_places (TellsSame array held other id) places (λ place. tells_same id place differs))
      (carriers_among array held other (λ place. Unit {0}) places id (all_places (λ place. Unit {0}) places (λ place. tt)) (λ place index is _. holds_same id index place differs is))

  ids_without : (places : List Place) → ids_at array other places ≡ filter keep (ids_at array held places)
  ids_without [] = refl
  ids_without (place ∷ places) =
      ap₂ with_head (head_without place) (ids_without places)
      ∙ at_head (head_at array held place)
    where
      at_head : (o : Option Marker) → with_head (cond (is_of_set set o) None o) (filter keep (ids_at array held places)) ≡ filter keep (with_head o (ids_at array held places))
      at_head None = refl
      at_head (Some head) = at_one (eqb head.set set) refl ∙ sym (filter_with_id keep 0 head.set (ids_at array held places) (ids_rise array held places))
        where
          at_one : (b : Bool) → eqb head.set set ≡ b → with_head (cond b None (Some head)) (filter keep (ids_at array held places)) ≡ cond (not (eqb head.set set)) (with_id head.set (filter keep (ids_at array held places))) (filter keep (ids_at array held places))
          at_one true is = ap (λ b. cond (not b) (with_id head.set (filter keep (ids_at array held places))) (filter keep (ids_at array held places))) (sym is)
          at_one false is = ap (λ b. cond (not b) (with_id head.set (filter keep (ids_at array held places))) (filter keep (ids_at array held places))) (sym is)

pub fallen_says_nothing : FallenSaysNothing
fallen_says_nothing k array shape held drives set fell =
    let places = places_on shape drives in
    ap (λ ids. placed (valid k (map (read_set array (without_set array set held) places) ids))) (ids_without array set held places)
    ∙ ap placed (valid_without k (read_set array (without_set array set held) places) (read_set array held places) (keep array set held) (ids_at array held places) (others_same array set held places) (λ id gone. ap (λ id. stands k (read_set array held places id)) (eqb-true id set (not-false (eqb id set) gone)) ∙ fell))

pub unready_says_nothing : UnreadySaysNothing
unready_says_nothing k array shape held drives set unready =
    fallen_says_nothing k array shape held drives set (and_right (nat_le k (read_set array held (places_on shape drives) set).carriers) (list_any is_ready (read_set array held (places_on shape drives) set).records) unready)
