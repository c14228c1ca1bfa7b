-- Which sets are in the list that is read of an array.
use Rattle.std.proofs.Common.{◌≡◌, ◌≢◌, ◌⊎◌, inl, inr, ℕ, zero, suc, ◌+◌, ◌*◌, ◌<◌, ◌≤◌, Bool, true, false, cond, List, [], ◌∷◌, length, map, Option, Some, None, Contains, refl, sym, ap, subst, ◌∙◌, arith}
use Rattle.std.specs.Prelude.{◌&&◌, ◌==◌, nat_le, is_some}
use Rattle.std.specs.List.{find, filter_map, cons_option, range_with_len}
use Rattle.std.specs.Str.{bytes_eq}
use Rattle.std.proofs.lemmas.Bool.{cases_eq, and_parts, and_from, eq-eqb, eqb-true, both_ways}
use Rattle.zone_bay.specs.Contents.{Contents}
use Rattle.marker_format.specs.declared.marker.Marker.{Marker}
use Rattle.marker_format.specs.Zone.{Array}
use Rattle.array_model.specs.Drives.{Place, places_on, bytes_at, head_at, is_of}
use Rattle.array_model.specs.Reading.{Carrier, carries, carrier_of, carriers_of, fragments_of, read_set, ids_at, reading}
use Rattle.array_model.specs.ReadingLaws.{is_of_set}
use Rattle.array_model.specs.Sets.{ReadSet}
use Rattle.array_model.proofs.Carriers.{carries_some}
use Rattle.array_model.proofs.Records.{Among, among_from_contains, contains_from_among}
use Rattle.array_model.proofs.SameZones.{head_is_whole}
use Rattle.array_model.proofs.SetsRead.{HasHeadOf, head_of_read, read_by_head}
use Rattle.set_writer.specs.ImageLaws.{places_of}
use Rattle.set_writer.specs.ReadLaws.{IsReadOf, CarriedIsRead, HeadIsRead, ReadIsCarried, NewIsNotRead}
use Rattle.set_writer.proofs.KeptCarriers.{all_contains}
use Rattle.set_writer.proofs.SetImages.{IsPlace, places_are, whole_begun, head_is}

-- ---- lists

-- what is found is one of them, and passes
pub find_among : {A : Type 0} (test : A → Bool) (xs : List A) (x : A) → find test xs ≡ Some x → Among x xs × (test x ≡ true)
find_among test [] x is = absurd cc
find_among {A} test (y ∷ xs) x is = at (test y) refl is (find_among test xs x)
  where
    at : (b : Bool) → test y ≡ b → cond b (Some y) (find test xs) ≡ Some x → (find test xs ≡ Some x → Among x xs × (test x ≡ true)) → ((y ≡ x) ⊎ Among x xs) × (test x ≡ true)
    at true passes found again = let same : y ≡ x = cc in (inl same, subst (λ (z : A). test z ≡ true) same passes)
    at false fails found again = let later = again found in (inr later.0, later.1)

-- where one of them passes, one is found
some_found : {A : Type 0} (test : A → Bool) (xs : List A) (x : A) → Among x xs → test x ≡ true → is_some (find test xs) ≡ true
some_found test [] x there passes = absurd there
some_found {A} test (y ∷ xs) x there passes = at (test y) refl there (λ later. some_found test xs x later passes)
  where
    at : (b : Bool) → test y ≡ b → (y ≡ x) ⊎ Among x xs → (Among x xs → is_some (find test xs) ≡ true) → is_some (cond b (Some y) (find test xs)) ≡ true
    at true found there again = refl
    at false fails (inl same) again = absurd (both_ways (test y) fails (ap test same ∙ passes))
    at false fails (inr later) again = again later

-- what is had of some of these is had of one
one_had : {A B : Type 0} (f : A → Option B) (xs : List A) → 0 < length (filter_map f xs) → (x : A) × (y : B) × (f x ≡ Some y)
one_had f [] some = absurd (omega (arith, some))
one_had {A} {B} f (x ∷ xs) some = at (f x) refl some (one_had f xs)
  where
    at : (o : Option B) → f x ≡ o → 0 < length (cons_option o (filter_map f xs)) → (0 < length (filter_map f xs) → (z : A) × (y : B) × (f z ≡ Some y)) → (z : A) × (y : B) × (f z ≡ Some y)
    at None none some again = again some
    at (Some y) is some again = (x, y, is)

some_had : {B : Type 0} (f : ℕ → Option B) (first count index : ℕ) → first ≤ index → index < first + count → is_some (f index) ≡ true → 0 < length (filter_map f (range_with_len first count))
some_had f first zero index from to is = absurd (omega (arith, from, to))
some_had {B} f first (suc count) index from to is = at (f first) refl (λ other. some_had f (first + 1) count index (omega (arith, from, other)) (omega (arith, to)) is)
  where
    at : (o : Option B) → f first ≡ o → (first ≢ index → 0 < length (filter_map f (range_with_len (first + 1) count))) → 0 < length (cons_option o (filter_map f (range_with_len (first + 1) count)))
    at (Some y) there again = omega arith
    at None none again = elim (cases_eq first index) [
      | inl same ↦ let e : is_some (f first) ≡ true = ap (λ n. is_some (f n)) same ∙ is in absurd (both_ways (is_some (f first)) (ap is_some none) e)
      | inr other ↦ again other
    ]

none_left : {A : Type 0} (xs : List A) → (0 < length xs → ⊥) → xs ≡ []
none_left [] none = refl
none_left (x ∷ xs) none = absurd (none (omega arith))

-- what is among mapped ones is of one of them
among_map : {A B : Type 0} (f : A → B) (xs : List A) (x : A) → Among x xs → Among (f x) (map f xs)
among_map f [] x there = absurd there
among_map f (y ∷ xs) x (inl same) = inl (ap f same)
among_map f (y ∷ xs) x (inr later) = inr (among_map f xs x later)

among_mapped : {A B : Type 0} (f : A → B) (xs : List A) (y : B) → Among y (map f xs) → (x : A) × Among x xs × (f x ≡ y)
among_mapped f [] y there = absurd there
among_mapped f (x ∷ xs) y (inl same) = (x, inl refl, same)
among_mapped f (x ∷ xs) y (inr later) = let there = among_mapped f xs y later in (there.0, inr there.1, there.2)

-- ---- heads

head_of_set : (set' : ℕ) (o : Option Marker) → is_of_set set' o ≡ true → (head : Marker) × (o ≡ Some head) × (head.set ≡ set')
head_of_set set' None is = absurd cc
head_of_set set' (Some head) is = (head, refl, eqb-true head.set set' is)

module _ (array : Array) (held : Contents) (places : List Place) where
  -- a carrier is one of the places, with a head of the set
  carrier_head : (set' index : ℕ) (c : Carrier) → carrier_of array held places set' index ≡ Some c → (place : Place) × Among place places × HasHeadOf array held set' place
  carrier_head set' index c is =
      let found = find_among (λ place. is_of set' index (head_at array held place)) places c.place (carries_some index _ c is).0 in
      let head = head_is set' index (head_at array held c.place) found.1 in
      (c.place, found.0, (head.0, head.1, head.2))

  -- the index of a whole head is one of the array's
  index_below : (place : Place) (head : Marker) → head_at array held place ≡ Some head → head.index < fragments_of array
  index_below place head is =
      let whole = (head_is_whole array (bytes_at held place) head is).0 in
      let g = array.geometry in
      let first = and_parts ((head.k == g.k) && (head.n == g.k + g.p) && bytes_eq head.array array.id) (nat_le head.payload (g.k * g.shard)) whole.ours in
      let second = and_parts ((head.k == g.k) && (head.n == g.k + g.p)) (bytes_eq head.array array.id) first.0 in
      let third = and_parts (head.k == g.k) (head.n == g.k + g.p) second.0 in
      let n = eqb-true head.n (g.k + g.p) third.1 in
      let below = whole.marker.index_to in
      omega (arith, below, n)

  -- a set with a head at one of the places has a carrier
  head_carried : (set' : ℕ) (place : Place) → Among place places → HasHeadOf array held set' place → 0 < length (carriers_of array held places set')
  head_carried set' place there (head, is, own) =
      some_had (carrier_of array held places set') 0 (fragments_of array) head.index (omega arith) (let below = index_below place head is in omega (arith, below))
      (carried (find (λ other. is_of set' head.index (head_at array held other)) places) (some_found (λ other. is_of set' head.index (head_at array held other)) places place there (ap (is_of set' head.index) is ∙ and_from (head.set == set') (head.index == head.index) (eq-eqb head.set set' own) (eq-eqb head.index head.index refl))))
    where
      carried : (o : Option Place) → is_some o ≡ true → is_some (carries head.index o) ≡ true
      carried None found = found
      carried (Some other) found = refl

  head_read : (set' : ℕ) (place : Place) → Among place places → HasHeadOf array held set' place → Contains (map (read_set array held places) (ids_at array held places)) (read_set array held places set')
  head_read set' place there head = contains_from_among _ _ (among_map (read_set array held places) (ids_at array held places) set' (read_by_head array held places set' place there head))

  carried_read : (set' : ℕ) → 0 < length (carriers_of array held places set') → Contains (map (read_set array held places) (ids_at array held places)) (read_set array held places set')
  carried_read set' some =
      let one = one_had (carrier_of array held places set') (range_with_len 0 (fragments_of array)) some in
      let there = carrier_head set' one.0 one.1 one.2 in
      head_read set' there.0 there.1 there.2

  read_of_list : (set' : ReadSet) → Contains (map (read_set array held places) (ids_at array held places)) set' → IsReadOf array held places set'
  read_of_list set' found =
      let one = among_mapped (read_set array held places) (ids_at array held places) set' (among_from_contains _ set' found) in
      let place = head_of_read array held places one.0 one.1 in
      let own : set'.id ≡ one.0 = ap (λ (s : ReadSet). s.id) (sym one.2) in
      let head : HasHeadOf array held one.0 place.0 = place.2 in
      record {
        is = sym one.2 ∙ ap (read_set array held places) (sym own);
        carried = subst (λ n. 0 < n) (ap (λ (s : ReadSet). s.carriers) one.2) (head_carried one.0 place.0 place.1 place.2);
        place = place.0;
        there = contains_from_among places place.0 place.1;
        head = ap (is_of_set set'.id) head.1 ∙ eq-eqb head.0.set set'.id (head.2 ∙ sym own);
      }

pub carried_is_read : CarriedIsRead
carried_is_read array shape held drives set' some = carried_read array held (places_on shape drives) set' some

pub head_is_read : HeadIsRead
head_is_read array shape held drives set' place there is =
    head_read array held (places_on shape drives) set' place (among_from_contains (places_on shape drives) place there) (head_of_set set' (head_at array held place) is)

pub read_is_carried : ReadIsCarried
read_is_carried array shape held drives set' found = read_of_list array held (places_on shape drives) set' found

pub new_is_not_read : NewIsNotRead
new_is_not_read array set' view none = (
  none_left (carriers_of array view.held (places_of view) set') (λ some. not_listed (read_set array view.held (places_of view) set') (carried_is_read array view.shape view.held view.drives set' some) refl),
  not_listed,
)
  where
    not_listed : (other : ReadSet) → Contains (reading array view.shape view.held view.drives) other → other.id ≢ set'
    not_listed other found own =
        let read = read_is_carried array view.shape view.held view.drives other found in
        let place = all_contains (IsPlace view.shape view.drives) (places_of view) read.place (places_are view.shape view.drives) read.there in
        let head = head_of_set other.id (head_at array view.held read.place) read.head in
        let began = whole_begun array (bytes_at view.held read.place) head.0 head.1 in
        both_ways _ (none read.place.device read.place.zone place.0 place.1) (ap (is_of_set set') began ∙ eq-eqb head.0.set set' (head.2 ∙ own))
