-- Which sets are read: those of which a whole head stands somewhere. One of which none stands any more says nothing.
use Rattle.std.proofs.Common.{◌≡◌, ℕ, ◌<◌, Bool, true, false, cond, eqb, ltb, ◌⊎◌, inl, inr, List, [], ◌∷◌, length, map, Option, Some, None, Contains, refl, sym, ap, ◌∙◌, subst, arith}
use Rattle.std.proofs.lemmas.Bool.{eqb-true}
use Rattle.zone_bay.specs.Contents.{Contents}
use Rattle.marker_format.specs.declared.marker.Marker.{Marker}
use Rattle.marker_format.specs.Zone.{Array}
use Rattle.array_model.specs.Drives.{Place, head_at}
use Rattle.array_model.specs.Reading.{carriers_of, read_set, with_id, with_head, ids_at}
use Rattle.array_model.specs.Sets.{ReadSet, Placed, stands, cut_to, kept_by, valid, records_of, HasCarrier}
use Rattle.array_model.specs.Map.{items_of, map_by, value_of}
use Rattle.array_model.specs.Need.{IsWanted, IsNeeded}
use Rattle.array_model.specs.SetLaws.{SaysTheSame}
use Rattle.array_model.proofs.Records.{Among}
use Rattle.array_model.proofs.SameZones.{Rise}

-- ---- numbers among rising ones

-- What is among numbers with one more is that one, or was among them,
among_with_id : (x id : ℕ) (ids : List ℕ) → Among x (with_id id ids) → (id ≡ x) ⊎ Among x ids
among_with_id x id [] (inl is) = inl is
among_with_id x id [] (inr none) = absurd none
among_with_id x id (other ∷ ids) found = at_both (ltb id other) (eqb id other) (among_with_id x id ids) found
  where
    at_both : (b c : Bool) → (Among x (with_id id ids) → (id ≡ x) ⊎ Among x ids) → Among x (cond b (id ∷ other ∷ ids) (cond c (other ∷ ids) (other ∷ with_id id ids))) → (id ≡ x) ⊎ Among x (other ∷ ids)
    at_both true c again (inl is) = inl is
    at_both true c again (inr later) = inr later
    at_both false true again found = inr found
    at_both false false again (inl is) = inr (inl is)
    at_both false false again (inr later) = elim (again later) [ inl is ↦ inl is | inr there ↦ inr (inr there) ]

-- and the other way round.
among_with_id_if : (x id : ℕ) (ids : List ℕ) → (id ≡ x) ⊎ Among x ids → Among x (with_id id ids)
among_with_id_if x id [] found = found
among_with_id_if x id (other ∷ ids) found = at_both (ltb id other) (eqb id other) refl (among_with_id_if x id ids) found
  where
    at_both : (b c : Bool) → eqb id other ≡ c → ((id ≡ x) ⊎ Among x ids → Among x (with_id id ids)) → (id ≡ x) ⊎ Among x (other ∷ ids) → Among x (cond b (id ∷ other ∷ ids) (cond c (other ∷ ids) (other ∷ with_id id ids)))
    at_both true c same again found = found
    at_both false true same again (inl is) = inl (sym (eqb-true id other same) ∙ is)
    at_both false true same again (inr later) = later
    at_both false false same again (inl is) = inr (again (inl is))
    at_both false false same again (inr (inl is)) = inl is
    at_both false false same again (inr (inr later)) = inr (again (inr later))

-- a whole head of the set stands at this place
abbrev pub HasHeadOf : Array → Contents → ℕ → Place → Type 0
HasHeadOf array held set place = (head : Marker) × (head_at array held place ≡ Some head) × (head.set ≡ set)

module _ (array : Array) (held : Contents) where
  -- A set that is read has a head somewhere,
  pub head_of_read : (places : List Place) (id : ℕ) → Among id (ids_at array held places) → (place : Place) × Among place places × HasHeadOf array held id place
  head_of_read [] id found = absurd found
  head_of_read (place ∷ places) id found = at_head (head_at array held place) refl (head_of_read places id) found
    where
      at_head : (o : Option Marker) → head_at array held place ≡ o → (Among id (ids_at array held places) → (place : Place) × Among place places × HasHeadOf array held id place) → Among id (with_head o (ids_at array held places)) → (other : Place) × Among other (place ∷ places) × HasHeadOf array held id other
      at_head None is again found = let there = again found in (there.0, inr there.1, there.2)
      at_head (Some head) is again found = elim (among_with_id id head.set (ids_at array held places) found) [
        | inl same ↦ (place, inl refl, (head, is, same))
        | inr later ↦ let there = again later in (there.0, inr there.1, there.2)
      ]

  -- and one with a head is read.
  pub read_by_head : (places : List Place) (id : ℕ) (place : Place) → Among place places → HasHeadOf array held id place → Among id (ids_at array held places)
  read_by_head [] id place found head = absurd found
  read_by_head (other ∷ places) id place found (head, is, same) = at_head (head_at array held other) refl (λ later. read_by_head places id place later (head, is, same)) found
    where
      at_head : (o : Option Marker) → head_at array held other ≡ o → (Among place places → Among id (ids_at array held places)) → Among place (other ∷ places) → Among id (with_head o (ids_at array held places))
      at_head None none again (inl here) = let e = sym none ∙ ap (head_at array held) here ∙ is in absurd cc
      at_head None none again (inr later) = again later
      at_head (Some own) own_is again (inl here) =
          let e : Some own ≡ Some head = sym own_is ∙ ap (head_at array held) here ∙ is in
          let own_head : own ≡ head = cc in
          among_with_id_if id own.set (ids_at array held places) (inl (ap (λ (m : Marker). m.set) own_head ∙ same))
      at_head (Some own) own_is again (inr later) = among_with_id_if id own.set (ids_at array held places) (inr (again later))

  -- A set with a carrier is one of those that are read.
  pub carrier_read : (places : List Place) (ids : List ℕ) (id : ℕ) → HasCarrier (map (read_set array held places) ids) id → Among id ids × (0 < length (carriers_of array held places id))
  carrier_read places [] id has = absurd has
  carrier_read places (other ∷ ids) id (inl here) = (inl here.0, subst (λ n. 0 < length (carriers_of array held places n)) here.0 here.1)
  carrier_read places (other ∷ ids) id (inr later) = let there = carrier_read places ids id later in (inr there.0, there.1)

  pub read_carrier : (places : List Place) (ids : List ℕ) (id : ℕ) → Among id ids → 0 < length (carriers_of array held places id) → HasCarrier (map (read_set array held places) ids) id
  read_carrier places [] id found some = absurd found
  read_carrier places (other ∷ ids) id (inl here) some = inl (here, subst (λ n. 0 < length (carriers_of array held places n)) (sym here) some)
  read_carrier places (other ∷ ids) id (inr later) some = inr (read_carrier places ids id later some)

-- ---- without sets that don't stand

rise_above : (low x : ℕ) (ids : List ℕ) → Rise low ids → Among x ids → low < x
rise_above low x [] rise found = absurd found
rise_above low x (id ∷ ids) rise (inl is) = let above = rise.0 in omega arith
rise_above low x (id ∷ ids) rise (inr later) = let above = rise.0 in let more = rise_above id x ids rise.1 later in omega arith

later_among : (x id : ℕ) (ids : List ℕ) → id < x → Among x (id ∷ ids) → Among x ids
later_among x id ids more (inl is) = absurd (omega (arith, is))
later_among x id ids more (inr later) = later

module _ (k : ℕ) (read : ℕ → ReadSet) where
  more_valid : (id : ℕ) (some all : List ReadSet) → valid k some ≡ valid k all → valid k (read id ∷ some) ≡ valid k (read id ∷ all)
  more_valid id some all same = ap (λ above. cond (stands k (read id)) (record { id = (read id).id; records = cut_to (kept_by (read id).id above) (read id).records } ∷ above) above) same

  fallen_valid : (id : ℕ) (all : List ReadSet) → stands k (read id) ≡ false → valid k (read id ∷ all) ≡ valid k all
  fallen_valid id all fell = ap (λ b. cond b (record { id = (read id).id; records = cut_to (kept_by (read id).id (valid k all)) (read id).records } ∷ valid k all) (valid k all)) fell

  -- Of rising numbers those of sets that stand decide what is valid.
  pub valid_of_some : (low : ℕ) (some ids : List ℕ) → Rise low some → Rise low ids → ((id : ℕ) → Among id some → Among id ids) → ((id : ℕ) → Among id ids → stands k (read id) ≡ true → Among id some) → valid k (map read some) ≡ valid k (map read ids)
  valid_of_some low [] [] rise rise' are have = refl
  valid_of_some low (x ∷ some) [] rise rise' are have = absurd (are x (inl refl))
  valid_of_some low [] (id ∷ ids) rise rise' are have =
      valid_of_some id [] ids tt rise'.1 (λ x found. absurd found) (λ x found. have x (inr found))
      ∙ sym (fallen_valid id (map read ids) (fell (stands k (read id)) refl))
    where
      fell : (b : Bool) → stands k (read id) ≡ b → stands k (read id) ≡ false
      fell true stood = absurd (have id (inl refl) stood)
      fell false is = is
  valid_of_some low (x ∷ some) (id ∷ ids) rise rise' are have = elim (are x (inl refl)) [
    | inl same ↦
        ap (λ n. valid k (read n ∷ map read some)) (sym same)
        ∙ more_valid id (map read some) (map read ids)
        (valid_of_some id some ids (subst (λ n. Rise n some) (sym same) rise.1) rise'.1
        (λ y found. let above = rise_above x y some rise.1 found in later_among y id ids (omega (arith, same)) (are y (inr found)))
        (λ y found stood. let above = rise_above id y ids rise'.1 found in later_among y x some (omega (arith, same)) (have y (inr found) stood)))
    | inr later ↦
        let higher : id < x = rise_above id x ids rise'.1 later in
        valid_of_some id (x ∷ some) ids (higher, rise.1) rise'.1
        (λ y found. later_among y id ids (rise_above id y (x ∷ some) (higher, rise.1) found) (are y found))
        (λ y found. have y (inr found))
        ∙ sym (fallen_valid id (map read ids) (fell higher (stands k (read id)) refl))
  ]
    where
      fell : id < x → (b : Bool) → stands k (read id) ≡ b → stands k (read id) ≡ false
      fell higher true stood = let above = rise_above id id (x ∷ some) (higher, rise.1) (have id (inl refl) stood) in absurd (omega (arith, above))
      fell higher false is = is

-- ---- what follows from the valid records and from which sets have carriers

module _ (k : ℕ) (uploads : List ℕ) (some all : List ReadSet) (same : records_of k some ≡ records_of k all) (has : (id : ℕ) → HasCarrier some id → HasCarrier all id) where
  needed_same : (it : Placed) → IsNeeded k uploads some it → IsNeeded k uploads all it
  needed_same it needed = record {
    before = needed.before;
    after = needed.after;
    valid = sym same ∙ needed.valid;
    why = elim needed.why [
      | inl wanted ↦ inl (subst (λ r. IsWanted uploads (items_of r) it.item) same wanted.0, wanted.1)
      | inr last ↦ inr (last.0, last.1, last.2, has last.0 last.3, last.4)
    ];
  }

  pub says_the_same_of : (old : List ReadSet) → SaysTheSame k uploads old all → SaysTheSame k uploads old some
  says_the_same_of old says = record {
    reads = record {
      map = ap (λ r. map_by (items_of r) (items_of r)) same ∙ says.reads.map;
      value = λ name. ap (λ r. value_of (items_of r) name) same ∙ says.reads.value name;
    };
    valid = λ it found. says.valid it (subst (λ r. Contains r it) same found);
    needed = λ it needed. says.needed it (needed_same it needed);
    notes = λ name stamp one other found also is as_well. says.notes name stamp one other (subst (λ r. Contains (items_of r) one) same found) (subst (λ r. Contains (items_of r) other) same also) is as_well;
  }
