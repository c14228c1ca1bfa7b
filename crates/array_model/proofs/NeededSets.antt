-- A set that is ever needed is one that is read, with k carriers.
use Rattle.std.proofs.Common.{◌≡◌, ℕ, ◌-◌, ◌≤◌, Bool, true, false, cond, inl, inr, List, [], ◌∷◌, length, map, subst, refl, sym, ◌∙◌, arith}
use Rattle.zone_bay.specs.Contents.{Shape, Contents}
use Rattle.marker_format.specs.Zone.{Array}
use Rattle.array_model.specs.Drives.{outside, present, places_on}
use Rattle.array_model.specs.Reading.{carriers_of, ids_at, read_set, fragments_of, missing}
use Rattle.array_model.specs.Sets.{ReadSet, Placed, stands, valid, kept_by, cut_to, placed_from, records_of}
use Rattle.array_model.specs.Need.{IsNeededSet}
use Rattle.array_model.specs.Possible.{Choice, chosen, set_by, IsEverNeeded}
use Rattle.array_model.specs.RemovalLaws.{FewMissingAreEnough}
use Rattle.array_model.proofs.Records.{Among, all_among, among_joined, among_rest, contains_from_among}
use Rattle.array_model.proofs.Sets.{placed_in, standing_carriers, read_standing, read_fallen}
use Rattle.array_model.proofs.Carriers.{no_more_carriers}
use Rattle.array_model.proofs.Removal.{among_map}

module _ (read : ℕ → ReadSet) (own : (id : ℕ) → (read id).id ≡ id) where
  -- A valid record stands in a set that is read, with k carriers,
  pub valid_has_carriers : (k : ℕ) (ids : List ℕ) (it : Placed) → Among it (records_of k (map read ids)) → Among it.set ids × (k ≤ (read it.set).carriers)
  valid_has_carriers k [] it found = absurd found
  valid_has_carriers k (id ∷ ids) it found = at_one (stands k set) refl (valid_has_carriers k ids it)
    where
      set : ReadSet
      set = read id

      above : List ReadSet
      above = map read ids

      at_one : (b : Bool) → stands k set ≡ b → (Among it (records_of k above) → Among it.set ids × (k ≤ (read it.set).carriers)) → Among it.set (id ∷ ids) × (k ≤ (read it.set).carriers)
      at_one true stood rest =
          let items = cut_to (kept_by set.id (valid k above)) set.records in
          elim (among_joined (placed_from set.id 0 items) (records_of k above) it (subst (Among it) (read_standing k set above stood) found)) [
            | inl here ↦
                let mine : it.set ≡ id = all_among (λ (p : Placed). p.set ≡ set.id) (placed_from set.id 0 items) it (placed_in set.id 0 items) here ∙ own id in
                (inl (sym mine), subst (λ n. k ≤ (read n).carriers) (sym mine) (standing_carriers k set stood))
            | inr later ↦ let there = rest later in (inr there.0, there.1)
          ]
      at_one false fell rest = let there = rest (subst (Among it) (read_fallen k set above fell) found) in (inr there.0, there.1)

  -- and so does one that is needed.
  pub needed_has_carriers : (k : ℕ) (uploads ids : List ℕ) (id : ℕ) → IsNeededSet k uploads (map read ids) id → Among id ids × (k ≤ (read id).carriers)
  needed_has_carriers k uploads ids id (it, needed, mine) =
      subst (λ n. Among n ids × (k ≤ (read n).carriers)) mine
      (valid_has_carriers k ids it (subst (Among it) (sym needed.valid) (among_rest needed.before (it ∷ needed.after) it (inl refl))))

module _ (array : Array) (shape : Shape) (uploads : List ℕ) (held : Contents) (set : ℕ) where
  abbrev drives : List ℕ
  drives = present shape held []

  -- from whichever of its carriers it is read, there are as many
  fewer_chosen : (aside : List ℕ) → length (carriers_of array held (places_on shape (chosen array shape held drives aside set)) set) ≤ length (carriers_of array held (places_on shape drives) set)
  fewer_chosen aside = at_one _
    where
      at_one : (b : Bool) → length (carriers_of array held (places_on shape (cond b (outside aside drives) drives)) set) ≤ length (carriers_of array held (places_on shape drives) set)
      at_one true = no_more_carriers array shape held drives aside set
      at_one false = omega arith

  ever_needed : IsEverNeeded array shape uploads held set → Among set (ids_at array held (places_on shape drives)) × (array.geometry.k ≤ length (carriers_of array held (places_on shape drives) set))
  ever_needed (choice, needed) =
      let there = needed_has_carriers (set_by array shape held drives choice) (λ id. refl) array.geometry.k uploads (ids_at array held (places_on shape drives)) set needed in
      (there.0, let many = there.1 in let fewer = fewer_chosen (choice set) in omega arith)

  pub ever_needed_has_carriers : IsEverNeeded array shape uploads held set → array.geometry.k ≤ length (carriers_of array held (places_on shape drives) set)
  ever_needed_has_carriers ever = (ever_needed ever).1

  pub ever_needed_is_read : IsEverNeeded array shape uploads held set → Among set (ids_at array held (places_on shape drives))
  ever_needed_is_read ever = (ever_needed ever).0

pub few_missing_are_enough : FewMissingAreEnough
few_missing_are_enough array shape uploads held leaving few set ever =
    let places = places_on shape (present shape held []) in
    let found = among_map (read_set array held places) (ids_at array held places) set (ever_needed_is_read array shape uploads held set ever) in
    let less = few (read_set array held places set) (contains_from_among _ _ found) in
    omega (arith, less)
