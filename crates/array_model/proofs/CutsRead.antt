-- Each cut that is read is of a lower set than the one that it stands in: so says the grammar of markers.
use Rattle.std.proofs.Common.{◌≡◌, ℕ, ◌+◌, ◌<◌, Bool, true, false, cond, inl, inr, List, [], ◌∷◌, map, Option, Some, None, zero, suc, refl, sym, ap, ◌∙◌, subst, arith}
use Rattle.std.specs.List.{AllByRecursion, range_with_len}
use Rattle.std.proofs.lemmas.Bool.{and_parts, eqb-true}
use Rattle.zone_bay.specs.Contents.{Contents}
use Rattle.marker_format.specs.declared.kind.Kind.{Kind}
use Rattle.marker_format.specs.declared.kind.Kind.TheVariants as kinds
use Rattle.marker_format.specs.declared.marker.Marker.{Marker}
use Rattle.marker_format.specs.Kind.{code_of, kind_of}
use Rattle.marker_format.specs.Marker.{IsMarker, Counts}
use Rattle.marker_format.specs.Zone.{Array, Stand, blocks_of, may_stand, whole_records}
use Rattle.array_model.specs.Drives.{Place, bytes_at, records_at, first_of, is_of, present, places_on}
use Rattle.array_model.specs.Reading.{Carrier, carrier_of, fragments_of, carriers_of, agreed, payload_of, record_by, records_from, read_set, ids_at}
use Rattle.array_model.specs.Record.{Record, Cut}
use Rattle.array_model.specs.Sets.{ReadSet, Placed, stands, cut_to, kept_by, placed_from, valid, records_of}
use Rattle.array_model.specs.SetLaws.{CutsAreOfLower}
use Rattle.array_model.specs.RemovalLaws.{CutsReadAreOfLower}
use Rattle.array_model.proofs.Records.{Among, among_from_contains, among_joined, all_among}
use Rattle.array_model.proofs.Sets.{cut_records, read_standing, read_fallen}
use Rattle.array_model.proofs.Agreed.{common_first}
use Rattle.array_model.proofs.SameZones.{all-filter_map, carrier_among}
use Rattle.array_model.proofs.Settled.{whole_stand}
use Rattle.array_model.proofs.SettledRecords.{all_front}

-- ---- the markers of a zone

abbrev pub IsOfSet : ℕ → Marker → Type 0
IsOfSet set m = IsMarker m × (m.set ≡ set)

same_set : (before m : Marker) → may_stand (Some before) m ≡ true → m.set ≡ before.set
same_set before m may = eqb-true m.set before.set (and_parts _ _ (and_parts _ _ (and_parts _ _ may).0).1).0

of_set_behind : (array : Array) (bytes : List ℕ) (set : ℕ) (before : Marker) (block : ℕ) (ms : List Marker) → before.set ≡ set → Stand array bytes (Some before) block ms → AllByRecursion (IsOfSet set) ms
of_set_behind array bytes set before block [] is stand = tt
of_set_behind array bytes set before block (m ∷ ms) is stand =
    let mine = same_set before m stand.1 ∙ is in
    ((stand.0.marker, mine), of_set_behind array bytes set m (block + blocks_of m) ms mine stand.2)

-- The records of a zone are of the set of its head.
pub zone_of_set : (array : Array) (bytes : List ℕ) (set index : ℕ) → is_of set index (first_of (whole_records array bytes)) ≡ true → AllByRecursion (IsOfSet set) (whole_records array bytes)
zone_of_set array bytes set index is = at_list (whole_records array bytes) (whole_stand array bytes) is
  where
    at_list : (ms : List Marker) → Stand array bytes None 0 ms → is_of set index (first_of ms) ≡ true → AllByRecursion (IsOfSet set) ms
    at_list [] stand is = tt
    at_list (m ∷ ms) stand is =
        let mine = eqb-true m.set set (and_parts _ _ is).0 in
        ((stand.0.marker, mine), of_set_behind array bytes set m (0 + blocks_of m) ms mine stand.2)

-- What holds of each carrier's records holds of those on which they agree.
pub agreed_all : (P : Marker → Type 0) (array : Array) (held : Contents) (carriers : List Carrier) → AllByRecursion (λ (c : Carrier). AllByRecursion P (records_at array held c.place)) carriers → AllByRecursion P (agreed array held carriers)
agreed_all P array held [] all = tt
agreed_all P array held (c ∷ []) all = all.0
agreed_all P array held (c ∷ d ∷ carriers) all =
    let p = common_first (records_at array held c.place) (agreed array held (d ∷ carriers)) in
    all_front P (agreed array held (c ∷ d ∷ carriers)) p.0 (subst (AllByRecursion P) p.1 all.0)

pub carriers_of_set : (array : Array) (held : Contents) (places : List Place) (set : ℕ) → AllByRecursion (λ (c : Carrier). AllByRecursion (IsOfSet set) (records_at array held c.place)) (carriers_of array held places set)
carriers_of_set array held places set =
    all-filter_map (λ (c : Carrier). AllByRecursion (IsOfSet set) (records_at array held c.place)) (carrier_of array held places set) (range_with_len 0 (fragments_of array))
    (λ index c e. zone_of_set array (bytes_at held c.place) set index (carrier_among array held held (λ place. Unit {0}) places set index c (each_place places) e).0)
  where
    each_place : (places : List Place) → AllByRecursion (λ place. Unit {0}) places
    each_place [] = tt
    each_place (place ∷ places) = (tt, each_place places)

-- ---- the cuts among records

-- no cut of this set or of one above it
abbrev pub IsLowerCut : ℕ → Record → Type 0
IsLowerCut set item = (target kept : ℕ) → item ≡ Cut target kept → target < set

cut_by : (o : Option Kind) (m : Marker) (payload : List ℕ) (target kept : ℕ) → record_by o m payload ≡ Cut target kept → (o ≡ Some kinds.Cut) × (m.upload ≡ target)
cut_by None m payload target kept is = absurd cc
cut_by (Some kinds.Head) m payload target kept is = absurd cc
cut_by (Some kinds.Part) m payload target kept is = absurd cc
cut_by (Some kinds.Put) m payload target kept is = absurd cc
cut_by (Some kinds.Delete) m payload target kept is = absurd cc
cut_by (Some kinds.Cut) m payload target kept is = (refl, cc)
cut_by (Some kinds.Ready) m payload target kept is = absurd cc
cut_by (Some kinds.Digest) m payload target kept is = absurd cc
cut_by (Some kinds.Snapshot) m payload target kept is = absurd cc
cut_by (Some kinds.Trailer) m payload target kept is = absurd cc

lower_by : (m : Marker) (kind : Kind) → m.kind ≡ code_of kind → Counts kind m → kind_of m.kind ≡ Some kinds.Cut → m.upload < m.set
lower_by m kinds.Cut coded counts is = counts.3
lower_by m kinds.Head coded counts is = let e : Some kinds.Head ≡ Some kinds.Cut = sym (ap kind_of coded) ∙ is in absurd cc
lower_by m kinds.Part coded counts is = let e : Some kinds.Part ≡ Some kinds.Cut = sym (ap kind_of coded) ∙ is in absurd cc
lower_by m kinds.Put coded counts is = let e : Some kinds.Put ≡ Some kinds.Cut = sym (ap kind_of coded) ∙ is in absurd cc
lower_by m kinds.Delete coded counts is = let e : Some kinds.Delete ≡ Some kinds.Cut = sym (ap kind_of coded) ∙ is in absurd cc
lower_by m kinds.Ready coded counts is = let e : Some kinds.Ready ≡ Some kinds.Cut = sym (ap kind_of coded) ∙ is in absurd cc
lower_by m kinds.Digest coded counts is = let e : Some kinds.Digest ≡ Some kinds.Cut = sym (ap kind_of coded) ∙ is in absurd cc
lower_by m kinds.Snapshot coded counts is = let e : Some kinds.Snapshot ≡ Some kinds.Cut = sym (ap kind_of coded) ∙ is in absurd cc
lower_by m kinds.Trailer coded counts is = let e : Some kinds.Trailer ≡ Some kinds.Cut = sym (ap kind_of coded) ∙ is in absurd cc

records_lower : (array : Array) (held : Contents) (carriers : List Carrier) (set block : ℕ) (ms : List Marker) → AllByRecursion (IsOfSet set) ms → AllByRecursion (IsLowerCut set) (records_from array held carriers block ms)
records_lower array held carriers set block [] all = tt
records_lower array held carriers set block (m ∷ ms) all = (
  (λ target kept is.
      let cut = cut_by (kind_of m.kind) m (payload_of array held carriers block m) target kept is in
      let low = lower_by m all.0.0.kind all.0.0.coded all.0.0.counts cut.0 in
      omega (arith, low, cut.1, all.0.1)),
  records_lower array held carriers set (block + blocks_of m) ms all.1,
)

-- The cuts that are read of a set are of lower ones,
abbrev pub HasLowerCuts : ReadSet → Type 0
HasLowerCuts set = AllByRecursion (IsLowerCut set.id) set.records

pub read_set_lower : (array : Array) (held : Contents) (places : List Place) (set : ℕ) → HasLowerCuts (read_set array held places set)
read_set_lower array held places set =
    let carriers = carriers_of array held places set in
    records_lower array held carriers set 0 (agreed array held carriers) (agreed_all (IsOfSet set) array held carriers (carriers_of_set array held places set))

-- so the valid ones are.
all_cut : (P : Record → Type 0) (o : Option ℕ) (items : List Record) → AllByRecursion P items → AllByRecursion P (cut_to o items)
all_cut P None items all = all
all_cut P (Some zero) items all = tt
all_cut P (Some (suc n)) [] all = tt
all_cut P (Some (suc n)) (item ∷ items) all = (all.0, all_cut P (Some n) items all.1)

among_placed : (set position : ℕ) (items : List Record) (it : Placed) → Among it (placed_from set position items) → (it.set ≡ set) × Among it.item items
among_placed set position [] it found = absurd found
among_placed set position (item ∷ items) it (inl is) = (ap (λ (r : Placed). r.set) (sym is), inl (ap (λ (r : Placed). r.item) is))
among_placed set position (item ∷ items) it (inr later) = let there = among_placed set (position + 1) items it later in (there.0, inr there.1)

lower_among : (k : ℕ) (sets : List ReadSet) → AllByRecursion HasLowerCuts sets → (it : Placed) → Among it (records_of k sets) → IsLowerCut it.set it.item
lower_among k [] all it found = absurd found
lower_among k (set ∷ above) all it found = at_one (stands k set) refl (lower_among k above all.1 it)
  where
    at_one : (b : Bool) → stands k set ≡ b → (Among it (records_of k above) → IsLowerCut it.set it.item) → IsLowerCut it.set it.item
    at_one true is later = elim (among_joined (cut_records k set above) (records_of k above) it (subst (Among it) (read_standing k set above is) found)) [
      | inl here ↦
          let items = cut_to (kept_by set.id (valid k above)) set.records in
          let there = among_placed set.id 0 items it here in
          subst (λ id. IsLowerCut id it.item) (sym there.0) (all_among (IsLowerCut set.id) items it.item (all_cut (IsLowerCut set.id) (kept_by set.id (valid k above)) set.records all.0) there.1)
      | inr more ↦ later more
    ]
    at_one false fell later = later (subst (Among it) (read_fallen k set above fell) found)

pub lower_cuts : (k : ℕ) (sets : List ReadSet) → AllByRecursion HasLowerCuts sets → CutsAreOfLower k sets
lower_cuts k sets all it target kept found is = lower_among k sets all it (among_from_contains (records_of k sets) it found) target kept is

all_read_lower : (array : Array) (held : Contents) (places : List Place) (ids : List ℕ) → AllByRecursion HasLowerCuts (map (read_set array held places) ids)
all_read_lower array held places [] = tt
all_read_lower array held places (id ∷ ids) = (read_set_lower array held places id, all_read_lower array held places ids)

pub cuts_read_are_of_lower : CutsReadAreOfLower
cuts_read_are_of_lower k array shape held drives =
    let places = places_on shape drives in
    lower_cuts k (map (read_set array held places) (ids_at array held places)) (all_read_lower array held places (ids_at array held places))
