-- The sets that were read are those of the definitions.
use Rattle.std.proofs.Common.{◌≡◌, ℕ, ◌+◌, List, [], ◌∷◌, length, map, take, Some, refl, sym, ap, ap₂, ◌∙◌, subst}
use Rattle.std.specs.Prelude.{option_map}
use Rattle.std.specs.List.{AllByRecursion, slice_get}
use Rattle.std.proofs.lemmas.List.{length-map}
use Rattle.zone_bay.specs.Contents.{Shape, Contents}
use Rattle.marker_format.specs.Kind.{kind_of}
use Rattle.marker_format.specs.declared.label.Label.{Label}
use Rattle.marker_format.specs.declared.marker.Marker.{Marker}
use Rattle.marker_format.specs.Zone.{Array, Placed, placed_from, blocks_of}
use Rattle.array_model.specs.Drives.{Place, places_on, array_of}
use Rattle.array_model.specs.Record.{Record}
use Rattle.array_model.specs.Payload.{payload_from}
use Rattle.array_model.specs.Reading as model
use Rattle.array_model.specs.Sets.{ReadSet, stands, valid}
use Rattle.array_scan.specs.declared.set_read.RecordAt.{RecordAt}
use Rattle.array_scan.specs.declared.set_read.SetRead.{SetRead}
use Rattle.array_scan.specs.declared.judge.SetScan.{SetScan}
use Rattle.array_scan.specs.declared.sets.Sets.{Sets}
use Rattle.array_scan.specs.SetRead.{array_by, carrier_of, placed_of, FitsBay, Seen, seen_of, seen_at}
use Rattle.array_scan.specs.Judged.{set_with, sets_with, IsJudged}
use Rattle.array_scan.specs.Scan.{payload_held, AreSetsOf, AreInBay}

-- a record that is seen, with its payload
abbrev pub record_seen : ℕ → Contents → List model.Carrier → Placed → Record
record_seen k held carriers p = model.record_by (kind_of p.marker.kind) p.marker (payload_from k (map (model.fragment_on held p.block p.marker) (take k carriers)) p.marker.payload)

-- a set that is seen, with its payloads
abbrev pub set_of : ℕ → Contents → Seen → ReadSet
set_of k held seen = record { id = seen.id; carriers = length seen.carriers; records = map (record_seen k held seen.carriers) seen.placed; closed = seen.closed }

module _ (k : ℕ) (held : Contents) where
  same_parts : (id carriers carriers' : ℕ) (records records' : List Record) (s : SetRead) → carriers ≡ carriers' → records ≡ records'
      → ◌≡◌ {A = ReadSet} (record { id = id; carriers = carriers; records = records; closed = s.closed }) (record { id = id; carriers = carriers'; records = records'; closed = s.closed })
  same_parts id carriers carriers' records records' s p q = λ i. record { id = id; carriers = p i; records = q i; closed = s.closed }

  pub set_seen_with : (s : SetRead) → set_with (payload_held k held) s ≡ set_of k held (seen_of s)
  set_seen_with s = same_parts s.id _ _ _ _ s (sym (length-map s.carriers.items carrier_of)) (each s.records.items)
    where
      each : (rs : List RecordAt) → map (λ (r : RecordAt). model.record_by (kind_of r.marker.kind) r.marker (payload_held k held s.carriers.items r)) rs ≡ map (record_seen k held (map carrier_of s.carriers.items)) (map placed_of rs)
      each [] = refl
      each (r ∷ rs) = ap (λ l. model.record_by (kind_of r.marker.kind) r.marker (payload_held k held s.carriers.items r) ∷ l) (each rs)

  pub sets_seen_with : (sets : List SetScan) → sets_with (payload_held k held) sets ≡ map (set_of k held) (map (λ (s : SetScan). seen_of s.read) sets)
  sets_seen_with [] = refl
  sets_seen_with (s ∷ sets) = ap₂ (λ x xs. x ∷ xs) (set_seen_with s.read) (sets_seen_with sets)

records_seen : (array : Array) (held : Contents) (carriers : List model.Carrier) (block : ℕ) (ms : List Marker) → map (record_seen array.geometry.k held carriers) (placed_from block ms) ≡ model.records_from array held carriers block ms
records_seen array held carriers block [] = refl
records_seen array held carriers block (m ∷ ms) = ap (λ l. model.record_by (kind_of m.kind) m (model.payload_of array held carriers block m) ∷ l) (records_seen array held carriers (block + blocks_of m) ms)

-- a set, from what is seen of it at these places
pub set_seen_at : (array : Array) (held : Contents) (places : List Place) (id : ℕ) → set_of array.geometry.k held (seen_at array held places id) ≡ model.read_set array held places id
set_seen_at array held places id =
    let carriers = model.carriers_of array held places id in
    ap (λ (records : List Record). record { id = id; carriers = length carriers; records = records; closed = model.are_closed array held carriers })
    (records_seen array held carriers 0 (model.agreed array held carriers))

sets_seen_at : (array : Array) (held : Contents) (places : List Place) (ids : List ℕ) → map (set_of array.geometry.k held) (map (seen_at array held places) ids) ≡ map (model.read_set array held places) ids
sets_seen_at array held places [] = refl
sets_seen_at array held places (id ∷ ids) = ap₂ (λ (x : ReadSet) xs. x ∷ xs) (set_seen_at array held places id) (sets_seen_at array held places ids)

stand_as : (k : ℕ) (held : Contents) (sets : List SetScan) → AllByRecursion (λ (s : SetScan). s.stands ≡ stands k (set_with (payload_held k held) s.read)) sets → map (λ (s : SetScan). s.stands) sets ≡ map (stands k) (sets_with (payload_held k held) sets)
stand_as k held [] all = refl
stand_as k held (s ∷ sets) all = ap₂ (λ x xs. x ∷ xs) all.0 (stand_as k held sets all.1)

pub seen_read : (sets : List SetScan) → map (λ (s : SetScan). seen_of s.read) sets ≡ map seen_of (map (λ (s : SetScan). s.read) sets)
seen_read [] = refl
seen_read (s ∷ sets) = ap (λ l. seen_of s.read ∷ l) (seen_read sets)

fit_read : (shape : Shape) (indexes : ℕ) (sets : List SetScan) → AllByRecursion (FitsBay shape indexes) (map (λ (s : SetScan). s.read) sets) → AllByRecursion (λ (s : SetScan). FitsBay shape indexes s.read) sets
fit_read shape indexes [] all = tt
fit_read shape indexes (s ∷ sets) all = (all.0, fit_read shape indexes sets all.1)

-- sets that were read in zones of the bay, and judged
pub sets_in_bay : (array : Array) (shape : Shape) (reads : List SetRead) (sets : Sets) → sets.k ≡ array.geometry.k → map (λ (s : SetScan). s.read) sets.list.items ≡ reads → AllByRecursion (FitsBay shape (model.fragments_of array)) reads → AreInBay (Some array) shape sets
sets_in_bay array shape reads sets k_is are fit = record { k = k_is; fit = fit_read shape (model.fragments_of array) sets.list.items (subst (λ (l : List SetRead). AllByRecursion (FitsBay shape (model.fragments_of array)) l) (sym are) fit) }

-- sets that were read at the places of drives, and judged
pub sets_scanned : (array : Array) (shape : Shape) (held : Contents) (drives : List ℕ) (reads : List SetRead) (sets : Sets) → sets.k ≡ array.geometry.k → map (λ (s : SetScan). s.read) sets.list.items ≡ reads → AllByRecursion (FitsBay shape (model.fragments_of array)) reads
    → map seen_of reads ≡ map (seen_at array held (places_on shape drives)) (model.ids_at array held (places_on shape drives)) → IsJudged sets.k sets.list.items sets.kept → AreSetsOf (Some array) shape held drives sets
sets_scanned array shape held drives reads sets k_is are fit seen judged_as =
    let k = array.geometry.k in
    let places = places_on shape drives in
    let list = sets.list.items in
    let judged = subst (λ (k : ℕ). IsJudged k list sets.kept) k_is judged_as in
    let saw : map (λ (s : SetScan). seen_of s.read) list ≡ map (seen_at array held places) (model.ids_at array held places) = seen_read list ∙ ap (map seen_of) are ∙ seen in
    let same : sets_with (payload_held k held) list ≡ model.reading array shape held drives = sets_seen_with k held list ∙ ap (map (set_of k held)) saw ∙ sets_seen_at array held places (model.ids_at array held places) in
    record {
      k = k_is;
      fit = fit_read shape (model.fragments_of array) list (subst (λ (l : List SetRead). AllByRecursion (FitsBay shape (model.fragments_of array)) l) (sym are) fit);
      seen = saw;
      reading = same;
      standing = stand_as k held list (judged.standing (payload_held k held)) ∙ ap (map (stands k)) same;
      valid_are = sym (judged.valid_are (payload_held k held)) ∙ ap (valid k) same;
    }

-- the array that the first label names
pub first_names : (ls : List Label) (l : Label) → Some l ≡ slice_get ls 0 → Some (array_by l) ≡ array_of ls
first_names [] l is = absurd cc
first_names (x ∷ ls) l is = ap (option_map array_by) is
