-- What a name stands for in what was scanned.
use Rattle.std.proofs.Common.{◌≡◌, ℕ, ◌+◌, ◌≤◌, Bool, true, List, [], ◌∷◌, length, map, Option, Some, None, IfSome, refl, sym, ap, ◌∙◌, subst}
use Rattle.std.specs.Prelude.{◌↔◌, IsTrue, nat_le}
use Rattle.std.specs.List.{AllByRecursion, slice_get, list_any}
use Rattle.std.specs.FinMap as finmap
use Rattle.smore_base.specs.Objects.{Value}
use Rattle.smore_base.specs.Geometry.{IsWithinLimits}
use Rattle.zone_bay.specs.Contents.{Shape, Contents}
use Rattle.marker_format.specs.declared.label.Label.{Label}
use Rattle.marker_format.specs.Zone.{Array}
use Rattle.array_model.specs.Drives.{array_of, present}
use Rattle.array_model.specs.Record.{is_ready}
use Rattle.array_model.specs.Sets as model
use Rattle.array_model.specs.Map.{items_of, value_of, value_in}
use Rattle.array_model.specs.NeedTests.{needed_among, needed_of}
use Rattle.array_model.proofs.MapLaws.{map_has_what_is_read}
use Rattle.array_model.proofs.Records.{all_among, among_from_contains}
use Rattle.std.proofs.lemmas.Bool.{and_parts, leb-true}
use Rattle.array_scan.specs.declared.records.ValidRecord.{ValidRecord}
use Rattle.array_scan.specs.declared.judge.SetScan.{SetScan}
use Rattle.array_scan.specs.declared.set_read.SetRead.{SetRead}
use Rattle.array_scan.specs.declared.sets.Sets.{Sets}
use Rattle.array_scan.specs.declared.answers.Scan.{Scan}
use Rattle.array_scan.specs.SetRead.{array_by, FitsBay}
use Rattle.array_scan.specs.Judged.{Payloads, set_with, sets_with, valid_with}
use Rattle.array_scan.specs.Valid.{placed_with, items_with, IsOfStanding}
use Rattle.array_scan.specs.Objects.{IsReadable}
use Rattle.array_scan.specs.Enough.{EachKeepsOn}
use Rattle.array_scan.specs.Scan.{k_of, indexes_of, payload_held, AreSetsOf, AreInBay, IsScanOf, IsInBay, array_read, sets_on, sets_read, map_read, needed_read, placed_in}
use Rattle.array_scan.proofs.ReadMap.{items_are, records_are, zeros}
use Rattle.array_scan.proofs.ScannedSets.{first_names}

-- ---- records that can be read

module _ (shape : Shape) (k n : ℕ) (sets : List SetScan) (fit : AllByRecursion (λ (s : SetScan). FitsBay shape n s.read) sets) (standing : (payload : Payloads) → AllByRecursion (λ (s : SetScan). s.stands ≡ model.stands k (set_with payload s.read)) sets) where
  readable_one : (v : ValidRecord) → IsOfStanding sets v → IsReadable shape k n v
  readable_one v is =
      let among = among_from_contains sets is.set is.there in
      let fits = all_among (λ (s : SetScan). FitsBay shape n s.read) sets is.set fit among in
      let stood = all_among (λ (s : SetScan). s.stands ≡ model.stands k (set_with zeros s.read)) sets is.set (standing zeros) among in
      let both = and_parts (nat_le k (length is.set.read.carriers.items)) (list_any is_ready (set_with zeros is.set.read).records) (sym stood ∙ is.stands) in
      record {
        fits = subst (λ (s : SetRead). FitsBay shape n s) (sym is.is) fits;
        enough = subst (λ (s : SetRead). k ≤ length s.carriers.items) (sym is.is) (leb-true k (length is.set.read.carriers.items) both.0);
      }

  readable_all : (records : List ValidRecord) → AllByRecursion (IsOfStanding sets) records → AllByRecursion (IsReadable shape k n) records
  readable_all [] all = tt
  readable_all (v ∷ records) all = (readable_one v all.0, readable_all records all.1)

-- the valid records of judged sets
pub readable_of : (shape : Shape) (k n : ℕ) (sets : Sets) (records : List ValidRecord) → sets.k ≡ k → AllByRecursion (λ (s : SetScan). FitsBay shape n s.read) sets.list.items → AllByRecursion (IsOfStanding sets.list.items) records → AllByRecursion (IsReadable shape k n) records
readable_of shape k n sets records k_is fit all =
    readable_all shape k n sets.list.items fit
    (λ payload. subst (λ (k : ℕ). AllByRecursion (λ (s : SetScan). s.stands ≡ model.stands k (set_with payload s.read)) sets.list.items) k_is (sets.judged.standing payload))
    records all

-- the sets of what was scanned, where this is the label
pub sets_fit : (shape : Shape) (scan : Scan) (l : Label) → IsInBay shape scan → Some l ≡ slice_get scan.drives.labels.items 0 → AllByRecursion (λ (s : SetScan). FitsBay shape (l.geometry.k + l.geometry.p) s.read) scan.sets.list.items
sets_fit shape scan l is first =
    subst (λ (a : Option Array). AllByRecursion (λ (s : SetScan). FitsBay shape (indexes_of a) s.read) scan.sets.list.items) (sym (first_names scan.drives.labels.items l first)) is.sets.fit

pub sets_k : (shape : Shape) (scan : Scan) (l : Label) → IsInBay shape scan → Some l ≡ slice_get scan.drives.labels.items 0 → scan.sets.k ≡ l.geometry.k
sets_k shape scan l is first = is.sets.k ∙ ap k_of (sym (first_names scan.drives.labels.items l first))

-- the records of what was scanned, where this is the label
pub readable : (shape : Shape) (scan : Scan) (l : Label) (records : List ValidRecord) → IsInBay shape scan → Some l ≡ slice_get scan.drives.labels.items 0 → AllByRecursion (IsOfStanding scan.sets.list.items) records
    → AllByRecursion (IsReadable shape l.geometry.k (l.geometry.k + l.geometry.p)) records
readable shape scan l records is first all = readable_of shape l.geometry.k (l.geometry.k + l.geometry.p) scan.sets records (sets_k shape scan l is first) (sets_fit shape scan l is first) all

-- the same of a code with its numbers
pub readable_by : (shape : Shape) (l : Label) (k p : ℕ) (records : List ValidRecord) → k ≡ l.geometry.k → p ≡ l.geometry.p → AllByRecursion (IsReadable shape l.geometry.k (l.geometry.k + l.geometry.p)) records → AllByRecursion (IsReadable shape k (k + p)) records
readable_by shape l k p records k_is p_is all = subst (λ (k : ℕ). AllByRecursion (IsReadable shape k (k + p)) records) (sym k_is) (subst (λ (p : ℕ). AllByRecursion (IsReadable shape l.geometry.k (l.geometry.k + p)) records) (sym p_is) all)

-- the first label is within the limits
pub label_within : (shape : Shape) (scan : Scan) (l : Label) → IsInBay shape scan → Some l ≡ slice_get scan.drives.labels.items 0 → IsWithinLimits l.geometry
label_within shape scan l is first = within_first scan.drives.labels.items l first is.limits
  where
    within_first : (ls : List Label) (l : Label) → Some l ≡ slice_get ls 0 → AllByRecursion (λ (l : Label). IsWithinLimits l.geometry) ls → IsWithinLimits l.geometry
    within_first [] l is all = absurd cc
    within_first (x ∷ ls) l is all = subst (λ (o : Option Label). IfSome o (λ l. IsWithinLimits l.geometry)) (sym is) all.0

-- ---- names

no_first : (ls : List Label) → None ≡ slice_get ls 0 → array_of ls ≡ None
no_first [] none = refl
no_first (l ∷ ls) none = absurd cc

module _ (shape : Shape) (held : Contents) (away : List ℕ) (scan : Scan) (is : IsScanOf shape held away scan) (name : List ℕ) where
  read_is : (array : Option Array) → array_of scan.drives.labels.items ≡ array → array_read shape held away ≡ array
  read_is array named = ap array_of (sym is.labels_are) ∙ named

  -- what is read of the name
  pub named_object : (l : Label) → Some l ≡ slice_get scan.drives.labels.items 0 → (records : List ValidRecord) → ((payload : Payloads) → map (placed_with payload) records ≡ model.placed (valid_with payload scan.sets.list.items))
      → (value : Option Value) → value ≡ value_of (items_with (payload_held l.geometry.k held) records) name → value ≡ finmap.get (map_read shape held away) name
  named_object l first records placed value value_is =
      let k_is : k_of (array_read shape held away) ≡ l.geometry.k = ap k_of (read_is (Some (array_by l)) (sym (first_names scan.drives.labels.items l first))) in
      value_is
      ∙ ap (λ k. value_of (items_with (payload_held k held) records) name) (sym k_is)
      ∙ ap (λ items. value_of items name) (sym (items_are (payload_held (k_of (array_read shape held away)) held) records) ∙ ap items_of (records_are (array_read shape held away) shape held (present shape held away) scan.sets is.sets_are records placed))
      ∙ sym (map_has_what_is_read (k_of (array_read shape held away)) (sets_read shape held away) name)

  -- nothing is read where there is no label
  pub no_object : None ≡ slice_get scan.drives.labels.items 0 → None ≡ finmap.get (map_read shape held away) name
  no_object none =
      let nothing : array_read shape held away ≡ None = read_is None (no_first scan.drives.labels.items none) in
      ap (λ array. value_in (k_of array) (sets_on array shape held (present shape held away)) name) (sym nothing)
      ∙ sym (map_has_what_is_read (k_of (array_read shape held away)) (sets_read shape held away) name)

-- ---- needed records

module _ (shape : Shape) (held : Contents) (away : List ℕ) (scan : Scan) (is : IsScanOf shape held away scan) where
  -- the needed ones of what is read
  pub needed_named : (l : Label) → Some l ≡ slice_get scan.drives.labels.items 0 → (k : ℕ) → k ≡ l.geometry.k → (needed : List ValidRecord)
      → (let p = payload_held k held in map (placed_with p) needed ≡ needed_of k [] (sets_with p scan.sets.list.items)) → placed_in shape held away needed ≡ needed_read shape held away
  needed_named l first k k_is needed found =
      let same : k ≡ k_of (array_read shape held away) = k_is ∙ sym (ap k_of (read_is shape held away scan is [] (Some (array_by l)) (sym (first_names scan.drives.labels.items l first)))) in
      subst (λ (k : ℕ). let p = payload_held k held in map (placed_with p) needed ≡ needed_of k [] (sets_with p scan.sets.list.items)) same found
      ∙ ap (needed_of (k_of (array_read shape held away)) []) is.sets_are.reading

  -- nothing is needed where there is no label
  pub needed_none : None ≡ slice_get scan.drives.labels.items 0 → [] ≡ needed_read shape held away
  unfolding needed_of
  needed_none none = ap (λ array. needed_of (k_of array) [] (sets_on array shape held (present shape held away))) (sym (read_is shape held away scan is [] None (no_first scan.drives.labels.items none)))

-- the needed ones of the records of judged sets
pub needed_by : (k : ℕ) (sets : Sets) (payload : Payloads) (records : List ValidRecord) (needed : List model.Placed) → sets.k ≡ k → ((payload : Payloads) → map (placed_with payload) records ≡ model.placed (valid_with payload sets.list.items))
    → needed ≡ needed_among [] (sets_with payload sets.list.items) (items_with payload records) [] (map (placed_with payload) records) → needed ≡ needed_of k [] (sets_with payload sets.list.items)
unfolding needed_of
needed_by k sets payload records needed k_is placed found =
    let read = sets_with payload sets.list.items in
    let are : map (placed_with payload) records ≡ model.records_of k read = placed payload ∙ ap model.placed (sym (sets.judged.valid_are payload)) ∙ ap (λ k. model.records_of k read) k_is in
    found
    ∙ ap (λ items. needed_among [] read items [] (map (placed_with payload) records)) (sym (items_are payload records) ∙ ap items_of are)
    ∙ ap (λ rs. needed_among [] read (items_of (model.records_of k read)) [] rs) are

-- ---- enough

-- the sets of what was scanned, where this is the label
pub sets_in : (shape : Shape) (scan : Scan) (l : Label) → IsInBay shape scan → Some l ≡ slice_get scan.drives.labels.items 0 → AreInBay (Some (array_by l)) shape scan.sets
sets_in shape scan l is first = subst (λ (a : Option Array). AreInBay a shape scan.sets) (sym (first_names scan.drives.labels.items l first)) is.sets

module _ (shape : Shape) (held : Contents) (away : List ℕ) (scan : Scan) (is : IsScanOf shape held away scan) (leaving : List ℕ) where
  pub kept_named : (l : Label) → Some l ≡ slice_get scan.drives.labels.items 0 → (enough : Bool)
      → (AreSetsOf (Some (array_by l)) shape held scan.drives.present.items scan.sets → IsTrue enough ↔ EachKeepsOn (Some (array_by l)) shape held scan.drives.present.items leaving)
      → IsTrue enough ↔ EachKeepsOn (array_read shape held away) shape held (present shape held away) leaving
  kept_named l first enough told =
      let named = read_is shape held away scan is [] (Some (array_by l)) (sym (first_names scan.drives.labels.items l first)) in
      subst (λ (a : Option Array). IsTrue enough ↔ EachKeepsOn a shape held (present shape held away) leaving) (sym named)
      (subst (λ (ds : List ℕ). IsTrue enough ↔ EachKeepsOn (Some (array_by l)) shape held ds leaving) is.present_are
      (told (subst (λ (ds : List ℕ). AreSetsOf (Some (array_by l)) shape held ds scan.sets) (sym is.present_are) (subst (λ (a : Option Array). AreSetsOf a shape held (present shape held away) scan.sets) named is.sets_are))))

  pub kept_none : None ≡ slice_get scan.drives.labels.items 0 → IsTrue true ↔ EachKeepsOn (array_read shape held away) shape held (present shape held away) leaving
  kept_none none =
      subst (λ (a : Option Array). IsTrue true ↔ EachKeepsOn a shape held (present shape held away) leaving) (sym (read_is shape held away scan is [] None (no_first scan.drives.labels.items none))) (λ e. tt, λ u. refl)
