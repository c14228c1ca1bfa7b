-- The records of a settled set are the same, read from any k of its carriers.
use Rattle.std.proofs.Common.{◌≡◌, ℕ, zero, suc, ◌+◌, ◌≤◌, true, eqb, inl, inr, List, [], ◌∷◌, ◌++◌, length, map, take, Option, Some, None, refl, sym, ap, ap₂, ◌∙◌, subst, append_assoc, arith}
use Rattle.std.specs.List.{AllByRecursion}
use Rattle.std.proofs.lemmas.Bool.{cases_Bool, cond-true}
use Rattle.std.proofs.lemmas.List.{length-append, take_all}
use Rattle.zone_bay.specs.Contents.{Contents}
use Rattle.marker_format.specs.declared.kind.Kind.{Kind}
use Rattle.marker_format.specs.declared.kind.Kind.TheVariants.{Head, Part, Put, Delete, Cut, Ready, Digest, Snapshot, Trailer}
use Rattle.marker_format.specs.declared.marker.Marker.{Marker}
use Rattle.marker_format.specs.Kind.{kind_of}
use Rattle.marker_format.specs.Marker.{IsMarker}
use Rattle.marker_format.specs.Zone.{Array, blocks_of, end_from}
use Rattle.array_model.specs.Drives.{Place, bytes_at, records_at}
use Rattle.array_model.specs.Reading.{Carrier, carriers_of, aside, alike, agreed, are_closed, fragment_on, payload_of, record_by, records_from, read_set}
use Rattle.array_model.specs.Payload.{fragment_of}
use Rattle.array_model.specs.Kept.{HaveOneList, HaveOnePayload, HavePayloads}
use Rattle.array_model.specs.ReadingLaws.{KeepsEnough, KeptIsReadFromSome, ClosedIsReadFromSome}
use Rattle.array_model.proofs.Records.{Among, among_from_contains, contains_from_among, all_among}
use Rattle.array_model.proofs.Alike.{part_stays, nothing_else_is_aside}
use Rattle.array_model.proofs.Agreed.{agree_where_alike, common_first}
use Rattle.array_model.proofs.Fragments.{carriers_give_payload}
use Rattle.array_model.proofs.Settled.{whole_stand, all_markers, cut_reads_the_same, closed_reads_the_same}
use Rattle.array_model.proofs.SameZones.{all-take}

-- ---- one record

-- no record says its index
without_index : (o : Option Kind) (m : Marker) (payload : List ℕ) → record_by o (record m { index = 0 }) payload ≡ record_by o m payload
without_index None m payload = refl
without_index (Some Head) m payload = refl
without_index (Some Part) m payload = refl
without_index (Some Put) m payload = refl
without_index (Some Delete) m payload = refl
without_index (Some Cut) m payload = refl
without_index (Some Ready) m payload = refl
without_index (Some Digest) m payload = refl
without_index (Some Snapshot) m payload = refl
without_index (Some Trailer) m payload = refl

-- A record says nothing of what is left aside.
record_aside : (m : Marker) (payload : List ℕ) → record_by (kind_of m.kind) (aside m) payload ≡ record_by (kind_of m.kind) m payload
record_aside m payload = elim (cases_Bool (eqb m.kind 1)) [
  | inl head ↦
      let kind : kind_of m.kind ≡ Some Head = cond-true (eqb m.kind 1) (Some Head) _ head in
      ap (λ o. record_by o (aside m) payload) kind ∙ sym (ap (λ o. record_by o m payload) kind)
  | inr other ↦
      ap (λ part. record_by (kind_of m.kind) (record m { index = 0; part = part }) payload) (part_stays m other)
      ∙ without_index (kind_of m.kind) m payload
]

pub same_record_by : (x y : Marker) (payload : List ℕ) → aside x ≡ aside y → record_by (kind_of x.kind) x payload ≡ record_by (kind_of y.kind) y payload
same_record_by x y payload same =
    sym (record_aside x payload)
    ∙ ap (λ (m : Marker). record_by (kind_of m.kind) m payload) same
    ∙ record_aside y payload

-- ---- all records

module _ (array : Array) (held : Contents) (some carriers : List Carrier) where
  -- the payloads of these records, from the block on, are the same from both
  abbrev pub SamePayloads : ℕ → List Marker → Type 0
  SamePayloads block [] = Unit {0}
  SamePayloads block (m ∷ ms) = (payload_of array held some block m ≡ payload_of array held carriers block m) × SamePayloads (block + blocks_of m) ms

  pub same_records : (block : ℕ) (xs ys : List Marker) → map alike xs ≡ map alike ys → AllByRecursion IsMarker xs → AllByRecursion IsMarker ys → SamePayloads block ys → records_from array held some block xs ≡ records_from array held carriers block ys
  same_records block [] [] same xs_are ys_are payloads = refl
  same_records block [] (y ∷ ys) same xs_are ys_are payloads = absurd cc
  same_records block (x ∷ xs) [] same xs_are ys_are payloads = absurd cc
  same_records block (x ∷ xs) (y ∷ ys) same xs_are ys_are payloads =
      let left : aside x ≡ aside y = nothing_else_is_aside x y xs_are.0 ys_are.0 (agree_where_alike x y (cc)) in
      let payload : payload_of array held some block x ≡ payload_of array held carriers block y = ap (payload_of array held some block) left ∙ payloads.0 in
      let next : block + blocks_of x ≡ block + blocks_of y = ap (λ (m : Marker). block + blocks_of m) left in
      ap₂ ◌∷◌
      (ap (record_by (kind_of x.kind) x) payload ∙ same_record_by x y (payload_of array held carriers block y) left)
      (ap (λ b. records_from array held some b xs) next ∙ same_records (block + blocks_of y) xs ys (cc) xs_are.1 ys_are.1 payloads.1)

take_records : (array : Array) (held : Contents) (carriers : List Carrier) (n block : ℕ) (ms : List Marker) → take n (records_from array held carriers block ms) ≡ records_from array held carriers block (take n ms)
take_records array held carriers zero block ms = refl
take_records array held carriers (suc n) block [] = refl
take_records array held carriers (suc n) block (m ∷ ms) = ap (λ l. record_by (kind_of m.kind) m (payload_of array held carriers block m) ∷ l) (take_records array held carriers n (block + blocks_of m) ms)

pub all_front : (P : Marker → Type 0) (xs ys : List Marker) → AllByRecursion P (xs ++ ys) → AllByRecursion P xs
all_front P [] ys all = tt
all_front P (x ∷ xs) ys all = (all.0, all_front P xs ys all.1)

pub agreed_markers : (array : Array) (held : Contents) (carriers : List Carrier) → AllByRecursion IsMarker (agreed array held carriers)
agreed_markers array held [] = tt
agreed_markers array held (c ∷ []) = all_markers array (bytes_at held c.place) (records_at array held c.place) None 0 (whole_stand array (bytes_at held c.place))
agreed_markers array held (c ∷ d ∷ carriers) =
    let p = common_first (records_at array held c.place) (agreed array held (d ∷ carriers)) in
    all_front IsMarker (agreed array held (c ∷ d ∷ carriers)) p.0 (subst (AllByRecursion IsMarker) p.1 (all_markers array (bytes_at held c.place) (records_at array held c.place) None 0 (whole_stand array (bytes_at held c.place))))

end_behind : (block : ℕ) (before : List Marker) (m : Marker) → end_from block (before ++ m ∷ []) ≡ end_from block before + blocks_of m
end_behind block [] m = refl
end_behind block (x ∷ before) m = end_behind (block + blocks_of x) before m

pub all_from_among : {X : Type 0} (P : X → Type 0) (xs : List X) → ((x : X) → Among x xs → P x) → AllByRecursion P xs
all_from_among P [] each = tt
all_from_among P (x ∷ xs) each = (each x (inl refl), all_from_among P xs (λ y found. each y (inr found)))

module _ (array : Array) (held : Contents) (places those : List Place) (set : ℕ) (keeps : KeepsEnough array held places those set) where
  abbrev few : List Carrier
  few = carriers_of array held places set

  abbrev all : List Carrier
  all = carriers_of array held those set

  -- one payload, from those that are left and from all
  one_payload : (block : ℕ) (m : Marker) → HaveOnePayload array held all block m → payload_of array held few block m ≡ payload_of array held all block m
  one_payload block m one =
      let less : HaveOnePayload array held few block m = record {
        payload = one.payload;
        bytes = one.bytes;
        fragments = one.fragments;
        are = one.are;
        each = all_from_among (λ (c : Carrier). (fragment_on held block m c).bytes ≡ fragment_of one.fragments c.index) few
            (λ c found. all_among (λ (c : Carrier). (fragment_on held block m c).bytes ≡ fragment_of one.fragments c.index) all c one.each (among_from_contains all c (keeps.some.1 c (contains_from_among few c found))));
      } in
      carriers_give_payload array held places set block m less keeps.enough keeps.fits
      ∙ sym (carriers_give_payload array held those set block m one keeps.were keeps.fits)

  same_payloads : (kept : ℕ) → HavePayloads array held all kept → (count : ℕ) (before ms : List Marker) → agreed array held all ≡ before ++ ms → length before + count ≤ kept → SamePayloads array held few all (end_from 0 before) (take count ms)
  same_payloads kept have zero before ms is within = tt
  same_payloads kept have (suc count) before [] is within = tt
  same_payloads kept have (suc count) before (m ∷ ms) is within = (
    one_payload (end_from 0 before) m (have before ms m is (omega (arith, within))),
    subst (λ b. SamePayloads array held few all b (take count ms)) (end_behind 0 before m)
        (same_payloads kept have count (before ++ m ∷ []) ms (is ∙ sym (append_assoc before (m ∷ []) ms)) (omega (arith, within, length-append before (m ∷ [])))),
  )

  pub kept_same : (kept : ℕ) → kept ≤ length (agreed array held all) → HavePayloads array held all kept → take kept (read_set array held places set).records ≡ take kept (read_set array held those set).records
  kept_same kept fits have =
      take_records array held few kept 0 (agreed array held few)
      ∙ same_records array held few all 0 (take kept (agreed array held few)) (take kept (agreed array held all))
      (cut_reads_the_same array held few all kept keeps.some fits)
      (all-take IsMarker kept (agreed array held few) (agreed_markers array held few))
      (all-take IsMarker kept (agreed array held all) (agreed_markers array held all))
      (same_payloads kept have kept [] (agreed array held all) refl (omega arith))
      ∙ sym (take_records array held all kept 0 (agreed array held all))

  -- Where both agree on the same markers all records are the same.
  pub alike_same : map alike (agreed array held few) ≡ map alike (agreed array held all) → HavePayloads array held all (length (agreed array held all)) → (read_set array held places set).records ≡ (read_set array held those set).records
  alike_same same have =
      let long = length (agreed array held all) in
      same_records array held few all 0 (agreed array held few) (agreed array held all)
      same
      (agreed_markers array held few)
      (agreed_markers array held all)
      (subst (SamePayloads array held few all 0) (take_all long (agreed array held all) (omega arith)) (same_payloads long have long [] (agreed array held all) refl (omega arith)))

  pub closed_same : HaveOneList array held all → are_closed array held all ≡ true → HavePayloads array held all (length (agreed array held all)) → (read_set array held places set).records ≡ (read_set array held those set).records
  closed_same lists closed have = alike_same (closed_reads_the_same array held few all keeps.some lists closed) have

pub kept_is_read_from_some : KeptIsReadFromSome
kept_is_read_from_some array held places those set kept keeps fits have = kept_same array held places those set keeps kept fits have

pub closed_is_read_from_some : ClosedIsReadFromSome
closed_is_read_from_some array held places those set keeps lists closed have = closed_same array held places those set keeps lists closed have
