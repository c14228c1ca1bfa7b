-- The tests tell which records are needed.
use Rattle.std.proofs.Common.{◌≡◌, ℕ, zero, suc, ◌+◌, ◌-◌, ◌<◌, ◌≤◌, Bool, true, false, cond, List, [], ◌∷◌, ◌++◌, length, Option, Some, None, Decides, is_some, count_by, sum_by, inl, inr, refl, sym, ap, ◌∙◌, subst, arith, append_assoc, length-append}
use Rattle.std.specs.Prelude.{◌⊎◌, ◌&&◌, ◌==◌}
use Rattle.std.specs.List.{list_any, list_all}
use Rattle.std.proofs.lemmas.Bool.{false≢true, cases_lt, leb-true, le-leb}
use Rattle.std.proofs.lemmas.Bool.Decides.{Decides-eqb, Decides-ltb, Decides-not, Decides-and, Decides-or, Decides-like}
use Rattle.std.proofs.lemmas.List.{length_push}
use Rattle.std.proofs.lemmas.List.Sums.{sum_by-cons}
use Rattle.std.proofs.lemmas.Slice.Eq.{bytes_eq-Decides}
use Rattle.array_model.specs.Record.{Record, Head, Ready, Part, Put, Delete, Cut, Digest, Snapshot, note_stamp}
use Rattle.array_model.specs.Sets.{ReadSet, Placed, records_of, HasCarrier}
use Rattle.array_model.specs.Map.{newest, items_of}
use Rattle.array_model.specs.Need.{IsComplete, IsNewestSnapshot, IsUploadOfNewest, IsWanted, CutsAtMost, IsLastCut}
use Rattle.array_model.specs.NeedTests.{is_same, is_that, names_upload, Stamped, snapshot_bytes, leaves, can_have, completes, is_complete, is_no_newer, is_wanted, has_carrier, cuts_at_most, is_last_cut, Beside, is_needed, needed_among, needed_of}
use Rattle.array_model.specs.NeedLaws.{CopiesAreEqual, TestsAreNeed}
use Rattle.array_model.proofs.Records.{Among, among_from_contains, contains_from_among, newest_is_note}
use Rattle.array_model.proofs.Tests.{Decides-any, Decides-all}

-- ---- copies

never : {P : Type 0} → (P → ⊥) → Decides false P
never none = (λ e. absurd (false≢true e), λ p. absurd (none p))

pub Decides-same : (one other : Record) → Decides (is_same one other) (one ≡ other)
Decides-same Head Head = (λ e. refl, λ e. refl)
Decides-same Ready Ready = (λ e. refl, λ e. refl)
Decides-same (Part upload part payload) (Part u i p) =
    Decides-like _ (λ h. let a = h.0.0 in let b = h.0.1 in let c = h.1 in cc) (λ e. ((cc, cc), cc))
    (Decides-and _ _ (Decides-and _ _ (Decides-eqb upload u) (Decides-eqb part i)) (bytes_eq-Decides payload p))
Decides-same (Put name stamp upload parts bytes) (Put n s u is b) =
    Decides-like _ (λ h. let a = h.0.0.0.0 in let b = h.0.0.0.1 in let c = h.0.0.1 in let d = h.0.1 in let f = h.1 in cc) (λ e. ((((cc, cc), cc), cc), cc))
    (Decides-and _ _ (Decides-and _ _ (Decides-and _ _ (Decides-and _ _ (bytes_eq-Decides name n) (Decides-eqb stamp s)) (Decides-eqb upload u)) (Decides-eqb parts is)) (Decides-eqb bytes b))
Decides-same (Delete name stamp) (Delete n s) =
    Decides-like _ (λ h. let a = h.0 in let b = h.1 in cc) (λ e. (cc, cc))
    (Decides-and _ _ (bytes_eq-Decides name n) (Decides-eqb stamp s))
Decides-same (Cut target kept) (Cut t n) =
    Decides-like _ (λ h. let a = h.0 in let b = h.1 in cc) (λ e. (cc, cc))
    (Decides-and _ _ (Decides-eqb target t) (Decides-eqb kept n))
Decides-same (Digest part parts payload) (Digest i is p) =
    Decides-like _ (λ h. let a = h.0.0 in let b = h.0.1 in let c = h.1 in cc) (λ e. ((cc, cc), cc))
    (Decides-and _ _ (Decides-and _ _ (Decides-eqb part i) (Decides-eqb parts is)) (bytes_eq-Decides payload p))
Decides-same (Snapshot stamp part parts bytes payload) (Snapshot s i is b p) =
    Decides-like _ (λ h. let a = h.0.0.0.0 in let b = h.0.0.0.1 in let c = h.0.0.1 in let d = h.0.1 in let f = h.1 in cc) (λ e. ((((cc, cc), cc), cc), cc))
    (Decides-and _ _ (Decides-and _ _ (Decides-and _ _ (Decides-and _ _ (Decides-eqb stamp s) (Decides-eqb part i)) (Decides-eqb parts is)) (Decides-eqb bytes b)) (bytes_eq-Decides payload p))
Decides-same one other = never (λ e. cc)

pub copies_are_equal : CopiesAreEqual
copies_are_equal one other = Decides-same one other

Decides-that : (item : Record) (o : Option Record) → Decides (is_that item o) (o ≡ Some item)
Decides-that item None = never (λ e. cc)
Decides-that item (Some other) = Decides-like _ (λ e. ap Some (sym e)) (λ e. cc) (Decides-same item other)

-- ---- uploads of newest notes

-- the record is a put note of this upload, and the newest note of its name
abbrev Names : List Record → ℕ → Record → Type 0
Names items upload item = (name : List ℕ) × (stamp : ℕ) × (parts : ℕ) × (bytes : ℕ) × (item ≡ Put name stamp upload parts bytes) × (newest name items ≡ Some item)

no_put : (items : List Record) (upload : ℕ) (item : Record) → ((name : List ℕ) (stamp parts bytes : ℕ) → item ≡ Put name stamp upload parts bytes → ⊥) → Decides false (Names items upload item)
no_put items upload item none = never (λ it. none it.0 it.1 it.2 it.3 it.4)

Decides-names : (items : List Record) (upload : ℕ) (item : Record) → Decides (names_upload items upload item) (Names items upload item)
Decides-names items upload (Put name stamp u parts bytes) =
    Decides-like _
    (λ h. let e = h.0 in (name, stamp, parts, bytes, ap (λ v. Put name stamp v parts bytes) e, h.1))
    (λ it. let e = it.4 in let same : name ≡ it.0 = cc in (cc, ap (λ n. newest n items) same ∙ it.5))
    (Decides-and _ _ (Decides-eqb u upload) (Decides-that (Put name stamp u parts bytes) (newest name items)))
Decides-names items upload item = no_put items upload item (λ name stamp parts bytes e. cc)

Decides-of_newest : (items : List Record) (upload : ℕ) → Decides (list_any (names_upload items upload) items) (IsUploadOfNewest items upload)
Decides-of_newest items upload = Decides-like _
    (λ found. let it = found.2 in (it.0, it.1, it.2, it.3, it.5 ∙ ap Some it.4))
    (λ of.
    let note = Put of.0 of.1 upload of.2 of.3 in
    let told = newest_is_note of.0 items note of.4 in
    (note, told.0, (of.0, of.1, of.2, of.3, refl, of.4)))
    (Decides-any (names_upload items upload) (Names items upload) (Decides-names items upload) items)

-- ---- snapshots

snapshot_of : Stamped → ℕ → List ℕ → Record
snapshot_of of part payload = Snapshot of.stamp part of.parts of.bytes payload

-- these are payloads of the parts from this one on
abbrev HasParts : List Record → Stamped → ℕ → List (List ℕ) → Type 0
HasParts items of part [] = Unit {0}
HasParts items of part (payload ∷ more) = Among (Snapshot of.stamp part of.parts of.bytes payload) items × HasParts items of (part + 1) more

-- so many of them, with so many bytes together
abbrev CanHave : List Record → Stamped → ℕ → ℕ → ℕ → Type 0
CanHave items of part more left = (payloads : List (List ℕ)) × (length payloads ≡ more) × (sum_by length payloads ≡ left) × HasParts items of part payloads

-- a record that leaves so many bytes for the others
abbrev Leaves : Stamped → ℕ → ℕ → (ℕ → Type 0) → Record → Type 0
Leaves of part left Rest item = (payload : List ℕ) × (item ≡ Snapshot of.stamp part of.parts of.bytes payload) × (length payload ≤ left) × Rest (left - length payload)

leaves_at : (of : Stamped) (part left : ℕ) (rest : ℕ → Bool) (Rest : ℕ → Type 0) → ((n : ℕ) → Decides (rest n) (Rest n)) → (s i parts bytes : ℕ) (payload : List ℕ) (b : Bool)
    → Decides b ((((s ≡ of.stamp) × (i ≡ part)) × (parts ≡ of.parts)) × (bytes ≡ of.bytes)) → Decides (leaves (cond b (Some (length payload)) None) left rest) (Leaves of part left Rest (Snapshot s i parts bytes payload))
leaves_at of part left rest Rest each s i parts bytes payload true is =
    let h = is.0 refl in
    let a = h.0.0.0 in let b = h.0.0.1 in let c = h.0.1 in let d = h.1 in
    Decides-like _
    (λ it. (payload, cc, it.0, it.1))
    (λ it. let e = it.1 in let same : payload ≡ it.0 = cc in (subst (λ (p : List ℕ). length p ≤ left) (sym same) it.2, subst (λ (p : List ℕ). Rest (left - length p)) (sym same) it.3))
    (Decides-and _ _ (leb-true (length payload) left, le-leb (length payload) left) (each (left - length payload)))
leaves_at of part left rest Rest each s i parts bytes payload false is =
    never (λ it. let e = it.1 in false≢true (is.1 (((cc, cc), cc), cc)))

Decides-leaves : (of : Stamped) (part left : ℕ) (rest : ℕ → Bool) (Rest : ℕ → Type 0) → ((n : ℕ) → Decides (rest n) (Rest n)) → (item : Record) → Decides (leaves (snapshot_bytes of part item) left rest) (Leaves of part left Rest item)
Decides-leaves of part left rest Rest each (Snapshot s i parts bytes payload) =
    leaves_at of part left rest Rest each s i parts bytes payload _
    (Decides-and _ _ (Decides-and _ _ (Decides-and _ _ (Decides-eqb s of.stamp) (Decides-eqb i part)) (Decides-eqb parts of.parts)) (Decides-eqb bytes of.bytes))
Decides-leaves of part left rest Rest each item = never (λ it. let e = it.1 in cc)

Decides-can_have : (items : List Record) (of : Stamped) (part more left : ℕ) → Decides (can_have items of part more left) (CanHave items of part more left)
Decides-can_have items of part zero left = Decides-like _
    (λ e. ([], refl, sym e, tt))
    (λ it. none it.0 it.1 it.2)
    (Decides-eqb left 0)
  where
    none : (payloads : List (List ℕ)) → length payloads ≡ 0 → sum_by length payloads ≡ left → left ≡ 0
    none [] count whole = sym whole
    none (payload ∷ payloads) count whole = absurd (omega (arith, count))
Decides-can_have items of part (suc more) left = Decides-like _
    (λ found.
    let it = found.2 in
    let rest = it.3 in
    (it.0 ∷ rest.0, ap suc rest.1, omega (arith, rest.2, it.2, sum_by-cons length it.0 rest.0), (subst (λ r. Among r items) it.1 found.1, rest.3)))
    (λ it. first it.0 it.1 it.2 it.3)
    (Decides-any (λ item. leaves (snapshot_bytes of part item) left (can_have items of (part + 1) more)) (Leaves of part left (CanHave items of (part + 1) more))
    (Decides-leaves of part left (can_have items of (part + 1) more) (CanHave items of (part + 1) more) (Decides-can_have items of (part + 1) more)) items)
  where
    first : (payloads : List (List ℕ)) → length payloads ≡ suc more → sum_by length payloads ≡ left → HasParts items of part payloads → (item : Record) × Among item items × Leaves of part left (CanHave items of (part + 1) more) item
    first [] count whole has = absurd (omega (arith, count))
    first (payload ∷ payloads) count whole has =
        let sum = sum_by-cons length payload payloads in
        (Snapshot of.stamp part of.parts of.bytes payload, has.0, (payload, refl, omega (arith, whole, sum), (payloads, omega (arith, count), omega (arith, whole, sum), has.1)))

-- the parts of a complete snapshot, one by one
parts_each : (items : List Record) (of : Stamped) (part : ℕ) (payloads before after : List (List ℕ)) (payload : List ℕ) → HasParts items of part payloads → payloads ≡ before ++ payload ∷ after → Among (Snapshot of.stamp (part + length before) of.parts of.bytes payload) items
parts_each items of part [] [] after payload has is = cc
parts_each items of part [] (b ∷ before) after payload has is = cc
parts_each items of part (p ∷ payloads) [] after payload has is =
    let same : p ≡ payload = cc in
    subst (λ (n : ℕ). Among (Snapshot of.stamp n of.parts of.bytes payload) items) (let e : part ≡ part + 0 = omega arith in e) (subst (λ (q : List ℕ). Among (Snapshot of.stamp part of.parts of.bytes q) items) same has.0)
parts_each items of part (p ∷ payloads) (b ∷ before) after payload has is =
    let rest : payloads ≡ before ++ payload ∷ after = cc in
    subst (λ (n : ℕ). Among (Snapshot of.stamp n of.parts of.bytes payload) items) (let e : part + 1 + length before ≡ part + suc (length before) = omega arith in e) (parts_each items of (part + 1) payloads before after payload has.1 rest)

parts_all : (items : List Record) (stamp : ℕ) (it : IsComplete items stamp) (front rest : List (List ℕ)) → it.payloads ≡ front ++ rest → HasParts items (record { stamp = stamp; parts = it.parts; bytes = it.bytes }) (length front) rest
parts_all items stamp it front [] is = tt
parts_all items stamp it front (payload ∷ rest) is =
    let long : length it.payloads ≡ length front + suc (length rest) = ap length is ∙ length-append front (payload ∷ rest) in
    let below : length front < it.parts = omega (arith, it.count, long) in (
      among_from_contains items _ (it.each (length front) payload below front rest is refl),
      subst (λ (n : ℕ). HasParts items (record { stamp = stamp; parts = it.parts; bytes = it.bytes }) n rest) (length_push front payload) (parts_all items stamp it (front ++ payload ∷ []) rest (is ∙ sym (append_assoc front (payload ∷ []) rest))),
    )

-- the record is a part of a complete snapshot with this stamp
abbrev Completes : List Record → ℕ → Record → Type 0
Completes items stamp item = (part : ℕ) × (parts : ℕ) × (bytes : ℕ) × (payload : List ℕ) × (item ≡ Snapshot stamp part parts bytes payload) × (0 < parts) × CanHave items (record { stamp = stamp; parts = parts; bytes = bytes }) 0 parts bytes

Decides-completes : (items : List Record) (stamp : ℕ) (item : Record) → Decides (completes items stamp item) (Completes items stamp item)
Decides-completes items stamp (Snapshot s i parts bytes payload) = Decides-like _
    (λ h. (i, parts, bytes, payload, ap (λ n. Snapshot n i parts bytes payload) h.0.0, h.0.1, h.1))
    (λ it.
    let e = it.4 in
    let same_parts : it.1 ≡ parts = cc in
    let same_bytes : it.2 ≡ bytes = cc in
    let have = it.6 in
    ((cc, subst (λ n. 0 < n) same_parts it.5), subst (λ (m : ℕ). CanHave items (record { stamp = stamp; parts = parts; bytes = m }) 0 parts m) same_bytes (subst (λ (n : ℕ). CanHave items (record { stamp = stamp; parts = n; bytes = it.2 }) 0 n it.2) same_parts have)))
    (Decides-and _ _ (Decides-and _ _ (Decides-eqb s stamp) (Decides-ltb 0 parts)) (Decides-can_have items (record { stamp = stamp; parts = parts; bytes = bytes }) 0 parts bytes))
Decides-completes items stamp item = never (λ it. let e = it.4 in cc)

-- what a part of it tells of a complete snapshot, and what a complete one has
complete_from : (items : List Record) (stamp : ℕ) (item : Record) → Completes items stamp item → IsComplete items stamp
complete_from items stamp item (part, parts, bytes, payload, is, some, (payloads, count, whole, has)) = record {
  parts = parts;
  bytes = bytes;
  some = some;
  payloads = payloads;
  count = count;
  each = λ i one below before after at place. contains_from_among items _ (subst (λ (n : ℕ). Among (Snapshot stamp n parts bytes one) items) (let e : 0 + length before ≡ i = omega (arith, place) in e) (parts_each items (record { stamp = stamp; parts = parts; bytes = bytes }) 0 payloads before after one has at));
  whole = whole;
}

complete_to : (items : List Record) (stamp : ℕ) (it : IsComplete items stamp) → (item : Record) × Among item items × Completes items stamp item
complete_to items stamp it = with_first it.payloads refl
  where
    with_first : (payloads : List (List ℕ)) → it.payloads ≡ payloads → (item : Record) × Among item items × Completes items stamp item
    with_first [] is = let n : length it.payloads ≡ 0 = ap length is in let e = it.count in let some = it.some in absurd (omega arith)
    with_first (payload ∷ more) is =
        let all = parts_all items stamp it [] it.payloads refl in
        let has : HasParts items (record { stamp = stamp; parts = it.parts; bytes = it.bytes }) 0 (payload ∷ more) = subst (HasParts items (record { stamp = stamp; parts = it.parts; bytes = it.bytes }) 0) is all in
        (Snapshot stamp 0 it.parts it.bytes payload, has.0, (0, it.parts, it.bytes, payload, refl, it.some, (it.payloads, it.count, it.whole, all)))

Decides-complete : (items : List Record) (stamp : ℕ) → Decides (is_complete items stamp) (IsComplete items stamp)
Decides-complete items stamp = Decides-like _
    (λ found. complete_from items stamp found.0 found.2)
    (λ it. complete_to items stamp it)
    (Decides-any (completes items stamp) (Completes items stamp) (Decides-completes items stamp) items)

-- the record is of no complete snapshot with a greater stamp
abbrev NoNewer : List Record → ℕ → Record → Type 0
NoNewer items stamp item = (s i parts bytes : ℕ) (payload : List ℕ) → item ≡ Snapshot s i parts bytes payload → (s ≤ stamp) ⊎ (IsComplete items s → ⊥)

Decides-no_newer : (items : List Record) (stamp : ℕ) (item : Record) → Decides (is_no_newer items stamp item) (NoNewer items stamp item)
Decides-no_newer items stamp (Snapshot s i parts bytes payload) = Decides-like _
    (λ h t j ps bs p e. let same : s ≡ t = cc in subst (λ (n : ℕ). (n ≤ stamp) ⊎ (IsComplete items n → ⊥)) same h)
    (λ all. all s i parts bytes payload refl)
    (Decides-or _ _ (leb-true s stamp, le-leb s stamp) (Decides-not _ (Decides-complete items s)))
Decides-no_newer items stamp item = (λ e t j ps bs p is. cc, λ all. refl)

Decides-newest_snapshot : (items : List Record) (stamp : ℕ) → Decides (is_complete items stamp && list_all (is_no_newer items stamp) items) (IsNewestSnapshot items stamp)
Decides-newest_snapshot items stamp = Decides-like _
    (λ h. record {
      complete = h.0;
      newest_one = λ other it.
          let found = complete_to items other it in
          let c = found.2 in
          elim (h.1 found.0 found.1 other c.0 c.1 c.2 c.3 c.4) [
            | inl lower ↦ lower
            | inr none ↦ absurd (none it)
          ];
    })
    (λ newest. (
      newest.complete,
      λ item found s i parts bytes payload e. elim (cases_lt stamp s) [
        | inl above ↦ inr (λ it. let bound = newest.newest_one s it in absurd (omega arith))
        | inr lower ↦ inl lower
      ],
    ))
    (Decides-and _ _ (Decides-complete items stamp) (Decides-all (is_no_newer items stamp) (NoNewer items stamp) (Decides-no_newer items stamp) items))

-- ---- needed records

Decides-wanted : (uploads : List ℕ) (items : List Record) (item : Record) → Decides (is_wanted uploads items item) (IsWanted uploads items item)
Decides-wanted uploads items (Put name stamp upload parts bytes) = Decides-that (Put name stamp upload parts bytes) (newest name items)
Decides-wanted uploads items (Delete name stamp) = Decides-and _ _ (Decides-that (Delete name stamp) (newest name items)) (Decides-ltb 1 (count_by (λ item. is_some (note_stamp name item)) items))
Decides-wanted uploads items (Part upload part payload) = Decides-or _ _
    (Decides-like _ (λ found. contains_from_among uploads upload (subst (λ u. Among u uploads) found.2 found.1)) (λ has. (upload, among_from_contains uploads upload has, refl)) (Decides-any (λ u. u == upload) (λ u. u ≡ upload) (λ u. Decides-eqb u upload) uploads))
    (Decides-of_newest items upload)
Decides-wanted uploads items (Snapshot stamp part parts bytes payload) = Decides-newest_snapshot items stamp
Decides-wanted uploads items Head = never (λ e. e)
Decides-wanted uploads items Ready = never (λ e. e)
Decides-wanted uploads items (Cut target kept) = never (λ e. e)
Decides-wanted uploads items (Digest part parts payload) = never (λ e. e)

Decides-carrier : (sets : List ReadSet) (id : ℕ) → Decides (has_carrier sets id) (HasCarrier sets id)
Decides-carrier [] id = never (λ e. e)
Decides-carrier (set ∷ above) id = Decides-or _ _ (Decides-and _ _ (Decides-eqb set.id id) (Decides-ltb 0 set.carriers)) (Decides-carrier above id)

Decides-at_most : (target kept : ℕ) (item : Record) → Decides (cuts_at_most target kept item) (CutsAtMost target kept item)
Decides-at_most target kept (Cut t fewer) = Decides-like _
    (λ h. (fewer, h.1, ap (λ n. Cut n fewer) h.0))
    (λ it. let e = it.2 in let same : it.0 ≡ fewer = cc in (cc, subst (λ n. n ≤ kept) same it.1))
    (Decides-and _ _ (Decides-eqb t target) (leb-true fewer kept, le-leb fewer kept))
Decides-at_most target kept item = never (λ it. let e = it.2 in cc)

Decides-last_cut : (sets : List ReadSet) (after : List Placed) (item : Record) → Decides (is_last_cut sets after item) (IsLastCut sets after item)
Decides-last_cut sets after (Cut target kept) = Decides-like _
    (λ h. (target, kept, refl, h.0, λ later found it. h.1 (later, among_from_contains after later found, it)))
    (λ it.
    let e = it.2 in
    let same_target : it.0 ≡ target = cc in
    let same_kept : it.1 ≡ kept = cc in (
      subst (HasCarrier sets) same_target it.3,
      λ found. it.4 found.0 (contains_from_among after found.0 found.1) (subst (λ (n : ℕ). CutsAtMost it.0 n found.0.item) (sym same_kept) (subst (λ (t : ℕ). CutsAtMost t kept found.0.item) (sym same_target) found.2)),
    ))
    (Decides-and _ _ (Decides-carrier sets target) (Decides-not _ (Decides-any (λ (later : Placed). cuts_at_most target kept later.item) (λ (later : Placed). CutsAtMost target kept later.item) (λ later. Decides-at_most target kept later.item) after)))
Decides-last_cut sets after item = never (λ it. let e = it.2 in cc)

-- the record between these is needed
abbrev Needs : List ℕ → List ReadSet → List Record → Beside → Record → Type 0
Needs uploads sets items beside item =
    (IsWanted uploads items item × (((copy : Placed) × Among copy beside.before × (copy.item ≡ item)) → ⊥)) ⊎ IsLastCut sets beside.after item

Decides-needed : (uploads : List ℕ) (sets : List ReadSet) (items : List Record) (beside : Beside) (item : Record) → Decides (is_needed uploads sets items beside item) (Needs uploads sets items beside item)
Decides-needed uploads sets items beside item = Decides-or _ _
    (Decides-and _ _ (Decides-wanted uploads items item) (Decides-not _ (Decides-any (λ (copy : Placed). is_same copy.item item) (λ (copy : Placed). copy.item ≡ item) (λ copy. Decides-same copy.item item) beside.before)))
    (Decides-last_cut sets beside.after item)

-- these, the last of which comes first, and then those behind them
onto : List Placed → List Placed → List Placed
onto front [] = front
onto front (it ∷ more) = onto (it ∷ front) more

among_onto : (x : Placed) (front more : List Placed) → Among x (onto front more) → Among x front ⊎ Among x more
unfolding onto
among_onto x front [] found = inl found
among_onto x front (it ∷ more) found = elim (among_onto x (it ∷ front) more found) [
  | inl (inl here) ↦ inr (inl here)
  | inl (inr earlier) ↦ inl earlier
  | inr later ↦ inr (inr later)
]

onto_among : (x : Placed) (front more : List Placed) → Among x front ⊎ Among x more → Among x (onto front more)
unfolding onto
onto_among x front [] (inl earlier) = earlier
onto_among x front [] (inr later) = absurd later
onto_among x front (it ∷ more) (inl earlier) = onto_among x (it ∷ front) more (inl (inr earlier))
onto_among x front (it ∷ more) (inr (inl here)) = onto_among x (it ∷ front) more (inl (inl here))
onto_among x front (it ∷ more) (inr (inr later)) = onto_among x (it ∷ front) more (inr later)

module _ (uploads : List ℕ) (sets : List ReadSet) (items : List Record) where
  -- the record stands among these, behind those, and is needed there
  abbrev NeededIn : List Placed → List Placed → Placed → Type 0
  NeededIn front rest it = (before : List Placed) × (after : List Placed) × (rest ≡ before ++ it ∷ after) × Needs uploads sets items (record { before = onto front before; after = after }) it.item

  needed_in : (front rest : List Placed) (it : Placed) → Among it (needed_among uploads sets items front rest) → NeededIn front rest it
  unfolding onto
  needed_in front [] it found = absurd found
  needed_in front (x ∷ rest) it found =
      at_one (is_needed uploads sets items (record { before = front; after = rest }) x.item) refl found
      (λ later. let there = needed_in (x ∷ front) rest it later in (x ∷ there.0, there.1, ap (λ l. x ∷ l) there.2, there.3))
    where
      at_one : (b : Bool) → is_needed uploads sets items (record { before = front; after = rest }) x.item ≡ b → Among it (cond b (x ∷ needed_among uploads sets items (x ∷ front) rest) (needed_among uploads sets items (x ∷ front) rest)) → (Among it (needed_among uploads sets items (x ∷ front) rest) → NeededIn front (x ∷ rest) it) → NeededIn front (x ∷ rest) it
      at_one true is (inl here) later = ([], rest, ap (λ y. y ∷ rest) here, subst (λ (y : Placed). Needs uploads sets items (record { before = front; after = rest }) y.item) here ((Decides-needed uploads sets items (record { before = front; after = rest }) x.item).0 is))
      at_one true is (inr found) later = later found
      at_one false is found later = later found

  in_needed : (front rest : List Placed) (it : Placed) → NeededIn front rest it → Among it (needed_among uploads sets items front rest)
  unfolding onto
  in_needed front [] it ([], after, is, needs) = cc
  in_needed front [] it (x ∷ before, after, is, needs) = cc
  in_needed front (x ∷ rest) it ([], after, is, needs) =
      let here : x ≡ it = cc in
      let same : rest ≡ after = cc in
      let passes = (Decides-needed uploads sets items (record { before = front; after = rest }) x.item).1 (subst (λ (y : Placed). Needs uploads sets items (record { before = front; after = rest }) y.item) (sym here) (subst (λ (l : List Placed). Needs uploads sets items (record { before = front; after = l }) it.item) (sym same) needs)) in
      subst (λ (b : Bool). Among it (cond b (x ∷ needed_among uploads sets items (x ∷ front) rest) (needed_among uploads sets items (x ∷ front) rest))) (sym passes) (inl here)
  in_needed front (x ∷ rest) it (y ∷ before, after, is, needs) =
      let same : x ≡ y = cc in
      let more : rest ≡ before ++ it ∷ after = cc in
      at_one (is_needed uploads sets items (record { before = front; after = rest }) x.item) (in_needed (x ∷ front) rest it (before, after, more, subst (λ (z : Placed). Needs uploads sets items (record { before = onto (z ∷ front) before; after = after }) it.item) (sym same) needs))
    where
      at_one : (b : Bool) → Among it (needed_among uploads sets items (x ∷ front) rest) → Among it (cond b (x ∷ needed_among uploads sets items (x ∷ front) rest) (needed_among uploads sets items (x ∷ front) rest))
      at_one true found = inr found
      at_one false found = found

pub tests_are_need : TestsAreNeed
unfolding needed_of
tests_are_need k uploads sets it = (
  λ found.
      let there = needed_in uploads sets items [] records it (among_from_contains (needed_of k uploads sets) it found) in
      record {
        before = there.0;
        after = there.1;
        valid = there.2;
        why = elim there.3 [
          | inl wanted ↦ inl (wanted.0, λ copy earlier same. wanted.1 (copy, onto_among copy [] there.0 (inr (among_from_contains there.0 copy earlier)), same))
          | inr cut ↦ inr cut
        ];
      },
  λ needed.
      contains_from_among (needed_of k uploads sets) it (in_needed uploads sets items [] records it (
        needed.before,
        needed.after,
        needed.valid,
        elim needed.why [
          | inl wanted ↦ inl (
            wanted.0,
            λ found. elim (among_onto found.0 [] needed.before found.1) [
              | inl none ↦ none
              | inr earlier ↦ wanted.1 found.0 (contains_from_among needed.before found.0 earlier) found.2
            ],
          )
          | inr cut ↦ inr cut
        ],
      )),
)
  where
    records : List Placed
    records = records_of k sets

    items : List Record
    items = items_of (records_of k sets)
