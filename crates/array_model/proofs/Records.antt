-- Records among others: which cuts keep the least, which note is the newest, which part comes first.
use Rattle.std.proofs.Common.{◌≡◌, slice_index_or, ℕ, ◌<◌, ◌≤◌, min, true, false, ◌==◌, List, [], ◌∷◌, ◌++◌, length, Option, Some, None, Contains, ◌⊎◌, inl, inr, refl, sym, ap, ◌∙◌, subst, zero, suc, ◌&&◌, nat_lt, ltb-true, ltb-false, arith, cond}
use Rattle.std.specs.List.{AllByRecursion}
use Rattle.std.proofs.Math.Decide.{ℕ_discrete}
use Rattle.std.proofs.lemmas.Bool.{eqb-true, cases_lt, and_parts, eq-eqb}
use Rattle.array_model.specs.Record.{Record, Record-discrete, Part, Cut, note_stamp, payload_of, kept_of}
use Rattle.array_model.specs.Sets.{lesser, least_kept}
use Rattle.array_model.specs.SetLaws.{IsGreatestNote, NewestIsGreatest, NoNewestNoNote}
use Rattle.array_model.specs.Map.{newest, later_note}

-- one of these
abbrev pub Among : {X : Type 0} → X → List X → Type 0
Among x [] = ⊥
Among x (y ∷ ys) = (y ≡ x) ⊎ Among x ys

same_bytes : (one other : List ℕ) → Dec (one ≡ other)
same_bytes [] [] = yes refl
same_bytes [] (y ∷ other) = no (λ e. cc)
same_bytes (x ∷ one) [] = no (λ e. cc)
same_bytes (x ∷ one) (y ∷ other) = elim (ℕ_discrete x y) [
  | yes first ↦ elim (same_bytes one other) [
    | yes rest ↦ yes (cc)
    | no differ ↦ no (λ e. differ (cc))
  ]
  | no differ ↦ no (λ e. differ (cc))
]

-- Whether a record is a copy of another can be told.
pub same_record : (one other : Record) → Dec (one ≡ other)
same_record = Record-discrete ℕ_discrete same_bytes

at_place : {X : Type 0} (y : X) (ys : List X) (x : X) (later : Contains ys x → Among x ys) (i : ℕ) → i < suc (length ys) → slice_index_or (y ∷ ys) i x ≡ x → Among x (y ∷ ys)
at_place y ys x later zero below is = inl is
at_place y ys x later (suc i) below is = inr (later (i, omega arith, is))

pub among_from_contains : {X : Type 0} (xs : List X) (x : X) → Contains xs x → Among x xs
among_from_contains [] x found = absurd (omega (arith, found.1))
among_from_contains (y ∷ ys) x found = at_place y ys x (among_from_contains ys x) found.0 found.1 found.2

pub contains_from_among : {X : Type 0} (xs : List X) (x : X) → Among x xs → Contains xs x
contains_from_among [] x found = absurd found
contains_from_among (y ∷ ys) x (inl is) = (zero, omega arith, is)
contains_from_among (y ∷ ys) x (inr later) = let there = contains_from_among ys x later in (suc there.0, omega (arith, there.1), there.2)

pub among_joined : {X : Type 0} (first rest : List X) (x : X) → Among x (first ++ rest) → Among x first ⊎ Among x rest
among_joined [] rest x found = inr found
among_joined (y ∷ first) rest x (inl is) = inl (inl is)
among_joined (y ∷ first) rest x (inr later) = elim (among_joined first rest x later) [
  | inl front ↦ inl (inr front)
  | inr back ↦ inr back
]

pub among_first : {X : Type 0} (first rest : List X) (x : X) → Among x first → Among x (first ++ rest)
among_first [] rest x found = absurd found
among_first (y ∷ first) rest x (inl is) = inl is
among_first (y ∷ first) rest x (inr later) = inr (among_first first rest x later)

pub among_rest : {X : Type 0} (first rest : List X) (x : X) → Among x rest → Among x (first ++ rest)
among_rest [] rest x found = found
among_rest (y ∷ first) rest x found = inr (among_rest first rest x found)

-- What holds of all holds of each.
pub all_among : {X : Type 0} (P : X → Type 0) (xs : List X) (x : X) → AllByRecursion P xs → Among x xs → P x
all_among P [] x all found = absurd found
all_among P (y ∷ xs) x all (inl is) = subst P is all.0
all_among P (y ∷ xs) x all (inr later) = all_among P xs x all.1 later

-- A cut that keeps so many of a target
pub kept_is_cut : (target kept : ℕ) (item : Record) → kept_of target item ≡ Some kept → item ≡ Cut target kept
kept_is_cut target kept (Cut other n) is =
    elim (other == target) as (λ b. other == target ≡ b → cond b (Some n) None ≡ Some kept → Cut other n ≡ Cut target kept) [
      | true ↦ λ same e. let same' = eqb-true other target same in cc
      | false ↦ λ differs e. cc
    ] refl is
kept_is_cut target kept item is = cc

-- and what it keeps
pub cut_keeps : (target kept : ℕ) → kept_of target (Cut target kept) ≡ Some kept
cut_keeps target kept = ap (λ b. cond b (Some kept) None) (eq-eqb target target refl)

-- the lesser of two numbers is no more than the first,
lesser_first : (n : ℕ) (other : Option ℕ) → (least : ℕ) × (lesser (Some n) other ≡ Some least) × (least ≤ n)
lesser_first n None = (n, refl, omega arith)
lesser_first n (Some m) = (min n m, refl, omega arith)

-- no more than the second,
lesser_second : (one : Option ℕ) (m : ℕ) → (least : ℕ) × (lesser one (Some m) ≡ Some least) × (least ≤ m)
lesser_second None m = (m, refl, omega arith)
lesser_second (Some n) m = (min n m, refl, omega arith)

-- and one of the two.
lesser_is_one : (one other : Option ℕ) (least : ℕ) → lesser one other ≡ Some least → (one ≡ Some least) ⊎ (other ≡ Some least)
lesser_is_one None other least is = inr is
lesser_is_one (Some n) None least is = inl is
lesser_is_one (Some n) (Some m) least is = elim (cases_lt n m) [
  | inl first ↦ let same : min n m ≡ n = omega arith in inl (cc)
  | inr second ↦ let same : min n m ≡ m = omega arith in inr (cc)
]

-- A cut among these keeps no fewer than the least.
pub least_at_most : (target kept : ℕ) (items : List Record) → Among (Cut target kept) items → (least : ℕ) × (least_kept target items ≡ Some least) × (least ≤ kept)
least_at_most target kept [] found = absurd found
least_at_most target kept (item ∷ items) (inl is) =
    let here : kept_of target item ≡ Some kept = ap (kept_of target) is ∙ cut_keeps target kept in
    let found = lesser_first kept (least_kept target items) in
    (found.0, ap (λ o. lesser o (least_kept target items)) here ∙ found.1, found.2)
least_at_most target kept (item ∷ items) (inr later) =
    let rest = least_at_most target kept items later in
    let found = lesser_second (kept_of target item) rest.0 in
    let below = rest.2 in
    let below' = found.2 in
    (found.0, ap (lesser (kept_of target item)) rest.1 ∙ found.1, omega arith)

-- The least that is kept is kept by a cut.
pub least_is_there : (target least : ℕ) (items : List Record) → least_kept target items ≡ Some least → Among (Cut target least) items
least_is_there target least [] is = cc
least_is_there target least (item ∷ items) is = elim (lesser_is_one (kept_of target item) (least_kept target items) least is) [
  | inl here ↦ inl (kept_is_cut target least item here)
  | inr later ↦ inr (least_is_there target least items later)
]

-- A payload of a part of an upload is that of the part.
pub payload_is_part : (upload part : ℕ) (payload : List ℕ) (item : Record) → payload_of upload part item ≡ Some payload → item ≡ Part upload part payload
payload_is_part upload part payload (Part u i bytes) is =
    elim ((u == upload) && (i == part)) as (λ b. ((u == upload) && (i == part)) ≡ b → cond b (Some bytes) None ≡ Some payload → Part u i bytes ≡ Part upload part payload) [
      | true ↦ λ same e.
          let both = and_parts (u == upload) (i == part) same in
          let one = eqb-true u upload both.0 in
          let other = eqb-true i part both.1 in
          cc
      | false ↦ λ differs e. cc
    ] refl is
payload_is_part upload part payload item is = cc

-- a note of a name
abbrev pub IsNoteOf : List ℕ → Record → Type 0
IsNoteOf name item = (stamp : ℕ) × (note_stamp name item ≡ Some stamp)

-- no note of this name is among them, or this one is, and none has a greater stamp
pub data NewestIs (name : List ℕ) (items : List Record) : Option Record → Type 0 where
  no_note : ((item : Record) → Among item items → note_stamp name item ≡ None) → NewestIs name items None
  newest_is : (note : Record) (stamp : ℕ) → Among note items → note_stamp name note ≡ Some stamp → ((item : Record) (other : ℕ) → Among item items → note_stamp name item ≡ Some other → other ≤ stamp) → NewestIs name items (Some note)

module _ (name : List ℕ) (item : Record) (items : List Record) where
  -- A record that is no note leaves the newest,
  newest_past : {below : Option Record} → note_stamp name item ≡ None → NewestIs name items below → NewestIs name (item ∷ items) below
  newest_past none (no_note others) = no_note (λ other found. elim found [
    | inl is ↦ ap (note_stamp name) (sym is) ∙ none
    | inr later ↦ others other later
  ])
  newest_past none (newest_is note stamp there at bound) = newest_is note stamp (inr there) at (λ other below found is. elim found [
    | inl same ↦ let e = ap (note_stamp name) same in absurd (cc)
    | inr later ↦ bound other below later is
  ])

  -- and a note in front is the newest where it has the greatest stamp.
  newest_here : (stamp : ℕ) → note_stamp name item ≡ Some stamp → ((other : Record) (below : ℕ) → Among other items → note_stamp name other ≡ Some below → below ≤ stamp) → NewestIs name (item ∷ items) (Some item)
  newest_here stamp at bound = newest_is item stamp (inl refl) at (λ other below found is. elim found [
    | inl same ↦ let e = ap (note_stamp name) same in let one : below ≡ stamp = cc in omega arith
    | inr later ↦ bound other below later is
  ])

  newest_step : (at : Option ℕ) → note_stamp name item ≡ at → (below : Option Record) → NewestIs name items below → NewestIs name (item ∷ items) (later_note name item below)
  newest_step None is None told = rw is (newest_past is told)
  newest_step None is (Some note) (newest_is kept stamp there at bound) = rw (is, at) (newest_past is (newest_is kept stamp there at bound))
  newest_step (Some stamp) is None (no_note others) = rw is (newest_here stamp is (λ other below found at. let none = others other found in absurd (cc)))
  newest_step (Some stamp) is (Some note) (newest_is kept below there at bound) = rw (is, at) (elim (nat_lt below stamp) as (λ b. nat_lt below stamp ≡ b → NewestIs name (item ∷ items) (cond b (Some item) (Some kept))) [
    | true ↦ λ less. newest_here stamp is (λ other its found e. let b = bound other its found e in let l = ltb-true below stamp less in omega arith)
    | false ↦ λ no_less. newest_is kept below (inr there) at (λ other its found e. elim found [
      | inl same ↦ let s = ap (note_stamp name) same in let one : its ≡ stamp = cc in let l = ltb-false below stamp no_less in omega arith
      | inr later ↦ bound other its later e
    ])
  ] refl)

pub the_newest : (name : List ℕ) (items : List Record) → NewestIs name items (newest name items)
the_newest name [] = no_note (λ item found. absurd found)
the_newest name (item ∷ items) = newest_step name item items (note_stamp name item) refl (newest name items) (the_newest name items)

-- The newest note of a name is a note of it, and one of the records.
newest_told : (name : List ℕ) (items : List Record) (note : Record) (found : Option Record) → found ≡ Some note → NewestIs name items found → Among note items × ((stamp : ℕ) × (note_stamp name note ≡ Some stamp))
newest_told name items note None is told = absurd (cc)
newest_told name items note (Some other) is (newest_is kept stamp there at bound) =
    let same : kept ≡ note = cc in
    (subst (λ r. Among r items) same there, (stamp, ap (note_stamp name) (sym same) ∙ at))

pub newest_is_note : (name : List ℕ) (items : List Record) (note : Record) → newest name items ≡ Some note → Among note items × ((stamp : ℕ) × (note_stamp name note ≡ Some stamp))
newest_is_note name items note is = newest_told name items note (newest name items) is (the_newest name items)

-- Where no note of a name is the newest, there is none.
newest_none : (name : List ℕ) (items : List Record) (found : Option Record) → found ≡ None → NewestIs name items found → (item : Record) → Among item items → note_stamp name item ≡ None
newest_none name items None is (no_note others) = others
newest_none name items (Some note) is told = λ item found. absurd (cc)

pub no_newest : (name : List ℕ) (items : List Record) → newest name items ≡ None → (item : Record) → Among item items → note_stamp name item ≡ None
no_newest name items is = newest_none name items (newest name items) is (the_newest name items)

pub no_newest_no_note : NoNewestNoNote
no_newest_no_note name items item is found = no_newest name items is item (among_from_contains items item found)

-- A note in front of one that is the newest, or in front of none.
greatest_here : (name : List ℕ) (item : Record) (items : List Record) (stamp : ℕ) → note_stamp name item ≡ Some stamp → ((other : Record) (its : ℕ) → Among other items → note_stamp name other ≡ Some its → its < stamp) → (note : Record) → item ≡ note → IsGreatestNote name (item ∷ items) note
greatest_here name item items stamp at bound note same = record {
  before = [];
  after = items;
  place = ap (λ r. r ∷ items) same;
  stamp = stamp;
  is = ap (note_stamp name) (sym same) ∙ at;
  earlier = λ other its found is. absurd (omega (arith, found.1));
  later = λ other its found is. bound other its (among_from_contains items other found) is;
}

greatest_past : (name : List ℕ) (item : Record) (items : List Record) (note : Record) (it : IsGreatestNote name items note) → ((its : ℕ) → note_stamp name item ≡ Some its → its ≤ it.stamp) → IsGreatestNote name (item ∷ items) note
greatest_past name item items note it bound = record {
  before = item ∷ it.before;
  after = it.after;
  place = ap (λ r. item ∷ r) it.place;
  stamp = it.stamp;
  is = it.is;
  earlier = λ other its found is. elim (among_from_contains (item ∷ it.before) other found) [
    | inl same ↦ bound its (ap (note_stamp name) same ∙ is)
    | inr later ↦ it.earlier other its (contains_from_among it.before other later) is
  ];
  later = it.later;
}

module _ (name : List ℕ) (item : Record) (items : List Record) (note : Record) (again : newest name items ≡ Some note → IsGreatestNote name items note) where
  greatest_step : (at : Option ℕ) → note_stamp name item ≡ at → (below : Option Record) → newest name items ≡ below → NewestIs name items below → later_note name item below ≡ Some note → IsGreatestNote name (item ∷ items) note
  greatest_step None is None none told picks = let e = rw is at picks in absurd (cc)
  greatest_step None is (Some b) was (newest_is kept stamp there at bound) picks =
      let e : Some kept ≡ Some note = rw (is, at) at picks in
      greatest_past name item items note (again (was ∙ e)) (λ its has. absurd (cc))
  greatest_step (Some stamp) is None none told picks =
      let e : Some item ≡ Some note = rw is at picks in
      let same : item ≡ note = cc in
      greatest_here name item items stamp is (λ other its found has. let absent = no_newest name items none other found in absurd (cc)) note same
  greatest_step (Some stamp) is (Some b) was (newest_is kept below there at bound) picks =
      elim (nat_lt below stamp) as (λ b. nat_lt below stamp ≡ b → cond b (Some item) (Some kept) ≡ Some note → IsGreatestNote name (item ∷ items) note) [
        | true ↦ λ less e.
            let same : item ≡ note = cc in
            let l = ltb-true below stamp less in
            greatest_here name item items stamp is (λ other its found has. let b = bound other its found has in omega arith) note same
        | false ↦ λ no_less e.
            let it = again (was ∙ e) in
            let same : kept ≡ note = cc in
            let at_note = ap (note_stamp name) same in
            let its_is = it.is in
            let equal : it.stamp ≡ below = cc in
            let l = ltb-false below stamp no_less in
            greatest_past name item items note it (λ its has. let own : its ≡ stamp = cc in omega arith)
      ] refl (rw (is, at) at picks)

pub newest_is_greatest : NewestIsGreatest
newest_is_greatest name [] note is = absurd (cc)
newest_is_greatest name (item ∷ items) note is = greatest_step name item items note (newest_is_greatest name items note) (note_stamp name item) refl (newest name items) refl (the_newest name items) is

-- No note of the name has a greater stamp than the newest.
bound_told : (name : List ℕ) (items : List Record) (note : Record) (stamp : ℕ) → note_stamp name note ≡ Some stamp → (found : Option Record) → found ≡ Some note → NewestIs name items found → (item : Record) (its : ℕ) → Among item items → note_stamp name item ≡ Some its → its ≤ stamp
bound_told name items note stamp at None is told item its found has = absurd (cc)
bound_told name items note stamp at (Some other) is (newest_is kept own there at' bound) item its found has =
    let same : kept ≡ note = cc in
    let own_at = ap (note_stamp name) same in
    let equal : own ≡ stamp = cc in
    let b = bound item its found has in
    omega arith

pub newest_bound : (name : List ℕ) (items : List Record) (note : Record) (stamp : ℕ) → newest name items ≡ Some note → note_stamp name note ≡ Some stamp → (item : Record) (its : ℕ) → Among item items → note_stamp name item ≡ Some its → its ≤ stamp
newest_bound name items note stamp is at = bound_told name items note stamp at (newest name items) is (the_newest name items)
