-- Of a list of records without some that count for nothing: the newest notes, objects and snapshots are what they were.
use Rattle.std.proofs.Common.{◌≡◌, ℕ, ◌+◌, ◌<◌, ◌≤◌, Bool, true, false, cond, List, [], ◌∷◌, Option, Some, None, is_some, count_by, Decides, ◌⊎◌, inl, inr, refl, sym, ap, ◌∙◌, subst, bytes_eq, arith}
use Rattle.std.proofs.lemmas.Bool.{cases_lt}
use Rattle.std.proofs.lemmas.Slice.Eq.{bytes_eq-Decides}
use Rattle.array_model.specs.Record.{Record, Part, Put, Delete, note_stamp}
use Rattle.array_model.specs.Map.{newest, said_by, value_of, part_of}
use Rattle.array_model.specs.Need.{IsWanted}
use Rattle.array_model.proofs.Records.{Among, NewestIs, no_note, newest_is, the_newest, newest_is_note, no_newest}
use Rattle.array_model.proofs.Objects.{said_same}
use Rattle.array_model.proofs.Thinned.{counted}

abbrev pub is_note : List ℕ → Record → Bool
is_note name item = is_some (note_stamp name item)

-- The name of a note is its own.
named : (b : Bool) (own name : List ℕ) (stamp other : ℕ) → Decides b (own ≡ name) → cond b (Some stamp) None ≡ Some other → own ≡ name
named true own name stamp other is e = is.0 refl
named false own name stamp other is e = absurd (cc)

pub put_named : (name own : List ℕ) (stamp upload parts bytes other : ℕ) → note_stamp name (Put own stamp upload parts bytes) ≡ Some other → own ≡ name
put_named name own stamp upload parts bytes other is = named (bytes_eq own name) own name stamp other (bytes_eq-Decides own name) is

pub delete_named : (name own : List ℕ) (stamp other : ℕ) → note_stamp name (Delete own stamp) ≡ Some other → own ≡ name
delete_named name own stamp other is = named (bytes_eq own name) own name stamp other (bytes_eq-Decides own name) is

-- There is but one of a kind of which there are fewer than two.
counted_one : {X : Type 0} (test : X → Bool) (x y : X) (xs : List X) → y ≡ x → test x ≡ true → count_by test (y ∷ xs) ≡ 1 + count_by test xs
counted_one test x y xs same is = counted test y xs ∙ ap (λ b. cond b 1 0 + count_by test xs) (ap test same ∙ is)

none_of_none : {X : Type 0} (test : X → Bool) (xs : List X) (x : X) → count_by test xs ≡ 0 → Among x xs → test x ≡ true → ⊥
none_of_none test [] x none found is = found
none_of_none test (y ∷ xs) x none (inl same) is = let e = counted_one test x y xs same is in omega arith
none_of_none test (y ∷ xs) x none (inr later) is = let e = counted test y xs in none_of_none test xs x (omega arith) later is

only_one : {X : Type 0} (test : X → Bool) (xs : List X) (one other : X) → count_by test xs ≤ 1 → Among one xs → Among other xs → test one ≡ true → test other ≡ true → one ≡ other
only_one test [] one other few found also is as_well = absurd found
only_one test (y ∷ xs) one other few (inl here) (inl there) is as_well = sym here ∙ there
only_one test (y ∷ xs) one other few (inl here) (inr later) is as_well = let e = counted_one test one y xs here is in absurd (none_of_none test xs other (omega arith) later as_well)
only_one test (y ∷ xs) one other few (inr later) (inl here) is as_well = let e = counted_one test other y xs here as_well in absurd (none_of_none test xs one (omega arith) later is)
only_one test (y ∷ xs) one other few (inr found) (inr also) is as_well = let e = counted test y xs in only_one test xs one other (omega arith) found also is as_well

-- What is to be known of two lists of records, so that the second says what the first said: it has none that the first
-- hasn't, and of what the first wants it has a copy.
pub record KeepsWanted (uploads : List ℕ) (old new : List Record) : Type 0 where
  pub no_more : (item : Record) → Among item new → Among item old
  pub fewer : (test : Record → Bool) → count_by test new ≤ count_by test old
  pub wanted : (item : Record) → IsWanted uploads old item → Among item old → Among item new
  pub parts : (upload part : ℕ) → ((payload : List ℕ) → IsWanted uploads old (Part upload part payload)) → part_of upload part new ≡ part_of upload part old
  pub one : (name : List ℕ) (stamp : ℕ) (one other : Record) → Among one old → Among other old → note_stamp name one ≡ Some stamp → note_stamp name other ≡ Some stamp → one ≡ other

noted : (name : List ℕ) (item : Record) (stamp : ℕ) → note_stamp name item ≡ Some stamp → is_note name item ≡ true
noted name item stamp is = ap is_some is

module _ (uploads : List ℕ) (old new : List Record) (keeps : KeepsWanted uploads old new) (name : List ℕ) where
  -- The newest note, where it is wanted, stays the newest.
  wanted_newest : (note : Record) → IsWanted uploads old note → (before : Option Record) → before ≡ Some note → NewestIs name old before → (after : Option Record) → NewestIs name new after → after ≡ Some note
  wanted_newest note wanted None is told after as_well = cc
  wanted_newest note wanted (Some found) is (newest_is kept stamp there at bound) None (no_note none) =
      let same : kept ≡ note = cc in
      let absent = none note (keeps.wanted note wanted (subst (λ r. Among r old) same there)) in
      let at' = ap (note_stamp name) same in
      cc
  wanted_newest note wanted (Some found) is (newest_is kept stamp there at bound) (Some last) (newest_is other its there' at' bound') =
      let same : kept ≡ note = cc in
      let there_note : Among note old = subst (λ r. Among r old) same there in
      let at_note : note_stamp name note ≡ Some stamp = ap (note_stamp name) (sym same) ∙ at in
      let low = bound' note stamp (keeps.wanted note wanted there_note) at_note in
      let high = bound other its (keeps.no_more other there') at' in
      let equal : its ≡ stamp = omega arith in
      ap Some (keeps.one name stamp other note (keeps.no_more other there') there_note (at' ∙ ap Some equal) at_note)

  -- the only note of its name, a delete
  abbrev pub IsLoneDelete : Record → Type 0
  IsLoneDelete note = ((own : List ℕ) × (stamp : ℕ) × (note ≡ Delete own stamp)) × (count_by (is_note name) old ≤ 1)

  -- The newest note stays the newest, or is a delete with no other note of its name.
  newest_note : (note : Record) → newest name old ≡ Some note → (newest name new ≡ Some note) ⊎ IsLoneDelete note
  newest_note (Put own stamp upload parts bytes) was =
      let told = newest_is_note name old (Put own stamp upload parts bytes) was in
      let mine = put_named name own stamp upload parts bytes told.1.0 told.1.1 in
      inl (wanted_newest (Put own stamp upload parts bytes) (ap (λ n. newest n old) mine ∙ was) (newest name old) was (the_newest name old) (newest name new) (the_newest name new))
  newest_note (Delete own stamp) was =
      let told = newest_is_note name old (Delete own stamp) was in
      let mine = delete_named name own stamp told.1.0 told.1.1 in
      elim (cases_lt 1 (count_by (is_note name) old)) [
        | inl others ↦ inl (wanted_newest (Delete own stamp) (ap (λ n. newest n old) mine ∙ was, subst (λ n. 1 < count_by (is_note n) old) (sym mine) others) (newest name old) was (the_newest name old) (newest name new) (the_newest name new))
        | inr lone ↦ inr ((own, stamp, refl), lone)
      ]
  newest_note note was = let told = newest_is_note name old note was in let e = told.1.1 in absurd (cc)

  -- A newest note was the newest.
  pub newest_was : (note : Record) → newest name new ≡ Some note → newest name old ≡ Some note
  newest_was note is = before (newest name old) refl
    where
      before : (found : Option Record) → newest name old ≡ found → newest name old ≡ Some note
      before None none =
          let told = newest_is_note name new note is in
          let absent = no_newest name old none note (keeps.no_more note told.0) in
          let there = told.1.1 in
          absurd (cc)
      before (Some other) was = elim (newest_note other was) [
        | inl stays ↦ was ∙ sym stays ∙ is
        | inr lone ↦
            let told = newest_is_note name new note is in
            let told' = newest_is_note name old other was in
            was ∙ ap Some (only_one (is_note name) old other note lone.1 told'.0 (keeps.no_more note told.0) (noted name other told'.1.0 told'.1.1) (noted name note told.1.0 told.1.1))
      ]

  -- The newest put note of the name bears the name.
  own_newest : (own : List ℕ) (stamp upload parts bytes : ℕ) → newest name old ≡ Some (Put own stamp upload parts bytes) → newest own old ≡ Some (Put own stamp upload parts bytes)
  own_newest own stamp upload parts bytes was =
      let told = newest_is_note name old (Put own stamp upload parts bytes) was in
      ap (λ n. newest n old) (put_named name own stamp upload parts bytes told.1.0 told.1.1) ∙ was

  lone_says_nothing : (note : Record) → IsLoneDelete note → said_by old (Some note) ≡ None
  lone_says_nothing note lone = ap (λ n. said_by old (Some n)) lone.0.2

  -- So the name stands for what it stood for.
  pub value_stays : value_of new name ≡ value_of old name
  value_stays = after (newest name new) refl (newest name old) refl
    where
      after : (last : Option Record) → newest name new ≡ last → (first : Option Record) → newest name old ≡ first → value_of new name ≡ value_of old name
      after (Some note) is first first_is =
          let was = newest_was note is in
          ap (said_by new) is ∙ said_same old new note (λ own stamp upload parts bytes is' part. keeps.parts upload part (λ payload. inr (own, stamp, parts, bytes, own_newest own stamp upload parts bytes (was ∙ ap Some is')))) ∙ sym (ap (said_by old) was)
      after None is None none = ap (said_by new) is ∙ sym (ap (said_by old) none)
      after None is (Some other) was = elim (newest_note other was) [
        | inl stays ↦ absurd (cc)
        | inr lone ↦ ap (said_by new) is ∙ sym (lone_says_nothing other lone) ∙ sym (ap (said_by old) was)
      ]
