-- The newest note of a name, with one record more.
use Rattle.std.proofs.Common.{◌≡◌, ℕ, ◌<◌, ◌≤◌, Bool, true, false, cond, List, [], ◌∷◌, ◌++◌, Option, Some, None, is_some, inl, inr, le-ltb, refl, sym, ap, ◌∙◌, arith}
use Rattle.std.proofs.lemmas.Bool.{cases_lt, lt-ltb, ltb-true}
use Rattle.array_model.specs.Record.{Record, note_stamp}
use Rattle.array_model.specs.Map.{newest, later_note, is_less}
use Rattle.array_model.proofs.Records.{Among, newest_is_note, no_newest, newest_bound}
use Rattle.array_model.proofs.Behind.{newest_behind, newest_before}
use Rattle.store_core.specs.Said.{stamp_read}

-- the newest note, and behind it a record: the record, where it is a note of the name and its stamp isn't the lesser
abbrev pub kept : List ℕ → Option Record → Record → Option Record
kept name old item = cond (is_some (note_stamp name item)) (cond (is_less (note_stamp name item) (stamp_read name old)) old (Some item)) old

same : {X : Type 0} (x y : X) → Some x ≡ Some y → x ≡ y
same x y e = cc

lesser : (a b : ℕ) → a < b → is_less (Some a) (Some b) ≡ true
lesser a b l = lt-ltb a b l

not_lesser : (a b : ℕ) → b ≤ a → is_less (Some a) (Some b) ≡ false
not_lesser a b l = le-ltb a b l

module _ (name : List ℕ) (item : Record) (t : ℕ) (is : note_stamp name item ≡ Some t) where
  alone : newest name (item ∷ []) ≡ Some item
  alone = ap (λ s. cond (is_some s) (Some item) None) is

  last : (items : List Record) → ((other : Record) (its : ℕ) → Among other items → note_stamp name other ≡ Some its → its ≤ t) → newest name (items ++ item ∷ []) ≡ Some item
  last items bound = newest_behind name items (item ∷ []) item t alone is bound

  last_alone : (items : List Record) → newest name items ≡ None → newest name (items ++ item ∷ []) ≡ Some item
  last_alone items none = last items (λ other its among has. let no : None ≡ Some its = sym (no_newest name items none other among) ∙ has in absurd cc)

  last_newest : (items : List Record) (n : Record) (m : ℕ) → newest name items ≡ Some n → note_stamp name n ≡ Some m → m ≤ t → newest name (items ++ item ∷ []) ≡ Some item
  last_newest items n m e at l = last items (λ other its among has. omega (arith, l, newest_bound name items n m e at other its among has))

  abbrev Stays : List Record → Type 0
  Stays items = (n : Record) (m : ℕ) → newest name items ≡ Some n → note_stamp name n ≡ Some m → t < m → newest name (items ++ item ∷ []) ≡ Some n

  stays_behind : (x : Record) (xs : List Record) → Stays xs → Stays (x ∷ xs)
  stays_behind x xs before n m e at l = at_one (newest name xs) refl
    where
      -- this record comes first, and is the newest
      is_first : (later : Record) (s : ℕ) → newest name (xs ++ item ∷ []) ≡ Some later → note_stamp name later ≡ Some s → s < m → x ≡ n → newest name ((x ∷ xs) ++ item ∷ []) ≡ Some n
      is_first later s rest has less first =
          ap (later_note name x) rest
          ∙ ap (λ b. cond b (Some x) (Some later)) (ap (λ o. is_less o (note_stamp name x)) has ∙ ap (is_less (Some s)) (ap (note_stamp name) first ∙ at) ∙ lesser s m less)
          ∙ ap (λ (r : Record). Some r) first

      from_none : (o : Option ℕ) → cond (is_some o) (Some x) None ≡ Some n → x ≡ n
      from_none None e' = absurd cc
      from_none (Some u) e' = same x n e'

      by_test : (n' : Record) (m' : ℕ) → newest name xs ≡ Some n' → note_stamp name n' ≡ Some m' → (b : Bool) → is_less (note_stamp name n') (note_stamp name x) ≡ b → cond b (Some x) (Some n') ≡ Some n → newest name ((x ∷ xs) ++ item ∷ []) ≡ Some n
      by_test n' m' some has true test e' =
          let first = same x n e' in
          let less : is_less (Some m') (Some m) ≡ true = ap (λ o. is_less o (Some m)) (sym has) ∙ ap (is_less (note_stamp name n')) (sym at ∙ ap (note_stamp name) (sym first)) ∙ test in
          let below = ltb-true m' m less in
          elim (cases_lt t m') [
            | inl l' ↦ is_first n' m' (before n' m' some has l') has below first
            | inr l' ↦ is_first item t (last_newest xs n' m' some has l') is l first
          ]
      by_test n' m' some has false test e' =
          let other = same n' n e' in
          ap (later_note name x) (before n' m some (ap (note_stamp name) other ∙ at) l) ∙ ap (λ b. cond b (Some x) (Some n')) test ∙ e'

      at_one : (o : Option Record) → newest name xs ≡ o → newest name ((x ∷ xs) ++ item ∷ []) ≡ Some n
      at_one None none = is_first item t (last_alone xs none) is l (from_none (note_stamp name x) (sym (ap (later_note name x) none) ∙ e))
      at_one (Some n') some =
          let note = newest_is_note name xs n' some in
          by_test n' note.1.0 some note.1.1 _ refl (sym (ap (later_note name x) some) ∙ e)

  before : (items : List Record) → Stays items
  before [] n m e at l = absurd cc
  before (x ∷ xs) n m e at l = stays_behind x xs (before xs) n m e at l

pub newest_added : (name : List ℕ) (items : List Record) (item : Record) → newest name (items ++ item ∷ []) ≡ kept name (newest name items) item
newest_added name items item = at_stamp (note_stamp name item) refl
  where
    at_newest : (t : ℕ) → note_stamp name item ≡ Some t → (o : Option Record) → newest name items ≡ o → newest name (items ++ item ∷ []) ≡ cond (is_less (Some t) (stamp_read name o)) o (Some item)
    at_newest t is None none = last_alone name item t is items none
    at_newest t is (Some n) some =
        let note = newest_is_note name items n some in
        let at : stamp_read name (Some n) ≡ Some note.1.0 = note.1.1 in
        elim (cases_lt t note.1.0) [
          | inl l ↦ before name item t is items n note.1.0 some note.1.1 l ∙ sym (ap (λ b. cond b (Some n) (Some item)) (ap (is_less (Some t)) at ∙ lesser t note.1.0 l))
          | inr l ↦ last_newest name item t is items n note.1.0 some note.1.1 l ∙ sym (ap (λ b. cond b (Some n) (Some item)) (ap (is_less (Some t)) at ∙ not_lesser t note.1.0 l))
        ]

    at_stamp : (s : Option ℕ) → note_stamp name item ≡ s → newest name (items ++ item ∷ []) ≡ cond (is_some s) (cond (is_less s (stamp_read name (newest name items))) (newest name items) (Some item)) (newest name items)
    at_stamp None none = newest_before name items (item ∷ []) (ap (λ s. cond (is_some s) (Some item) None) none)
    at_stamp (Some t) is = at_newest t is (newest name items) refl
