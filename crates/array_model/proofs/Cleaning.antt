-- What is used and needed of sets, and which one is cleaned.
use Rattle.std.proofs.Common.{◌≡◌, ℕ, ◌+◌, ◌<◌, ◌≤◌, Bool, true, false, cond, List, [], ◌∷◌, ◌++◌, length, Option, Some, None, inl, inr, refl, sym, ap, ◌∙◌, subst, eqb, arith}
use Rattle.std.specs.Prelude.{◌⊎◌, not, nat_le, filter}
use Rattle.std.specs.Int.{div_ceil}
use Rattle.std.specs.List.{find}
use Rattle.std.proofs.lemmas.Bool.{false≢true, leb-true, leb-false, eqb-true, cases_lt, false_from_ne_true}
use Rattle.std.proofs.lemmas.List.Sums.{sum_by-cons}
use Rattle.marker_format.specs.declared.kind.Kind.{Kind}
use Rattle.marker_format.specs.declared.kind.Kind.TheVariants as kinds
use Rattle.marker_format.specs.declared.marker.Marker.{Marker}
use Rattle.marker_format.specs.Kind.{code_of, kind_of, has_payload}
use Rattle.marker_format.specs.Marker.{IsMarker, IsUsed}
use Rattle.marker_format.specs.Zone.{blocks_of}
use Rattle.array_model.specs.Reading.{record_by}
use Rattle.array_model.specs.Record.{Record}
use Rattle.array_model.specs.Sets.{ReadSet, ValidSet, Placed, RiseAbove, valid, placed_from, placed, records_of}
use Rattle.array_model.specs.Map.{items_of}
use Rattle.array_model.specs.Shelf.{is_dropped}
use Rattle.array_model.specs.NeedTests.{is_needed, needed_among, needed_of}
use Rattle.array_model.specs.Cleaning.{blocks_for, moved_blocks, blocks_in, used, needed, is_worth_cleaning, is_half_cleaned, with_fewer, with_fewest, or_set, victim}
use Rattle.array_model.specs.NeedLaws.{ShelfHasAll, BlocksAreThose, NeededIsUsed, VictimIsLeast, NoVictimNoneWorth, HalfCleanedGoesFirst}
use Rattle.array_model.proofs.Records.{Among, among_from_contains, contains_from_among}

-- ---- the shelf

no_records : (set : ValidSet) → is_dropped set ≡ true → placed_from set.id 0 set.records ≡ []
no_records set is = none set.records (eqb-true (length set.records) 0 is)
  where
    none : (records : List Record) → length records ≡ 0 → placed_from set.id 0 records ≡ []
    none [] e = refl
    none (item ∷ records) e = absurd (omega (arith, e))

kept_all : (sets : List ValidSet) → placed (filter (λ set. not (is_dropped set)) sets) ≡ placed sets
kept_all [] = refl
kept_all (set ∷ above) = at_one (is_dropped set) refl (kept_all above)
  where
    rest : List ValidSet
    rest = filter (λ set. not (is_dropped set)) above

    at_one : (b : Bool) → is_dropped set ≡ b → placed rest ≡ placed above → placed (cond (not b) (set ∷ rest) rest) ≡ placed_from set.id 0 set.records ++ placed above
    at_one true is same = same ∙ ap (λ l. l ++ placed above) (sym (no_records set is))
    at_one false is same = ap (λ l. placed_from set.id 0 set.records ++ l) same

pub shelf_has_all : ShelfHasAll
shelf_has_all k sets = kept_all (valid k sets)

-- ---- blocks

with_payload : (m : Marker) (payload : List ℕ) → IsMarker m → length payload ≡ m.payload → blocks_for m.k (length payload) ≡ blocks_of m
with_payload m payload is long = ap (blocks_for m.k) long ∙ ap (λ f. 1 + div_ceil f 511) (sym is.fragment)

without_payload : (m : Marker) → IsMarker m → m.payload ≡ 0 → blocks_for m.k 0 ≡ blocks_of m
without_payload m is none = ap (blocks_for m.k) (sym none) ∙ ap (λ f. 1 + div_ceil f 511) (sym is.fragment)

kind_is : (m : Marker) (kind : Kind) → m.kind ≡ code_of kind → kind_of m.kind ≡ Some kind
kind_is m kinds.Head e = ap kind_of e
kind_is m kinds.Part e = ap kind_of e
kind_is m kinds.Put e = ap kind_of e
kind_is m kinds.Delete e = ap kind_of e
kind_is m kinds.Cut e = ap kind_of e
kind_is m kinds.Ready e = ap kind_of e
kind_is m kinds.Digest e = ap kind_of e
kind_is m kinds.Snapshot e = ap kind_of e
kind_is m kinds.Trailer e = ap kind_of e

blocks_by : (m : Marker) (payload : List ℕ) → IsMarker m → length payload ≡ m.payload → (kind : Kind) → IsUsed (has_payload kind) m.payload → 0 < moved_blocks m.k (record_by (Some kind) m payload) → moved_blocks m.k (record_by (Some kind) m payload) ≡ blocks_of m
blocks_by m payload is long kinds.Part uses some = with_payload m payload is long
blocks_by m payload is long kinds.Snapshot uses some = with_payload m payload is long
blocks_by m payload is long kinds.Put uses some = without_payload m is uses
blocks_by m payload is long kinds.Delete uses some = without_payload m is uses
blocks_by m payload is long kinds.Head uses some = absurd (omega (arith, some))
blocks_by m payload is long kinds.Cut uses some = absurd (omega (arith, some))
blocks_by m payload is long kinds.Ready uses some = absurd (omega (arith, some))
blocks_by m payload is long kinds.Digest uses some = absurd (omega (arith, some))
blocks_by m payload is long kinds.Trailer uses some = absurd (omega (arith, some))

pub blocks_are_those : BlocksAreThose
blocks_are_those m payload is long =
    subst (λ (kind : Option Kind). 0 < moved_blocks m.k (record_by kind m payload) → moved_blocks m.k (record_by kind m payload) ≡ blocks_of m) (sym (kind_is m is.kind is.coded)) (blocks_by m payload is long is.kind is.payload)

-- ---- no more is needed than is used

needed_fewer : (k id : ℕ) (uploads : List ℕ) (sets : List ReadSet) (items : List Record) (front rest : List Placed) → blocks_in k id (needed_among uploads sets items front rest) ≤ blocks_in k id rest
needed_fewer k id uploads sets items front [] = omega arith
needed_fewer k id uploads sets items front (it ∷ rest) = at_one (is_needed uploads sets items (record { before = front; after = rest }) it.item) (needed_fewer k id uploads sets items (it ∷ front) rest)
  where
    others : List Placed
    others = needed_among uploads sets items (it ∷ front) rest

    at_one : (b : Bool) → blocks_in k id others ≤ blocks_in k id rest → blocks_in k id (cond b (it ∷ others) others) ≤ blocks_in k id (it ∷ rest)
    at_one true fewer = omega (arith, fewer, sum_by-cons (λ (r : Placed). cond (eqb r.set id) (moved_blocks k r.item) 0) it others, sum_by-cons (λ (r : Placed). cond (eqb r.set id) (moved_blocks k r.item) 0) it rest)
    at_one false fewer = omega (arith, fewer, sum_by-cons (λ (r : Placed). cond (eqb r.set id) (moved_blocks k r.item) 0) it rest)

pub needed_is_used : NeededIsUsed
unfolding used needed needed_of
needed_is_used k uploads sets id = needed_fewer k id uploads sets (items_of (records_of k sets)) [] (records_of k sets)

-- ---- the victim

among_filter : {X : Type 0} (p : X → Bool) (xs : List X) (x : X) → Among x (filter p xs) → Among x xs × (p x ≡ true)
among_filter p [] x found = absurd found
among_filter {X} p (y ∷ xs) x found = at_one (p y) refl found (λ later. let there = among_filter p xs x later in (inr there.0, there.1))
  where
    at_one : (b : Bool) → p y ≡ b → Among x (cond b (y ∷ filter p xs) (filter p xs)) → (Among x (filter p xs) → Among x (y ∷ xs) × (p x ≡ true)) → Among x (y ∷ xs) × (p x ≡ true)
    at_one true is (inl here) rest = (inl here, ap p (sym here) ∙ is)
    at_one true is (inr later) rest = rest later
    at_one false is later rest = rest later

filter_among : {X : Type 0} (p : X → Bool) (xs : List X) (x : X) → Among x xs → p x ≡ true → Among x (filter p xs)
filter_among p [] x found is = found
filter_among {X} p (y ∷ xs) x found is = at_one (p y) refl found (λ later. filter_among p xs x later is)
  where
    at_one : (b : Bool) → p y ≡ b → Among x (y ∷ xs) → (Among x xs → Among x (filter p xs)) → Among x (cond b (y ∷ filter p xs) (filter p xs))
    at_one true y_is (inl here) rest = inl here
    at_one true y_is (inr later) rest = inr (rest later)
    at_one false y_is (inl here) rest = absurd (false≢true (sym y_is ∙ ap p here ∙ is))
    at_one false y_is (inr later) rest = rest later

found_passes : {X : Type 0} (p : X → Bool) (xs : List X) (x : X) → find p xs ≡ Some x → p x ≡ true
found_passes p [] x e = absurd cc
found_passes {X} p (y ∷ xs) x e = at_one (p y) refl e (found_passes p xs x)
  where
    at_one : (b : Bool) → p y ≡ b → cond b (Some y) (find p xs) ≡ Some x → (find p xs ≡ Some x → p x ≡ true) → p x ≡ true
    at_one true is e rest = let same : y ≡ x = cc in ap p (sym same) ∙ is
    at_one false is e rest = rest e

found_where : {X : Type 0} (p : X → Bool) (xs : List X) (x : X) → Among x xs → p x ≡ true → find p xs ≡ None → ⊥
found_where p [] x found is none = found
found_where {X} p (y ∷ xs) x found is none = at_one (p y) refl found none (λ later none. found_where p xs x later is none)
  where
    at_one : (b : Bool) → p y ≡ b → Among x (y ∷ xs) → cond b (Some y) (find p xs) ≡ None → (Among x xs → find p xs ≡ None → ⊥) → ⊥
    at_one true y_is found none rest = absurd cc
    at_one false y_is (inl here) none rest = false≢true (sym y_is ∙ ap p here ∙ is)
    at_one false y_is (inr later) none rest = rest later none

-- the numbers of a part of rising sets are above this one, and rise
filter_rises : (p : ReadSet → Bool) (id : ℕ) (sets : List ReadSet) → RiseAbove id sets → RiseAbove id (filter p sets)
filter_rises p id [] rise = tt
filter_rises p id (set ∷ above) rise = at_one (p set) (filter_rises p set.id above rise.1)
  where
    lower : (low high : ℕ) (sets : List ReadSet) → low < high → RiseAbove high sets → RiseAbove low sets
    lower low high [] less rise = tt
    lower low high (set ∷ above) less rise = (omega (arith, rise.0), rise.1)

    at_one : (b : Bool) → RiseAbove set.id (filter p above) → RiseAbove id (cond b (set ∷ filter p above) (filter p above))
    at_one true rest = (rise.0, rest)
    at_one false rest = lower id set.id (filter p above) rise.0 rest

all_above : (id : ℕ) (sets : List ReadSet) (set : ReadSet) → RiseAbove id sets → Among set sets → id < set.id
all_above id [] set rise found = absurd found
all_above id (other ∷ above) set rise (inl here) = subst (λ (s : ReadSet). id < s.id) here rise.0
all_above id (other ∷ above) set rise (inr later) = let rest = all_above other.id above set rise.1 later in let first = rise.0 in omega arith

-- fewer needed blocks, or as many and a number that is no higher
abbrev IsNoWorse : (ℕ → ℕ) → ReadSet → ReadSet → Type 0
IsNoWorse blocks set other = (blocks set.id < blocks other.id) ⊎ ((blocks set.id ≡ blocks other.id) × (set.id ≤ other.id))

no_worse : (blocks : ℕ → ℕ) (set other : ReadSet) → blocks set.id ≤ blocks other.id → set.id ≤ other.id → IsNoWorse blocks set other
no_worse blocks set other fewer lower = elim (cases_lt (blocks set.id) (blocks other.id)) [
  | inl less ↦ inl less
  | inr not_less ↦ inr (omega (arith, fewer, not_less), lower)
]

some_fewer : (blocks : ℕ → ℕ) (set : ReadSet) (o : Option ReadSet) → with_fewer blocks set o ≡ None → ⊥
some_fewer blocks set None none = cc
some_fewer blocks set (Some other) none = at_test (nat_le (blocks set.id) (blocks other.id)) none
  where
    at_test : (b : Bool) → cond b (Some set) (Some other) ≡ None → ⊥
    at_test true none = cc
    at_test false none = cc

-- there is none only among none
no_fewest : (blocks : ℕ → ℕ) (sets : List ReadSet) (set : ReadSet) → with_fewest blocks sets ≡ None → Among set sets → ⊥
no_fewest blocks [] set none found = found
no_fewest blocks (first ∷ sets) set none found = some_fewer blocks first (with_fewest blocks sets) none

fewest_is : (blocks : ℕ → ℕ) (id : ℕ) (sets : List ReadSet) (set : ReadSet) → RiseAbove id sets → with_fewest blocks sets ≡ Some set → Among set sets × ((other : ReadSet) → Among other sets → IsNoWorse blocks set other)
fewest_is blocks id [] set rise e = absurd cc
fewest_is blocks id (first ∷ above) set rise e = at_rest (with_fewest blocks above) refl e (λ best is. fewest_is blocks first.id above best rise.1 is)
  where
    at_rest : (o : Option ReadSet) → with_fewest blocks above ≡ o → with_fewer blocks first o ≡ Some set → ((best : ReadSet) → with_fewest blocks above ≡ Some best → Among best above × ((other : ReadSet) → Among other above → IsNoWorse blocks best other)) → Among set (first ∷ above) × ((other : ReadSet) → Among other (first ∷ above) → IsNoWorse blocks set other)
    at_rest None none e others =
        let same : first ≡ set = cc in (
          inl same,
          λ other found. elim found [
            | inl here ↦ subst (λ (s : ReadSet). IsNoWorse blocks s other) same (subst (IsNoWorse blocks first) here (no_worse blocks first first (omega arith) (omega arith)))
            | inr later ↦ absurd (no_fewest blocks above other none later)
          ],
        )
    at_rest (Some best) is e others = at_test (nat_le (blocks first.id) (blocks best.id)) refl e
      where
        rest : Among best above × ((other : ReadSet) → Among other above → IsNoWorse blocks best other)
        rest = others best is

        at_test : (b : Bool) → nat_le (blocks first.id) (blocks best.id) ≡ b → cond b (Some first) (Some best) ≡ Some set → Among set (first ∷ above) × ((other : ReadSet) → Among other (first ∷ above) → IsNoWorse blocks set other)
        at_test true less e =
            let same : first ≡ set = cc in
            let fewer = leb-true (blocks first.id) (blocks best.id) less in (
              inl same,
              λ other found. subst (λ (s : ReadSet). IsNoWorse blocks s other) same (elim found [
                | inl here ↦ subst (IsNoWorse blocks first) here (no_worse blocks first first (omega arith) (omega arith))
                | inr later ↦ elim (rest.1 other later) [
                  | inl less ↦ inl (omega arith)
                  | inr as_many ↦ no_worse blocks first other (omega (arith, as_many.0)) (let below = all_above first.id above other rise.1 later in omega arith)
                ]
              ]),
            )
        at_test false more e =
            let same : best ≡ set = cc in
            let fewer = leb-false (blocks first.id) (blocks best.id) more in (
              inr (subst (λ (s : ReadSet). Among s above) same rest.0),
              λ other found. subst (λ (s : ReadSet). IsNoWorse blocks s other) same (elim found [
                | inl here ↦ subst (IsNoWorse blocks best) here (inl fewer)
                | inr later ↦ rest.1 other later
              ]),
            )

none_half : (k : ℕ) (sets all : List ReadSet) → find (is_half_cleaned k sets []) all ≡ None
none_half k sets [] = refl
none_half k sets (set ∷ above) = none_half k sets above

pub victim_is_least : VictimIsLeast
unfolding victim
victim_is_least k uploads sets set rise e =
    let worth = is_worth_cleaning k uploads sets in
    let blocks = needed k uploads sets in
    let is : with_fewest blocks (filter worth sets) ≡ Some set = sym (ap (λ o. or_set o (with_fewest blocks (filter worth sets))) (none_half k sets sets)) ∙ e in
    let best = fewest_is blocks 0 (filter worth sets) set (filter_rises worth 0 sets rise) is in
    let own = among_filter worth sets set best.0 in
    record {
      among = contains_from_among sets set own.0;
      worth = own.1;
      fewest = λ other found other_worth. best.1 other (filter_among worth sets other (among_from_contains sets other found) other_worth);
    }

neither : (one other : Option ReadSet) → or_set one other ≡ None → (one ≡ None) × (other ≡ None)
neither None other e = (refl, e)
neither (Some set) other e = absurd cc

pub no_victim_none_worth : NoVictimNoneWorth
unfolding victim
no_victim_none_worth k uploads half sets set e found = false_from_ne_true (is_worth_cleaning k uploads sets set) (λ worth.
    let none = (neither (find (is_half_cleaned k sets half) sets) (with_fewest (needed k uploads sets) (filter (is_worth_cleaning k uploads sets) sets)) e).1 in
    no_fewest (needed k uploads sets) (filter (is_worth_cleaning k uploads sets) sets) set none (filter_among (is_worth_cleaning k uploads sets) sets set (among_from_contains sets set found) worth))

pub half_cleaned_goes_first : HalfCleanedGoesFirst
unfolding victim
half_cleaned_goes_first k uploads half sets set other found is e =
    at_found (find (is_half_cleaned k sets half) sets) refl e
  where
    at_found : (o : Option ReadSet) → find (is_half_cleaned k sets half) sets ≡ o → or_set o (with_fewest (needed k uploads sets) (filter (is_worth_cleaning k uploads sets) sets)) ≡ Some other → is_half_cleaned k sets half other ≡ true
    at_found None none e = absurd (found_where (is_half_cleaned k sets half) sets set (among_from_contains sets set found) is none)
    at_found (Some half_one) was e = let same : half_one ≡ other = cc in ap (is_half_cleaned k sets half) (sym same) ∙ found_passes (is_half_cleaned k sets half) sets half_one was
