-- A list of records without some that count for nothing: cuts, notes and parts stay what they were.
use Rattle.std.proofs.Common.{◌≡◌, ℕ, ◌+◌, Bool, cond, count_by, min, ◌<◌, ◌≤◌, List, [], ◌∷◌, ◌++◌, Option, Some, None, Contains, ◌⊎◌, inl, inr, refl, sym, ap, ◌∙◌, subst, append_assoc, append-nil, arith}
use Rattle.std.specs.List.{AllByRecursion}
use Rattle.std.proofs.lemmas.Bool.{cases_lt}
use Rattle.std.proofs.lemmas.List.Sums.{sum_by-cons}
use Rattle.std.proofs.lemmas.List.Elements.{Contains-push_cases}
use Rattle.array_model.specs.Record.{Record, Part, kept_of, payload_of}
use Rattle.array_model.specs.Sets.{ReadSet, Placed, lesser, least_kept, records_of, HasCarrier}
use Rattle.array_model.specs.Map.{items_of, part_of, or_else}
use Rattle.array_model.specs.Need.{IsWanted, IsLastCut, CutsAtMost}
use Rattle.array_model.proofs.Sets.{lesser_regroup}
use Rattle.array_model.proofs.Objects.{payload_here}
use Rattle.array_model.proofs.Records.{Among, same_record, payload_is_part, among_from_contains, kept_is_cut, least_at_most}

-- Behind these, the first list has these records, and the second some of them. Of each that goes something is known, by
-- what stood before and behind it.
pub data Thinned (Gone : List Placed → Placed → List Placed → Type 0) : List Placed → List Placed → List Placed → Type 0 where
  nothing : {before : List Placed} → Thinned Gone before [] []
  stays : {before old new : List Placed} (it : Placed) → Thinned Gone (before ++ it ∷ []) old new → Thinned Gone before (it ∷ old) (it ∷ new)
  goes : {before old new : List Placed} (it : Placed) → Gone before it old → Thinned Gone (before ++ it ∷ []) old new → Thinned Gone before (it ∷ old) new

-- none of these is a copy of the record
abbrev pub NoCopy : List Placed → Record → Type 0
NoCopy before item = (copy : Placed) → Contains before copy → copy.item ≡ item → ⊥

-- one more counts for one, or for none
pub counted : {X : Type 0} (test : X → Bool) (x : X) (xs : List X) → count_by test (x ∷ xs) ≡ cond (test x) 1 0 + count_by test xs
counted test x xs = sum_by-cons (λ x. cond (test x) 1 0) x xs

pub among_items : (records : List Placed) (it : Placed) (item : Record) → Among it records → it.item ≡ item → Among item (items_of records)
among_items [] it item found is = absurd found
among_items (other ∷ records) it item (inl same) is = inl (ap (λ (r : Placed). r.item) same ∙ is)
among_items (other ∷ records) it item (inr later) is = inr (among_items records it item later is)

pub item_among : (records : List Placed) (item : Record) → Among item (items_of records) → (it : Placed) × Among it records × (it.item ≡ item)
item_among [] item found = absurd found
item_among (it ∷ records) item (inl is) = (it, inl refl, is)
item_among (it ∷ records) item (inr later) = let there = item_among records item later in (there.0, inr there.1, there.2)

pub no_copy_more : (before : List Placed) (it : Placed) (item : Record) → NoCopy before item → (it.item ≡ item → ⊥) → NoCopy (before ++ it ∷ []) item
no_copy_more before it item none differs copy found is = elim (Contains-push_cases before it copy found) [
  | inl earlier ↦ none copy earlier is
  | inr last ↦ differs (ap (λ (r : Placed). r.item) last ∙ is)
]

-- what is said of none of these, and of one more
pub none_more : (P : Placed → Type 0) (before : List Placed) (it : Placed) → ((other : Placed) → Contains before other → P other) → P it → (other : Placed) → Contains (before ++ it ∷ []) other → P other
none_more P before it each here other found = elim (Contains-push_cases before it other found) [
  | inl earlier ↦ each other earlier
  | inr last ↦ subst P last here
]

module _ {Gone : List Placed → Placed → List Placed → Type 0} where
  -- All of these stay,
  pub all_stay : (mine before old new : List Placed) → Thinned Gone (before ++ mine) old new → Thinned Gone before (mine ++ old) (mine ++ new)
  all_stay [] before old new rest = subst (λ b. Thinned Gone b old new) (append-nil before) rest
  all_stay (it ∷ mine) before old new rest = stays it (all_stay mine (before ++ it ∷ []) old new (subst (λ b. Thinned Gone b old new) (sym (append_assoc before (it ∷ []) mine)) rest))

  -- or all of these go, a set's.
  pub all_go : (all mine before old new : List Placed) (set : ℕ) → AllByRecursion (λ (it : Placed). it.set ≡ set) mine → ((ahead : List Placed) (it : Placed) (behind : List Placed) → all ≡ ahead ++ it ∷ (behind ++ old) → it.set ≡ set → Gone ahead it (behind ++ old)) → all ≡ before ++ (mine ++ old) → Thinned Gone (before ++ mine) old new → Thinned Gone before (mine ++ old) new
  all_go all [] before old new set own may is rest = subst (λ b. Thinned Gone b old new) (append-nil before) rest
  all_go all (it ∷ mine) before old new set own may is rest =
      goes it (may before it mine is own.0)
      (all_go all mine (before ++ it ∷ []) old new set own.1 may (is ∙ sym (append_assoc before (it ∷ []) (mine ++ old))) (subst (λ b. Thinned Gone b old new) (sym (append_assoc before (it ∷ []) mine)) rest))

-- A record behind these and in front of those is needed.
abbrev pub Counts : ℕ → List ℕ → List ReadSet → List Placed → Placed → List Placed → Type 0
Counts k uploads sets before it after = (IsWanted uploads (items_of (records_of k sets)) it.item × NoCopy before it.item) ⊎ IsLastCut sets after it.item

-- What goes may go, since something stands in for it: for a cut that counts some more records, which keep no more of its
-- target, and for the first copy of what is wanted something of its own.
pub record StandsIn (k : ℕ) (uploads : List ℕ) (sets : List ReadSet) (more : List Record) (Gone : List Placed → Placed → List Placed → Type 0) (Replaced : Record → Type 0) : Type 0 where
  pub wanted : (before : List Placed) (it : Placed) (after : List Placed) → Gone before it after → IsWanted uploads (items_of (records_of k sets)) it.item → NoCopy before it.item → Replaced it.item
  pub cut : (before : List Placed) (it : Placed) (after : List Placed) → Gone before it after → (last : IsLastCut sets after it.item) → (least : ℕ) × (least_kept last.0 more ≡ Some least) × (least ≤ last.1)

module _ {Gone : List Placed → Placed → List Placed → Type 0} where
  -- What is valid was valid, at its place,
  pub among_was : (it : Placed) {before old new : List Placed} → Thinned Gone before old new → Among it new → Among it old
  among_was it nothing found = found
  among_was it (stays here rest) (inl is) = inl is
  among_was it (stays here rest) (inr later) = inr (among_was it rest later)
  among_was it (goes here gone rest) found = inr (among_was it rest found)

  -- so no record is new.
  pub no_more : (item : Record) {before old new : List Placed} → Thinned Gone before old new → Among item (items_of new) → Among item (items_of old)
  no_more item {old = old} {new = new} thin found = let it = item_among new item found in among_items old it.0 item (among_was it.0 thin it.1) it.2

  -- None of a kind become more.
  pub fewer_thin : (test : Record → Bool) {before old new : List Placed} → Thinned Gone before old new → count_by test (items_of new) ≤ count_by test (items_of old)
  fewer_thin test nothing = omega arith
  fewer_thin test (stays {old = old} {new = new} it rest) =
      let fewer = fewer_thin test rest in
      let one = counted test it.item (items_of old) in
      let other = counted test it.item (items_of new) in
      omega arith
  fewer_thin test (goes {old = old} it gone rest) = let fewer = fewer_thin test rest in let one = counted test it.item (items_of old) in omega arith

module _ (k : ℕ) (uploads : List ℕ) (sets : List ReadSet) (more : List Record) (Gone : List Placed → Placed → List Placed → Type 0) (Replaced : Record → Type 0) (stands_in : StandsIn k uploads sets more Gone Replaced) where
  -- A record behind which a cut keeps as few, or none is kept at all, is no last cut.
  no_later_cut : (target n : ℕ) (after : List Placed) → ((m : ℕ) → least_kept target (items_of after) ≡ Some m → n < m) → (later : Placed) → Contains after later → CutsAtMost target n later.item → ⊥
  no_later_cut target n after above later found cuts =
      let least = least_at_most target cuts.0 (items_of after) (among_items after later _ (among_from_contains after later found) cuts.2) in
      let more = above least.0 least.1 in
      let low = least.2 in
      let high = cuts.1 in
      omega arith

  -- Without a cut that goes the least is the same: a later one keeps as few, or one of the more records.
  least_gone : (target : ℕ) → HasCarrier sets target → (before : List Placed) (it : Placed) (after : List Placed) → Gone before it after → (one : Option ℕ) → kept_of target it.item ≡ one → (rest : Option ℕ) → least_kept target (items_of after) ≡ rest → lesser (lesser one rest) (least_kept target more) ≡ lesser rest (least_kept target more)
  least_gone target there before it after gone None is rest rest_is = refl
  least_gone target there before it after gone (Some n) is None rest_is =
      let found = stands_in.cut before it after gone (target, n, kept_is_cut target n it.item is, there, no_later_cut target n after (λ m has. absurd (cc))) in
      let low = found.2 in
      ap (lesser (Some n)) found.1 ∙ ap Some (omega arith) ∙ sym found.1
  least_gone target there before it after gone (Some n) is (Some r) rest_is = elim (cases_lt n r) [
    | inl less ↦
        let found = stands_in.cut before it after gone (target, n, kept_is_cut target n it.item is, there, no_later_cut target n after (λ m has. let e : r ≡ m = cc in omega arith)) in
        let low = found.2 in
        ap (lesser (Some (min n r))) found.1 ∙ ap Some (omega arith) ∙ sym (ap (lesser (Some r)) found.1)
    | inr later ↦ ap (λ m. lesser (Some m) (least_kept target more)) (omega arith)
  ]

  -- The least that is kept of a set with a carrier stays, with the more records.
  pub least_stays : (target : ℕ) → HasCarrier sets target → {before old new : List Placed} → Thinned Gone before old new → lesser (least_kept target (items_of new)) (least_kept target more) ≡ lesser (least_kept target (items_of old)) (least_kept target more)
  least_stays target there nothing = refl
  least_stays target there (stays {old = old} {new = new} it rest) =
      lesser_regroup (kept_of target it.item) (least_kept target (items_of new)) (least_kept target more)
      ∙ ap (lesser (kept_of target it.item)) (least_stays target there rest)
      ∙ sym (lesser_regroup (kept_of target it.item) (least_kept target (items_of old)) (least_kept target more))
  least_stays target there (goes {before = before} {old = old} it gone rest) =
      least_stays target there rest
      ∙ sym (least_gone target there before it old gone (kept_of target it.item) refl (least_kept target (items_of old)) refl)

  -- A record that goes and is wanted, the first of its copies, is replaced.
  replaced : (item : Record) → IsWanted uploads (items_of (records_of k sets)) item → (before : List Placed) (it : Placed) (after : List Placed) → NoCopy before item → Gone before it after → it.item ≡ item → Replaced item
  replaced item wanted before it after none gone same =
      subst Replaced same (stands_in.wanted before it after gone
      (subst (λ (r : Record). IsWanted uploads (items_of (records_of k sets)) r) (sym same) wanted)
      (subst (λ r. NoCopy before r) (sym same) none))

  -- Of a record that is wanted a copy stays, or it is replaced.
  pub wanted_stays : (item : Record) → IsWanted uploads (items_of (records_of k sets)) item → {before old new : List Placed} → NoCopy before item → Thinned Gone before old new → Among item (items_of old) → Among item (items_of new) ⊎ Replaced item
  wanted_stays item wanted none nothing found = absurd found
  wanted_stays item wanted none (stays it rest) (inl is) = inl (inl is)
  wanted_stays item wanted none (stays {before = before} it rest) (inr later) = elim (same_record it.item item) [
    | yes same ↦ inl (inl same)
    | no differs ↦ elim (wanted_stays item wanted (no_copy_more before it item none differs) rest later) [
      | inl still ↦ inl (inr still)
      | inr other ↦ inr other
    ]
  ]
  wanted_stays item wanted none (goes {before = before} {old = old} it gone rest) found = elim (same_record it.item item) [
    | yes same ↦ inr (replaced item wanted before it old none gone same)
    | no differs ↦ wanted_stays item wanted (no_copy_more before it item none differs) rest (elim found [
      | inl is ↦ absurd (differs is)
      | inr later ↦ later
    ])
  ]

  -- The first payload of a part that is wanted and isn't replaced stays.
  pub part_stays : (upload part : ℕ) → ((payload : List ℕ) → IsWanted uploads (items_of (records_of k sets)) (Part upload part payload)) → ((payload : List ℕ) → Replaced (Part upload part payload) → ⊥) → {before old new : List Placed} → ((other : Placed) → Contains before other → payload_of upload part other.item ≡ None) → Thinned Gone before old new → part_of upload part (items_of new) ≡ part_of upload part (items_of old)
  part_stays upload part wanted kept none nothing = refl
  part_stays upload part wanted kept none (stays {before = before} {old = old} {new = new} it rest) =
      same (payload_of upload part it.item) refl (λ is. part_stays upload part wanted kept (none_more (λ (r : Placed). payload_of upload part r.item ≡ None) before it none is) rest)
    where
      same : (here : Option (List ℕ)) → payload_of upload part it.item ≡ here → (payload_of upload part it.item ≡ None → part_of upload part (items_of new) ≡ part_of upload part (items_of old)) → or_else here (part_of upload part (items_of new)) ≡ or_else here (part_of upload part (items_of old))
      same None is later = later is
      same (Some payload) is later = refl
  part_stays upload part wanted kept none (goes {before = before} {old = old} {new = new} it gone rest) =
      same (payload_of upload part it.item) refl (λ is. part_stays upload part wanted kept (none_more (λ (r : Placed). payload_of upload part r.item ≡ None) before it none is) rest)
    where
      same : (here : Option (List ℕ)) → payload_of upload part it.item ≡ here → (payload_of upload part it.item ≡ None → part_of upload part (items_of new) ≡ part_of upload part (items_of old)) → part_of upload part (items_of new) ≡ or_else here (part_of upload part (items_of old))
      same None is later = later is
      same (Some payload) is later = absurd (kept payload (replaced (Part upload part payload) (wanted payload) before it old
          (λ copy found e. let absent = none copy found in let equal = ap (payload_of upload part) e ∙ payload_here upload part payload in cc)
          gone (payload_is_part upload part payload it.item is)))

  -- A record that stands in the second list stood in the first; of what is wanted and stood before it a copy still does, or
  -- it is replaced.
  pub record StoodAt (before old : List Placed) (it : Placed) (ahead behind : List Placed) : Type 0 where
    pub earlier : List Placed
    pub later : List Placed
    pub place : old ≡ earlier ++ it ∷ later
    pub copies : (item : Record) → IsWanted uploads (items_of (records_of k sets)) item → NoCopy before item → Among item (items_of earlier) → Among item (items_of ahead) ⊎ Replaced item
    pub least : (target : ℕ) → HasCarrier sets target → lesser (least_kept target (items_of behind)) (least_kept target more) ≡ lesser (least_kept target (items_of later)) (least_kept target more)

  -- one more that stays in front,
  stood_more : (before old : List Placed) (here it : Placed) (ahead behind : List Placed) → StoodAt (before ++ here ∷ []) old it ahead behind → StoodAt before (here ∷ old) it (here ∷ ahead) behind
  stood_more before old here it ahead behind at = record {
    earlier = here ∷ at.earlier;
    later = at.later;
    place = ap (λ r. here ∷ r) at.place;
    copies = λ item wanted none found. elim (same_record here.item item) [
      | yes same ↦ inl (inl same)
      | no differs ↦ elim (at.copies item wanted (no_copy_more before here item none differs) (elim found [
        | inl is ↦ absurd (differs is)
        | inr later ↦ later
      ])) [
        | inl still ↦ inl (inr still)
        | inr other ↦ inr other
      ]
    ];
    least = at.least;
  }

  -- or one that goes
  stood_gone : (before old : List Placed) (here it : Placed) (ahead behind : List Placed) → Gone before here old → StoodAt (before ++ here ∷ []) old it ahead behind → StoodAt before (here ∷ old) it ahead behind
  stood_gone before old here it ahead behind gone at = record {
    earlier = here ∷ at.earlier;
    later = at.later;
    place = ap (λ r. here ∷ r) at.place;
    copies = λ item wanted none found. elim (same_record here.item item) [
      | yes same ↦ inr (replaced item wanted before here old none gone same)
      | no differs ↦ at.copies item wanted (no_copy_more before here item none differs) (elim found [
        | inl is ↦ absurd (differs is)
        | inr later ↦ later
      ])
    ];
    least = at.least;
  }

  pub stood : (it : Placed) (ahead behind : List Placed) {before old new : List Placed} → Thinned Gone before old new → new ≡ ahead ++ it ∷ behind → StoodAt before old it ahead behind
  stood it [] behind nothing is = cc
  stood it (other ∷ ahead) behind nothing is = cc
  stood it [] behind (stays {before = before} {old = old} {new = new} here rest) is =
      let head : here ≡ it = cc in
      let tail : new ≡ behind = cc in
      record {
        earlier = [];
        later = old;
        place = ap (λ r. r ∷ old) head;
        copies = λ item wanted none found. absurd found;
        least = λ target there. ap (λ r. lesser (least_kept target (items_of r)) (least_kept target more)) (sym tail) ∙ least_stays target there rest;
      }
  stood it (other ∷ ahead) behind (stays {before = before} {old = old} {new = new} here rest) is =
      let head : here ≡ other = cc in
      let tail : new ≡ ahead ++ it ∷ behind = cc in
      subst (λ (r : Placed). StoodAt before (here ∷ old) it (r ∷ ahead) behind) head (stood_more before old here it ahead behind (stood it ahead behind rest tail))
  stood it ahead behind (goes {before = before} {old = old} {new = new} here gone rest) is = stood_gone before old here it ahead behind gone (stood it ahead behind rest is)
