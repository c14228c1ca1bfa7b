-- Which records were found needed.
use Rattle.std.proofs.Common.{◌≡◌, ℕ, zero, suc, ◌+◌, ◌<◌, ◌≤◌, Bool, true, false, cond, List, [], ◌∷◌, ◌++◌, length, map, take, drop, get_or, Some, None, IfSome, refl, sym, ap, ap₂, ◌∙◌, subst, arith, append_assoc, append-nil, drop-cons, add-one}
use Rattle.std.specs.Prelude.{◌&&◌, ◌||◌, not}
use Rattle.std.specs.List.{list_any}
use Rattle.std.proofs.lemmas.List.{drop_all, take_more, length-map, get_or-map, take-map, drop-map, map-append}
use Rattle.std.proofs.lemmas.List.Folds.{list_any-append}
use Rattle.zone_bay.specs.Contents.{Contents}
use Rattle.zone_bay.specs.Bay.{BayState}
use Rattle.array_model.specs.Sets.{ReadSet, Placed}
use Rattle.array_model.specs.Record.{Record, Head, Ready, Part, Put, Delete, Cut, Digest, Snapshot}
use Rattle.array_model.specs.NeedTests.{is_same, is_wanted, is_needed, needed_among}
use Rattle.array_scan.specs.declared.records.ValidRecord.{ValidRecord}
use Rattle.array_scan.specs.declared.judge.SetScan.{SetScan}
use Rattle.array_scan.specs.Calls.{OnlyRead}
use Rattle.array_scan.specs.Judged.{sets_with}
use Rattle.array_scan.specs.Valid.{item_with, items_with, placed_with}
use Rattle.array_scan.specs.Needed.{may_be_wanted, HasAlike}
use Rattle.array_scan.specs.Scan.{payload_held}
use Rattle.array_scan.proofs.Calls.{told_at, told_from, read_nothing, read_then, same_held}

-- ---- copies

pub unlike : (same alike match : Bool) → same ≡ (alike && match) → alike ≡ false → false ≡ same
unlike same alike match is un = sym (is ∙ ap (λ b. b && match) un)

pub alike_only : (same alike match : Bool) → same ≡ (alike && match) → alike ≡ true → match ≡ true → true ≡ same
alike_only same alike match is like matches = sym (is ∙ ap₂ ◌&&◌ like matches)

pub alike_with : (same alike match held : Bool) → same ≡ (alike && match) → alike ≡ true → held ≡ match → held ≡ same
alike_with same alike match held is like matches = matches ∙ sym (is ∙ ap (λ b. b && match) like)

pub if_false : (b x : Bool) → b ≡ false → cond b x true ≡ true
if_false b x is = ap (λ b. cond b x true) is

pub if_true : (b x : Bool) → b ≡ true → cond b x true ≡ x
if_true b x is = ap (λ b. cond b x true) is

-- the record has no copy among the first so many
pub record NoCopySoFar (k : ℕ) (before now : BayState) (records : List ValidRecord) (of : ValidRecord) (n : ℕ) : Type 0 where
  pub read : OnlyRead before now None
  pub none : IfSome before.contents (λ held. let p = payload_held k held in may_be_wanted (item_with p of) ≡ true
      → list_any (λ (copy : Placed). is_same copy.item (item_with p of)) (map (placed_with p) records) ≡ list_any (λ (copy : Placed). is_same copy.item (item_with p of)) (map (placed_with p) (drop n records)))

pub copies_none : (k : ℕ) (bay : BayState) (records : List ValidRecord) (of : ValidRecord) → NoCopySoFar k bay bay records of 0
copies_none k bay records of = record { read = read_nothing bay; none = told_from bay.contents _ (λ held is wanted. refl) }

module _ (k : ℕ) (before mid after : BayState) (records : List ValidRecord) (of : ValidRecord) (n : ℕ) (v : ValidRecord) (same : Bool) (below : n < length records) (here : v ≡ get_or records n v) (so_far : NoCopySoFar k before mid records of n) (read : OnlyRead mid after None)
    (told : IfSome mid.contents (λ held. let p = payload_held k held in may_be_wanted (item_with p of) ≡ true → same ≡ is_same (item_with p v) (item_with p of))) where
  copy_at : (b : Bool) → same ≡ b → IfSome before.contents (λ held. let p = payload_held k held in may_be_wanted (item_with p of) ≡ true
      → list_any (λ (copy : Placed). is_same copy.item (item_with p of)) (map (placed_with p) records) ≡ (b || list_any (λ (copy : Placed). is_same copy.item (item_with p of)) (map (placed_with p) (drop (n + 1) records))))
  copy_at b is = told_from before.contents _ (λ held held_is wanted.
      let p = payload_held k held in
      let test = λ (copy : Placed). is_same copy.item (item_with p of) in
      told_at before.contents _ held held_is so_far.none wanted
      ∙ ap (λ l. list_any test (map (placed_with p) l)) (drop-cons records n v below ∙ ap₂ (λ (x : ValidRecord) m. x ∷ drop m records) (sym here) (sym (add-one n)))
      ∙ ap (λ b. b || list_any test (map (placed_with p) (drop (n + 1) records))) (sym (told_at mid.contents _ held (same_held before mid None so_far.read ∙ held_is) told wanted) ∙ is))

  pub copies_more : same ≡ false → NoCopySoFar k before after records of (n + 1)
  copies_more other = record { read = read_then before mid after None so_far.read read; none = copy_at false other }

  pub copy_here : same ≡ true → IfSome before.contents (λ held. let p = payload_held k held in may_be_wanted (item_with p of) ≡ true → true ≡ list_any (λ (copy : Placed). is_same copy.item (item_with p of)) (map (placed_with p) records))
  copy_here is = told_from before.contents _ (λ held held_is wanted. sym (told_at before.contents _ held held_is (copy_at true is) wanted))

-- it has none among all
pub copies_all : (k : ℕ) (before now : BayState) (records : List ValidRecord) (of : ValidRecord) (n : ℕ) → length records ≤ n → NoCopySoFar k before now records of n
    → IfSome before.contents (λ held. let p = payload_held k held in may_be_wanted (item_with p of) ≡ true → false ≡ list_any (λ (copy : Placed). is_same copy.item (item_with p of)) (map (placed_with p) records))
copies_all k before now records of n all so_far = told_from before.contents _ (λ held is wanted.
    let p = payload_held k held in
    sym (told_at before.contents _ held is so_far.none wanted ∙ ap (λ l. list_any (λ (copy : Placed). is_same copy.item (item_with p of)) (map (placed_with p) l)) (drop_all n records all)))

-- ---- one record

pub may_be : (items : List Record) (item : Record) → is_wanted [] items item ≡ true → may_be_wanted item ≡ true
may_be items (Put name stamp upload parts bytes) wanted = refl
may_be items (Delete name stamp) wanted = refl
may_be items (Part upload part payload) wanted = refl
may_be items (Snapshot stamp part parts bytes payload) wanted = refl
may_be items Head wanted = wanted
may_be items Ready wanted = wanted
may_be items (Cut target kept) wanted = wanted
may_be items (Digest part parts payload) wanted = wanted

pub by_cut : (w f last : Bool) → last ≡ true → true ≡ ((w && not f) || last)
by_cut w f last is = sym (ap (λ l. (w && not f) || l) is ∙ or_true (w && not f))
  where
    or_true : (b : Bool) → (b || true) ≡ true
    or_true true = refl
    or_true false = refl

pub unwanted : (w f last : Bool) → last ≡ false → w ≡ false → false ≡ ((w && not f) || last)
unwanted w f last uncut un = sym (ap₂ (λ (w l : Bool). (w && not f) || l) un uncut)

or_none : (b : Bool) → (b || false) ≡ b
or_none true = refl
or_none false = refl

pub by_copies : (w f last found : Bool) → last ≡ false → w ≡ true → found ≡ f → not found ≡ ((w && not f) || last)
by_copies w f last found uncut wanted is = ap not is ∙ sym (ap₂ (λ (w l : Bool). (w && not f) || l) wanted uncut ∙ or_none (not f))

pub same_at : {X : Type 0} (xs : List X) (i : ℕ) (x y : X) → i < length xs → x ≡ get_or xs i x → y ≡ get_or xs i y → x ≡ y
same_at [] i x y below is is' = absurd (omega (arith, below))
same_at (z ∷ xs) zero x y below is is' = is ∙ sym is'
same_at (z ∷ xs) (suc i) x y below is is' = same_at xs i x y (omega (arith, below)) is is'

-- ---- one record after another

or_swap : (a b : Bool) → (a || b) ≡ (b || a)
or_swap true true = refl
or_swap true false = refl
or_swap false true = refl
or_swap false false = refl

-- the needed ones of the first so many records were found, for what is held
pub record FoundAmong (sets : List ReadSet) (items : List Record) (records : List Placed) (n : ℕ) (needed : List Placed) : Type 0 where
  pub before : List Placed
  pub alike : HasAlike (take n records) before
  pub all : needed_among [] sets items [] records ≡ needed ++ needed_among [] sets items before (drop n records)

found_none : (sets : List ReadSet) (items : List Record) (records : List Placed) → FoundAmong sets items records 0 []
found_none sets items records = record { before = []; alike = λ test. refl; all = refl }

module _ (sets : List ReadSet) (items : List Record) (records : List Placed) (n : ℕ) (it : Placed) (below : n < length records) (here : it ≡ get_or records n it) (needed : List Placed) (so_far : FoundAmong sets items records n needed) where
  more_alike : HasAlike (take (n + 1) records) (it ∷ so_far.before)
  more_alike test =
      ap (λ b. test it || b) (so_far.alike test)
      ∙ or_swap (test it) (list_any test (take n records))
      ∙ ap (λ b. list_any test (take n records) || b) (sym (or_none (test it)))
      ∙ sym (ap (list_any test) (take_more records n it below ∙ ap (λ x. take n records ++ x ∷ []) (sym here)) ∙ list_any-append test (take n records) (it ∷ []))

  next_by : (b : Bool) → is_needed [] sets items (record { before = so_far.before; after = drop (n + 1) records }) it.item ≡ b
      → needed_among [] sets items [] records ≡ needed ++ cond b (it ∷ needed_among [] sets items (it ∷ so_far.before) (drop (n + 1) records)) (needed_among [] sets items (it ∷ so_far.before) (drop (n + 1) records))
  next_by b is =
      so_far.all
      ∙ ap (λ l. needed ++ needed_among [] sets items so_far.before l) (drop-cons records n it below ∙ ap₂ (λ (x : Placed) m. x ∷ drop m records) (sym here) (sym (add-one n)))
      ∙ ap (λ b. needed ++ cond b (it ∷ needed_among [] sets items (it ∷ so_far.before) (drop (n + 1) records)) (needed_among [] sets items (it ∷ so_far.before) (drop (n + 1) records))) is

  found_needed : is_needed [] sets items (record { before = so_far.before; after = drop (n + 1) records }) it.item ≡ true → FoundAmong sets items records (n + 1) (needed ++ it ∷ [])
  found_needed is = record { before = it ∷ so_far.before; alike = more_alike; all = next_by true is ∙ sym (append_assoc needed (it ∷ []) (needed_among [] sets items (it ∷ so_far.before) (drop (n + 1) records))) }

  found_other : is_needed [] sets items (record { before = so_far.before; after = drop (n + 1) records }) it.item ≡ false → FoundAmong sets items records (n + 1) needed
  found_other is = record { before = it ∷ so_far.before; alike = more_alike; all = next_by false is }

-- the needed ones of the first so many records were found
pub record FoundSoFar (k : ℕ) (before now : BayState) (sets : List SetScan) (records : List ValidRecord) (n : ℕ) (needed : List ValidRecord) : Type 0 where
  pub read : OnlyRead before now None
  pub found : IfSome before.contents (λ held. let p = payload_held k held in FoundAmong (sets_with p sets) (items_with p records) (map (placed_with p) records) n (map (placed_with p) needed))

pub found_nothing : (k : ℕ) (bay : BayState) (sets : List SetScan) (records : List ValidRecord) → FoundSoFar k bay bay sets records 0 []
found_nothing k bay sets records = record { read = read_nothing bay; found = told_from bay.contents _ (λ held is. let p = payload_held k held in found_none (sets_with p sets) (items_with p records) (map (placed_with p) records)) }

module _ (k : ℕ) (before mid after : BayState) (sets : List SetScan) (records : List ValidRecord) (n : ℕ) (v : ValidRecord) (b : Bool) (below : n < length records) (here : v ≡ get_or records n v) (needed : List ValidRecord) (so_far : FoundSoFar k before mid sets records n needed) (read : OnlyRead mid after None)
    (told : IfSome mid.contents (λ held. (w : ValidRecord) (earlier : List Placed) → w ≡ get_or records n w → let p = payload_held k held in HasAlike (map (placed_with p) (take n records)) earlier
    → b ≡ is_needed [] (sets_with p sets) (items_with p records) (record { before = earlier; after = map (placed_with p) (drop (n + 1) records) }) (item_with p w))) where
  tested : (held : Contents) → before.contents ≡ Some held → (far : FoundAmong (sets_with (payload_held k held) sets) (items_with (payload_held k held) records) (map (placed_with (payload_held k held)) records) n (map (placed_with (payload_held k held)) needed))
      → is_needed [] (sets_with (payload_held k held) sets) (items_with (payload_held k held) records) (record { before = far.before; after = drop (n + 1) (map (placed_with (payload_held k held)) records) }) (item_with (payload_held k held) v) ≡ b
  tested held is far =
      let p = payload_held k held in
      ap (λ l. is_needed [] (sets_with p sets) (items_with p records) (record { before = far.before; after = l }) (item_with p v)) (drop-map (placed_with p) (n + 1) records)
      ∙ sym (told_at mid.contents _ held (same_held before mid None so_far.read ∙ is) told v far.before here (subst (λ (l : List Placed). HasAlike l far.before) (take-map (placed_with p) n records) far.alike))

  placed_here : (held : Contents) → placed_with (payload_held k held) v ≡ get_or (map (placed_with (payload_held k held)) records) n (placed_with (payload_held k held) v)
  placed_here held = ap (placed_with (payload_held k held)) here ∙ sym (get_or-map (placed_with (payload_held k held)) records n v (placed_with (payload_held k held) v) below)

  long : (held : Contents) → n < length (map (placed_with (payload_held k held)) records)
  long held = let l = length-map records (placed_with (payload_held k held)) in omega (arith, l, below)

  pub one_needed : b ≡ true → FoundSoFar k before after sets records (n + 1) (needed ++ v ∷ [])
  one_needed is = record {
    read = read_then before mid after None so_far.read read;
    found = told_from before.contents _ (λ held held_is.
        let p = payload_held k held in
        let far = told_at before.contents _ held held_is so_far.found in
        subst (λ (l : List Placed). FoundAmong (sets_with p sets) (items_with p records) (map (placed_with p) records) (n + 1) l) (sym (map-append (placed_with p) needed (v ∷ [])))
        (found_needed (sets_with p sets) (items_with p records) (map (placed_with p) records) n (placed_with p v) (long held) (placed_here held) (map (placed_with p) needed) far (tested held held_is far ∙ is)));
  }

  pub none_needed : b ≡ false → FoundSoFar k before after sets records (n + 1) needed
  none_needed is = record {
    read = read_then before mid after None so_far.read read;
    found = told_from before.contents _ (λ held held_is.
        let p = payload_held k held in
        let far = told_at before.contents _ held held_is so_far.found in
        found_other (sets_with p sets) (items_with p records) (map (placed_with p) records) n (placed_with p v) (long held) (placed_here held) (map (placed_with p) needed) far (tested held held_is far ∙ is));
  }

-- those of all records were found
pub found_all : (k : ℕ) (before now : BayState) (sets : List SetScan) (records : List ValidRecord) (n : ℕ) (needed : List ValidRecord) → length records ≤ n → FoundSoFar k before now sets records n needed
    → IfSome before.contents (λ held. let p = payload_held k held in map (placed_with p) needed ≡ needed_among [] (sets_with p sets) (items_with p records) [] (map (placed_with p) records))
found_all k before now sets records n needed all so_far = told_from before.contents _ (λ held is.
    let p = payload_held k held in
    let far = told_at before.contents _ held is so_far.found in
    let l = length-map records (placed_with p) in
    sym (far.all ∙ ap (λ l. map (placed_with p) needed ++ needed_among [] (sets_with p sets) (items_with p records) far.before l) (drop_all n (map (placed_with p) records) (omega (arith, l, all))) ∙ append-nil (map (placed_with p) needed)))

-- the element at a place
pub element_at : {X : Type 0} (xs : List X) (n : ℕ) → n < length xs → (x : X) × (x ≡ get_or xs n x)
element_at [] n below = absurd (omega (arith, below))
element_at (x ∷ xs) zero below = (x, refl)
element_at (x ∷ xs) (suc n) below = element_at xs n (omega (arith, below))
