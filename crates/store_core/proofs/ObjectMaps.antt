-- What the records of one set say of each name, and what a put and a delete make of that.
use Rattle.std.proofs.Common.{◌≡◌, ◌⊎◌, inl, inr, ℕ, ◌+◌, ◌<◌, ◌≤◌, Bool, true, false, cond, List, [], ◌∷◌, ◌++◌, length, Some, None, Ok, refl, sym, ap, subst, ◌∙◌, arith}
use Rattle.std.specs.Prelude.{◌||◌, ◌&&◌, ◌==◌}
use Rattle.std.specs.Str.{bytes_eq}
use Rattle.std.specs.List.{AllByRecursion, list_any}
use Rattle.std.specs.FinMap as finmap
use Rattle.std.proofs.lemmas.List.{append-nil, append_assoc}
use Rattle.std.proofs.lemmas.Bool.{eqb-true, eq-eqb}
use Rattle.smore_base.specs.Objects.{Value, Whole, Broken, Map}
use Rattle.array_model.specs.Record.{Record, Head, Ready, Part, Put, Delete, Cut, Digest, Snapshot, is_ready, note_stamp, payload_of}
use Rattle.array_model.specs.Sets.{ReadSet, Placed, placed, placed_from, records_of}
use Rattle.array_model.specs.Map.{items_of, part_of, or_else, joined, object_by, object_of, value_of, map_by, map_of}
use Rattle.array_model.specs.Need.{IsUploadOfNewest}
use Rattle.array_model.specs.SetLaws.{Appends, NoneAbove}
use Rattle.array_model.proofs.Records.{Among, among_from_contains, among_joined, newest_is_note, all_among}
use Rattle.array_model.proofs.Behind.{part_joined, no_parts, records_without_note, put_note_is_last, delete_note_is_last}
use Rattle.array_model.proofs.MapLaws.{map_has_what_is_read}

-- ---- one set

abbrev pub one_set : ℕ → Bool → List Record → ReadSet
one_set id closed items = record { id = id; carriers = 1; records = items; closed = closed }

items_placed : (set position : ℕ) (items : List Record) → items_of (placed_from set position items) ≡ items
items_placed set position [] = refl
items_placed set position (item ∷ items) = ap (λ (l : List Record). item ∷ l) (items_placed set (position + 1) items)

items_more : (some more : List Placed) → items_of (some ++ more) ≡ items_of some ++ items_of more
items_more [] more = refl
items_more (p ∷ some) more = ap (λ (l : List Record). p.item ∷ l) (items_more some more)

-- all its records are valid
pub items_read : (id : ℕ) (closed : Bool) (items : List Record) → list_any is_ready items ≡ true → items_of (records_of 1 (one_set id closed items ∷ [])) ≡ items
items_read id closed items ready =
    ap (λ b. items_of (placed (cond b (record { id = id; records = items } ∷ []) []))) ready
    ∙ items_more (placed_from id 0 items) [] ∙ append-nil _ ∙ items_placed id 0 items

-- what they say of all names
abbrev pub objects_of : List Record → Map
objects_of items = map_by items items

pub map_is : (id : ℕ) (closed : Bool) (items : List Record) → list_any is_ready items ≡ true → map_of 1 (one_set id closed items ∷ []) ≡ objects_of items
map_is id closed items ready = ap (λ (l : List Record). map_by l l) (items_read id closed items ready)

pub get-objects : (items : List Record) (name : List ℕ) → list_any is_ready items ≡ true → finmap.get (objects_of items) name ≡ value_of items name
get-objects items name ready =
    ap (λ (m : Map). finmap.get m name) (sym (map_is 1 false items ready))
    ∙ map_has_what_is_read 1 (one_set 1 false items ∷ []) name
    ∙ ap (λ (l : List Record). value_of l name) (items_read 1 false items ready)

-- ---- stamps

-- the counters of a record are below this one
abbrev pub IsBelow : ℕ → Record → Type 0
IsBelow stamp (Part upload part payload) = upload < stamp
IsBelow stamp (Put name its upload parts bytes) = (its < stamp) × (upload < stamp)
IsBelow stamp (Delete name its) = its < stamp
IsBelow stamp item = Unit {0}

part_below : (stamp : ℕ) (item : Record) (part : ℕ) → IsBelow stamp item → payload_of stamp part item ≡ None
part_below stamp (Part upload number payload) part below =
    ap (λ b. cond b (Some payload) None) (at_one (upload == stamp) refl)
  where
    at_one : (b : Bool) → (upload == stamp) ≡ b → (b && (number == part)) ≡ false
    at_one true e = absurd (omega (arith, below, eqb-true upload stamp e))
    at_one false e = refl
part_below stamp (Put name its upload parts bytes) part below = refl
part_below stamp (Delete name its) part below = refl
part_below stamp Head part below = refl
part_below stamp Ready part below = refl
part_below stamp (Cut target kept) part below = refl
part_below stamp (Digest number parts payload) part below = refl
part_below stamp (Snapshot its number parts bytes payload) part below = refl

-- no part has this stamp
pub no_part_yet : (stamp : ℕ) (items : List Record) (part : ℕ) → AllByRecursion (IsBelow stamp) items → part_of stamp part items ≡ None
no_part_yet stamp items part below = no_parts stamp part items (λ item among. part_below stamp item part (all_among (IsBelow stamp) items item below among))

pub stamp_below : (stamp : ℕ) (item : Record) (name : List ℕ) (its : ℕ) → IsBelow stamp item → note_stamp name item ≡ Some its → its ≤ stamp
stamp_below stamp (Put own s upload parts bytes) name its below e = at_one (bytes_eq own name) e
  where
    at_one : (b : Bool) → cond b (Some s) None ≡ Some its → its ≤ stamp
    at_one true is = let same : s ≡ its = cc in omega (arith, below.0, same)
    at_one false is = absurd cc
stamp_below stamp (Delete own s) name its below e = at_one (bytes_eq own name) e
  where
    at_one : (b : Bool) → cond b (Some s) None ≡ Some its → its ≤ stamp
    at_one true is = let same : s ≡ its = cc in omega (arith, below, same)
    at_one false is = absurd cc
stamp_below stamp (Part upload part payload) name its below e = absurd cc
stamp_below stamp Head name its below e = absurd cc
stamp_below stamp Ready name its below e = absurd cc
stamp_below stamp (Cut target kept) name its below e = absurd cc
stamp_below stamp (Digest part parts payload) name its below e = absurd cc
stamp_below stamp (Snapshot s part parts bytes payload) name its below e = absurd cc

pub none_above : (stamp : ℕ) (items : List Record) (name : List ℕ) → AllByRecursion (IsBelow stamp) items → NoneAbove items name stamp
none_above stamp items name below item its contains e = stamp_below stamp item name its (all_among (IsBelow stamp) items item below (among_from_contains items item contains)) e

-- no newest note is of an upload with this stamp
pub no_upload_yet : (stamp : ℕ) (items : List Record) → AllByRecursion (IsBelow stamp) items → IsUploadOfNewest items stamp → ⊥
no_upload_yet stamp items below (name, its, parts, bytes, is) =
    let note = newest_is_note name items (Put name its stamp parts bytes) is in
    let own = all_among (IsBelow stamp) items (Put name its stamp parts bytes) below note.0 in
    omega (arith, own.1)

-- ---- a put

any_more : (test : Record → Bool) (items more : List Record) → list_any test items ≡ true → list_any test (items ++ more) ≡ true
any_more test [] more e = absurd cc
any_more test (x ∷ items) more e = at_one (test x) e (any_more test items more)
  where
    at_one : (b : Bool) → (b || list_any test items) ≡ true → (list_any test items ≡ true → list_any test (items ++ more) ≡ true) → (b || list_any test (items ++ more)) ≡ true
    at_one true is rest = refl
    at_one false is rest = rest is

-- records behind those of the set
appends : (id : ℕ) (items more : List Record) → list_any is_ready items ≡ true → Appends 1 more (one_set id false items ∷ []) (one_set id false (items ++ more) ∷ [])
appends id items more ready = record { below = []; top = one_set id false items; above = []; was = refl; stood = ready; highest = tt; is = refl }

-- of an object without bytes, the note alone gives it
pub put_empty : (items : List Record) (name : List ℕ) (stamp : ℕ) → list_any is_ready items ≡ true → AllByRecursion (IsBelow stamp) items
    → objects_of (items ++ Put name stamp stamp 0 0 ∷ []) ≡ finmap.insert (objects_of items) name (Whole [])
put_empty items name stamp ready below =
    let note = Put name stamp stamp 0 0 in
    sym (map_is 1 false (items ++ note ∷ []) (any_more is_ready items (note ∷ []) ready))
    ∙ put_note_is_last 1 name stamp stamp 0 0 _ _ (appends 1 items (note ∷ []) ready) (subst (λ (l : List Record). NoneAbove l name stamp) (sym (items_read 1 false items ready)) (none_above stamp items name below))
    ∙ ap (λ (m : Map). finmap.insert m name (Whole [])) (map_is 1 false items ready)

-- a part of an upload that no note names says nothing
pub part_alone : (items : List Record) (object : List ℕ) (stamp : ℕ) → list_any is_ready items ≡ true → AllByRecursion (IsBelow stamp) items → objects_of (items ++ Part stamp 0 object ∷ []) ≡ objects_of items
part_alone items object stamp ready below =
    let part = Part stamp 0 object in
    sym (map_is 1 false (items ++ part ∷ []) (any_more is_ready items (part ∷ []) ready))
    ∙ (records_without_note 1 (part ∷ []) _ _ (appends 1 items (part ∷ []) ready) ((λ named. no_upload_yet stamp items below (subst (λ (l : List Record). IsUploadOfNewest l stamp) (items_read 1 false items ready) named)), tt)).map
    ∙ map_is 1 false items ready

-- of one with bytes, its part and the note behind it
pub put_part : (items : List Record) (name object : List ℕ) (stamp : ℕ) → list_any is_ready items ≡ true → AllByRecursion (IsBelow stamp) items
    → objects_of (items ++ Part stamp 0 object ∷ Put name stamp stamp 1 (length object) ∷ []) ≡ finmap.insert (objects_of items) name (Whole object)
put_part items name object stamp ready below =
    let part = Part stamp 0 object in
    let note = Put name stamp stamp 1 (length object) in
    let mid = items ++ part ∷ [] in
    let ready' = any_more is_ready items (part ∷ []) ready in
    ap (λ (l : List Record). objects_of l) (sym (append_assoc items (part ∷ []) (note ∷ [])))
    ∙ sym (map_is 1 false (mid ++ note ∷ []) (any_more is_ready mid (note ∷ []) ready'))
    ∙ put_note_is_last 1 name stamp stamp 1 (length object) _ _ (appends 1 mid (note ∷ []) ready') (subst (λ (l : List Record). NoneAbove l name stamp) (sym (items_read 1 false mid ready')) none_above_mid)
    ∙ ap (λ (v : Value). finmap.insert (map_of 1 (one_set 1 false mid ∷ [])) name v) (ap (λ (l : List Record). object_of l stamp 1 (length object)) (items_read 1 false mid ready') ∙ whole)
    ∙ ap (λ (m : Map). finmap.insert m name (Whole object)) (map_is 1 false mid ready' ∙ part_alone items object stamp ready below)
  where
    first : part_of stamp 0 (items ++ Part stamp 0 object ∷ []) ≡ Some object
    first = part_joined stamp 0 items (Part stamp 0 object ∷ []) ∙ ap (λ o. or_else o (or_else (cond ((stamp == stamp) && (0 == 0)) (Some object) None) None)) (no_part_yet stamp items 0 below)
        ∙ ap (λ b. or_else (cond (b && true) (Some object) None) None) (eq-eqb stamp stamp refl)

    whole : object_of (items ++ Part stamp 0 object ∷ []) stamp 1 (length object) ≡ Whole object
    whole = ap (λ o. object_by stamp 1 (length object) (joined o 0 (Ok []))) first
        ∙ ap (λ (l : List ℕ). cond (length l == length object) (Whole l) (Broken stamp 1)) (append-nil object)
        ∙ ap (λ b. cond b (Whole object) (Broken stamp 1)) (eq-eqb (length object) (length object) refl)

    none_above_mid : NoneAbove (items ++ Part stamp 0 object ∷ []) name stamp
    none_above_mid item its contains e = either (among_joined items (Part stamp 0 object ∷ []) item (among_from_contains (items ++ Part stamp 0 object ∷ []) item contains)) e
      where
        either : Among item items ⊎ Among item (Part stamp 0 object ∷ []) → note_stamp name item ≡ Some its → its ≤ stamp
        either (inl among) has = stamp_below stamp item name its (all_among (IsBelow stamp) items item below among) has
        either (inr (inl is)) has = let no = sym (ap (note_stamp name) is) in absurd cc
        either (inr (inr later)) has = absurd later

-- ---- a delete

pub delete_note : (items : List Record) (name : List ℕ) (stamp : ℕ) → list_any is_ready items ≡ true → AllByRecursion (IsBelow stamp) items
    → objects_of (items ++ Delete name stamp ∷ []) ≡ finmap.remove (objects_of items) name
delete_note items name stamp ready below =
    let note = Delete name stamp in
    sym (map_is 1 false (items ++ note ∷ []) (any_more is_ready items (note ∷ []) ready))
    ∙ delete_note_is_last 1 name stamp _ _ (appends 1 items (note ∷ []) ready) (subst (λ (l : List Record). NoneAbove l name stamp) (sym (items_read 1 false items ready)) (none_above stamp items name below))
    ∙ ap (λ (m : Map). finmap.remove m name) (map_is 1 false items ready)
