-- Records of sets and their places.
use Rattle.std.proofs.Common.{◌≡◌, ℕ, ◌+◌, ◌≤◌, true, false, cond, List, [], ◌∷◌, ◌++◌, Option, Some, None, refl, sym, ap, ◌∙◌, arith}
use Rattle.std.specs.List.{AllByRecursion, list_any}
use Rattle.std.proofs.lemmas.Bool.{and_parts, and_from, leb-true, le-leb}
use Rattle.std.proofs.lemmas.List.{map-append}
use Rattle.array_model.specs.Record.{Record, is_ready, kept_of}
use Rattle.array_model.specs.Sets.{ReadSet, ValidSet, Placed, stands, cut_to, lesser, least_kept, kept_by, placed_from, placed, valid, records_of}
use Rattle.array_model.specs.Map.{items_of}

pub lesser_none : (a : Option ℕ) → lesser a None ≡ a
lesser_none None = refl
lesser_none (Some n) = refl

pub lesser_regroup : (a b c : Option ℕ) → lesser (lesser a b) c ≡ lesser a (lesser b c)
lesser_regroup None b c = refl
lesser_regroup (Some x) None c = refl
lesser_regroup (Some x) (Some y) None = refl
lesser_regroup (Some x) (Some y) (Some z) = ap Some (omega arith)

-- The least that joined records keep is the lesser of what each of them keeps.
pub least_joined : (target : ℕ) (first rest : List Record) → least_kept target (first ++ rest) ≡ lesser (least_kept target first) (least_kept target rest)
least_joined target [] rest = refl
least_joined target (item ∷ first) rest = ap (lesser (kept_of target item)) (least_joined target first rest) ∙ sym (lesser_regroup (kept_of target item) (least_kept target first) (least_kept target rest))

-- To place records leaves what they are.
pub items_placed : (set position : ℕ) (items : List Record) → items_of (placed_from set position items) ≡ items
items_placed set position [] = refl
items_placed set position (item ∷ items) = ap (λ r. item ∷ r) (items_placed set (position + 1) items)

pub items_joined : (first rest : List Placed) → items_of (first ++ rest) ≡ items_of first ++ items_of rest
items_joined first rest = map-append (λ (r : Placed). r.item) first rest

pub placed_in : (set position : ℕ) (items : List Record) → AllByRecursion (λ (it : Placed). it.set ≡ set) (placed_from set position items)
placed_in set position [] = tt
placed_in set position (item ∷ items) = (refl, placed_in set (position + 1) items)

-- What sets keep of another is the least that their records keep.
pub kept_least : (target : ℕ) (sets : List ValidSet) → kept_by target sets ≡ least_kept target (items_of (placed sets))
kept_least target [] = refl
kept_least target (set ∷ above) =
    ap (lesser (least_kept target set.records)) (kept_least target above)
    ∙ sym (least_joined target set.records (items_of (placed above)))
    ∙ ap (λ items. least_kept target (items ++ items_of (placed above))) (sym (items_placed set.id 0 set.records))
    ∙ ap (least_kept target) (sym (items_joined (placed_from set.id 0 set.records) (placed above)))

-- A set that stands has k carriers,
pub standing_carriers : (k : ℕ) (set : ReadSet) → stands k set ≡ true → k ≤ set.carriers
standing_carriers k set is = leb-true k set.carriers (and_parts _ _ is).0

pub standing_ready : (k : ℕ) (set : ReadSet) → stands k set ≡ true → list_any is_ready set.records ≡ true
standing_ready k set is = (and_parts _ _ is).1

-- and it stands with these records while it has k.
pub stands_with : (k : ℕ) (old new : ReadSet) → new.records ≡ old.records → stands k old ≡ true → k ≤ new.carriers → stands k new ≡ true
stands_with k old new same is enough = and_from _ _ (le-leb k new.carriers enough) (ap (list_any is_ready) same ∙ standing_ready k old is)

-- the records of a set that stands, cut by the sets above it
abbrev pub cut_records : ℕ → ReadSet → List ReadSet → List Placed
cut_records k set above = placed_from set.id 0 (cut_to (kept_by set.id (valid k above)) set.records)

-- A set that stands adds its records in front,
pub read_standing : (k : ℕ) (set : ReadSet) (above : List ReadSet) → stands k set ≡ true → records_of k (set ∷ above) ≡ cut_records k set above ++ records_of k above
read_standing k set above is = ap (λ b. placed (cond b (record { id = set.id; records = cut_to (kept_by set.id (valid k above)) set.records } ∷ valid k above) (valid k above))) is

-- and one that doesn't adds none.
pub read_fallen : (k : ℕ) (set : ReadSet) (above : List ReadSet) → stands k set ≡ false → records_of k (set ∷ above) ≡ records_of k above
read_fallen k set above is = ap (λ b. placed (cond b (record { id = set.id; records = cut_to (kept_by set.id (valid k above)) set.records } ∷ valid k above) (valid k above))) is
