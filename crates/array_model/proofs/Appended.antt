-- Records behind those of the highest set that stands.
use Rattle.std.proofs.Common.{◌≡◌, ℕ, ◌+◌, Bool, true, false, cond, ◌||◌, List, [], ◌∷◌, ◌++◌, length, None, refl, sym, ap, ◌∙◌, append_assoc, append-nil, arith}
use Rattle.std.specs.List.{AllByRecursion}
use Rattle.std.specs.List.{list_any}
use Rattle.std.proofs.lemmas.Bool.{and_parts, and_from}
use Rattle.std.proofs.lemmas.List.Folds.{list_any-append}
use Rattle.array_model.specs.Record.{Record, is_ready}
use Rattle.array_model.specs.Sets.{ReadSet, Placed, stands, cut_to, kept_by, lesser, least_kept, placed_from, placed, valid, records_of}
use Rattle.array_model.specs.Map.{items_of}
use Rattle.array_model.specs.SetLaws.{Appends}
use Rattle.array_model.proofs.Sets.{lesser_none, standing_ready, kept_least, least_joined, items_placed, items_joined, placed_in, cut_records, read_standing, read_fallen}

-- Sets of which none stands have no valid records.
none_valid : (k : ℕ) (above : List ReadSet) → AllByRecursion (λ set. stands k set ≡ false) above → valid k above ≡ []
none_valid k [] fell = refl
none_valid k (set ∷ above) fell = ap (λ b. cond b (record { id = set.id; records = cut_to (kept_by set.id (valid k above)) set.records } ∷ valid k above) (valid k above)) fell.0 ∙ none_valid k above fell.1

placed_joined : (set position : ℕ) (first rest : List Record) → placed_from set position (first ++ rest) ≡ placed_from set position first ++ placed_from set (position + length first) rest
placed_joined set position [] rest = ap (λ n. placed_from set n rest) (omega arith)
placed_joined set position (item ∷ first) rest =
    ap (λ r. record { set = set; position = position; item = item } ∷ r) (placed_joined set (position + 1) first rest ∙ ap (λ n. placed_from set (position + 1) first ++ placed_from set n rest) (omega arith))

-- what the records cut off of these sets is nothing: each of them is cut to what it was
abbrev pub CutNothingOff : ℕ → List Record → List ReadSet → List ReadSet → Type 0
CutNothingOff k more tail [] = Unit {0}
CutNothingOff k more tail (set ∷ below) = (cut_to (lesser (kept_by set.id (valid k (below ++ tail))) (least_kept set.id more)) set.records ≡ cut_to (kept_by set.id (valid k (below ++ tail))) set.records) × CutNothingOff k more tail below

-- What is kept of a set by records with others behind them.
pub kept_joined : (k target : ℕ) (more : List Record) (sets : List ReadSet) (first extra : List Placed) → records_of k sets ≡ first ++ extra → items_of extra ≡ more → kept_by target (valid k sets) ≡ lesser (least_kept target (items_of first)) (least_kept target more)
kept_joined k target more sets first extra is are =
    kept_least target (valid k sets)
    ∙ ap (λ r. least_kept target (items_of r)) is
    ∙ ap (least_kept target) (items_joined first extra)
    ∙ least_joined target (items_of first) (items_of extra)
    ∙ ap (λ items. lesser (least_kept target (items_of first)) (least_kept target items)) are

-- Where more records stand behind and cut nothing off, the records are as before, and those behind them.
pub read_appended : (k : ℕ) (more : List Record) (tail tail' : List ReadSet) (extra : List Placed) → records_of k tail' ≡ records_of k tail ++ extra → items_of extra ≡ more → (below : List ReadSet) → CutNothingOff k more tail below → records_of k (below ++ tail') ≡ records_of k (below ++ tail) ++ extra
read_appended k more tail tail' extra behind are [] nothing = behind
read_appended k more tail tail' extra behind are (set ∷ below) nothing =
    one_more (stands k set) refl (read_appended k more tail tail' extra behind are below nothing.1)
  where
    one_more : (b : Bool) → stands k set ≡ b → records_of k (below ++ tail') ≡ records_of k (below ++ tail) ++ extra → records_of k (set ∷ (below ++ tail')) ≡ records_of k (set ∷ (below ++ tail)) ++ extra
    one_more true is rest =
        let kept : kept_by set.id (valid k (below ++ tail')) ≡ lesser (kept_by set.id (valid k (below ++ tail))) (least_kept set.id more) =
        kept_joined k set.id more (below ++ tail') (records_of k (below ++ tail)) extra rest are ∙ ap (λ o. lesser o (least_kept set.id more)) (sym (kept_least set.id (valid k (below ++ tail)))) in
        let same : cut_records k set (below ++ tail') ≡ cut_records k set (below ++ tail) = ap (λ o. placed_from set.id 0 (cut_to o set.records)) kept ∙ ap (placed_from set.id 0) nothing.0 in
        read_standing k set (below ++ tail') is
        ∙ ap (λ r. r ++ records_of k (below ++ tail')) same
        ∙ ap (λ r. cut_records k set (below ++ tail) ++ r) rest
        ∙ sym (append_assoc (cut_records k set (below ++ tail)) (records_of k (below ++ tail)) extra)
        ∙ ap (λ r. r ++ extra) (sym (read_standing k set (below ++ tail) is))
    one_more false fell rest = read_fallen k set (below ++ tail') fell ∙ rest ∙ ap (λ r. r ++ extra) (sym (read_fallen k set (below ++ tail) fell))

-- the highest set that stands, before and after, and the records behind its own
pub extra_of : ReadSet → List Record → List Placed
extra_of top more = placed_from top.id (length top.records) more

pub items_extra : (top : ReadSet) (more : List Record) → items_of (extra_of top more) ≡ more
unfolding extra_of
items_extra top more = items_placed top.id (length top.records) more

pub extra_in : (top : ReadSet) (more : List Record) → AllByRecursion (λ (it : Placed). it.set ≡ top.id) (extra_of top more)
unfolding extra_of
extra_in top more = placed_in top.id (length top.records) more

pub read_highest : (k : ℕ) (top : ReadSet) (above : List ReadSet) → stands k top ≡ true → AllByRecursion (λ set. stands k set ≡ false) above → records_of k (top ∷ above) ≡ placed_from top.id 0 top.records
read_highest k top above stood highest =
    let none = none_valid k above highest in
    read_standing k top above stood
    ∙ ap (λ v. placed_from top.id 0 (cut_to (kept_by top.id v) top.records) ++ placed v) none
    ∙ append-nil (placed_from top.id 0 top.records)

still_stands : (k : ℕ) (top : ReadSet) (more : List Record) → stands k top ≡ true → stands k (record top { records = top.records ++ more }) ≡ true
still_stands k top more stood = and_from _ _ (and_parts _ _ stood).0 (list_any-append is_ready top.records more ∙ ap (λ b. b || list_any is_ready more) (standing_ready k top stood))

pub read_top : (k : ℕ) (top : ReadSet) (more : List Record) (above : List ReadSet) → stands k top ≡ true → AllByRecursion (λ set. stands k set ≡ false) above → records_of k (record top { records = top.records ++ more } ∷ above) ≡ records_of k (top ∷ above) ++ extra_of top more
unfolding extra_of
read_top k top more above stood highest =
    read_highest k (record top { records = top.records ++ more }) above (still_stands k top more stood) highest
    ∙ placed_joined top.id 0 top.records more
    ∙ ap (λ n. placed_from top.id 0 top.records ++ placed_from top.id n more) (omega arith)
    ∙ ap (λ r. r ++ placed_from top.id (length top.records) more) (sym (read_highest k top above stood highest))

-- What is valid after more records that cut nothing off, and what it says.
pub read_places : (k : ℕ) (more : List Record) (old new : List ReadSet) (it : Appends k more old new) → CutNothingOff k more (it.top ∷ it.above) it.below → records_of k new ≡ records_of k old ++ extra_of it.top more
read_places k more old new it nothing =
    ap (records_of k) it.is
    ∙ read_appended k more (it.top ∷ it.above) _ (extra_of it.top more) (read_top k it.top more it.above it.stood it.highest) (items_extra it.top more) it.below nothing
    ∙ ap (λ sets. records_of k sets ++ extra_of it.top more) (sym it.was)

pub read_more : (k : ℕ) (more : List Record) (old new : List ReadSet) (it : Appends k more old new) → CutNothingOff k more (it.top ∷ it.above) it.below → items_of (records_of k new) ≡ items_of (records_of k old) ++ more
read_more k more old new it nothing =
    ap items_of (read_places k more old new it nothing)
    ∙ items_joined (records_of k old) (extra_of it.top more)
    ∙ ap (λ items. items_of (records_of k old) ++ items) (items_extra it.top more)

-- Records among which is no cut cut nothing off.
pub no_cut_nothing_off : (k : ℕ) (more : List Record) (tail : List ReadSet) → ((target : ℕ) → least_kept target more ≡ None) → (below : List ReadSet) → CutNothingOff k more tail below
no_cut_nothing_off k more tail none [] = tt
no_cut_nothing_off k more tail none (set ∷ below) =
    (ap (λ o. cut_to (lesser (kept_by set.id (valid k (below ++ tail))) o) set.records) (none set.id) ∙ ap (λ o. cut_to o set.records) (lesser_none (kept_by set.id (valid k (below ++ tail)))), no_cut_nothing_off k more tail none below)
