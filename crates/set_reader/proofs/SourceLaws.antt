-- The source fragments, from k fragments.
use Rattle.std.proofs.Common.{◌≡◌, ℕ, zero, suc, ◌+◌, ◌-◌, ◌*◌, ◌<◌, ◌≤◌, Bool, true, false, List, [], ◌∷◌, ◌++◌, length, take, drop, get_or, set, Result, Ok, Err, OnOk, inl, inr, refl, sym, ap, ap₂, ◌∙◌, subst, arith, append_assoc}
use Rattle.std.specs.Prelude.{slice_index, nat_eq}
use Rattle.std.specs.List.{AllByRecursion, IsDistinct, flat_map, range_with_len}
use Rattle.std.proofs.lemmas.Bool.{cases_lt}
use Rattle.std.proofs.lemmas.List.{take_at, drop_at, drop-drop, take_more, take_more_set, get_or-map, length-append, length-take, length-drop, length-map, map-append, take-append-le, take-take, drop-take, get_or_append_left, get_or-append-add, get_or_past}
use Rattle.std.proofs.lemmas.List.Elements.{recursion_from_All}
use Rattle.std.proofs.lemmas.Grind.{div_ceil_times}
use Rattle.zone_bay.specs.Contents.{Contents}
use Rattle.marker_format.specs.Fragment.{blocks_of, content_at, fragment_at}
use Rattle.rs_code.specs.Fragments as code
use Rattle.rs_code.specs.Fragments.{piece, AreIndexes, HoldsFragments, GivesFragment, HasCode}
use Rattle.rs_code.proofs.Codes.{code_through}
use Rattle.gf_field.specs.Field.{IsByte}
use Rattle.array_model.specs.Payload as model
use Rattle.array_model.specs.Payload.{Fragment, fragment_from}
use Rattle.array_model.proofs.Payloads.{fragment_is}
use Rattle.set_table.specs.declared.members.Member.{Member}
use Rattle.rs_code.proofs.Joined.{joined_pieces}
use Rattle.set_reader.specs.Rows.{HasBlocks, fragment_on, rows_of, given_by, indexes_of, sources_from, AreSources, space_of}

-- ---- indexes

pub index_at : (members : List Member) (i : ℕ) (d : Member) → i < length members → slice_index (indexes_of members) i ≡ (get_or members i d).index
index_at members i d below = get_or-map (λ (m : Member). m.index) members i d 0 below

-- the first ones are their own places, and so is the next
pub own_places : (members : List Member) (n : ℕ) → ((i : ℕ) → i < n → slice_index (indexes_of members) i ≡ i) → slice_index (indexes_of members) n ≡ n → (i : ℕ) → i < n + 1 → slice_index (indexes_of members) i ≡ i
own_places members n first here i below = elim (cases_lt i n) [
  | inl before ↦ first i before
  | inr from ↦ let same : i ≡ n = omega (arith, below, from) in ap (slice_index (indexes_of members)) same ∙ here ∙ sym same
]

-- one more index is written
pub indexes_more : (members : List Member) (written : List ℕ) (n : ℕ) (d : Member) → n < length members → n < length written → take n written ≡ indexes_of (take n members) → take (n + 1) (set written n (get_or members n d).index) ≡ indexes_of (take (n + 1) members)
indexes_more members written n d below room so_far =
    take_more_set written n (get_or members n d).index room
    ∙ ap (λ (l : List ℕ). l ++ (get_or members n d).index ∷ []) so_far
    ∙ sym (ap indexes_of (take_more members n d below) ∙ map-append (λ (m : Member). m.index) (take n members) (get_or members n d ∷ []))

-- ---- the fragments of members

content_length : (zone : List ℕ) (block count : ℕ) → 512 * (block + count) ≤ length zone → length (flat_map (content_at zone) (range_with_len block count)) ≡ 511 * count
content_length zone block zero within = refl
content_length zone block (suc count) within =
    let here : length (content_at zone block) ≡ 511 = omega (arith, within, length-drop 1 (take 512 (drop (512 * block) zone)), length-take 512 (drop (512 * block) zone), length-drop (512 * block) zone) in
    let rest = content_length zone (block + 1) count (omega (arith, within)) in
    omega (arith, length-append (content_at zone block) (flat_map (content_at zone) (range_with_len (block + 1) count)), here, rest)

-- a fragment whose blocks are there has its length
pub fragment_length : (zone : List ℕ) (block f : ℕ) → 512 * (block + blocks_of f) ≤ length zone → length (fragment_at zone block f) ≡ f
fragment_length zone block f within =
    let all = flat_map (content_at zone) (range_with_len block (blocks_of f)) in
    let long = content_length zone block (blocks_of f) within in
    let bound = div_ceil_times f 511 (omega arith) in
    omega (arith, length-take f all, long, bound.0)

module _ (held : Contents) (block f : ℕ) where
  one : (m : Member) → HasBlocks held block f m → length (fragment_on held block f m) ≡ f
  one m has = fragment_length (held m.device m.zone) (block + 1) f has

  pub rows_length : (members : List Member) → AllByRecursion (HasBlocks held block f) members → length (rows_of held block f members) ≡ length members * f
  rows_length [] has = let e : 0 ≡ 0 * f = omega arith in e
  rows_length (m ∷ members) has =
      let rest = rows_length members has.1 in
      let first = one m has.0 in
      let both = length-append (fragment_on held block f m) (rows_of held block f members) in
      let e : f + length members * f ≡ suc (length members) * f = omega arith in
      both ∙ ap₂ (λ (a b : ℕ). a + b) first rest ∙ e

  -- each of them is one of the code's
  given_each : (n : ℕ) (fragments : List (List ℕ)) (members : List Member) → AllByRecursion (HasBlocks held block f) members → AllByRecursion (λ i. i < n) (indexes_of members) → HoldsFragments fragments f (indexes_of members) (rows_of held block f members)
      → AllByRecursion (λ (x : Fragment). (x.index < n) × (x.bytes ≡ model.fragment_of fragments x.index)) (given_by held block f members)
  given_each n fragments [] has below holds = tt
  given_each n fragments (m ∷ members) has below holds =
      let first = fragment_on held block f m in
      let rest = rows_of held block f members in
      let long = one m has.0 in
      let here : take f (drop (0 * f) (first ++ rest)) ≡ first = ap (λ j. take f (drop j (first ++ rest))) (let e : 0 * f ≡ 0 = omega arith in e) ∙ take_at first rest f long in
      let later : (j : ℕ) → piece (first ++ rest) f (suc j) ≡ piece rest f j =
      λ j. ap (λ x. take f (drop x (first ++ rest))) (let e : suc j * f ≡ f + j * f = omega arith in e) ∙ ap (take f) (sym (drop-drop (j * f) f (first ++ rest)) ∙ ap (drop (j * f)) (drop_at first rest f long)) in (
        (below.0, sym here ∙ holds 0 (omega arith)),
        given_each n fragments members has.1 below.1 (λ j within. sym (later j) ∙ holds (suc j) (omega (arith, within))),
      )

-- ---- all source fragments

module _ (k n f block : ℕ) (held : Contents) (members : List Member) (rows : List ℕ) (fits : k ≤ n) (few : n ≤ 256) (indexes : AreIndexes k n (indexes_of members))
    (has : AllByRecursion (HasBlocks held block f) members) (is : rows ≡ rows_of held block f members) (bytes : (i : ℕ) → IsByte (get_or rows i 0)) where
  size : length rows ≡ k * f
  size = ap length is ∙ rows_length held block f members has ∙ ap (λ j. j * f) (sym (length-map members (λ (m : Member). m.index)) ∙ indexes.count)

  pub sources_made : (out : List ℕ) → length out ≡ k * f → ((i : ℕ) → i < k → GivesFragment k n f (indexes_of members) rows i (piece out f i)) → out ≡ sources_from k f (given_by held block f members)
  sources_made out room gives =
      let through : HasCode k n f (indexes_of members) rows = code_through k n f (indexes_of members) rows few indexes bytes size in
      let fragments = through.0 in
      let c = through.1 in
      let holds = through.2 in
      let is_code : model.IsCode k n f fragments = record { count = c.count; lengths = c.lengths; columns = c.columns } in
      let some : model.AreSome k n fragments (given_by held block f members) = record {
        count = length-map members _ ∙ sym (length-map members (λ (m : Member). m.index)) ∙ indexes.count;
        distinct = subst (λ (l : List ℕ). IsDistinct nat_eq l) (given_indexes members) indexes.distinct;
        each = given_each held block f n fragments members has (recursion_from_All (λ i. i < n) (indexes_of members) indexes.below) (subst (HoldsFragments fragments f (indexes_of members)) is holds);
      } in
      joined_pieces k f 0 (fragment_from (given_by held block f members) f) out room (λ i below.
      gives i below fragments c holds
      ∙ sym (ap (fragment_from (given_by held block f members) f) (let e : 0 + i ≡ i = omega arith in e) ∙ fragment_is k n f i fragments (given_by held block f members) few (omega (arith, below, fits)) is_code some))
    where
      given_indexes : (members : List Member) → indexes_of members ≡ model.indexes_of (given_by held block f members)
      given_indexes [] = refl
      given_indexes (m ∷ members) = ap (λ (l : List ℕ). m.index ∷ l) (given_indexes members)

  -- the source fragments were read
  pub sources_read : AreSources members → rows ≡ sources_from k f (given_by held block f members)
  sources_read own = sources_made rows size (λ i below fragments c holds.
      let within : i < length (indexes_of members) = omega (arith, below, indexes.count) in
      holds i within ∙ ap (code.fragment_at fragments) (own i (omega (arith, within, length-map members (λ (m : Member). m.index)))))

-- ---- bytes among others

pub bytes_in_front : (xs ys : List ℕ) → ((i : ℕ) → IsByte (get_or (xs ++ ys) i 0)) → (i : ℕ) → IsByte (get_or xs i 0)
bytes_in_front xs ys all i = elim (cases_lt i (length xs)) [
  | inl within ↦ subst IsByte (get_or_append_left xs ys 0 i within) (all i)
  | inr past ↦ let none = get_or_past xs i 0 past in omega (arith, none)
]

pub bytes_behind : (xs ys : List ℕ) → ((i : ℕ) → IsByte (get_or (xs ++ ys) i 0)) → (i : ℕ) → IsByte (get_or ys i 0)
bytes_behind xs ys all i = subst IsByte (get_or-append-add xs ys i 0) (all (length xs + i))

pub if_read : {E T : Type 0} (r : Result T E) (P Q : Type 0) → (P → Q) → OnOk r P → OnOk r Q
if_read (Ok x) P Q so h = so h
if_read (Err e) P Q so h = tt

-- a part of a list was written
pub written_part : (from n len : ℕ) (front part post rest : List ℕ) → length front ≡ from → n ≤ length part → from + n ≤ len → take n (drop from (take len ((front ++ (part ++ post)) ++ rest))) ≡ take n part
written_part from n len front part post rest long enough within =
    let all = (front ++ (part ++ post)) ++ rest in
    let split : len ≡ from + (len - from) = omega (arith, within) in
    ap (λ j. take n (drop from (take j all))) split
    ∙ ap (take n) (drop-take from (len - from) all)
    ∙ take-take n (len - from) (drop from all) (omega (arith, within))
    ∙ ap (λ (l : List ℕ). take n (drop from l)) (append_assoc front (part ++ post) rest)
    ∙ ap (take n) (drop_at front ((part ++ post) ++ rest) from long ∙ append_assoc part post rest)
    ∙ take-append-le n part (post ++ rest) enough

-- the room is enough for the source fragments
pub space_holds : (plain : Bool) (size f : ℕ) → size ≤ space_of plain size f
space_holds true size f = omega arith
space_holds false size f = omega arith
