-- Whether sets keep enough carriers where drives leave.
use Rattle.std.proofs.Common.{◌≡◌, ℕ, ◌+◌, ◌<◌, ◌≤◌, Bool, true, false, cond, List, [], ◌∷◌, ◌++◌, length, map, take, get_or, Some, refl, sym, ap, ap₂, ◌∙◌, subst, append-nil}
use Rattle.std.specs.Prelude.{◌&&◌, not, IsTrue, ◌↔◌, Contains}
use Rattle.std.specs.Bool.{Decides}
use Rattle.std.proofs.lemmas.Bool.{leb-true, le-leb}
use Rattle.std.specs.List.{AllByRecursion, list_all}
use Rattle.std.proofs.lemmas.List.{take_more}
use Rattle.std.proofs.lemmas.List.Elements.{filter-append}
use Rattle.zone_bay.specs.Contents.{Shape, Contents}
use Rattle.marker_format.specs.Zone.{Array}
use Rattle.array_model.specs.Drives.{Place, is_among, places_on, outside}
use Rattle.array_model.specs.Reading.{fragments_of, carriers_of, ids_at}
use Rattle.array_model.proofs.Records.{among_from_contains, contains_from_among}
use Rattle.array_model.proofs.Tests.{Decides-all}
use Rattle.array_scan.specs.declared.heads.HeadAt.{HeadAt}
use Rattle.array_scan.specs.declared.judge.SetScan.{SetScan}
use Rattle.array_scan.specs.declared.sets.Sets.{Sets}
use Rattle.array_scan.specs.SetRead.{Seen, seen_of, seen_at}
use Rattle.array_scan.specs.Heads.{heads_at, carriers_in}
use Rattle.array_scan.specs.Scan.{AreSetsOf}
use Rattle.array_scan.specs.Enough.{keeps, EachKeepsOn}
use Rattle.array_scan.proofs.HeadLaws.{carriers-heads}

-- ---- drives that stay

-- those of the first so many drives
pub outside_more : (leaving drives : List ℕ) (n d : ℕ) (others : List ℕ) (b : Bool) → n < length drives → is_among leaving (get_or drives n d) ≡ b → others ≡ outside leaving (take n drives) → cond b others (others ++ get_or drives n d ∷ []) ≡ outside leaving (take (n + 1) drives)
outside_more leaving drives n d others b below is so_far =
    sym (ap (outside leaving) (take_more drives n d below) ∙ filter-append (λ drive. not (is_among leaving drive)) (take n drives) (get_or drives n d ∷ []) ∙ ap₂ ◌++◌ (sym so_far) (outside_one b is) ∙ joined b)
  where
    outside_one : (b : Bool) → is_among leaving (get_or drives n d) ≡ b → outside leaving (get_or drives n d ∷ []) ≡ cond b [] (get_or drives n d ∷ [])
    outside_one true is = ap (λ b. cond (not b) (get_or drives n d ∷ []) []) is
    outside_one false is = ap (λ b. cond (not b) (get_or drives n d ∷ []) []) is

    joined : (b : Bool) → others ++ cond b [] (get_or drives n d ∷ []) ≡ cond b others (others ++ get_or drives n d ∷ [])
    joined true = append-nil others
    joined false = refl

pub outside_within : (leaving : List ℕ) (most : ℕ) (drives : List ℕ) → AllByRecursion (λ d. d < most) drives → AllByRecursion (λ d. d < most) (outside leaving drives)
outside_within leaving most [] all = tt
outside_within leaving most (d ∷ drives) all = kept (not (is_among leaving d)) (outside_within leaving most drives all.1)
  where
    kept : (b : Bool) → AllByRecursion (λ d. d < most) (outside leaving drives) → AllByRecursion (λ d. d < most) (cond b (d ∷ outside leaving drives) (outside leaving drives))
    kept true rest = (all.0, rest)
    kept false rest = rest

-- ---- sets that keep k carriers

-- the numbers of the sets that were seen
ids_seen : (array : Array) (held : Contents) (places : List Place) (list : List SetScan) (ids : List ℕ) → map (λ (s : SetScan). seen_of s.read) list ≡ map (seen_at array held places) ids → map (λ (s : SetScan). s.read.id) list ≡ ids
ids_seen array held places [] [] is = refl
ids_seen array held places [] (id ∷ ids) is = absurd cc
ids_seen array held places (s ∷ list) [] is = absurd cc
ids_seen array held places (s ∷ list) (id ∷ ids) is =
    let one : seen_of s.read ≡ seen_at array held places id = cc in
    ap₂ ◌∷◌ (ap (λ (x : Seen). x.id) one) (ids_seen array held places list ids cc)

-- a test of numbers, of each of the sets
of_ids : (test : ℕ → Bool) (list : List SetScan) → list_all (λ (s : SetScan). test s.read.id) list ≡ list_all test (map (λ (s : SetScan). s.read.id) list)
of_ids test [] = refl
of_ids test (s ∷ list) = ap (λ b. test s.read.id && b) (of_ids test list)

module _ (array : Array) (held : Contents) (places : List Place) (heads : List HeadAt) (are : heads ≡ heads_at array held places) where
  own : (id : ℕ) → length (carriers_in heads id (fragments_of array)) ≡ length (carriers_of array held places id)
  own id = ap length (ap (λ hs. carriers_in hs id (fragments_of array)) are ∙ carriers-heads array held places id)

  keep_decides : (ids : List ℕ) → Decides (list_all (keeps array.geometry.k (fragments_of array) heads) ids) ((set : ℕ) → Contains ids set → array.geometry.k ≤ length (carriers_of array held places set))
  keep_decides ids =
      let k = array.geometry.k in
      let all = Decides-all (keeps k (fragments_of array) heads) (λ (id : ℕ). k ≤ length (carriers_of array held places id))
      (λ id. (λ e. subst (λ (n : ℕ). k ≤ n) (own id) (leb-true k (length (carriers_in heads id (fragments_of array))) e), λ fits. le-leb k (length (carriers_in heads id (fragments_of array))) (subst (λ (n : ℕ). k ≤ n) (sym (own id)) fits))) ids in (
        λ e set found. all.0 e set (among_from_contains ids set found),
        λ keep. all.1 (λ id among. keep id (contains_from_among ids id among)),
      )

-- each set that was read keeps k where the test says so
pub kept_by : (array : Array) (shape : Shape) (held : Contents) (drives leaving : List ℕ) (sets : Sets) (heads : List HeadAt) → heads ≡ heads_at array held (places_on shape (outside leaving drives))
    → (kept : Bool) → kept ≡ list_all (λ (s : SetScan). keeps array.geometry.k (fragments_of array) heads s.read.id) sets.list.items
    → AreSetsOf (Some array) shape held drives sets → IsTrue kept ↔ EachKeepsOn (Some array) shape held drives leaving
kept_by array shape held drives leaving sets heads are kept is of =
    let ids = ids_at array held (places_on shape drives) in
    let test = keeps array.geometry.k (fragments_of array) heads in
    let same : kept ≡ list_all test ids = is ∙ of_ids test sets.list.items ∙ ap (list_all test) (ids_seen array held (places_on shape drives) sets.list.items ids of.seen) in
    let decides = keep_decides array held (places_on shape (outside leaving drives)) heads are ids in
    (λ e. decides.0 (sym same ∙ e), λ keep. same ∙ decides.1 keep)
