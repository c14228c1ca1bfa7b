-- Sets as they are seen.
use Rattle.std.proofs.Common.{◌≡◌, ℕ, Bool, List, [], ◌∷◌, ◌++◌, map, None, IfSome, sym, ap, ◌∙◌, subst, append_assoc, append-nil}
use Rattle.std.specs.List.{AllByRecursion}
use Rattle.std.proofs.lemmas.List.{map-append}
use Rattle.zone_bay.specs.Contents.{Shape, Contents}
use Rattle.zone_bay.specs.Bay.{BayState}
use Rattle.marker_format.specs.Zone.{Array, Placed, placed_from}
use Rattle.array_model.specs.Drives.{Place}
use Rattle.array_model.specs.Reading as model
use Rattle.array_model.proofs.SameZones.{all-append}
use Rattle.array_scan.specs.declared.heads.HeadAt.{HeadAt}
use Rattle.array_scan.specs.declared.set_read.Carrier.{Carrier}
use Rattle.array_scan.specs.declared.set_read.SetRead.{SetRead}
use Rattle.array_scan.specs.SetRead.{carrier_of, FitsBay, Seen, seen_of, seen_at}
use Rattle.array_scan.specs.Heads.{heads_at, carriers_in, ids_of}
use Rattle.array_scan.specs.Calls.{OnlyRead}
use Rattle.array_scan.proofs.Calls.{told_at, told_from, read_nothing, read_then}
use Rattle.array_scan.proofs.HeadLaws.{carriers-heads, ids-heads}

seen_parts : (id : ℕ) (carriers carriers' : List model.Carrier) (placed placed' : List Placed) (closed closed' : Bool) → carriers ≡ carriers' → placed ≡ placed' → closed ≡ closed'
    → ◌≡◌ {A = Seen} (record { id = id; carriers = carriers; placed = placed; closed = closed }) (record { id = id; carriers = carriers'; placed = placed'; closed = closed' })
seen_parts id carriers carriers' placed placed' closed closed' p q r = λ i. record { id = id; carriers = p i; placed = q i; closed = r i }

-- a set whose carriers were found among the heads, and then read
pub set_seen : (array : Array) (held : Contents) (places : List Place) (heads : List HeadAt) (id : ℕ) (carriers : List Carrier) (placed : List Placed) (closed : Bool) → heads ≡ heads_at array held places
    → map carrier_of carriers ≡ carriers_in heads id (model.fragments_of array) → placed ≡ placed_from 0 (model.agreed array held (map carrier_of carriers)) → closed ≡ model.are_closed array held (map carrier_of carriers)
    → ◌≡◌ {A = Seen} (record { id = id; carriers = map carrier_of carriers; placed = placed; closed = closed }) (seen_at array held places id)
set_seen array held places heads id carriers placed closed are found agree foot =
    let same : map carrier_of carriers ≡ model.carriers_of array held places id = found ∙ ap (λ hs. carriers_in hs id (model.fragments_of array)) are ∙ carriers-heads array held places id in
    seen_parts id _ _ _ _ _ _ same (agree ∙ ap (λ cs. placed_from 0 (model.agreed array held cs)) same) (foot ∙ ap (model.are_closed array held) same)

-- what is known of the sets that were read so far, and of those whose numbers are left
pub record SetsSeen (array : Array) (indexes : ℕ) (before now : BayState) (heads : List HeadAt) (sets : List SetRead) (left : List ℕ) : Type 0 where
  pub read : OnlyRead before now None
  pub fits : AllByRecursion (FitsBay before.shape indexes) sets
  pub seen : IfSome before.contents (λ held. (places : List Place) → heads ≡ heads_at array held places → map seen_of sets ++ map (seen_at array held places) left ≡ map (seen_at array held places) (model.ids_at array held places))

pub sets_none : (array : Array) (indexes : ℕ) (bay : BayState) (heads : List HeadAt) (ids : List ℕ) → ids ≡ ids_of heads → SetsSeen array indexes bay bay heads [] ids
sets_none array indexes bay heads ids are = record {
  read = read_nothing bay;
  fits = tt;
  seen = told_from bay.contents _ (λ held is places heads_are. ap (map (seen_at array held places)) (are ∙ ap ids_of heads_are ∙ ids-heads array held places));
}

pub sets_more : (array : Array) (indexes : ℕ) (before mid after : BayState) (heads : List HeadAt) (sets : List SetRead) (id : ℕ) (left : List ℕ) (set : SetRead) → SetsSeen array indexes before mid heads sets (id ∷ left) → OnlyRead mid after None → FitsBay mid.shape indexes set
    → IfSome mid.contents (λ held. (places : List Place) → heads ≡ heads_at array held places → seen_of set ≡ seen_at array held places id) → SetsSeen array indexes before after heads (sets ++ set ∷ []) left
sets_more array indexes before mid after heads sets id left set so_far read fits seen = record {
  read = read_then before mid after None so_far.read read;
  fits = all-append (FitsBay before.shape indexes) sets (set ∷ []) so_far.fits (subst (λ (s : Shape). FitsBay s indexes set) so_far.read.only.goes_on.same_shape fits, tt);
  seen = told_from before.contents _ (λ held is places heads_are.
      ap (λ l. l ++ map (seen_at array held places) left) (map-append seen_of sets (set ∷ []))
      ∙ append_assoc (map seen_of sets) (seen_of set ∷ []) (map (seen_at array held places) left)
      ∙ ap (λ s. map seen_of sets ++ s ∷ map (seen_at array held places) left) (told_at mid.contents _ held (so_far.read.only.contents ∙ is) seen places heads_are)
      ∙ told_at before.contents _ held is so_far.seen places heads_are);
}

pub sets_all : (array : Array) (indexes : ℕ) (before now : BayState) (heads : List HeadAt) (sets : List SetRead) → SetsSeen array indexes before now heads sets []
    → IfSome before.contents (λ held. (places : List Place) → heads ≡ heads_at array held places → map seen_of sets ≡ map (seen_at array held places) (model.ids_at array held places))
sets_all array indexes before now heads sets so_far = told_from before.contents _ (λ held is places heads_are. sym (append-nil (map seen_of sets)) ∙ told_at before.contents _ held is so_far.seen places heads_are)
