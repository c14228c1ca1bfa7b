-- Reading the parts of an object, one behind the other.
use Rattle.std.proofs.Common.{◌≡◌, ℕ, zero, suc, ◌+◌, ◌-◌, ◌<◌, ◌≤◌, Bool, true, false, cond, List, ◌++◌, length, take, drop, Option, Some, None, Result, Ok, Err, refl, sym, ap, ◌∙◌, arith}
use Rattle.std.specs.Prelude.{◌==◌, option_map}
use Rattle.std.specs.FinMap as finmap
use Rattle.std.proofs.lemmas.Bool.{eqb-true, eq-eqb}
use Rattle.std.proofs.lemmas.List.{append_assoc, length-take, length-drop}
use Rattle.std.proofs.lemmas.Slice.{take-put_mid}
use borrow.Rule.Slice.PartMut.{put_mid}
use Rattle.smore_base.specs.Objects.{Whole, Broken}
use Rattle.marker_format.specs.declared.marker.Marker.{Marker}
use Rattle.marker_format.specs.Zone.{Array, Stand}
use Rattle.marker_format.specs.Fragment.{fragment_at}
use Rattle.array_model.specs.Map.{part_of, joined, parts_from, object_by, object_of}
use Rattle.store_core.specs.declared.extent.Extent.TheVariants.{Sized, Broken as BrokenExtent}
use Rattle.store_core.specs.declared.index.Note.{Note}
use Rattle.store_core.specs.declared.index.Part.{Part}
use Rattle.store_core.specs.declared.index.Index.{Index}
use Rattle.store_core.specs.Index.{Parts, parts_in, added, bytes_from, extent_by, sizes_in, extent_in}
use Rattle.store_core.specs.Said.{Says}
use Rattle.store_core.specs.Get.{part_in, parts_at, AllLieIn}
use Rattle.marker_format.proofs.FragmentLaws.{fragment_at-front}
use Rattle.store_core.proofs.Extents.{plus, IsSoFar, unrolled}
use Rattle.store_core.proofs.ZoneItems.{items_from}
use Rattle.store_core.proofs.HeldItems.{payload_in, part_found, sized, sizes_found, found_lies}

-- ---- how many bytes there are

by_bytes : (note : Note) (r : Result ℕ ℕ) (bytes : ℕ) → extent_by note r ≡ Sized bytes → (r ≡ Ok bytes) × (bytes ≡ note.length)
by_bytes note (Err missing) bytes e = absurd cc
by_bytes note (Ok sum) bytes e = at_one (sum == note.length) refl e
  where
    at_one : (b : Bool) → (sum == note.length) ≡ b → cond b (Sized sum) (BrokenExtent note.upload note.parts) ≡ Sized bytes → (let r : Result ℕ ℕ = Ok sum in r ≡ Ok bytes) × (bytes ≡ note.length)
    at_one true is e = let same : sum ≡ bytes = cc in (ap Ok same, sym same ∙ eqb-true sum note.length is)
    at_one false is e = absurd cc

-- the parts of a note that says an object of so many bytes have so many together
pub sized_sum : (parts : Parts) (note : Note) (bytes : ℕ) → extent_in parts note ≡ Sized bytes → (bytes_from (sizes_in parts note.upload) 0 note.parts ≡ Ok bytes) × (bytes ≡ note.length)
sized_sum parts note bytes e = by_bytes note (bytes_from (sizes_in parts note.upload) 0 note.parts) bytes e

plus_is : (bytes total : ℕ) (r : Result ℕ ℕ) → plus bytes r ≡ Ok total → (rest : ℕ) × (r ≡ Ok rest) × (bytes + rest ≡ total)
plus_is bytes total (Ok rest) e = (rest, refl, cc)
plus_is bytes total (Err missing) e = absurd cc

added_is : (o : Option ℕ) (part total : ℕ) (r : Result ℕ ℕ) → added o part r ≡ Ok total → (size : ℕ) × (rest : ℕ) × (o ≡ Some size) × (r ≡ Ok rest) × (size + rest ≡ total)
added_is None part total r e = absurd cc
added_is (Some size) part total (Ok rest) e = (size, rest, refl, refl, cc)
added_is (Some size) part total (Err missing) e = absurd cc

module _ (sizes : ℕ → Option ℕ) (parts total : ℕ) (sum : bytes_from sizes 0 parts ≡ Ok total) (part bytes : ℕ) (so_far : IsSoFar sizes parts part bytes) where
  rest_is : (rest : ℕ) × (bytes_from sizes part (parts - part) ≡ Ok rest) × (bytes + rest ≡ total)
  rest_is = plus_is bytes total (bytes_from sizes part (parts - part)) (sym so_far ∙ sum)

  next_is : part < parts → (size : ℕ) × (rest : ℕ) × (sizes part ≡ Some size) × (bytes_from sizes (part + 1) (parts - (part + 1)) ≡ Ok rest) × (size + rest ≡ rest_is.0)
  next_is l = added_is (sizes part) part rest_is.0 (bytes_from sizes (part + 1) (parts - (part + 1))) (sym (unrolled sizes parts part l) ∙ rest_is.1)

  -- the next part ends within them
  pub sum_within : (size : ℕ) → part < parts → sizes part ≡ Some size → bytes + size ≤ total
  sum_within size l is =
      let next = next_is l in
      let same : Some size ≡ Some next.0 = sym is ∙ next.2 in
      let size_is : size ≡ next.0 = cc in
      omega (arith, rest_is.2, next.4, size_is)

-- ---- the bytes themselves

-- what is filled so far and what the other parts have is the object
abbrev pub IsFilledSoFar : Parts → List ℕ → ℕ → ℕ → ℕ → ℕ → List ℕ → Type 0
IsFilledSoFar parts zone upload count part at out = take at out ++ parts_at parts zone upload part (count - part) ≡ parts_at parts zone upload 0 count

pub filled_next : (parts : Parts) (zone : List ℕ) (upload count part at : ℕ) (p : Part) (out piece : List ℕ) → part < count → finmap.get parts (upload, part) ≡ Some p → piece ≡ fragment_at zone (p.block + 1) p.bytes → length piece ≡ p.bytes → at + p.bytes ≤ length out
    → IsFilledSoFar parts zone upload count part at out → IsFilledSoFar parts zone upload count (part + 1) (at + p.bytes) (put_mid at p.bytes out piece)
filled_next parts zone upload count part at p out piece l there is long within so_far =
    let rest = parts_at parts zone upload (part + 1) (count - (part + 1)) in
    let more : parts_at parts zone upload part (count - part) ≡ piece ++ rest =
    ap (parts_at parts zone upload part) (let n : count - part ≡ suc (count - (part + 1)) = omega arith in n)
    ∙ ap (λ o. part_in zone o ++ rest) there ∙ ap (λ (b : List ℕ). b ++ rest) (sym is) in
    ap (λ (b : List ℕ). b ++ rest) (take-put_mid at p.bytes out piece (at + p.bytes) (omega (arith, long)) (omega (arith, within)))
    ∙ append_assoc (take at out) piece rest
    ∙ ap (λ (b : List ℕ). take at out ++ b) (sym more)
    ∙ so_far

-- what stands behind them changes none
pub parts_at-front : (parts : Parts) (zone more : List ℕ) (upload part count : ℕ) → AllLieIn zone parts upload → parts_at parts (zone ++ more) upload part count ≡ parts_at parts zone upload part count
parts_at-front parts zone more upload part zero lie = refl
parts_at-front parts zone more upload part (suc count) lie =
    ap (λ (b : List ℕ). b ++ parts_at parts (zone ++ more) upload (part + 1) count) (at_one (finmap.get parts (upload, part)) refl)
    ∙ ap (λ (b : List ℕ). part_in zone (finmap.get parts (upload, part)) ++ b) (parts_at-front parts zone more upload (part + 1) count lie)
  where
    at_one : (o : Option Part) → finmap.get parts (upload, part) ≡ o → part_in (zone ++ more) o ≡ part_in zone o
    at_one None e = refl
    at_one (Some p) e = fragment_at-front zone more (p.block + 1) p.bytes (lie part p e)

-- ---- the object that a name stands for

module _ (array : Array) (one : array.geometry.k ≡ 1) (bytes : List ℕ) (ms : List Marker) (stand : Stand array bytes None 0 ms) (index : Index) (says : Says index ms) where
  pub all_lie : (upload : ℕ) → AllLieIn bytes (parts_in index) upload
  all_lie upload number part there = found_lies array one bytes ms stand index says upload number part there

  payloads : (upload part count total : ℕ) → bytes_from (sizes_in (parts_in index) upload) part count ≡ Ok total → parts_from (items_from bytes 0 ms) upload part count ≡ Ok (parts_at (parts_in index) bytes upload part count)
  payloads upload part zero total e = refl
  payloads upload part (suc count) total e = at_one (λ rest is. payloads upload (part + 1) count rest is) (finmap.get (parts_in index) (upload, part)) refl
    where
      at_one : ((rest : ℕ) → bytes_from (sizes_in (parts_in index) upload) (part + 1) count ≡ Ok rest → parts_from (items_from bytes 0 ms) upload (part + 1) count ≡ Ok (parts_at (parts_in index) bytes upload (part + 1) count))
          → (o : Option Part) → finmap.get (parts_in index) (upload, part) ≡ o → joined (part_of upload part (items_from bytes 0 ms)) part (parts_from (items_from bytes 0 ms) upload (part + 1) count) ≡ Ok (part_in bytes (finmap.get (parts_in index) (upload, part)) ++ parts_at (parts_in index) bytes upload (part + 1) count)
      at_one behind None none =
          let no = added_is (sizes_in (parts_in index) upload part) part total _ e in
          let no' : None ≡ Some no.0 = sym (ap (option_map (λ (p : Part). p.bytes)) none) ∙ no.2 in
          absurd cc
      at_one behind (Some p) there =
          let next = added_is (sizes_in (parts_in index) upload part) part total _ e in
          let later = behind next.1 next.3 in
          ap (λ o. joined o part (parts_from (items_from bytes 0 ms) upload (part + 1) count)) (part_found array one bytes ms stand index says upload part ∙ ap (option_map (payload_in bytes)) there)
          ∙ ap (joined (Some (payload_in bytes p)) part) later
          ∙ ap (λ o. Ok (part_in bytes o ++ parts_at (parts_in index) bytes upload (part + 1) count)) (sym there)

  pub length-parts_at : (upload count total : ℕ) → bytes_from (sizes_in (parts_in index) upload) 0 count ≡ Ok total → length (parts_at (parts_in index) bytes upload 0 count) ≡ total
  length-parts_at upload count total e =
      let all : sized (Ok (parts_at (parts_in index) bytes upload 0 count)) ≡ Ok total = sym (ap sized (payloads upload 0 count total e)) ∙ sizes_found array one bytes ms stand index says upload 0 count ∙ e in
      cc

  whole : (upload parts size : ℕ) (payload : List ℕ) (r : Result (List ℕ) ℕ) → r ≡ Ok payload → length payload ≡ size → object_by upload parts size r ≡ Whole payload
  whole upload parts size payload r is long =
      ap (object_by upload parts size) is ∙ ap (λ b. cond b (Whole payload) (Broken upload parts)) (eq-eqb (length payload) size long)

  -- the object of a note that says one of so many bytes
  pub object_is : (note : Note) (size : ℕ) → extent_in (parts_in index) note ≡ Sized size → object_of (items_from bytes 0 ms) note.upload note.parts note.length ≡ Whole (parts_at (parts_in index) bytes note.upload 0 note.parts)
  object_is note size said =
      let sum = sized_sum (parts_in index) note size said in
      whole note.upload note.parts note.length (parts_at (parts_in index) bytes note.upload 0 note.parts) _ (payloads note.upload 0 note.parts size sum.0) (length-parts_at note.upload note.parts size sum.0 ∙ sum.1)

-- ---- a part's place in what is filled

pub length-piece : (at bytes : ℕ) (out : List ℕ) → at + bytes ≤ length out → length (take (at + bytes - at) (drop at out)) ≡ bytes
length-piece at bytes out within = omega (arith, length-take (at + bytes - at) (drop at out), length-drop at out, within)
