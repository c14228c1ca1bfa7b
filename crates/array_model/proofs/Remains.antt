-- What remains after any removals, one removal at a time.
use Rattle.std.proofs.Common.{◌≡◌, ℕ, List, [], ◌∷◌, ◌++◌, refl, sym, subst}
use Rattle.zone_bay.specs.Contents.{Shape, Contents}
use Rattle.zone_bay.specs.Images.{without_each}
use Rattle.marker_format.specs.Zone.{Array}
use Rattle.array_model.specs.Reading.{read_of}
use Rattle.array_model.specs.Map.{map_of}
use Rattle.array_model.specs.Possible.{IsPossibleMap}
use Rattle.array_model.specs.Enough.{IsEnough, IsLeftAfter, IsRemains}
use Rattle.array_model.specs.RemovalLaws.{AreAlwaysCopies, ImageRemains, RemovalLeavesRemains, RemainsFollow, RemainsHavePossibleMaps, RemainsAddNoMaps, WhatShowsIsKept, RemainsAreKept}
use Rattle.array_model.specs.Kept.{ShowsKept}
use Rattle.smore_base.specs.Objects.{Map}
use Rattle.array_model.proofs.Possible.{nothing_new_is_possible, copies_stay, read_is_possible}
use Rattle.array_model.proofs.KeptStays.{shows_left}

pub image_remains : ImageRemains
image_remains array shape lost image = ([], refl)

-- More removals behind others are removals.
more_removals : (array : Array) (shape : Shape) (first more : List (List ℕ)) (held mid left : Contents) → IsLeftAfter array shape first held mid → IsLeftAfter array shape more mid left → IsLeftAfter array shape (first ++ more) held left
more_removals array shape [] more held mid left is then = subst (λ held. IsLeftAfter array shape more held left) is then
more_removals array shape (leaving ∷ first) more held mid left is then = (is.0, more_removals array shape first more (without_each leaving held) mid left is.1 then)

pub remains_follow : RemainsFollow
remains_follow array shape lost image mid left one other = (one.0 ++ other.0, more_removals array shape one.0 other.0 (without_each lost image) mid left one.1 other.1)

pub removal_leaves_remains : RemovalLeavesRemains
removal_leaves_remains array shape lost image held leaving remains enough =
    remains_follow array shape lost image held (without_each leaving held) remains (leaving ∷ [], (enough, refl))

pub remains_are_kept : RemainsAreKept
remains_are_kept array shape lost image left kept remains other more = kept other (remains_follow array shape lost image left other remains more)

-- What each removal with enough keeps of all that remains holds of each remains.
pub holds_of_remains : (array : Array) (shape : Shape) (lost : List ℕ) (image : Contents) (P : Contents → Type 0) → P (without_each lost image) → ((held : Contents) (leaving : List ℕ) → IsRemains array shape lost image held → P held → IsEnough array shape [] held leaving → P (without_each leaving held)) → (left : Contents) → IsRemains array shape lost image left → P left
holds_of_remains array shape lost image P first step left remains = after remains.0 (without_each lost image) (image_remains array shape lost image) first remains.1
  where
    after : (removals : List (List ℕ)) (held : Contents) → IsRemains array shape lost image held → P held → IsLeftAfter array shape removals held left → P left
    after [] held there holds is = subst P (sym is) holds
    after (leaving ∷ more) held there holds is = after more (without_each leaving held) (removal_leaves_remains array shape lost image held leaving there is.0) (step held leaving there holds is.0) is.1

pub what_shows_is_kept : WhatShowsIsKept
what_shows_is_kept array shape lost image shows left remains =
    holds_of_remains array shape lost image (ShowsKept array shape) shows (λ held leaving there kept enough. shows_left array shape held leaving kept enough) left remains

-- what is possible of it was possible of the image, and copies are copies still
record AddsNoMaps (array : Array) (shape : Shape) (first held : Contents) : Type 0 where
  copies : AreAlwaysCopies array shape held
  maps : (objects : Map) → IsPossibleMap array shape held objects → IsPossibleMap array shape first objects

adds_no_maps : (array : Array) (shape : Shape) (lost : List ℕ) (image left : Contents) → AreAlwaysCopies array shape (without_each lost image) → IsRemains array shape lost image left → AddsNoMaps array shape (without_each lost image) left
adds_no_maps array shape lost image left copies remains =
    holds_of_remains array shape lost image (AddsNoMaps array shape (without_each lost image)) record { copies = copies; maps = λ objects possible. possible }
    (λ held leaving there adds enough. record {
      copies = copies_stay array shape [] held leaving adds.copies enough;
      maps = λ objects possible. adds.maps objects (nothing_new_is_possible array shape [] held leaving objects adds.copies enough possible);
    })
    left remains

pub remains_add_no_maps : RemainsAddNoMaps
remains_add_no_maps array shape lost image left objects copies remains possible = (adds_no_maps array shape lost image left copies remains).maps objects possible

pub remains_have_possible_maps : RemainsHavePossibleMaps
remains_have_possible_maps array shape lost image left copies remains =
    remains_add_no_maps array shape lost image left (map_of array.geometry.k (read_of array shape left)) copies remains (read_is_possible array shape left)
