-- What a crash left is opened again.
use Rattle.std.proofs.Common.{◌≡◌, inl, inr, ℕ, [], ◌++◌, Option, Some, None, Ok, Err, refl, sym, ap, subst, ◌∙◌, arith}
use Rattle.std.specs.Prelude.{IfSome, IsSome, unwrap_or}
use Rattle.std.proofs.lemmas.List.Elements.{Contains-append_cases}
use Rattle.smore_base.specs.Objects.{Map}
use Rattle.zone_bay.specs.declared.bay.Bay as bay
use Rattle.zone_bay.specs.Outside.{Rose}
use Rattle.zone_bay.specs.Contents.{Shape, Contents}
use Rattle.zone_bay.specs.Images.{ImageOf, without_each}
use Rattle.zone_bay.specs.Bay.{BayState, IsImageNow}
use Rattle.zone_bay.proofs.Images.{held_is_left, all_firm_leaves_all, missing_one_by_one}
use Rattle.store_core.specs.declared.store.Core.{Core}
use Rattle.store_core.specs.declared.store.TheConstants.{DRIVE}
use Rattle.store_core.specs.declared.opening.OpenRefusal.{OpenRefusal}
use Rattle.store_core.specs.declared.opening.OpenRefusal.TheVariants.{Memory, NoLabel}
use Rattle.store_core.specs.Opening.{CanOpen, CanNotOpen}
use Rattle.store_core.specs.Stopped.{Array, OpensTo, IsLeftOf, RecoversTo, Keeps, MayStop}
use Rattle.store_core.specs.Core.{map_in, objects_held, array_in, bay_of, Serves, RefusesFor}
use Rattle.store_core.proofs.Stops.{stops_reading, one_array_opens}
use Rattle.smore_top.specs.Laws.{HoldsFirm, RefusesOnly, ReopensTo, ImagesReopen, KeptReopen}
use Rattle.smore_top.proofs.Stopping.{opened_objects}

-- what is left of what is left
left_of_left : (image left less : Contents) → IsLeftOf image left → IsLeftOf left less → IsLeftOf image less
left_of_left image left less (some, none, is) (more, none', is') = (
  some ++ more,
  (λ there. elim (Contains-append_cases some more DRIVE there) [ inl first ↦ none first | inr then ↦ none' then ]),
  is' ∙ ap (without_each more) is ∙ sym (missing_one_by_one some more image),
)

-- ---- a bay that keeps objects

module _ {B : Type 0} (g : bay.Ghosts B) (array : Array) (objects : Map) (old : B) (keeps : Keeps array objects (g.state old)) where
  -- what it holds is among what a crash now may leave
  as_it_stands : (held : Contents) → (g.state old).contents ≡ Some held → OpensTo array (g.state old).shape objects held
  as_it_stands held is =
      let here : IsImageNow (g.state old) held = rw is (held_is_left held (g.state old).firm) in
      keeps.now held here held ([], (λ there. absurd (omega (arith, there.1))), refl)

  one_array : (other : Array) → IfSome (g.state old).contents (λ held. CanOpen (g.state old).shape held other) → other ≡ array
  one_array other can = by_told (g.state old).contents refl keeps.told can
    where
      by_told : (o : Option Contents) → (g.state old).contents ≡ o → IsSome o → IfSome o (λ held. CanOpen (g.state old).shape held other) → other ≡ array
      by_told None e told can = absurd cc
      by_told (Some held) e told can = one_array_opens (g.state old).shape held other array can (as_it_stands held e).can

  held_objects : objects_held array (g.state old) ≡ objects
  held_objects = by_told (g.state old).contents refl keeps.told
    where
      by_told : (o : Option Contents) → (g.state old).contents ≡ o → IsSome o → objects_held array (g.state old) ≡ objects
      by_told None e told = absurd cc
      by_told (Some held) e told = ap (λ (o : Option Contents). map_in array (g.state old).shape (unwrap_or o (λ _ _. []))) e ∙ (as_it_stands held e).map

  served : (core : Core B g) → Serves g.state old core → ReopensTo g.state array objects old (Ok core)
  served core serves =
      let same = one_array (array_in core) serves.can in
      let found : objects_held (array_in core) (g.state old) ≡ objects = ap (λ (a : Array). objects_held a (g.state old)) same ∙ held_objects in
      let stops = serves.stopped (subst (λ (a : Array). Keeps a (objects_held (array_in core) (g.state old)) (g.state old)) (sym same) (subst (λ (o : Map). Keeps array o (g.state old)) (sym found) keeps)) in (
        same,
        sym (opened_objects g old core serves keeps.told) ∙ found,
        subst (λ (a : Array). MayStop a objects objects (g.state old) (g.state (bay_of core))) same (subst (λ (o : Map). MayStop (array_in core) o o (g.state old) (g.state (bay_of core))) found stops),
      )

  refused : (why : OpenRefusal) (new : B) → RefusesFor why (g.state old) (g.state new) → RefusesOnly why array objects (g.state old) (g.state new)
  refused Memory new reads = stops_reading array objects (g.state old) (g.state new) _ reads keeps
  refused NoLabel new refuses = (
    by_told (g.state old).contents refl keeps.told refuses.cause,
    subst (λ (o : Map). MayStop array o o (g.state old) (g.state new)) held_objects (refuses.stopped array (subst (λ (o : Map). Keeps array o (g.state old)) (sym held_objects) keeps)),
  )
    where
      by_told : (o : Option Contents) → (g.state old).contents ≡ o → IsSome o
          → IfSome o (λ held. (CanNotOpen (g.state old).shape held → ⊥) → (d : ℕ) × Rose ((g.state old).faults d) ((g.state new).faults d))
          → (d : ℕ) × Rose ((g.state old).faults d) ((g.state new).faults d)
      by_told None e told cause = absurd cc
      by_told (Some held) e told cause = cause (λ none. none array (as_it_stands held e).can)

pub kept_reopen : {B : Type 0} (g : bay.Ghosts B) → KeptReopen g
kept_reopen g array objects old keeps (Ok core) opens = served g array objects old keeps core opens
kept_reopen g array objects old keeps (Err refusal) opens = refused g array objects old keeps refusal.0 refusal.1 opens

-- ---- what is left of an image

-- a bay that holds it keeps the objects
keeps_left : (array : Array) (shape : Shape) (objects : Map) (image left : Contents) → RecoversTo array shape objects image → IsLeftOf image left
    → (old : BayState) → HoldsFirm shape left old → Keeps array objects old
keeps_left array shape objects image left recovers is_left old holds = record {
  told = subst (λ (o : Option Contents). IsSome o) (sym holds.contents) refl;
  now = λ now is.
      let here : ImageOf (Some left) old.firm now = subst (λ (o : Option Contents). ImageOf o old.firm now) holds.contents is in
      let same : now ≡ left = all_firm_leaves_all left old.firm now holds.firm here in
      subst (λ (s : Shape). RecoversTo array s objects now) (sym holds.same_shape) (λ less is_less. recovers less (left_of_left image left less is_left (subst (λ (c : Contents). IsLeftOf c less) same is_less)));
}

pub images_reopen : {B : Type 0} (g : bay.Ghosts B) → ImagesReopen g
images_reopen g array shape objects image left recovers is_left old holds result opens =
    kept_reopen g array objects old (keeps_left array shape objects image left recovers is_left (g.state old) holds) result opens
