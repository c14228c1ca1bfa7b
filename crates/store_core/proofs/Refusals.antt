-- What an opening leaves in which a call on drive 0 failed while a set was begun.
use Rattle.std.proofs.Common.{◌≡◌, inl, inr, ℕ, ◌<◌, List, [], length, drop, Option, Some, None, IfSome, is_some, true, Result, Ok, Err, refl, sym, ap, subst, ◌∙◌, arith}
use Rattle.std.specs.Prelude.{unwrap_or, IsSome}
use Rattle.std.specs.Result.{is_err}
use Rattle.std.specs.FinMap as finmap
use Rattle.std.proofs.lemmas.List.{take_all}
use Rattle.smore_base.specs.Told.{Told}
use Rattle.smore_base.specs.Objects.{Map}
use Rattle.zone_bay.specs.Contents.{Contents, Lengths, appended}
use Rattle.zone_bay.specs.Images.{ImageOf, IsImage}
use Rattle.zone_bay.specs.Laws.{NoMoreFirm}
use Rattle.zone_bay.specs.Bay.{BayState, IsSound, IsImageNow}
use Rattle.zone_bay.specs.Stretch.{GoesToward, IsOnTheWay}
use Rattle.zone_bay.proofs.Images.{more_leaves_more, less_firm_leaves_more}
use Rattle.zone_bay.proofs.Stretch.{goes_weaker}
use Rattle.marker_format.specs.Zone.{Array}
use Rattle.store_core.specs.Opening.{CanOpen}
use Rattle.store_core.specs.Zone.{opening_bytes}
use Rattle.store_core.specs.Stopped.{RecoversTo, Keeps, MayStop}
use Rattle.store_core.specs.Core.{map_in, objects_held, Refuses}
use Rattle.store_core.specs.DeviceCalls.{Appends}
use Rattle.zone_bay.proofs.Toward.{toward_weaker}
use Rattle.store_core.proofs.CoreSteps.{if_some, if_all}
use Rattle.store_core.proofs.FirstZone.{map_part, each_gives}
use Rattle.store_core.proofs.OpeningSteps.{BeginsWith}
use Rattle.store_core.proofs.Stops.{EachGives, image_recovers, stops_as, one_array_opens}

-- all that is held is an image of it
whole_image : (held : Contents) (firm : Lengths) → NoMoreFirm held firm → IsImage held firm held
whole_image held firm within d z = (length (held d z), within d z, sym (take_all _ (held d z) (omega arith)))

module _ (array : Array) (one : array.geometry.k ≡ 1) (two : array.geometry.p ≡ 1) (id : length array.id ≡ 16) (written : ℕ) (old new : BayState) (sound : IsSound old) (sound_new : IsSound new)
    (drives : 1 < old.shape.devices) (zones : 2 < old.shape.zones) (Q : ℕ → ℕ → Type 0) (toward : GoesToward (appended 0 2 (drop written (opening_bytes array))) old new Q) where
  abbrev lacks : List ℕ
  lacks = drop written (opening_bytes array)

  module _ (held : Contents) (e : old.contents ≡ Some held) (can : CanOpen old.shape held array) (begins : BeginsWith array written (held 0 2)) where
    -- no name stands for an object
    none_held : objects_held array old ≡ finmap.empty
    none_held =
        ap (λ (c : Option Contents). map_in array old.shape (unwrap_or c (λ _ _. []))) e
        ∙ map_part array one two id old.shape drives zones held (ap is_some can.label) can.alone begins.begins

    each : EachGives array old.shape finmap.empty finmap.empty (held 0 2) lacks
    each = subst (λ n. EachGives array old.shape finmap.empty finmap.empty (held 0 2) (drop n (opening_bytes array))) begins.size (each_gives array one two id old.shape drives zones (held 0 2) begins.begins)

    module _ (keeps : Keeps array finmap.empty old) where
      -- an image of what was to be held
      recovers : (image : Contents) → IsImage (appended 0 2 lacks held) old.firm image → RecoversTo array old.shape finmap.empty image
      recovers image is = elim (image_recovers array finmap.empty finmap.empty lacks old new sound held e keeps each image is) [
        | inl it ↦ it
        | inr it ↦ it
      ]

      -- and so one of what is held now
      now_recovers : (c : Option Contents) → new.contents ≡ c → Told (Some held) c (λ h at. IsOnTheWay h (appended 0 2 lacks h) old.firm at new.firm) → (image : Contents) → ImageOf c new.firm image → RecoversTo array old.shape finmap.empty image
      now_recovers None now way image is = absurd way
      now_recovers (Some at) now way image is =
          let within : NoMoreFirm at new.firm = rw now at sound_new.firm_held in
          recovers image (less_firm_leaves_more (appended 0 2 lacks held) old.firm new.firm image way.no_less (more_leaves_more at (appended 0 2 lacks held) new.firm image within way.extends is))

      told_now : (c : Option Contents) → Told (Some held) c (λ h at. IsOnTheWay h (appended 0 2 lacks h) old.firm at new.firm) → IsSome c
      told_now None way = absurd way
      told_now (Some at) way = refl

      way_now : Told (Some held) new.contents (λ h at. IsOnTheWay h (appended 0 2 lacks h) old.firm at new.firm)
      way_now = subst (λ (c : Option Contents). Told c new.contents (λ h at. IsOnTheWay h (appended 0 2 lacks h) old.firm at new.firm)) e toward.toward

      pub stops_empty : MayStop array finmap.empty finmap.empty old new
      stops_empty = record {
        within = goes_weaker old new _ _ _ _ (λ i image since left. inl (recovers image (rw e at left))) (λ d m since q. tt) toward.goes_on;
        keeps = record {
          told = told_now new.contents way_now;
          now = λ image is. subst (λ shape. RecoversTo array shape finmap.empty image) (sym toward.goes_on.same_shape) (now_recovers new.contents refl way_now image is);
        };
      }

    stops_own : Keeps array (objects_held array old) old → MayStop array (objects_held array old) (objects_held array old) old new
    stops_own keeps = stops_as array finmap.empty _ finmap.empty _ old new (sym none_held) (sym none_held) (stops_empty (subst (λ (objects : Map). Keeps array objects old) none_held keeps))

    -- the bay can be opened as no other array
    pub stops_failing : (other : Array) → Keeps other (objects_held other old) old → MayStop other (objects_held other old) (objects_held other old) old new
    stops_failing other keeps =
        let within : NoMoreFirm held old.firm = rw e at sound.firm_held in
        let there : IsImageNow old held = subst (λ (c : Option Contents). ImageOf c old.firm held) (sym e) (whole_image held old.firm within) in
        let opens = keeps.now held there held ([], (λ no. absurd (omega (arith, no.1))), refl) in
        let same : other ≡ array = one_array_opens old.shape held other array opens.can can in
        subst (λ (a : Array). MayStop a (objects_held a old) (objects_held a old) old new) (sym same) (stops_own (subst (λ (a : Array). Keeps a (objects_held a old) old) same keeps))

  -- of whatever is told
  pub stops_failed : IfSome old.contents (λ held. CanOpen old.shape held array) → IfSome old.contents (λ held. BeginsWith array written (held 0 2)) → (other : Array) → Keeps other (objects_held other old) old → MayStop other (objects_held other old) (objects_held other old) old new
  stops_failed can begins other keeps = by_told old.contents refl keeps.told
    where
      by_told : (c : Option Contents) → old.contents ≡ c → IsSome c → MayStop other (objects_held other old) (objects_held other old) old new
      by_told None e is = absurd cc
      by_told (Some held) e is = stops_failing held e (rw e at can) (rw e at begins) other keeps

-- the refusal
pub failed_refuses : {T E : Type 0} (r : Result T E) (array : Array) → array.geometry.k ≡ 1 → array.geometry.p ≡ 1 → length array.id ≡ 16 → (written : ℕ) (old new : BayState) → IsSound old → IsSound new → 1 < old.shape.devices → 2 < old.shape.zones
    → IfSome old.contents (λ held. CanOpen old.shape held array) → IfSome old.contents (λ held. BeginsWith array written (held 0 2)) → is_err r ≡ true → Appends (drop written (opening_bytes array)) old new r → Refuses old new
failed_refuses (Ok x) array one two id written old new sound sound_new drives zones can begins failed it = absurd cc
failed_refuses (Err e) array one two id written old new sound sound_new drives zones can begins failed it = record {
  cause = if_all old.contents _ (λ held may. (0, it.cause.err));
  left = inr (record {
    array = array;
    written = written;
    can = can;
    begins = if_some old.contents _ _ (λ held is. (is.begins, is.size)) begins;
    toward = toward_weaker (appended 0 2 (drop written (opening_bytes array))) old new _ _ (λ d m failed. failed.1) it.toward;
    rose = it.cause.err;
  });
  stopped = stops_failed array one two id written old new sound sound_new drives zones _ it.toward can begins;
}
