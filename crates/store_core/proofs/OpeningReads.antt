-- What an opening does behind calls that only read.
use Rattle.std.proofs.Common.{◌≡◌, ◌⊎◌, inl, inr, ℕ, false, List, [], length, drop, Option, Some, None, IfSome, Result, Ok, Err, sym, ap, subst, ◌∙◌}
use Rattle.std.specs.Prelude.{option_map, unwrap_or}
use Rattle.smore_base.specs.Told.{Told}
use Rattle.smore_base.specs.Objects.{Map}
use Rattle.zone_bay.specs.declared.bay.Bay as bay
use Rattle.zone_bay.specs.Outside.{Rose}
use Rattle.zone_bay.specs.Contents.{Shape, Contents, Lengths, appended}
use Rattle.zone_bay.specs.Images.{ImageOf}
use Rattle.zone_bay.specs.Laws.{NoMoreFirm}
use Rattle.zone_bay.specs.Bay.{BayState, IsSound}
use Rattle.zone_bay.specs.Stretch.{OnlyReads, GoesToward, IsOnTheWay}
use Rattle.zone_bay.proofs.Images.{append_leaves_old}
use Rattle.zone_bay.proofs.Stretch.{goes_join, goes_weaker, reads_join, reads_weaker, no_fault}
use Rattle.marker_format.specs.Zone.{Array}
use Rattle.store_core.specs.declared.store.Core.{Core}
use Rattle.store_core.specs.declared.opening.OpenRefusal.{OpenRefusal}
use Rattle.store_core.specs.declared.opening.OpenRefusal.TheVariants.{Memory, NoLabel}
use Rattle.store_core.specs.DeviceCalls.{ReadsAny}
use Rattle.zone_bay.specs.Contents.{IsOfBay}
use Rattle.store_core.specs.Opening.{BeginsSet, HoldsSet, CanOpen, CanNotOpen}
use Rattle.store_core.specs.Zone.{opening_bytes}
use Rattle.store_core.specs.Stopped.{RecoversTo, Keeps, MayStop}
use Rattle.store_core.specs.Core.{map_in, array_in, bay_of, told_store, WritesZone, Goes, Begins, Serves, FailsBeginning, Refuses, Opens, objects_held}
use Rattle.store_core.proofs.CoreSteps.{if_some, if_all}
use Rattle.store_core.proofs.Stops.{stops_reading}

-- the zone stayed before it was written
writes_same : (before mid after : Option Contents) → mid ≡ before → WritesZone mid after → WritesZone before after
writes_same before mid after same it = subst (λ (c : Option Contents). WritesZone c after) same it

-- ---- calls toward a goal behind them

image_more : (bytes : List ℕ) (contents : Option Contents) (firm : Lengths) (image : Contents) → IfSome contents (λ held. NoMoreFirm held firm) → ImageOf contents firm image → ImageOf (option_map (appended 0 2 bytes) contents) firm image
image_more bytes None firm image within is = is
image_more bytes (Some held) firm image within is = append_leaves_old held firm 0 2 bytes image within is

toward_behind : (bytes : List ℕ) (old mid new : BayState) (Q : ℕ → ℕ → Type 0) → IsSound old → OnlyReads old mid Q → GoesToward (appended 0 2 bytes) mid new Q → GoesToward (appended 0 2 bytes) old new Q
toward_behind bytes old mid new Q sound reads it = record {
  toward = subst (λ (f : Lengths). Told old.contents new.contents (λ held at. IsOnTheWay held (appended 0 2 bytes held) f at new.firm)) reads.firm
      (subst (λ (c : Option Contents). Told c new.contents (λ held at. IsOnTheWay held (appended 0 2 bytes held) mid.firm at new.firm)) reads.contents it.toward);
  goes_on = goes_join old mid new _ Q
      (goes_weaker old mid _ _ Q Q (λ i image since is. image_more bytes old.contents old.firm image sound.firm_held is) (λ d m since q. q) reads.goes_on)
      (goes_weaker mid new _ _ Q Q (λ i image since is. rw (sym reads.contents, sym reads.firm) is) (λ d m since q. q) it.goes_on);
}

-- ---- what they say of the bay

module _ (old mid : BayState) (sound : IsSound old) (reads : OnlyReads old mid (λ _ _. ⊥)) where
  same_shape : mid.shape ≡ old.shape
  same_shape = reads.goes_on.same_shape

  same_faults : (d : ℕ) → mid.faults d ≡ old.faults d
  same_faults d = no_fault old mid _ _ d reads.goes_on (λ m none. none)

  -- a fact of what is held
  before : (P : Shape → Contents → Type 0) → IfSome mid.contents (P mid.shape) → IfSome old.contents (P old.shape)
  before P it = subst (λ (s : Shape). IfSome old.contents (P s)) same_shape (subst (λ (c : Option Contents). IfSome c (P mid.shape)) reads.contents it)

  same_objects : (array : Array) → objects_held array mid ≡ objects_held array old
  same_objects array =
      ap (λ (s : Shape). map_in array s (unwrap_or mid.contents (λ _ _. []))) same_shape
      ∙ ap (λ (c : Option Contents). map_in array old.shape (unwrap_or c (λ _ _. []))) reads.contents

  stops_behind : (array : Array) (objects : Map) (new : BayState) → MayStop array objects objects old mid → MayStop array objects objects mid new → MayStop array objects objects old new
  stops_behind array objects new first later = record {
    within = goes_join old mid new _ _ first.within
        (goes_weaker mid new _ _ _ _ (λ i image since is. subst (λ (s : Shape). RecoversTo array s objects image ⊎ RecoversTo array s objects image) same_shape is) (λ d m since q. q) later.within);
    keeps = later.keeps;
  }

  goes_behind : (new : BayState) → Goes false false mid new → Goes false false old new
  goes_behind new it = record {
    goes_on = goes_join old mid new _ _ (goes_weaker old mid _ _ _ _ (λ i image since is. tt) (λ d m since none. absurd none) reads.goes_on) it.goes_on;
    zone = writes_same old.contents mid.contents new.contents reads.contents it.zone;
    others = λ d other. it.others d other ∙ same_faults d;
    kept = λ works. it.kept works ∙ same_faults 0;
    rose = λ works is. absurd cc;
    stays = λ was. was;
  }

  fails_behind : (new : BayState) → FailsBeginning mid new → FailsBeginning old new
  fails_behind new it = record {
    array = it.array;
    written = it.written;
    can = before (λ shape held. CanOpen shape held it.array) it.can;
    begins = before (λ shape held. BeginsSet it.array (held 0 2) × (length (held 0 2) ≡ it.written)) it.begins;
    toward = toward_behind (drop it.written (opening_bytes it.array)) old mid new _ sound (reads_weaker old mid _ _ (λ d m since none. absurd none) reads) it.toward;
    rose = subst (λ n. Rose n (new.faults 0)) (same_faults 0) it.rose;
  }

  refuses_behind : (new : BayState) → Refuses mid new → Refuses old new
  refuses_behind new it = record {
    cause = before (λ shape held. (CanNotOpen shape held → ⊥) → (d : ℕ) × Rose (old.faults d) (new.faults d))
        (if_some mid.contents _ _ (λ held cause may. let rose = cause may in (rose.0, subst (λ n. Rose n (new.faults rose.0)) (same_faults rose.0) rose.1)) it.cause);
    left = elim it.left [
      | inl more ↦ inl (reads_join old mid new _ (reads_weaker old mid _ _ (λ d m since q. tt) reads) more)
      | inr fails ↦ inr (fails_behind new fails)
    ];
    stopped = λ array keeps.
        let first = stops_reading array (objects_held array old) old mid _ reads keeps in
        let objects = same_objects array in
        stops_behind array (objects_held array old) new first
        (subst (λ (o : Map). MayStop array o o mid new) objects (it.stopped array (subst (λ (o : Map). Keeps array o mid) (sym objects) first.keeps)));
  }

-- ---- a core

module _ {B : Type 0} {g : bay.Ghosts B} (old mid : B) (sound : IsSound (g.state old)) (reads : OnlyReads (g.state old) (g.state mid) (λ _ _. ⊥)) where
  serves_behind : (core : Core B g) → Serves g.state mid core → Serves g.state old core
  serves_behind core it = record {
    can = before (g.state old) (g.state mid) sound reads (λ shape held. CanOpen shape held (array_in core)) it.can;
    map = subst (λ (s : Shape). Told (g.state old).contents (told_store g.state core) (λ held t. t.state.objects ≡ map_in (array_in core) s held)) (same_shape (g.state old) (g.state mid) sound reads)
        (subst (λ (c : Option Contents). Told c (told_store g.state core) (λ held t. t.state.objects ≡ map_in (array_in core) (g.state mid).shape held)) reads.contents it.map);
    at = it.at;
    of_bay = subst (λ (s : Shape). IsOfBay core.geometry s) (same_shape (g.state old) (g.state mid) sound reads) it.of_bay;
    works = it.works;
    goes = goes_behind (g.state old) (g.state mid) sound reads (g.state (bay_of core)) it.goes;
    begun = before (g.state old) (g.state mid) sound reads (λ shape held. BeginsSet (array_in core) (held 0 2) → Begins (array_in core) (held 0 2) (g.state old) (g.state (bay_of core)))
        (if_some (g.state mid).contents _ _ (λ held begun begins. let b = begun begins in record {
          toward = toward_behind (drop (length (held 0 2)) (opening_bytes (array_in core))) (g.state old) (g.state mid) (g.state (bay_of core)) _ sound reads b.toward;
          becomes = b.becomes ∙ ap (option_map (appended 0 2 (drop (length (held 0 2)) (opening_bytes (array_in core))))) reads.contents;
          firm = b.firm;
        }) it.begun);
    read = before (g.state old) (g.state mid) sound reads (λ shape held. HoldsSet (array_in core) (held 0 2) → OnlyReads (g.state old) (g.state (bay_of core)) (λ _ _. ⊥))
        (if_some (g.state mid).contents _ _ (λ held read holds. reads_join (g.state old) (g.state mid) (g.state (bay_of core)) _ reads (read holds)) it.read);
    stopped = λ keeps.
        let array = array_in core in
        let first = stops_reading array (objects_held array (g.state old)) (g.state old) (g.state mid) _ reads keeps in
        let objects = same_objects (g.state old) (g.state mid) sound reads array in
        stops_behind (g.state old) (g.state mid) sound reads array (objects_held array (g.state old)) (g.state (bay_of core)) first
        (subst (λ (o : Map). MayStop array o o (g.state mid) (g.state (bay_of core))) objects (it.stopped (subst (λ (o : Map). Keeps array o (g.state mid)) (sym objects) first.keeps)));
  }

  -- of whichever answer
  pub opens_behind : (result : Result (Core B g) (OpenRefusal × B)) → Opens g.state mid result → Opens g.state old result
  opens_behind (Ok core) it = serves_behind core it
  opens_behind (Err (Memory, new)) it = reads_join (g.state old) (g.state mid) (g.state new) _ reads it
  opens_behind (Err (NoLabel, new)) it = refuses_behind (g.state old) (g.state mid) sound reads (g.state new) it

-- ---- nothing more

-- a call failed
pub refuses_lost : (P : Type 0) (old new : BayState) → P → ReadsAny P old new → Refuses old new
refuses_lost P old new lost it = record {
  cause = if_all old.contents _ (λ held may. it.cause lost);
  left = inl (reads_weaker old new _ _ (λ d m since p. tt) it.only);
  stopped = λ array keeps. stops_reading array (objects_held array old) old new _ it.only keeps;
}

-- the bay can't be opened
pub refuses_other : (P : Type 0) (old new : BayState) → IfSome old.contents (λ held. CanNotOpen old.shape held) → ReadsAny P old new → Refuses old new
refuses_other P old new other it = record {
  cause = if_some old.contents _ _ (λ held no may. absurd (may no)) other;
  left = inl (reads_weaker old new _ _ (λ d m since p. tt) it.only);
  stopped = λ array keeps. stops_reading array (objects_held array old) old new _ it.only keeps;
}
