-- Several steps on the bay, one behind the other.
use Rattle.std.proofs.Common.{◌≡◌, ℕ, Bool, true, false, cond, ◌&&◌, ◌==◌, List, [], ◌∷◌, Option, Some, None, arith, refl, sym, ap, ◌∙◌, eqb-true}
use Rattle.std.specs.Option.{option_map}
use mathlib.Core.Bool.{true≢false}
use Rattle.zone_bay.specs.Outside.{Rose}
use Rattle.zone_bay.specs.Contents.{Contents, with_zone}
use Rattle.zone_bay.specs.declared.bay.Bay as bay
use Rattle.zone_bay.specs.Bay.{BayState}
use Rattle.zone_bay.proofs.Stretch.{goes_nowhere, goes_join, goes_weaker}
use Rattle.store_core.specs.declared.store.TheConstants.{DRIVE, ZONE}
use Rattle.object_machine.specs.declared.machine.Entry.{Entry}
use Rattle.store_core.specs.declared.store.Core.{Core}
use Rattle.store_core.specs.Core.{bay_of, is_lost_in, WritesZone, Goes}
use Rattle.smore_top.specs.Headline.{Leads, last_of}

-- to write what is there changes nothing
same_there : (held : Contents) (d z : ℕ) (a b : Bool) → (a ≡ true → d ≡ DRIVE) → (b ≡ true → z ≡ ZONE) → held d z ≡ cond (a && b) (held DRIVE ZONE) (held d z)
same_there held d z true true at_device at_zone = ap (λ n. held n z) (at_device refl) ∙ ap (held DRIVE) (at_zone refl)
same_there held d z true false at_device at_zone = refl
same_there held d z false b at_device at_zone = refl

zone_same : (told : Option Contents) → WritesZone told told
zone_same None = ([], refl)
zone_same (Some held) = (held DRIVE ZONE, ap (λ (h : Contents). Some h) (λ i d z. same_there held d z (d == DRIVE) (z == ZONE) (eqb-true d DRIVE) (eqb-true z ZONE) i))

-- written there again
twice : (first second : List ℕ) (held : Contents) (d z : ℕ) (b : Bool) → cond b second (cond b first (held d z)) ≡ cond b second (held d z)
twice first second held d z true = refl
twice first second held d z false = refl

zone_then : (a b c : Option Contents) → WritesZone a b → WritesZone b c → WritesZone a c
zone_then None b c first next = (next.0, next.1 ∙ ap (option_map (with_zone DRIVE ZONE next.0)) first.1)
zone_then (Some held) b c first next = (next.0, next.1 ∙ ap (option_map (with_zone DRIVE ZONE next.0)) first.1 ∙ ap (λ (h : Contents). Some h) (λ i d z. twice first.0 next.0 held d z ((d == DRIVE) && (z == ZONE)) i))

pub goes_none : (lost : Bool) (bay : BayState) → Goes lost lost bay bay
goes_none lost bay = record {
  goes_on = goes_nowhere bay _ _;
  zone = zone_same bay.contents;
  others = λ d other. refl;
  kept = λ works. refl;
  rose = λ works is. absurd (true≢false (sym is ∙ works));
  stays = λ is. is;
}

lost_between : (first_lost mid_lost last_lost : Bool) (first mid last : BayState) → Goes first_lost mid_lost first mid → Goes mid_lost last_lost mid last → first_lost ≡ false → last_lost ≡ true → Rose (first.faults DRIVE) (last.faults DRIVE)
lost_between first_lost true last_lost first mid last before after works is = λ below. let later = after.goes_on.no_fewer DRIVE in omega (arith, before.rose works refl (omega arith))
lost_between first_lost false last_lost first mid last before after works is = λ below. let earlier = before.goes_on.no_fewer DRIVE in omega (arith, after.rose refl is below)

kept_between : (mid_lost last_lost : Bool) (first_lost : Bool) (first mid last : BayState) → Goes first_lost mid_lost first mid → Goes mid_lost last_lost mid last → last_lost ≡ false → last.faults DRIVE ≡ first.faults DRIVE
kept_between true last_lost first_lost first mid last before after works = absurd (true≢false (sym (after.stays refl) ∙ works))
kept_between false last_lost first_lost first mid last before after works = after.kept works ∙ before.kept refl

pub goes_then : (first_lost mid_lost last_lost : Bool) (first mid last : BayState) → Goes first_lost mid_lost first mid → Goes mid_lost last_lost mid last → Goes first_lost last_lost first last
goes_then first_lost mid_lost last_lost first mid last before after = record {
  goes_on = goes_join first mid last _ _ (goes_weaker first mid _ _ _ _ (λ i image since left. tt) (λ d m since it. (it.0, after.stays it.1)) before.goes_on) after.goes_on;
  zone = zone_then first.contents mid.contents last.contents before.zone after.zone;
  others = λ d other. after.others d other ∙ before.others d other;
  kept = λ works. kept_between mid_lost last_lost first_lost first mid last before after works;
  rose = λ works is. lost_between first_lost mid_lost last_lost first mid last before after works is;
  stays = λ is. after.stays (before.stays is);
}

module _ {B : Type 0} {g : bay.Ghosts B} (state : B → BayState) where
  -- those of a run
  pub through : (core : Core B g) (entries : List Entry) (cores : List (Core B g)) → Leads state core entries cores → Goes (is_lost_in core) (is_lost_in (last_of state core cores)) (state (bay_of core)) (state (bay_of (last_of state core cores)))
  through core [] [] leads = goes_none (is_lost_in core) (state (bay_of core))
  through core [] (next ∷ cores) leads = absurd leads
  through core (entry ∷ entries) [] leads = absurd leads
  through core (entry ∷ entries) (next ∷ cores) leads =
      goes_then (is_lost_in core) (is_lost_in next) _ (state (bay_of core)) (state (bay_of next)) _ leads.0.goes (through next entries cores leads.1)
