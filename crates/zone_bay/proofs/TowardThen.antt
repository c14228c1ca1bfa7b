-- Calls toward one goal and then toward another, as calls toward a third.
use Rattle.std.proofs.Common.{ℕ, length, Option, Some, None, IfSome, ap, arith}
use Rattle.std.specs.Prelude.{option_map}
use Rattle.std.proofs.lemmas.List.{length-append}
use Rattle.smore_base.specs.Told.{Told}
use Rattle.smore_base.proofs.Told.{Told-weaker}
use Rattle.zone_bay.specs.Contents.{Contents, Lengths, Extends}
use Rattle.zone_bay.specs.Images.{ImageOf}
use Rattle.zone_bay.specs.Bay.{BayState, IsSound}
use Rattle.zone_bay.specs.Laws.{NoMoreFirm}
use Rattle.zone_bay.specs.Stretch.{IsOnTheWay, GoesToward, FailsOnTheWay, FailsToward}
use Rattle.zone_bay.proofs.Extends.{extends_then}
use Rattle.zone_bay.proofs.Images.{more_leaves_more, less_firm_leaves_more}
use Rattle.zone_bay.proofs.Stretch.{goes_join, goes_weaker, fails_over_stays}

-- where no more is firm than is held, it is so of more
pub more_within : (held more : Contents) (firm : Lengths) → NoMoreFirm held firm → Extends held more → NoMoreFirm more firm
more_within held more firm within extends d z = let w = within d z in let e = ap length (extends d z).1 in omega (arith, w, e, length-append (held d z) (extends d z).0)

-- on the way to what the second leads to
way_then : (from goal first second : Contents) (firm : Lengths) (mid : Contents) (mid_firm : Lengths) (held : Contents) (now : Lengths) → Extends second goal → IsOnTheWay from first firm mid mid_firm → IsOnTheWay mid second mid_firm held now → IsOnTheWay from goal firm held now
way_then from goal first second firm mid mid_firm held now further a b = record {
  began = extends_then from mid held a.began b.began;
  extends = extends_then held second goal b.extends further;
  no_less = λ d z. let x = a.no_less d z in let y = b.no_less d z in omega (arith, x, y);
}

way_further : (from first goal : Contents) (firm : Lengths) (held : Contents) (now : Lengths) → Extends first goal → IsOnTheWay from first firm held now → IsOnTheWay from goal firm held now
way_further from first goal firm held now further way = record { began = way.began; extends = extends_then held first goal way.extends further; no_less = way.no_less }

-- the goals of both lie on the way to the third
abbrev pub Further : (Contents → Contents) → (Contents → Contents) → (Contents → Contents) → Contents → Contents → Type 0
Further first second goal held at = Extends (first held) (goal held) × Extends (second at) (goal held)

module _ (first second goal : Contents → Contents) (old mid new : BayState) (Q : ℕ → ℕ → Type 0) (sound : IsSound old) (sound' : IsSound mid)
    (a : GoesToward first old mid Q) (b : GoesToward second mid new Q) (further : Told old.contents mid.contents (Further first second goal)) where
  ways : (o m n : Option Contents) → Told o m (λ held at. IsOnTheWay held (first held) old.firm at mid.firm) → Told m n (λ held at. IsOnTheWay held (second held) mid.firm at new.firm) → Told o m (Further first second goal) → Told o n (λ held at. IsOnTheWay held (goal held) old.firm at new.firm)
  ways None None None x y f = tt
  ways None None (Some n) x y f = y
  ways None (Some m) n x y f = absurd x
  ways (Some o) None n x y f = absurd x
  ways (Some o) (Some m) None x y f = y
  ways (Some o) (Some m) (Some n) x y f = way_then o (goal o) (first o) (second m) old.firm m mid.firm n new.firm f.1 x y

  images_first : (o m : Option Contents) (image : Contents) → IfSome o (λ h. NoMoreFirm h old.firm) → Told o m (λ held at. IsOnTheWay held (first held) old.firm at mid.firm) → Told o m (Further first second goal) → ImageOf (option_map first o) old.firm image → ImageOf (option_map goal o) old.firm image
  images_first None m image within x f is = is
  images_first (Some o) None image within x f is = absurd x
  images_first (Some o) (Some m) image within x f is = more_leaves_more (first o) (goal o) old.firm image (more_within o (first o) old.firm within (extends_then o m (first o) x.began x.extends)) f.0 is

  -- what crashes behind the first calls may leave
  images_then : (o m n : Option Contents) (image : Contents) → IfSome m (λ h. NoMoreFirm h mid.firm) → Told o m (λ held at. IsOnTheWay held (first held) old.firm at mid.firm) → Told m n (λ held at. IsOnTheWay held (second held) mid.firm at new.firm) → Told o m (Further first second goal) → ImageOf (option_map second m) mid.firm image → ImageOf (option_map goal o) mid.firm image
  images_then None None n image within x y f is = is
  images_then None (Some m) n image within x y f is = absurd x
  images_then (Some o) None n image within x y f is = absurd x
  images_then (Some o) (Some m) None image within x y f is = absurd y
  images_then (Some o) (Some m) (Some n) image within x y f is = more_leaves_more (second m) (goal o) mid.firm image (more_within m (second m) mid.firm within (extends_then m n (second m) y.began y.extends)) f.1 is

  pub images_behind : (image : Contents) → ImageOf (option_map second mid.contents) mid.firm image → ImageOf (option_map goal old.contents) mid.firm image
  images_behind image is = images_then old.contents mid.contents new.contents image sound'.firm_held a.toward b.toward further is

  less_firm : (o m : Option Contents) (image : Contents) → Told o m (λ held at. IsOnTheWay held (first held) old.firm at mid.firm) → ImageOf (option_map goal o) mid.firm image → ImageOf (option_map goal o) old.firm image
  less_firm None m image x is = is
  less_firm (Some o) None image x is = absurd x
  less_firm (Some o) (Some m) image x is = less_firm_leaves_more (goal o) old.firm mid.firm image x.no_less is

  pub toward_then : GoesToward goal old new Q
  toward_then = record {
    toward = ways old.contents mid.contents new.contents a.toward b.toward further;
    goes_on = goes_join old mid new _ Q
        (goes_weaker old mid _ _ Q Q (λ i image since is. images_first old.contents mid.contents image sound.firm_held a.toward further is) (λ d m since q. q) a.goes_on)
        (goes_weaker mid new _ _ Q Q (λ i image since is. less_firm old.contents mid.contents image a.toward (images_behind image is)) (λ d m since q. q) b.goes_on);
  }

  -- what failed in the first calls, and in the second
  pub fails_first : (d : ℕ) → FailsToward first d old mid → FailsToward goal d old new
  fails_first d fails = told old.contents mid.contents further fails
    where
      told : (o m : Option Contents) → Told o m (Further first second goal) → IfSome o (λ from. FailsOnTheWay d from (first from) old mid) → IfSome o (λ from. FailsOnTheWay d from (goal from) old new)
      told None m f it = tt
      told (Some o) None f it = absurd f
      told (Some o) (Some m) f it = record {
        moment = it.moment;
        held = it.held;
        firm = it.firm;
        since = it.since;
        way = way_further o (first o) (goal o) old.firm it.held it.firm f.0 it.way;
        over = fails_over_stays d it.moment it.held it.firm mid new _ Q b.goes_on it.over;
      }

  pub fails_second : (d : ℕ) → FailsToward second d mid new → FailsToward goal d old new
  fails_second d fails = told old.contents mid.contents a.toward further fails
    where
      told : (o m : Option Contents) → Told o m (λ held at. IsOnTheWay held (first held) old.firm at mid.firm) → Told o m (Further first second goal) → IfSome m (λ from. FailsOnTheWay d from (second from) mid new) → IfSome o (λ from. FailsOnTheWay d from (goal from) old new)
      told None m x f it = tt
      told (Some o) None x f it = absurd x
      told (Some o) (Some m) x f it = record {
        moment = it.moment;
        held = it.held;
        firm = it.firm;
        since = let s = a.goes_on.later in let s' = it.since in omega (arith, s, s');
        way = way_then o (goal o) (first o) (second m) old.firm m mid.firm it.held it.firm f.1 x it.way;
        over = it.over;
      }

-- ---- a goal that lies further

module _ (first goal : Contents → Contents) (old new : BayState) (Q : ℕ → ℕ → Type 0) (sound : IsSound old) (a : GoesToward first old new Q) (further : (held : Contents) → Extends (first held) (goal held)) where
  further_images : (o n : Option Contents) (image : Contents) → IfSome o (λ h. NoMoreFirm h old.firm) → Told o n (λ held at. IsOnTheWay held (first held) old.firm at new.firm) → ImageOf (option_map first o) old.firm image → ImageOf (option_map goal o) old.firm image
  further_images None n image within x is = is
  further_images (Some o) None image within x is = absurd x
  further_images (Some o) (Some n) image within x is = more_leaves_more (first o) (goal o) old.firm image (more_within o (first o) old.firm within (extends_then o n (first o) x.began x.extends)) (further o) is

  pub toward_further : GoesToward goal old new Q
  toward_further = record {
    toward = Told-weaker old.contents new.contents _ _ a.toward (λ held at way. way_further held (first held) (goal held) old.firm at new.firm (further held) way);
    goes_on = goes_weaker old new _ _ Q Q (λ i image since is. further_images old.contents new.contents image sound.firm_held a.toward is) (λ d m since q. q) a.goes_on;
  }

  pub fails_further : (d : ℕ) → FailsToward first d old new → FailsToward goal d old new
  fails_further d fails = told old.contents fails
    where
      told : (o : Option Contents) → IfSome o (λ from. FailsOnTheWay d from (first from) old new) → IfSome o (λ from. FailsOnTheWay d from (goal from) old new)
      told None it = tt
      told (Some o) it = record { moment = it.moment; held = it.held; firm = it.firm; since = it.since; way = way_further o (first o) (goal o) old.firm it.held it.firm (further o) it.way; over = it.over }
