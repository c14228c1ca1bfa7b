-- Calls toward a goal: what is held is extended by it at every moment, so a crash leaves an image of it.
use Rattle.std.proofs.Common.{◌≡◌, ◌++◌, ℕ, ◌≤◌, true, false, List, length, Option, Some, None, IfSome, Result, Ok, Err, refl, subst, sym, arith, inl, inr}
use Rattle.std.specs.Prelude.{option_map, unwrap_or, []}
use Rattle.std.specs.Result.{IsErr}
use Rattle.std.proofs.lemmas.List.{length-append}
use Rattle.smore_base.specs.Told.{Told}
use Rattle.smore_base.proofs.Told.{Told-same}
use Rattle.zone_bay.specs.Contents.{Contents, Lengths, appended, Extends}
use Rattle.zone_bay.specs.Images.{IsImage, ImageOf}
use Rattle.zone_bay.specs.Bay.{BayState, IsSound, Call, Written, Read, Append, Reset, Flush, Replace, device_of, made_by, part_made_by, firm_after, Makes}
use Rattle.zone_bay.specs.Laws.{NoMoreFirm}
use Rattle.zone_bay.specs.Stretch.{LeftAround, IsOnTheWay, IsToward, StaysToward, GoesToward, FailsOver, FailsOnTheWay, FailsToward}
use Rattle.zone_bay.proofs.Extends.{elsewhere, extends_itself, extends_then, append_extends, part_extends}
use Rattle.zone_bay.proofs.Images.{more_leaves_more, less_firm_leaves_more, flushed_no_less}
use Rattle.zone_bay.proofs.Calls.{firm_done, firm_failed, one_more, fails_over}
use Rattle.zone_bay.proofs.Stretch.{goes_nowhere, goes_weaker}

-- before the first call
pub toward_start : (goal : Contents → Contents) (bay : BayState) (Q : ℕ → ℕ → Type 0) → ((held : Contents) → Extends held (goal held)) → GoesToward goal bay bay Q
toward_start goal bay Q extends = record {
  toward = Told-same bay.contents _ (λ held. record { began = extends_itself held; extends = extends held; no_less = λ d z. omega arith });
  goes_on = goes_nowhere bay _ Q;
}

-- images of what is held on the way are images of the goal
image_on_the_way : (from goal : Contents) (firm : Lengths) (held : Contents) (now : Lengths) (image : Contents) → NoMoreFirm held now → IsOnTheWay from goal firm held now → IsImage held now image → IsImage goal firm image
image_on_the_way from goal firm held now image within way is = less_firm_leaves_more goal firm now image way.no_less (more_leaves_more held goal now image within way.extends is)

within_more : (device zone : ℕ) (bytes : List ℕ) (held : Contents) (firm : Lengths) → NoMoreFirm held firm → NoMoreFirm (appended device zone bytes held) firm
within_more device zone bytes held firm within = elsewhere device zone (held device zone ++ bytes) held (λ d z now. firm d z ≤ length now) (let w = within device zone in omega (arith, length-append (held device zone) bytes)) within

around_on_the_way : (call : Call) (goal : Contents → Contents) (first held : Option Contents) (firm now : Lengths) (image : Contents) → IfSome held (λ h. NoMoreFirm h now) → Told first held (λ f h. IsOnTheWay f (goal f) firm h now) → Told first held (λ f h. StaysToward call (goal f) h) → LeftAround call held now image → ImageOf (option_map goal first) firm image
around_on_the_way call goal None (Some h) firm now image within way stays left = absurd way
around_on_the_way call goal (Some f) None firm now image within way stays left = absurd way
around_on_the_way (Written device zone) goal None None firm now image within way stays left = left
around_on_the_way (Read device zone) goal None None firm now image within way stays left = left
around_on_the_way (Append device zone bytes) goal None None firm now image within way stays left = left
around_on_the_way (Flush device) goal None None firm now image within way stays left = left
around_on_the_way (Reset device zone) goal None None firm now image within way stays (inl left) = left
around_on_the_way (Reset device zone) goal None None firm now image within way stays (inr left) = left
around_on_the_way (Replace device) goal None None firm now image within way stays (inl left) = left
around_on_the_way (Replace device) goal None None firm now image within way stays (inr left) = left
around_on_the_way (Written device zone) goal (Some f) (Some h) firm now image within way stays left = image_on_the_way f (goal f) firm h now image within way left
around_on_the_way (Read device zone) goal (Some f) (Some h) firm now image within way stays left = image_on_the_way f (goal f) firm h now image within way left
around_on_the_way (Append device zone bytes) goal (Some f) (Some h) firm now image within way stays left = image_on_the_way f (goal f) firm (appended device zone bytes h) now image (within_more device zone bytes h now within) (record { began = extends_then f h _ way.began (append_extends device zone bytes h); extends = stays; no_less = way.no_less }) left
around_on_the_way (Reset device zone) goal (Some f) (Some h) firm now image within way stays left = absurd stays
around_on_the_way (Flush device) goal (Some f) (Some h) firm now image within way stays left = image_on_the_way f (goal f) firm h now image within way left
around_on_the_way (Replace device) goal (Some f) (Some h) firm now image within way stays left = absurd stays

-- an answered call, and a failed one, stay on the way
way_done : (call : Call) (from goal : Contents) (firm : Lengths) (held : Contents) (now : Lengths) → NoMoreFirm held now → IsOnTheWay from goal firm held now → StaysToward call goal held → IsOnTheWay from goal firm (made_by call held) (firm_after call true (made_by call held) now)
way_done (Written device zone) from goal firm held now within way stays = way
way_done (Read device zone) from goal firm held now within way stays = way
way_done (Append device zone bytes) from goal firm held now within way stays = record { began = extends_then from held _ way.began (append_extends device zone bytes held); extends = stays; no_less = way.no_less }
way_done (Reset device zone) from goal firm held now within way stays = absurd stays
way_done (Flush device) from goal firm held now within way stays = record { began = way.began; extends = way.extends; no_less = λ d z. let a = way.no_less d z in let b = flushed_no_less held now device within d z in omega arith }
way_done (Replace device) from goal firm held now within way stays = absurd stays

way_failed : (n : ℕ) (call : Call) (from goal : Contents) (firm : Lengths) (held : Contents) (now : Lengths) → IsOnTheWay from goal firm held now → StaysToward call goal held → IsOnTheWay from goal firm (part_made_by n call held) (firm_after call false (part_made_by n call held) now)
way_failed n (Written device zone) from goal firm held now way stays = way
way_failed n (Read device zone) from goal firm held now way stays = way
way_failed n (Append device zone bytes) from goal firm held now way stays = record { began = extends_then from held _ way.began (append_extends device zone _ held); extends = extends_then _ _ goal (part_extends device zone n bytes held) stays; no_less = way.no_less }
way_failed n (Reset device zone) from goal firm held now way stays = absurd stays
way_failed n (Flush device) from goal firm held now way stays = way
way_failed n (Replace device) from goal firm held now way stays = absurd stays

toward_done : (call : Call) (goal : Contents → Contents) (first held : Option Contents) (firm now after : Lengths) → IfSome held (λ h. NoMoreFirm h now) → Told first held (λ f h. IsOnTheWay f (goal f) firm h now) → Told first held (λ f h. StaysToward call (goal f) h) → after ≡ firm_after call true (unwrap_or (option_map (made_by call) held) (λ _ _. [])) now → Told first (option_map (made_by call) held) (λ f h. IsOnTheWay f (goal f) firm h after)
toward_done call goal None None firm now after within way stays is = tt
toward_done call goal None (Some h) firm now after within way stays is = absurd way
toward_done call goal (Some f) None firm now after within way stays is = absurd way
toward_done call goal (Some f) (Some h) firm now after within way stays is = subst (λ (l : Lengths). IsOnTheWay f (goal f) firm (made_by call h) l) (sym is) (way_done call f (goal f) firm h now within way stays)

toward_failed : (n : ℕ) (call : Call) (goal : Contents → Contents) (first held : Option Contents) (firm now after : Lengths) → Told first held (λ f h. IsOnTheWay f (goal f) firm h now) → Told first held (λ f h. StaysToward call (goal f) h) → after ≡ firm_after call false (unwrap_or (option_map (part_made_by n call) held) (λ _ _. [])) now → Told first (option_map (part_made_by n call) held) (λ f h. IsOnTheWay f (goal f) firm h after)
toward_failed n call goal None None firm now after way stays is = tt
toward_failed n call goal None (Some h) firm now after way stays is = absurd way
toward_failed n call goal (Some f) None firm now after way stays is = absurd way
toward_failed n call goal (Some f) (Some h) firm now after way stays is = subst (λ (l : Lengths). IsOnTheWay f (goal f) firm (part_made_by n call h) l) (sym is) (way_failed n call f (goal f) firm h now way stays)

-- one call more, which leads no further than the goal
module _ (call : Call) (goal : Contents → Contents) (old mid new : BayState) (Q : ℕ → ℕ → Type 0) (sound : IsSound mid) (so_far : GoesToward goal old mid Q) where
  still_toward : {T E : Type 0} (r : Result T E) → Told old.contents mid.contents (λ held at. StaysToward call (goal held) at) → Makes call mid new r → IsToward goal old new
  still_toward (Ok x) stays makes = subst (λ (c : Option Contents). Told old.contents c (λ f h. IsOnTheWay f (goal f) old.firm h new.firm)) (sym makes.done) (toward_done call goal old.contents mid.contents old.firm mid.firm new.firm sound.firm_held so_far.toward stays (firm_done call mid new x makes))
  still_toward (Err e) stays makes = subst (λ (c : Option Contents). Told old.contents c (λ f h. IsOnTheWay f (goal f) old.firm h new.firm)) (sym makes.part.1) (toward_failed makes.part.0 call goal old.contents mid.contents old.firm mid.firm new.firm so_far.toward stays (firm_failed call mid new e makes))

  pub toward_call : {T E : Type 0} (r : Result T E) → Told old.contents mid.contents (λ held at. StaysToward call (goal held) at) → Makes call mid new r → ((m : ℕ) → IsErr r → Q (device_of call) m) → GoesToward goal old new Q
  toward_call r stays makes failed = record {
    toward = still_toward r stays makes;
    goes_on = one_more call old mid new r _ Q sound so_far.goes_on makes (λ i image since left. around_on_the_way call goal old.contents mid.contents old.firm mid.firm image sound.firm_held so_far.toward stays left) (λ m since is. failed m is);
  }

  -- a call that failed, failed on the way
  pub fails_toward : {T E : Type 0} (r : Result T E) → IsErr r → Makes call mid new r → FailsToward goal (device_of call) old new
  fails_toward r failed makes = told_fails old.contents mid.contents so_far.toward (λ at is. fails_over call mid new r at sound failed is makes)
    where
      told_fails : (first held : Option Contents) → Told first held (λ f h. IsOnTheWay f (goal f) old.firm h mid.firm) → ((at : Contents) → held ≡ Some at → FailsOver (device_of call) mid.moment at mid.firm new) → IfSome first (λ f. FailsOnTheWay (device_of call) f (goal f) old new)
      told_fails None held way fails = tt
      told_fails (Some f) None way fails = absurd way
      told_fails (Some f) (Some at) way fails = record { moment = mid.moment; held = at; firm = mid.firm; since = so_far.goes_on.later; way = way; over = fails at refl }

-- Other words for the failures.
pub toward_weaker : (goal : Contents → Contents) (old new : BayState) (Q Q' : ℕ → ℕ → Type 0) → ((d m : ℕ) → Q d m → Q' d m) → GoesToward goal old new Q → GoesToward goal old new Q'
toward_weaker goal old new Q Q' weaker goes = record { toward = goes.toward; goes_on = goes_weaker old new _ _ Q Q' (λ i image since is. is) (λ d m since. weaker d m) goes.goes_on }
