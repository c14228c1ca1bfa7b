-- What is kept of the other sets where one set follows another.
use Rattle.std.proofs.Common.{◌≡◌, ◌≢◌, ◌⊎◌, inl, inr, ℕ, ◌+◌, ◌<◌, ◌≤◌, Bool, true, false, cond, List, [], ◌++◌, length, take, Some, refl, sym, ap, subst, ◌∙◌, arith}
use Rattle.std.proofs.lemmas.Bool.{both_ways}
use Rattle.std.proofs.lemmas.List.{append-nil, take_at}
use Rattle.zone_bay.specs.Contents.{Contents, Lengths}
use Rattle.zone_bay.specs.Bay.{BayState}
use Rattle.zone_bay.specs.Stretch.{IsOnTheWay}
use Rattle.marker_format.specs.Zone.{Array}
use Rattle.set_table.specs.declared.zone_use.ZoneUse.TheVariants as uses
use Rattle.set_table.specs.declared.members.Member.{Member}
use Rattle.set_table.specs.Table.{Table, use_at, is_live, Forms}
use Rattle.set_table.specs.Table as table
use Rattle.set_writer.specs.Entry.{Entry, entries_bytes}
use Rattle.set_writer.specs.Members.{of_members, more_at, grown_by, MembersFirm}
use Rattle.set_table.specs.Table.{array_of}
use Rattle.set_writer.specs.Writer.{Writer, array_by, closed, opening, zone_bytes, Wrote, EmptyHold}
use Rattle.set_writer.specs.Calls.{with_closing, with_opening, with_end, closes_first, ended}
use Rattle.set_writer.specs.ImageLaws.{SetBytes, bytes_by, bytes_opened, HoldBytes, AreLive, begins_with, IsAlone, AreFirm, AreWhole, IsNew, MayOpen, IsFollowed, KeepsSets, IsOne, IsEither}
use Rattle.set_writer.proofs.NextLaws.{ended_set}
use Rattle.set_writer.proofs.WriterImages.{writer_bytes, firm_held}
use Rattle.set_writer.proofs.NextImages.{begins_whole, array_f, are_new, hold_new, none_began}
use Rattle.set_writer.proofs.NextSetImages.{put_by, zones_by, there_by, wrote_ended, old_there}
use Rattle.set_writer.proofs.KeptSets.{formed_uses, between, keeps_sets, told_both}

-- a prefix begins with no other head
prefix_begins : (array : Array) (set' : ℕ) (part whole rest : List ℕ) → whole ≡ part ++ rest → begins_with array set' part ≡ true → begins_with array set' whole ≡ true
prefix_begins array set' part whole rest is begins =
    begins_whole (length part) array set' whole (ap (begins_with array set') (ap (take (length part)) is ∙ take_at part rest (length part) refl) ∙ begins)

-- ---- both sets

module _ (v : Writer) (ended_held : Contents) (m : ℕ → List ℕ) (es : List Entry) (t tc f t' : Table) (set' : ℕ) (members : List Member) (held at : Contents) (firm firm_now : Lengths) (drives : List ℕ)
    (array : array_by v ≡ array_of t) (other : set' ≢ v.set) (wrote : Wrote v es)
    (zones_are : (d z : ℕ) → ended_held d z ≡ grown_by t (of_members (table.fragments_of t) v.set m) held d z)
    (zone_there : (d z index : ℕ) → index < table.fragments_of t → is_live t d ≡ true → use_at t.zones d z ≡ uses.Carrier v.set index → ended_held d z ≡ zone_bytes v es index)
    (empty : EmptyHold t held) (lost : tc ≡ record t { lost = tc.lost }) (may : MayOpen set' [] t) (forms : Forms tc set' members f) (same : t' ≡ record f { lost = t'.lost })
    (live : AreLive t drives) (alone : IsAlone t v.set held drives) (new_set : IsNew (array_of t) set' held drives)
    (way : IsOnTheWay held (with_opening set' f ended_held) firm at firm_now) where
  array_is : array_of f ≡ array_of t
  array_is = array_f v ended_held m es t tc f set' members held array other wrote zones_are zone_there empty lost may forms

  first_keeps : KeepsSets (IsOne v.set) t t drives held ended_held firm firm
  first_keeps =
      keeps_sets (bytes_by v es) m t t t held ended_held firm firm drives array refl refl (λ d z n i differ. ((λ e. e), (λ e. e))) (writer_bytes v es wrote)
      (λ d z index drive below carries. sym (zones_are d z) ∙ zone_there d z index below (live d drive) carries) alone
      (record {
        began = λ d z. (more_at t (of_members (table.fragments_of t) v.set m) d z, zones_are d z);
        extends = λ d z. ([], sym (zones_are d z) ∙ sym (append-nil (ended_held d z)));
        no_less = λ d z. omega arith;
      })

  goal : Contents
  goal = with_opening set' f ended_held

  none_at_first : IsNew (array_of f) set' ended_held drives
  none_at_first d z drive from = by (begins_with (array_of f) set' (ended_held d z)) refl
    where
      by : (b : Bool) → begins_with (array_of f) set' (ended_held d z) ≡ b → b ≡ false
      by false is = refl
      by true is = absurd (none_began v ended_held m es t tc f set' members held array other wrote zones_are zone_there empty lost may forms drives live alone new_set d z drive from (ap (λ (a : Array). begins_with a set' (ended_held d z)) (sym array_is) ∙ is))

  then_keeps : KeepsSets (IsOne set') t t' drives ended_held (with_opening set' f ended_held) firm firm
  then_keeps =
      keeps_sets (bytes_opened (array_of f) set' []) (entries_bytes f.geometry.k (opening (array_of f) set' [])) t f t' ended_held (with_opening set' f ended_held) firm firm drives refl (sym array_is) same
      (formed_uses t tc f set' members (ap (λ (s : Table). s.zones) lost) forms)
      (are_new v ended_held m es t tc f set' members held array other wrote zones_are zone_there empty lost may forms)
      (hold_new v ended_held m es t tc f set' members held array other wrote zones_are zone_there empty lost may forms drives live)
      (λ d z drive from begins. absurd (both_ways _ (none_at_first d z drive from) begins))
      (record {
        began = λ d z. (more_at f (of_members (table.fragments_of f) set' (entries_bytes f.geometry.k (opening (array_of f) set' []))) d z, refl);
        extends = λ d z. ([], sym (append-nil (with_opening set' f ended_held d z)));
        no_less = λ d z. omega arith;
      })

  -- what is alone at the goal is alone on the way
  alone_on_way : (n : ℕ) → IsAlone t' n (with_opening set' f ended_held) drives → IsAlone t' n at drives
  alone_on_way n is d z drive from begins = is d z drive from (prefix_begins (array_of t') n (at d z) (with_opening set' f ended_held d z) (way.extends d z).0 (way.extends d z).1 begins)

  new_on_way : (n : ℕ) → IsNew (array_of t) n (with_opening set' f ended_held) drives → IsNew (array_of t) n at drives
  new_on_way n none d z drive from = by (begins_with (array_of t) n (at d z)) refl
    where
      by : (b : Bool) → begins_with (array_of t) n (at d z) ≡ b → b ≡ false
      by false is = refl
      by true is = absurd (both_ways _ (none d z drive from) (prefix_begins (array_of t) n (at d z) (with_opening set' f ended_held d z) (way.extends d z).0 (way.extends d z).1 is))

  own_of : (n : ℕ) → (n ≡ v.set) ⊎ (n ≡ set') → IsAlone t' n at drives
  own_of n (inl is) = subst (λ k. IsAlone t' k at drives) (sym is) (alone_on_way v.set (then_keeps.alone v.set (λ e. other (sym e)) (first_keeps.own v.set refl)))
  own_of n (inr is) = subst (λ k. IsAlone t' k at drives) (sym is) (alone_on_way set' (then_keeps.own set' refl))

  -- the table's zones of another set
  use_before : (d z n i : ℕ) → n ≢ set' → use_at t'.zones d z ≡ uses.Carrier n i → use_at t.zones d z ≡ uses.Carrier n i
  use_before d z n i differ is = (formed_uses t tc f set' members (ap (λ (s : Table). s.zones) lost) forms d z n i differ).0 (ap (λ (s : Table). use_at s.zones d z) (sym same) ∙ is)

  below_before : (index : ℕ) → index < table.fragments_of t' → index < table.fragments_of t
  below_before index below =
      subst (λ k. index < k) (ap (λ (a : Array). a.geometry.k + a.geometry.p) array_is) (subst (λ (s : Table). index < table.fragments_of s) same below)

  pub both_kept : KeepsSets (IsEither v.set set') t t' drives held at firm firm_now
  both_kept = record {
    own = own_of;
    alone = λ n differ is. alone_on_way n (then_keeps.alone n (λ e. differ (inr e)) (first_keeps.alone n (λ e. differ (inl e)) is));
    none = λ n differ is. new_on_way n (then_keeps.none n (λ e. differ (inr e)) (first_keeps.none n (λ e. differ (inl e)) is));
    holds = λ o differ hold d z index drive below is.
        let before = use_before d z o.set index (λ e. differ (inr e)) is in
        let at_first = hold d z index drive (below_before index below) before in
        let at_goal = then_keeps.holds o (λ e. differ (inr e)) (first_keeps.holds o (λ e. differ (inl e)) hold) d z index drive below is in
        between (held d z) (at d z) (with_opening set' f ended_held d z) (way.began d z).0 (way.extends d z).0 (way.began d z).1 (way.extends d z).1 (at_goal ∙ sym at_first) ∙ at_first;
    firm_still = λ o count differ firm_of d z index drive below is.
        let was = firm_of d z index drive (below_before index below) (use_before d z o.set index (λ e. differ (inr e)) is) in
        let less = way.no_less d z in
        omega (arith, was, less);
    whole_still = λ o differ whole d z index drive below is.
        let was = whole d z index drive (below_before index below) (use_before d z o.set index (λ e. differ (inr e)) is) in
        let less = way.no_less d z in
        omega (arith, was, less);
  }

-- ---- the call

module _ (set' least : ℕ) (w w' : Writer) (es : List Entry) (t t' : Table) (held at : Contents) (old new : BayState) (drives : List ℕ) (is : IsFollowed set' least w w' es t t' held old new) (told : new.contents ≡ Some at) where
  whole_way : IsOnTheWay held (with_opening set' is.follows.formed (with_end w t held)) old.firm at new.firm
  whole_way = told_both held at (λ held at. IsOnTheWay held (with_opening set' is.follows.formed (with_end w t held)) old.firm at new.firm) old.contents new.contents is.follows.leads.toward.toward is.told told

  pub next_keeps_sets : AreLive t drives → IsAlone t w.set held drives → IsNew (array_of t) set' held drives → KeepsSets (IsEither w.set set') t t' drives held at old.firm new.firm
  next_keeps_sets live alone new_set = by (closes_first w t) refl whole_way
    where
      by : (b : Bool) → closes_first w t ≡ b → IsOnTheWay held (with_opening set' is.follows.formed (cond b (with_closing w t held) held)) old.firm at new.firm → KeepsSets (IsEither w.set set') t t' drives held at old.firm new.firm
      by true closes way =
          both_kept (closed w) (with_closing w t held) (put_by set' least w w' es t t' held old new is true) es t is.follows.closed_table is.follows.formed t' set' is.follows.members held at old.firm new.firm drives is.of.array is.other
          (wrote_ended set' least w w' es t t' held old new is true closes) (zones_by set' least w w' es t t' held old new is true) (there_by set' least w w' es t t' held old new is true closes) is.fits.empty is.follows.lost is.may is.follows.forms is.follows.table live alone new_set way
      by false closes way =
          both_kept w held (put_by set' least w w' es t t' held old new is false) es t is.follows.closed_table is.follows.formed t' set' is.follows.members held at old.firm new.firm drives is.of.array is.other
          (wrote_ended set' least w w' es t t' held old new is false closes) (zones_by set' least w w' es t t' held old new is false) (there_by set' least w w' es t t' held old new is false closes) is.fits.empty is.follows.lost is.may is.follows.forms is.follows.table live alone new_set way

  module _ (live : AreLive t' drives) where
    reach : (d z : ℕ) → is_live t' d ≡ true → at d z ≡ with_opening set' is.follows.formed (with_end w t held) d z
    reach = told_both held at (λ held at. (d z : ℕ) → is_live t' d ≡ true → at d z ≡ with_opening set' is.follows.formed (with_end w t held) d z) old.contents new.contents is.follows.whole is.told told

    array_then : array_of t' ≡ array_of t
    array_then =
        ap (λ (s : Table). array_of s) is.follows.table
        ∙ array_f w held (put_by set' least w w' es t t' held old new is false) es t is.follows.closed_table is.follows.formed set' is.follows.members held is.of.array is.other is.fits.wrote (zones_by set' least w w' es t t' held old new is false) is.fits.members is.fits.empty is.follows.lost is.may is.follows.forms

    -- the zones of a set but the next carried it before
    carried_before : (d z n index : ℕ) → n ≢ set' → use_at t'.zones d z ≡ uses.Carrier n index → use_at t.zones d z ≡ uses.Carrier n index
    carried_before d z n index differ carries =
        (formed_uses t is.follows.closed_table is.follows.formed set' is.follows.members (ap (λ (s : Table). s.zones) is.follows.lost) is.follows.forms d z n index differ).0 (ap (λ (s : Table). use_at s.zones d z) (sym is.follows.table) ∙ carries)

    below_then : (index : ℕ) → index < table.fragments_of t' → index < table.fragments_of t
    below_then index below = subst (λ k. index < k) (ap (λ (a : Array). a.geometry.k + a.geometry.p) array_then) below

    hold_old : HoldBytes (bytes_by (ended w t) es) t' at drives
    hold_old d z index drive below carries =
        reach d z (live d drive)
        ∙ old_there set' least w w' es t t' held old new is (closes_first w t) refl d z index (below_then index below) (is.follows.leads.stays_lost d (live d drive))
        (carried_before d z w.set index (λ e. is.other (sym e)) (carries ∙ ap (λ n. uses.Carrier n index) (ended_set w (closes_first w t))))

    firm_still : (bytes d z : ℕ) → bytes ≤ old.firm d z → bytes ≤ new.firm d z
    firm_still bytes d z was = let less = whole_way.no_less d z in omega (arith, was, less)

    pub next_keeps_old : HoldBytes (bytes_by (ended w t) es) t' at drives × (closes_first w t ≡ true → AreWhole (bytes_by (ended w t) es) t' drives new.firm)
        × ((s : SetBytes) (count : ℕ) → s.set ≢ set' → AreFirm s t drives old.firm count → AreFirm s t' drives new.firm count)
        × ((s : SetBytes) → s.set ≢ set' → AreWhole s t drives old.firm → AreWhole s t' drives new.firm)
    next_keeps_old = (
      hold_old,
      (λ closes. firm_held new (bytes_by (ended w t) es) t' at drives told hold_old
          (subst (λ n. MembersFirm n t' new) (sym (ended_set w (closes_first w t))) (is.follows.old_firm closes)) live),
      (λ s count differ firm_of d z index drive below carries. firm_still _ d z (firm_of d z index drive (below_then index below) (carried_before d z s.set index differ carries))),
      (λ s differ whole d z index drive below carries. firm_still _ d z (whole d z index drive (below_then index below) (carried_before d z s.set index differ carries))),
    )
