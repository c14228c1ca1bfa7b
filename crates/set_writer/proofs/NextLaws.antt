-- A set that follows another: the one is closed where it has to be, and the next is formed and opened.
use Rattle.std.proofs.Common.{◌≡◌, ◌≢◌, ◌⊎◌, inl, inr, ℕ, ◌+◌, ◌/◌, ◌≤◌, Bool, true, false, cond, List, [], ◌++◌, length, Option, Some, None, IfSome, refl, sym, ap, subst, ◌∙◌, arith}
use Rattle.std.specs.Prelude.{not, ◌&&◌, ◌==◌, nat_lt, option_map, ⊤}
use Rattle.std.proofs.lemmas.Bool.{and_parts, eqb-true, ne_eqb, both_ways}
use Rattle.std.proofs.lemmas.List.{append-nil}
use Rattle.smore_base.specs.Told.{Told}
use Rattle.smore_base.proofs.Told.{Told-then}
use Rattle.zone_bay.specs.Contents.{Contents, Lengths}
use Rattle.zone_bay.specs.Images.{ImageOf, moment_of}
use Rattle.zone_bay.specs.Bay.{BayState, IsSound}
use Rattle.zone_bay.specs.Stretch.{IsOnTheWay, GoesOn}
use Rattle.zone_bay.proofs.Extends.{extends_itself}
use Rattle.zone_bay.proofs.Stretch.{goes_join, goes_weaker, no_fault}
use Rattle.zone_bay.proofs.Toward.{toward_weaker}
use Rattle.set_table.specs.declared.zone_use.ZoneUse.{ZoneUse}
use Rattle.set_table.specs.declared.zone_use.ZoneUse.TheVariants.{Empty, Taken, Carrier}
use Rattle.set_table.specs.declared.members.Member.{Member}
use Rattle.set_table.specs.Table.{Table, use_at, is_live, fragments_of, marks_of, with_empty_of, Forms, HangsTogether, Loses}
use Rattle.set_writer.specs.Entry.{Entry, entries_bytes}
use Rattle.set_writer.specs.Members.{of_members, more_at, grown_by, is_member, HasZone, Leads, AllReach, OthersStay, Grows, MembersFirm, HoldBlocks}
use Rattle.set_table.specs.Table.{array_of}
use Rattle.set_writer.specs.Writer.{Writer, array_by, begun, written, closed, opening, spare_of, EmptyHold, HoldsSet, Fits}
use Rattle.set_writer.specs.Fit.{has_enough}
use Rattle.set_writer.specs.Rounds.{Rounds, InRounds}
use Rattle.set_table.specs.Points.{Point, point_at}
use Rattle.set_writer.specs.Calls.{closing_rounds, ending_rounds, FitsIn, FitsSome, Began, EndsBy, Ends, Follows, closes_first, closing_bytes, with_closing, with_opening, with_end, ended, HasAll, LeftEnding, FailedBy, StillFits, OldHolds, with_digest}
use Rattle.set_writer.proofs.CarriedLaws.{enough_is_listed}
use Rattle.set_writer.proofs.CloseLaws.{failed_by}
use Rattle.set_writer.proofs.RoundLaws.{no_rounds, rounds_told}
use Rattle.zone_bay.proofs.TowardThen.{Further}
use Rattle.set_writer.proofs.MemberCalls.{more_live, more_lost, live_or_lost, leads_then, leads_behind}
use Rattle.set_writer.proofs.FormedLaws.{Listed, formed_spare, from_empty, same_live, same_array, formed_hold}
use Rattle.set_writer.proofs.OpenedLaws.{opened_fits}
use Rattle.set_writer.proofs.BeganLaws.{began_stays, began_count}
use Rattle.set_writer.proofs.WroteLaws.{written-same, empty_stays}

-- ---- how the first set ended

module _ (w : Writer) (t tc : Table) (old mid : BayState) where
  pub ends_table : (b : Bool) → EndsBy b w t tc old mid → tc ≡ record t { lost = tc.lost }
  ends_table true ends = ends.grows.table
  ends_table false ends = subst (λ (s : Table). s ≡ record t { lost = s.lost }) (sym ends.0) refl

  ends_leads : (b : Bool) → EndsBy b w t tc old mid → Leads (λ held. cond b (with_closing w t held) held) t tc old mid
  ends_leads true ends = ends.grows.leads
  ends_leads false ends = record {
    stays_lost = λ d live. subst (λ (s : Table). is_live s d ≡ true) ends.0 live;
    toward = record {
      toward = still old.contents mid.contents ends.1.contents;
      goes_on = goes_weaker old mid _ _ _ _ (λ i image since is. absurd is) (λ d m since is. absurd is) ends.1.goes_on;
    };
    rose = λ d loses. absurd (none d loses);
    failed = λ d loses. absurd (none d loses);
  }
    where
      none : (d : ℕ) → Loses t tc d → ⊥
      none d loses = both_ways (is_live t d) (subst (λ (s : Table). is_live s d ≡ false) ends.0 loses.1) loses.0

      still : (o m : Option Contents) → m ≡ o → Told o m (λ held at. IsOnTheWay held held old.firm at mid.firm)
      still None None is = tt
      still None (Some m) is = absurd cc
      still (Some o) None is = absurd cc
      still (Some o) (Some m) is =
          let same : m ≡ o = cc in
          let firm = ends.1.firm in
          subst (λ (c : Contents). IsOnTheWay o o old.firm c mid.firm) (sym same) (record { began = extends_itself o; extends = extends_itself o; no_less = λ d z. let f = ap (λ (l : ℕ → ℕ → ℕ). l d z) firm in omega (arith, f) })

  ends_whole : (b : Bool) → EndsBy b w t tc old mid → AllReach (λ held. cond b (with_closing w t held) held) tc old mid
  ends_whole true ends = ends.grows.whole
  ends_whole false ends = still old.contents mid.contents ends.1.contents
    where
      still : (o m : Option Contents) → m ≡ o → Told o m (λ held at. (d z : ℕ) → is_live tc d ≡ true → at d z ≡ held d z)
      still None None is = tt
      still None (Some m) is = absurd cc
      still (Some o) None is = absurd cc
      still (Some o) (Some m) is = λ d z live. let same : m ≡ o = cc in ap (λ (c : Contents). c d z) same

  pub ends_empty : (b : Bool) → EndsBy b w t tc old mid → IfSome old.contents (EmptyHold t) → IfSome mid.contents (EmptyHold tc)
  ends_empty true ends empty = empty_stays t tc w.set (closing_bytes w) old mid ends.grows empty
  ends_empty false ends empty = subst (λ (o : Option Contents). IfSome o (EmptyHold tc)) (sym ends.1.contents) (subst (λ (s : Table). IfSome old.contents (EmptyHold s)) (sym ends.0) empty)

-- the same point
same_point : (a b : Point) → a.table ≡ b.table → a.moment ≡ b.moment → ((d : ℕ) → a.faults d ≡ b.faults d) → a ≡ b
same_point a b table moment faults = λ i. record { table = table i; moment = moment i; faults = λ d. faults d i }

ends_rounds : (w : Writer) (t tc : Table) (old mid : BayState) (b : Bool) → EndsBy b w t tc old mid → Rounds w.set (cond b (closing_rounds w) 0) mid.failed (point_at t old) (point_at tc mid)
ends_rounds w t tc old mid true ends = ends.calls
ends_rounds w t tc old mid false ends = subst (Rounds w.set 0 mid.failed (point_at t old)) (same_point (point_at t old) (point_at tc mid) (sym ends.0) (sym ends.1.moment) (λ d. sym (no_fault old mid _ _ d ends.1.goes_on (λ m q. q)))) (no_rounds w.set mid.failed (point_at t old))

-- the empty zones hold nothing
pub some_empty : (w : Writer) (t : Table) (bay : BayState) → FitsSome w t bay → IfSome bay.contents (EmptyHold t)
some_empty w t bay fits = at bay.contents fits
  where
    at : (o : Option Contents) → IfSome o (λ held. (es : List Entry) × Fits w es t held) → IfSome o (EmptyHold t)
    at None f = tt
    at (Some o) f = f.1.empty

-- the zones hold what was written, for some records
some_fits : (w : Writer) (es : List Entry) (t : Table) (bay : BayState) → FitsIn w es t bay → FitsSome w t bay
some_fits w es t bay fits = at bay.contents fits
  where
    at : (o : Option Contents) → IfSome o (Fits w es t) → IfSome o (λ held. (es : List Entry) × Fits w es t held)
    at None f = tt
    at (Some o) f = (es, f)

pub still_some : (w w' : Writer) (t t' : Table) (old new : BayState) → StillFits w w' t t' old new → FitsSome w t old → FitsSome w' t' new
still_some w w' t t' old new still fits = at old.contents still fits
  where
    at : (o : Option Contents) → ((es : List Entry) → IfSome o (Fits w es t) → FitsIn w' es t' new) → IfSome o (λ held. (es : List Entry) × Fits w es t held) → FitsSome w' t' new
    at None still f = some_fits w' [] t' new (still [] tt)
    at (Some o) still f = some_fits w' f.0 t' new (still f.0 f.1)

-- room for sets where the old one ended
pub ends_room : (w : Writer) (t tc : Table) (old mid : BayState) → Ends w t tc old mid → tc.spare ≡ t.spare
ends_room w t tc old mid ends = ap (λ (s : Table). s.spare) (ends_table w t tc old mid (closes_first w t) ends)

-- the next set's members hold nothing
pub next_hold : (w : Writer) (t tc f : Table) (set' : ℕ) (members : List Member) (old mid : BayState) → HangsTogether t → marks_of set' t.sets ≡ None → Ends w t tc old mid → Forms tc set' members f → FitsSome w t old → IfSome mid.contents (HoldBlocks f set' 0)
next_hold w t tc f set' members old mid together absent ends forms fits =
    let table = ends_table w t tc old mid (closes_first w t) ends in
    formed_hold tc f set' members mid.contents (subst Listed (sym table) (let listed : Listed (record t { lost = tc.lost }) = together.listed in listed))
    (ap (λ (s : Table). marks_of set' s.sets) table ∙ absent) forms
    (ends_empty w t tc old mid (closes_first w t) ends (some_empty w t old fits))

pub ended_array : (w : Writer) (b : Bool) → array_by (cond b (closed w) w) ≡ array_by w
ended_array w true = refl
ended_array w false = refl

pub ended_set : (w : Writer) (b : Bool) → (cond b (closed w) w).set ≡ w.set
ended_set w true = refl
ended_set w false = refl

ended_spare : (w : Writer) (b : Bool) → spare_of (cond b (closed w) w) ≡ spare_of w
ended_spare w true = refl
ended_spare w false = refl

-- the old set's zones, where no set was formed
pub ended_holds : (w w' : Writer) (t t' : Table) (old new : BayState) → w' ≡ ended w t → StillFits w w' t t' old new → OldHolds w t t' old new
ended_holds w w' t t' old new is still es fits = at new.contents (subst (λ (v : Writer). FitsIn v es t' new) is (still es fits))
  where
    at : (o : Option Contents) → IfSome o (Fits (ended w t) es t') → IfSome o (HoldsSet (ended w t) es t')
    at None f = tt
    at (Some o) f = f.members

-- The zones of a set hold what they held where another set is formed and its members grow.
other_holds : (v : Writer) (es : List Entry) (tc f t1 : Table) (set' : ℕ) (m : ℕ → List ℕ) (members : List Member) (mid new : BayState) → v.set ≢ set' → Forms tc set' members f → Grows set' m f t1 mid new → FitsIn v es tc mid → IfSome new.contents (HoldsSet v es t1)
other_holds v es tc f t1 set' m members mid new other forms grows fits = told mid.contents new.contents grows.whole fits
  where
    other_carrier : (i j : ℕ) → Carrier v.set i ≡ Carrier set' j → v.set ≡ set'
    other_carrier i j is = cc

    told : (o n : Option Contents) → Told o n (λ held at. (d z : ℕ) → is_live t1 d ≡ true → at d z ≡ grown_by f (of_members (fragments_of f) set' m) held d z) → IfSome o (Fits v es tc) → IfSome n (HoldsSet v es t1)
    told o None whole f' = tt
    told None (Some n) whole f' = absurd whole
    told (Some o) (Some n) whole f' = λ d z index below live is.
        let live_f = grows.leads.stays_lost d live in
        let used : use_at f.zones d z ≡ Carrier v.set index = ap (λ (s : Table). use_at s.zones d z) (sym grows.table) ∙ is in
        let count = ap (λ a. a.geometry.k + a.geometry.p) (same_array tc f set' members forms) in
        let count1 = ap (λ (s : Table). s.geometry.k + s.geometry.p) grows.table in
        let none : of_members (fragments_of f) set' m (use_at f.zones d z) ≡ [] = ap (of_members (fragments_of f) set' m) used ∙ ap (λ b. cond (b && nat_lt index (fragments_of f)) (m index) []) (ne_eqb v.set set' other) in
        let was : use_at tc.zones d z ≡ Carrier v.set index = elim (from_empty tc f set' members forms d z) [
          | inl new ↦ absurd (other (other_carrier index new.1 (sym used ∙ new.2)))
          | inr same ↦ sym same ∙ used
        ] in
        whole d z live
        ∙ ap (λ (l : List ℕ). o d z ++ l) (more_live f (of_members (fragments_of f) set' m) d z live_f ∙ none)
        ∙ append-nil (o d z)
        ∙ f'.members d z index (omega (arith, below, count, count1)) (sym (same_live tc f set' members forms d) ∙ live_f) was

-- ---- calls that lead on, from a table in which the same drives are live

leads_from : (goal : Contents → Contents) (t u t' : Table) (old new : BayState) → ((d : ℕ) → is_live u d ≡ is_live t d) → Leads goal u t' old new → Leads goal t t' old new
leads_from goal t u t' old new same leads = record {
  stays_lost = λ d live. sym (same d) ∙ leads.stays_lost d live;
  toward = toward_weaker goal old new _ _ (λ d m loses. (sym (same d) ∙ loses.0, loses.1)) leads.toward;
  rose = λ d loses. leads.rose d (same d ∙ loses.0, loses.1);
  failed = λ d loses. leads.failed d (same d ∙ loses.0, loses.1);
}

-- more on the live drives, behind what a goal makes of them
opening_further : (g : Contents → Contents) (tc f : Table) (more : ZoneUse → List ℕ) (old mid : BayState) (o m : Option Contents) → ((d : ℕ) → is_live f d ≡ is_live tc d) → Told o m (λ held at. IsOnTheWay held (g held) old.firm at mid.firm) → Told o m (λ held at. (d z : ℕ) → is_live tc d ≡ true → at d z ≡ g held d z)
    → Told o m (Further g (grown_by f more) (λ held. grown_by f more (g held)))
opening_further g tc f more old mid None None same x y = tt
opening_further g tc f more old mid None (Some m) same x y = x
opening_further g tc f more old mid (Some o) None same x y = x
opening_further g tc f more old mid (Some o) (Some m) same x y = (
  (λ d z. (more_at f more d z, refl)),
  λ d z. elim (live_or_lost f d) [
    | inl live ↦ ([], ap (λ (l : List ℕ). l ++ more_at f more d z) (sym (y d z (sym (same d) ∙ live))) ∙ sym (append-nil (m d z ++ more_at f more d z)))
    | inr lost ↦
        let on = x.extends d z in
        let none = more_lost f more d z lost in (
          on.0,
          ap (λ (l : List ℕ). g o d z ++ l) none ∙ append-nil (g o d z) ∙ on.1
              ∙ ap (λ (l : List ℕ). l ++ on.0) (sym (append-nil (m d z)) ∙ ap (λ (l : List ℕ). m d z ++ l) (sym none)),
        )
  ],
)

-- a zone has bytes of a set where it is a member, and else none
pub member_or_none : (count set' : ℕ) (m : ℕ → List ℕ) (u : ZoneUse) → (is_member count set' u ≡ true) ⊎ (of_members count set' m u ≡ [])
member_or_none count set' m Empty = inr refl
member_or_none count set' m Taken = inr refl
member_or_none count set' m (Carrier s i) = at ((s == set') && nat_lt i count) refl
  where
    at : (b : Bool) → (s == set') && nat_lt i count ≡ b → (is_member count set' (Carrier s i) ≡ true) ⊎ (of_members count set' m (Carrier s i) ≡ [])
    at true is = inl is
    at false is = inr (ap (λ (b : Bool). cond b (m i) []) is)

-- ---- all of it

module _ (w w' : Writer) (t tc f t1 : Table) (set' : ℕ) (members : List Member) (s0 sc s1 : BayState) (sound0 : IsSound s0) (soundc : IsSound sc) (sound1 : IsSound s1)
    (array : array_by w ≡ array_of t) (together_then : HangsTogether t) (absent_then : marks_of set' t.sets ≡ None) (ends : Ends w t tc s0 sc) (forms : Forms tc set' members f)
    (began : Began (begun (ended w t) set') (opening (array_by (ended w t)) set' []) w' f t1 sc s1) (firm : MembersFirm set' t1 s1) where
  mid_table : tc ≡ record t { lost = tc.lost }
  mid_table = ends_table w t tc s0 sc (closes_first w t) ends

  array_f : array_by (ended w t) ≡ array_of f
  array_f = ended_array w (closes_first w t) ∙ array ∙ sym (ap (λ (s : Table). array_of s) mid_table) ∙ sym (same_array tc f set' members forms)

  grows : Grows set' (entries_bytes f.geometry.k (opening (array_of f) set' [])) f t1 sc s1
  grows = subst (λ a. Grows set' (entries_bytes a.geometry.k (opening a set' [])) f t1 sc s1) array_f began.grows

  live_same : (d : ℕ) → is_live f d ≡ is_live tc d
  live_same d = same_live tc f set' members forms d

  goal : Contents → Contents
  goal held = with_opening set' f (with_end w t held)

  first_leads : Leads (with_end w t) t tc s0 sc
  first_leads = ends_leads w t tc s0 sc (closes_first w t) ends

  first_whole : AllReach (with_end w t) tc s0 sc
  first_whole = ends_whole w t tc s0 sc (closes_first w t) ends

  second_leads : Leads (with_opening set' f) tc t1 sc s1
  second_leads = leads_from (with_opening set' f) tc f t1 sc s1 live_same grows.leads

  further : Told s0.contents sc.contents (Further (with_end w t) (with_opening set' f) (λ held. with_opening set' f (with_end w t held)))
  further = opening_further (with_end w t) tc f (of_members (fragments_of f) set' (entries_bytes f.geometry.k (opening (array_of f) set' []))) s0 sc s0.contents sc.contents live_same first_leads.toward.toward first_whole

  live_then : (d : ℕ) → is_live t1 d ≡ true → is_live tc d ≡ true
  live_then d live = sym (live_same d) ∙ grows.leads.stays_lost d live

  table_f : t1 ≡ record f { lost = t1.lost }
  table_f = grows.table

  -- a member of the old set was one before
  was_member : closes_first w t ≡ true → (d : ℕ) → HasZone (is_member (fragments_of t1) w.set) t1 d → HasZone (is_member (fragments_of tc) w.set) tc d
  was_member closes d has =
      let passes : is_member (fragments_of f) w.set (use_at f.zones d has.zone) ≡ true = subst (λ (s : Table). is_member (fragments_of s) w.set (use_at s.zones d has.zone) ≡ true) table_f has.passes in
      let count : fragments_of f ≡ fragments_of tc = ap (λ a. a.geometry.k + a.geometry.p) (same_array tc f set' members forms) in
      let here : is_member (fragments_of tc) w.set (use_at f.zones d has.zone) ≡ true = subst (λ n. is_member n w.set (use_at f.zones d has.zone) ≡ true) count passes in
      record {
        live = live_then d has.live;
        zone = has.zone;
        passes = elim (from_empty tc f set' members forms d has.zone) [
          | inl new ↦ let other : is_member (fragments_of tc) w.set (Carrier set' new.1) ≡ true = subst (λ (u : ZoneUse). is_member (fragments_of tc) w.set u ≡ true) new.2 here in
              let same = eqb-true set' w.set (and_parts (set' == w.set) _ other).0 in absurd (enough_is_listed t w.set together_then (ap (λ n. marks_of n t.sets) (sym same) ∙ absent_then) (and_parts (not w.is_closed) (has_enough t w.set) closes).1)
          | inr same ↦ subst (λ (u : ZoneUse). is_member (fragments_of tc) w.set u ≡ true) same here
        ];
      }

  -- what was firm is firm still
  old_firm_still : closes_first w t ≡ true → MembersFirm w.set tc sc → MembersFirm w.set t1 s1
  old_firm_still closes was = told sc.contents s1.contents was firm grows.whole grows.leads.toward.toward sound1.firm_held
    where
      m : ℕ → List ℕ
      m = entries_bytes f.geometry.k (opening (array_of f) set' [])

      told : (o n : Option Contents) → IfSome o (λ held. (d z : ℕ) → HasZone (is_member (fragments_of tc) w.set) tc d → sc.firm d z ≡ length (held d z)) → IfSome n (λ held. (d z : ℕ) → HasZone (is_member (fragments_of t1) set') t1 d → s1.firm d z ≡ length (held d z))
          → Told o n (λ held at. (d z : ℕ) → is_live t1 d ≡ true → at d z ≡ grown_by f (of_members (fragments_of f) set' (entries_bytes f.geometry.k (opening (array_of f) set' []))) held d z)
          → Told o n (λ held at. IsOnTheWay held (grown_by f (of_members (fragments_of f) set' (entries_bytes f.geometry.k (opening (array_of f) set' []))) held) sc.firm at s1.firm)
          → IfSome n (λ held. (d z : ℕ) → s1.firm d z ≤ length (held d z)) → IfSome n (λ held. (d z : ℕ) → HasZone (is_member (fragments_of t1) w.set) t1 d → s1.firm d z ≡ length (held d z))
      told o None x y whole way within = tt
      told None (Some n) x y whole way within = absurd whole
      told (Some o) (Some n) x y whole way within = λ d z has. elim (member_or_none (fragments_of f) set' (entries_bytes f.geometry.k (opening (array_of f) set' [])) (use_at f.zones d z)) [
        | inl is ↦ y d z (record { live = has.live; zone = z; passes = subst (λ (s : Table). is_member (fragments_of s) set' (use_at s.zones d z) ≡ true) (sym table_f) is })
        | inr none ↦
            let before = x d z (was_member closes d has) in
            let live_f = grows.leads.stays_lost d has.live in
            let same : n d z ≡ o d z = whole d z has.live ∙ ap (λ (l : List ℕ). o d z ++ l) (more_live f (of_members (fragments_of f) set' (entries_bytes f.geometry.k (opening (array_of f) set' []))) d z live_f ∙ none) ∙ append-nil (o d z) in
            let long = ap (λ (l : List ℕ). length l) same in
            let less = way.no_less d z in
            let most = within d z in
            omega (arith, before, long, less, most)
      ]

  by_closing : (b : Bool) → EndsBy b w t tc s0 sc → b ≡ true → MembersFirm w.set tc sc
  by_closing true e is = e.firm
  by_closing false e is = absurd (both_ways false refl is)

  whole_closing : (b : Bool) → EndsBy b w t tc s0 sc → b ≡ true → AllReach (with_closing w t) tc s0 sc
  whole_closing true e is = e.grows.whole
  whole_closing false e is = absurd (both_ways false refl is)

  firm_first : (o m : Option Contents) → Told o m (λ held at. (d z : ℕ) → is_live tc d ≡ true → at d z ≡ with_closing w t held d z) → IfSome m (λ held. (d z : ℕ) → HasZone (is_member (fragments_of tc) w.set) tc d → sc.firm d z ≡ length (held d z)) → IfSome o (λ held. HasAll w.set tc sc.firm (with_closing w t held))
  firm_first None m whole is = tt
  firm_first (Some o) None whole is = absurd whole
  firm_first (Some o) (Some m) whole is = λ d z has.
      let before = is d z has in
      let same = ap (λ (l : List ℕ). length l) (whole d z has.live) in
      omega (arith, before, same)

  abbrev record_lengths : (b : Bool) → EndsBy b w t tc s0 sc → Lengths
  record_lengths true e = e.firm_first
  record_lengths false e = s0.firm

  -- the tables on the way
  abbrev record_table : (b : Bool) → EndsBy b w t tc s0 sc → Table
  record_table true e = e.records_table
  record_table false e = t

  record_lost : (b : Bool) (e : EndsBy b w t tc s0 sc) → record_table b e ≡ record t { lost = (record_table b e).lost }
  record_lost true e = e.records_lost
  record_lost false e = refl

  record_live : (b : Bool) (e : EndsBy b w t tc s0 sc) (d : ℕ) → is_live (record_table b e) d ≡ true → is_live t d ≡ true
  record_live true e d live = e.records_live d live
  record_live false e d live = live

  records_all : (b : Bool) (e : EndsBy b w t tc s0 sc) → b ≡ true → IfSome s0.contents (λ held. HasAll w.set (record_table b e) (record_lengths b e) held)
  records_all true e is = e.records_firm
  records_all false e is = absurd (both_ways false refl is)

  abbrev digest_lengths : (b : Bool) → EndsBy b w t tc s0 sc → Lengths
  digest_lengths true e = e.firm_then
  digest_lengths false e = s0.firm

  abbrev digest_table : (b : Bool) → EndsBy b w t tc s0 sc → Table
  digest_table true e = e.digest_table
  digest_table false e = t

  digest_lost : (b : Bool) (e : EndsBy b w t tc s0 sc) → digest_table b e ≡ record t { lost = (digest_table b e).lost }
  digest_lost true e = e.digest_lost
  digest_lost false e = refl

  digest_live : (b : Bool) (e : EndsBy b w t tc s0 sc) (d : ℕ) → is_live (digest_table b e) d ≡ true → is_live (record_table b e) d ≡ true
  digest_live true e d live = e.digest_live d live
  digest_live false e d live = live

  digest_stays : (b : Bool) (e : EndsBy b w t tc s0 sc) (d : ℕ) → is_live tc d ≡ true → is_live (digest_table b e) d ≡ true
  digest_stays true e d live = e.stays d live
  digest_stays false e d live = subst (λ (s : Table). is_live s d ≡ true) e.0 live

  digest_all : (b : Bool) (e : EndsBy b w t tc s0 sc) → b ≡ true → IfSome s0.contents (λ held. HasAll w.set (digest_table b e) (digest_lengths b e) (with_digest w t held))
  digest_all true e is = e.digest_firm
  digest_all false e is = absurd (both_ways false refl is)

  digest_still : (b : Bool) (e : EndsBy b w t tc s0 sc) → b ≡ true → IfSome s0.contents (λ held. HasAll w.set (digest_table b e) sc.firm (with_digest w t held))
  digest_still true e is = e.digest_still
  digest_still false e is = absurd (both_ways false refl is)

  -- what failed by then
  abbrev records_moment : (b : Bool) → EndsBy b w t tc s0 sc → ℕ
  records_moment true e = e.records_moment
  records_moment false e = s0.moment

  abbrev digest_moment : (b : Bool) → EndsBy b w t tc s0 sc → ℕ
  digest_moment true e = e.digest_moment
  digest_moment false e = s0.moment

  failed_still : (lost : Table) (moment : ℕ) (o : Option Contents) → IfSome o (λ held. (d : ℕ) → Loses t lost d → FailedBy s0 sc moment d) → IfSome o (λ held. (d : ℕ) → Loses t lost d → FailedBy s0 s1 moment d)
  failed_still lost moment None failed = tt
  failed_still lost moment (Some o) failed = λ d loses. let x = failed d loses in (x.0, x.1, x.2, second_leads.toward.goes_on.keeps_failed d x.0 x.3)

  records_failed : (b : Bool) (e : EndsBy b w t tc s0 sc) → b ≡ true → IfSome s0.contents (λ held. (d : ℕ) → Loses t (record_table b e) d → FailedBy s0 s1 (records_moment b e) d)
  records_failed true e is = failed_still e.records_table e.records_moment s0.contents e.records_failed
  records_failed false e is = absurd (both_ways false refl is)

  digest_failed : (b : Bool) (e : EndsBy b w t tc s0 sc) → b ≡ true → IfSome s0.contents (λ held. (d : ℕ) → Loses t (digest_table b e) d → FailedBy s0 s1 (digest_moment b e) d)
  digest_failed true e is = failed_still e.digest_table e.digest_moment s0.contents e.digest_failed
  digest_failed false e is = absurd (both_ways false refl is)

  -- the opening came behind that
  digest_before : (b : Bool) (e : EndsBy b w t tc s0 sc) → digest_moment b e ≤ sc.moment
  digest_before true e = e.digest_before
  digest_before false e = e.1.goes_on.later

  ending_order : (b : Bool) (e : EndsBy b w t tc s0 sc) → GoesOn s0 sc (LeftEnding b w t s0 (record_lengths b e) (digest_lengths b e) (records_moment b e) (digest_moment b e)) (λ d m. ⊤)
  ending_order true e = e.order
  ending_order false e = goes_weaker s0 sc _ _ _ _ (λ i image since is. absurd is) (λ d m since q. tt) e.1.goes_on

  ends_others : (b : Bool) → EndsBy b w t tc s0 sc → (d z : ℕ) → (b ≡ true → HasZone (is_member (fragments_of t) w.set) t d → ⊥) → sc.firm d z ≡ s0.firm d z
  ends_others true e d z none = e.others d z (none refl)
  ends_others false e d z none = ap (λ (l : Lengths). l d z) e.1.firm

  all_leads : Leads (λ held. with_opening set' f (with_end w t held)) t t1 s0 s1
  all_leads = leads_then (with_end w t) (with_opening set' f) (λ held. with_opening set' f (with_end w t held)) t tc t1 s0 sc s1 sound0 soundc first_leads second_leads further

  all_whole : AllReach (λ held. with_opening set' f (with_end w t held)) t1 s0 s1
  all_whole = Told-then s0.contents sc.contents s1.contents _ _ _ first_whole grows.whole (λ held at now x y d z live. y d z live ∙ ap (λ (l : List ℕ). l ++ more_at f (of_members (fragments_of f) set' (entries_bytes f.geometry.k (opening (array_of f) set' []))) d z) (x d z (live_then d live)))

  pub follows_is : w' ≡ written (ended w t) set' (opening (array_by w) set' [])
  follows_is = began.is ∙ written-same (begun (ended w t) set') (ended w t) set' (opening (array_by (ended w t)) set' []) refl refl refl ∙ ap (λ a. written (ended w t) set' (opening a set' [])) (ended_array w (closes_first w t))

  pub follows_fits : FitsSome w t s0 → FitsIn w' (opening (array_by w) set' []) t1 s1
  follows_fits fits =
      subst (λ a. FitsIn w' (opening a set' []) t1 s1) (ap (λ (s : Table). array_of s) mid_table ∙ sym array)
      (opened_fits (begun (ended w t) set') w' tc tc f t1 set' [] members sc s1 refl (array_f ∙ same_array tc f set' members forms) refl forms began
      (subst Listed (sym mid_table) (let listed : Listed (record t { lost = tc.lost }) = together_then.listed in listed))
      (ap (λ (s : Table). marks_of set' s.sets) mid_table ∙ absent_then)
      (ends_empty w t tc s0 sc (closes_first w t) ends (some_empty w t s0 fits)))

  pub follows : (least : ℕ) → least ≤ with_empty_of tc → (closes_first w t ≡ true → has_enough tc w.set ≡ true) → FitsSome w t s0 → OthersStay set' f sc s1 → InRounds set' 3 f t1 sc s1 → Follows set' least w w' t t1 s0 s1
  follows least drives enough fits others calls = record {
    closed_table = tc;
    lost = mid_table;
    closed_stays = first_leads.stays_lost;
    stays = live_then;
    kept = enough;
    enough = drives;
    members = members;
    formed = f;
    forms = forms;
    table = table_f;
    leads = all_leads;
    whole = all_whole;
    old_firm = λ is. old_firm_still is (by_closing (closes_first w t) ends is);
    firm = firm;
    firm_then = sc.firm;
    all_firm = λ is. firm_first s0.contents sc.contents (whole_closing (closes_first w t) ends is) (by_closing (closes_first w t) ends is);
    records_table = record_table (closes_first w t) ends;
    records_lost = record_lost (closes_first w t) ends;
    records_live = record_live (closes_first w t) ends;
    records_moment = records_moment (closes_first w t) ends;
    records_failed = records_failed (closes_first w t) ends;
    firm_records = record_lengths (closes_first w t) ends;
    records_firm = records_all (closes_first w t) ends;
    digest_table = digest_table (closes_first w t) ends;
    digest_lost = digest_lost (closes_first w t) ends;
    digest_live = digest_live (closes_first w t) ends;
    digest_stays = digest_stays (closes_first w t) ends;
    digest_moment = digest_moment (closes_first w t) ends;
    digest_failed = digest_failed (closes_first w t) ends;
    firm_digest = digest_lengths (closes_first w t) ends;
    digest_firm = digest_all (closes_first w t) ends;
    digest_still = digest_still (closes_first w t) ends;
    ended_at = point_at tc sc;
    ended_table = refl;
    digest_before = digest_before (closes_first w t) ends;
    closed_failed = λ is. failed_by (with_end w t) t tc s0 sc s1 soundc second_leads.toward.goes_on.keeps_failed first_leads;
    order = goes_join s0 sc s1 (λ i image. LeftEnding (closes_first w t) w t s0 (record_lengths (closes_first w t) ends) (digest_lengths (closes_first w t) ends) (records_moment (closes_first w t) ends) (digest_moment (closes_first w t) ends) i image ⊎ ((sc.moment ≤ moment_of i) × ImageOf (option_map (λ held. with_opening set' f (with_end w t held)) s0.contents) sc.firm image)) (λ d m. ⊤)
        (goes_weaker s0 sc _ _ _ _ (λ i image since is. inl is) (λ d m since q. tt) (ending_order (closes_first w t) ends))
        (goes_weaker sc s1 _ _ _ _ (λ i image since is. inr (since, leads_behind (with_end w t) (with_opening set' f) (λ held. with_opening set' f (with_end w t held)) t tc t1 s0 sc s1 sound0 soundc first_leads second_leads further image is)) (λ d m since q. tt) second_leads.toward.goes_on);
    others = λ d z old_none new_none. others d z new_none ∙ ends_others (closes_first w t) ends d z old_none;
    ending_calls = rounds_told w.set (ending_rounds w t) sc.failed s1.failed (point_at t s0) (point_at tc sc) second_leads.toward.goes_on.keeps_failed (ends_rounds w t tc s0 sc (closes_first w t) ends);
    opening_calls = calls;
    is = follows_is;
    fits = follows_fits fits;
  }

  pub follows_some : FitsSome w t s0 → FitsSome w' t1 s1
  follows_some fits = some_fits w' (opening (array_by w) set' []) t1 s1 (follows_fits fits)

  pub follows_old : w.set ≢ set' → ((es : List Entry) → FitsIn w es t s0 → FitsIn (ended w t) es tc sc) → OldHolds w t t1 s0 s1
  follows_old other still es fits = other_holds (ended w t) es tc f t1 set' _ members sc s1 (λ same. other (sym (ended_set w (closes_first w t)) ∙ same)) forms grows (still es fits)

  pub follows_room : t.spare ≤ t1.spare + 1
  follows_room = let same = ends_room w t tc s0 sc ends in let one = formed_spare tc f set' members forms in let kept = ap (λ (s : Table). s.spare) table_f in omega (arith, same, one, kept)

  stays : (w'.room ≡ w.room) × (w'.records ≡ 2) × (w'.set ≡ set') × (w'.is_closed ≡ false)
  stays =
      let st = began_stays (begun (ended w t) set') w' _ f t1 sc s1 began in
      (st.room ∙ ended_room (closes_first w t), began_count (begun (ended w t) set') w' _ f t1 sc s1 began, st.set_is, st.open_)
    where
      ended_room : (b : Bool) → (cond b (closed w) w).room ≡ w.room
      ended_room true = refl
      ended_room false = refl

  pub follows_set : w'.set ≡ set'
  follows_set = stays.2

  pub follows_open : w'.is_closed ≡ false
  follows_open = stays.3

  -- no fewer records find room
  pub follows_spare : length w'.lines / 320 ≡ w'.records → spare_of w ≤ spare_of w'
  follows_spare listed = let room = stays.0 in let count = stays.1 in omega (arith, listed, room, count)
