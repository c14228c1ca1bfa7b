-- A set that is closed: its digest is put on the members and made firm, and then the feet.
use Rattle.std.proofs.Common.{◌≡◌, inl, inr, ℕ, ◌+◌, ◌<◌, ◌≤◌, true, false, List, [], ◌++◌, length, Option, Some, None, IfSome, refl, sym, ap, ap₂, subst, ◌∙◌, arith}
use Rattle.std.specs.Prelude.{option_map, ⊤}
use Rattle.smore_base.specs.Told.{Told}
use Rattle.zone_bay.specs.Contents.{Contents}
use Rattle.zone_bay.specs.Images.{ImageOf, Between}
use Rattle.zone_bay.specs.Bay.{BayState, IsSound}
use Rattle.zone_bay.specs.Stretch.{IsOnTheWay, FailsOnTheWay}
use Rattle.zone_bay.proofs.Images.{held_is_left}
use Rattle.zone_bay.proofs.Stretch.{goes_join, goes_weaker}
use Rattle.set_table.specs.declared.zone_use.ZoneUse.TheVariants.{Carrier}
use Rattle.set_table.specs.Table.{Table, use_at, is_live, fragments_of, Loses}
use Rattle.set_writer.specs.Entry.{Entry, entries_bytes}
use Rattle.set_writer.specs.Members.{of_members, grown_by, is_member, HasZone, Leads, GrowsBy, Grows, Flushes}
use Rattle.set_writer.specs.Writer.{CanDigest, Writer, written, closed, digest, parts_of, blocks_in, foot_bytes, Wrote, EmptyHold, Fits}
use Rattle.set_writer.specs.Fit.{live_of}
use Rattle.set_writer.specs.Rounds.{InRounds}
use Rattle.set_writer.specs.Calls.{FitsIn, closing_bytes, with_digest, with_closing, HasAll, LeftClosing, FailedBy, closing_rounds, Closes}
use Rattle.set_writer.proofs.MemberCalls.{grows_behind}
use Rattle.set_writer.proofs.BeganLaws.{members_joined, grows_more, flushed_grows, flushed_then, then_flushed, firm_after, flushed_others, still_others}
use Rattle.set_writer.proofs.RoundLaws.{one_round, in_rounds_then}
use Rattle.set_writer.proofs.WroteLaws.{written-same, open_is, zone_open, empty_stays, member_now}

-- the writer behind it
pub closed_view : (w v : Writer) (blocks parts : ℕ) → v ≡ w → blocks ≡ blocks_in (digest w) → parts ≡ parts_of w → record v { used = v.used + (blocks + 1); records = v.records + parts; is_closed = true } ≡ closed w
closed_view w v blocks parts is blocks_is parts_is =
    ap (λ (x : Writer). record x { used = x.used + (blocks + 1); records = x.records + parts; is_closed = true }) is
    ∙ ap₂ (λ u n. record w { used = u; records = w.records + n; is_closed = true }) (let e : w.used + (blocks + 1) ≡ w.used + blocks_in (digest w) + 1 = omega (arith, blocks_is) in e) parts_is

-- ---- the calls

-- a device that was lost failed by then
pub failed_by : (goal : Contents → Contents) (t t' : Table) (old mid new : BayState) → IsSound mid → ((d m : ℕ) → mid.failed d m → new.failed d m) → Leads goal t t' old mid → IfSome old.contents (λ held. (d : ℕ) → Loses t t' d → FailedBy old new mid.moment d)
failed_by goal t t' old mid new sound keeps leads = told old.contents leads.failed
  where
    told : (o : Option Contents) → ((d : ℕ) → Loses t t' d → IfSome o (λ from. FailsOnTheWay d from (goal from) old mid)) → IfSome o (λ held. (d : ℕ) → Loses t t' d → FailedBy old new mid.moment d)
    told None fails = tt
    told (Some o) fails = λ d loses.
        let x = fails d loses in
        (x.moment, x.since, sound.none_later (Between x.moment) x.held (x.over.left x.held (held_is_left x.held x.firm)), keeps d x.moment x.over.failed)

module _ (w : Writer) (t t1 t2 t3 t4 t5 : Table) (s0 s1 s2 s3 s4 s5 : BayState) (sound0 : IsSound s0) (sound1 : IsSound s1) (sound2 : IsSound s2) (sound3 : IsSound s3) (sound4 : IsSound s4)
    (flushed1 : Flushes w.set t t1 s0 s1) (digested : Grows w.set (entries_bytes w.geometry.k (digest w)) t1 t2 s1 s2) (flushed2 : Flushes w.set t2 t3 s2 s3)
    (feet : Grows w.set (foot_bytes w) t3 t4 s3 s4) (flushed3 : Flushes w.set t4 t5 s4 s5) where
  first_half : Grows w.set (entries_bytes w.geometry.k (digest w)) t t3 s0 s3
  first_half = then_flushed w.set _ t t2 t3 s0 s2 s3 sound0 sound2 (flushed_then w.set _ t t1 t2 s0 s1 s2 sound0 sound1 flushed1 digested) flushed2

  second_half : Grows w.set (foot_bytes w) t3 t5 s3 s5
  second_half = then_flushed w.set _ t3 t4 t5 s3 s4 s5 sound3 sound4 feet flushed3

  count : fragments_of t3 ≡ fragments_of t
  count = ap (λ (s : Table). s.geometry.k + s.geometry.p) first_half.table

  second_of : GrowsBy (of_members (fragments_of t) w.set (foot_bytes w)) t3 t5 s3 s5
  second_of = subst (λ n. GrowsBy (of_members n w.set (foot_bytes w)) t3 t5 s3 s5) count second_half

  pub closing_grows : Grows w.set (closing_bytes w) t t5 s0 s5
  closing_grows = grows_more w.set (entries_bytes w.geometry.k (digest w)) (foot_bytes w) (closing_bytes w) t t3 t5 s0 s3 s5 sound0 sound3 first_half second_half (λ index. refl)

  whole_digest : (o m : Option Contents) → Told o m (λ held at. (d z : ℕ) → is_live t3 d ≡ true → at d z ≡ with_digest w t held d z) → IfSome m (λ held. (d z : ℕ) → HasZone (is_member (fragments_of t3) w.set) t3 d → s3.firm d z ≡ length (held d z)) → IfSome o (λ held. HasAll w.set t3 s3.firm (with_digest w t held))
  whole_digest None m whole firm = tt
  whole_digest (Some o) None whole firm = absurd whole
  whole_digest (Some o) (Some m) whole firm = λ d z has.
      let is = firm d z has in
      let same = ap (λ (l : List ℕ). length l) (whole d z has.live) in
      omega (arith, is, same)

  -- and the feet leave it firm
  still_digest : (o m n : Option Contents) → Told o m (λ held at. (d z : ℕ) → is_live t3 d ≡ true → at d z ≡ with_digest w t held d z) → Told m n (λ held at. IsOnTheWay held (grown_by t3 (of_members (fragments_of t3) w.set (foot_bytes w)) held) s3.firm at s5.firm)
      → IfSome o (λ held. HasAll w.set t3 s3.firm (with_digest w t held)) → IfSome o (λ held. HasAll w.set t3 s5.firm (with_digest w t held))
  still_digest None m n whole way all = tt
  still_digest (Some o) None n whole way all = absurd whole
  still_digest (Some o) (Some m) None whole way all = absurd way
  still_digest (Some o) (Some m) (Some n) whole way all = λ d z has.
      let was = all d z has in
      let less = way.no_less d z in
      omega (arith, was, less)

  digest_all : IfSome s0.contents (λ held. HasAll w.set t3 s3.firm (with_digest w t held))
  digest_all = whole_digest s0.contents s3.contents first_half.whole (firm_after w.set t2 t3 s2 s3 flushed2)

  digest_half : Grows w.set (entries_bytes w.geometry.k (digest w)) t1 t3 s1 s3
  digest_half = then_flushed w.set _ t1 t2 t3 s1 s2 s3 sound1 sound2 digested flushed2

  count1 : fragments_of t1 ≡ fragments_of t
  count1 = ap (λ (s : Table). s.geometry.k + s.geometry.p) flushed1.table

  digest_of : GrowsBy (of_members (fragments_of t) w.set (entries_bytes w.geometry.k (digest w))) t1 t3 s1 s3
  digest_of = subst (λ n. GrowsBy (of_members n w.set (entries_bytes w.geometry.k (digest w))) t1 t3 s1 s3) count1 digest_half

  none_first : Grows w.set (λ index. []) t t1 s0 s1
  none_first = flushed_grows w.set t t1 s0 s1 sound0 flushed1

  all_records : (o m : Option Contents) → m ≡ o → IfSome m (λ held. (d z : ℕ) → HasZone (is_member (fragments_of t1) w.set) t1 d → s1.firm d z ≡ length (held d z)) → IfSome o (λ held. HasAll w.set t1 s1.firm held)
  all_records None m same firm = tt
  all_records (Some o) None same firm = absurd cc
  all_records (Some o) (Some m) same firm = λ d z has.
      let is = firm d z has in
      let at : m ≡ o = cc in
      let long = ap (λ (c : Contents). length (c d z)) at in
      omega (arith, is, long)

  -- the rounds of a closing
  all_rounds : s1.moment ≤ s0.moment + live_of t w.set → InRounds w.set (parts_of w) t1 t2 s1 s2 → s3.moment ≤ s2.moment + live_of t2 w.set → s4.moment ≤ s3.moment + live_of t3 w.set → s5.moment ≤ s4.moment + live_of t4 w.set → InRounds w.set (closing_rounds w) t t5 s0 s5
  all_rounds few1 digests few2 few3 few4 =
      in_rounds_then w.set (parts_of w + 3) 1 (parts_of w + 4) t t4 t5 s0 s4 s5 (omega arith) flushed3.leads.toward.goes_on.keeps_failed
      (in_rounds_then w.set (parts_of w + 2) 1 (parts_of w + 3) t t3 t4 s0 s3 s4 (omega arith) feet.leads.toward.goes_on.keeps_failed
      (in_rounds_then w.set (parts_of w + 1) 1 (parts_of w + 2) t t2 t3 s0 s2 s3 (omega arith) flushed2.leads.toward.goes_on.keeps_failed
      (in_rounds_then w.set 1 (parts_of w) (parts_of w + 1) t t1 t2 s0 s1 s2 (omega arith) digested.leads.toward.goes_on.keeps_failed
      (one_round w.set _ t t1 s0 s1 flushed1.table flushed1.leads few1) digests)
      (one_round w.set _ t2 t3 s2 s3 flushed2.table flushed2.leads few2))
      (one_round w.set _ t3 t4 s3 s4 feet.table feet.leads few3))
      (one_round w.set _ t4 t5 s4 s5 flushed3.table flushed3.leads few4)

  pub closes : s1.moment ≤ s0.moment + live_of t w.set → InRounds w.set (parts_of w) t1 t2 s1 s2 → s3.moment ≤ s2.moment + live_of t2 w.set → s4.moment ≤ s3.moment + live_of t3 w.set → s5.moment ≤ s4.moment + live_of t4 w.set → s2.firm ≡ s1.firm → s4.firm ≡ s3.firm → Closes w t t5 s0 s5
  closes few1 digests few2 few3 few4 none_firm none_then = record {
    grows = closing_grows;
    firm = firm_after w.set t4 t5 s4 s5 flushed3;
    records_table = t1;
    records_lost = flushed1.table;
    records_live = flushed1.leads.stays_lost;
    records_moment = s1.moment;
    records_failed = failed_by (λ h. h) t t1 s0 s1 s5 sound1 (λ d m is. second_half.leads.toward.goes_on.keeps_failed d m (digest_half.leads.toward.goes_on.keeps_failed d m is)) flushed1.leads;
    firm_first = s1.firm;
    records_firm = all_records s0.contents s1.contents flushed1.contents (firm_after w.set t t1 s0 s1 flushed1);
    digest_table = t3;
    digest_lost = first_half.table;
    digest_live = digest_half.leads.stays_lost;
    digest_moment = s3.moment;
    digest_failed = failed_by _ t t3 s0 s3 s5 sound3 second_half.leads.toward.goes_on.keeps_failed first_half.leads;
    firm_then = s3.firm;
    digest_firm = digest_all;
    digest_still = still_digest s0.contents s3.contents s5.contents first_half.whole second_half.leads.toward.toward digest_all;
    digest_before = second_half.leads.toward.goes_on.later;
    stays = second_half.leads.stays_lost;
    order = goes_join s0 s1 s5 (LeftClosing w t s0 s1.firm s3.firm s1.moment s3.moment) (λ d m. ⊤)
        (goes_weaker s0 s1 _ _ _ _ (λ i image since is. inl is) (λ d m since q. tt) flushed1.leads.toward.goes_on)
        (goes_join s1 s3 s5 (LeftClosing w t s0 s1.firm s3.firm s1.moment s3.moment) (λ d m. ⊤)
        (goes_weaker s1 s3 _ _ _ _ (λ i image since is. inr (inl (since, behind_first image is))) (λ d m since q. tt) digest_of.leads.toward.goes_on)
        (goes_weaker s3 s5 _ _ _ _ (λ i image since is. inr (inr (since, behind image is))) (λ d m since q. tt) second_of.leads.toward.goes_on));
    others = flushed_others w.set t t4 t5 s0 s4 s5 (feet.table ∙ ap (λ (s : Table). record s { lost = t4.lost }) first_half.table) (λ d live. first_half.leads.stays_lost d (feet.leads.stays_lost d live))
        (still_others w.set t s0 s3 s4 none_then
        (flushed_others w.set t t2 t3 s0 s2 s3 (digested.table ∙ ap (λ (s : Table). record s { lost = t2.lost }) flushed1.table) (λ d live. flushed1.leads.stays_lost d (digested.leads.stays_lost d live))
        (still_others w.set t s0 s1 s2 none_firm flushed1.others) flushed2)) flushed3;
    calls = all_rounds few1 digests few2 few3 few4;
  }
    where
      behind_first : (image : Contents) → ImageOf (option_map (grown_by t1 (of_members (fragments_of t) w.set (entries_bytes w.geometry.k (digest w)))) s1.contents) s1.firm image → ImageOf (option_map (with_digest w t) s0.contents) s1.firm image
      behind_first image is = grows_behind (of_members (fragments_of t) w.set (λ index. [])) (of_members (fragments_of t) w.set (entries_bytes w.geometry.k (digest w))) (of_members (fragments_of t) w.set (entries_bytes w.geometry.k (digest w))) t t1 t3 s0 s1 s3 sound0 sound1 none_first digest_of
          (members_joined (fragments_of t) w.set (λ index. []) (entries_bytes w.geometry.k (digest w)) (entries_bytes w.geometry.k (digest w)) (λ index. refl)) image is

      behind : (image : Contents) → ImageOf (option_map (grown_by t3 (of_members (fragments_of t) w.set (foot_bytes w))) s3.contents) s3.firm image → ImageOf (option_map (with_closing w t) s0.contents) s3.firm image
      behind image is = grows_behind (of_members (fragments_of t) w.set (entries_bytes w.geometry.k (digest w))) (of_members (fragments_of t) w.set (foot_bytes w)) (of_members (fragments_of t) w.set (closing_bytes w)) t t3 t5 s0 s3 s5 sound0 sound3 first_half second_of
          (members_joined (fragments_of t) w.set (entries_bytes w.geometry.k (digest w)) (foot_bytes w) (closing_bytes w) (λ index. refl)) image is

-- ---- the zones

module _ (w : Writer) (es : List Entry) (t t' : Table) (old new : BayState) (open_ : w.is_closed ≡ false) (can_digest : CanDigest w) (grows : Grows w.set (closing_bytes w) t t' old new) where
  before_is : Wrote w es → written (closed w) w.set es ≡ w
  before_is wrote = written-same (closed w) w w.set es refl refl refl ∙ sym (open_is w es open_ wrote)

  pub wrote_closed : Wrote w es → Wrote (closed w) es
  wrote_closed wrote = record { is = ap closed (sym (before_is wrote)); some = wrote.some; records = wrote.records; can = λ is. subst CanDigest (sym (before_is wrote)) can_digest }

  empty_of : (o : Option Contents) → IfSome o (Fits w es t) → IfSome o (EmptyHold t)
  empty_of None f = tt
  empty_of (Some o) f = f.empty

  pub closed_fits : FitsIn w es t old → FitsIn (closed w) es t' new
  closed_fits fits = told old.contents new.contents grows.whole (empty_stays t t' w.set (closing_bytes w) old new grows (empty_of old.contents fits)) fits
    where
      zones : t'.zones ≡ t.zones
      zones = ap (λ (s : Table). s.zones) grows.table

      same_count : fragments_of t' ≡ fragments_of t
      same_count = ap (λ (s : Table). s.geometry.k + s.geometry.p) grows.table

      told : (o n : Option Contents) → Told o n (λ held at. (d z : ℕ) → is_live t' d ≡ true → at d z ≡ with_closing w t held d z) → IfSome n (EmptyHold t') → IfSome o (Fits w es t) → IfSome n (Fits (closed w) es t')
      told o None whole h f = tt
      told None (Some n) whole h f = absurd whole
      told (Some o) (Some n) whole h f = record {
        wrote = wrote_closed f.wrote;
        bytes = f.bytes;
        members = λ d z index below live is.
            let before = grows.leads.stays_lost d live in
            let below' : index < fragments_of t = omega (arith, below, same_count) in
            let was : use_at t.zones d z ≡ Carrier w.set index = ap (λ zs. use_at zs d z) (sym zones) ∙ is in
            member_now t t' w.set (closing_bytes w) o n d z index zones below' before is (whole d z live)
            ∙ ap (λ (l : List ℕ). l ++ closing_bytes w index) (f.members d z index below' before was ∙ zone_open w es index open_)
            ∙ ap (λ (b : Writer). entries_bytes w.geometry.k es index ++ (entries_bytes w.geometry.k (digest b) index ++ foot_bytes b index)) (sym (before_is f.wrote));
        empty = h;
      }
