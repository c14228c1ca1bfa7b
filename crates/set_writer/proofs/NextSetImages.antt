-- What a crash leaves where one set follows another.
use Rattle.std.proofs.Common.{◌≡◌, inl, inr, ℕ, ◌+◌, ◌<◌, ◌≤◌, Bool, true, false, cond, List, [], ◌++◌, length, take, Option, IfSome, refl, sym, ap, subst, ◌∙◌, append_assoc, arith}
use Rattle.std.specs.Prelude.{not, option_map}
use Rattle.std.proofs.lemmas.Bool.{and_parts, both_ways}
use Rattle.std.proofs.lemmas.List.{append-nil, take_all, take_at}
use Rattle.zone_bay.specs.Contents.{Contents, Lengths, Extends}
use Rattle.zone_bay.specs.Images.{IsImage, Instant, moment_of}
use Rattle.zone_bay.specs.Bay.{BayState}
use Rattle.zone_bay.proofs.Extends.{extends_itself, extends_then}
use Rattle.marker_format.specs.Zone.{Array}
use Rattle.array_model.specs.Drives.{is_among}
use Rattle.set_table.specs.declared.zone_use.ZoneUse.TheVariants as uses
use Rattle.set_table.specs.Table.{Table, use_at, is_live}
use Rattle.set_table.specs.Table as table
use Rattle.set_writer.specs.Entry.{Entry, entries_bytes}
use Rattle.set_writer.specs.Members.{of_members, more_at, grown_by, is_member}
use Rattle.set_table.specs.Table.{array_of}
use Rattle.set_writer.specs.Writer.{Writer, closed, opening, digest, foot_bytes, zone_bytes, Wrote}
use Rattle.set_writer.specs.Fit.{has_enough}
use Rattle.set_writer.specs.Calls.{closing_bytes, with_digest, with_closing, with_opening, with_end, closes_first, ended, HasAll, LeftEnding}
use Rattle.set_writer.specs.ImageLaws.{bytes_by, bytes_opened, View, begins_with, HaveFirst, OthersSay, IsNotReadyOrWhole, cut_back, AgreeWhereClosed, IsLiveMember, IsFollowed, IsLeftBetween}
use Rattle.set_writer.proofs.MemberCalls.{more_live, more_lost, live_or_lost}
use Rattle.set_writer.proofs.BeganLaws.{members_none}
use Rattle.set_writer.proofs.NextLaws.{ended_array, ended_set}
use Rattle.set_writer.proofs.WroteLaws.{member_now}
use Rattle.set_writer.proofs.OtherSets.{member_is, none_more}
use Rattle.set_writer.proofs.WriterImages.{left_now, now_is, left_toward, grown_extends}
use Rattle.set_writer.proofs.OpeningImages.{not_ready_or_whole}
use Rattle.set_writer.proofs.ClosingImages.{wrote_then, zone_then, zone_of_member, closed_agree_on_all}
use Rattle.set_writer.proofs.NextImages.{begins_whole, zone_begins, LeavesBoth, leaves_both, old_zone}

-- members that get nothing
none_at_all : (t : Table) (set' d z : ℕ) → more_at t (of_members (table.fragments_of t) set' (λ index. [])) d z ≡ []
none_at_all t set' d z = elim (live_or_lost t d) [
  | inl live ↦ more_live t (of_members (table.fragments_of t) set' (λ index. [])) d z live ∙ members_none (table.fragments_of t) set' (λ index. []) (λ index. refl) (use_at t.zones d z)
  | inr lost ↦ more_lost t (of_members (table.fragments_of t) set' (λ index. [])) d z lost
]

not_closed : (b : Bool) → not b ≡ true → b ≡ false
not_closed true is = absurd (both_ways false refl is)
not_closed false is = refl

module _ (set' least : ℕ) (w w' : Writer) (es : List Entry) (t t' : Table) (held : Contents) (old new : BayState) (is : IsFollowed set' least w w' es t t' held old new) where
  pub open_of : closes_first w t ≡ true → w.is_closed ≡ false
  open_of closes = not_closed w.is_closed (and_parts (not w.is_closed) (has_enough t w.set) closes).0

  -- the zones of the set once it is closed
  pub closed_there : (closes : closes_first w t ≡ true) (d z index : ℕ) → index < table.fragments_of t → is_live t d ≡ true → use_at t.zones d z ≡ uses.Carrier w.set index → with_closing w t held d z ≡ zone_bytes (closed w) es index
  closed_there closes d z index below live carries =
      member_now t t w.set (closing_bytes w) held (with_closing w t held) d z index refl below live carries refl
      ∙ ap (λ (l : List ℕ). l ++ closing_bytes w index) (is.fits.members d z index below live carries)
      ∙ sym (zone_then w es (open_of closes) (is.can closes) is.fits.wrote index)

  pub wrote_ended : (b : Bool) → closes_first w t ≡ b → Wrote (cond b (closed w) w) es
  wrote_ended true closes = wrote_then w es (open_of closes) (is.can closes) is.fits.wrote
  wrote_ended false closes = is.fits.wrote

  -- what is put on its members
  abbrev pub put_by : Bool → ℕ → List ℕ
  put_by true index = closing_bytes w index
  put_by false index = []

  pub zones_by : (b : Bool) (d z : ℕ) → cond b (with_closing w t held) held d z ≡ grown_by t (of_members (table.fragments_of t) w.set (put_by b)) held d z
  zones_by true d z = refl
  zones_by false d z = sym (ap (λ (l : List ℕ). held d z ++ l) (none_at_all t w.set d z) ∙ append-nil (held d z))

  pub there_by : (b : Bool) → closes_first w t ≡ b → (d z index : ℕ) → index < table.fragments_of t → is_live t d ≡ true → use_at t.zones d z ≡ uses.Carrier w.set index → cond b (with_closing w t held) held d z ≡ zone_bytes (cond b (closed w) w) es index
  there_by true closes = closed_there closes
  there_by false closes = is.fits.members

  -- and in the table in which the next one is formed
  pub old_there : (b : Bool) → closes_first w t ≡ b → (d z index : ℕ) → index < table.fragments_of t → is_live t d ≡ true → use_at t.zones d z ≡ uses.Carrier w.set index → with_opening set' is.follows.formed (cond b (with_closing w t held) held) d z ≡ zone_bytes (cond b (closed w) w) es index
  old_there true closes =
      old_zone (closed w) (with_closing w t held) (put_by true) es t is.follows.closed_table is.follows.formed set' is.follows.members held is.of.array is.other (wrote_ended true closes) (zones_by true) (there_by true closes) is.fits.empty is.follows.lost is.may is.follows.forms
  old_there false closes =
      old_zone w held (put_by false) es t is.follows.closed_table is.follows.formed set' is.follows.members held is.of.array is.other (wrote_ended false closes) (zones_by false) (there_by false closes) is.fits.empty is.follows.lost is.may is.follows.forms

  -- while the next set is opened, a member that was live behind the closing has all of it
  module _ (image : Contents) (closes : closes_first w t ≡ true) (e y i : ℕ) (then : IsLiveMember is.follows.closed_table w.set e y i) where
    member : IsLiveMember t w.set e y i
    member = record {
      live = is.follows.closed_stays e then.live;
      below = subst (λ (s : Table). i < table.fragments_of s) is.follows.lost then.below;
      use_is = subst (λ (s : Table). use_at s.zones e y ≡ uses.Carrier w.set i) is.follows.lost then.use_is;
    }

    firm_all : IfSome old.contents (λ h. HasAll w.set is.follows.closed_table is.follows.firm_then (with_closing w t h)) → length (with_closing w t held e y) ≤ is.follows.firm_then e y
    firm_all firm = subst (λ (o : Option Contents). IfSome o (λ h. HasAll w.set is.follows.closed_table is.follows.firm_then (with_closing w t h))) is.told firm e y (zone_of_member is.follows.closed_table w.set e y i then)

    pub has_whole : IsImage (with_opening set' is.follows.formed (with_end w t held)) is.follows.firm_then image → image e y ≡ zone_bytes (closed w) es i
    has_whole left_ =
        let part = left_ e y in
        let still = old_there (closes_first w t) refl e y i member.below member.live member.use_is ∙ ap (λ b. zone_bytes (cond b (closed w) w) es i) closes in
        let bytes = part.2 ∙ ap (take part.0) still in
        let firm = firm_all (is.follows.all_firm closes) in
        let long = ap length (closed_there closes e y i member.below member.live member.use_is) in
        let enough = part.1 in
        bytes ∙ take_all part.0 (zone_bytes (closed w) es i) (omega (arith, firm, long, enough))

module _ (set' least : ℕ) (w w' : Writer) (es : List Entry) (t t' : Table) (held : Contents) (old new : BayState) (view : View) (is : IsFollowed set' least w w' es t t' held old new) (left : IsLeftBetween t w.set set' held old new view) where
  by_closing : (b : Bool) → closes_first w t ≡ b → IsImage (with_opening set' is.follows.formed (cond b (with_closing w t held) held)) old.firm view.held
      → LeavesBoth (cond b (closed w) w) es t is.follows.formed set' held (cond b (with_closing w t held) held) old.firm view
  by_closing true closes image =
      leaves_both (closed w) (with_closing w t held) (put_by set' least w w' es t t' held old new is true) es t is.follows.closed_table is.follows.formed set' is.follows.members held is.of.array is.other
      (wrote_ended set' least w w' es t t' held old new is true closes) (zones_by set' least w w' es t t' held old new is true) (there_by set' least w w' es t t' held old new is true closes) is.fits.empty is.follows.lost is.may is.follows.forms old.firm view left.live left.alone left.new_set image
  by_closing false closes image =
      leaves_both w held (put_by set' least w w' es t t' held old new is false) es t is.follows.closed_table is.follows.formed set' is.follows.members held is.of.array is.other
      (wrote_ended set' least w w' es t t' held old new is false closes) (zones_by set' least w w' es t t' held old new is false) (there_by set' least w w' es t t' held old new is false closes) is.fits.empty is.follows.lost is.may is.follows.forms old.firm view left.live left.alone left.new_set image

  ended_extends : (b : Bool) → Extends held (cond b (with_closing w t held) held)
  ended_extends true = grown_extends t w.set (closing_bytes w) held
  ended_extends false = extends_itself held

  image : IsImage (with_opening set' is.follows.formed (with_end w t held)) old.firm view.held
  image = left_toward (λ h. with_opening set' is.follows.formed (with_end w t h)) t t' held old new view.held is.sound is.told
      (extends_then held (with_end w t held) (with_opening set' is.follows.formed (with_end w t held)) (ended_extends (closes_first w t)) (grown_extends is.follows.formed set' (entries_bytes is.follows.formed.geometry.k (opening (array_of is.follows.formed) set' [])) (with_end w t held)))
      is.follows.leads left.left

  both : LeavesBoth (ended w t) es t is.follows.formed set' held (with_end w t held) old.firm view
  both = by_closing (closes_first w t) refl image

  pub next_leaves_first : HaveFirst (bytes_by (ended w t) es) t old.firm view × AgreeWhereClosed (ended w t) es view × HaveFirst (bytes_opened (array_of t) set' []) is.follows.formed old.firm view × IsNotReadyOrWhole (array_of t) set' [] view
      × OthersSay is.follows.formed set' (with_end w t held) old.firm view × OthersSay t w.set held old.firm (record view { held = cut_back (with_end w t held) view.held })
  next_leaves_first = (
    both.old_set,
    closed_agree_on_all (ended w t) es t old.firm view (wrote_ended set' least w w' es t t' held old new is (closes_first w t) refl) (ended_array w (closes_first w t) ∙ is.of.array) both.old_set,
    both.new_set,
    not_ready_or_whole (array_of t) set' [] is.follows.formed old.firm view both.new_set,
    both.first_others,
    subst (λ n. OthersSay t n held old.firm (record view { held = cut_back (with_end w t held) view.held })) (ended_set w (closes_first w t)) both.others,
  )

  -- ---- a head of the next set

  module _ (closes : closes_first w t ≡ true) (d z : ℕ) (drive : is_among view.drives d ≡ true) (from : 2 ≤ z) (begins : begins_with (array_of t) set' (view.held d z) ≡ true) where
    below_is : (index : ℕ) → index < table.fragments_of t → index < w.geometry.k + w.geometry.p
    below_is index below = let c = ap (λ (a : Array). a.geometry.k + a.geometry.p) is.of.array in omega (arith, below, c)

    wrote_closed : Wrote (closed w) es
    wrote_closed = wrote_then w es (open_of set' least w w' es t t' held old new is closes) (is.can closes) is.fits.wrote

    -- in no image of what was held while the set was closed
    no_head : (at : Contents) (firm : Lengths) → ((index : ℕ) → index < table.fragments_of t → use_at t.zones d z ≡ uses.Carrier w.set index → (k : ℕ) × (at d z ≡ take k (zone_bytes (closed w) es index)))
        → (is_member (table.fragments_of t) w.set (use_at t.zones d z) ≡ false → at d z ≡ held d z) → IsImage at firm view.held → ⊥
    no_head at firm own else_ left_ = by_use (is_member (table.fragments_of t) w.set (use_at t.zones d z)) refl
      where
        whole : begins_with (array_of t) set' (at d z) ≡ true
        whole = begins_whole (left_ d z).0 (array_of t) set' (at d z) (ap (begins_with (array_of t) set') (sym (left_ d z).2) ∙ begins)

        by_use : (b : Bool) → is_member (table.fragments_of t) w.set (use_at t.zones d z) ≡ b → ⊥
        by_use true member =
            let m = member_is (table.fragments_of t) w.set (use_at t.zones d z) member in
            let there = own m.0 m.1 m.2 in
            let all : begins_with (array_of t) set' (zone_bytes (closed w) es m.0) ≡ true = begins_whole there.0 (array_of t) set' (zone_bytes (closed w) es m.0) (ap (begins_with (array_of t) set') (sym there.1) ∙ whole) in
            is.other (sym (zone_begins (closed w) es set' m.0 wrote_closed (below_is m.0 m.1) (ap (λ (a : Array). begins_with a set' (zone_bytes (closed w) es m.0)) is.of.array ∙ all)))
        by_use false absent = both_ways _ (left.new_set d z drive from) (ap (begins_with (array_of t) set') (sym (else_ absent)) ∙ whole)

    own_first : (index : ℕ) → index < table.fragments_of t → use_at t.zones d z ≡ uses.Carrier w.set index → (k : ℕ) × (held d z ≡ take k (zone_bytes (closed w) es index))
    own_first index below carries = (
      length (zone_bytes w es index),
      is.fits.members d z index below (left.live d drive) carries
          ∙ sym (ap (take (length (zone_bytes w es index))) (zone_then w es (open_of set' least w w' es t t' held old new is closes) (is.can closes) is.fits.wrote index) ∙ take_at (zone_bytes w es index) (closing_bytes w index) (length (zone_bytes w es index)) refl),
    )

    own_digest : (index : ℕ) → index < table.fragments_of t → use_at t.zones d z ≡ uses.Carrier w.set index → (k : ℕ) × (with_digest w t held d z ≡ take k (zone_bytes (closed w) es index))
    own_digest index below carries =
        let some = zone_bytes w es index ++ entries_bytes w.geometry.k (digest w) index in (
          length (zone_bytes w es index ++ entries_bytes w.geometry.k (digest w) index),
          member_now t t w.set (entries_bytes w.geometry.k (digest w)) held (with_digest w t held) d z index refl below (left.live d drive) carries refl
              ∙ ap (λ (l : List ℕ). l ++ entries_bytes w.geometry.k (digest w) index) (is.fits.members d z index below (left.live d drive) carries)
              ∙ sym (ap (take (length (zone_bytes w es index ++ entries_bytes w.geometry.k (digest w) index))) (zone_then w es (open_of set' least w w' es t t' held old new is closes) (is.can closes) is.fits.wrote index ∙ sym (append_assoc (zone_bytes w es index) (entries_bytes w.geometry.k (digest w) index) (foot_bytes w index)))
              ∙ take_at (zone_bytes w es index ++ entries_bytes w.geometry.k (digest w) index) (foot_bytes w index) (length (zone_bytes w es index ++ entries_bytes w.geometry.k (digest w) index)) refl),
        )

    own_closing : (index : ℕ) → index < table.fragments_of t → use_at t.zones d z ≡ uses.Carrier w.set index → (k : ℕ) × (with_closing w t held d z ≡ take k (zone_bytes (closed w) es index))
    own_closing index below carries = (
      length (zone_bytes (closed w) es index),
      closed_there set' least w w' es t t' held old new is closes d z index below (left.live d drive) carries ∙ sym (take_all (length (zone_bytes (closed w) es index)) (zone_bytes (closed w) es index) (omega arith)),
    )

    else_grown : (m : ℕ → List ℕ) → is_member (table.fragments_of t) w.set (use_at t.zones d z) ≡ false → grown_by t (of_members (table.fragments_of t) w.set m) held d z ≡ held d z
    else_grown m absent = ap (λ (l : List ℕ). held d z ++ l) (none_more t w.set m d z absent) ∙ append-nil (held d z)

    -- so the next set was being opened
    no_ending : (i : Instant) → LeftEnding true w t old is.follows.firm_records is.follows.firm_digest is.follows.records_moment is.follows.digest_moment i view.held → ⊥
    no_ending i (inl first) = no_head held old.firm own_first (λ absent. refl) (now_is (option_map (λ h. h) old.contents) held old.firm view.held (ap (option_map (λ h. h)) is.told) first)
    no_ending i (inr (inl second)) = no_head (with_digest w t held) is.follows.firm_records own_digest (else_grown (entries_bytes w.geometry.k (digest w))) (now_is (option_map (with_digest w t) old.contents) (with_digest w t held) is.follows.firm_records view.held (ap (option_map (with_digest w t)) is.told) second.1)
    no_ending i (inr (inr third)) = no_head (with_closing w t held) is.follows.firm_digest own_closing (else_grown (closing_bytes w)) (now_is (option_map (with_closing w t) old.contents) (with_closing w t held) is.follows.firm_digest view.held (ap (option_map (with_closing w t)) is.told) third.1)

    opened_then : (i : Instant) → old.moment ≤ moment_of i → new.left i view.held → (is.follows.ended_at.moment ≤ moment_of i) × IsImage (with_opening set' is.follows.formed (with_end w t held)) is.follows.firm_then view.held
    opened_then i since left_ = elim (is.follows.order.left i view.held left_) [
      | inl was ↦ absurd (no_head held old.firm own_first (λ absent. refl) (now_is old.contents held old.firm view.held is.told (left_now old view.held is.sound (i, since, was))))
      | inr later ↦ elim later.1 [
        | inl ending ↦ absurd (no_ending i (subst (λ b. LeftEnding b w t old is.follows.firm_records is.follows.firm_digest is.follows.records_moment is.follows.digest_moment i view.held) closes ending))
        | inr opening_ ↦ (opening_.0, now_is (option_map (λ h. with_opening set' is.follows.formed (with_end w t h)) old.contents) (with_opening set' is.follows.formed (with_end w t held)) is.follows.firm_then view.held (ap (option_map (λ h. with_opening set' is.follows.formed (with_end w t h))) is.told) opening_.1)
      ]
    ]

    -- behind the closing
    pub opened_since : (is.follows.ended_at.moment ≤ moment_of left.left.0) × IsImage (with_opening set' is.follows.formed (with_end w t held)) is.follows.firm_then view.held
    opened_since = opened_then left.left.0 left.left.1 left.left.2

    module _ (e y i : ℕ) (then : IsLiveMember is.follows.closed_table w.set e y i) where
      pub whole_before : view.held e y ≡ zone_bytes (closed w) es i
      whole_before = has_whole set' least w w' es t t' held old new is view.held closes e y i then opened_since.1
