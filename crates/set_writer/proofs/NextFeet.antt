-- No foot comes before the digest where one set follows another, and no byte of the next set before the feet.
use Rattle.std.proofs.Common.{◌≡◌, ◌⊎◌, inl, inr, ℕ, ◌+◌, ◌*◌, ◌<◌, ◌≤◌, true, List, [], ◌++◌, length, take, Option, IfSome, refl, sym, ap, subst, ◌∙◌, arith, length-append, length-take}
use Rattle.std.specs.Prelude.{option_map, cond}
use Rattle.std.proofs.lemmas.List.{append-nil}
use Rattle.zone_bay.specs.Contents.{Contents, Lengths}
use Rattle.zone_bay.specs.Images.{IsImage, Instant, moment_of, LeftSince}
use Rattle.zone_bay.specs.Bay.{BayState}
use Rattle.marker_format.specs.Zone.{Array}
use Rattle.array_model.specs.Drives.{records_at}
use Rattle.set_table.specs.declared.zone_use.ZoneUse.TheVariants as uses
use Rattle.set_table.specs.Table.{Table, use_at, is_live, marks_of, Loses}
use Rattle.set_table.specs.Table as table
use Rattle.set_writer.specs.Entry.{Entry, entries_bytes}
use Rattle.set_writer.specs.Members.{of_members, grown_by, is_member}
use Rattle.set_writer.specs.Writer.{Writer, array_by, closed, digest, blocks_in, zone_bytes}
use Rattle.set_writer.specs.Laws.{markers_at}
use Rattle.set_writer.specs.Calls.{closing_bytes, with_digest, with_closing, with_opening, with_end, closes_first, HasAll, LeftEnding, FailedBy}
use Rattle.set_writer.specs.ImageLaws.{IsLiveMember, IsFollowed}
use Rattle.set_writer.proofs.FormedLaws.{Listed, same_live, carried_empty}
use Rattle.set_writer.proofs.WroteLaws.{member_now}
use Rattle.set_writer.proofs.OtherSets.{none_more}
use Rattle.set_writer.proofs.WriterImages.{left_now, now_is}
use Rattle.set_writer.proofs.ClosingImages.{length_open, length_digest, cut_has_digest, zone_of_member, failed_later}
use Rattle.set_writer.proofs.NextSetImages.{open_of, closed_there, old_there, has_whole}

module _ (set' least : ℕ) (w w' : Writer) (es : List Entry) (t t' : Table) (held : Contents) (old new : BayState) (is : IsFollowed set' least w w' es t t' held old new) (image : Contents) (closes : closes_first w t ≡ true) where
  below_is : (index : ℕ) → index < table.fragments_of t → index < w.geometry.k + w.geometry.p
  below_is index below = let c = ap (λ (a : Array). a.geometry.k + a.geometry.p) is.of.array in omega (arith, below, c)

  digest_there : (d z index : ℕ) → index < table.fragments_of t → is_live t d ≡ true → use_at t.zones d z ≡ uses.Carrier w.set index → length (with_digest w t held d z) ≡ 512 * blocks_in (es ++ digest w)
  digest_there d z index below live carries =
      ap length (member_now t t w.set (entries_bytes w.geometry.k (digest w)) held (with_digest w t held) d z index refl below live carries refl
      ∙ ap (λ (l : List ℕ). l ++ entries_bytes w.geometry.k (digest w) index) (is.fits.members d z index below live carries))
      ∙ length_digest w es (open_of set' least w w' es t t' held old new is closes) (is.can closes) is.fits.wrote index (below_is index below)

  -- where a member has a byte of a foot, the feet were being put, or the next set was being opened
  module _ (d z index : ℕ) (foot : IsLiveMember t w.set d z index) (more : 512 * blocks_in (es ++ digest w) < length (image d z)) where
    no_foot : (at : Contents) (firm : Lengths) → length (at d z) ≤ 512 * blocks_in (es ++ digest w) → IsImage at firm image → ⊥
    no_foot at firm most left = let long = ap length (left d z).2 in omega (arith, most, more, long, length-take (left d z).0 (at d z))

    held_is : length (held d z) ≤ 512 * blocks_in (es ++ digest w)
    held_is =
        let open_ = open_of set' least w w' es t t' held old new is closes in
        let l = ap length (is.fits.members d z index foot.below foot.live foot.use_is) in
        let records = length_open w es open_ (is.can closes) is.fits.wrote index (below_is index foot.below) in
        let all = length_digest w es open_ (is.can closes) is.fits.wrote index (below_is index foot.below) in
        omega (arith, l, records, all, length-append (zone_bytes w es index) (entries_bytes w.geometry.k (digest w) index))

    abbrev IsWithFeet : Instant → Type 0
    IsWithFeet i0 = (is.follows.digest_moment ≤ moment_of i0) × (IsImage (with_closing w t held) is.follows.firm_digest image ⊎ IsImage (with_opening set' is.follows.formed (with_end w t held)) is.follows.firm_then image)

    by_ending : (i0 : Instant) → LeftEnding true w t old is.follows.firm_records is.follows.firm_digest is.follows.records_moment is.follows.digest_moment i0 image → IsWithFeet i0
    by_ending i0 (inl first) = absurd (no_foot held old.firm held_is (now_is (option_map (λ h. h) old.contents) held old.firm image (ap (option_map (λ h. h)) is.told) first))
    by_ending i0 (inr (inl second)) =
        absurd (no_foot (with_digest w t held) is.follows.firm_records (let l = digest_there d z index foot.below foot.live foot.use_is in omega (arith, l))
        (now_is (option_map (with_digest w t) old.contents) (with_digest w t held) is.follows.firm_records image (ap (option_map (with_digest w t)) is.told) second.1))
    by_ending i0 (inr (inr third)) = (third.0, inl (now_is (option_map (with_closing w t) old.contents) (with_closing w t held) is.follows.firm_digest image (ap (option_map (with_closing w t)) is.told) third.1))

    with_feet : (i0 : Instant) → old.moment ≤ moment_of i0 → new.left i0 image → IsWithFeet i0
    with_feet i0 since left = elim (is.follows.order.left i0 image left) [
      | inl was ↦ absurd (no_foot held old.firm held_is (now_is old.contents held old.firm image is.told (left_now old image is.sound (i0, since, was))))
      | inr later ↦ elim later.1 [
        | inl ending ↦ by_ending i0 (subst (λ b. LeftEnding b w t old is.follows.firm_records is.follows.firm_digest is.follows.records_moment is.follows.digest_moment i0 image) closes ending)
        | inr opening_ ↦ (let before = is.follows.digest_before in let since = opening_.0 in omega (arith, before, since), inr (now_is (option_map (λ h. with_opening set' is.follows.formed (with_end w t h)) old.contents) (with_opening set' is.follows.formed (with_end w t held)) is.follows.firm_then image (ap (option_map (λ h. with_opening set' is.follows.formed (with_end w t h))) is.told) opening_.1))
      ]
    ]

  -- a member that was live as the first foot was put
  module _ (e y i : ℕ) (then : IsLiveMember is.follows.digest_table w.set e y i) where
    member : IsLiveMember t w.set e y i
    member = record {
      live = is.follows.records_live e (is.follows.digest_live e then.live);
      below = subst (λ (s : Table). i < table.fragments_of s) is.follows.digest_lost then.below;
      use_is = subst (λ (s : Table). use_at s.zones e y ≡ uses.Carrier w.set i) is.follows.digest_lost then.use_is;
    }

    enough : (firm : Lengths) → IfSome old.contents (λ h. HasAll w.set is.follows.digest_table firm (with_digest w t h)) → 512 * blocks_in (es ++ digest w) ≤ firm e y
    enough firm all =
        let there = subst (λ (o : Option Contents). IfSome o (λ h. HasAll w.set is.follows.digest_table firm (with_digest w t h))) is.told all e y (zone_of_member is.follows.digest_table w.set e y i then) in
        let l = digest_there e y i member.below member.live member.use_is in
        omega (arith, there, l)

    has_all : (at : Contents) (firm : Lengths) → at e y ≡ zone_bytes (closed w) es i → IfSome old.contents (λ h. HasAll w.set is.follows.digest_table firm (with_digest w t h)) → IsImage at firm image
        → records_at (array_by w) image (record { device = e; zone = y }) ≡ markers_at i (es ++ digest w)
    has_all at firm zone all left =
        let part = left e y in
        let least_ = enough firm all in
        let more = part.1 in
        cut_has_digest w es (open_of set' least w w' es t t' held old new is closes) (is.can closes) is.fits.wrote part.0 i (below_is i member.below) (omega (arith, least_, more)) image e y (part.2 ∙ ap (take part.0) zone)

    zone_still : with_opening set' is.follows.formed (with_end w t held) e y ≡ zone_bytes (closed w) es i
    zone_still = old_there set' least w w' es t t' held old new is (closes_first w t) refl e y i member.below member.live member.use_is ∙ ap (λ b. zone_bytes (cond b (closed w) w) es i) closes

    has_digest : IsImage (with_closing w t held) is.follows.firm_digest image ⊎ IsImage (with_opening set' is.follows.formed (with_end w t held)) is.follows.firm_then image → records_at (array_by w) image (record { device = e; zone = y }) ≡ markers_at i (es ++ digest w)
    has_digest (inl feet) = has_all (with_closing w t held) is.follows.firm_digest (closed_there set' least w w' es t t' held old new is closes e y i member.below member.live member.use_is) (is.follows.digest_firm closes) feet
    has_digest (inr opening_) = has_all (with_opening set' is.follows.formed (with_end w t held)) is.follows.firm_then zone_still (is.follows.digest_still closes) opening_

pub next_foot_comes_last : (set' least : ℕ) (w w' : Writer) (es : List Entry) (t t' : Table) (held : Contents) (old new : BayState) (image : Contents) (is : IsFollowed set' least w w' es t t' held old new) → LeftSince new.left old.moment image
    → closes_first w t ≡ true → (d z index : ℕ) → IsLiveMember t w.set d z index → 512 * blocks_in (es ++ digest w) < length (image d z)
    → (e y i : ℕ) → IsLiveMember is.follows.digest_table w.set e y i → records_at (array_by w) image (record { device = e; zone = y }) ≡ markers_at i (es ++ digest w)
next_foot_comes_last set' least w w' es t t' held old new image is (i0, since, left) closes d z index foot more e y i then =
    has_digest set' least w w' es t t' held old new is image closes e y i then (with_feet set' least w w' es t t' held old new is image closes d z index foot more i0 since left).1

pub next_lost_before_feet : (set' least : ℕ) (w w' : Writer) (es : List Entry) (t t' : Table) (held : Contents) (old new : BayState) (image : Contents) (is : IsFollowed set' least w w' es t t' held old new) (left : LeftSince new.left old.moment image)
    → closes_first w t ≡ true → (d z index : ℕ) → IsLiveMember t w.set d z index → 512 * blocks_in (es ++ digest w) < length (image d z) → (e : ℕ) → Loses t is.follows.digest_table e → FailedBy old new (moment_of left.0) e
next_lost_before_feet set' least w w' es t t' held old new image is (i0, since, left) closes d z index foot more e loses =
    failed_later old new old.contents held t is.follows.digest_table is.follows.digest_moment (moment_of i0) e is.told (is.follows.digest_failed closes) (with_feet set' least w w' es t t' held old new is image closes d z index foot more i0 since left).0 loses

-- ---- a byte of the next set

module _ (set' least : ℕ) (w w' : Writer) (es : List Entry) (t t' : Table) (held : Contents) (old new : BayState) (is : IsFollowed set' least w w' es t t' held old new) (image : Contents) (closes : closes_first w t ≡ true)
    (d z index : ℕ) (first : IsLiveMember is.follows.formed set' d z index) (some : 0 < length (image d z)) where
  lives : is_live t d ≡ true
  lives = is.follows.closed_stays d (sym (same_live is.follows.closed_table is.follows.formed set' is.follows.members is.follows.forms d) ∙ first.live)

  -- its zone was empty
  was_empty : use_at t.zones d z ≡ uses.Empty
  was_empty =
      ap (λ (s : Table). use_at s.zones d z) (sym is.follows.lost)
      ∙ carried_empty is.follows.closed_table is.follows.formed set' is.follows.members d z index
      (subst Listed (sym is.follows.lost) (let listed : Listed (record t { lost = is.follows.closed_table.lost }) = is.may.together.listed in listed))
      (ap (λ (s : Table). marks_of set' s.sets) is.follows.lost ∙ is.may.absent) is.follows.forms first.use_is

  none_held : held d z ≡ []
  none_held = is.fits.empty d z lives was_empty

  none_grown : (m : ℕ → List ℕ) → grown_by t (of_members (table.fragments_of t) w.set m) held d z ≡ []
  none_grown m = ap (λ (l : List ℕ). held d z ++ l) (none_more t w.set m d z (ap (is_member (table.fragments_of t) w.set) was_empty)) ∙ append-nil (held d z) ∙ none_held

  no_byte : (at : Contents) (firm : Lengths) → at d z ≡ [] → IsImage at firm image → ⊥
  no_byte at firm none left = let long = ap length (left d z).2 in let empty = ap length none in omega (arith, some, long, empty, length-take (left d z).0 (at d z))

  none_in_ending : (i0 : Instant) → LeftEnding true w t old is.follows.firm_records is.follows.firm_digest is.follows.records_moment is.follows.digest_moment i0 image → ⊥
  none_in_ending i0 (inl x) = no_byte held old.firm none_held (now_is (option_map (λ h. h) old.contents) held old.firm image (ap (option_map (λ h. h)) is.told) x)
  none_in_ending i0 (inr (inl x)) = no_byte (with_digest w t held) is.follows.firm_records (none_grown (entries_bytes w.geometry.k (digest w))) (now_is (option_map (with_digest w t) old.contents) (with_digest w t held) is.follows.firm_records image (ap (option_map (with_digest w t)) is.told) x.1)
  none_in_ending i0 (inr (inr x)) = no_byte (with_closing w t held) is.follows.firm_digest (none_grown (closing_bytes w)) (now_is (option_map (with_closing w t) old.contents) (with_closing w t held) is.follows.firm_digest image (ap (option_map (with_closing w t)) is.told) x.1)

  opened_then : (i0 : Instant) → old.moment ≤ moment_of i0 → new.left i0 image → IsImage (with_opening set' is.follows.formed (with_end w t held)) is.follows.firm_then image
  opened_then i0 since left = elim (is.follows.order.left i0 image left) [
    | inl was ↦ absurd (no_byte held old.firm none_held (now_is old.contents held old.firm image is.told (left_now old image is.sound (i0, since, was))))
    | inr later ↦ elim later.1 [
      | inl ending ↦ absurd (none_in_ending i0 (subst (λ b. LeftEnding b w t old is.follows.firm_records is.follows.firm_digest is.follows.records_moment is.follows.digest_moment i0 image) closes ending))
      | inr opening_ ↦ now_is (option_map (λ h. with_opening set' is.follows.formed (with_end w t h)) old.contents) (with_opening set' is.follows.formed (with_end w t held)) is.follows.firm_then image (ap (option_map (λ h. with_opening set' is.follows.formed (with_end w t h))) is.told) opening_.1
    ]
  ]

pub next_byte_comes_last : (set' least : ℕ) (w w' : Writer) (es : List Entry) (t t' : Table) (held : Contents) (old new : BayState) (image : Contents) (is : IsFollowed set' least w w' es t t' held old new) → LeftSince new.left old.moment image
    → closes_first w t ≡ true → (d z index : ℕ) → IsLiveMember is.follows.formed set' d z index → 0 < length (image d z)
    → (e y i : ℕ) → IsLiveMember is.follows.closed_table w.set e y i → image e y ≡ zone_bytes (closed w) es i
next_byte_comes_last set' least w w' es t t' held old new image is (i0, since, left) closes d z index first some e y i then =
    has_whole set' least w w' es t t' held old new is image closes e y i then (opened_then set' least w w' es t t' held old new is image closes d z index first some i0 since left)
