-- What a crash leaves of a set that is closed.
use Rattle.std.proofs.Common.{◌≡◌, inl, inr, ℕ, ◌+◌, ◌*◌, ◌<◌, ◌≤◌, true, false, cond, List, [], ◌∷◌, ◌++◌, length, take, Option, Some, None, IfSome, refl, sym, ap, subst, ◌∙◌, append_assoc, arith, length-append, length-take}
use Rattle.std.specs.Prelude.{option_map}
use Rattle.std.specs.List.{AllByRecursion, list_all}
use Rattle.std.proofs.lemmas.Bool.{and_parts}
use Rattle.std.proofs.lemmas.List.{take_all}
use Rattle.smore_base.specs.Told.{Told}
use Rattle.zone_bay.specs.Contents.{Contents, Lengths}
use Rattle.zone_bay.specs.Images.{IsImage, Instant, moment_of, LeftSince}
use Rattle.zone_bay.specs.Bay.{BayState}
use Rattle.marker_format.specs.Zone.{Array, whole_records, has_foot}
use Rattle.array_model.specs.Drives.{bytes_at, records_at}
use Rattle.array_model.specs.Reading.{Carrier}
use Rattle.set_table.specs.declared.zone_use.ZoneUse.TheVariants as uses
use Rattle.set_table.specs.Table.{Table, use_at, is_live, Loses}
use Rattle.set_table.specs.Table as table
use Rattle.set_writer.specs.Entry.{Entry, entries_bytes}
use Rattle.set_writer.specs.Members.{is_member, HasZone}
use Rattle.set_table.specs.Table.{array_of}
use Rattle.set_writer.specs.Writer.{Writer, array_by, written, closed, digest, blocks_in, foot_at, foot_bytes, zone_bytes, CanDigest, Wrote, Fits}
use Rattle.set_writer.specs.Laws.{markers_at, records_of}
use Rattle.set_writer.specs.Calls.{closing_bytes, with_digest, with_closing, HasAll, FailedBy}
use Rattle.set_writer.specs.ImageLaws.{bytes_by, AreSetBytes, HoldBytes, View, carriers_in, AgreeOn, IsCut, HaveFirst, OthersSay, IsLeftSince, IsClosing, AreClosed, AgreeWhereClosed, IsLiveMember}
use Rattle.set_writer.proofs.WroteLaws.{written-same, open_is, zone_open, member_now, length-entries}
use Rattle.set_writer.proofs.ClosedZones.{length-foot_block, closed_zone}
use Rattle.set_writer.proofs.AgreedRecords.{agreed_are_those}
use Rattle.set_writer.proofs.CutZones.{end_from-blocks, cut_zone_has_those, foot_is_whole}
use Rattle.set_writer.proofs.SetImages.{image_has_first}
use Rattle.set_writer.proofs.OtherSets.{others_say}
use Rattle.set_writer.proofs.WriterImages.{writer_bytes, left_now, now_is, left_toward, alone_grown, grown_extends, own_member}

-- ---- what stands then

pub written_is : (w : Writer) (es : List Entry) → w.is_closed ≡ false → Wrote w es → written (closed w) w.set es ≡ w
written_is w es open_ wrote = written-same (closed w) w w.set es refl refl refl ∙ sym (open_is w es open_ wrote)

module _ (w : Writer) (es : List Entry) (open_ : w.is_closed ≡ false) (can : CanDigest w) (wrote : Wrote w es) where
  same : written (closed w) w.set es ≡ w
  same = written_is w es open_ wrote

  pub wrote_then : Wrote (closed w) es
  wrote_then = record { is = ap closed (sym same); some = wrote.some; records = wrote.records; can = λ is. subst CanDigest (sym same) can }

  pub records_then : records_of (closed w) es ≡ es ++ digest w
  records_then = ap (λ (b : Writer). es ++ digest b) same

  pub zone_then : (index : ℕ) → zone_bytes (closed w) es index ≡ zone_bytes w es index ++ closing_bytes w index
  zone_then index = ap (λ (b : Writer). entries_bytes w.geometry.k es index ++ (entries_bytes w.geometry.k (digest b) index ++ foot_bytes b index)) same ∙ ap (λ (l : List ℕ). l ++ closing_bytes w index) (sym (zone_open w es index open_))

  -- how many bytes the records and the digest take
  module _ (index : ℕ) (below : index < w.geometry.k + w.geometry.p) where
    pub length_open : length (zone_bytes w es index) ≡ 512 * blocks_in es
    length_open = ap length (zone_open w es index open_) ∙ length-entries (array_by w) w.set 0 w.geometry.k index es refl below wrote.records

    pub length_closed : length (zone_bytes (closed w) es index) ≡ 512 * blocks_in (es ++ digest w) + 512
    length_closed =
        let long = (closed_zone (closed w) es index below refl wrote_then).3 in
        let same = ap (λ (l : List Entry). blocks_in l) records_then in
        omega (arith, long, same, end_from-blocks index 0 (records_of (closed w) es))

    -- and without the feet
    pub length_digest : length (zone_bytes w es index ++ entries_bytes w.geometry.k (digest w) index) ≡ 512 * blocks_in (es ++ digest w)
    length_digest =
        let all = ap length (zone_then index ∙ sym (append_assoc (zone_bytes w es index) (entries_bytes w.geometry.k (digest w) index) (foot_bytes w index))) in
        let whole = length_closed in
        omega (arith, all, whole, length-append (zone_bytes w es index ++ entries_bytes w.geometry.k (digest w) index) (foot_bytes w index), length-foot_block (foot_at w index))

-- a zone with more bytes than these has all the records then
pub cut_has_digest : (w : Writer) (es : List Entry) → w.is_closed ≡ false → CanDigest w → Wrote w es → (n i : ℕ) → i < w.geometry.k + w.geometry.p → 512 * blocks_in (es ++ digest w) ≤ n → (image : Contents) (e y : ℕ) → image e y ≡ take n (zone_bytes (closed w) es i)
    → records_at (array_by w) image (record { device = e; zone = y }) ≡ markers_at i (es ++ digest w)
cut_has_digest w es open_ can_digest wrote n i below enough image e y bytes =
    let has = cut_zone_has_those (closed w) es i below (wrote_then w es open_ can_digest wrote) n in
    let records = records_then w es open_ can_digest wrote in
    let blocks = ap (λ (l : List Entry). blocks_in (take (length l) l)) records in
    let whole = ap (λ (l : List Entry). blocks_in l) (take_all (length (es ++ digest w)) (es ++ digest w) (omega arith)) in
    let all = has.least (length (records_of (closed w) es)) (omega arith) (omega (arith, enough, blocks, whole)) in
    ap (whole_records (array_by w)) bytes ∙ has.records ∙ ap (markers_at i) (take_all has.count (records_of (closed w) es) all ∙ records)

-- a live member has a zone that passes
pub zone_of_member : (t : Table) (set' e y i : ℕ) → IsLiveMember t set' e y i → HasZone (is_member (table.fragments_of t) set') t e
zone_of_member t set' e y i member = record { live = member.live; zone = y; passes = ap (is_member (table.fragments_of t) set') member.use_is ∙ own_member (table.fragments_of t) set' i member.below }

-- ---- the zones

module _ (w : Writer) (es : List Entry) (t t' : Table) (held : Contents) (old new : BayState) (is : IsClosing w es t t' held old new) where
  told_can : (o n : Option Contents) → Told o n (λ h at. (d z : ℕ) → is_live t' d ≡ true → at d z ≡ with_closing w t h d z) → o ≡ Some held → IfSome n (Fits (closed w) es t') → CanDigest (written (closed w) w.set es)
  told_can None n whole same fits = absurd cc
  told_can (Some o) None whole same fits = absurd whole
  told_can (Some o) (Some n) whole same fits = fits.wrote.can refl

  pub can : CanDigest w
  can = subst CanDigest (written_is w es is.open_ is.fits.wrote) (told_can old.contents new.contents is.closes.grows.whole is.told is.fits_then)

  pub bytes_then : AreSetBytes (bytes_by (closed w) es)
  bytes_then = writer_bytes (closed w) es (wrote_then w es is.open_ can is.fits.wrote)

  below_is : (index : ℕ) → index < table.fragments_of t → index < w.geometry.k + w.geometry.p
  below_is index below = let c = ap (λ (a : Array). a.geometry.k + a.geometry.p) is.of.array in omega (arith, below, c)

  pub hold_then : (d z index : ℕ) → index < table.fragments_of t → is_live t d ≡ true → use_at t.zones d z ≡ uses.Carrier w.set index → with_closing w t held d z ≡ zone_bytes (closed w) es index
  hold_then d z index below live carries =
      member_now t t w.set (closing_bytes w) held (with_closing w t held) d z index refl below live carries refl
      ∙ ap (λ (l : List ℕ). l ++ closing_bytes w index) (is.fits.members d z index below live carries)
      ∙ sym (zone_then w es is.open_ can is.fits.wrote index)

  digest_there : (d z index : ℕ) → index < table.fragments_of t → is_live t d ≡ true → use_at t.zones d z ≡ uses.Carrier w.set index → length (with_digest w t held d z) ≡ 512 * blocks_in (es ++ digest w)
  digest_there d z index below live carries =
      ap length (member_now t t w.set (entries_bytes w.geometry.k (digest w)) held (with_digest w t held) d z index refl below live carries refl
      ∙ ap (λ (l : List ℕ). l ++ entries_bytes w.geometry.k (digest w) index) (is.fits.members d z index below live carries))
      ∙ length_digest w es is.open_ can is.fits.wrote index (below_is index below)

  image_then : (image : Contents) → LeftSince new.left old.moment image → IsImage (with_closing w t held) old.firm image
  image_then image left = left_toward (with_closing w t) t t' held old new image is.sound is.told (grown_extends t w.set (closing_bytes w) held) is.closes.grows.leads left

  -- ---- feet

  -- a prefix of no more bytes than the records take has no byte of a foot
  no_foot : (bytes : List ℕ) (n : ℕ) (left : List ℕ) → length bytes ≤ 512 * blocks_in (es ++ digest w) → left ≡ take n bytes → 512 * blocks_in (es ++ digest w) < length left → ⊥
  no_foot bytes n left most same more = let long = ap length same in omega (arith, most, more, long, length-take n bytes)

  module _ (image : Contents) (d z index : ℕ) (member : IsLiveMember t w.set d z index) (more : 512 * blocks_in (es ++ digest w) < length (image d z)) where
    none_at_first : (firm : Lengths) → IsImage held firm image → ⊥
    none_at_first firm left =
        let l = ap length (is.fits.members d z index member.below member.live member.use_is) in
        let records = length_open w es is.open_ can is.fits.wrote index (below_is index member.below) in
        let all = length_digest w es is.open_ can is.fits.wrote index (below_is index member.below) in
        no_foot (held d z) (left d z).0 (image d z) (omega (arith, l, records, all, length-append (zone_bytes w es index) (entries_bytes w.geometry.k (digest w) index))) (left d z).2 more

    none_with_digest : (firm : Lengths) → IsImage (with_digest w t held) firm image → ⊥
    none_with_digest firm left =
        let l = digest_there d z index member.below member.live member.use_is in
        no_foot (with_digest w t held d z) (left d z).0 (image d z) (omega (arith, l)) (left d z).2 more

    -- so the feet were being put, when the digest was firm
    with_feet : (i : Instant) → new.left i image → old.moment ≤ moment_of i → (is.closes.digest_moment ≤ moment_of i) × IsImage (with_closing w t held) is.closes.firm_then image
    with_feet i left since = elim (is.closes.order.left i image left) [
      | inl was ↦ absurd (none_at_first old.firm (now_is old.contents held old.firm image is.told (left_now old image is.sound (i, since, was))))
      | inr later ↦ elim later.1 [
        | inl first ↦ absurd (none_at_first old.firm (now_is (option_map (λ h. h) old.contents) held old.firm image (ap (option_map (λ h. h)) is.told) first))
        | inr (inl second) ↦ absurd (none_with_digest is.closes.firm_first (now_is (option_map (with_digest w t) old.contents) (with_digest w t held) is.closes.firm_first image (ap (option_map (with_digest w t)) is.told) second.1))
        | inr (inr third) ↦ (third.0, now_is (option_map (with_closing w t) old.contents) (with_closing w t held) is.closes.firm_then image (ap (option_map (with_closing w t)) is.told) third.1)
      ]
    ]

  -- what a member has that was live as the first foot was put
  module _ (e y i : ℕ) (member : IsLiveMember is.closes.digest_table w.set e y i) where
    below_then : i < table.fragments_of t
    below_then = subst (λ (s : Table). i < table.fragments_of s) is.closes.digest_lost member.below

    use_then : use_at t.zones e y ≡ uses.Carrier w.set i
    use_then = subst (λ (s : Table). use_at s.zones e y ≡ uses.Carrier w.set i) is.closes.digest_lost member.use_is

    live_then : is_live t e ≡ true
    live_then = is.closes.records_live e (is.closes.digest_live e member.live)

    firm_digest : IfSome old.contents (λ h. HasAll w.set is.closes.digest_table is.closes.firm_then (with_digest w t h)) → 512 * blocks_in (es ++ digest w) ≤ is.closes.firm_then e y
    firm_digest firm =
        let all = subst (λ (o : Option Contents). IfSome o (λ h. HasAll w.set is.closes.digest_table is.closes.firm_then (with_digest w t h))) is.told firm in
        let enough = all e y (zone_of_member is.closes.digest_table w.set e y i member) in
        let l = digest_there e y i below_then live_then use_then in
        omega (arith, enough, l)

    pub has_all_records : (image : Contents) → IsImage (with_closing w t held) is.closes.firm_then image → records_at (array_by w) image (record { device = e; zone = y }) ≡ markers_at i (es ++ digest w)
    has_all_records image left =
        let part = left e y in
        let firm = firm_digest is.closes.digest_firm in
        let more = part.1 in
        cut_has_digest w es is.open_ can is.fits.wrote part.0 i (below_is i below_then) (omega (arith, firm, more)) image e y (part.2 ∙ ap (take part.0) (hold_then e y i below_then live_then use_then))

pub foot_comes_last : (w : Writer) (es : List Entry) (t t' : Table) (held : Contents) (old new : BayState) (image : Contents) (is : IsClosing w es t t' held old new) → LeftSince new.left old.moment image
    → (d z index : ℕ) → IsLiveMember t w.set d z index → 512 * blocks_in (es ++ digest w) < length (image d z)
    → (e y i : ℕ) → IsLiveMember is.closes.digest_table w.set e y i → records_at (array_by w) image (record { device = e; zone = y }) ≡ markers_at i (es ++ digest w)
foot_comes_last w es t t' held old new image is (i0, since, left) d z index member more e y i then =
    has_all_records w es t t' held old new is e y i then image (with_feet w es t t' held old new is image d z index member more i0 left since).1

-- what failed by a moment failed by a later one
pub failed_later : (old new : BayState) (o : Option Contents) (held : Contents) (t lost : Table) (moment later d : ℕ) → o ≡ Some held → IfSome o (λ h. (e : ℕ) → Loses t lost e → FailedBy old new moment e) → moment ≤ later → Loses t lost d → FailedBy old new later d
failed_later old new o held t lost moment later d told failed before loses =
    let x = subst (λ (p : Option Contents). IfSome p (λ h. (e : ℕ) → Loses t lost e → FailedBy old new moment e)) told failed d loses in
    (x.0, x.1, (let by = x.2 in omega (arith, by, before)), x.3)

pub lost_before_feet : (w : Writer) (es : List Entry) (t t' : Table) (held : Contents) (old new : BayState) (image : Contents) (is : IsClosing w es t t' held old new) (left : LeftSince new.left old.moment image)
    → (d z index : ℕ) → IsLiveMember t w.set d z index → 512 * blocks_in (es ++ digest w) < length (image d z) → (e : ℕ) → Loses t is.closes.digest_table e → FailedBy old new (moment_of left.0) e
lost_before_feet w es t t' held old new image is (i0, since, left) d z index member more e loses =
    failed_later old new old.contents held t is.closes.digest_table is.closes.digest_moment (moment_of i0) e is.told is.closes.digest_failed (with_feet w es t t' held old new is image d z index member more i0 left since).0 loses

-- ---- what is read

-- the zone of a closed set has all its records
closed_records : (w : Writer) (es : List Entry) (index : ℕ) → index < w.geometry.k + w.geometry.p → w.is_closed ≡ true → Wrote w es → whole_records (array_by w) (zone_bytes w es index) ≡ markers_at index (records_of w es)
closed_records w es index below is wrote = (closed_zone w es index below is wrote).0 ∙ ap (λ b. markers_at index (es ++ cond b (digest (written w w.set es)) [])) (sym is)

module _ (w : Writer) (es : List Entry) (t : Table) (firm : Lengths) (view : View) (wrote : Wrote w es) (count : table.fragments_of t ≡ w.geometry.k + w.geometry.p) where
  -- a carrier with a whole foot has a whole zone, and the set is closed
  whole_cut : (c : Carrier) → IsCut (bytes_by w es) t firm view c → has_foot (array_by w) (bytes_at view.held c.place) ≡ true → (w.is_closed ≡ true) × (records_at (array_by w) view.held c.place ≡ markers_at c.index (records_of w es))
  whole_cut c cut foot =
      let below : c.index < w.geometry.k + w.geometry.p = subst (λ n. c.index < n) count cut.below in
      let whole = foot_is_whole cut.bytes.0 w es c.index below wrote (ap (has_foot (array_by w)) (sym cut.bytes.2) ∙ foot) in
      (whole.0, ap (whole_records (array_by w)) (cut.bytes.2 ∙ whole.1) ∙ closed_records w es c.index below whole.0 wrote)

  all_whole : (carriers : List Carrier) → AllByRecursion (IsCut (bytes_by w es) t firm view) carriers → list_all (λ (c : Carrier). has_foot (array_by w) (bytes_at view.held c.place)) carriers ≡ true
      → AllByRecursion (λ (c : Carrier). records_at (array_by w) view.held c.place ≡ markers_at c.index (records_of w es)) carriers
  all_whole [] cuts feet = tt
  all_whole (c ∷ carriers) cuts feet =
      let both = and_parts (has_foot (array_by w) (bytes_at view.held c.place)) (list_all (λ (c : Carrier). has_foot (array_by w) (bytes_at view.held c.place)) carriers) feet in
      ((whole_cut c cuts.0 both.0).1, all_whole carriers cuts.1 both.1)

  first_closed : (carriers : List Carrier) → AllByRecursion (IsCut (bytes_by w es) t firm view) carriers → list_all (λ (c : Carrier). has_foot (array_by w) (bytes_at view.held c.place)) carriers ≡ true → 0 < length carriers → w.is_closed ≡ true
  first_closed [] cuts feet some = absurd (omega (arith, some))
  first_closed (c ∷ carriers) cuts feet some = (whole_cut c cuts.0 (and_parts (has_foot (array_by w) (bytes_at view.held c.place)) (list_all (λ (c : Carrier). has_foot (array_by w) (bytes_at view.held c.place)) carriers) feet).0).0

agree_whole : (array : Array) (held : Contents) (es : List Entry) (carriers : List Carrier) → AllByRecursion (λ (c : Carrier). records_at array held c.place ≡ markers_at c.index es) carriers → AgreeOn array held carriers es
agree_whole array held es [] all = tt
agree_whole array held es (first ∷ others) all = agreed_are_those array held es first others all

-- so where all that are seen have one, they agree on all
pub closed_agree_on_all : (w : Writer) (es : List Entry) (t : Table) (firm : Lengths) (view : View) → Wrote w es → array_by w ≡ array_of t → HaveFirst (bytes_by w es) t firm view → AgreeWhereClosed w es view
closed_agree_on_all w es t firm view wrote array have feet =
    let count : table.fragments_of t ≡ w.geometry.k + w.geometry.p = sym (ap (λ (a : Array). a.geometry.k + a.geometry.p) array) in (
      first_closed w es t firm view wrote count (carriers_in view (bytes_by w es)) have.cut feet.1 feet.0,
      agree_whole (array_by w) view.held (records_of w es) (carriers_in view (bytes_by w es)) (all_whole w es t firm view wrote count (carriers_in view (bytes_by w es)) have.cut feet.1),
    )

pub records_of_closed : (w : Writer) (es : List Entry) → w.is_closed ≡ false → Wrote w es → records_of (closed w) es ≡ es ++ digest w
records_of_closed w es open_ wrote = ap (λ (b : Writer). es ++ digest b) (written_is w es open_ wrote)

module _ (w : Writer) (es : List Entry) (t t' : Table) (held : Contents) (old new : BayState) (view : View) (is : IsClosing w es t t' held old new) (left : IsLeftSince t w.set held old new view) where
  image : IsImage (with_closing w t held) old.firm view.held
  image = image_then w es t t' held old new is view.held left.left

  hold_drives : HoldBytes (bytes_by (closed w) es) t (with_closing w t held) view.drives
  hold_drives d z index drive below carries = hold_then w es t t' held old new is d z index below (left.live d drive) carries

  closing_first : HaveFirst (bytes_by (closed w) es) t old.firm view
  closing_first = image_has_first (bytes_by (closed w) es) t (with_closing w t held) old.firm view is.of.array (bytes_then w es t t' held old new is) hold_drives
      (record { image = image; alone = alone_grown t w.set (closing_bytes w) held view.drives left.alone })

  closed_agree : AreClosed view (bytes_by (closed w) es) → AgreeOn (array_by w) view.held (carriers_in view (bytes_by (closed w) es)) (es ++ digest w)
  closed_agree feet =
      subst (AgreeOn (array_by w) view.held (carriers_in view (bytes_by (closed w) es))) (records_of_closed w es is.open_ is.fits.wrote)
      (closed_agree_on_all (closed w) es t old.firm view (wrote_then w es is.open_ (can w es t t' held old new is) is.fits.wrote) is.of.array closing_first feet).1

  pub closing_leaves_first : HaveFirst (bytes_by (closed w) es) t old.firm view × (AreClosed view (bytes_by (closed w) es) → AgreeOn (array_by w) view.held (carriers_in view (bytes_by (closed w) es)) (es ++ digest w)) × OthersSay t w.set held old.firm view
  closing_leaves_first = (
    closing_first,
    closed_agree,
    others_say (bytes_by (closed w) es) t (closing_bytes w) held old.firm view is.of.array (bytes_then w es t t' held old new is) hold_drives image,
  )
