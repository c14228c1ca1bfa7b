-- What a crash leaves of a set where the next one has a carrier.
use Rattle.std.proofs.Common.{◌≡◌, ℕ, ◌<◌, ◌≤◌, true, cond, List, [], ◌∷◌, ◌++◌, length, Some, sym, ap, ◌∙◌, subst, arith}
use Rattle.std.specs.List.{AllByRecursion, range_with_len}
use Rattle.std.proofs.lemmas.Bool.{eq-eqb}
use Rattle.std.proofs.lemmas.List.{take_all}
use Rattle.zone_bay.specs.Contents.{Contents}
use Rattle.zone_bay.specs.Images.{moment_of}
use Rattle.zone_bay.specs.Bay.{BayState}
use Rattle.marker_format.specs.Zone.{Array}
use Rattle.array_model.specs.Drives.{is_among, head_at}
use Rattle.array_model.specs.Reading.{Carrier, carrier_of, carriers_of, fragments_of}
use Rattle.array_model.specs.ReadingLaws.{is_of_set}
use Rattle.array_model.proofs.SameZones.{all-filter_map, carrier_among}
use Rattle.set_table.specs.declared.zone_use.ZoneUse.TheVariants as uses
use Rattle.set_table.specs.Table.{Table, use_at, Loses}
use Rattle.set_table.specs.Table as table
use Rattle.set_writer.specs.Entry.{Entry}
use Rattle.set_table.specs.Table.{array_of}
use Rattle.set_writer.specs.Writer.{Writer, closed, digest}
use Rattle.set_writer.specs.Calls.{closes_first, ended, FailedBy}
use Rattle.set_writer.specs.ImageLaws.{bytes_by, bytes_opened, HoldBytes, View, places_of, AreLive, begins_with, AreWhole, HaveFirst, IsFollowed, IsLeftBetween, IsAlone}
use Rattle.set_writer.specs.SetReadLaws.{read_in}
use Rattle.set_writer.specs.StandLaws.{IsLeftWhole, IsWritten, LostBeforeNext, ClosedBeforeNext}
use Rattle.set_writer.proofs.ClosingImages.{failed_later}
use Rattle.set_writer.proofs.KeptShown.{next_shows}
use Rattle.set_writer.proofs.NextSetImages.{open_of, opened_since, whole_before}
use Rattle.set_writer.proofs.SetImages.{IsPlace, places_are, whole_begun, head_is, image_has_first}
use Rattle.set_writer.proofs.SetsRead.{all_of}
use Rattle.set_writer.proofs.StandCalls.{closed_whole, ended_is_written}
use Rattle.set_writer.proofs.StandSets.{whole_is_left}
use Rattle.set_writer.proofs.WriterImages.{writer_bytes}

-- ---- a carrier has a head

-- its zone is one of a drive that is seen, and begins with a whole head of the set
abbrev pub Begins : Array → ℕ → View → Carrier → Type 0
Begins array set' view c = (is_among view.drives c.place.device ≡ true) × (2 ≤ c.place.zone) × (begins_with array set' (view.held c.place.device c.place.zone) ≡ true)

carrier_begins : (array : Array) (set' : ℕ) (view : View) (index : ℕ) (c : Carrier) → carrier_of array view.held (places_of view) set' index ≡ Some c → Begins array set' view c
carrier_begins array set' view index c is =
    let there = carrier_among array view.held view.held (IsPlace view.shape view.drives) (places_of view) set' index c (places_are view.shape view.drives) is in
    let head = head_is set' index (head_at array view.held c.place) there.0 in
    let began = whole_begun array (view.held c.place.device c.place.zone) head.0 head.1 in
    (there.1.0, there.1.1, ap (is_of_set set') began ∙ eq-eqb head.0.set set' head.2)

pub carriers_begin : (array : Array) (set' : ℕ) (view : View) → AllByRecursion (Begins array set' view) (carriers_of array view.held (places_of view) set')
carriers_begin array set' view = all-filter_map (Begins array set' view) (carrier_of array view.held (places_of view) set') (range_with_len 0 (fragments_of array)) (carrier_begins array set' view)

some_of : {A : Type 0} (P : A → Type 0) (xs : List A) → 0 < length xs → AllByRecursion P xs → (x : A) × P x
some_of P [] some all = absurd (omega (arith, some))
some_of P (x ∷ xs) some all = (x, all.0)

-- ---- the set before it

module _ (set' least : ℕ) (w w' : Writer) (es : List Entry) (t t' : Table) (held : Contents) (old new : BayState) (view : View) (is : IsFollowed set' least w w' es t t' held old new) (left : IsLeftBetween t w.set set' held old new view) (closes : closes_first w t ≡ true)
    (some : 0 < (read_in view (bytes_opened (array_of t) set' [])).carriers) where
  carrier : (c : Carrier) × Begins (array_of t) set' view c
  carrier = some_of (Begins (array_of t) set' view) (carriers_of (array_of t) view.held (places_of view) set') some (carriers_begin (array_of t) set' view)

  -- the crash was behind the closing
  pub since_closed : is.follows.ended_at.moment ≤ moment_of left.left.0
  since_closed = (opened_since set' least w w' es t t' held old new view is left closes carrier.0.place.device carrier.0.place.zone carrier.1.0 carrier.1.1 carrier.1.2).0

  pub lost_then : (e : ℕ) → Loses t is.follows.closed_table e → FailedBy old new (moment_of left.left.0) e
  lost_then e loses = failed_later old new old.contents held t is.follows.closed_table is.follows.ended_at.moment (moment_of left.left.0) e is.told (is.follows.closed_failed closes) since_closed loses

  module _ (live : AreLive is.follows.closed_table view.drives) where
    closed_is : ended w t ≡ closed w
    closed_is = ap (λ b. cond b (closed w) w) closes

    written : IsWritten (closed w) es t
    written = subst (λ (v : Writer). IsWritten v es t) closed_is (ended_is_written set' least w w' es t t' held old new is)

    -- each member that is seen has all
    hold : HoldBytes (bytes_by (closed w) es) t view.held view.drives
    hold d z index drive below carries =
        whole_before set' least w w' es t t' held old new view is left closes carrier.0.place.device carrier.0.place.zone carrier.1.0 carrier.1.1 carrier.1.2 d z index (record {
          live = live d drive;
          below = subst (λ (s : Table). index < table.fragments_of s) (sym is.follows.lost) below;
          use_is = subst (λ (s : Table). use_at s.zones d z ≡ uses.Carrier w.set index) (sym is.follows.lost) carries;
        })

    whole : AreWhole (bytes_by (closed w) es) t view.drives (all_of view)
    whole d z index drive below carries = let long = ap length (hold d z index drive below carries) in omega (arith, long)

    first : HaveFirst (bytes_by (closed w) es) t (all_of view) view
    first = image_has_first (bytes_by (closed w) es) t view.held (all_of view) view written.array (writer_bytes (closed w) es written.wrote) hold (record {
      image = λ d z. (length (view.held d z), omega arith, sym (take_all (length (view.held d z)) (view.held d z) (omega arith)));
      alone = alone;
    })
      where
        alone : IsAlone t w.set view.held view.drives
        alone = subst (λ (v : Writer). IsAlone t v.set view.held view.drives) closed_is (next_shows set' least w w' es t t' held old new view is left).0.alone

    pub closed_then : t.geometry.k ≤ (read_in view (bytes_by (closed w) es)).carriers → IsLeftWhole t.geometry.k (es ++ digest w) es true (read_in view (bytes_by (closed w) es))
    closed_then enough = closed_whole t.geometry.k w es view (open_of set' least w w' es t t' held old new is closes) is.fits.wrote (whole_is_left (closed w) es t (all_of view) view first written whole enough)

pub lost_before_next : (old new : BayState) → LostBeforeNext old new
lost_before_next old new set' least w w' es t t' held view is left closes some e loses = lost_then set' least w w' es t t' held old new view is left closes some e loses

pub closed_before_next : (old new : BayState) → ClosedBeforeNext old new
closed_before_next old new set' least w w' es t t' held view is left closes some live enough = closed_then set' least w w' es t t' held old new view is left closes some live enough
