-- What an image shows of the sets of a call.
use Rattle.std.proofs.Common.{◌≡◌, ◌≢◌, ℕ, ◌+◌, ◌<◌, Bool, true, false, cond, List, [], ◌∷◌, ◌++◌, refl, sym, ap, subst, ◌∙◌, arith}
use Rattle.rs_code.specs.Coded.{CodedPayload}
use Rattle.zone_bay.specs.Contents.{Contents, Lengths, Extends}
use Rattle.zone_bay.specs.Images.{IsFirmPrefix, IsImage}
use Rattle.zone_bay.specs.Bay.{BayState}
use Rattle.zone_bay.proofs.Extends.{extends_itself, extends_then}
use Rattle.marker_format.specs.declared.marker.Marker.{Marker}
use Rattle.marker_format.specs.Zone.{Array}
use Rattle.array_model.specs.Drives.{is_among}
use Rattle.array_model.specs.Kept.{EndsAreFound, TakesFewer}
use Rattle.set_table.specs.declared.zone_use.ZoneUse.TheVariants as uses
use Rattle.set_table.specs.declared.members.Member.{Member}
use Rattle.set_table.specs.Table.{Table, use_at, is_live, Forms}
use Rattle.set_table.specs.Table as table
use Rattle.set_writer.specs.Entry.{Entry, entry_for, entry_bytes, entries_bytes}
use Rattle.set_writer.specs.Members.{of_members, grown_by}
use Rattle.set_table.specs.Table.{array_of}
use Rattle.set_writer.specs.Writer.{Writer, array_by, behind, closed, opening, zone_bytes, Wrote, EmptyHold}
use Rattle.set_writer.specs.Calls.{closing_bytes, with_closing, with_opening, with_end, closes_first, ended}
use Rattle.set_writer.specs.ImageLaws.{SetBytes, bytes_by, bytes_opened, HoldBytes, View, AreLive, begins_with, IsAlone, IsLeftSince, Appends, IsFlushed, IsNew, MayOpen, IsOpened, IsLeftNew, IsClosing, IsFollowed, IsLeftBetween}
use Rattle.set_writer.specs.KeptLaws.{IsShown, AreKept}
use Rattle.set_writer.proofs.WriterImages.{writer_holds, flush_leaves_first, left_toward, alone_grown, grown_extends, appended_grows, appended_holds}
use Rattle.set_writer.proofs.OpeningImages as opened
use Rattle.set_writer.proofs.ClosingImages.{hold_then}
use Rattle.set_writer.proofs.NextImages.{array_f, old_zone, hold_new, alone_new, alone_old}
use Rattle.set_writer.proofs.NextSetImages.{put_by, zones_by, there_by, wrote_ended}
use Rattle.set_writer.proofs.KeptSets.{crash_keeps_alone}

-- an image of what the zones of a set hold
pub shown_of : (s : SetBytes) (t : Table) (at : Contents) (firm : Lengths) (view : View) → HoldBytes s t at view.drives → IsImage at firm view.held → IsAlone t s.set at view.drives → IsShown s t firm view
shown_of s t at firm view hold image alone = record {
  cut = λ d z index drive below carries. subst (λ (l : List ℕ). IsFirmPrefix l (firm d z) (view.held d z)) (hold d z index drive below carries) (image d z);
  alone = (crash_keeps_alone t s.set at firm view.held view.drives image).0 alone;
}

pub zones_are_kept : (s : SetBytes) (t : Table) (firm : Lengths) (view : View) → s.array ≡ array_of t → AreKept s → IsShown s t firm view → (d z index : ℕ) → is_among view.drives d ≡ true → index < table.fragments_of t → use_at t.zones d z ≡ uses.Carrier s.set index
    → EndsAreFound s.array (view.held d z) × TakesFewer s.array s.array.geometry.blocks (view.held d z)
zones_are_kept s t firm view array kept shown d z index drive below carries =
    let part = shown.cut d z index drive below carries in
    let count = ap (λ (a : Array). a.geometry.k + a.geometry.p) array in
    let within : index < s.array.geometry.k + s.array.geometry.p = omega (arith, below, count) in
    (subst (EndsAreFound s.array) (sym part.2) (kept.ends part.0 index within), subst (TakesFewer s.array s.array.geometry.blocks) (sym part.2) (kept.blocks part.0 index within))

-- ---- call by call

pub flush_shows : (w : Writer) (es : List Entry) (t t' : Table) (held : Contents) (old new : BayState) (view : View) → IsFlushed w es t t' held old new → IsLeftSince t w.set held old new view → IsShown (bytes_by w es) t old.firm view
flush_shows w es t t' held old new view is left = shown_of (bytes_by w es) t held old.firm view (writer_holds w es t held view.drives is.fits left.live) (flush_leaves_first w es t t' held old new view is left).0 left.alone

pub append_shows : (w : Writer) (es : List Entry) (m : Marker) (body : CodedPayload) (t t' : Table) (held : Contents) (old new : BayState) (view : View) → Appends w es m body t t' held old new → IsLeftSince t w.set held old new view
    → IsShown (bytes_by (behind w m) (es ++ entry_for m body.payload ∷ [])) t old.firm view
append_shows w es m body t t' held old new view appends left =
    let bytes = entry_bytes w.geometry.k (entry_for m body.payload) in
    let goal = grown_by t (of_members (table.fragments_of t) w.set bytes) in
    shown_of (bytes_by (behind w m) (es ++ entry_for m body.payload ∷ [])) t (grown_by t (of_members (table.fragments_of t) w.set (entry_bytes w.geometry.k (entry_for m body.payload))) held) old.firm view
    (appended_holds w es m body t t' held old new appends view.drives left.live)
    (left_toward goal t t' held old new view.held appends.sound appends.told (grown_extends t w.set bytes held) (appended_grows w es m body t t' held old new appends).leads left.left)
    (alone_grown t w.set bytes held view.drives left.alone)

pub opening_shows : (set' : ℕ) (cuts : List (ℕ × ℕ)) (t t' : Table) (held : Contents) (old new : BayState) (view : View) (is : IsOpened set' cuts t t' held old new) → IsLeftNew t set' held old new view → IsShown (bytes_opened (array_of t) set' cuts) is.opens.formed old.firm view
opening_shows set' cuts t t' held old new view is left =
    let f = is.opens.formed in
    let bytes = entries_bytes t.geometry.k (opening (array_of t) set' cuts) in
    let goal = grown_by f (of_members (table.fragments_of f) set' bytes) in
    shown_of (bytes_opened (array_of t) set' cuts) f (goal held) old.firm view
    (opened.opened_holds set' cuts t t' held old new is view.drives left.live)
    (left_toward goal f t' held old new view.held is.sound is.told (grown_extends f set' bytes held) is.opens.grows.leads left.left)
    (alone_grown f set' bytes held view.drives
    (opened.new_alone f set' held view.drives (λ d z drive from. ap (λ (a : Array). begins_with a set' (held d z)) (opened.array_f set' cuts t t' held old new is) ∙ left.new_set d z drive from)))

pub closing_shows : (w : Writer) (es : List Entry) (t t' : Table) (held : Contents) (old new : BayState) (view : View) → IsClosing w es t t' held old new → IsLeftSince t w.set held old new view → IsShown (bytes_by (closed w) es) t old.firm view
closing_shows w es t t' held old new view is left =
    shown_of (bytes_by (closed w) es) t (with_closing w t held) old.firm view
    (λ d z index drive below carries. hold_then w es t t' held old new is d z index below (left.live d drive) carries)
    (left_toward (with_closing w t) t t' held old new view.held is.sound is.told (grown_extends t w.set (closing_bytes w) held) is.closes.grows.leads left.left)
    (alone_grown t w.set (closing_bytes w) held view.drives left.alone)

-- ---- the next set

module _ (v : Writer) (ended_held : Contents) (m : ℕ → List ℕ) (es : List Entry) (t tc f : Table) (set' : ℕ) (members : List Member) (held : Contents)
    (array : array_by v ≡ array_of t) (other : set' ≢ v.set) (wrote : Wrote v es)
    (zones_are : (d z : ℕ) → ended_held d z ≡ grown_by t (of_members (table.fragments_of t) v.set m) held d z)
    (zone_there : (d z index : ℕ) → index < table.fragments_of t → is_live t d ≡ true → use_at t.zones d z ≡ uses.Carrier v.set index → ended_held d z ≡ zone_bytes v es index)
    (empty : EmptyHold t held) (lost : tc ≡ record t { lost = tc.lost }) (may : MayOpen set' [] t) (forms : Forms tc set' members f) (firm : Lengths) (view : View)
    (live : AreLive t view.drives) (alone : IsAlone t v.set held view.drives) (new_set : IsNew (array_of t) set' held view.drives) (image : IsImage (with_opening set' f ended_held) firm view.held) where
  both_shown : IsShown (bytes_by v es) t firm view × IsShown (bytes_opened (array_of t) set' []) f firm view
  both_shown = (
    shown_of (bytes_by v es) t (with_opening set' f ended_held) firm view
        (λ d z index drive below carries. old_zone v ended_held m es t tc f set' members held array other wrote zones_are zone_there empty lost may forms d z index below (live d drive) carries) image
        (alone_old v ended_held m es t tc f set' members held array other wrote zones_are zone_there empty lost may forms view.drives live alone new_set),
    subst (λ (a : Array). IsShown (bytes_opened a set' []) f firm view) (array_f v ended_held m es t tc f set' members held array other wrote zones_are zone_there empty lost may forms)
        (shown_of (bytes_opened (array_of f) set' []) f (with_opening set' f ended_held) firm view
        (hold_new v ended_held m es t tc f set' members held array other wrote zones_are zone_there empty lost may forms view.drives live) image
        (alone_new v ended_held m es t tc f set' members held array other wrote zones_are zone_there empty lost may forms view.drives live alone new_set)),
  )

module _ (set' least : ℕ) (w w' : Writer) (es : List Entry) (t t' : Table) (held : Contents) (old new : BayState) (view : View) (is : IsFollowed set' least w w' es t t' held old new) (left : IsLeftBetween t w.set set' held old new view) where
  pub ended_extends : (b : Bool) → Extends held (cond b (with_closing w t held) held)
  ended_extends true = grown_extends t w.set (closing_bytes w) held
  ended_extends false = extends_itself held

  pub image : IsImage (with_opening set' is.follows.formed (with_end w t held)) old.firm view.held
  image = left_toward (λ h. with_opening set' is.follows.formed (with_end w t h)) t t' held old new view.held is.sound is.told
      (extends_then held (with_end w t held) (with_opening set' is.follows.formed (with_end w t held)) (ended_extends (closes_first w t)) (grown_extends is.follows.formed set' (entries_bytes is.follows.formed.geometry.k (opening (array_of is.follows.formed) set' [])) (with_end w t held)))
      is.follows.leads left.left

  by_closing : (b : Bool) → closes_first w t ≡ b → IsImage (with_opening set' is.follows.formed (cond b (with_closing w t held) held)) old.firm view.held
      → IsShown (bytes_by (cond b (closed w) w) es) t old.firm view × IsShown (bytes_opened (array_of t) set' []) is.follows.formed old.firm view
  by_closing true closes image =
      both_shown (closed w) (with_closing w t held) (put_by set' least w w' es t t' held old new is true) es t is.follows.closed_table is.follows.formed set' is.follows.members held is.of.array is.other
      (wrote_ended set' least w w' es t t' held old new is true closes) (zones_by set' least w w' es t t' held old new is true) (there_by set' least w w' es t t' held old new is true closes) is.fits.empty is.follows.lost is.may is.follows.forms old.firm view left.live left.alone left.new_set image
  by_closing false closes image =
      both_shown w held (put_by set' least w w' es t t' held old new is false) es t is.follows.closed_table is.follows.formed set' is.follows.members held is.of.array is.other
      (wrote_ended set' least w w' es t t' held old new is false closes) (zones_by set' least w w' es t t' held old new is false) (there_by set' least w w' es t t' held old new is false closes) is.fits.empty is.follows.lost is.may is.follows.forms old.firm view left.live left.alone left.new_set image

  pub next_shows : IsShown (bytes_by (ended w t) es) t old.firm view × IsShown (bytes_opened (array_of t) set' []) is.follows.formed old.firm view
  next_shows = by_closing (closes_first w t) refl image
