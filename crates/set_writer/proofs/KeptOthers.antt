-- What an image shows of the sets beside those of a call.
use Rattle.std.proofs.Common.{◌≡◌, ℕ, Bool, true, false, cond, List, [], ◌∷◌, ◌++◌, refl, sym, ap, ◌∙◌, arith}
use Rattle.std.proofs.lemmas.List.{append-nil}
use Rattle.rs_code.specs.Coded.{CodedPayload}
use Rattle.zone_bay.specs.Contents.{Contents, Lengths, Extends}
use Rattle.zone_bay.specs.Images.{IsImage}
use Rattle.zone_bay.specs.Bay.{BayState}
use Rattle.zone_bay.specs.Stretch.{IsOnTheWay}
use Rattle.zone_bay.proofs.Extends.{extends_then}
use Rattle.marker_format.specs.declared.marker.Marker.{Marker}
use Rattle.marker_format.specs.Zone.{Array}
use Rattle.set_table.specs.Table.{Table}
use Rattle.set_table.specs.Table as table
use Rattle.set_writer.specs.Entry.{Entry, entry_for, entry_bytes, entries_bytes}
use Rattle.set_writer.specs.Members.{of_members, grown_by}
use Rattle.set_table.specs.Table.{array_of}
use Rattle.set_writer.specs.Writer.{Writer, behind, closed, opening}
use Rattle.set_writer.specs.Calls.{closing_bytes, with_closing, with_opening, closes_first}
use Rattle.set_writer.specs.ImageLaws.{bytes_by, bytes_opened, View, begins_with, IsLeftSince, Appends, IsFlushed, IsOpened, IsLeftNew, IsClosing, IsFollowed, IsLeftBetween, KeepsSets, IsOne, IsEither}
use Rattle.set_writer.specs.KeptLaws.{OthersAreShown}
use Rattle.set_writer.proofs.WriterImages.{flush_leaves_first, left_toward, grown_extends, appended_bytes, appended_grows, appended_holds}
use Rattle.set_writer.proofs.OpeningImages as opened
use Rattle.set_writer.proofs.ClosingImages.{bytes_then, hold_then}
use Rattle.set_writer.proofs.NextSetImages.{put_by, zones_by, there_by, wrote_ended}
use Rattle.set_writer.proofs.KeptSets.{formed_uses, keeps_sets, flush_keeps_sets}
use Rattle.set_writer.proofs.NextKeptSets.{both_kept}
use Rattle.set_writer.proofs.KeptShown.{shown_of, ended_extends, image}

-- all the way
goal_way : (held goal : Contents) (firm : Lengths) → Extends held goal → IsOnTheWay held goal firm goal firm
goal_way held goal firm extends = record { began = extends; extends = λ d z. ([], sym (append-nil (goal d z))); no_less = λ d z. omega arith }

others_shown : (IsOwn : ℕ → Type 0) (t t' : Table) (held goal : Contents) (firm firm_now : Lengths) (view : View) → KeepsSets IsOwn t t' view.drives held goal firm firm_now → IsImage goal firm view.held → OthersAreShown IsOwn t t' held firm view
others_shown IsOwn t t' held goal firm firm_now view keeps image s differ hold alone = shown_of s t' goal firm view (keeps.holds s differ hold) image (keeps.alone s.set differ alone)

pub flush_shows_others : (w : Writer) (es : List Entry) (t t' : Table) (held : Contents) (old new : BayState) (view : View) → IsFlushed w es t t' held old new → IsLeftSince t w.set held old new view → OthersAreShown (IsOne w.set) t t' held old.firm view
flush_shows_others w es t t' held old new view is left =
    others_shown (IsOne w.set) t t' held held old.firm new.firm view (flush_keeps_sets w es t t' held old new view.drives is left.alone) (flush_leaves_first w es t t' held old new view is left).0

pub append_shows_others : (w : Writer) (es : List Entry) (m : Marker) (body : CodedPayload) (t t' : Table) (held : Contents) (old new : BayState) (view : View) → Appends w es m body t t' held old new → IsLeftSince t w.set held old new view → OthersAreShown (IsOne w.set) t t' held old.firm view
append_shows_others w es m body t t' held old new view appends left =
    let bytes = entry_bytes w.geometry.k (entry_for m body.payload) in
    let goal = grown_by t (of_members (table.fragments_of t) w.set bytes) in
    let grows = appended_grows w es m body t t' held old new appends in
    let extends = grown_extends t w.set bytes held in
    others_shown (IsOne w.set) t t' held (goal held) old.firm old.firm view
    (keeps_sets (bytes_by (behind w m) (es ++ entry_for m body.payload ∷ [])) bytes t t t' held (goal held) old.firm old.firm view.drives appends.of.array refl grows.table (λ d z n i differ. ((λ e. e), (λ e. e)))
    (appended_bytes w es m body t t' held old new appends) (appended_holds w es m body t t' held old new appends view.drives left.live) left.alone (goal_way held (goal held) old.firm extends))
    (left_toward goal t t' held old new view.held appends.sound appends.told extends grows.leads left.left)

pub closing_shows_others : (w : Writer) (es : List Entry) (t t' : Table) (held : Contents) (old new : BayState) (view : View) → IsClosing w es t t' held old new → IsLeftSince t w.set held old new view → OthersAreShown (IsOne w.set) t t' held old.firm view
closing_shows_others w es t t' held old new view is left =
    let extends = grown_extends t w.set (closing_bytes w) held in
    others_shown (IsOne w.set) t t' held (with_closing w t held) old.firm old.firm view
    (keeps_sets (bytes_by (closed w) es) (closing_bytes w) t t t' held (with_closing w t held) old.firm old.firm view.drives is.of.array refl is.closes.grows.table (λ d z n i differ. ((λ e. e), (λ e. e)))
    (bytes_then w es t t' held old new is) (λ d z index drive below carries. hold_then w es t t' held old new is d z index below (left.live d drive) carries) left.alone (goal_way held (with_closing w t held) old.firm extends))
    (left_toward (with_closing w t) t t' held old new view.held is.sound is.told extends is.closes.grows.leads left.left)

pub opening_shows_others : (set' : ℕ) (cuts : List (ℕ × ℕ)) (t t' : Table) (held : Contents) (old new : BayState) (view : View) → IsOpened set' cuts t t' held old new → IsLeftNew t set' held old new view → OthersAreShown (IsOne set') t t' held old.firm view
opening_shows_others set' cuts t t' held old new view is left =
    let f = is.opens.formed in
    let bytes = entries_bytes t.geometry.k (opening (array_of t) set' cuts) in
    let goal = grown_by f (of_members (table.fragments_of f) set' bytes) in
    let array = opened.array_f set' cuts t t' held old new is in
    let extends = grown_extends f set' bytes held in
    others_shown (IsOne set') t t' held (goal held) old.firm old.firm view
    (keeps_sets (bytes_opened (array_of t) set' cuts) bytes t f t' held (goal held) old.firm old.firm view.drives (sym array) (sym array) is.opens.grows.table
    (formed_uses t (record t { spare = is.room }) f set' is.opens.members refl is.opens.forms)
    (opened.opened_bytes set' cuts t t' held old new is) (opened.opened_holds set' cuts t t' held old new is view.drives left.live)
    (opened.new_alone f set' held view.drives (λ d z drive from. ap (λ (a : Array). begins_with a set' (held d z)) array ∙ left.new_set d z drive from))
    (goal_way held (goal held) old.firm extends))
    (left_toward goal f t' held old new view.held is.sound is.told extends is.opens.grows.leads left.left)

module _ (set' least : ℕ) (w w' : Writer) (es : List Entry) (t t' : Table) (held : Contents) (old new : BayState) (view : View) (is : IsFollowed set' least w w' es t t' held old new) (left : IsLeftBetween t w.set set' held old new view) where
  goal_extends : (b : Bool) → Extends held (with_opening set' is.follows.formed (cond b (with_closing w t held) held))
  goal_extends b =
      let f = is.follows.formed in
      let before : Contents = cond b (with_closing w t held) held in
      extends_then held before (with_opening set' f before) (ended_extends set' least w w' es t t' held old new view is left b) (grown_extends f set' (entries_bytes f.geometry.k (opening (array_of f) set' [])) before)

  by_closing : (b : Bool) → closes_first w t ≡ b → IsImage (with_opening set' is.follows.formed (cond b (with_closing w t held) held)) old.firm view.held → OthersAreShown (IsEither w.set set') t t' held old.firm view
  by_closing true closes image =
      let goal = with_opening set' is.follows.formed (with_closing w t held) in
      others_shown (IsEither w.set set') t t' held goal old.firm old.firm view
      (both_kept (closed w) (with_closing w t held) (put_by set' least w w' es t t' held old new is true) es t is.follows.closed_table is.follows.formed t' set' is.follows.members held goal old.firm old.firm view.drives is.of.array is.other
      (wrote_ended set' least w w' es t t' held old new is true closes) (zones_by set' least w w' es t t' held old new is true) (there_by set' least w w' es t t' held old new is true closes) is.fits.empty is.follows.lost is.may is.follows.forms is.follows.table left.live left.alone left.new_set (goal_way held goal old.firm (goal_extends true)))
      image
  by_closing false closes image =
      let goal = with_opening set' is.follows.formed held in
      others_shown (IsEither w.set set') t t' held goal old.firm old.firm view
      (both_kept w held (put_by set' least w w' es t t' held old new is false) es t is.follows.closed_table is.follows.formed t' set' is.follows.members held goal old.firm old.firm view.drives is.of.array is.other
      (wrote_ended set' least w w' es t t' held old new is false closes) (zones_by set' least w w' es t t' held old new is false) (there_by set' least w w' es t t' held old new is false closes) is.fits.empty is.follows.lost is.may is.follows.forms is.follows.table left.live left.alone left.new_set (goal_way held goal old.firm (goal_extends false)))
      image

  pub next_shows_others : OthersAreShown (IsEither w.set set') t t' held old.firm view
  next_shows_others = by_closing (closes_first w t) refl (image set' least w w' es t t' held old new view is left)
