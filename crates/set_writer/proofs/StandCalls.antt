-- Whether a set that is written or closed stands in what a crash leaves, and whether it is settled.
use Rattle.std.proofs.Common.{◌≡◌, inl, inr, ℕ, ◌≤◌, true, false, cond, List, [], ◌∷◌, ◌++◌, Option, Some, None, IfSome, refl, sym, ap, ◌∙◌, subst}
use Rattle.std.specs.Prelude.{⊤}
use Rattle.std.specs.List.{AllByRecursion}
use Rattle.smore_base.specs.Told.{Told}
use Rattle.smore_base.specs.Geometry.{IsWithinLimits}
use Rattle.smore_base.specs.declared.geometry.Geometry.{Geometry}
use Rattle.zone_bay.specs.Contents.{Contents}
use Rattle.zone_bay.specs.Bay.{BayState}
use Rattle.marker_format.specs.Zone.{Array}
use Rattle.set_table.specs.declared.zone_use.ZoneUse.TheVariants as uses
use Rattle.set_table.specs.Table.{Table}
use Rattle.set_writer.specs.Entry.{Entry, entry_for, entries_bytes, HasBytes}
use Rattle.set_table.specs.Table.{array_of}
use Rattle.set_writer.specs.Writer.{Writer, array_by, behind, opening, digest, closed, Wrote, Fits}
use Rattle.set_writer.specs.Laws.{records_of}
use Rattle.set_writer.specs.Calls.{FitsIn, closes_first, ended}
use Rattle.set_writer.specs.ImageLaws.{bytes_by, bytes_opened, HoldBytes, View, AreFirm, AreWhole, IsFollowed, IsLeftBetween}
use Rattle.set_writer.specs.SetReadLaws.{read_in, carried_on}
use Rattle.set_writer.specs.StandLaws.{StandsOpen, IsLeftOpen, IsLeftWhole, IsWritten, IsLeftWritten, IsLeftBehind, IsLeftOpening, AppendIsLeft, FlushIsLeft, FlushedIsLeft, ClosingIsLeft, ClosedIsLeft, EndingIsLeft, NextStandsOrNot, EndedIsLeft, NextIsLeft, AppendIsWritten, ClosingIsWritten, NextIsWritten}
use Rattle.set_writer.proofs.BeganLaws.{firm_after}
use Rattle.set_writer.proofs.ClosingImages.{wrote_then, can, records_of_closed, closing_leaves_first}
use Rattle.set_writer.proofs.FormedLaws.{same_array}
use Rattle.set_writer.proofs.NextKeptSets.{next_keeps_old}
use Rattle.set_writer.proofs.NextLaws.{ended_array}
use Rattle.set_writer.proofs.NextSetImages.{open_of, wrote_ended, next_leaves_first}
use Rattle.set_writer.proofs.SetImages.{image_has_first}
use Rattle.set_writer.proofs.StandOpenings.{opening_is_left, opened_behind}
use Rattle.set_writer.proofs.StandSets.{set_is_left, open_is_left, whole_members_are_left, firm_is_left}
use Rattle.set_writer.proofs.WriterImages.{writer_bytes, writer_holds, append_leaves_first, flush_leaves_first, firm_held}
use Rattle.set_writer.proofs.WroteLaws.{written-stays, zone_open}

-- what is told of a writer behind a call
told_then : (v : Writer) (es : List Entry) (t : Table) (o n : Option Contents) (held : Contents) → Told o n (λ _ _. ⊤) → o ≡ Some held → IfSome n (Fits v es t) → Wrote v es × AllByRecursion HasBytes es
told_then v es t None n held told is fits = absurd cc
told_then v es t (Some o) None held told is fits = absurd told
told_then v es t (Some o) (Some n) held told is fits = (fits.wrote, fits.bytes)

told_at : (v : Writer) (es : List Entry) (t : Table) (bay : BayState) (at : Contents) → bay.contents ≡ Some at → FitsIn v es t bay → Fits v es t at
told_at v es t bay at told fits = subst (λ (o : Option Contents). IfSome o (Fits v es t)) told fits

-- ---- appends and flushes

pub append_is_written : (old new : BayState) → AppendIsWritten old new
append_is_written old new w es m body t t' held appends together fits =
    let wrote = told_then (behind w m) (es ++ entry_for m body.payload ∷ []) t' old.contents new.contents held appends.spread.grows.leads.toward.goes_on.told appends.told fits in
    record { array = appends.of.array; within = together.within; wrote = wrote.0; bytes = wrote.1 }

pub append_is_left : (old new : BayState) → AppendIsLeft old new
append_is_left old new w es m body t t' held view appends together fits left enough =
    open_is_left (behind w m) (es ++ entry_for m body.payload ∷ []) t old.firm view (append_leaves_first w es m body t t' held old new appends view left).0
    (append_is_written old new w es m body t t' held appends together fits) appends.open_ enough

pub flush_is_left : (old new : BayState) → FlushIsLeft old new
flush_is_left old new w es t t' held view is together left enough =
    set_is_left w es t old.firm view (flush_leaves_first w es t t' held old new view is left).1
    (record { array = is.of.array; within = together.within; wrote = is.fits.wrote; bytes = is.fits.bytes }) enough

pub flushed_is_left : (old new : BayState) → FlushedIsLeft old new
flushed_is_left old new w es t t' held view told of_ fits flushed left = firm_is_left new w es t' held view told of_ fits (firm_after w.set t t' old new flushed) left

-- ---- closings

pub closing_is_written : (old new : BayState) → ClosingIsWritten old new
closing_is_written old new w es t t' held is =
    let could = can w es t t' held old new is in
    record {
      array = is.of.array;
      within = subst (λ (a : Array). IsWithinLimits a.geometry) is.of.array could.within;
      wrote = wrote_then w es is.open_ could is.fits.wrote;
      bytes = is.fits.bytes;
    }

-- its records are those that it had and its digest's
pub closed_whole : (k : ℕ) (w : Writer) (es : List Entry) (view : View) → w.is_closed ≡ false → Wrote w es → IsLeftWhole k (records_of (closed w) es) es true (read_in view (bytes_by (closed w) es)) → IsLeftWhole k (es ++ digest w) es true (read_in view (bytes_by (closed w) es))
closed_whole k w es view open_ wrote whole = subst (λ (all : List Entry). IsLeftWhole k all es true (read_in view (bytes_by (closed w) es))) (records_of_closed w es open_ wrote) whole

pub closing_is_left : (old new : BayState) → ClosingIsLeft old new
closing_is_left old new w es t t' held view is left enough =
    elim (set_is_left (closed w) es t old.firm view (closing_leaves_first w es t t' held old new view is left).0 (closing_is_written old new w es t t' held is) enough) [
      | inl open_ ↦ inl (subst (λ (all : List Entry). IsLeftOpen t.geometry.k all es (AreFirm (bytes_by (closed w) es) t view.drives old.firm) (read_in view (bytes_by (closed w) es))) (records_of_closed w es is.open_ is.fits.wrote) open_)
      | inr whole ↦ inr (closed_whole t.geometry.k w es view is.open_ is.fits.wrote whole.1)
    ]

pub closed_is_left : (old new : BayState) → ClosedIsLeft old new
closed_is_left old new w es t t' held at view is told left =
    let fits = told_at (closed w) es t' new at told is.fits_then in
    let array : array_by (closed w) ≡ array_of t' = is.of.array ∙ sym (ap (λ (s : Table). array_of s) is.closes.grows.table) in
    let hold = writer_holds (closed w) es t' at view.drives fits left.live in
    let both = whole_members_are_left (closed w) es t' new.firm view
    (image_has_first (bytes_by (closed w) es) t' at new.firm view array (writer_bytes (closed w) es fits.wrote) hold left.left)
    (record { array = array; within = left.together.within; wrote = fits.wrote; bytes = fits.bytes })
    (firm_held new (bytes_by (closed w) es) t' at view.drives told hold is.closes.firm left.live) left.together left.zones left.enough in
    (both.0, closed_whole t'.geometry.k w es view is.open_ is.fits.wrote both.1)

-- ---- the next set

module _ (set' least : ℕ) (w w' : Writer) (es : List Entry) (t t' : Table) (held : Contents) (old new : BayState) (is : IsFollowed set' least w w' es t t' held old new) where
  array_f : array_of is.follows.formed ≡ array_of t
  array_f = same_array is.follows.closed_table is.follows.formed set' is.follows.members is.follows.forms ∙ ap (λ (s : Table). array_of s) is.follows.lost

  array_then : array_of t' ≡ array_of t
  array_then = ap (λ (s : Table). array_of s) is.follows.table ∙ array_f

  pub ended_is_written : IsWritten (ended w t) es t
  ended_is_written = record {
    array = ended_array w (closes_first w t) ∙ is.of.array;
    within = is.may.together.within;
    wrote = wrote_ended set' least w w' es t t' held old new is (closes_first w t) refl;
    bytes = is.fits.bytes;
  }

  module _ (view : View) (left : IsLeftBetween t w.set set' held old new view) where
    pub ending_left : t.geometry.k ≤ (read_in view (bytes_by (ended w t) es)).carriers → IsLeftWritten (ended w t) es t old.firm view
    ending_left enough = set_is_left (ended w t) es t old.firm view (next_leaves_first set' least w w' es t t' held old new view is left).0 ended_is_written enough

    pub next_left : IsLeftOpening t.geometry.k (opening (array_of t) set' []) (read_in view (bytes_opened (array_of t) set' []))
    next_left = opening_is_left set' [] t is.follows.formed old.firm view (next_leaves_first set' least w w' es t t' held old new view is left).2 is.may array_f

  module _ (at : Contents) (view : View) (told : new.contents ≡ Some at) where
    -- the old set, where it was closed
    module _ (closes : closes_first w t ≡ true) (left : IsLeftBehind t' w.set at new.firm view) where
      closed_is : ended w t ≡ closed w
      closed_is = ap (λ b. cond b (closed w) w) closes

      hold_old : HoldBytes (bytes_by (closed w) es) t' at view.drives
      hold_old = subst (λ (v : Writer). HoldBytes (bytes_by v es) t' at view.drives) closed_is (next_keeps_old set' least w w' es t t' held at old new view.drives is told left.live).0

      whole_old : AreWhole (bytes_by (closed w) es) t' view.drives new.firm
      whole_old = subst (λ (v : Writer). AreWhole (bytes_by v es) t' view.drives new.firm) closed_is ((next_keeps_old set' least w w' es t t' held at old new view.drives is told left.live).1 closes)

      array_old : array_by (closed w) ≡ array_of t'
      array_old = is.of.array ∙ sym array_then

      wrote_old : Wrote (closed w) es
      wrote_old = subst (λ (v : Writer). Wrote v es) closed_is (wrote_ended set' least w w' es t t' held old new is (closes_first w t) refl)

      pub ended_left : ((read_in view (bytes_by (closed w) es)).carriers ≡ carried_on t' w.set view.drives) × IsLeftWhole t'.geometry.k (es ++ digest w) es true (read_in view (bytes_by (closed w) es))
      ended_left =
          let both = whole_members_are_left (closed w) es t' new.firm view
          (image_has_first (bytes_by (closed w) es) t' at new.firm view array_old (writer_bytes (closed w) es wrote_old) hold_old left.left)
          (record { array = array_old; within = left.together.within; wrote = wrote_old; bytes = is.fits.bytes }) whole_old left.together left.zones left.enough in
          (both.0, closed_whole t'.geometry.k w es view (open_of set' least w w' es t t' held old new is closes) is.fits.wrote both.1)

    -- the next one, as its writer holds it
    module _ (left : IsLeftBehind t' set' at new.firm view) where
      fits_new : Fits w' (opening (array_by w) set' []) t' at
      fits_new = told_at w' (opening (array_by w) set' []) t' new at told is.follows.fits

      set_new : w'.set ≡ set'
      set_new = ap (λ (v : Writer). v.set) is.follows.is ∙ (written-stays (ended w t) set' (opening (array_by w) set' [])).set_is

      open_new : w'.is_closed ≡ false
      open_new = ap (λ (v : Writer). v.is_closed) is.follows.is ∙ (written-stays (ended w t) set' (opening (array_by w) set' [])).open_

      k_new : w'.geometry.k ≡ t.geometry.k
      k_new =
          ap (λ (v : Writer). v.geometry.k) is.follows.is
          ∙ ap (λ (g : Geometry). g.k) (written-stays (ended w t) set' (opening (array_by w) set' [])).geometry
          ∙ ap (λ (a : Array). a.geometry.k) (ended_array w (closes_first w t) ∙ is.of.array)

      hold_new : HoldBytes (bytes_opened (array_of t) set' []) t' at view.drives
      hold_new d z index drive below carries =
          fits_new.members d z index below (left.live d drive) (carries ∙ ap (λ n. uses.Carrier n index) (sym set_new))
          ∙ zone_open w' (opening (array_by w) set' []) index open_new
          ∙ ap (λ k. entries_bytes k (opening (array_by w) set' []) index) k_new
          ∙ ap (λ (a : Array). entries_bytes t.geometry.k (opening a set' []) index) is.of.array

      pub next_left_behind : ((read_in view (bytes_opened (array_of t) set' [])).carriers ≡ carried_on t' set' view.drives) × StandsOpen t.geometry.k (opening (array_of t) set' []) (read_in view (bytes_opened (array_of t) set' []))
      next_left_behind = opened_behind set' [] t t' at new.firm view is.may array_then hold_new (firm_held new (bytes_opened (array_of t) set' []) t' at view.drives told hold_new is.follows.firm left.live) left

pub next_is_written : (old new : BayState) → NextIsWritten old new
next_is_written old new set' least w w' es t t' held is = ended_is_written set' least w w' es t t' held old new is

pub ending_is_left : (old new : BayState) → EndingIsLeft old new
ending_is_left old new set' least w w' es t t' held view is left enough = ending_left set' least w w' es t t' held old new is view left enough

pub next_stands_or_not : (old new : BayState) → NextStandsOrNot old new
next_stands_or_not old new set' least w w' es t t' held view is left = next_left set' least w w' es t t' held old new is view left

pub ended_is_left : (old new : BayState) → EndedIsLeft old new
ended_is_left old new set' least w w' es t t' held at view is closes told left = ended_left set' least w w' es t t' held old new is at view told closes left

pub next_is_left : (old new : BayState) → NextIsLeft old new
next_is_left old new set' least w w' es t t' held at view is told left = next_left_behind set' least w w' es t t' held old new is at view told left
