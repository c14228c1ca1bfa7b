-- Laws of closed sets in what a crash leaves, and of records that are firm in a list that grows.
use Rattle.std.specs.Prelude.{◌≡◌, ℕ, ◌*◌, ◌<◌, ◌≤◌, true, false, List, [], ◌∷◌, ◌++◌, length}
use Rattle.smore_base.specs.declared.limits.TheConstants.{BLOCK_BYTES}
use Rattle.zone_bay.specs.Contents.{Contents, Lengths}
use Rattle.zone_bay.specs.Images.{moment_of, LeftSince}
use Rattle.zone_bay.specs.Bay.{BayState}
use Rattle.marker_format.specs.declared.marker.Marker.{Marker}
use Rattle.array_model.specs.Drives.{records_at}
use Rattle.set_table.specs.Table.{Table, Loses}
use Rattle.set_writer.specs.Entry.{Entry, entry_for}
use Rattle.set_table.specs.Table.{array_of}
use Rattle.set_writer.specs.Writer.{Writer, array_by, behind, closed, digest, blocks_in, zone_bytes, Wrote}
use Rattle.set_writer.specs.Laws.{markers_at, records_of}
use Rattle.set_writer.specs.Calls.{closes_first, FailedBy}
use Rattle.set_writer.specs.ImageLaws.{bytes_by, View, AreFirm, HaveFirst, AgreeWhereClosed, IsClosing, IsLiveMember, IsFollowed}

-- Where carriers of a writer's set are seen, and each has a whole foot, the set was closed, and they agree on all its records and its
-- digest's.
abbrev pub ClosedAgreeOnAll : Type 0
ClosedAgreeOnAll = (w : Writer) (es : List Entry) (t : Table) (firm : Lengths) (view : View) → Wrote w es → array_by w ≡ array_of t → HaveFirst (bytes_by w es) t firm view → AgreeWhereClosed w es view

-- A set that is closed has the records that it had, and then its digest's.
abbrev pub ClosedHasDigest : Type 0
ClosedHasDigest = (w : Writer) (es : List Entry) → w.is_closed ≡ false → Wrote w es → records_of (closed w) es ≡ es ++ digest w

-- Where one set follows another that was to be closed, and a crash leaves a byte of a foot on any member of the one, each member of it
-- that was live as the first foot was put has all records and the whole digest, also one that was lost behind that.
abbrev pub NextFootComesLast : BayState → BayState → Type 0
NextFootComesLast old new = (set least : ℕ) (w w' : Writer) (es : List Entry) (t t' : Table) (held : Contents) (image : Contents) → (is : IsFollowed set least w w' es t t' held old new) → LeftSince new.left old.moment image
    → closes_first w t ≡ true → (d z index : ℕ) → IsLiveMember t w.set d z index → BLOCK_BYTES * blocks_in (es ++ digest w) < length (image d z)
    → (e y i : ℕ) → IsLiveMember is.follows.digest_table w.set e y i → records_at (array_by w) image (record { device = e; zone = y }) ≡ markers_at i (es ++ digest w)

-- A member that was lost before failed by the instant of that crash,
abbrev pub LostBeforeFeet : BayState → BayState → Type 0
LostBeforeFeet old new = (w : Writer) (es : List Entry) (t t' : Table) (held : Contents) (image : Contents) → (is : IsClosing w es t t' held old new) → (left : LeftSince new.left old.moment image)
    → (d z index : ℕ) → IsLiveMember t w.set d z index → BLOCK_BYTES * blocks_in (es ++ digest w) < length (image d z) → (e : ℕ) → Loses t is.closes.digest_table e → FailedBy old new (moment_of left.0) e

-- and so it is where the set is closed before the next one.
abbrev pub NextLostBeforeFeet : BayState → BayState → Type 0
NextLostBeforeFeet old new = (set least : ℕ) (w w' : Writer) (es : List Entry) (t t' : Table) (held : Contents) (image : Contents) → (is : IsFollowed set least w w' es t t' held old new) → (left : LeftSince new.left old.moment image)
    → closes_first w t ≡ true → (d z index : ℕ) → IsLiveMember t w.set d z index → BLOCK_BYTES * blocks_in (es ++ digest w) < length (image d z) → (e : ℕ) → Loses t is.follows.digest_table e → FailedBy old new (moment_of left.0) e

-- Where a crash leaves a byte of the next set on any of its members, each member of the set before it that was live behind its closing,
-- where it was to be closed, has all its records, its digest and its whole foot.
abbrev pub NextByteComesLast : BayState → BayState → Type 0
NextByteComesLast old new = (set least : ℕ) (w w' : Writer) (es : List Entry) (t t' : Table) (held : Contents) (image : Contents) → (is : IsFollowed set least w w' es t t' held old new) → LeftSince new.left old.moment image
    → closes_first w t ≡ true → (d z index : ℕ) → IsLiveMember is.follows.formed set d z index → 0 < length (image d z)
    → (e y i : ℕ) → IsLiveMember is.follows.closed_table w.set e y i → image e y ≡ zone_bytes (closed w) es i

-- Records that are firm are so as the first of a list with one more.
abbrev pub FirmIsOfGrown : Type 0
FirmIsOfGrown = (w : Writer) (es : List Entry) (m : Marker) (payload : List ℕ) (t : Table) (firm : Lengths) (drives : List ℕ) (count : ℕ) → count ≤ length es → AreFirm (bytes_by w es) t drives firm count
    → AreFirm (bytes_by (behind w m) (es ++ entry_for m payload ∷ [])) t drives firm count
