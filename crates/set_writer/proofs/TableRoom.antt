-- A writer of records of a set is open, and one that found more room has the same records and bytes.
use Rattle.std.proofs.Common.{◌≡◌, ℕ, List, ◌++◌, cond, [], sym, ap, subst, ◌∙◌}
use Rattle.zone_bay.specs.Bay.{BayState}
use Rattle.set_writer.specs.Entry.{Entry, entries_bytes}
use Rattle.set_writer.specs.Writer.{Writer, array_by, digest, foot_bytes}
use Rattle.set_writer.specs.ImageLaws.{SetBytes, bytes_by, HoldBytes, AreFirm, AreWhole}
use Rattle.set_writer.specs.TableLaws.{WrittenIsOpen, RoomKeepsBytes, RoomKeepsHeld, RoomKeepsOf}
use Rattle.set_writer.proofs.RoomierLaws.{written-roomier}
use Rattle.set_writer.proofs.WroteLaws.{written-stays}

-- the bytes of a set, by what was written of it
abbrev bytes_from : Writer → List Entry → Writer → SetBytes
bytes_from w es v = record {
  array = array_by w;
  set = w.set;
  records = es ++ cond w.is_closed (digest v) [];
  zone = λ index. entries_bytes w.geometry.k es index ++ cond w.is_closed (entries_bytes w.geometry.k (digest v) index ++ foot_bytes v index) [];
}

roomier_bytes : (w : Writer) (r : ℕ) (es : List Entry) → bytes_by (record w { room = r }) es ≡ bytes_by w es
roomier_bytes w r es = ap (bytes_from w es) (written-roomier w r w.set es)

pub room_keeps_bytes : RoomKeepsBytes
room_keeps_bytes w v es is = ap (λ (x : Writer). bytes_by x es) is ∙ roomier_bytes w v.room es

pub room_keeps_held : RoomKeepsHeld
room_keeps_held w v es t is =
    let same = sym (room_keeps_bytes w v es is) in record {
      holds = λ held drives h. subst (λ (s : SetBytes). HoldBytes s t held drives) same h;
      firm = λ drives firm count h. subst (λ (s : SetBytes). AreFirm s t drives firm count) same h;
      whole = λ drives firm h. subst (λ (s : SetBytes). AreWhole s t drives firm) same h;
    }

pub room_keeps_of : (bay : BayState) → RoomKeepsOf bay
room_keeps_of bay w v t is of_ = record { array = ap (λ (x : Writer). array_by x) is ∙ of_.array; shape = of_.shape }

pub written_is_open : WrittenIsOpen
written_is_open w set' es = let st = written-stays w set' es in (st.set_is, st.open_)
