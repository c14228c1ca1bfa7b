-- What appending asks of a writer.
use Rattle.std.specs.Prelude.{◌≡◌, ℕ, false, List, [], None}
use Rattle.std.specs.Int.{div_ceil}
use Rattle.zone_bay.specs.Contents.{Contents}
use Rattle.zone_bay.specs.Bay.{BayState}
use Rattle.rs_code.specs.Coded.{CodedPayload}
use Rattle.marker_format.specs.declared.marker.Marker.{Marker}
use Rattle.set_table.specs.Table.{Table}
use Rattle.set_writer.specs.Writer.{Writer}
use Rattle.set_writer.specs.Calls.{IsOf, FitsSome}

-- the writer can append a record, but for room
pub record IsReady (w : Writer) (t : Table) (bay : BayState) : Type 0 where
  pub of : IsOf w t bay
  pub open_ : w.is_closed ≡ false
  pub held : FitsSome w t bay

-- each zone is empty
abbrev pub HoldNothing : Contents → Type 0
HoldNothing held = (d z : ℕ) → held d z ≡ []

-- it is made into the array's fragments
pub record IsOurs (body : CodedPayload) : Type 0 where
  pub k : body.k ≡ 4
  pub p : body.p ≡ 2

-- the marker of a part
abbrev pub part_marker : List ℕ → ℕ → ℕ → ℕ → Marker
part_marker array set position payload = record {
  kind = 2;
  index = 0;
  k = 4;
  n = 6;
  set = set;
  position = position;
  fragment = div_ceil payload 4;
  stamp = 0;
  upload = 1;
  part = 0;
  parts = 0;
  length = 0;
  payload = payload;
  array = array;
  name = None;
}
