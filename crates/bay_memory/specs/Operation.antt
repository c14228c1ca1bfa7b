-- The calls, what each requires, and what one has done when a crash comes.
use Rattle.std.specs.Prelude.{◌≡◌, ℕ, Bool, false, true, ◌+◌, ◌*◌, ◌<◌, ◌≤◌, ◌&&◌, ◌==◌, List, [], length, take, Option, None, Some, ⊤, if◌then◌else◌}
use Rattle.smore_base.specs.declared.limits.TheConstants.{BLOCK_BYTES}
use Rattle.zone_bay.specs.Contents.{Shape, Contents, appended}
use Rattle.zone_bay.specs.Bay as bay
use Rattle.zone_bay.specs.Bay.{Call, device_of}
use Rattle.bay_memory.specs.declared.operation.Operation.{Operation}
use Rattle.bay_memory.specs.declared.operation.Operation.TheVariants.{Written, Read, Append, Reset, Flush, Replace}
use Rattle.bay_memory.specs.declared.operation.Put.{Put}

-- the call that an operation is
abbrev pub call_of : Operation → Call
call_of (Written device zone) = bay.Written device zone
call_of (Read device zone) = bay.Read device zone
call_of (Append put) = bay.Append put.device put.zone put.bytes.now
call_of (Reset device zone) = bay.Reset device zone
call_of (Flush device) = bay.Flush device
call_of (Replace device) = bay.Replace device

-- its zone is one of so many
abbrev pub ZoneIn : Call → ℕ → Type 0
ZoneIn (bay.Written device zone) zones = zone < zones
ZoneIn (bay.Read device zone) zones = zone < zones
ZoneIn (bay.Append device zone bytes) zones = zone < zones
ZoneIn (bay.Reset device zone) zones = zone < zones
ZoneIn call zones = ⊤

-- its zone has room for what it appends, where it may hold so many bytes
abbrev pub Fits : Call → ℕ → Contents → Type 0
Fits (bay.Append device zone bytes) room held = length (held device zone) + length bytes ≤ room
Fits call room held = ⊤

-- what each call requires of the array
pub record IsWithin (call : Call) (shape : Shape) (held : Contents) : Type 0 where
  pub device_in : device_of call < shape.devices
  pub zone_in : ZoneIn call shape.zones
  pub fits : Fits call (BLOCK_BYTES * shape.blocks) held

-- what is held when so many bytes of an append are done, and nothing of another call
abbrev pub done_by : ℕ → Call → Contents → Contents
done_by n (bay.Append device zone bytes) held = appended device zone (take n bytes) held
done_by n call held = held

-- that, and nothing of a call that is due to fail
abbrev pub done_unless : Bool → Call → ℕ → Contents → Contents
done_unless true call n held = held
done_unless false call n held = done_by n call held

-- what is put behind each zone
abbrev pub behind_in : Option Put → ℕ → ℕ → List ℕ
behind_in None d z = []
behind_in (Some put) d z = if (d == put.device) && (z == put.zone) then put.bytes.now else []

-- what is held once that is put
abbrev pub put_by : Option Put → Contents → Contents
put_by None held = held
put_by (Some put) held = appended put.device put.zone put.bytes.now held

-- there is such a zone, and it has room for it
abbrev pub PutFits : Option Put → Shape → Contents → Type 0
PutFits None shape held = ⊤
PutFits (Some put) shape held = IsWithin (bay.Append put.device put.zone put.bytes.now) shape held

-- What a call has put makes this of what is held.
pub record IsDone (made : Contents → Contents) (call : Call) (put : Option Put) : Type 0 where
  pub made_by : (held : Contents) → put_by put held ≡ made held
  pub fits : (shape : Shape) (held : Contents) → IsWithin call shape held → PutFits put shape held
