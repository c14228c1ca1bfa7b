use Rattle.std.proofs.Common.{arith}
use Rattle.bay_memory.proofs.zone.Zone.of.Goals as goal

pub invariant_of-result : goal.invariant_of-result
invariant_of-result c =
    let bytes = c.extend_from_slice.new.self in
    let past = c.in_ok-past.past in
    let room = c.in_ok-past.ensures in
    record {
      firm_in = omega (arith, c.len-firm.ensures, bytes.ok.0);
      past_in = λ i was within. absurd (omega (arith, room.len, past.ok.0));
      room_to_reset = λ more. omega (arith, room.len, room.capacity);
      room_to_flush = λ more. absurd (omega (arith, c.len-firm.ensures, bytes.ok.0));
    }
