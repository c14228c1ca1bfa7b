use Rattle.std.proofs.Common.{arith, ap}
use Rattle.bay_memory.specs.Operation.{call_of}
use Rattle.bay_memory.proofs.Zones.{track_steady, append_made, reset_made}
use Rattle.bay_memory.proofs.device.Device.make.Goals as goal

pub append-requires : goal.append-requires
append-requires c = track_steady c.args.self.now.zones.items c.from.result c.index_mut.result.now (omega (arith, c.from.ensures, rw c.in-Append.is at c.requires.zone_in)) c.index_mut.ensures.value c.args.moment c.requires.steady

pub change-requires : goal.change-requires
change-requires c = track_steady c.args.self.now.zones.items c.from-in-Reset.result c.index_mut-in-Reset.result.now (omega (arith, c.from-in-Reset.ensures, rw c.in-Reset.is at c.requires.zone_in)) c.index_mut-in-Reset.ensures.value c.args.moment c.requires.steady

pub returns-in-Append : goal.returns-in-Append
returns-in-Append c = append_made c.args.self.now c.from.result c.index_mut.result.now (omega (arith, c.from.ensures, rw c.in-Append.is at c.requires.zone_in)) c.index_mut.ensures.value c.args.moment c.requires.steady _ c.from.ensures c.append.new.self (call_of c.args.operation) c.append.result _ _ (ap call_of c.in-Append.is) c.append.ensures.ok c.append.ensures.err

pub returns-in-Reset : goal.returns-in-Reset
returns-in-Reset c = reset_made c.args.self.now c.from-in-Reset.result c.index_mut-in-Reset.result.now (omega (arith, c.from-in-Reset.ensures, rw c.in-Reset.is at c.requires.zone_in)) c.index_mut-in-Reset.ensures.value c.args.moment c.requires.steady _ c.from-in-Reset.ensures c.change.new.self (call_of c.args.operation) _ _ (ap call_of c.in-Reset.is) c.change.ensures
