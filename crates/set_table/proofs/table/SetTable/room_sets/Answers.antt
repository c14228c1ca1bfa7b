use Rattle.std.proofs.Common.{◌≡◌, ◌+◌, ◌*◌, ◌/◌, ◌≤◌, ◌∙◌, sym, ap, subst, arith}
use Rattle.std.proofs.Math.Nat.{mul-div-le}
use Rattle.set_table.specs.Table.{Table, empty_on, fragments_of, sum_to_of, room_of}
use Rattle.set_table.proofs.RoomLaws.{zones_grow, room_within, room_found}
use Rattle.set_table.proofs.table.SetTable.room_sets.Goals as goal
use Rattle.set_table.proofs.table.SetTable.room_sets.Goals.{After-from-members}

members_are : (c : After-from-members) → fragments_of c.args.self.now ≡ c.from-members.result
members_are c = ap fragments_of (sym c.self.view_is) ∙ sym c.from-members.ensures

some : (c : After-from-members) → 1 ≤ fragments_of c.args.self.now
some c = subst (λ (t : Table). 1 ≤ t.geometry.k + t.geometry.p) c.self.view_is (omega (arith, c.self.invariant.within))

pub loop-zones-init : goal.loop-zones-init
loop-zones-init c =
    let t = c.args.self.now in
    let at = (goal.at.loop-zones-init c).After-from-members in
    record {
      zones_are = c.sum_to-zones.ensures.sum;
      above = subst (λ m. room_of t ≤ c.sum_to.result / m) (members_are at) (room_within (fragments_of t) t.geometry.drives (empty_on t) c.sum_to.result (some at) (c.sum_to.ensures.all (omega arith) (room_of t)));
      few = omega (arith, mul-div-le c.sum_to.result c.from-members.result, c.sum_to.ensures.few);
    }

pub loop-zones-preserved : goal.loop-zones-preserved
loop-zones-preserved c =
    let t = c.args.self.now in
    let at = (goal.at.loop-zones-preserved c).After-from-members in
    record {
      zones_are = c.sum_to-zones-in-loop-zones.ensures.sum;
      above = subst (λ m. room_of t ≤ c.loop-zones.zones / m) (members_are at) (room_within (fragments_of t) t.geometry.drives (empty_on t) c.loop-zones.zones (some at)
          (subst (λ z. sum_to_of t (room_of t) ≤ z) (sym c.loop-zones.invariant.zones_are) (zones_grow (empty_on t) (room_of t) c.loop-zones.sets t.geometry.drives c.loop-zones.invariant.above)));
      few = omega (arith, mul-div-le c.loop-zones.zones c.from-members.result, c.loop-zones.invariant.few, c.loop-zones-test.true);
    }

pub returns : goal.returns
returns c =
    let t = c.args.self.now in
    let at = (goal.at.returns c).After-from-members in
    room_found (fragments_of t) t.geometry.drives (empty_on t) c.loop-zones.sets (some at) c.loop-zones.invariant.above
    (subst (λ m. m * c.loop-zones.sets ≤ sum_to_of t c.loop-zones.sets) (sym (members_are at)) (subst (λ z. c.from-members.result * c.loop-zones.sets ≤ z) c.loop-zones.invariant.zones_are c.loop-zones-test.false))
