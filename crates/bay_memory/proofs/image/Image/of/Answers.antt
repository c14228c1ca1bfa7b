use Rattle.std.proofs.Common.{map}
use Rattle.std.proofs.lemmas.List.{length-map}
use Rattle.bay_memory.specs.Device.{view_of}
use Rattle.bay_memory.specs.Views.{views_of, shape_of}
use Rattle.bay_memory.proofs.Copies.{copies_hold, copies_fresh, copies_whole}
use Rattle.bay_memory.proofs.image.Image.of.Goals as goal

pub of-requires-clause-whole : goal.of-requires-clause-whole
of-requires-clause-whole c =
    let array = c.args.array.now in
    rw (c.zones.ensures, c.blocks-2.ensures) (copies_whole (shape_of array) (views_of array) (map view_of c.in_ok-devices.devices.items) (length-map array.devices.items view_of) array.whole c.args.crash.now c.requires c.in_ok-devices.ensures)

pub invariant_of-result : goal.invariant_of-result
invariant_of-result c =
    let array = c.args.array.now in
    record { fresh = rw c.of.ensures.views (copies_fresh (shape_of array) (views_of array) (map view_of c.in_ok-devices.devices.items) (length-map array.devices.items view_of) array.whole c.args.crash.now c.requires c.in_ok-devices.ensures) }

pub returns-clause-bytes : goal.returns-clause-bytes
returns-clause-bytes c =
    let array = c.args.array.now in
    rw c.of.ensures.views (copies_hold (shape_of array) (views_of array) (map view_of c.in_ok-devices.devices.items) (length-map array.devices.items view_of) array.whole c.args.crash.now c.requires c.in_ok-devices.ensures)
