use Rattle.std.proofs.Common.{◌∙◌, ap, map, List, subst, sym}
use Rattle.std.specs.List.{AllByRecursion}
use Rattle.marker_format.specs.Zone.{placed_from}
use Rattle.array_model.specs.Reading.{agreed, are_closed}
use Rattle.array_scan.specs.declared.set_read.Carrier.{Carrier}
use Rattle.array_scan.specs.SetRead.{array_by, carrier_of, placed_of, IsCarrierIn}
use Rattle.array_scan.proofs.Calls.{told_at, told_from}
use Rattle.array_scan.proofs.SeenSets.{set_seen}
use Rattle.array_scan.proofs.read_sets.read_set.Goals as goal

pub read_agreed-requires : goal.read_agreed-requires
read_agreed-requires g c =
    let bay = g.B.Bay.state c.args.bay.now in
    subst (λ (l : List Carrier). AllByRecursion (IsCarrierIn bay.shape) l) (sym c.deref.ensures.value) (c.in_ok-carriers.ensures.within bay.shape c.requires.within)

pub returns-clause-seen : goal.returns-clause-seen
returns-clause-seen g c =
    let bay = g.B.Bay.state c.args.bay.now in
    let array = array_by c.args.label.now in
    let zone = c.in_ok-agreed.agreed in
    told_from bay.contents _ (λ held is places are.
    set_seen array held places c.args.heads.now c.args.id c.in_ok-carriers.carriers.items (map placed_of zone.records.items) zone.closed are c.in_ok-carriers.ensures.found
    (told_at bay.contents _ held is c.in_ok-agreed.ensures.records ∙ ap (λ (l : List Carrier). placed_from 0 (agreed array held (map carrier_of l))) c.deref.ensures.value)
    (told_at bay.contents _ held is c.in_ok-agreed.ensures.closed ∙ ap (λ (l : List Carrier). are_closed array held (map carrier_of l)) c.deref.ensures.value))

pub returns-clause-fits : goal.returns-clause-fits
returns-clause-fits g c =
    let bay = g.B.Bay.state c.args.bay.now in
    record { within = c.in_ok-carriers.ensures.within bay.shape c.requires.within; rising = c.in_ok-carriers.ensures.rising }
