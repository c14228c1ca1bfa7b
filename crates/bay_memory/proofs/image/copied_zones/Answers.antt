use Rattle.std.proofs.Common.{ℕ, List, length, map, ap, subst, arith}
use Rattle.bay_memory.specs.Past.{IsFresh}
use Rattle.bay_memory.specs.Array.{contents_in, firm_in}
use Rattle.bay_memory.specs.Views.{views_of}
use Rattle.bay_memory.specs.Zone.{track_of}
use Rattle.bay_memory.specs.Keep.{kept_with}
use Rattle.bay_memory.specs.Copies.{AreCopies}
use Rattle.bay_memory.proofs.Copies.{bytes_copied, more_zones}
use Rattle.bay_memory.proofs.image.copied_zones.Goals as goal

pub loop-zone-init : goal.loop-zone-init
loop-zone-init c = record {
  count = ap (λ (l : List _). length (map track_of l)) c.new-zones.ensures.items;
  each = λ z h. absurd (omega arith);
}

pub loop-zone-preserved : goal.loop-zone-preserved
loop-zone-preserved c =
    let held = contents_in (views_of c.args.array.now) in
    let firm = firm_in (views_of c.args.array.now) in
    let zone = c.loop-zone.zone in
    more_zones (kept_with c.args.crash.now held firm) c.args.device zone c.loop-zone.zones.items c.push.new.self.items c.in_ok-of.field-0 c.in_ok-push.ensures.items c.loop-zone.invariant
    (subst (λ (l : List ℕ). IsFresh l (track_of c.in_ok-of.field-0)) (bytes_copied c.args.crash.now held firm c.args.device zone _ _ c.firm-firm.result c.bytes-kept.result c.min.result c.held-held.ensures c.firm-firm.ensures c.bytes-kept.ensures c.min.ensures c.behind.ensures) c.in_ok-of.ensures)

pub returns : goal.returns
returns c =
    let array = c.args.array.now in
    subst (λ (n : ℕ). AreCopies (kept_with c.args.crash.now (contents_in (views_of array)) (firm_in (views_of array))) c.args.device n (map track_of c.loop-zone.zones.items)) (omega arith) c.loop-zone.invariant
