use Rattle.std.proofs.Common.{◌≡◌, ◌∙◌, ◌+◌, ◌<◌, min, length, drop, get_or, set, sym, ap, subst, arith}
use Rattle.set_table.specs.declared.zone_use.ZoneUse.TheVariants.{Taken}
use Rattle.set_table.specs.Zones.{before_empty, IsGrouped}
use Rattle.set_table.proofs.ZoneLaws.{Put, ones, put_is, ones_found, ones_of, before_freed, before_kept, before_used, before_split}
use Rattle.set_table.proofs.GroupLaws.{PutGroup, put_group}
use Rattle.set_table.proofs.drive_zones.DriveZones.put.Goals as goal
use Rattle.set_table.proofs.drive_zones.DriveZones.put.Goals.{After-from-now, After-from, After-from-2, After-index-2}

within : (c : After-from-now) → c.args.zone < length c.self.inside.uses.items
within c = subst (λ l. c.args.zone < length l) (sym c.self.view_is) c.requires

was_is : (c : After-from-now) → c.from-was.result ≡ ones (get_or c.self.inside.uses.items c.args.zone Taken)
was_is c = ones_found c.self.inside.uses.items c.args.zone c.index.result.now c.is_empty.result c.from-was.result (within c) c.index.ensures c.is_empty.ensures c.from-was.ensures

now_is : (c : After-from-now) → c.from-now.result ≡ ones c.args.to
now_is c = ones_of c.args.to c.is_empty-2.result c.from-now.result c.is_empty-2.ensures c.from-now.ensures

pub overflow_sub-self : goal.overflow_sub-self
overflow_sub-self c =
    let it = put_is c.self.inside.uses.items c.args.zone c.args.to c.self.inside.empty c.from.result c.from-now.result c.self.invariant.0 (within c.before) c.self.invariant.1 (c.from.ensures ∙ was_is c.before) (now_is c.before) in
    it.some

known : (c : After-from-2) → Put c.self.inside.uses.items c.args.zone c.args.to c.self.inside.empty c.from.result c.from-2.result
known c =
    let here = c.before.before in
    put_is c.self.inside.uses.items c.args.zone c.args.to c.self.inside.empty c.from.result c.from-2.result c.self.invariant.0 (within here) c.self.invariant.1 (c.from.ensures ∙ was_is here) (c.from-2.ensures ∙ now_is here)

grouped : (c : After-index-2) → PutGroup c.self.inside.uses.items c.self.inside.groups.items c.args.zone c.args.to c.index-2.result.now c.from-was.result c.from-now.result
grouped c =
    let here = c.before.before.before.before.before in
    put_group c.self.inside.uses.items c.self.inside.groups.items c.args.zone c.args.to c.index-2.result.now c.from-was.result c.from-now.result c.self.invariant.3 (within here) c.index-2.ensures (was_is here) (now_is here)

pub overflow_add-self : goal.overflow_add-self
overflow_add-self c = omega (arith, (known c).sum)

pub overflow_sub-index : goal.overflow_sub-index
overflow_sub-index c = (grouped c.before).some

pub overflow_add-index : goal.overflow_add-index
overflow_add-index c = omega (arith, (grouped c.before).few)

pub invariant_of-self : goal.invariant_of-self
invariant_of-self c =
    let at = goal.at.invariant_of-self c in
    let it = known at.After-from-2 in
    let here = within at.After-from-now in
    (it.long, it.count, c.min-self-inside.ensures ∙ ap (λ n. min n c.args.zone) c.self.invariant.2 ∙ sym (before_freed c.self.inside.uses.items c.args.zone c.args.to (sym c.if-is_empty.ensures) here), (grouped at.After-index-2).grouped)

pub next_empty-self-inside-requires-clause-groups : goal.next_empty-self-inside-requires-clause-groups
next_empty-self-inside-requires-clause-groups c =
    let at = goal.at.next_empty-self-inside-requires-clause-groups c in
    subst (λ l. IsGrouped l c.deref-then-zone-self.result.now) (sym c.deref.ensures.value) (subst (λ l. IsGrouped (set c.self.inside.uses.items c.args.zone c.args.to) l) (sym c.deref-then-zone-self.ensures.value) (grouped at.After-index-2).grouped)

pub invariant_of-self-then-zone-self : goal.invariant_of-self-then-zone-self
invariant_of-self-then-zone-self c =
    let at = goal.at.invariant_of-self-then-zone-self c in
    let uses = c.self.inside.uses.items in
    let it = known at.After-from-2 in
    let low : c.args.zone ≡ before_empty uses = c.if-zone-self.true ∙ c.self.invariant.2 in
    let below = before_used uses c.args.zone c.args.to (sym c.if-is_empty.ensures) low (within at.After-from-now) in
    (it.long, it.count, c.next_empty-self-inside.ensures ∙ ap (λ l. c.args.zone + before_empty (drop c.args.zone l)) c.deref.ensures.value ∙ sym (before_split (set uses c.args.zone c.args.to) c.args.zone below), (grouped at.After-index-2).grouped)

pub invariant_of-self-else-zone-self : goal.invariant_of-self-else-zone-self
invariant_of-self-else-zone-self c =
    let at = goal.at.invariant_of-self-else-zone-self c in
    let it = known at.After-from-2 in
    (it.long, it.count, c.self.invariant.2 ∙ sym (before_kept c.self.inside.uses.items c.args.zone c.args.to (sym c.if-is_empty.ensures) (λ low. c.if-zone-self.false (low ∙ sym c.self.invariant.2))), (grouped at.After-index-2).grouped)
