use Rattle.std.proofs.Common.{◌≡◌, ◌+◌, ◌≤◌, ◌∙◌, ℕ, Bool, false, None, length, get_or, sym, ap, subst, arith}
use Rattle.smore_base.specs.declared.geometry.Geometry.{Geometry}
use Rattle.set_table.specs.declared.zone_use.ZoneUse.TheVariants.{Carrier}
use Rattle.set_table.specs.Zones.{before_empty}
use Rattle.set_table.specs.Table.{Table, zones_of, use_at, marks_of, Adds}
use Rattle.set_table.proofs.UseLaws.{none_row, carried_by_none}
use Rattle.set_table.proofs.FormLaws.{FormedBelow, formed_none, formed_past, formed_here, room_left, forms}
use Rattle.set_table.proofs.table.SetTable.form_set.Goals as goal

pub loop-device-init : goal.loop-device-init
loop-device-init c =
    let inside = c.self.inside in
    let none = none_row inside.rows.rows c.args.set (subst (λ (t : Table). marks_of c.args.set t.sets ≡ None) (sym c.self.view_is) c.requires.absent) in
    subst (λ l. FormedBelow c.args.self.now c.args.set (λ d. get_or c.choose-chosen.result d false) 0 l c.args.self.now) (sym c.new-members.ensures)
    (formed_none c.args.self.now c.args.set (λ d. get_or c.choose-chosen.result d false) (λ d z i is.
    carried_by_none inside.geometry inside.lost.items inside.drives.items inside.rows.rows c.self.invariant c.args.set none i d z (subst (λ (t : Table). use_at t.zones d z ≡ Carrier c.args.set i) (sym c.self.view_is) is)))

pub loop-device-preserved-then-not-chosen-device : goal.loop-device-preserved-then-not-chosen-device
loop-device-preserved-then-not-chosen-device c =
    formed_past c.args.self.now c.args.set (λ d. get_or c.choose-chosen.result d false) c.loop-device.device c.loop-device.members.items c.loop-device.self c.loop-device.invariant c.if-not-chosen-device.true

pub take_lowest-requires-clause-index : goal.take_lowest-requires-clause-index
take_lowest-requires-clause-index c =
    let left = room_left c.args.self.now c.args.set (λ d. get_or c.choose-chosen.result d false) c.loop-device.device c.loop-device.members.items c.loop-device.self c.loop-device.invariant c.choose-chosen.ensures c.if-not-chosen-device.false in
    omega (arith, left, c.len-index.ensures.value, ap (λ (g : Geometry). g.k + g.p) c.loop-device.invariant.geometry)

pub push-requires : goal.push-requires
push-requires c =
    let left = room_left c.args.self.now c.args.set (λ d. get_or c.choose-chosen.result d false) c.loop-device.device c.loop-device.members.items c.loop-device.self c.loop-device.invariant c.choose-chosen.ensures c.if-not-chosen-device.false in
    let most = subst (λ (t : Table). t.geometry.k + t.geometry.p ≤ 20) c.self.view_is c.self.invariant.within.fragments in
    (omega arith, omega (arith, left, most))

pub loop-device-preserved : goal.loop-device-preserved
loop-device-preserved c =
    let old = c.args.self.now in
    let chosen : ℕ → Bool = λ d. get_or c.choose-chosen.result d false in
    let members = c.loop-device.members.items in
    let now = c.loop-device.self in
    let device = c.loop-device.device in
    let before = c.loop-device.invariant in
    let drives = subst (λ (t : Table). length t.zones ≡ t.geometry.drives) c.self.view_is c.self.invariant.drives in
    let is = c.if-not-chosen-device.false in
    let index : c.len-index.result ≡ length members = c.len-index.ensures.value in
    let member_is = c.take_lowest.ensures.member ∙ ap (λ n. record { index = n; device = device; zone = before_empty (zones_of now.zones device) }) index in
    let adds = subst (λ n. Adds now c.args.set n device c.take_lowest.result.zone c.take_lowest.new.self) index c.take_lowest.ensures.adds in
    let here = formed_here old c.args.set chosen device members now before c.take_lowest.result c.take_lowest.new.self is (c.choose-chosen.ensures.empty device is) (omega (arith, before.long, drives, c.choose-chosen.ensures.drives device is)) member_is adds c.requires.absent in
    subst (λ l. FormedBelow old c.args.set chosen (device + 1) l c.take_lowest.new.self) (sym c.push.ensures.items) here

pub returns : goal.returns
returns c =
    let chosen : ℕ → Bool = λ d. get_or c.choose-chosen.result d false in
    let all : c.loop-device.device ≡ c.args.self.now.geometry.drives = subst (λ (t : Table). c.loop-device.device ≡ t.geometry.drives) c.self.view_is (omega (arith, c.loop-device-test.false)) in
    let some = subst (λ (t : Table). 1 ≤ t.geometry.k + t.geometry.p) c.self.view_is (omega (arith, c.self.invariant.within)) in (
      omega (arith, c.if-live-least.false, c.with_empty-live.ensures),
      forms c.args.self.now c.args.set chosen c.loop-device.members.items c.loop-device.self c.choose-chosen.ensures (subst (λ n. FormedBelow c.args.self.now c.args.set chosen n c.loop-device.members.items c.loop-device.self) all c.loop-device.invariant) some,
    )
