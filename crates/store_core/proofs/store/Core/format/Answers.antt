use Rattle.std.proofs.Common.{sym, ap, subst, arith}
use Rattle.std.specs.Prelude.{◌⊎◌, ℕ, ◌≤◌, [], ◌≡◌, IfSome}
use Rattle.zone_bay.specs.Contents.{Shape}
use Rattle.marker_format.specs.Zone.{Array}
use Rattle.array_model.specs.Kept.{IsFormatted}
use Rattle.store_core.proofs.FormattedKeeps.{told_last, formatted_keeps}
use Rattle.store_core.proofs.FormatSteps.{formatted}
use Rattle.store_core.proofs.store.Core.format.Goals as goal

pub returns-clause-ok : goal.returns-clause-ok
returns-clause-ok g c =
    let bay = g.B.Bay.state c.loop-device.bay in
    let inside = subst (λ (s : Shape). IfSome bay.contents (λ held. (d z : ℕ) → (s.devices ≤ d) ⊎ (s.zones ≤ z) → held d z ≡ [])) c.loop-device.invariant.0.same_shape (g.met.B.Bay.sound c.loop-device.bay).inside in
    formatted (record { geometry = c.args.geometry.now; id = c.args.array }) (g.B.Bay.state c.args.bay.now).shape _ bay.contents c.loop-device.device c.requires.within c.loop-device.invariant.3 c.requires.shaped (omega (arith, c.devices-device-end.ensures, c.loop-device-test.false)) inside c.loop-device.invariant.1

pub returns-clause-keeps : goal.returns-clause-keeps
returns-clause-keeps g c one p told =
    let bay = g.B.Bay.state c.loop-device.bay in
    let array : Array = record { geometry = c.args.geometry.now; id = c.args.array } in
    let same = c.loop-device.invariant.0.same_shape in
    let new = subst (λ (s : Shape). IfSome bay.contents (IsFormatted array s)) (sym same) (told_last (g.B.Bay.state c.args.bay.now).contents bay.contents (IsFormatted array (g.B.Bay.state c.args.bay.now).shape) (returns-clause-ok g c)) in
    let count = ap (λ (s : Shape). s.devices) same in
    formatted_keeps array bay one p new (λ d inside. c.loop-device.invariant.2 d (omega (arith, inside, count, c.devices-device-end.ensures, c.loop-device-test.false))) told
