use Rattle.std.proofs.Common.{◌≡◌, ◌⊎◌, ◌≤◌, Bool, true, false, cond, Some, None, inl, inr, sym, ap, subst, ◌∙◌, arith}
use Rattle.std.specs.Prelude.{IfSome}
use Rattle.zone_bay.specs.Contents.{Shape}
use Rattle.array_model.specs.Drives.{is_label_of_bay, label_on}
use Rattle.label_reader.proofs.LabelBlock.{label_told, label_on-outside}
use Rattle.label_reader.proofs.bay_label.read_bay_label.Goals as goal
use Rattle.label_reader.proofs.bay_label.read_bay_label.Goals.{then-device-devices-via-then-device-devices, then-device-devices-via-else-device-devices+then-zones-eq0, In-Some}

pub returns-then-device-devices-clause-label : goal.returns-then-device-devices-clause-label
returns-then-device-devices-clause-label g c =
    let shape = (g.B.Bay.state c.args.bay.now).shape in
    let outside : (shape.devices ≤ c.args.device) ⊎ (shape.zones ≤ 0) = elim c.then-device-devices.branch [
      | then-device-devices-via-then-device-devices w ↦ inl (omega (arith, w.if-device-devices.true, c.devices-devices.ensures))
      | then-device-devices-via-else-device-devices+then-zones-eq0 w ↦ inr (omega (arith, w.if-zones-eq0.true, c.zones-zones.ensures))
    ] in
    label_on-outside (g.B.Bay.state c.args.bay.now) c.args.device (g.met.B.Bay.sound c.args.bay.now) outside

pub returns-in_default-clause-label : goal.returns-in_default-clause-label
returns-in_default-clause-label g c = label_told (g.B.Bay.state c.args.bay.now).contents (g.B.Bay.state c.args.bay.now).shape c.args.device None (rw c.in_default.is at c.in_ok-label.ensures.label)

-- where the answer of the test is this, the device's label is that
tested : (g : _) (c : In-Some g) (b answer : Bool) → answer ≡ is_label_of_bay (record { devices = c.devices-devices.result; zones = c.zones-zones.result; blocks = c.blocks-blocks.result }) c.args.device c.in-Some.label → answer ≡ b
    → IfSome (g.B.Bay.state c.args.bay.now).contents (λ held. cond b (Some c.in-Some.label) None ≡ label_on (g.B.Bay.state c.args.bay.now).shape held c.args.device)
tested g c b answer ours is =
    let shape : Shape = (g.B.Bay.state c.args.bay.now).shape in
    let asked : Shape = record { devices = c.devices-devices.result; zones = c.zones-zones.result; blocks = c.blocks-blocks.result } in
    let same : asked ≡ shape = λ i. record { devices = c.devices-devices.ensures i; zones = c.zones-zones.ensures i; blocks = c.blocks-blocks.ensures i } in
    let test : is_label_of_bay shape c.args.device c.in-Some.label ≡ b = ap (λ (s : Shape). is_label_of_bay s c.args.device c.in-Some.label) (sym same) ∙ sym ours ∙ is in
    subst (λ (x : Bool). IfSome (g.B.Bay.state c.args.bay.now).contents (λ held. cond x (Some c.in-Some.label) None ≡ label_on shape held c.args.device)) test
    (label_told (g.B.Bay.state c.args.bay.now).contents shape c.args.device (Some c.in-Some.label) (rw c.in-Some.is at c.in_ok-label.ensures.label))

pub returns-then-not-is_label_of-clause-label : goal.returns-then-not-is_label_of-clause-label
returns-then-not-is_label_of-clause-label g c = tested g (goal.at.returns-then-not-is_label_of-clause-label g c).In-Some false c.is_label_of.result c.is_label_of.ensures.ours c.if-not-is_label_of.true

pub returns-clause-label : goal.returns-clause-label
returns-clause-label g c = tested g (goal.at.returns-clause-label g c).In-Some true c.is_label_of.result c.is_label_of.ensures.ours c.if-not-is_label_of.false
