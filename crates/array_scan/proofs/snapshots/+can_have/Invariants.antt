use Rattle.std.proofs.Common.{◌≡◌, ◌+◌, ◌-◌, drop}
use Rattle.std.specs.List.{list_any}
use Rattle.array_model.specs.NeedTests.{snapshot_bytes, leaves, can_have}
use Rattle.array_scan.specs.Judged.{Payloads}
use Rattle.array_scan.specs.Valid.{items_with}
use Rattle.array_scan.specs.Objects.{HasLengths}
use Rattle.array_scan.specs.Needed.{stamped_by}
use Rattle.array_scan.proofs.snapshots.+can_have.Given as goal

abbrev pub invariant-loop-valid : goal.invariant-loop-valid
invariant-loop-valid l = (payload : Payloads) → HasLengths payload → let items = items_with payload l.records in
    can_have items (stamped_by l.of) l.part l.more l.left ≡ list_any (λ item. leaves (snapshot_bytes (stamped_by l.of) l.part item) l.left (can_have items (stamped_by l.of) (l.part + 1) (l.more - 1))) (items_with payload (drop l.valid-index l.records))

abbrev pub decreases-can_have : goal.decreases-can_have
decreases-can_have l = l.more
