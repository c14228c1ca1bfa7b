use Rattle.std.proofs.Common.{◌≡◌, ◌*◌, ℕ, List, length, take, drop, Option, Some, None, IfSome, ap, ◌∙◌, arith}
use Rattle.std.specs.Prelude.{IfNone}
use Rattle.marker_format.specs.declared.marker.Marker.{Marker}
use Rattle.marker_format.specs.Marker.{IsMarker}
use Rattle.marker_format.specs.Block.{marker_block, marker_in_block}
use Rattle.marker_format.proofs.BlockLaws.{marker_in_block-exact}
use Rattle.set_reader.proofs.Told.{told_at, told_from}
use Rattle.set_reader.proofs.lengths.read_marker_at.Goals as goal

exact : (bytes : List ℕ) (o : Option Marker) → IfSome o (λ m. IsMarker m × (bytes ≡ marker_block m)) → IfNone o ((m : Marker) → IsMarker m → bytes ≡ marker_block m → ⊥) → o ≡ marker_in_block bytes
exact bytes (Some m) found none = marker_in_block-exact bytes (Some m) found
exact bytes None found none = marker_in_block-exact bytes None none

pub returns-in-Ok-clause-marker : goal.returns-in-Ok-clause-marker
returns-in-Ok-clause-marker g c =
    let bay = g.B.Bay.state c.args.bay.now in
    told_from bay.contents _ (λ held is.
    let zone = held c.args.member.device c.args.member.zone in
    let read = told_at bay.contents _ held is c.in-Ok.ensures.bytes in
    let long : length c.read.new.out ≡ 512 = omega (arith, c.read.auto.out) in
    let whole = read ∙ ap (λ n. take n (drop (512 * c.args.block) zone)) long in
    exact c.read.new.out c.read_marker_block.result c.read_marker_block.ensures.found c.read_marker_block.ensures.none ∙ ap marker_in_block whole)
