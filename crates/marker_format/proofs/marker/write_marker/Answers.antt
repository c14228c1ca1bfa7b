use Rattle.std.proofs.Common.{arith, ◌∙◌, ◌++◌}
use Rattle.smore_base.proofs.BigEndianLaws.{IsWritten-then}
use Rattle.marker_format.specs.Marker.{name_field}
use Rattle.marker_format.proofs.MarkerLaws.{spelling_of-parts}
use Rattle.marker_format.proofs.marker.write_marker.Goals as goal

pub returns : goal.returns
returns c =
    let written = IsWritten-then c.write_bytes-at.ensures.written (IsWritten-then c.write_fields-at.ensures.written c.write_bytes-at-2.ensures.written (omega arith)) (omega arith) in
    spelling_of-parts c.args.marker.now c.write_name.new.out (c.write_name.ensures ∙ (λ i. written.prefix i ++ name_field (c.bytes_of.ensures i)))
