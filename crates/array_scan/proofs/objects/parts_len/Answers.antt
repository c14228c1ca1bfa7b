use Rattle.std.proofs.Common.{arith}
use Rattle.array_scan.proofs.ToldObjects.{parts_more, part_missing}
use Rattle.array_scan.proofs.objects.parts_len.Goals as goal

-- src/objects.rt:45:13
pub returns-in_default : goal.returns-in_default
returns-in_default c = part_missing c.args.records.now c.args.upload c.args.parts c.loop-part.part c.loop-part.bytes c.loop-part-test.true c.loop-part.invariant c.in_default.ensures.payload

-- src/objects.rt:43:5
pub loop-part-preserved : goal.loop-part-preserved
loop-part-preserved c =
    parts_more c.args.records.now c.args.upload c.args.parts c.loop-part.part c.loop-part.bytes c.loop-part-test.true c.loop-part.invariant
    c.in-Some.valid c.payload_len-bytes.result c.payload_len-bytes.ensures.len (omega (arith, c.payload_len-bytes.ensures.few)) c.in-Some.ensures.payload
