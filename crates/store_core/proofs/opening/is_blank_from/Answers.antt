use Rattle.std.proofs.Common.{arith, ap}
use Rattle.zone_bay.specs.declared.failed.Failed.{Failed}
use Rattle.zone_bay.specs.Contents.{Shape}
use Rattle.zone_bay.proofs.OneDevice.{reads_none, reads_then, reads_failed, reads_answered, written_on}
use Rattle.store_core.proofs.BlankZones.{blank_start, blank_more}
use Rattle.store_core.proofs.opening.is_blank_from.Goals as goal

pub loop-zone-init : goal.loop-zone-init
loop-zone-init g c = record {
  reads = reads_none c.args.drive 0 (g.B.Bay.state c.args.bay.now);
  blank = blank_start (g.B.Bay.state c.args.bay.now).contents c.args.drive c.args.first;
}

pub written-requires-clause-device_in : goal.written-requires-clause-device_in
written-requires-clause-device_in g c = omega (arith, c.requires, ap (λ (s : Shape). s.devices) c.loop-zone.invariant.reads.only.goes_on.same_shape)

pub written-requires-clause-zone_in : goal.written-requires-clause-zone_in
written-requires-clause-zone_in g c = omega (arith, ap (λ (s : Shape). s.zones) c.loop-zone.invariant.reads.only.goes_on.same_shape)

pub returns-in_err-written-clause-reads : goal.returns-in_err-written-clause-reads
returns-in_err-written-clause-reads g c =
    reads_failed c.args.drive _ _ _ _ (reads_then c.args.drive _ _ _ _ _ c.loop-zone.invariant.reads (written_on c.args.drive c.loop-zone.zone _ _ _ (g.met.B.Bay.sound c.loop-zone.bay) c.in_err-written.ensures.call)) _ c.from_residual.ensures.1

pub loop-zone-preserved : goal.loop-zone-preserved
loop-zone-preserved g c = record {
  reads = reads_answered {E = Failed} c.args.drive _ _ _ _ (reads_then c.args.drive _ _ _ _ _ c.loop-zone.invariant.reads (written_on c.args.drive c.loop-zone.zone _ _ _ (g.met.B.Bay.sound c.loop-zone.bay) c.in_ok-written.ensures.call));
  blank = blank_more _ _ c.args.drive c.args.first c.loop-zone.zone c.in_ok-written.field-0 c.loop-zone.invariant.reads.only.contents c.loop-zone.invariant.blank c.in_ok-written.ensures.length c.if-branch-ne0.false;
}
