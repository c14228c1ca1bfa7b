use Rattle.std.proofs.Common.{◌≡◌, ℕ, ◌+◌, ◌-◌, ◌*◌, ◌<◌, ◌≤◌, List, length, Option, Some, None, IfSome, Ok, sym, ap, subst, ◌∙◌, arith}
use Rattle.std.specs.Prelude.{option_map}
use Rattle.std.specs.FinMap as finmap
use borrow.Rule.Slice.PartMut.{put_mid}
use Rattle.zone_bay.specs.Contents.{Contents}
use Rattle.marker_format.specs.Fragment.{fragment_at, blocks_of}
use Rattle.store_core.specs.declared.index.Part.{Part}
use Rattle.store_core.specs.Index.{Parts, parts_in, sizes_in}
use Rattle.marker_format.proofs.FragmentLaws.{length-put_mid}
use Rattle.zone_bay.proofs.OneDevice.{reads_then, reads_answered}
use Rattle.store_core.proofs.Extents.{sum_goes_on}
use Rattle.store_core.proofs.PartsRead.{IsFilledSoFar, sized_sum, sum_within, filled_next, length-piece}
use Rattle.store_core.proofs.get.read_parts.Goals as goal

size_of : (parts : Parts) (upload number : ℕ) (part : Part) (o : Option Part) → o ≡ finmap.get parts (upload, number) → o ≡ Some part → (finmap.get parts (upload, number) ≡ Some part) × (sizes_in parts upload number ≡ Some part.bytes)
size_of parts upload number part o is some = let there = sym is ∙ some in (there, ap (option_map (λ (p : Part). p.bytes)) there)

pub read_record-requires-clause-room : goal.read_record-requires-clause-room
read_record-requires-clause-room g c =
    let parts = parts_in c.args.index.now in
    let upload = c.args.note.now.upload in
    let loop = c.loop-number in
    let part = c.in-Some.part in
    let there = size_of parts upload loop.number part c.part.result c.part.ensures c.in-Some.is in
    let sum = sized_sum parts c.args.note.now (length c.args.out.now) c.requires.sized in
    let within = sum_within (sizes_in parts upload) c.args.note.now.parts (length c.args.out.now) sum.0 loop.number loop.at loop.invariant.sum part.bytes c.loop-number-test.true there.1 in
    let long = length-piece loop.at part.bytes loop.out (omega (arith, within, loop.invariant.long)) in
    let can = c.requires.room loop.number part there.0 in
    subst (λ n. 512 * blocks_of n ≤ length loop.buffer) (sym long) (subst (λ n. 512 * blocks_of part.bytes ≤ n) (sym loop.invariant.room) can.fits)

few_bytes : (blocks end : ℕ) → end ≤ blocks → blocks ≤ 524288 → 512 * end < 4294967296
few_bytes blocks end within few = omega (arith, within, few)

pub read_record-requires-clause-few : goal.read_record-requires-clause-few
read_record-requires-clause-few g c =
    let parts = parts_in c.args.index.now in
    let upload = c.args.note.now.upload in
    let loop = c.loop-number in
    let part = c.in-Some.part in
    let there = size_of parts upload loop.number part c.part.result c.part.ensures c.in-Some.is in
    let sum = sized_sum parts c.args.note.now (length c.args.out.now) c.requires.sized in
    let within = sum_within (sizes_in parts upload) c.args.note.now.parts (length c.args.out.now) sum.0 loop.number loop.at loop.invariant.sum part.bytes c.loop-number-test.true there.1 in
    let long = length-piece loop.at part.bytes loop.out (omega (arith, within, loop.invariant.long)) in
    let can = c.requires.room loop.number part there.0 in
    subst (λ n. 512 * (part.block + 1 + blocks_of n) < 4294967296) (sym long) (few_bytes _ (part.block + 1 + blocks_of part.bytes) can.within c.requires.few)

-- the bytes that are filled, where the bay tells what it holds
filled_told : (first now : Option Contents) (parts : Parts) (upload count number at n : ℕ) (part : Part) (out piece : List ℕ) → now ≡ first → number < count → finmap.get parts (upload, number) ≡ Some part → n ≡ part.bytes → length piece ≡ part.bytes → at + part.bytes ≤ length out
    → IfSome now (λ held. piece ≡ fragment_at (held 0 2) (part.block + 1) n)
    → IfSome first (λ held. IsFilledSoFar parts (held 0 2) upload count number at out)
    → IfSome first (λ held. IsFilledSoFar parts (held 0 2) upload count (number + 1) (at + part.bytes) (put_mid at part.bytes out piece))
filled_told None now parts upload count number at n part out piece same l there size long within is so_far = tt
filled_told (Some held) now parts upload count number at n part out piece same l there size long within is so_far =
    let here : piece ≡ fragment_at (held 0 2) (part.block + 1) n = subst (λ (o : Option Contents). IfSome o (λ held. piece ≡ fragment_at (held 0 2) (part.block + 1) n)) same is in
    filled_next parts (held 0 2) upload count number at part out piece l there (here ∙ ap (fragment_at (held 0 2) (part.block + 1)) size) long within so_far

pub loop-number-preserved : goal.loop-number-preserved
loop-number-preserved g c =
    let parts = parts_in c.args.index.now in
    let upload = c.args.note.now.upload in
    let loop = c.loop-number in
    let part = c.in-Some.part in
    let there = size_of parts upload loop.number part c.part.result c.part.ensures c.in-Some.is in
    let sum = sized_sum parts c.args.note.now (length c.args.out.now) c.requires.sized in
    let within = sum_within (sizes_in parts upload) c.args.note.now.parts (length c.args.out.now) sum.0 loop.number loop.at loop.invariant.sum part.bytes c.loop-number-test.true there.1 in
    let fits : loop.at + part.bytes ≤ length loop.out = omega (arith, within, loop.invariant.long) in
    let piece = c.read_record.new.out in
    let size = length-piece loop.at part.bytes loop.out fits in
    let long : length piece ≡ part.bytes = c.in_ok-read_record.ensures.length ∙ size in
    let width : loop.at + part.bytes - loop.at ≡ part.bytes = omega arith in
    let before = loop.invariant.reads.only.contents in
    record {
      reads = reads_answered 0 tt tt _ _ (reads_then 0 tt (Ok tt) _ (g.B.Bay.state loop.bay) _ loop.invariant.reads c.in_ok-read_record.ensures.reads);
      room = c.in_ok-read_record.ensures.room ∙ loop.invariant.room;
      long = ap (λ n. length (put_mid loop.at n loop.out piece)) width ∙ length-put_mid loop.at part.bytes loop.out piece fits long ∙ loop.invariant.long;
      sum = sum_goes_on (sizes_in parts upload) c.args.note.now.parts loop.number loop.at part.bytes c.loop-number-test.true there.1 loop.invariant.sum;
      filled = subst (λ n. IfSome (g.B.Bay.state c.args.bay.now).contents (λ held. IsFilledSoFar parts (held 0 2) upload c.args.note.now.parts (loop.number + 1) (loop.at + part.bytes) (put_mid loop.at n loop.out piece))) (sym width)
          (filled_told (g.B.Bay.state c.args.bay.now).contents (g.B.Bay.state loop.bay).contents parts upload c.args.note.now.parts loop.number loop.at _ part loop.out piece before c.loop-number-test.true there.0 size long fits c.in_ok-read_record.ensures.fragment loop.invariant.filled);
    }
