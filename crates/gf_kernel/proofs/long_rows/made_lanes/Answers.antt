use Rattle.std.proofs.Common.{◌+◌, get_or, ap}
use Rattle.std.specs.Int.Bits.{bit_xor}
use Rattle.gf_kernel.specs.Lanes.{looked_up}
use Rattle.gf_kernel.specs.Rows.{kept, made_byte}
use Rattle.gf_kernel.proofs.LaneLemmas.{HasLanes-zip2, HasLanes-same}
use Rattle.gf_kernel.proofs.long_rows.made_lanes.Goals as goal

pub returns : goal.returns
returns c =
    let row = c.args.row.now in
    let src = c.args.src.now in
    let at = c.args.at in
    let keep = c.args.keep in
    let times = looked_up c.args.halves.lower c.args.halves.upper in
    let loaded = c.load.result in
    HasLanes-same 32 _ (λ k. bit_xor (kept keep (get_or row (at + k) 0)) (times (get_or loaded k 0))) (λ k. made_byte keep times row src (at + k))
    (HasLanes-zip2 32 bit_xor c.load_kept.result c.times.result (λ k. kept keep (get_or row (at + k) 0)) (λ k. times (get_or loaded k 0)) c.load_kept.ensures c.times.ensures)
    (λ k l. ap (λ b. bit_xor (kept keep (get_or row (at + k) 0)) (times b)) (c.load.ensures.each k l))
