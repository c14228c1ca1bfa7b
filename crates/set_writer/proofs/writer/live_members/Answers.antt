use Rattle.std.proofs.Common.{ℕ, ◌+◌, refl, ap, arith}
use Rattle.std.specs.Prelude.{not}
use Rattle.std.specs.List.{range_with_len}
use Rattle.std.proofs.lemmas.List.FromFn.{length-range_with_len}
use Rattle.std.proofs.lemmas.List.Filters.{length-filter_both}
use Rattle.smore_base.specs.declared.geometry.Geometry.{Geometry}
use Rattle.set_table.specs.Table.{is_carried, fragments_of}
use Rattle.set_writer.proofs.writer.live_members.Goals as goal

pub overflow_sub-result : goal.overflow_sub-result
overflow_sub-result c =
    let t = c.args.table.now in
    let carried = λ (index : ℕ). is_carried t c.args.set index in
    let both = length-filter_both (λ index. carried index) (λ index. not (carried index)) (λ index. refl) (range_with_len 0 (fragments_of t)) in
    let all = length-range_with_len 0 (fragments_of t) in
    let g = ap (λ (x : Geometry). x.k + x.p) c.geometry-geometry.ensures.same in
    let m = c.missing.ensures in
    omega (arith, both, all, g, m)
