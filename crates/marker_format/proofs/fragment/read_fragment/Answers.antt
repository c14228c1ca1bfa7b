use Rattle.std.proofs.Common.{◌≡◌, ℕ, ◌-◌, ◌*◌, ◌+◌, ◌++◌, length, take, drop, arith, ap, sym, ◌∙◌}
use Rattle.std.proofs.lemmas.List.{take_all, append-nil}
use borrow.Rule.Slice.PartMut.{put_mid}
use Rattle.marker_format.proofs.FragmentLaws.{content_from, length-put_mid, filled_more, fragment_read}
use Rattle.marker_format.proofs.fragment.read_fragment.Goals as goal

pub loop-i-preserved : goal.loop-i-preserved
loop-i-preserved c =
    let i = c.loop-i.i in
    let to = c.min-to.result in
    let out = c.loop-i.out in
    let part = c.copy_from_slice.new.self in
    let size : length part ≡ to - 511 * i = omega (arith, c.copy_from_slice.ensures.len) in
    let long : length (put_mid (511 * i) (to - 511 * i) out part) ≡ length out = length-put_mid (511 * i) (to - 511 * i) out part (omega arith) size in
    let is : part ≡ take (to - 511 * i) (drop (512 * i + 1) c.args.blocks.now) = c.copy_from_slice.ensures.after ∙ ap (λ k. take k (drop (512 * i + 1) c.args.blocks.now)) (omega arith) in
    record {
      long = long ∙ c.loop-i.invariant.long;
      filled =
          filled_more c.args.blocks.now out part _ c.div_ceil-count.result i to c.loop-i-test.true (omega (arith, c.loop-i.invariant.long)) c.min-to.ensures is size c.loop-i.invariant.filled
          ∙ ap (content_from c.div_ceil-count.result c.args.blocks.now) (sym long);
    }

pub returns : goal.returns
returns c =
    let out = c.loop-i.out in
    let whole : take (511 * c.loop-i.i) out ≡ out = take_all (511 * c.loop-i.i) out (omega (arith, c.loop-i.invariant.long, c.div_ceil-count.ensures)) in
    let none : c.div_ceil-count.result - c.loop-i.i ≡ 0 = omega arith in
    let rest = λ (n : ℕ). content_from n (drop (512 * c.loop-i.i) c.args.blocks.now) (length out - 511 * c.loop-i.i) in
    let filled : take (511 * c.loop-i.i) out ++ rest (c.div_ceil-count.result - c.loop-i.i) ≡ content_from c.div_ceil-count.result c.args.blocks.now (length out) = c.loop-i.invariant.filled in
    sym whole
    ∙ sym (append-nil (take (511 * c.loop-i.i) out))
    ∙ sym (ap (λ n. take (511 * c.loop-i.i) out ++ rest n) none)
    ∙ filled
    ∙ ap (content_from c.div_ceil-count.result c.args.blocks.now) c.loop-i.invariant.long
    ∙ ap (λ n. content_from n c.args.blocks.now (length c.args.out.now)) c.div_ceil-count.ensures
    ∙ sym (fragment_read c.args.blocks.now 0 (length c.args.out.now) (omega (arith, c.requires)))
