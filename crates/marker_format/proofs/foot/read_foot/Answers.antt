use Rattle.std.proofs.Common.{ℕ, ◌<◌, get_or, arith, sym, subst, List}
use Rattle.marker_format.specs.Frame.{HasFrame}
use Rattle.marker_format.proofs.FootLaws.{magic, foot_at-spelled, foot_at-fits, spelling_of-frame}
use Rattle.marker_format.proofs.foot.read_foot.Goals as goal

pub returns-then-not-has_frame-clause-none : goal.returns-then-not-has_frame-clause-none
returns-then-not-has_frame-clause-none c foot fits e =
    let frame = subst (λ (bytes : List ℕ). HasFrame magic 27 bytes) (sym e) (spelling_of-frame foot fits) in
    let framed = c.has_frame.ensures.1 frame in
    absurd (cc (framed, c.if-not-has_frame.true))

pub returns-clause-found : goal.returns-clause-found
returns-clause-found c =
    let bytes_fit : (i : ℕ) → get_or c.args.bytes.now i 0 < 256 = λ i. omega (arith, c.type_inv.bytes i) in
    let frame = c.has_frame.ensures.0 c.if-not-has_frame.false in
    rw c.foot_of.ensures (foot_at-fits c.args.bytes.now bytes_fit, foot_at-spelled c.args.bytes.now bytes_fit frame)
