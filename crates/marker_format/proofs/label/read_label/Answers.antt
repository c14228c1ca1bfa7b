use Rattle.std.proofs.Common.{ℕ, ◌<◌, get_or, arith, sym, subst, List}
use Rattle.marker_format.specs.Frame.{HasFrame}
use Rattle.marker_format.proofs.LabelLaws.{magic, label_at-spelled, label_at-fits, spelling_of-frame}
use Rattle.marker_format.proofs.label.read_label.Goals as goal

pub returns-then-not-has_frame-clause-none : goal.returns-then-not-has_frame-clause-none
returns-then-not-has_frame-clause-none c label fits e =
    let frame = subst (λ (bytes : List ℕ). HasFrame magic 39 bytes) (sym e) (spelling_of-frame label fits) in
    let framed = c.has_frame.ensures.1 frame in
    absurd (cc (framed, c.if-not-has_frame.true))

pub returns-clause-found : goal.returns-clause-found
returns-clause-found c =
    let bytes_fit : (i : ℕ) → get_or c.args.bytes.now i 0 < 256 = λ i. omega (arith, c.type_inv.bytes i) in
    let frame = c.has_frame.ensures.0 c.if-not-has_frame.false in
    rw c.label_of.ensures (label_at-fits c.args.bytes.now bytes_fit (c.has_frame.ensures.0 c.if-not-has_frame.false).0, label_at-spelled c.args.bytes.now bytes_fit frame)
