use Rattle.std.proofs.Common.{◌∙◌, ◌++◌, ◌≡◌, take, ap, arith}
use Rattle.smore_base.specs.BigEndian.{spelled}
use Rattle.set_digest.specs.Line.{fields_of, name_and_zeros}
use Rattle.set_digest.proofs.LineLaws.{spelling_of-parts}
use Rattle.set_digest.proofs.line.write_line.Goals as goal

pub returns : goal.returns
returns c =
    let mid = c.write_fields-at.new.out in
    let end = c.write_fields-at.ensures.end in
    let written : take 41 mid ≡ spelled (fields_of c.args.line.now) = ap (λ n. take n mid) (let e : 41 ≡ c.write_fields-at.result = omega arith in e) ∙ c.write_fields-at.ensures.written.prefix in
    spelling_of-parts c.args.line.now mid c.write_name.new.out written (c.write_name.ensures ∙ (λ i. take (end i) mid ++ name_and_zeros (c.bytes_of.ensures.bytes i)))
