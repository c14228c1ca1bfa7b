use Rattle.std.proofs.Common.{◌≡◌, ◌+◌, ◌++◌, ◌≤◌, length, is_ok, cond, ap, ◌∙◌, arith, true}
use Rattle.std.proofs.lemmas.List.{take_all}
use Rattle.set_digest.specs.Lines.{spelling_of_list}
use Rattle.set_digest.proofs.ListLaws.{written_more}
use Rattle.set_digest.proofs.lines.write_lines.Goals as goal

pub loop-line-preserved : goal.loop-line-preserved
loop-line-preserved c =
    let it = c.loop-line.invariant in
    let out = c.loop-line.out in
    let spelled = c.write_line.new.out in
    let long : length spelled ≡ 320 = omega (arith, c.write_line.auto.out) in
    let room : out.len + length spelled ≤ out.cap = omega (arith, it.room, long, c.loop-line-test.true) in
    let ok : is_ok c.extend_from_slice.result ≡ true = c.extend_from_slice.ensures.succeeds room in
    let added = c.extend_from_slice.ensures.items ∙ ap (λ b. cond b (out.items ++ spelled) out.items) ok in
    let len = c.extend_from_slice.ensures.len ∙ ap (λ b. cond b (out.len + length spelled) out.len) ok in
    record {
      written = written_more c.args.out.now.items out.items c.extend_from_slice.new.self.items c.args.lines.now c.loop-line.line-index c.line-item.result c.loop-line-test.true c.line-item.is it.written (added ∙ ap (λ l. out.items ++ l) c.write_line.ensures);
      room = omega (arith, it.room, len, long, c.extend_from_slice.ensures.capacity, c.loop-line-test.true);
    }

pub returns : goal.returns
returns c =
    c.loop-line.invariant.written ∙ ap (λ l. c.args.out.now.items ++ spelling_of_list l) (take_all c.loop-line.line-index c.args.lines.now c.loop-line-test.false)
