use Rattle.std.proofs.Common.{sym, ◌∙◌, arith}
use Rattle.std.proofs.lemmas.Bool.{false≢true}
use Rattle.smore_top.proofs.WordReads.{made_geometry}
use Rattle.smore_top.proofs.task.read_geometry.Goals as goal

pub returns-then-not-is_made : goal.returns-then-not-is_made
returns-then-not-is_made c geometry has =
    false≢true (sym c.if-not-is_made.true ∙ c.is_made.ensures.1 (made_geometry c.args.words.now c.in_ok-byte_at.field-0 c.in_ok-byte_at-2.field-0 c.in_ok-byte_at-3.field-0 c.in_ok-short_at.field-0 c.in_ok-number_at.field-0 c.in_ok-number_at-2.field-0
    (omega arith) (omega arith) (omega arith) (omega arith) (omega arith) (omega arith)
    c.in_ok-byte_at.ensures c.in_ok-byte_at-2.ensures c.in_ok-byte_at-3.ensures c.in_ok-short_at.ensures c.in_ok-number_at.ensures c.in_ok-number_at-2.ensures geometry has))
