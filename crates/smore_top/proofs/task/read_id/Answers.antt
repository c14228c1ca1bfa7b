use Rattle.std.proofs.Common.{◌≡◌, sym, ◌∙◌}
use Rattle.hex.specs.Hex.{encode_lower}
use Rattle.smore_top.proofs.WordReads.{never_refused, spells_as_written, decoded_is_id, written}
use Rattle.smore_top.proofs.WordsLemmas.{same_bytes}
use Rattle.smore_top.proofs.task.read_id.Goals as goal
use Rattle.smore_top.proofs.task.read_id.Goals.{After-ne}

digits : (c : After-ne) → c.encode_to_slice.new.output ≡ encode_lower c.decode_to_slice.new.out
digits c = written c.decode_to_slice.new.out c.as_slice.result.now c.encode_to_slice.new.output c.encode_to_slice.result c.encode_to_slice.ensures.written (sym c.is_err-2.ensures.value ∙ c.if-is_err-2.false) c.as_slice.ensures

pub returns-then-is_err : goal.returns-then-is_err
returns-then-is_err c id = never_refused c.args.word.now id c.decode_to_slice.new.out tt c.decode_to_slice.result c.decode_to_slice.ensures.value (sym c.is_err.ensures.value ∙ c.if-is_err.true)

pub returns-then-ne : goal.returns-then-ne
returns-then-ne c id =
    spells_as_written c.args.word.now id c.decode_to_slice.new.out c.encode_to_slice.new.output tt c.decode_to_slice.result c.decode_to_slice.ensures.value
    (digits (goal.at.returns-then-ne c).After-ne) c.ne.result (rw (c.as_slice-2.ensures, c.as_bytes.ensures.value) at c.ne.ensures) c.if-ne.true

pub returns : goal.returns
returns c = (
  decoded_is_id c.args.word.now c.decode_to_slice.new.out tt c.decode_to_slice.result c.decode_to_slice.ensures.value (sym c.is_err.ensures.value ∙ c.if-is_err.false),
  sym (same_bytes c.encode_to_slice.new.output c.args.word.now c.ne.result (rw (c.as_slice-2.ensures, c.as_bytes.ensures.value) at c.ne.ensures) c.if-ne.false) ∙ digits (goal.at.returns c).After-ne,
)
