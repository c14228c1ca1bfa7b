use Rattle.std.proofs.Common.{sym, ◌∙◌}
use Rattle.std.proofs.lemmas.Bool.{false≢true}
use Rattle.smore_top.proofs.Numerals.{plain_spells, spelled_is_plain, unread_spells_none}
use Rattle.smore_top.proofs.numeral.read_number.Goals as goal

pub returns-in_default : goal.returns-in_default
returns-in_default c = unread_spells_none c.args.word.now c.parse.result c.in_default.not-Ok c.parse.ensures.value.0

pub returns-then-not-is_plain : goal.returns-then-not-is_plain
returns-then-not-is_plain c n small is = false≢true (sym c.if-not-is_plain.true ∙ c.is_plain.ensures.1 (spelled_is_plain c.args.word.now n small is))

pub returns : goal.returns
returns c = plain_spells c.args.word.now c.in-Ok.number c.parse.result c.in-Ok.is c.parse.ensures.value.0 (c.is_plain.ensures.0 c.if-not-is_plain.false)
