use Rattle.std.proofs.Common.{ap, subst, ◌∙◌, arith}
use Rattle.gf_field.specs.Field.{AreBytes}
use Rattle.set_digest.specs.Line.{spelling_of}
use Rattle.set_digest.specs.Records.{line_of}
use Rattle.set_writer.proofs.ByteLaws.{are_bytes, name_bytes}
use Rattle.set_writer.proofs.line.spell.Goals as goal

pub returns-clause-name : goal.returns-clause-name
returns-clause-name c = name_bytes (line_of c.args.block c.args.marker.now) (subst AreBytes (c.write_line.ensures ∙ ap spelling_of c.of.ensures) (are_bytes c.write_line.new.out (λ i. let b = c.type_inv.out i in omega (arith, b))))
