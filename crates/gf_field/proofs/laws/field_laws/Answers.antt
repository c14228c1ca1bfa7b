use Rattle.gf_field.proofs.Field.{bytes_are_field}
use Rattle.gf_field.proofs.laws.field_laws.Goals as goal

pub returns : goal.returns
returns c = bytes_are_field
