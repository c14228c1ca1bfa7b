-- What a read keeps of a set that is written.
use Rattle.std.specs.Prelude.{◌≡◌, List}
use Rattle.zone_bay.specs.Bay.{BayState}
use Rattle.set_table.specs.Table.{Table}
use Rattle.set_writer.specs.Entry.{Entry}
use Rattle.set_writer.specs.Writer.{Writer}
use Rattle.set_writer.specs.Calls.{IsOf, FitsIn, FitsSome}
use Rattle.set_writer.specs.TableLaws.{KeepsSet}
use Rattle.set_reader.specs.Calls.{OnlyReadsBy}

-- The set keeps its zones, all that is held and firm is the same, and what the writer's calls ask of the table and the bay holds still.
pub record ReadKeeps (w : Writer) (es : List Entry) (t t' : Table) (old new : BayState) : Type 0 where
  pub zones : KeepsSet w.set t t'
  pub contents : new.contents ≡ old.contents
  pub firm : new.firm ≡ old.firm
  pub of : IsOf w t old → IsOf w t' new
  pub fits : FitsIn w es t old → FitsIn w es t' new
  pub fits_some : FitsSome w t old → FitsSome w t' new

-- So it is of any set, behind a read that lost devices too.
abbrev pub ReadKeepsSets : BayState → BayState → Type 0
ReadKeepsSets old new = (w : Writer) (es : List Entry) (t t' : Table) → OnlyReadsBy t t' old new → ReadKeeps w es t t' old new
