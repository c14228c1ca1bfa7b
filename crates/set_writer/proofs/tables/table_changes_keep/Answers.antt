use Rattle.set_writer.proofs.TableChanges.{keeps_of, keeps_held, keeps_firm, keeps_whole, keeps_alone, keeps_new, keeps_fits, keeps_empty, keeps_fits_in, keeps_fits_some}
use Rattle.set_writer.proofs.tables.table_changes_keep.Goals as goal

pub returns-clause-of : goal.returns-clause-of
returns-clause-of g c = λ bay. keeps_of (g.B.Bay.state bay)

pub returns-clause-held : goal.returns-clause-held
returns-clause-held g c = keeps_held

pub returns-clause-firm : goal.returns-clause-firm
returns-clause-firm g c = keeps_firm

pub returns-clause-whole : goal.returns-clause-whole
returns-clause-whole g c = keeps_whole

pub returns-clause-alone : goal.returns-clause-alone
returns-clause-alone g c = keeps_alone

pub returns-clause-next : goal.returns-clause-next
returns-clause-next g c = keeps_new

pub returns-clause-fits : goal.returns-clause-fits
returns-clause-fits g c = keeps_fits

pub returns-clause-empty : goal.returns-clause-empty
returns-clause-empty g c = keeps_empty

pub returns-clause-fits_in : goal.returns-clause-fits_in
returns-clause-fits_in g c = λ bay. keeps_fits_in (g.B.Bay.state bay)

pub returns-clause-fits_some : goal.returns-clause-fits_some
returns-clause-fits_some g c = λ bay. keeps_fits_some (g.B.Bay.state bay)
