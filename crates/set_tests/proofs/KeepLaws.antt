-- What a read keeps of a set that is written.
use Rattle.std.proofs.Common.{List, Option, Some, None, IfSome, sym, subst}
use Rattle.zone_bay.specs.Contents.{Contents, IsOfBay}
use Rattle.zone_bay.specs.Bay.{BayState}
use Rattle.set_table.specs.Table.{Table}
use Rattle.set_writer.specs.Entry.{Entry}
use Rattle.set_writer.specs.Writer.{Writer, Fits}
use Rattle.set_writer.specs.Calls.{IsOf}
use Rattle.set_writer.specs.TableLaws.{KeepsEmpty, KeepsSet}
use Rattle.set_writer.proofs.TableChanges.{losses_keep, keeps_of, keeps_fits_in, keeps_fits_some}
use Rattle.set_reader.specs.Calls.{OnlyReadsBy}
use Rattle.set_tests.specs.Keeps.{ReadKeeps}

module _ (w : Writer) (es : List Entry) (t t' : Table) (old new : BayState) (reads : OnlyReadsBy t t' old new) where
  kept : KeepsSet w.set t t'
  kept = losses_keep w.set t t' reads.table reads.stays_lost

  -- no zone got empty
  none_empty : (o : Option Contents) → IfSome o (KeepsEmpty t t')
  none_empty None = tt
  none_empty (Some held) = kept.empty held

  of_then : IsOf w t old → IsOf w t new
  of_then is = record { array = is.array; shape = subst (IsOfBay t.geometry) (sym reads.bay.goes_on.same_shape) is.shape }

  pub read_keeps : ReadKeeps w es t t' old new
  read_keeps = record {
    zones = kept;
    contents = reads.bay.contents;
    firm = reads.bay.firm;
    of = λ is. keeps_of new w.set w t t' kept.zones (of_then is);
    fits = λ fits. keeps_fits_in new w es t t' kept.zones (none_empty new.contents) (subst (λ (o : Option Contents). IfSome o (Fits w es t)) (sym reads.bay.contents) fits);
    fits_some = λ fits. keeps_fits_some new w t t' kept.zones (none_empty new.contents) (subst (λ (o : Option Contents). IfSome o (λ held. (es : List Entry) × Fits w es t held)) (sym reads.bay.contents) fits);
  }
