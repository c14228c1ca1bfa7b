use Rattle.std.proofs.Common.{◌≡◌, ◌+◌, Option, Some, sym, ap, ◌∙◌, subst}
use Rattle.std.specs.Option.{option_copied}
use Rattle.std.specs.List.{AllByRecursion}
use Rattle.zone_bay.specs.Contents.{Shape}
use Rattle.marker_format.specs.Zone.{Array}
use Rattle.array_model.specs.Drives.{array_of, places_on}
use Rattle.array_scan.specs.SetRead.{array_by, FitsBay}
use Rattle.array_scan.specs.Scan.{AreSetsOf, AreInBay}
use Rattle.array_scan.proofs.Calls.{told_at, told_from}
use Rattle.array_scan.proofs.ScannedSets.{sets_scanned, sets_in_bay, first_names}
use Rattle.array_scan.proofs.plain.scan_sets.Goals as goal

-- src/plain.rt:32:1
pub returns-clause-sets : goal.returns-clause-sets
returns-clause-sets g c =
    let before = g.B.Bay.state c.args.bay.now in
    let mid = g.B.Bay.state c.read_heads.new.bay in
    let l = c.in-Some.label.now in
    let read = c.in_ok-heads.ensures.reads.only in
    let named : Some (array_by l) ≡ array_of c.args.labels.now = first_names c.args.labels.now l (ap option_copied (sym c.in-Some.is) ∙ c.first.ensures.value) in
    told_from before.contents _ (λ held is.
    subst (λ (a : Option Array). AreSetsOf a before.shape held c.args.drives.now c.in_ok-of-2.field-0) named
    (sets_scanned (array_by l) before.shape held c.args.drives.now c.in_ok-read.read.items c.in_ok-of-2.field-0 c.in_ok-of-2.ensures.k c.in_ok-of-2.ensures.read
    (subst (λ (s : Shape). AllByRecursion (FitsBay s (l.geometry.k + l.geometry.p)) c.in_ok-read.read.items) read.goes_on.same_shape c.in_ok-read.ensures.fits)
    (told_at mid.contents _ held (read.contents ∙ is) c.in_ok-read.ensures.seen (places_on before.shape c.args.drives.now) (c.deref.ensures.value ∙ told_at before.contents _ held is c.in_ok-heads.ensures.heads))
    c.in_ok-of-2.field-0.judged))

pub returns-clause-in_bay : goal.returns-clause-in_bay
returns-clause-in_bay g c =
    let before = g.B.Bay.state c.args.bay.now in
    let l = c.in-Some.label.now in
    let named : Some (array_by l) ≡ array_of c.args.labels.now = first_names c.args.labels.now l (ap option_copied (sym c.in-Some.is) ∙ c.first.ensures.value) in
    subst (λ (a : Option Array). AreInBay a before.shape c.in_ok-of-2.field-0) named
    (sets_in_bay (array_by l) before.shape c.in_ok-read.read.items c.in_ok-of-2.field-0 c.in_ok-of-2.ensures.k c.in_ok-of-2.ensures.read
    (subst (λ (s : Shape). AllByRecursion (FitsBay s (l.geometry.k + l.geometry.p)) c.in_ok-read.read.items) c.in_ok-heads.ensures.reads.only.goes_on.same_shape c.in_ok-read.ensures.fits))
