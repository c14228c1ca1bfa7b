use Rattle.std.proofs.Common.{ℕ, ◌<◌, List, ap, sym, subst, ◌∙◌}
use Rattle.std.specs.List.{AllByRecursion, list_all}
use Rattle.array_model.specs.Drives.{places_on}
use Rattle.array_model.specs.Reading.{fragments_of}
use Rattle.array_scan.specs.declared.heads.HeadAt.{HeadAt}
use Rattle.array_scan.specs.declared.judge.SetScan.{SetScan}
use Rattle.array_scan.specs.SetRead.{array_by}
use Rattle.array_scan.specs.Heads.{heads_at}
use Rattle.array_scan.specs.Enough.{keeps}
use Rattle.array_scan.proofs.Calls.{told_at, told_from}
use Rattle.array_scan.proofs.KeptCarriers.{kept_by}
use Rattle.array_scan.proofs.enough.keep_carriers.Goals as goal

pub read_heads-requires : goal.read_heads-requires
read_heads-requires g c =
    let bay = g.B.Bay.state c.args.bay.now in
    subst (λ (l : List ℕ). AllByRecursion (λ d. d < bay.shape.devices) l) (sym c.deref.ensures.value) (c.in_ok-others.ensures.within bay.shape.devices c.requires.within)

pub returns-clause-kept : goal.returns-clause-kept
returns-clause-kept g c =
    let bay = g.B.Bay.state c.args.bay.now in
    let array = array_by c.args.label.now in
    let heads = c.in_ok-heads.heads.items in
    told_from bay.contents _ (λ held is.
    kept_by array bay.shape held c.args.drives.now c.args.leaving.now c.args.sets.now heads
    (told_at bay.contents _ held is c.in_ok-heads.ensures.heads ∙ ap (λ (ds : List ℕ). heads_at array held (places_on bay.shape ds)) (c.deref.ensures.value ∙ c.in_ok-others.ensures.drives))
    c.in_ok-keep_all.field-0
    (c.in_ok-keep_all.ensures
    ∙ ap (λ (hs : List HeadAt). list_all (λ (s : SetScan). keeps array.geometry.k (fragments_of array) hs s.read.id) c.deref-3.result.now) c.deref-2.ensures.value
    ∙ ap (list_all (λ (s : SetScan). keeps array.geometry.k (fragments_of array) heads s.read.id)) c.deref-3.ensures.value))
