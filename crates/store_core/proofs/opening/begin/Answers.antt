use Rattle.std.proofs.Common.{◌≡◌, drop, length, IfSome, inl, arith, sym, subst, ◌∙◌, rules}
use Rattle.smore_base.proofs.Told.{IfSome-both}
use Rattle.zone_bay.specs.Contents.{Shape}
use Rattle.marker_format.specs.Zone.{Array}
use Rattle.store_core.specs.Found.{IsLabelled}
use Rattle.store_core.specs.Core.{Serves, array_in}
use Rattle.store_core.specs.Opening.{array_by, HoldsSet, CanOpen}
use Rattle.store_core.specs.Zone.{opening_bytes}
use Rattle.store_core.proofs.CoreSteps.{if_some}
use Rattle.store_core.proofs.OpeningSteps.{BeginsWith, Appended, serves_read, serves_begun, appended_ok, labelled_begun, read_begun, can_found, holds_found, begins_found}
use Rattle.store_core.proofs.Refusals.{failed_refuses}
use Rattle.store_core.proofs.opening.begin.Goals as goal

pub returns-in-Holds : goal.returns-in-Holds
returns-in-Holds g c =
    let core = c.serve.result in
    let e = c.serve.ensures in
    let opening = c.args.opening in
    let state = g.B.Bay.state in
    let can = can_found c.args.bay core opening e.array c.requires.told in
    let holds = holds_found c.args.bay core opening e.array c.requires.told c.in-Holds.records c.in-Holds.is in
    subst (λ b. Serves state b core) e.bay (serves_read core e.works e.at e.map
    (subst (λ b. IfSome (state b).contents (λ held. CanOpen (state b).shape held (array_in core))) (sym e.bay) can)
    (subst (λ b. IfSome (state b).contents (λ held. HoldsSet (array_in core) (held 0 2))) (sym e.bay) holds))

pub returns-then-is_err : goal.returns-then-is_err
returns-then-is_err g c =
    let l = c.args.opening.label in
    let state = g.B.Bay.state in
    let id : length l.array ≡ 16 = search rules in
    let it = c.requires.fits.one in
    let begins = begins_found (state c.args.bay).shape (state c.args.bay).contents c.args.opening c.in-Begins.written c.in-Begins.is c.requires.told in
    let can : IfSome (state c.args.bay).contents (λ held. CanOpen (state c.args.bay).shape held (array_by l)) =
    IfSome-both (state c.args.bay).contents _ _ _ c.requires.told begins (λ held found begin. record { label = found.labelled.label; one_source = it.one_source; one_parity = it.one_parity; zone = inl begin.begins; alone = found.labelled.alone }) in
    failed_refuses c.begin_set.result (array_by l) it.one_source it.one_parity id c.in-Begins.written (state c.args.bay) (state c.begin_set.new.bay) (g.met.B.Bay.sound c.args.bay) (g.met.B.Bay.sound c.begin_set.new.bay)
    (omega (arith, it.of_bay.devices, it.limits.drives_from, it.limits.k_from)) (omega (arith, it.of_bay.zones, it.limits.zones_from)) can begins (sym c.is_err.ensures.value ∙ c.if-is_err.true) c.begin_set.ensures

pub serve-requires-in-Begins-clause-labelled : goal.serve-requires-in-Begins-clause-labelled
serve-requires-in-Begins-clause-labelled g c =
    let l = c.args.opening.label in
    let state = g.B.Bay.state in
    let id : length l.array ≡ 16 = search rules in
    let it = appended_ok c.begin_set.result _ _ _ (sym c.is_err.ensures.value ∙ c.if-is_err.false) c.begin_set.ensures in
    let begins = begins_found (state c.args.bay).shape (state c.args.bay).contents c.args.opening c.in-Begins.written c.in-Begins.is c.requires.told in
    labelled_begun (array_by l) c.requires.fits.one.one_source c.requires.fits.one.one_parity id c.in-Begins.written (state c.begin_set.new.bay).shape (state c.args.bay).contents (state c.begin_set.new.bay).contents it.became begins
    (if_some (state c.args.bay).contents _ _ (λ held found. subst (λ (s : Shape). IsLabelled s held (array_by l)) (sym it.toward.goes_on.same_shape) found.labelled) c.requires.told)

pub serve-requires-in-Begins-clause-read : goal.serve-requires-in-Begins-clause-read
serve-requires-in-Begins-clause-read g c =
    let l = c.args.opening.label in
    let state = g.B.Bay.state in
    let id : length l.array ≡ 16 = search rules in
    let it = appended_ok c.begin_set.result _ _ _ (sym c.is_err.ensures.value ∙ c.if-is_err.false) c.begin_set.ensures in
    let begins = begins_found (state c.args.bay).shape (state c.args.bay).contents c.args.opening c.in-Begins.written c.in-Begins.is c.requires.told in
    read_begun (array_by l) c.requires.fits.one.one_source c.requires.fits.one.one_parity id c.in-Begins.written (state c.begin_set.new.bay).shape (state c.args.bay).contents (state c.begin_set.new.bay).contents it.became begins
    c.first_records-records.result c.first_records-records.ensures.read c.first_records-records.ensures.whole

pub returns-else-is_err : goal.returns-else-is_err
returns-else-is_err g c =
    let core = c.serve-in-Begins.result in
    let e = c.serve-in-Begins.ensures in
    let opening = c.args.opening in
    let state = g.B.Bay.state in
    let begins = begins_found (state c.args.bay).shape (state c.args.bay).contents opening c.in-Begins.written c.in-Begins.is c.requires.told in
    let it = appended_ok c.begin_set.result _ _ _ (sym c.is_err.ensures.value ∙ c.if-is_err.false) c.begin_set.ensures in
    serves_begun c.args.bay core e.works e.at e.map (g.met.B.Bay.sound c.args.bay) (can_found c.args.bay core opening e.array c.requires.told) c.in-Begins.written
    (subst (λ (a : Array). IfSome (state c.args.bay).contents (λ held. BeginsWith a c.in-Begins.written (held 0 2))) (sym e.array) begins)
    (subst (λ b. Appended (drop c.in-Begins.written (opening_bytes (array_in core))) (state c.args.bay) (state b)) (sym e.bay) (subst (λ (a : Array). Appended (drop c.in-Begins.written (opening_bytes a)) (state c.args.bay) (state c.begin_set.new.bay)) (sym e.array) it))
