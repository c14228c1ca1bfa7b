-- What cuts keep of sets stays, or is what more cuts keep.
use Rattle.std.proofs.Common.{◌≡◌, ℕ, List, [], ◌∷◌, ◌++◌, Option, Some, None, refl, sym, ap, ◌∙◌}
use Rattle.array_model.specs.Record.{Record, Ready, Cut}
use Rattle.array_model.specs.Sets.{ReadSet, Placed, kept_by, lesser, least_kept, valid, records_of}
use Rattle.array_model.specs.Map.{items_of}
use Rattle.array_model.specs.SetLaws.{Appends, CutsStay, CopiesKeepCuts, OthersKeepCuts, DroppedSetKeepsCuts, OpeningKeepsCuts}
use Rattle.array_model.proofs.Records.{contains_from_among, least_is_there}
use Rattle.array_model.proofs.Sets.{lesser_none, kept_least, least_joined}
use Rattle.array_model.proofs.Thinned.{Thinned, StandsIn, least_stays}
use Rattle.array_model.proofs.Appended.{CutNothingOff, extra_of, items_extra, kept_joined, read_places, no_cut_nothing_off}
use Rattle.array_model.proofs.Copies.{kept_above, cuts_copied, copies_cut_nothing}
use Rattle.array_model.proofs.DroppedSet as dropped
use Rattle.array_model.proofs.Opening as opening

-- What is kept behind more records that cut nothing off.
kept_behind : (k : ℕ) (more : List Record) (old new : List ReadSet) (appends : Appends k more old new) → CutNothingOff k more (appends.top ∷ appends.above) appends.below → (target : ℕ) → kept_by target (valid k new) ≡ lesser (kept_by target (valid k old)) (least_kept target more)
kept_behind k more old new appends nothing target =
    kept_joined k target more new (records_of k old) (extra_of appends.top more) (read_places k more old new appends nothing) (items_extra appends.top more)
    ∙ ap (λ o. lesser o (least_kept target more)) (sym (kept_least target (valid k old)))

pub copies_keep_cuts : CopiesKeepCuts
copies_keep_cuts k uploads more old new rising lower appends copies target there =
    kept_behind k more old new appends (copies_cut_nothing k uploads more old new rising lower appends copies) target
    ∙ at_least (least_kept target more) refl
    ∙ sym (lesser_none (kept_by target (valid k old)))
  where
    at_least : (o : Option ℕ) → least_kept target more ≡ o → lesser (kept_by target (valid k old)) o ≡ kept_by target (valid k old)
    at_least None none = lesser_none (kept_by target (valid k old))
    at_least (Some n) is = let copy = cuts_copied k uploads old more copies lower target n is in kept_above k target n old copy.0 copy.2 copy.1

pub others_keep_cuts : OthersKeepCuts
others_keep_cuts k more old new appends others target there =
    kept_behind k more old new appends (no_cut_nothing_off k more (appends.top ∷ appends.above) none appends.below) target
    ∙ ap (lesser (kept_by target (valid k old))) (none target)
  where
    none : (target : ℕ) → least_kept target more ≡ None
    none target = at_least (least_kept target more) refl
      where
        at_least : (o : Option ℕ) → least_kept target more ≡ o → o ≡ None
        at_least None is = refl
        at_least (Some n) is = absurd (others target n (contains_from_among more (Cut target n) (least_is_there target n more is)))

-- What is kept where records went for which more records stand in.
kept_then : (k : ℕ) (uploads : List ℕ) (old new : List ReadSet) (more : List Record) {Gone : List Placed → Placed → List Placed → Type 0} {Replaced : Record → Type 0} (stands_in : StandsIn k uploads old more Gone Replaced) (kept extra : List Placed) → Thinned Gone [] (records_of k old) kept → records_of k new ≡ kept ++ extra → items_of extra ≡ more → CutsStay k more old new
kept_then k uploads old new more {Gone = Gone} {Replaced = Replaced} stands_in kept extra thinned read are target there =
    kept_joined k target more new kept extra read are
    ∙ least_stays k uploads old more Gone Replaced stands_in target there thinned
    ∙ ap (λ o. lesser o (least_kept target more)) (sym (kept_least target (valid k old)))

pub dropped_set_keeps_cuts : DroppedSetKeepsCuts
dropped_set_keeps_cuts k uploads id old new some drops =
    let then = dropped.then k uploads id old new some drops in
    kept_then k uploads old new (Cut id 0 ∷ []) (dropped.copies_stand_in k uploads id old) then.kept (extra_of drops.appends.top (Cut id 0 ∷ []))
    (dropped.thinned k uploads id old new some drops) (ap (records_of k) drops.appends.is ∙ then.read) (items_extra drops.appends.top (Cut id 0 ∷ []))

pub opening_keeps_cuts : OpeningKeepsCuts
opening_keeps_cuts k uploads cuts old new some opens target there =
    let then = opening.then k uploads cuts old new some opens in
    kept_then k uploads old new (opening.opened cuts) (opening.cuts_stand_in k uploads cuts old opens.lower opens.each) then.kept (opening.extra k uploads cuts old new some opens)
    (opening.thinned k uploads cuts old new some opens) (ap (records_of k) opens.opens.is ∙ then.read) (opening.are k uploads cuts old new some opens) target there
    ∙ ap (lesser (kept_by target (valid k old))) (least_joined target cuts (Ready ∷ []) ∙ lesser_none (least_kept target cuts))
