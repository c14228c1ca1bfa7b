use Rattle.std.proofs.Common.{◌≡◌, length, sym, ap, subst, ◌∙◌, rules}
use Rattle.marker_format.specs.declared.kind.Kind.TheVariants.{Head, Ready}
use Rattle.marker_format.specs.Marker.{IsMarker}
use Rattle.store_core.specs.declared.records.RecordPlace.{RecordPlace}
use Rattle.store_core.specs.Records.{place_marker, next_place}
use Rattle.store_core.specs.Opening.{array_by}
use Rattle.store_core.proofs.FirstSet.{first_head-is, first_ready-is}
use Rattle.store_core.proofs.first_set.write_first.Goals as goal

pub write_record-end-requires-clause-marker : goal.write_record-end-requires-clause-marker
write_record-end-requires-clause-marker c =
    let id : length c.args.label.now.array ≡ 16 = search rules in
    subst IsMarker (sym (c.marker.ensures ∙ ap (λ (p : RecordPlace). place_marker p Head) c.first_place-head.ensures)) (first_head-is (array_by c.args.label.now) id)

pub write_record-requires-clause-marker : goal.write_record-requires-clause-marker
write_record-requires-clause-marker c =
    let id : length c.args.label.now.array ≡ 16 = search rules in
    subst IsMarker (sym (c.marker-2.ensures ∙ ap (λ (p : RecordPlace). place_marker p Ready) (c.next-ready.ensures ∙ ap next_place c.first_place-head.ensures))) (first_ready-is (array_by c.args.label.now) id)
