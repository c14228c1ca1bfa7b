use Rattle.std.proofs.Common.{◌≡◌, ℕ, ◌+◌, ◌≤◌, cond, Some, None, Result, Ok, Err, refl, ap, subst, ◌∙◌, arith, bytes_eq}
use Rattle.std.specs.Prelude.{OnOk, OnErr}
use Rattle.std.specs.Int.{div_ceil}
use Rattle.marker_format.specs.declared.kind.Kind.{Kind}
use Rattle.marker_format.specs.declared.kind.Kind.TheVariants as kinds
use Rattle.marker_format.specs.Marker.{bytes_of_name}
use Rattle.array_model.specs.Record.{Record, note_stamp}
use Rattle.store_core.specs.declared.index.Index.{Index}
use Rattle.store_core.specs.declared.index.Part.{Part}
use Rattle.store_core.specs.declared.said.Said.{Said}
use Rattle.marker_format.specs.Fragment.{blocks_of}
use Rattle.store_core.specs.Index.{PartKey, parts_in, notes_in, with_part}
use Rattle.store_core.specs.Said.{note_read}
use Rattle.store_core.specs.Sound.{IsSoundPart, IsSoundIndex}
use Rattle.zone_bay.proofs.OneDevice.{on_ok_map}
use Rattle.store_core.proofs.SaidLaws.{one_source, kind_known, bounds, said_kind, named, added_part, added_note, added_default}
use Rattle.store_core.proofs.SoundLaws.{sound_same, sound_with_part}
use Rattle.store_core.proofs.said.Said.add.Goals as goal

pub returns-in-Part-clause-said : goal.returns-in-Part-clause-said
returns-in-Part-clause-said c =
    let m = c.args.marker.now in
    let is = c.requires.kind ∙ ap (λ (k : Kind). Some k) c.in-Part.is in
    let new : Said = record { index = c.add_part.new.self; stamps = c.args.self.now.stamps } in
    on_ok_map c.add_part.result
    (λ parts ms was here. added_part c.args.self.now new ms m c.args.block (kind_known m kinds.Part kinds.Part is) (λ name. ap (note_stamp name) (said_kind m kinds.Part is)) parts c.add_part.ensures.notes refl was here)
    c.add_part.ensures.added

either : {T E : Type 0} (blocks shard stamp : ℕ) (old new : Index) (r : Result T E) (key : PartKey) (part : Part) → notes_in new ≡ notes_in old
    → OnOk r (parts_in new ≡ with_part key part (parts_in old)) → OnErr r (parts_in new ≡ parts_in old) → IsSoundPart blocks shard stamp key.0 part → IsSoundIndex blocks shard stamp old → IsSoundIndex blocks shard stamp new
either blocks shard stamp old new (Ok x) key part notes added kept sound was = sound_with_part blocks shard stamp old new key.0 key.1 part notes added sound was
either blocks shard stamp old new (Err e) key part notes added kept sound was = sound_same blocks shard stamp old new notes kept was

pub returns-in-Part-clause-sound : goal.returns-in-Part-clause-sound
returns-in-Part-clause-sound c blocks shard stamp was place =
    let m = c.args.marker.now in
    let part : Part = record { block = c.args.block; bytes = m.payload } in
    let fragment : m.fragment ≡ m.payload = (bounds m c.args.kind c.requires.well c.requires.kind).fragment ∙ ap (div_ceil m.payload) place.one_source ∙ one_source m.payload in
    let within : c.args.block + (1 + blocks_of m.payload) ≤ blocks = subst (λ n. c.args.block + (1 + blocks_of n) ≤ blocks) fragment place.within in
    either blocks shard stamp c.args.self.now.index c.add_part.new.self c.add_part.result (m.upload, m.part) part c.add_part.ensures.notes c.add_part.ensures.added c.add_part.ensures.kept
    (record { past = place.past (kind_known m kinds.Part kinds.Part (c.requires.kind ∙ ap (λ (k : Kind). Some k) c.in-Part.is)); within = omega (arith, within); small = place.small }) was

pub returns-in-Put-clause-said : goal.returns-in-Put-clause-said
returns-in-Put-clause-said c =
    let m = c.args.marker.now in
    let is = c.requires.kind ∙ ap (λ (k : Kind). Some k) c.in-Put.is in
    let name = named m kinds.Put c.requires.well is refl in
    on_ok_map c.add_note.result
    (λ noted ms was here. added_note c.args.self.now c.add_note.new.self ms m name.0 m.stamp _ (kind_known m kinds.Put kinds.Part is)
    (λ q. ap (note_stamp q) (said_kind m kinds.Put is) ∙ ap (λ o. cond (bytes_eq (bytes_of_name o) q) (Some m.stamp) None) name.1)
    (ap (λ (r : Record). note_read (Some r)) (said_kind m kinds.Put is)) (noted name.0 name.1) was)
    c.add_note.ensures.noted

pub returns-in-Put-clause-sound : goal.returns-in-Put-clause-sound
returns-in-Put-clause-sound c blocks shard stamp was place =
    c.add_note.ensures.sound blocks shard stamp (place.noted (kind_known c.args.marker.now kinds.Put kinds.Put (c.requires.kind ∙ ap (λ (k : Kind). Some k) c.in-Put.is))) was

pub returns-in-Delete-clause-said : goal.returns-in-Delete-clause-said
returns-in-Delete-clause-said c =
    let m = c.args.marker.now in
    let is = c.requires.kind ∙ ap (λ (k : Kind). Some k) c.in-Delete.is in
    let name = named m kinds.Delete c.requires.well is refl in
    on_ok_map c.add_note-in-Delete.result
    (λ noted ms was here. added_note c.args.self.now c.add_note-in-Delete.new.self ms m name.0 m.stamp None (kind_known m kinds.Delete kinds.Part is)
    (λ q. ap (note_stamp q) (said_kind m kinds.Delete is) ∙ ap (λ o. cond (bytes_eq (bytes_of_name o) q) (Some m.stamp) None) name.1)
    (ap (λ (r : Record). note_read (Some r)) (said_kind m kinds.Delete is)) (noted name.0 name.1) was)
    c.add_note-in-Delete.ensures.noted

pub returns-in_default : goal.returns-in_default
returns-in_default c = record {
  said = λ ms was here. added_default c.args.self.now ms c.args.marker.now c.args.kind c.requires.kind c.in_default.not-Part c.in_default.not-Put c.in_default.not-Delete was;
  sound = λ blocks shard stamp was place. was;
}
