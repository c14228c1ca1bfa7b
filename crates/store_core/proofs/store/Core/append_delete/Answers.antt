use Rattle.std.proofs.Common.{◌≡◌, ℕ, ◌+◌, ◌*◌, ◌≤◌, true, false, List, length, take, None, IfSome, refl, sym, ap, subst, ◌∙◌, arith}
use Rattle.std.specs.Prelude.{option_map}
use Rattle.std.specs.FinMap as finmap
use mathlib.Core.Logic.{∥∥₁_map}
use Rattle.smore_base.specs.Told.{Told}
use Rattle.zone_bay.specs.declared.bay.Bay.{Ghosts}
use Rattle.zone_bay.specs.Contents.{appended}
use Rattle.marker_format.specs.declared.marker.Marker.{Marker}
use Rattle.marker_format.specs.Marker.{IsMarker}
use Rattle.object_machine.specs.declared.op.Op.TheVariants.{Delete}
use Rattle.object_machine.specs.declared.reply.Refusal.{Refusal}
use Rattle.object_machine.specs.declared.reply.Refusal.TheVariants.{TooFewFragments}
use Rattle.object_machine.specs.declared.reply.Reply.TheVariants.{Refused}
use Rattle.store_core.specs.declared.store.Core.{Core}
use Rattle.store_core.specs.declared.records.RecordPlace.{RecordPlace}
use Rattle.store_core.specs.declared.zone.OpenZone.{OpenZone}
use Rattle.store_core.specs.DeviceCalls.{Appends}
use Rattle.store_core.specs.Records.{delete_marker}
use Rattle.store_core.specs.Store.{Standing, note_load}
use Rattle.store_core.specs.Core.{array_in, known_in, place_of, case_of}
use Rattle.store_core.proofs.SoundLaws.{sound_later, sound_with_note}
use Rattle.store_core.proofs.StoreMoves.{may_still}
use Rattle.store_core.proofs.CoreSteps.{if_all, steps_as}
use Rattle.store_core.proofs.CoreAppends.{Grows, core_fits, core_buffer, failed_holds, grown_holds, grown_full, same_bay, buffer_written, set_behind, err_of, ok_of, appends_same, steps_failed, steps_done}
use Rattle.store_core.proofs.Deletes.{note_fits, note_bytes, length-note, note_written, deletes, known_removed, grown_delete}
use Rattle.store_core.proofs.store.Core.append_delete.Given.{Over}
use Rattle.store_core.proofs.store.Core.append_delete.Goals as goal
use Rattle.store_core.proofs.store.Core.append_delete.Goals.{After-deref, After-remove_note}

-- the note that is made is that of the delete
note_is : {B : Type 0} {g : Ghosts B} (core : Core B g) (place : RecordPlace) (given key : List ℕ) (made : Marker) → made ≡ delete_marker place core.next_stamp given → place ≡ place_of core → given ≡ key → made ≡ delete_marker (place_of core) core.next_stamp key
note_is core place given key made is at same = is ∙ ap (λ (p : RecordPlace). delete_marker p core.next_stamp given) at ∙ ap (delete_marker (place_of core) core.next_stamp) same

pub write_record-bytes-requires-clause-marker : goal.write_record-bytes-requires-clause-marker
write_record-bytes-requires-clause-marker g c =
    let core = c.args.self.now in
    let key = c.args.key.now in
    subst IsMarker (sym (note_is core c.place.result c.args.name key _ c.delete_note-note.ensures c.place.ensures c.requires.name)) (note_fits core key c.requires.may.named c.requires.may.may)

-- the bytes that are appended are its bytes
bytes_are : (g : Over) (c : goal.After-deref g) → take c.write_record-bytes.result c.deref.result.now ≡ note_bytes c.args.self.now c.args.key.now c.requires.may.named c.requires.may.may
bytes_are g c =
    let core = c.args.self.now in
    let made = note_is core c.place.result c.args.name c.args.key.now _ c.delete_note-note.ensures c.place.ensures c.requires.name in
    note_written core c.args.key.now c.requires.may.named c.requires.may.may c.write_record-bytes.result core.buffer.len _ _ _ _ _ made c.write_record-bytes.ensures.end (omega (arith, c.write_record-bytes.ensures.end, core_buffer core)) c.write_record-bytes.ensures.written c.deref.ensures.value

pub append_firm-requires-clause-fits : goal.append_firm-requires-clause-fits
append_firm-requires-clause-fits g c =
    let core = c.args.self.now in
    let key = c.args.key.now in
    let may = c.requires.may.may in
    subst (λ (l : List ℕ). IfSome (g.B.Bay.state core.bay).contents (λ held. length (held 0 2) + length l ≤ 512 * (g.B.Bay.state core.bay).shape.blocks)) (sym (bytes_are g (goal.at.append_firm-requires-clause-fits g c).After-deref))
    (core_fits core (note_bytes core key c.requires.may.named may) 1 c.requires.may.works may.room.whole may.room.blocks (length-note core key c.requires.may.named may))

-- the core stands behind its note then
grown : (g : Over) (c : goal.After-remove_note g) → take c.write_record-bytes.result c.deref.result.now ≡ note_bytes c.args.self.now c.args.key.now c.requires.may.named c.requires.may.may → Told (g.B.Bay.state c.args.self.now.bay).contents (g.B.Bay.state c.append_firm.new.bay).contents (Grows (array_in c.args.self.now) (g.B.Bay.state c.args.self.now.bay).shape c.args.self.now.zone c.behind-self.result (c.args.self.now.next_stamp + 1) c.remove_note.new.self (λ m. finmap.remove m c.args.key.now) (note_bytes c.args.self.now c.args.key.now c.requires.may.named c.requires.may.may))
grown g c bytes =
    let core = c.args.self.now in
    let done = ok_of c.append_firm.result (sym c.is_err.ensures.value ∙ c.if-is_err.false) in
    let calls = subst (Appends _ (g.B.Bay.state core.bay) (g.B.Bay.state c.append_firm.new.bay)) done.1 c.append_firm.ensures in
    grown_delete core c.args.key.now c.requires.may.named c.requires.may.may c.requires.may.works (g.B.Bay.state c.append_firm.new.bay).contents c.behind-self.result c.remove_note.new.self
    (calls.done ∙ ap (λ (l : List ℕ). option_map (appended 0 2 l) (g.B.Bay.state core.bay).contents) bytes) c.behind-self.ensures c.remove_note.ensures.notes c.remove_note.ensures.parts

pub invariant_of-self : goal.invariant_of-self
invariant_of-self g c =
    let core = c.args.self.now in
    let now = g.B.Bay.state c.append_firm.new.bay in
    let failed = err_of c.append_firm.result (sym c.is_err.ensures.value ∙ c.if-is_err.true) in
    record {
      limits = core.limits;
      of_bay = same_bay core now c.append_firm.ensures.toward.goes_on.same_shape;
      one_source = core.one_source;
      one_parity = core.one_parity;
      id = core.id;
      of_set = core.of_set;
      within = core.within;
      few = core.few;
      stamp_from = omega arith;
      stamp_to = omega (arith, c.requires.may.may.stamp);
      room = buffer_written core c.write_record-bytes.new.out (c.write_record-bytes.auto.out ∙ c.deref_mut.ensures.len);
      sound = ∥∥₁_map core.sound (λ was. sound_later core.geometry.blocks core.geometry.shard core.next_stamp (core.next_stamp + 1) core.index (omega arith) was);
      told = ∥∥₁_map core.told (λ was. failed_holds core failed.0 _ now (subst (Appends _ (g.B.Bay.state core.bay) now) failed.1 c.append_firm.ensures) was);
      full = ∥∥₁_map core.full (λ was. if_all now.contents _ (λ held works. absurd (let no : true ≡ false = works in cc)));
    }

pub returns-then-is_err : goal.returns-then-is_err
returns-then-is_err g c =
    let core = c.args.self.now in
    let key = c.args.key.now in
    let may = c.requires.may.may in
    let failed = err_of c.append_firm.result (sym c.is_err.ensures.value ∙ c.if-is_err.true) in
    let calls = subst (Appends _ (g.B.Bay.state core.bay) (g.B.Bay.state c.append_firm.new.bay)) failed.1 c.append_firm.ensures in
    steps_as core _ (Delete key) (Refused (TooFewFragments core.zone.set 2)) c.refused.result (c.refused.ensures ∙ ap (λ (w : Refusal). Refused w) c.lost_refusal.ensures)
    (steps_failed failed.0 _ core _ (Delete key) core.zone.set 2 refl refl refl c.requires.may.works refl calls
    (c.requires.may.named, c.requires.may.there, (may_still (case_of core core) note_load true may, record { lost = refl; set = refl; fragments = refl })) (λ is. is))

pub invariant_of-self-2 : goal.invariant_of-self-2
invariant_of-self-2 g c =
    let core = c.args.self.now in
    let key = c.args.key.now in
    let may = c.requires.may.may in
    let at = goal.at.invariant_of-self-2 g c in
    let now = g.B.Bay.state c.append_firm.new.bay in
    let stands = grown g at.After-remove_note (bytes_are g at.After-deref) in
    let zone = c.behind-self.ensures in
    record {
      limits = core.limits;
      of_bay = same_bay core now c.append_firm.ensures.toward.goes_on.same_shape;
      one_source = core.one_source;
      one_parity = core.one_parity;
      id = core.id;
      of_set = set_behind core c.behind-self.result note_load zone;
      within = omega (arith, ap (λ (z : OpenZone). z.blocks) zone, may.room.blocks);
      few = omega (arith, ap (λ (z : OpenZone). z.blocks) zone, ap (λ (z : OpenZone). z.records) zone, core.few);
      stamp_from = omega arith;
      stamp_to = omega (arith, may.stamp);
      room = buffer_written core c.write_record-bytes.new.out (c.write_record-bytes.auto.out ∙ c.deref_mut.ensures.len);
      sound = ∥∥₁_map core.sound (λ was. sound_with_note core.geometry.blocks core.geometry.shard (core.next_stamp + 1) core.index c.remove_note.new.self key None c.requires.may.named tt c.remove_note.ensures.notes c.remove_note.ensures.parts
          (sound_later core.geometry.blocks core.geometry.shard core.next_stamp (core.next_stamp + 1) core.index (omega arith) was));
      told = ∥∥₁_map core.told (λ was. grown_holds core c.behind-self.result (core.next_stamp + 1) c.remove_note.new.self _ _ now c.append_firm.ensures.toward.goes_on.same_shape stands);
      full = ∥∥₁_map core.full (λ was. grown_full core c.behind-self.result (core.next_stamp + 1) c.remove_note.new.self _ _ now stands);
    }

pub returns : goal.returns
returns g c =
    let core = c.args.self.now in
    let key = c.args.key.now in
    let may = c.requires.may.may in
    let at = goal.at.returns g c in
    let done = ok_of c.append_firm.result (sym c.is_err.ensures.value ∙ c.if-is_err.false) in
    let calls = appends_same _ _ (g.B.Bay.state core.bay) (g.B.Bay.state c.append_firm.new.bay) _ _ (bytes_are g at.After-deref) done.1 c.append_firm.ensures in
    steps_done done.0 (note_bytes core key c.requires.may.named may) core _ (Delete key) (λ m. finmap.remove m key) (g.met.B.Bay.sound core.bay) refl
    (known_removed core.index c.remove_note.new.self key c.remove_note.ensures.notes c.remove_note.ensures.parts)
    (ap (λ (z : OpenZone). let s : Standing = record { set = z.set; blocks = z.blocks; records = z.records; is_torn = z.is_torn; stamp = core.next_stamp + 1 } in s) c.behind-self.ensures)
    c.requires.may.works c.requires.may.works calls
    (c.requires.may.named, c.requires.may.there, (may_still (case_of core core) note_load core.is_lost may, c.requires.may.works)) (λ is. is) (grown g at.After-remove_note (bytes_are g at.After-deref))
    (deletes (known_in core) key c.requires.may.named c.requires.may.there)
