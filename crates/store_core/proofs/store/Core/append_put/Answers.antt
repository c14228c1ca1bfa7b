use Rattle.std.proofs.Common.{◌≡◌, ℕ, ◌+◌, ◌*◌, ◌<◌, ◌≤◌, true, false, List, length, take, IfSome, refl, sym, ap, subst, ◌∙◌, arith}
use Rattle.std.specs.Prelude.{IsSome, option_map}
use Rattle.std.specs.FinMap as finmap
use mathlib.Core.Logic.{∥∥₁_map}
use Rattle.smore_base.specs.Told.{Told}
use Rattle.smore_base.specs.Objects.{Whole}
use Rattle.zone_bay.specs.Contents.{appended}
use Rattle.object_machine.specs.declared.op.Op.TheVariants.{Put}
use Rattle.object_machine.specs.declared.reply.Refusal.{Refusal}
use Rattle.object_machine.specs.declared.reply.Refusal.TheVariants.{Memory, TooFewFragments}
use Rattle.object_machine.specs.declared.reply.Reply.TheVariants.{Refused}
use Rattle.store_core.specs.declared.records.RecordPlace.{RecordPlace}
use Rattle.store_core.specs.declared.index.Part.{Part}
use Rattle.store_core.specs.declared.zone.OpenZone.{OpenZone}
use Rattle.store_core.specs.declared.extent.Extent.TheVariants.{Sized}
use Rattle.store_core.specs.DeviceCalls.{Appends}
use Rattle.store_core.specs.Index.{notes_in, parts_in, note_of, with_note}
use Rattle.store_core.specs.Sound.{IsSoundPart}
use Rattle.store_core.specs.OpenZone.{behind}
use Rattle.store_core.specs.Records.{put_bytes}
use Rattle.store_core.specs.Store.{Standing, put_load}
use Rattle.store_core.specs.Core.{array_in, known_in, place_of, case_of}
use Rattle.store_core.proofs.SoundLaws.{sound_later, sound_same}
use Rattle.store_core.proofs.StoreMoves.{may_still}
use Rattle.store_core.proofs.CoreSteps.{if_all, if_some, core_sound, steps_as, steps_refused}
use Rattle.store_core.proofs.CoreAppends.{Grows, held_index, known_same, front_of, core_fits, core_buffer, failed_holds, grown_holds, grown_full, same_bay, buffer_written, set_behind, err_of, ok_of, appends_same, steps_failed, steps_done}
use Rattle.store_core.proofs.PutKnown.{fresh_part, known_put, taken_back_notes, taken_back_parts, put_there, sound_put}
use Rattle.store_core.proofs.Puts.{puts, load_fits, load_few, part_fits, records_written, length-records, few_bytes, grown_put}
use Rattle.store_core.proofs.store.Core.append_put.Given.{Over}
use Rattle.store_core.proofs.store.Core.append_put.Goals as goal
use Rattle.store_core.proofs.store.Core.append_put.Goals.{After-deref, After-behind-self, After-take_back}

-- ---- want of memory

pub add_put-requires : goal.add_put-requires
add_put-requires g c = let core = c.args.self.now in record { fresh = fresh_part core.geometry.blocks core.geometry.shard core.next_stamp core.index 0 (core_sound core) }

pub invariant_of-self : goal.invariant_of-self
invariant_of-self g c =
    let core = c.args.self.now in
    let kept = c.in_default.ensures in
    record {
      limits = core.limits;
      of_bay = core.of_bay;
      one_source = core.one_source;
      one_parity = core.one_parity;
      id = core.id;
      of_set = core.of_set;
      within = core.within;
      few = core.few;
      stamp_from = core.stamp_from;
      stamp_to = core.stamp_to;
      room = core.room;
      sound = ∥∥₁_map core.sound (λ was. sound_same core.geometry.blocks core.geometry.shard core.next_stamp core.index c.add_put.new.self kept.kept_notes kept.kept_parts was);
      told = ∥∥₁_map core.told (λ was. if_some (g.B.Bay.state core.bay).contents _ _ (λ held it. held_index (array_in core) core.zone core.next_stamp core.index c.add_put.new.self (g.B.Bay.state core.bay).shape held kept.kept_notes kept.kept_parts it) was);
      full = core.full;
    }

pub returns-in_default : goal.returns-in_default
returns-in_default g c =
    let core = c.args.self.now in
    let kept = c.in_default.ensures in
    let may = c.requires.may in
    steps_refused core _ (refl, refl, known_same core.index c.add_put.new.self kept.kept_notes kept.kept_parts, refl, refl) (Put c.args.key.now c.args.object.now) Memory _ c.refused.ensures (may.named, may.small, (may.may, may.works))

-- ---- the append

-- the records of the put, by its own place and name
put_written : (bytes : List ℕ) (place place' : RecordPlace) (stamp : ℕ) (given name object : List ℕ) → bytes ≡ put_bytes place stamp given object → place ≡ place' → given ≡ name → bytes ≡ put_bytes place' stamp name object
put_written bytes place place' stamp given name object is at same =
    is ∙ ap (λ (p : RecordPlace). put_bytes p stamp given object) at ∙ ap (λ (n : List ℕ). put_bytes place' stamp n object) same

-- the bytes that are appended are those of the put's records
bytes_are : (g : Over) (c : goal.After-deref g) → take c.write_put-bytes.result c.deref.result.now ≡ records_written c.args.self.now c.args.key.now c.args.object.now.bytes c.requires.may
bytes_are g c =
    let core = c.args.self.now in
    let n = c.write_put-bytes.result in
    let fits = load_fits (length c.args.object.now.bytes) core.geometry.shard c.requires.may.small in
    let within : n ≤ core.buffer.len = omega (arith, c.write_put-bytes.ensures.end, core_buffer core, fits) in
    let written = put_written _ c.place-place.result (place_of core) core.next_stamp c.args.name c.args.key.now c.args.object.now.bytes c.write_put-bytes.ensures.written c.place-place.ensures c.requires.name in
    front_of n core.buffer.len c.write_put-bytes.new.out _ _ _ c.deref.ensures.value within (omega (arith, within, c.write_put-bytes.ensures.room, c.deref_mut.ensures.len)) written

pub append_firm-requires-clause-fits : goal.append_firm-requires-clause-fits
append_firm-requires-clause-fits g c =
    let core = c.args.self.now in
    let may = c.requires.may in
    let object = c.args.object.now.bytes in
    subst (λ (l : List ℕ). IfSome (g.B.Bay.state core.bay).contents (λ held. length (held 0 2) + length l ≤ 512 * (g.B.Bay.state core.bay).shape.blocks)) (sym (bytes_are g (goal.at.append_firm-requires-clause-fits g c).After-deref))
    (core_fits core (records_written core c.args.key.now object may) (put_load (length object)).blocks may.works may.may.room.whole may.may.room.blocks (length-records core c.args.key.now object may))

-- ---- where it failed

pub take_back-requires : goal.take_back-requires
take_back-requires g c = subst (λ n. IsSome (finmap.get n c.args.key.now)) (sym c.in-Ok.ensures.notes) (put_there (notes_in c.args.self.now.index) c.args.key.now _)

same_notes : (g : Over) (c : goal.After-take_back g) → notes_in c.take_back.new.self ≡ notes_in c.args.self.now.index
same_notes g c =
    c.take_back.ensures.notes ∙ ap (with_note c.args.key.now c.in-Ok.old) c.in-Ok.ensures.notes
    ∙ taken_back_notes (notes_in c.args.self.now.index) c.args.key.now _ c.in-Ok.old c.in-Ok.ensures.old

same_parts : (g : Over) (c : goal.After-take_back g) → parts_in c.take_back.new.self ≡ parts_in c.args.self.now.index
same_parts g c =
    let core = c.args.self.now in
    c.take_back.ensures.parts ∙ ap (λ p. finmap.remove p (core.next_stamp, 0)) c.in-Ok.ensures.parts
    ∙ taken_back_parts (parts_in core.index) core.next_stamp _ (fresh_part core.geometry.blocks core.geometry.shard core.next_stamp core.index 0 (core_sound core))

pub invariant_of-self-then-is_err : goal.invariant_of-self-then-is_err
invariant_of-self-then-is_err g c =
    let core = c.args.self.now in
    let at = (goal.at.invariant_of-self-then-is_err g c).After-take_back in
    let now = g.B.Bay.state c.append_firm.new.bay in
    let failed = err_of c.append_firm.result (sym c.is_err.ensures.value ∙ c.if-is_err.true) in
    record {
      limits = core.limits;
      of_bay = same_bay core now c.append_firm.ensures.toward.goes_on.same_shape;
      one_source = core.one_source;
      one_parity = core.one_parity;
      id = core.id;
      of_set = core.of_set;
      within = core.within;
      few = core.few;
      stamp_from = omega arith;
      stamp_to = omega (arith, c.requires.may.may.stamp);
      room = buffer_written core c.write_put-bytes.new.out (c.write_put-bytes.ensures.room ∙ c.deref_mut.ensures.len);
      sound = ∥∥₁_map core.sound (λ was. sound_same core.geometry.blocks core.geometry.shard (core.next_stamp + 1) core.index c.take_back.new.self (same_notes g at) (same_parts g at) (sound_later core.geometry.blocks core.geometry.shard core.next_stamp (core.next_stamp + 1) core.index (omega arith) was));
      told = ∥∥₁_map core.told (λ was. if_some now.contents _ _ (λ held it. held_index (array_in core) core.zone (core.next_stamp + 1) core.index c.take_back.new.self now.shape held (same_notes g at) (same_parts g at) it)
          (failed_holds core failed.0 _ now (subst (Appends _ (g.B.Bay.state core.bay) now) failed.1 c.append_firm.ensures) was));
      full = ∥∥₁_map core.full (λ was. if_all now.contents _ (λ held works. absurd (let no : true ≡ false = works in cc)));
    }

pub returns-then-is_err : goal.returns-then-is_err
returns-then-is_err g c =
    let core = c.args.self.now in
    let op = Put c.args.key.now c.args.object.now in
    let may = c.requires.may in
    let at = (goal.at.returns-then-is_err g c).After-take_back in
    let failed = err_of c.append_firm.result (sym c.is_err.ensures.value ∙ c.if-is_err.true) in
    let calls = subst (Appends _ (g.B.Bay.state core.bay) (g.B.Bay.state c.append_firm.new.bay)) failed.1 c.append_firm.ensures in
    steps_as core _ op (Refused (TooFewFragments core.zone.set 2)) c.refused-then-is_err.result (c.refused-then-is_err.ensures ∙ ap (λ (w : Refusal). Refused w) c.lost_refusal.ensures)
    (steps_failed failed.0 _ core _ op core.zone.set 2 refl (known_same core.index c.take_back.new.self (same_notes g at) (same_parts g at)) refl may.works refl calls
    (may.named, may.small, (may_still (case_of core core) (put_load (length c.args.object.now.bytes)) true may.may, record { lost = refl; set = refl; fragments = refl })) (λ is. is))

-- ---- where it was answered

noted : (g : Over) (c : goal.After-behind-self g) → notes_in c.add_put.new.self ≡ finmap.insert (notes_in c.args.self.now.index) c.args.key.now (note_of c.args.self.now.next_stamp (length c.args.object.now.bytes))
noted g c = c.in-Ok.ensures.notes ∙ ap (λ n. finmap.insert (notes_in c.args.self.now.index) c.args.key.now (note_of c.args.self.now.next_stamp n)) c.len.ensures

-- the core stands behind its records then
grown : (g : Over) (c : goal.After-behind-self g) → take c.write_put-bytes.result c.deref.result.now ≡ records_written c.args.self.now c.args.key.now c.args.object.now.bytes c.requires.may
    → Told (g.B.Bay.state c.args.self.now.bay).contents (g.B.Bay.state c.append_firm.new.bay).contents (Grows (array_in c.args.self.now) (g.B.Bay.state c.args.self.now.bay).shape c.args.self.now.zone c.behind-self.result (c.args.self.now.next_stamp + 1) c.add_put.new.self (λ m. finmap.insert m c.args.key.now (Whole c.args.object.now.bytes)) (records_written c.args.self.now c.args.key.now c.args.object.now.bytes c.requires.may))
grown g c bytes =
    let core = c.args.self.now in
    let done = ok_of c.append_firm.result (sym c.is_err.ensures.value ∙ c.if-is_err.false) in
    let calls = subst (Appends _ (g.B.Bay.state core.bay) (g.B.Bay.state c.append_firm.new.bay)) done.1 c.append_firm.ensures in
    let part : Part = record { block = core.zone.blocks; bytes = c.len.result } in
    grown_put core c.args.key.now c.args.object.now.bytes c.requires.may (g.B.Bay.state c.append_firm.new.bay).contents c.behind-self.result c.add_put.new.self part
    (calls.done ∙ ap (λ (l : List ℕ). option_map (appended 0 2 l) (g.B.Bay.state core.bay).contents) bytes)
    (c.behind-self.ensures ∙ ap (behind core.zone) c.requires.load) (λ i. record { block = core.zone.blocks; bytes = c.len.ensures i }) (noted g c) c.in-Ok.ensures.parts

pub invariant_of-self-2 : goal.invariant_of-self-2
invariant_of-self-2 g c =
    let core = c.args.self.now in
    let may = c.requires.may in
    let object = c.args.object.now.bytes in
    let part : Part = record { block = core.zone.blocks; bytes = c.len.result } in
    let fits : 0 < part.bytes → IsSoundPart core.geometry.blocks core.geometry.shard (core.next_stamp + 1) core.next_stamp part = λ some. part_fits core c.args.key.now object may part (λ i. record { block = core.zone.blocks; bytes = c.len.ensures i }) some in
    let at = goal.at.invariant_of-self-2 g c in
    let now = g.B.Bay.state c.append_firm.new.bay in
    let stands = grown g at.After-behind-self (bytes_are g at.After-deref) in
    let zone = c.behind-self.ensures ∙ ap (behind core.zone) c.requires.load in
    record {
      limits = core.limits;
      of_bay = same_bay core now c.append_firm.ensures.toward.goes_on.same_shape;
      one_source = core.one_source;
      one_parity = core.one_parity;
      id = core.id;
      of_set = set_behind core c.behind-self.result (put_load (length object)) zone;
      within = omega (arith, ap (λ (z : OpenZone). z.blocks) zone, may.may.room.blocks);
      few = omega (arith, ap (λ (z : OpenZone). z.blocks) zone, ap (λ (z : OpenZone). z.records) zone, load_few (length object), core.few);
      stamp_from = omega arith;
      stamp_to = omega (arith, may.may.stamp);
      room = buffer_written core c.write_put-bytes.new.out (c.write_put-bytes.ensures.room ∙ c.deref_mut.ensures.len);
      sound = ∥∥₁_map core.sound (λ was. sound_put core.geometry.blocks core.geometry.shard core.next_stamp core.index c.add_put.new.self c.args.key.now part may.named fits c.in-Ok.ensures.notes c.in-Ok.ensures.parts was);
      told = ∥∥₁_map core.told (λ was. grown_holds core c.behind-self.result (core.next_stamp + 1) c.add_put.new.self _ _ now c.append_firm.ensures.toward.goes_on.same_shape stands);
      full = ∥∥₁_map core.full (λ was. grown_full core c.behind-self.result (core.next_stamp + 1) c.add_put.new.self _ _ now stands);
    }

pub returns : goal.returns
returns g c =
    let core = c.args.self.now in
    let key = c.args.key.now in
    let object = c.args.object.now in
    let may = c.requires.may in
    let at = goal.at.returns g c in
    let done = ok_of c.append_firm.result (sym c.is_err.ensures.value ∙ c.if-is_err.false) in
    let calls = appends_same _ _ (g.B.Bay.state core.bay) (g.B.Bay.state c.append_firm.new.bay) _ _ (bytes_are g at.After-deref) done.1 c.append_firm.ensures in
    let part : Part = record { block = core.zone.blocks; bytes = c.len.result } in
    let known = known_put core.geometry.blocks core.geometry.shard core.next_stamp core.index c.add_put.new.self key part (core_sound core) c.in-Ok.ensures.notes c.in-Ok.ensures.parts in
    steps_done done.0 (records_written core key object.bytes may) core _ (Put key object) (λ m. finmap.insert m key (Whole object.bytes)) (g.met.B.Bay.sound core.bay) refl
    (known ∙ ap (λ n. finmap.insert (known_in core) key (Sized n)) c.len.ensures)
    (ap (λ (z : OpenZone). let s : Standing = record { set = z.set; blocks = z.blocks; records = z.records; is_torn = z.is_torn; stamp = core.next_stamp + 1 } in s) (c.behind-self.ensures ∙ ap (behind core.zone) c.requires.load))
    may.works may.works calls
    (may.named, may.small, (may_still (case_of core core) (put_load (length object.bytes)) core.is_lost may.may, may.works)) (λ is. is) (grown g at.After-behind-self (bytes_are g at.After-deref))
    (puts (known_in core) key object may.named (omega (arith, few_bytes core key object.bytes may)))
