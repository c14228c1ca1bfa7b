use Rattle.std.proofs.Common.{sym, subst}
use Rattle.smore_base.specs.Name.{IsName}
use Rattle.store_core.specs.Sound.{IsSoundIndex}
use Rattle.store_core.proofs.SoundLaws.{sound_same, sound_with_note}
use Rattle.store_core.proofs.said.Said.add_note.Goals as goal

pub returns-in_err-change_note-clause-sound : goal.returns-in_err-change_note-clause-sound
returns-in_err-change_note-clause-sound c blocks shard stamp below was =
    sound_same blocks shard stamp c.args.self.now.index c.change_note.new.self c.in_err-change_note.ensures.kept c.change_note.ensures.parts was

pub returns-clause-sound : goal.returns-clause-sound
returns-clause-sound c blocks shard stamp below was =
    let named = subst IsName (sym c.as_slice-name.ensures.same) c.as_slice-name.ensures.name in
    let changed = sound_with_note blocks shard stamp c.args.self.now.index c.change_note.new.self c.as_slice-name.result.now c.args.note named below c.in_ok-change_note.ensures.notes c.change_note.ensures.parts was in
    subst (IsSoundIndex blocks shard stamp) (sym c.set_stamp.ensures.index) changed
