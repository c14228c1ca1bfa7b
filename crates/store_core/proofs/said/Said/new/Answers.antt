use Rattle.std.proofs.Common.{ℕ, List, map, ap, ◌∙◌, Vec, Global}
use Rattle.std.specs.Ordering.{nat_cmp}
use Rattle.std.specs.Cmp.Lexicographic.{slice_cmp}
use Rattle.std.specs.FinMap as finmap
use Rattle.std.specs.FinMap.{get-empty}
use Rattle.store_core.proofs.SoundLaws.{sound_empty}
use Rattle.store_core.proofs.said.Said.new.Goals as goal

pub returns-clause-said : goal.returns-clause-said
returns-clause-said c = record {
  says = record {
    notes = λ name. ap (λ n. finmap.get n name) c.new.ensures.notes ∙ get-empty _ name;
    parts = λ upload number. ap (λ p. finmap.get p (upload, number)) c.new.ensures.parts ∙ get-empty _ (upload, number);
  };
  stamps = λ name. ap (λ (es : List (Vec ℕ Global × ℕ)). finmap.get {R = slice_cmp nat_cmp} (finmap.from_entries (map (λ e. (e.0.items, e.1)) es)) name) c.new-2.ensures.empty ∙ get-empty _ name;
}

pub returns-clause-sound : goal.returns-clause-sound
returns-clause-sound c blocks shard stamp = sound_empty blocks shard stamp c.new.result c.new.ensures.notes c.new.ensures.parts
