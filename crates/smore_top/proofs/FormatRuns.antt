-- Runs of `format`, and what an outcome tells of a run.
use Rattle.std.proofs.Common.{◌≡◌, ℕ, List, [], ap, sym, subst, ◌∙◌, refl, ◌↔◌}
use Rattle.zone_bay.specs.Bay.{BayState}
use Rattle.zone_bay.specs.Contents.{Shape}
use Rattle.marker_format.specs.Zone.{Array}
use Rattle.smore_top.specs.declared.end.End.{End}
use Rattle.smore_top.specs.declared.end.End.TheVariants.{Done, NoMemory, BadWords, SourceFailed, SinkFailed, BadFrame, NotOpened, NotFormatted}
use Rattle.smore_top.specs.declared.batch.Run.{Run}
use Rattle.smore_top.specs.declared.batch.Outcome.{Outcome}
use Rattle.smore_top.specs.End.{status_of, end_of, SourceCount}
use Rattle.smore_top.specs.Words.{IsCommandLine}
use Rattle.smore_top.specs.Headline.{Sides, FormatsBy, RunsFormat, ran_by}
use Rattle.smore_top.proofs.EndLaws.{end_of-status_of}

-- ---- what an outcome tells

-- the outcome of a run
abbrev pub outcome_of : Run → Outcome
outcome_of run = record { status = status_of run.end; calls = run.calls; at = 0; marks = run.marks }

pub ends_as : (o : Outcome) (run : Run) (end : End) → o ≡ outcome_of run → run.end ≡ end → end_of o.status ≡ end
ends_as o run end is same = ap (λ (o : Outcome). end_of o.status) is ∙ end_of-status_of run.end ∙ same

pub bad_words : (o : Outcome) (run : Run) (shape : Shape) (words : List (List ℕ)) → o ≡ outcome_of run → run.end ≡ BadWords → (IsCommandLine shape words → ⊥)
    → (end_of o.status ≡ BadWords) ↔ (IsCommandLine shape words → ⊥)
bad_words o run shape words is end none = (λ bad. none, λ n. ends_as o run BadWords is end)

pub good_words : (o : Outcome) (run : Run) (end : End) (shape : Shape) (words : List (List ℕ)) → o ≡ outcome_of run → run.end ≡ end → (end ≡ BadWords → ⊥) → IsCommandLine shape words
    → (end_of o.status ≡ BadWords) ↔ (IsCommandLine shape words → ⊥)
good_words o run end shape words is same good line = (λ bad. absurd (good (sym (ends_as o run end is same) ∙ bad)), λ none. absurd (none line))

-- ---- runs of `format`

module _ {B : Type 0} (state : B → BayState) (array : Array) where
  pub formats_good : (end : End) (before after : Sides B) → FormatsBy state array end before after → end ≡ BadWords → ⊥
  formats_good end before after by bad = subst (λ (e : End). FormatsBy state array e before after) bad by

  -- the source isn't asked
  pub formats_source : (end : End) (before after : Sides B) → FormatsBy state array end before after → (faults : ℕ) → SourceCount end faults faults
  formats_source Done before after by faults = refl
  formats_source NoMemory before after by faults = absurd by
  formats_source BadWords before after by faults = absurd by
  formats_source SourceFailed before after by faults = absurd by
  formats_source SinkFailed before after by faults = refl
  formats_source BadFrame before after by faults = absurd by
  formats_source NotOpened before after by faults = absurd by
  formats_source NotFormatted before after by faults = refl

  pub runs_format : (o : Outcome) (run : Run) (end : End) (before after : Sides B) → o ≡ outcome_of run → run.end ≡ end → run.calls ≡ 0 → run.marks.items ≡ [] → FormatsBy state array end before after
      → RunsFormat state array (ran_by o) before after
  runs_format o run end before after is same calls marks by = record {
    by = subst (λ (e : End). FormatsBy state array e before after) (sym (ends_as o run end is same)) by;
    calls = ap (λ (o : Outcome). o.calls) is ∙ calls;
    marks = ap (λ (o : Outcome). o.marks.items) is ∙ marks;
  }
