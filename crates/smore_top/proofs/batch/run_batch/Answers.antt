use Rattle.std.proofs.Common.{inr, refl, sym, subst, ◌∙◌}
use Rattle.std.proofs.lemmas.Bool.{false≢true}
use Rattle.marker_format.specs.Zone.{Array}
use Rattle.smore_top.specs.declared.batch.Outcome.{Outcome}
use Rattle.smore_top.specs.declared.end.End.{End}
use Rattle.smore_top.specs.End.{SourceCount}
use Rattle.smore_top.specs.Words.{IsFormat}
use Rattle.smore_top.specs.Headline.{sides, ran_by, RunsFormat, AcknowledgeEach}
use Rattle.smore_top.specs.Task.{array_of}
use Rattle.smore_top.proofs.Commands.{one_format, nothing_asked, other_shape}
use Rattle.smore_top.proofs.FormatRuns.{bad_words, good_words, ends_as, formats_good, formats_source, runs_format}
use Rattle.smore_top.proofs.Stopping.{acknowledge_each}
use Rattle.smore_top.proofs.batch.run_batch.Goals as goal
use Rattle.smore_top.proofs.batch.run_batch.Goals.{In-Some-Format}

asked : (g : _) (c : In-Some-Format g) → IsFormat (array_of c.in-Some-Format.new) c.args.words.now
asked g c = rw c.in-Some-Format.field-0-is at c.in-Some-Format.ensures

pub returns-in-None-clause-words : goal.returns-in-None-clause-words
returns-in-None-clause-words g c =
    let words = c.args.words.now in
    let shape = (g.B.Bay.state c.args.bay).shape in
    bad_words c.outcome.result c.none.result shape words c.outcome.ensures c.none.ensures.end (nothing_asked shape words c.in-None.ensures)

pub returns-in-None-clause-format : goal.returns-in-None-clause-format
returns-in-None-clause-format g c array is of_bay = absurd (c.in-None.ensures.1 array is)

pub returns-then-not-is_of_bay-clause-words : goal.returns-then-not-is_of_bay-clause-words
returns-then-not-is_of_bay-clause-words g c =
    let words = c.args.words.now in
    let shape = (g.B.Bay.state c.args.bay).shape in
    bad_words c.outcome-then-not-is_of_bay.result c.none-then-not-is_of_bay.result shape words c.outcome-then-not-is_of_bay.ensures c.none-then-not-is_of_bay.ensures.end
    (other_shape shape words (array_of c.in-Some-Format.new) (asked g (goal.at.returns-then-not-is_of_bay-clause-words g c).In-Some-Format) (λ of_bay. false≢true (sym c.if-not-is_of_bay.true ∙ c.is_of_bay.ensures.1 of_bay)))

pub returns-then-not-is_of_bay-clause-format : goal.returns-then-not-is_of_bay-clause-format
returns-then-not-is_of_bay-clause-format g c array is of_bay =
    let words = c.args.words.now in
    let shape = (g.B.Bay.state c.args.bay).shape in
    absurd (other_shape shape words (array_of c.in-Some-Format.new) (asked g (goal.at.returns-then-not-is_of_bay-clause-format g c).In-Some-Format) (λ own. false≢true (sym c.if-not-is_of_bay.true ∙ c.is_of_bay.ensures.1 own)) (inr (array, is, of_bay)))

pub returns-else-not-is_of_bay-clause-words : goal.returns-else-not-is_of_bay-clause-words
returns-else-not-is_of_bay-clause-words g c =
    let words = c.args.words.now in
    let shape = (g.B.Bay.state c.args.bay).shape in
    let left = g.S.Source.left c.args.source.now in
    let before = sides left (g.K.Sink.held c.args.sink.now) c.args.bay in
    let after = sides left (g.K.Sink.held c.make_array-end.new.sink) c.make_array-end.new.bay in
    good_words c.outcome-in-Some-Format.result c.none-in-Some-Format.result c.make_array-end.result shape words c.outcome-in-Some-Format.ensures c.none-in-Some-Format.ensures.end
    (formats_good g.B.Bay.state (array_of c.in-Some-Format.new) c.make_array-end.result before after (c.make_array-end.ensures.formats left))
    (inr (array_of c.in-Some-Format.new, asked g (goal.at.returns-else-not-is_of_bay-clause-words g c).In-Some-Format, c.is_of_bay.ensures.0 c.if-not-is_of_bay.false))

pub returns-else-not-is_of_bay-clause-format : goal.returns-else-not-is_of_bay-clause-format
returns-else-not-is_of_bay-clause-format g c array is of_bay =
    let left = g.S.Source.left c.args.source.now in
    let before = sides left (g.K.Sink.held c.args.sink.now) c.args.bay in
    let after = sides left (g.K.Sink.held c.make_array-end.new.sink) c.make_array-end.new.bay in
    let run = runs_format g.B.Bay.state (array_of c.in-Some-Format.new) c.outcome-in-Some-Format.result c.none-in-Some-Format.result c.make_array-end.result before after
    c.outcome-in-Some-Format.ensures c.none-in-Some-Format.ensures.end c.none-in-Some-Format.ensures.calls c.none-in-Some-Format.ensures.marks (c.make_array-end.ensures.formats left) in
    let same = one_format c.args.words.now (array_of c.in-Some-Format.new) array (asked g (goal.at.returns-else-not-is_of_bay-clause-format g c).In-Some-Format) is in
    (subst (λ (a : Array). RunsFormat g.B.Bay.state a (ran_by c.outcome-in-Some-Format.result) before after) same run, refl)

pub returns-else-not-is_of_bay-clause-source : goal.returns-else-not-is_of_bay-clause-source
returns-else-not-is_of_bay-clause-source g c =
    let left = g.S.Source.left c.args.source.now in
    let before = sides left (g.K.Sink.held c.args.sink.now) c.args.bay in
    let after = sides left (g.K.Sink.held c.make_array-end.new.sink) c.make_array-end.new.bay in
    let faults = g.S.Source.faults c.args.source.now in
    let count = formats_source g.B.Bay.state (array_of c.in-Some-Format.new) c.make_array-end.result before after (c.make_array-end.ensures.formats left) faults in
    subst (λ (end : End). SourceCount end faults faults) (sym (ends_as c.outcome-in-Some-Format.result c.none-in-Some-Format.result c.make_array-end.result c.outcome-in-Some-Format.ensures c.none-in-Some-Format.ensures.end)) count

pub returns-in-Some-Batch-clause-acknowledged : goal.returns-in-Some-Batch-clause-acknowledged
returns-in-Some-Batch-clause-acknowledged g c = subst (λ (o : Outcome). AcknowledgeEach o.marks.items) (sym c.outcome-in-Some-Batch.ensures) (acknowledge_each _ c.answer_batch-run.ensures.rising)
