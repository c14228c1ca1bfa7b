use Rattle.std.proofs.Common.{ℕ, ◌+◌, ◌*◌, ap, sym, subst, ◌∙◌, arith}
use Rattle.set_table.specs.Table.{Table}
use Rattle.set_reader.specs.Calls.{losses}
use Rattle.set_reader.specs.Record.{TellsLengths, AreLengths}
use Rattle.set_reader.proofs.Told.{told_at, told_from, none_at}
use Rattle.set_reader.proofs.CallLaws.{calls_more}
use Rattle.set_reader.proofs.RoundLaws.{one_round, last_round, last_attempt, still_stands}
use Rattle.set_reader.proofs.lengths.read_lengths.Goals as goal

pub try_lengths-requires-clause-stands : goal.try_lengths-requires-clause-stands
try_lengths-requires-clause-stands g c =
    let old = g.B.Bay.state c.args.bay.now in
    let mid = g.B.Bay.state c.loop-lengths.bay in
    let place = c.args.place.now in
    let reads = c.loop-lengths.invariant.reads in
    told_from mid.contents _ (λ held is.
    let stands = told_at old.contents _ held (sym reads.bay.contents ∙ is) c.requires.stands in
    (stands.0, still_stands c.args.table.now c.loop-lengths.table old mid place.set place.block stands.0 held reads stands.1))

pub returns-in_err-lengths-clause-few : goal.returns-in_err-lengths-clause-few
returns-in_err-lengths-clause-few g c =
    let n = losses c.args.table.now c.try_lengths.new.table in
    calls_more (1 * (1 + n)) (1 + n) (g.B.Bay.state c.args.bay.now) (g.B.Bay.state c.try_lengths.new.bay) (omega arith)
    (last_round 1 c.args.table.now c.loop-lengths.table c.try_lengths.new.table (g.B.Bay.state c.args.bay.now) (g.B.Bay.state c.loop-lengths.bay) (g.B.Bay.state c.try_lengths.new.bay) c.loop-lengths.invariant c.in_err-lengths.ensures.reads c.in_err-lengths.ensures.once)

pub returns-in-Some-clause-lengths : goal.returns-in-Some-clause-lengths
returns-in-Some-clause-lengths g c =
    let old = g.B.Bay.state c.args.bay.now in
    let mid = g.B.Bay.state c.loop-lengths.bay in
    let place = c.args.place.now in
    let reads = c.loop-lengths.invariant.reads in
    told_from old.contents _ (λ held is m stands.
    let told = told_at mid.contents _ held (reads.bay.contents ∙ is) c.in_ok-lengths.ensures.lengths in
    subst (λ (k : ℕ). AreLengths k c.in-Some.lengths m) (ap (λ (x : Table). x.geometry.k) reads.table)
    (told_at c.in_ok-lengths.field-0 (TellsLengths c.loop-lengths.table place held) c.in-Some.lengths c.in-Some.is told m (still_stands c.args.table.now c.loop-lengths.table old mid place.set place.block m held reads stands)))

pub returns-in-Some-clause-few : goal.returns-in-Some-clause-few
returns-in-Some-clause-few g c =
    let n = losses c.args.table.now c.try_lengths.new.table in
    calls_more (1 * (1 + n)) (1 + n) (g.B.Bay.state c.args.bay.now) (g.B.Bay.state c.try_lengths.new.bay) (omega arith)
    (last_round 1 c.args.table.now c.loop-lengths.table c.try_lengths.new.table (g.B.Bay.state c.args.bay.now) (g.B.Bay.state c.loop-lengths.bay) (g.B.Bay.state c.try_lengths.new.bay) c.loop-lengths.invariant c.in_ok-lengths.ensures.reads c.in_ok-lengths.ensures.once)

pub returns-in_err-lengths-clause-attempts : goal.returns-in_err-lengths-clause-attempts
returns-in_err-lengths-clause-attempts g c =
    last_attempt 1 c.args.table.now c.loop-lengths.table c.try_lengths.new.table (g.B.Bay.state c.args.bay.now) (g.B.Bay.state c.loop-lengths.bay) (g.B.Bay.state c.try_lengths.new.bay) c.loop-lengths.invariant c.in_err-lengths.ensures.reads c.in_err-lengths.ensures.given_up

pub returns-in-Some-clause-attempts : goal.returns-in-Some-clause-attempts
returns-in-Some-clause-attempts g c =
    last_attempt 1 c.args.table.now c.loop-lengths.table c.try_lengths.new.table (g.B.Bay.state c.args.bay.now) (g.B.Bay.state c.loop-lengths.bay) (g.B.Bay.state c.try_lengths.new.bay) c.loop-lengths.invariant c.in_ok-lengths.ensures.reads
    (told_at c.in_ok-lengths.field-0 _ c.in-Some.lengths c.in-Some.is c.in_ok-lengths.ensures.answered)

pub loop-lengths-preserved : goal.loop-lengths-preserved
loop-lengths-preserved g c =
    one_round 1 c.args.table.now c.loop-lengths.table c.try_lengths.new.table (g.B.Bay.state c.args.bay.now) (g.B.Bay.state c.loop-lengths.bay) (g.B.Bay.state c.try_lengths.new.bay) c.loop-lengths.invariant c.in_ok-lengths.ensures.reads
    (none_at c.in_ok-lengths.field-0 _ c.in_default.is c.in_ok-lengths.ensures.lost) c.in_ok-lengths.ensures.once (none_at c.in_ok-lengths.field-0 _ c.in_default.is c.in_ok-lengths.ensures.failed)
