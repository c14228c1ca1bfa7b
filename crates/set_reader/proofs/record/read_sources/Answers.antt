use Rattle.std.proofs.Common.{ℕ, ap, sym, subst, ◌∙◌}
use Rattle.set_table.specs.Table.{Table}
use Rattle.set_table.specs.Points.{point_at}
use Rattle.set_reader.specs.Attempts.{Answered, Failed}
use Rattle.set_reader.specs.Calls.{CallsAtMost}
use Rattle.set_reader.proofs.Told.{told_at, told_from}
use Rattle.set_reader.proofs.RoundLaws.{one_round, last_round, last_attempt, still_stands}
use Rattle.set_reader.proofs.record.read_sources.Goals as goal

pub try_sources-requires-clause-stands : goal.try_sources-requires-clause-stands
try_sources-requires-clause-stands g c =
    let old = g.B.Bay.state c.args.bay.now in
    let mid = g.B.Bay.state c.loop.bay in
    let place = c.args.place.now in
    let reads = c.loop.invariant.0.reads in
    told_from mid.contents _ (λ held is.
    let stands = told_at old.contents _ held (sym reads.bay.contents ∙ is) c.requires.stands in
    (stands.0, still_stands c.args.table.now c.loop.table old mid place.set place.block stands.0 held reads stands.1, stands.2))

pub returns-in_err-try_sources-clause-few : goal.returns-in_err-try_sources-clause-few
returns-in_err-try_sources-clause-few g c =
    let t = c.args.table.now in
    let mid = g.B.Bay.state c.loop.bay in
    let new = g.B.Bay.state c.try_sources.new.bay in
    let same = ap (λ (x : Table). x.geometry.k) c.loop.invariant.0.reads.table in
    last_round t.geometry.k t c.loop.table c.try_sources.new.table (g.B.Bay.state c.args.bay.now) mid new c.loop.invariant.0 c.in_err-try_sources.ensures.reads
    (subst (λ (n : ℕ). CallsAtMost n mid new) same c.in_err-try_sources.ensures.few)

pub returns-then-branch-clause-sources : goal.returns-then-branch-clause-sources
returns-then-branch-clause-sources g c =
    let old = g.B.Bay.state c.args.bay.now in
    let mid = g.B.Bay.state c.loop.bay in
    let place = c.args.place.now in
    let reads = c.loop.invariant.0.reads in
    told_from old.contents _ (λ held is m stands long.
    told_at mid.contents _ held (reads.bay.contents ∙ is) c.in_ok-try_sources.ensures.sources c.if-branch.true m (still_stands c.args.table.now c.loop.table old mid place.set place.block m held reads stands) long)

pub returns-then-branch-clause-few : goal.returns-then-branch-clause-few
returns-then-branch-clause-few g c =
    let t = c.args.table.now in
    let mid = g.B.Bay.state c.loop.bay in
    let new = g.B.Bay.state c.try_sources.new.bay in
    let same = ap (λ (x : Table). x.geometry.k) c.loop.invariant.0.reads.table in
    last_round t.geometry.k t c.loop.table c.try_sources.new.table (g.B.Bay.state c.args.bay.now) mid new c.loop.invariant.0 c.in_ok-try_sources.ensures.reads
    (subst (λ (n : ℕ). CallsAtMost n mid new) same c.in_ok-try_sources.ensures.few)

pub returns-in_err-try_sources-clause-attempts : goal.returns-in_err-try_sources-clause-attempts
returns-in_err-try_sources-clause-attempts g c =
    let t = c.args.table.now in
    let now = c.loop.table in
    let next = c.try_sources.new.table in
    let mid = g.B.Bay.state c.loop.bay in
    let new = g.B.Bay.state c.try_sources.new.bay in
    let same = ap (λ (x : Table). x.geometry.k) c.loop.invariant.0.reads.table in
    last_attempt t.geometry.k t now next (g.B.Bay.state c.args.bay.now) mid new c.loop.invariant.0 c.in_err-try_sources.ensures.reads
    (subst (λ (n : ℕ). Answered n (point_at now mid) (point_at next new)) same c.in_err-try_sources.ensures.given_up)

pub returns-then-branch-clause-attempts : goal.returns-then-branch-clause-attempts
returns-then-branch-clause-attempts g c =
    let t = c.args.table.now in
    let now = c.loop.table in
    let next = c.try_sources.new.table in
    let mid = g.B.Bay.state c.loop.bay in
    let new = g.B.Bay.state c.try_sources.new.bay in
    let same = ap (λ (x : Table). x.geometry.k) c.loop.invariant.0.reads.table in
    last_attempt t.geometry.k t now next (g.B.Bay.state c.args.bay.now) mid new c.loop.invariant.0 c.in_ok-try_sources.ensures.reads
    (subst (λ (n : ℕ). Answered n (point_at now mid) (point_at next new)) same (c.in_ok-try_sources.ensures.answered c.if-branch.true))

pub loop-preserved : goal.loop-preserved
loop-preserved g c =
    let t = c.args.table.now in
    let now = c.loop.table in
    let next = c.try_sources.new.table in
    let mid = g.B.Bay.state c.loop.bay in
    let new = g.B.Bay.state c.try_sources.new.bay in
    let same = ap (λ (x : Table). x.geometry.k) c.loop.invariant.0.reads.table in (
      one_round t.geometry.k t now next (g.B.Bay.state c.args.bay.now) mid new c.loop.invariant.0 c.in_ok-try_sources.ensures.reads (c.in_ok-try_sources.ensures.lost c.if-branch.false)
          (subst (λ (n : ℕ). CallsAtMost n mid new) same c.in_ok-try_sources.ensures.few)
          (subst (λ (n : ℕ). Failed n new.failed (point_at now mid) (point_at next new)) same (c.in_ok-try_sources.ensures.failed c.if-branch.false)),
      c.in_ok-try_sources.ensures.kept ∙ c.loop.invariant.1,
      c.in_ok-try_sources.ensures.from,
    )
