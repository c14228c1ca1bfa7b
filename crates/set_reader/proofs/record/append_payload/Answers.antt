use Rattle.std.proofs.Common.{◌≡◌, ℕ, take, ap, sym, subst, ◌∙◌, arith}
use Rattle.std.proofs.lemmas.List.{take_all}
use Rattle.set_table.specs.Table.{Table}
use Rattle.set_reader.specs.Record.{IsCut}
use Rattle.set_reader.proofs.Told.{told_at, told_from}
use Rattle.set_reader.proofs.LossLaws.{reads_then}
use Rattle.set_reader.proofs.RoundLaws.{still_stands, both_few}
use Rattle.set_reader.proofs.AttemptLaws.{no_fragments, with_fragments}
use Rattle.set_reader.proofs.PayloadLaws.{no_payload, payload_read}
use Rattle.set_reader.proofs.record.append_payload.Goals as goal

pub returns-then-lengths-eq0-clause-payload : goal.returns-then-lengths-eq0-clause-payload
returns-then-lengths-eq0-clause-payload g c =
    let old = g.B.Bay.state c.args.bay.now in
    let place = c.args.place.now in
    told_from old.contents _ (λ held is m stands.
    let told = told_at old.contents _ held is c.in_ok-lengths.ensures.lengths m stands in
    no_payload c.read_lengths.new.table place held m c.args.out.now.items c.in_ok-lengths.ensures.enough (sym told.payload ∙ c.if-lengths-eq0.true))

pub read_sources-requires-clause-stands : goal.read_sources-requires-clause-stands
read_sources-requires-clause-stands g c =
    let old = g.B.Bay.state c.args.bay.now in
    let mid = g.B.Bay.state c.read_lengths.new.bay in
    let place = c.args.place.now in
    let reads = c.in_ok-lengths.ensures.reads in
    told_from mid.contents _ (λ held is.
    let there = sym reads.bay.contents ∙ is in
    let stands = told_at old.contents _ held there c.requires.stands in
    let told = told_at old.contents _ held there c.in_ok-lengths.ensures.lengths stands.0 stands.1 in
    (stands.0, still_stands c.args.table.now c.read_lengths.new.table old mid place.set place.block stands.0 held reads stands.1, sym told.fragment))

pub returns-in_err-read_sources-clause-few : goal.returns-in_err-read_sources-clause-few
returns-in_err-read_sources-clause-few g c =
    both_few c.args.table.now c.read_lengths.new.table c.read_sources.new.table (g.B.Bay.state c.args.bay.now) (g.B.Bay.state c.read_lengths.new.bay) (g.B.Bay.state c.read_sources.new.bay)
    c.in_ok-lengths.ensures.some c.in_ok-lengths.ensures.reads c.in_err-read_sources.ensures.reads c.in_ok-lengths.ensures.few c.in_err-read_sources.ensures.few

pub returns-clause-payload : goal.returns-clause-payload
returns-clause-payload g c =
    let old = g.B.Bay.state c.args.bay.now in
    let mid = g.B.Bay.state c.read_lengths.new.bay in
    let place = c.args.place.now in
    let reads = c.in_ok-lengths.ensures.reads in
    let t = c.args.table.now in
    told_from old.contents _ (λ held is m stands.
    let told = told_at old.contents _ held is c.in_ok-lengths.ensures.lengths m stands in
    let begins = told_at mid.contents _ held (reads.bay.contents ∙ is) c.in_ok-read_sources.ensures.sources m (still_stands t c.read_lengths.new.table old mid place.set place.block m held reads stands) (sym told.fragment) in
    let whole = reads_then t c.read_lengths.new.table c.read_sources.new.table old mid (g.B.Bay.state c.read_sources.new.bay) reads c.in_ok-read_sources.ensures.reads in
    let cut = subst (λ (k : ℕ). IsCut k m) (sym (ap (λ (x : Table). x.geometry.k) whole.table)) told.cut in
    let all : take c.len-from.result c.args.out.now.items ≡ c.args.out.now.items = take_all c.len-from.result c.args.out.now.items (omega (arith, c.len-from.ensures, c.args.out.now.ok.0)) in
    payload_read c.read_sources.new.table place held m c.read_sources.new.out.items c.args.out.now.items _ c.len-from.result _ _ _ begins cut told.payload
    (c.in_ok-read_sources.ensures.kept ∙ all)
    (omega (arith, c.read_sources.new.out.small, c.read_sources.new.out.ok.0, c.read_sources.new.out.ok.1)) c.saturating_add.ensures c.truncate.ensures.items)

pub returns-clause-few : goal.returns-clause-few
returns-clause-few g c =
    both_few c.args.table.now c.read_lengths.new.table c.read_sources.new.table (g.B.Bay.state c.args.bay.now) (g.B.Bay.state c.read_lengths.new.bay) (g.B.Bay.state c.read_sources.new.bay)
    c.in_ok-lengths.ensures.some c.in_ok-lengths.ensures.reads c.in_ok-read_sources.ensures.reads c.in_ok-lengths.ensures.few c.in_ok-read_sources.ensures.few

pub returns-in_err-read_sources-clause-attempts : goal.returns-in_err-read_sources-clause-attempts
returns-in_err-read_sources-clause-attempts g c =
    let old = g.B.Bay.state c.args.bay.now in
    let reads = c.in_ok-lengths.ensures.reads in
    with_fragments c.args.table.now c.read_lengths.new.table c.read_sources.new.table c.args.place.now old (g.B.Bay.state c.read_lengths.new.bay) (g.B.Bay.state c.read_sources.new.bay) c.in_ok-lengths.lengths.payload
    (ap (λ (x : Table). x.geometry.k) reads.table) c.in_err-read_sources.ensures.reads.bay.goes_on.keeps_failed c.if-lengths-eq0.false
    (told_from old.contents _ (λ held is m stands. (told_at old.contents _ held is c.in_ok-lengths.ensures.lengths m stands).payload))
    c.in_ok-lengths.ensures.attempts c.in_err-read_sources.ensures.attempts

pub returns-clause-attempts : goal.returns-clause-attempts
returns-clause-attempts g c =
    let old = g.B.Bay.state c.args.bay.now in
    let reads = c.in_ok-lengths.ensures.reads in
    with_fragments c.args.table.now c.read_lengths.new.table c.read_sources.new.table c.args.place.now old (g.B.Bay.state c.read_lengths.new.bay) (g.B.Bay.state c.read_sources.new.bay) c.in_ok-lengths.lengths.payload
    (ap (λ (x : Table). x.geometry.k) reads.table) c.in_ok-read_sources.ensures.reads.bay.goes_on.keeps_failed c.if-lengths-eq0.false
    (told_from old.contents _ (λ held is m stands. (told_at old.contents _ held is c.in_ok-lengths.ensures.lengths m stands).payload))
    c.in_ok-lengths.ensures.attempts c.in_ok-read_sources.ensures.attempts

pub returns-in_err-lengths-clause-attempts : goal.returns-in_err-lengths-clause-attempts
returns-in_err-lengths-clause-attempts g c = no_fragments c.args.table.now c.read_lengths.new.table c.args.place.now (g.B.Bay.state c.args.bay.now) (g.B.Bay.state c.read_lengths.new.bay) c.in_err-lengths.ensures.attempts
