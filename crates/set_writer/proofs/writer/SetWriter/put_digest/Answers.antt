use Rattle.std.proofs.Common.{◌≡◌, ◌+◌, sym, ap, subst, ◌∙◌, arith}
use Rattle.std.specs.Prelude.{IfSome}
use Rattle.set_writer.specs.Entry.{entries_bytes}
use Rattle.set_writer.specs.Members.{Grows, HoldBlocks}
use Rattle.set_writer.specs.Writer.{Writer, parts_of, first_digests, blocks_in}
use Rattle.set_writer.specs.Calls.{IsOf}
use Rattle.set_writer.specs.Rounds.{InRounds}
use Rattle.set_writer.proofs.PartLaws.{digested_none, digested_more, digested_fits}
use Rattle.set_writer.proofs.writer.SetWriter.put_digest.Goals as goal

pub loop-part-init : goal.loop-part-init
loop-part-init g c = digested_none c.args.self.now c.args.table.now (g.B.Bay.state c.args.bay.now) c.requires.of c.requires.held

pub put_digest_record-blocks-requires-clause-of : goal.put_digest_record-blocks-requires-clause-of
put_digest_record-blocks-requires-clause-of g c = subst (λ (w : Writer). IsOf w c.loop-part.table (g.B.Bay.state c.loop-part.bay)) (sym c.loop-part.invariant.writer) c.loop-part.invariant.of

pub put_digest_record-blocks-requires-clause-open :
    goal.put_digest_record-blocks-requires-clause-open
put_digest_record-blocks-requires-clause-open g c = ap (λ (w : Writer). w.is_closed) c.loop-part.invariant.writer ∙ c.requires.open

pub put_digest_record-blocks-requires-clause-parts :
    goal.put_digest_record-blocks-requires-clause-parts
put_digest_record-blocks-requires-clause-parts g c = c.requires.parts ∙ ap parts_of (sym c.loop-part.invariant.writer)

pub put_digest_record-blocks-requires-clause-held :
    goal.put_digest_record-blocks-requires-clause-held
put_digest_record-blocks-requires-clause-held g c = subst (λ (w : Writer). IfSome (g.B.Bay.state c.loop-part.bay).contents (HoldBlocks c.loop-part.table w.set (w.used + blocks_in (first_digests w c.loop-part.part)))) (sym c.loop-part.invariant.writer) c.loop-part.invariant.held

pub loop-part-preserved : goal.loop-part-preserved
loop-part-preserved g c = digested_more c.args.self.now c.loop-part.self c.put_digest_record-blocks.new.self c.loop-part.part c.loop-part.blocks c.put_digest_record-blocks.result c.args.table.now c.loop-part.table c.put_digest_record-blocks.new.table _ _ _ (g.met.B.Bay.sound c.args.bay.now) (g.met.B.Bay.sound c.loop-part.bay)
    c.loop-part.invariant c.put_digest_record-blocks.ensures.writer c.put_digest_record-blocks.ensures.spread c.put_digest_record-blocks.ensures.blocks c.put_digest_record-blocks.ensures.held c.put_digest_record-blocks.ensures.calls

pub overflow_add-blocks : goal.overflow_add-blocks
overflow_add-blocks g c =
    let w = c.args.self.now in
    let next = loop-part-preserved g c in
    let sum = next.sum in
    let below = c.loop-part-test.true in
    let parts = c.requires.parts in
    let fits = digested_fits w (c.loop-part.part + 1) c.requires.can (omega (arith, below, parts)) in
    let most = c.requires.can.within.blocks_to in
    omega (arith, sum, fits, most)

pub returns-clause-writer : goal.returns-clause-writer
returns-clause-writer g c = c.loop-part.invariant.writer

pub returns-clause-grows : goal.returns-clause-grows
returns-clause-grows g c =
    let w = c.args.self.now in
    let e = c.loop-part-test.false in
    let all : c.loop-part.part ≡ parts_of w = let a = c.loop-part.auto.part-end in let b = c.requires.parts in omega (arith, a, b, e) in
    subst (λ n. Grows w.set (entries_bytes w.geometry.k (first_digests w n)) c.args.table.now c.loop-part.table (g.B.Bay.state c.args.bay.now) (g.B.Bay.state c.loop-part.bay)) all c.loop-part.invariant.grows

pub returns-clause-blocks : goal.returns-clause-blocks
returns-clause-blocks g c =
    let w = c.args.self.now in
    let e = c.loop-part-test.false in
    let all : c.loop-part.part ≡ parts_of w = let a = c.loop-part.auto.part-end in let b = c.requires.parts in omega (arith, a, b, e) in
    c.loop-part.invariant.sum ∙ ap (λ n. blocks_in (first_digests w n)) all

pub returns-clause-held : goal.returns-clause-held
returns-clause-held g c =
    let w = c.args.self.now in
    let e = c.loop-part-test.false in
    let all : c.loop-part.part ≡ parts_of w = let a = c.loop-part.auto.part-end in let b = c.requires.parts in omega (arith, a, b, e) in
    subst (λ n. IfSome (g.B.Bay.state c.loop-part.bay).contents (HoldBlocks c.loop-part.table w.set (w.used + blocks_in (first_digests w n)))) all c.loop-part.invariant.held

pub returns-clause-room : goal.returns-clause-room
returns-clause-room g c = digested_fits c.args.self.now (parts_of c.args.self.now) c.requires.can (omega arith)

pub returns-clause-of : goal.returns-clause-of
returns-clause-of g c = subst (λ (w : Writer). IsOf w c.loop-part.table (g.B.Bay.state c.loop-part.bay)) (sym c.loop-part.invariant.writer) c.loop-part.invariant.of

pub returns-clause-calls : goal.returns-clause-calls
returns-clause-calls g c =
    let w = c.args.self.now in
    let e = c.loop-part-test.false in
    let all : c.loop-part.part ≡ parts_of w = let a = c.loop-part.auto.part-end in let b = c.requires.parts in omega (arith, a, b, e) in
    subst (λ n. InRounds w.set n c.args.table.now c.loop-part.table (g.B.Bay.state c.args.bay.now) (g.B.Bay.state c.loop-part.bay)) all c.loop-part.invariant.calls

pub returns-clause-firm : goal.returns-clause-firm
returns-clause-firm g c = c.loop-part.invariant.firm
