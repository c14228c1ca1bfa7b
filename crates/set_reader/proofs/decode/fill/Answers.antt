use Rattle.std.proofs.Common.{◌≡◌, ◌+◌, ◌<◌, ◌*◌, ◌++◌, ℕ, List, length, take, sym, ap, ◌∙◌, subst, arith}
use Rattle.std.proofs.lemmas.List.{take_at, length-map}
use Rattle.rs_code.specs.Fragments.{GivesFragment, piece}
use Rattle.set_table.specs.declared.members.Member.{Member}
use Rattle.set_reader.specs.Rows.{given_by, sources_from, rows_of, indexes_of}
use Rattle.set_reader.proofs.Told.{told_at, told_from}
use Rattle.set_reader.proofs.SourceLaws.{sources_made, sources_read, bytes_in_front, bytes_behind, if_read}
use Rattle.set_reader.proofs.decode.fill.Goals as goal

pub returns-then-plain-clause-sources : goal.returns-then-plain-clause-sources
returns-then-plain-clause-sources g c =
    let k = c.args.geometry.now.k in
    let n = k + c.args.geometry.now.p in
    let f = c.args.f in
    let members = c.args.members.now in
    let rows = c.read_rows.new.rows in
    let count = sym (length-map members (λ (m : Member). m.index)) ∙ c.requires.indexes.count in
    let within = c.requires.within in
    let contents = (g.B.Bay.state c.args.bay.now).contents in
    let size : length rows ≡ k * f = c.read_rows.auto.rows ∙ c.split_at_mut-sources.ensures.front_len ∙ ap (λ j. j * f) count in
    told_from contents _ (λ held is.
    if_read c.read_rows.result (rows ≡ rows_of held c.args.block f members) (take (k * f) (rows ++ c.read_rows.new.buffer) ≡ sources_from k f (given_by held c.args.block f members))
    (λ read.
    take_at rows c.read_rows.new.buffer (k * f) size
    ∙ sources_read k n f c.args.block held members rows (omega arith) (let fits = within.fragments in omega (arith, fits)) c.requires.indexes (told_at contents _ held is c.requires.written) read
    (bytes_in_front rows c.read_rows.new.buffer (λ i. let b = (c.type_inv.space i).fits in omega (arith, b))) (c.requires.sources c.if-plain.true))
    (told_at contents _ held is c.read_rows.ensures.rows))

pub returns-clause-sources : goal.returns-clause-sources
returns-clause-sources g c =
    let k = c.args.geometry.now.k in
    let n = k + c.args.geometry.now.p in
    let f = c.args.f in
    let members = c.args.members.now in
    let out = c.decode.new.out in
    let rows = c.read_rows-2.new.rows in
    let buffer = c.read_rows-2.new.buffer in
    let count = sym (length-map members (λ (m : Member). m.index)) ∙ c.requires.indexes.count in
    let within = c.requires.within in
    let contents = (g.B.Bay.state c.args.bay.now).contents in
    let size : length out ≡ k * f = c.decode.auto.out ∙ c.split_at_mut-sources.ensures.front_len ∙ ap (λ j. j * f) count in
    told_from contents _ (λ held is.
    take_at out (rows ++ buffer) (k * f) size
    ∙ sources_made k n f c.args.block held members rows (omega arith) (let fits = within.fragments in omega (arith, fits)) c.requires.indexes (told_at contents _ held is c.requires.written)
    (told_at contents _ held is c.in_ok-read_rows.ensures.rows)
    (bytes_in_front rows buffer (bytes_behind out (rows ++ buffer) (λ i. let b = (c.type_inv.space i).fits in omega (arith, b))))
    out size
    (subst (λ (j : ℕ). (i : ℕ) → i < j → GivesFragment j (j + c.args.geometry.now.p) f (indexes_of members) rows i (piece out f i)) c.new-code.ensures.k
    (subst (λ (p : ℕ). (i : ℕ) → i < c.new-code.result.k → GivesFragment c.new-code.result.k (c.new-code.result.k + p) f (indexes_of members) rows i (piece out f i)) c.new-code.ensures.p
    (subst (λ (l : List ℕ). (i : ℕ) → i < c.new-code.result.k → GivesFragment c.new-code.result.k (c.new-code.result.k + c.new-code.result.p) f l rows i (piece out f i)) c.indexes-have.ensures c.decode.ensures.fragments))))
