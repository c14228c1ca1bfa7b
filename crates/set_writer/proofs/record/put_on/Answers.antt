use Rattle.std.proofs.Common.{◌≡◌, ◌+◌, ◌*◌, ◌<◌, ℕ, List, length, take, sym, ap, subst, ◌∙◌, arith, length-take}
use Rattle.std.specs.Int.{div_ceil}
use Rattle.set_table.specs.Table.{Table}
use Rattle.std.specs.Prelude.{IfSome}
use Rattle.marker_format.specs.Zone.{blocks_of}
use Rattle.array_model.specs.Reading.{fragments_of}
use Rattle.set_writer.specs.Entry.{Entry, fragment, entry_bytes, IsEntry}
use Rattle.set_writer.specs.Body.{entry_of}
use Rattle.set_writer.specs.Members.{HasRoom, IsOfCode, of_one, SpreadsBy}
use Rattle.set_table.specs.Table.{array_of}
use Rattle.set_writer.proofs.EntryLaws.{fragment_size, length-entry_bytes, entry_written}
use Rattle.set_writer.proofs.record.put_on.Goals as goal

within : (t : Table) (k p index : ℕ) → IsOfCode t.geometry k p → index < k + p → index < fragments_of (array_of t)
within t k p index code below = let a = code.0 in let b = code.1 in omega (arith, a, b, below)

-- the blocks that are written
end_is : (t : Table) (e : Entry) (k p index : ℕ) (f : List ℕ) → IsEntry (array_of t) e → IsOfCode t.geometry k p → index < k + p → f ≡ fragment k e.payload index → 512 * (1 + div_ceil (length f) 511) ≡ 512 * blocks_of e.marker
end_is t e k p index f entry code below is = ap (λ n. 512 * (1 + div_ceil n 511)) (ap length is ∙ fragment_size (array_of t) e k index entry code.0 (within t k p index code below))

pub write_record-end-requires-clause-room : goal.write_record-end-requires-clause-room
write_record-end-requires-clause-room g c =
    let e = end_is c.args.table.now (entry_of c.args.item) c.args.code.now.k c.args.code.now.p c.args.index c.fragment.result.now c.requires.entry c.requires.code c.requires.index c.fragment.ensures.fragment in
    let b = c.requires.buffer in
    omega (arith, e, b)

pub slice_bounds-append_to-end : goal.slice_bounds-append_to-end
slice_bounds-append_to-end g c =
    let e = end_is c.args.table.now (entry_of c.args.item) c.args.code.now.k c.args.code.now.p c.args.index c.fragment.result.now c.requires.entry c.requires.code c.requires.index c.fragment.ensures.fragment in
    let b = c.requires.buffer in
    let end = c.write_record-end.ensures.end in
    let same = c.write_record-end.auto.out in
    omega (arith, e, b, end, same)

pub slice_bounds-append_to-end-2 : goal.slice_bounds-append_to-end-2
slice_bounds-append_to-end-2 g c =
    let e = end_is c.args.table.now (entry_of c.args.item) c.args.code.now.k c.args.code.now.p c.args.index c.fragment.result.now c.requires.entry c.requires.code c.requires.index c.fragment.ensures.fragment in
    let b = c.requires.buffer in
    let end = c.write_record-end.ensures.end in
    let same = c.write_record-end.auto.out in
    let taken = length-take c.write_record-end.result c.write_record-end.new.out in
    omega (arith, e, b, end, same, taken)

written : (t : Table) (e : Entry) (k p index end : ℕ) (f out old : List ℕ) → IsEntry (array_of t) e → IsOfCode t.geometry k p → index < k + p → f ≡ fragment k e.payload index → end ≡ 512 * (1 + div_ceil (length f) 511) → end ≡ length (entry_bytes k e index)
written t e k p index end f out old entry code below is end_ = end_ ∙ end_is t e k p index f entry code below is ∙ sym (length-entry_bytes (array_of t) e k index entry code.0 (within t k p index code below))

pub append_to-requires-clause-room : goal.append_to-requires-clause-room
append_to-requires-clause-room g c =
    let e = end_is c.args.table.now (entry_of c.args.item) c.args.code.now.k c.args.code.now.p c.args.index c.fragment.result.now c.requires.entry c.requires.code c.requires.index c.fragment.ensures.fragment in
    let b = c.requires.buffer in
    let end = c.write_record-end.ensures.end in
    let same = c.write_record-end.auto.out in
    let taken = length-take c.write_record-end.result c.write_record-end.new.out in
    let long : length (take c.write_record-end.result c.write_record-end.new.out) ≡ 512 * blocks_of c.args.item.marker.now = omega (arith, e, b, end, same, taken) in
    subst (λ n. IfSome (g.B.Bay.state c.args.bay.now).contents (HasRoom c.args.table.now c.args.item.marker.now.set c.args.index n)) (sym long) c.requires.room

pub returns-clause-spread : goal.returns-clause-spread
returns-clause-spread g c =
    let t = c.args.table.now in
    let e = entry_of c.args.item in
    let k = c.args.code.now.k in
    let size = written t e k c.args.code.now.p c.args.index c.write_record-end.result c.fragment.result.now c.write_record-end.new.out c.args.out.now c.requires.entry c.requires.code c.requires.index c.fragment.ensures.fragment c.write_record-end.ensures.end in
    let is = entry_written k c.args.index e c.at_index-marker.result c.fragment.result.now c.args.out.now c.write_record-end.new.out c.write_record-end.result c.at_index-marker.ensures c.fragment.ensures.fragment c.write_record-end.ensures.written size in
    subst (λ (l : List ℕ). SpreadsBy (of_one c.args.item.marker.now.set c.args.index l) t c.append_to.new.table (g.B.Bay.state c.args.bay.now) (g.B.Bay.state c.append_to.new.bay)) is c.append_to.ensures.spread
