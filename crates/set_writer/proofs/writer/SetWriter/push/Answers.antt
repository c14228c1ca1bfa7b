use Rattle.std.proofs.Common.{◌≡◌, ◌+◌, ◌*◌, length, sym, ap, subst, ◌∙◌, arith}
use Rattle.smore_base.specs.Geometry.{IsWithinLimits}
use Rattle.std.specs.Prelude.{IfSome}
use Rattle.marker_format.specs.Zone.{Array, blocks_of}
use Rattle.set_writer.specs.Entry.{entry_bytes, IsEntry}
use Rattle.set_writer.specs.Body.{entry_of}
use Rattle.set_writer.specs.Members.{Spreads, HoldBlocks, AllHaveRoom}
use Rattle.set_table.specs.Table.{array_of}
use Rattle.set_writer.specs.Writer.{Writer, array_by}
use Rattle.set_writer.proofs.EntryLaws.{length-entry_bytes}
use Rattle.set_writer.proofs.FitLaws.{blocks_most, fits_within, room_for, hold_more}
use Rattle.set_writer.proofs.writer.SetWriter.push.Goals as goal

pub put_all-requires-clause-buffer : goal.put_all-requires-clause-buffer
put_all-requires-clause-buffer g c =
    let most = blocks_most (array_by c.args.self.now) (entry_of c.args.item) (subst (λ (w : Writer). IsWithinLimits w.geometry) c.self.view_is c.self.invariant.within) c.requires.entry in
    let shard = ap (λ (w : Writer). w.geometry.shard) c.self.view_is in
    let out = c.self.invariant.buffers.out_is in
    let value = ap length c.as_mut_slice.ensures.value in
    omega (arith, most, shard, out, value)

pub put_all-requires-clause-room : goal.put_all-requires-clause-room
put_all-requires-clause-room g c =
    let w = c.args.self.now in
    let t = c.args.table.now in
    let same = ap (λ (a : Array). a.geometry.blocks) c.requires.of.array in
    let within = fits_within w.geometry (blocks_of c.args.item.marker.now) w.used w.records c.requires.fits in
    subst (λ s. IfSome (g.B.Bay.state c.args.bay.now).contents (AllHaveRoom t s (512 * blocks_of c.args.item.marker.now))) (sym c.requires.set)
    (room_for t w.set w.used (blocks_of c.args.item.marker.now) (g.B.Bay.state c.args.bay.now).contents (omega (arith, same, within)) c.requires.held)

pub returns-clause-spread : goal.returns-clause-spread
returns-clause-spread g c =
    let w = c.args.self.now in
    let k : c.self.inside.code.k ≡ w.geometry.k = c.self.invariant.code.0 ∙ ap (λ (x : Writer). x.geometry.k) c.self.view_is in
    subst (λ s. Spreads s (entry_bytes w.geometry.k (entry_of c.args.item)) c.args.table.now c.put_all.new.table (g.B.Bay.state c.args.bay.now) (g.B.Bay.state c.put_all.new.bay)) c.requires.set
    (subst (λ n. Spreads c.args.item.marker.now.set (entry_bytes n (entry_of c.args.item)) c.args.table.now c.put_all.new.table (g.B.Bay.state c.args.bay.now) (g.B.Bay.state c.put_all.new.bay)) k c.put_all.ensures.spread)

pub returns-clause-held : goal.returns-clause-held
returns-clause-held g c =
    let w = c.args.self.now in
    let t = c.args.table.now in
    let e = entry_of c.args.item in
    let k : c.self.inside.code.k ≡ w.geometry.k = c.self.invariant.code.0 ∙ ap (λ (x : Writer). x.geometry.k) c.self.view_is in
    let set_is = ap (λ (x : Writer). x.set) c.self.view_is in
    let used_is = ap (λ (x : Writer). x.used) c.self.view_is in
    let kt = k ∙ ap (λ (a : Array). a.geometry.k) c.requires.of.array in
    let entry : IsEntry (array_of t) e = subst (λ (a : Array). IsEntry a e) c.requires.of.array c.requires.entry in
    let now = hold_more t c.put_all.new.table c.args.item.marker.now.set w.used (blocks_of c.args.item.marker.now) (entry_bytes c.self.inside.code.k e) (g.B.Bay.state c.args.bay.now) (g.B.Bay.state c.put_all.new.bay) c.put_all.ensures.spread.grows
    (λ index below. length-entry_bytes (array_of t) e c.self.inside.code.k index entry kt below)
    (subst (λ s. IfSome (g.B.Bay.state c.args.bay.now).contents (HoldBlocks t s w.used)) (sym c.requires.set) c.requires.held) in
    let blocks : w.used + blocks_of c.args.item.marker.now ≡ c.self.inside.used + c.record_blocks.result = omega (arith, used_is, c.record_blocks.ensures, c.from.ensures) in
    subst (λ s. IfSome (g.B.Bay.state c.put_all.new.bay).contents (HoldBlocks c.put_all.new.table s (c.self.inside.used + c.record_blocks.result))) (c.requires.set ∙ sym set_is)
    (subst (λ n. IfSome (g.B.Bay.state c.put_all.new.bay).contents (HoldBlocks c.put_all.new.table c.args.item.marker.now.set n)) blocks now)

pub returns-clause-bytes : goal.returns-clause-bytes
returns-clause-bytes g c = record { payload = c.put_all.ensures.bytes; name = c.spelled_line-line.ensures.name }
