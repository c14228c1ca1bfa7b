use Rattle.std.proofs.Common.{◌≡◌, ◌+◌, ◌*◌, ◌≤◌, length, sym, ap, subst, ◌∙◌, arith}
use Rattle.std.specs.Prelude.{IfSome}
use Rattle.marker_format.specs.declared.marker.Marker.{Marker}
use Rattle.marker_format.specs.Zone.{Array, blocks_of}
use Rattle.set_writer.specs.Entry.{Entry, entry_bytes, IsEntry}
use Rattle.set_writer.specs.Members.{Spreads, AllHaveRoom}
use Rattle.set_table.specs.Table.{array_of}
use Rattle.set_writer.specs.Writer.{Writer, digest_record}
use Rattle.set_writer.specs.Fit.{live_of}
use Rattle.set_writer.proofs.DigestLaws.{digest_is_entry}
use Rattle.set_writer.proofs.PartLaws.{part_entry, part_fragments, part_blocks, part_room, part_held}
use Rattle.set_writer.proofs.writer.SetWriter.put_digest_record.Goals as goal

pub put_payload-requires-clause-entry : goal.put_payload-requires-clause-entry
put_payload-requires-clause-entry g c =
    let w = c.args.self.now in
    let k = c.self.invariant.code.0 ∙ ap (λ (x : Writer). x.geometry.k) c.self.view_is in
    let shard = ap (λ (x : Writer). x.geometry.shard) c.self.view_is in
    let lines = c.deref.ensures.value ∙ ap (λ (x : Writer). x.lines) c.self.view_is in
    let below = c.requires.part in
    let parts = c.requires.parts in
    subst (λ (e : Entry). IsEntry (array_of c.args.table.now) e) (sym (part_entry w c.args.part c.self.inside.code.k c.self.inside.geometry.shard c.digest_marker-marker.result c.deref.result.now k shard lines c.digest_marker-marker.ensures.marker))
    (subst (λ (a : Array). IsEntry a (digest_record w c.args.part)) c.requires.of.array (digest_is_entry w c.digest_marker-marker.ensures.can c.args.part (omega (arith, below, parts))))

pub put_payload-requires-clause-fragments : goal.put_payload-requires-clause-fragments
put_payload-requires-clause-fragments g c =
    let w = c.args.self.now in
    let k = c.self.invariant.code.0 ∙ ap (λ (x : Writer). x.geometry.k) c.self.view_is in
    let p = c.self.invariant.code.1 ∙ ap (λ (x : Writer). x.geometry.p) c.self.view_is in
    let pieces : length c.deref_mut.result.now ≡ (w.geometry.k + w.geometry.p) * w.geometry.shard =
    ap length c.deref_mut.ensures.value ∙ c.self.invariant.buffers.pieces_is ∙ ap (λ (x : Writer). (x.geometry.k + x.geometry.p) * x.geometry.shard) c.self.view_is in
    let below = c.requires.part in
    let parts = c.requires.parts in
    subst (λ (m : Marker). (c.self.inside.code.k + c.self.inside.code.p) * m.fragment ≤ length c.deref_mut.result.now) (sym c.digest_marker-marker.ensures.marker)
    (part_fragments w c.digest_marker-marker.ensures.can c.args.part (omega (arith, below, parts)) c.self.inside.code.k c.self.inside.code.p (length c.deref_mut.result.now) k p pieces)

pub put_payload-requires-clause-buffer : goal.put_payload-requires-clause-buffer
put_payload-requires-clause-buffer g c =
    let w = c.args.self.now in
    let shard = ap (λ (x : Writer). x.geometry.shard) c.self.view_is in
    let out = c.self.invariant.buffers.out_is in
    let value = ap length c.deref_mut-2.ensures.value in
    let below = c.requires.part in
    let parts = c.requires.parts in
    let most = part_blocks w c.digest_marker-marker.ensures.can c.args.part (omega (arith, below, parts)) in
    let same = ap (λ (m : Marker). blocks_of m) c.digest_marker-marker.ensures.marker in
    omega (arith, shard, out, value, most, same)

pub put_payload-requires-clause-room : goal.put_payload-requires-clause-room
put_payload-requires-clause-room g c =
    let w = c.args.self.now in
    let below = c.requires.part in
    let parts = c.requires.parts in
    subst (λ (m : Marker). IfSome (g.B.Bay.state c.args.bay.now).contents (AllHaveRoom c.args.table.now m.set (512 * blocks_of m))) (sym c.digest_marker-marker.ensures.marker)
    (part_room w c.digest_marker-marker.ensures.can c.args.part (omega (arith, below, parts)) c.args.table.now (g.B.Bay.state c.args.bay.now).contents c.requires.of.array c.requires.held)

pub returns-clause-spread : goal.returns-clause-spread
returns-clause-spread g c =
    let w = c.args.self.now in
    let k = c.self.invariant.code.0 ∙ ap (λ (x : Writer). x.geometry.k) c.self.view_is in
    let shard = ap (λ (x : Writer). x.geometry.shard) c.self.view_is in
    let lines = c.deref.ensures.value ∙ ap (λ (x : Writer). x.lines) c.self.view_is in
    let set_is = ap (λ (m : Marker). m.set) c.digest_marker-marker.ensures.marker in
    subst (λ n. Spreads w.set (entry_bytes n (digest_record w c.args.part)) c.args.table.now c.put_payload.new.table (g.B.Bay.state c.args.bay.now) (g.B.Bay.state c.put_payload.new.bay)) k
    (subst (λ s. Spreads s (entry_bytes c.self.inside.code.k (digest_record w c.args.part)) c.args.table.now c.put_payload.new.table (g.B.Bay.state c.args.bay.now) (g.B.Bay.state c.put_payload.new.bay)) set_is
    (subst (λ (e : Entry). Spreads c.digest_marker-marker.result.set (entry_bytes c.self.inside.code.k e) c.args.table.now c.put_payload.new.table (g.B.Bay.state c.args.bay.now) (g.B.Bay.state c.put_payload.new.bay))
    (part_entry w c.args.part c.self.inside.code.k c.self.inside.geometry.shard c.digest_marker-marker.result c.deref.result.now k shard lines c.digest_marker-marker.ensures.marker) c.put_payload.ensures.spread))

pub returns-clause-held : goal.returns-clause-held
returns-clause-held g c =
    let w = c.args.self.now in
    let below = c.requires.part in
    let parts = c.requires.parts in
    part_held w c.digest_marker-marker.ensures.can c.args.part (omega (arith, below, parts)) c.args.table.now c.put_payload.new.table (g.B.Bay.state c.args.bay.now) (g.B.Bay.state c.put_payload.new.bay) c.requires.of.array (returns-clause-spread g c) c.requires.held

pub returns-clause-calls : goal.returns-clause-calls
returns-clause-calls g c = subst (λ s. (g.B.Bay.state c.put_payload.new.bay).moment ≤ (g.B.Bay.state c.args.bay.now).moment + live_of c.args.table.now s) (ap (λ (m : Marker). m.set) c.digest_marker-marker.ensures.marker) c.put_payload.ensures.calls
