use Rattle.std.proofs.Common.{◌≡◌, ◌/◌, true, length, sym, ap, subst, ◌∙◌, arith}
use Rattle.smore_base.specs.Geometry.{IsWithinLimits}
use Rattle.smore_base.specs.Room.{fits}
use Rattle.marker_format.specs.declared.marker.Marker.{Marker}
use Rattle.marker_format.specs.Zone.{blocks_of}
use Rattle.set_writer.specs.Entry.{entry_bytes, IsEntry}
use Rattle.set_writer.specs.Members.{Spreads}
use Rattle.set_writer.specs.Writer.{Writer, array_by, bare}
use Rattle.set_writer.proofs.FitLaws.{opening_fits, open_listed}
use Rattle.set_writer.proofs.FirstLaws.{first_is_entry, one_block}
use Rattle.set_writer.proofs.writer.SetWriter.push_first.Goals as goal

pub push-requires-clause-room : goal.push-requires-clause-room
push-requires-clause-room g c =
    let open_ = ap (λ (w : Writer). w.is_closed) c.self.view_is ∙ c.requires.open in
    let listed = open_listed c.self.inside.geometry (record { set = c.self.inside.set; used = c.self.inside.used; records = c.self.inside.records; lines = length c.self.inside.lines.items; is_closed = c.self.inside.is_closed }) open_ c.self.invariant.can in
    let lines = ap (λ (w : Writer). length w.lines / 320) c.self.view_is in
    let records = ap (λ (w : Writer). w.records) c.self.view_is in
    let room = c.requires.room in
    omega (arith, listed, lines, records, room)

pub push-requires-clause-fits : goal.push-requires-clause-fits
push-requires-clause-fits g c =
    let w = c.args.self.now in
    let within = subst (λ (v : Writer). IsWithinLimits v.geometry) c.self.view_is c.self.invariant.within in
    let one = one_block (array_by w) w.set w.records c.args.first ∙ sym (ap (λ (m : Marker). blocks_of m) c.first_marker-marker.ensures) in
    subst (λ n. fits w.geometry n w.used w.records ≡ true) one
    (subst (λ n. fits w.geometry 1 n w.records ≡ true) (sym c.requires.blocks) (opening_fits w.geometry w.records within c.requires.few))

pub push-requires-clause-entry : goal.push-requires-clause-entry
push-requires-clause-entry g c =
    let w = c.args.self.now in
    let within = subst (λ (v : Writer). IsWithinLimits v.geometry) c.self.view_is c.self.invariant.within in
    let id : length w.id ≡ 16 = sym (ap (λ (v : Writer). length v.id) c.self.view_is) ∙ c.self.told in
    subst (λ (m : Marker). IsEntry (array_by w) (bare m)) (sym c.first_marker-marker.ensures)
    (first_is_entry (array_by w) w.set w.records c.args.first (record { within = within; id = id; set_from = c.requires.set.0; set_to = c.requires.set.1; few = c.requires.few }) c.requires.first)

pub returns-clause-spread : goal.returns-clause-spread
returns-clause-spread g c =
    let w = c.args.self.now in
    subst (λ (m : Marker). Spreads w.set (entry_bytes w.geometry.k (bare m)) c.args.table.now c.push.new.table (g.B.Bay.state c.args.bay.now) (g.B.Bay.state c.push.new.bay)) c.first_marker-marker.ensures c.push.ensures.spread
