use Rattle.std.proofs.Common.{List, ℕ, subst}
use Rattle.set_writer.specs.Entry.{entry_bytes}
use Rattle.set_writer.specs.Members.{Spreads}
use Rattle.set_writer.proofs.close.put_payload.Goals as goal

pub returns-clause-spread : goal.returns-clause-spread
returns-clause-spread g c = subst (λ (l : List ℕ). Spreads c.args.marker.now.set (entry_bytes c.args.code.now.k (record { marker = c.args.marker.now; payload = l })) c.args.table.now c.put_pieces.new.table (g.B.Bay.state c.args.bay.now) (g.B.Bay.state c.put_pieces.new.bay)) c.write_fragments.ensures.payload c.put_pieces.ensures.spread
