-- A writer that found more room, and wrote the same.
use Rattle.std.proofs.Common.{◌≡◌, ℕ, Bool, true, false, cond, List, [], ◌∷◌, ◌++◌, refl, sym, ap, subst, ◌∙◌}
use Rattle.std.specs.List.{fold}
use Rattle.zone_bay.specs.Contents.{Contents}
use Rattle.set_table.specs.Table.{Table}
use Rattle.set_writer.specs.Entry.{Entry, entries_bytes}
use Rattle.set_writer.specs.Writer.{Writer, begun, behind, written, closed, digest, foot_bytes, CanDigest, Wrote, Fits}

pub written-roomier : (w : Writer) (r set' : ℕ) (es : List Entry) → written (record w { room = r }) set' es ≡ record (written w set' es) { room = r }
unfolding written
written-roomier w r set' es = from (begun w set') es
  where
    from : (v : Writer) (es : List Entry) → fold (λ w (e : Entry). behind w e.marker) (record v { room = r }) es ≡ record (fold (λ w (e : Entry). behind w e.marker) v es) { room = r }
    from v [] = refl
    from v (e ∷ es) = from (behind v e.marker) es

module _ (w : Writer) (r : ℕ) (es : List Entry) where
  same : written (record w { room = r }) w.set es ≡ record (written w w.set es) { room = r }
  same = written-roomier w r w.set es

  either : (c : Bool) (b : Writer) → record (cond c (closed b) b) { room = r } ≡ cond c (closed (record b { room = r })) (record b { room = r })
  either true b = refl
  either false b = refl

  roomier_can : CanDigest (written w w.set es) → CanDigest (written (record w { room = r }) w.set es)
  roomier_can can = subst CanDigest (sym same) (record { within = can.within; id = can.id; set_from = can.set_from; set_to = can.set_to; lines = can.lines; blocks = can.blocks; records = can.records })

  roomier_wrote : Wrote w es → Wrote (record w { room = r }) es
  roomier_wrote wrote = record {
    is = ap (λ (x : Writer). record x { room = r }) wrote.is ∙ either w.is_closed (written w w.set es) ∙ ap (λ (b : Writer). cond w.is_closed (closed b) b) (sym same);
    some = wrote.some;
    records = wrote.records;
    can = λ is. roomier_can (wrote.can is);
  }

  roomier_fits : (t : Table) (held : Contents) → Fits w es t held → Fits (record w { room = r }) es t held
  roomier_fits t held fits = record {
    wrote = roomier_wrote fits.wrote;
    bytes = fits.bytes;
    members = λ d z index below live is. fits.members d z index below live is
        ∙ ap (λ (b : Writer). entries_bytes w.geometry.k es index ++ cond w.is_closed (entries_bytes w.geometry.k (digest b) index ++ foot_bytes b index) []) (sym same);
    empty = fits.empty;
  }

-- the zones hold what the writer says still
pub fits_still : (w v : Writer) (es : List Entry) (t : Table) (held : Contents) → v ≡ record w { room = v.room } → Fits w es t held → Fits v es t held
fits_still w v es t held is fits = subst (λ (x : Writer). Fits x es t held) (sym is) (roomier_fits w v.room es t held fits)
