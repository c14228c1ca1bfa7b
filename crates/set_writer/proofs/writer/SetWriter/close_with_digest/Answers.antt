use Rattle.std.proofs.Common.{◌≡◌, ℕ, ◌+◌, ◌≤◌, sym, ap, subst, ◌∙◌, arith}
use Rattle.std.specs.Prelude.{IfSome}
use Rattle.marker_format.specs.Zone.{Array}
use Rattle.set_table.specs.Table.{Table}
use Rattle.zone_bay.specs.Bay.{BayState}
use Rattle.marker_format.specs.Block.{foot_block}
use Rattle.set_writer.specs.Entry.{entries_bytes}
use Rattle.set_writer.specs.Members.{Grows, Flushes, AllHaveRoom}
use Rattle.set_writer.specs.Writer.{Writer, foot_bytes, digest, blocks_in, parts_of}
use Rattle.set_writer.specs.Fit.{live_of}
use Rattle.set_writer.specs.Calls.{FitsIn}
use Rattle.set_writer.proofs.WroteLaws.{fits_hold}
use Rattle.set_writer.proofs.FitLaws.{room_for}
use Rattle.set_writer.proofs.BeganLaws.{flushed_hold}
use Rattle.set_writer.proofs.CloseLaws.{closed_view, closes, closed_fits}
use Rattle.set_writer.proofs.writer.SetWriter.close_with_digest.Goals as goal

pub put_digest-blocks-requires-clause-held : goal.put_digest-blocks-requires-clause-held
put_digest-blocks-requires-clause-held g c =
    let w = c.args.self.now in
    let set_is = ap (λ (x : Writer). x.set) c.self.view_is in
    flushed_hold w.set w.used c.args.table.now c.flush_all.new.table (g.B.Bay.state c.args.bay.now) (g.B.Bay.state c.flush_all.new.bay)
    (subst (λ s. Flushes s c.args.table.now c.flush_all.new.table (g.B.Bay.state c.args.bay.now) (g.B.Bay.state c.flush_all.new.bay)) set_is c.flush_all.ensures.flushed)
    (fits_hold w c.args.table.now (g.B.Bay.state c.args.bay.now).contents c.requires.open c.requires.of.array c.requires.held)

pub put_feet-requires-clause-room : goal.put_feet-requires-clause-room
put_feet-requires-clause-room g c =
    let w = c.args.self.now in
    let set_is : c.self-2.inside.set ≡ w.set = ap (λ (x : Writer). x.set) c.self-2.view_is ∙ ap (λ (x : Writer). x.set) c.put_digest-blocks.ensures.writer in
    let flushed : Flushes w.set c.put_digest-blocks.new.table c.flush_all-2.new.table (g.B.Bay.state c.put_digest-blocks.new.bay) (g.B.Bay.state c.flush_all-2.new.bay) = subst (λ s. Flushes s c.put_digest-blocks.new.table c.flush_all-2.new.table (g.B.Bay.state c.put_digest-blocks.new.bay) (g.B.Bay.state c.flush_all-2.new.bay)) set_is c.flush_all-2.ensures.flushed in
    let room = c.put_digest-blocks.ensures.room in
    let array = ap (λ (a : Array). a.geometry.blocks) c.put_digest-blocks.ensures.of.array in
    let writer = ap (λ (x : Writer). x.geometry.blocks) c.put_digest-blocks.ensures.writer in
    let table = ap (λ (s : Table). s.geometry.blocks) flushed.table in
    subst (λ s. IfSome (g.B.Bay.state c.flush_all-2.new.bay).contents (AllHaveRoom c.flush_all-2.new.table s 512)) (sym set_is)
    (room_for c.flush_all-2.new.table w.set (w.used + blocks_in (digest w)) 1 (g.B.Bay.state c.flush_all-2.new.bay).contents (omega (arith, room, array, writer, table))
    (flushed_hold w.set (w.used + blocks_in (digest w)) c.put_digest-blocks.new.table c.flush_all-2.new.table _ _ flushed c.put_digest-blocks.ensures.held))

-- the calls, in words of the writer before
record Calls (w : Writer) (t t1 t2 t3 t4 t5 : Table) (s0 s1 s2 s3 s4 s5 : BayState) : Type 0 where
  pub flushed : Flushes w.set t t1 s0 s1
  pub digested : Grows w.set (entries_bytes w.geometry.k (digest w)) t1 t2 s1 s2
  pub firm : Flushes w.set t2 t3 s2 s3
  pub feet : Grows w.set (foot_bytes w) t3 t4 s3 s4
  pub last : Flushes w.set t4 t5 s4 s5

calls : (w v u : Writer) (parts : ℕ) (t t1 t2 t3 t4 t5 : Table) (s0 s1 s2 s3 s4 s5 : BayState) → v ≡ w → u ≡ w → parts ≡ parts_of w
    → Flushes v.set t t1 s0 s1 → Grows w.set (entries_bytes w.geometry.k (digest w)) t1 t2 s1 s2 → Flushes u.set t2 t3 s2 s3
    → Grows u.set (λ index. foot_block (record { set = u.set; index = index; position = u.records; block = u.used; count = parts })) t3 t4 s3 s4 → Flushes u.set t4 t5 s4 s5 → Calls w t t1 t2 t3 t4 t5 s0 s1 s2 s3 s4 s5
calls w v u parts t t1 t2 t3 t4 t5 s0 s1 s2 s3 s4 s5 v_is u_is parts_is a b c d e = record {
  flushed = subst (λ (x : Writer). Flushes x.set t t1 s0 s1) v_is a;
  digested = b;
  firm = subst (λ (x : Writer). Flushes x.set t2 t3 s2 s3) u_is c;
  feet =
      subst (λ n. Grows w.set (λ index. foot_block (record { set = w.set; index = index; position = w.records; block = w.used; count = n })) t3 t4 s3 s4) parts_is
      (subst (λ (x : Writer). Grows x.set (λ index. foot_block (record { set = x.set; index = index; position = x.records; block = x.used; count = parts })) t3 t4 s3 s4) u_is d);
  last = subst (λ (x : Writer). Flushes x.set t4 t5 s4 s5) u_is e;
}

-- no more calls than live members, in words of the writer before
few_by : (v w : Writer) → v ≡ w → (t : Table) (before after : ℕ) → after ≤ before + live_of t v.set → after ≤ before + live_of t w.set
few_by v w is t before after few = subst (λ (x : Writer). after ≤ before + live_of t x.set) is few

pub returns-clause-closes : goal.returns-clause-closes
returns-clause-closes g c =
    let w = c.args.self.now in
    let parts : c.digest_records-parts.result ≡ parts_of w = c.digest_records-parts.ensures ∙ ap parts_of c.self.view_is in
    let behind = c.self-2.view_is ∙ c.put_digest-blocks.ensures.writer in
    let it = calls w _ _ c.digest_records-parts.result c.args.table.now c.flush_all.new.table c.put_digest-blocks.new.table c.flush_all-2.new.table c.put_feet.new.table c.flush_all-3.new.table _ _ _ _ _ _ c.self.view_is behind parts
    c.flush_all.ensures.flushed c.put_digest-blocks.ensures.grows c.flush_all-2.ensures.flushed c.put_feet.ensures.spread.grows c.flush_all-3.ensures.flushed in
    closes w c.args.table.now c.flush_all.new.table c.put_digest-blocks.new.table c.flush_all-2.new.table c.put_feet.new.table c.flush_all-3.new.table _ _ _ _ _ _
    (g.met.B.Bay.sound c.args.bay.now) (g.met.B.Bay.sound c.flush_all.new.bay) (g.met.B.Bay.sound c.put_digest-blocks.new.bay) (g.met.B.Bay.sound c.flush_all-2.new.bay) (g.met.B.Bay.sound c.put_feet.new.bay)
    it.flushed it.digested it.firm it.feet it.last
    (few_by _ w c.self.view_is c.args.table.now (g.B.Bay.state c.args.bay.now).moment (g.B.Bay.state c.flush_all.new.bay).moment c.flush_all.ensures.calls) c.put_digest-blocks.ensures.calls (few_by _ w behind c.put_digest-blocks.new.table (g.B.Bay.state c.put_digest-blocks.new.bay).moment (g.B.Bay.state c.flush_all-2.new.bay).moment c.flush_all-2.ensures.calls) (few_by _ w behind c.flush_all-2.new.table (g.B.Bay.state c.flush_all-2.new.bay).moment (g.B.Bay.state c.put_feet.new.bay).moment c.put_feet.ensures.calls) (few_by _ w behind c.put_feet.new.table (g.B.Bay.state c.put_feet.new.bay).moment (g.B.Bay.state c.flush_all-3.new.bay).moment c.flush_all-3.ensures.calls) c.put_digest-blocks.ensures.firm c.put_feet.ensures.spread.firm

pub returns-clause-held : goal.returns-clause-held
returns-clause-held g c =
    let w = c.args.self.now in
    let parts : c.digest_records-parts.result ≡ parts_of w = c.digest_records-parts.ensures ∙ ap parts_of c.self.view_is in
    λ es fits. subst (λ (v : Writer). FitsIn v es c.flush_all-3.new.table (g.B.Bay.state c.flush_all-3.new.bay))
    (sym (closed_view w _ c.put_digest-blocks.result c.digest_records-parts.result (c.self-2.view_is ∙ c.put_digest-blocks.ensures.writer) c.put_digest-blocks.ensures.blocks parts))
    (closed_fits w es c.args.table.now c.flush_all-3.new.table (g.B.Bay.state c.args.bay.now) (g.B.Bay.state c.flush_all-3.new.bay) c.requires.open c.put_digest-blocks.ensures.can (returns-clause-closes g c).grows fits)
