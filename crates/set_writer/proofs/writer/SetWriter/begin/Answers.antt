use Rattle.std.proofs.Common.{◌≡◌, ℕ, ◌+◌, ◌<◌, ◌≤◌, List, [], length, take, get_or, refl, sym, ap, subst, ◌∙◌, arith, length-take}
use Rattle.std.proofs.lemmas.List.{take_all}
use Rattle.smore_base.specs.Geometry.{IsWithinLimits}
use Rattle.zone_bay.specs.Contents.{Lengths}
use Rattle.set_table.specs.Table.{Table}
use Rattle.set_writer.specs.declared.first.First.{First}
use Rattle.set_writer.specs.declared.first.First.TheVariants.{Opens, Keeps, IsReady}
use Rattle.set_writer.specs.Entry.{Entry, entry_bytes}
use Rattle.set_writer.specs.Members.{Spreads, Flushes}
use Rattle.set_writer.specs.Writer.{Writer, array_by, behind, headed, first_marker, first_record}
use Rattle.set_writer.specs.Fit.{live_of}
use Rattle.set_writer.specs.Rounds.{InRounds}
use Rattle.set_writer.specs.Calls.{MayBegin, Began}
use Rattle.set_writer.proofs.BeganLaws.{flushed_others, began_none, began_more, began_stays, may_push, can_at, cut_may, take-next, headed-length, headed-more, opening-is, began_flushed, firm_after}
use Rattle.set_writer.proofs.RoundLaws.{one_round, in_rounds_then}
use Rattle.set_writer.proofs.writer.SetWriter.begin.Goals as goal

pub loop-cut-init : goal.loop-cut-init
loop-cut-init g c =
    let w = c.args.self.now in
    let within = subst (λ (v : Writer). IsWithinLimits v.geometry) c.self.view_is c.self.invariant.within in
    let id : length w.id ≡ 16 = sym (ap (λ (v : Writer). length v.id) c.self.view_is) ∙ c.self.told in
    record {
      began =
          began_more w w c.push_first.new.self [] Opens c.args.table.now c.args.table.now c.push_first.new.table _ _ _ (g.met.B.Bay.sound c.args.bay.now) (g.met.B.Bay.sound c.args.bay.now)
          (can_at (array_by w) w.set 0 within id c.requires.set (omega arith)) refl
          (began_none w c.args.table.now (g.B.Bay.state c.args.bay.now) c.requires.begun c.requires.of c.requires.held)
          c.push_first.ensures.writer c.push_first.ensures.spread c.push_first.ensures.held;
      firm = c.push_first.ensures.spread.firm;
      calls = one_round w.set _ c.args.table.now c.push_first.new.table (g.B.Bay.state c.args.bay.now) (g.B.Bay.state c.push_first.new.bay) c.push_first.ensures.spread.grows.table c.push_first.ensures.spread.grows.leads c.push_first.ensures.calls;
    }

pub push_first-requires-in-loop-cut : goal.push_first-requires-in-loop-cut
push_first-requires-in-loop-cut g c =
    let w = c.args.self.now in
    let cuts = c.args.cuts.now in
    let i = c.loop-cut.cut-index in
    let es = headed (array_by w) w.set (take i cuts) in
    let within = subst (λ (v : Writer). IsWithinLimits v.geometry) c.self.view_is c.self.invariant.within in
    let id : length w.id ≡ 16 = sym (ap (λ (v : Writer). length v.id) c.self.view_is) ∙ c.self.told in
    let before : i < length cuts = c.loop-cut-test.true in
    let few = c.requires.cuts.few in
    let room = c.requires.room in
    let long : length es ≡ 1 + i = headed-length (array_by w) w.set (take i cuts) ∙ (let t = length-take i cuts in omega (arith, t, before)) in
    let short = c.of_cut.ensures.short in
    let it = may_push w c.loop-cut.self es (Keeps (get_or cuts i (0, 0)).0 (get_or cuts i (0, 0)).1) c.args.table.now c.loop-cut.table _ _ c.loop-cut.invariant.began
    (can_at (array_by w) w.set (length es) within id c.requires.set (omega (arith, long, before, few)))
    (omega (arith, long, before, room))
    (cut_may w.set cuts i (length es) (0, 0) c.requires.cuts before short (omega (arith, long))) in
    record { of = it.of; «open» = it.open_; blocks = it.blocks; few = it.few; room = it.room; set = (it.set_from, it.set_to); first = subst (MayBegin c.loop-cut.self.set c.loop-cut.self.records) (sym c.of_cut.ensures.first) it.first_may; held = it.held }

pub loop-cut-preserved : goal.loop-cut-preserved
loop-cut-preserved g c =
    let w = c.args.self.now in
    let cuts = c.args.cuts.now in
    let i = c.loop-cut.cut-index in
    let cut = get_or cuts i (0, 0) in
    let es = headed (array_by w) w.set (take i cuts) in
    let within = subst (λ (v : Writer). IsWithinLimits v.geometry) c.self.view_is c.self.invariant.within in
    let id : length w.id ≡ 16 = sym (ap (λ (v : Writer). length v.id) c.self.view_is) ∙ c.self.told in
    let before : i < length cuts = c.loop-cut-test.true in
    let few = c.requires.cuts.few in
    let long : length es ≡ 1 + i = headed-length (array_by w) w.set (take i cuts) ∙ (let t = length-take i cuts in omega (arith, t, before)) in
    let short = c.of_cut.ensures.short in
    let began : Began w (headed (array_by w) w.set (take (i + 1) cuts)) c.push_first-in-loop-cut.new.self c.args.table.now c.push_first-in-loop-cut.new.table (g.B.Bay.state c.args.bay.now) (g.B.Bay.state c.push_first-in-loop-cut.new.bay) =
    subst (λ (l : List Entry). Began w l c.push_first-in-loop-cut.new.self c.args.table.now c.push_first-in-loop-cut.new.table (g.B.Bay.state c.args.bay.now) (g.B.Bay.state c.push_first-in-loop-cut.new.bay))
    (headed-more (array_by w) w.set (take i cuts) cut ∙ ap (headed (array_by w) w.set) (take-next cuts i (0, 0) before))
    (began_more w c.loop-cut.self c.push_first-in-loop-cut.new.self es (Keeps cut.0 cut.1) c.args.table.now c.loop-cut.table c.push_first-in-loop-cut.new.table _ _ _ (g.met.B.Bay.sound c.args.bay.now) (g.met.B.Bay.sound c.loop-cut.bay)
    (can_at (array_by w) w.set (length es) within id c.requires.set (omega (arith, long, before, few)))
    (cut_may w.set cuts i (length es) (0, 0) c.requires.cuts before short (omega (arith, long)))
    c.loop-cut.invariant.began
    (subst (λ (f : First). c.push_first-in-loop-cut.new.self ≡ behind c.loop-cut.self (first_marker (array_by c.loop-cut.self) c.loop-cut.self.set c.loop-cut.self.records f)) c.of_cut.ensures.first c.push_first-in-loop-cut.ensures.writer)
    (subst (λ (f : First). Spreads c.loop-cut.self.set (entry_bytes c.loop-cut.self.geometry.k (first_record (array_by c.loop-cut.self) c.loop-cut.self.set c.loop-cut.self.records f)) c.loop-cut.table c.push_first-in-loop-cut.new.table (g.B.Bay.state c.loop-cut.bay) (g.B.Bay.state c.push_first-in-loop-cut.new.bay)) c.of_cut.ensures.first c.push_first-in-loop-cut.ensures.spread)
    c.push_first-in-loop-cut.ensures.held) in
    let st = began_stays w c.loop-cut.self _ c.args.table.now c.loop-cut.table _ _ c.loop-cut.invariant.began in
    let spread = c.push_first-in-loop-cut.ensures.spread.grows in
    let few = subst (λ s. (g.B.Bay.state c.push_first-in-loop-cut.new.bay).moment ≤ (g.B.Bay.state c.loop-cut.bay).moment + live_of c.loop-cut.table s) st.set_is c.push_first-in-loop-cut.ensures.calls in
    record {
      began = began;
      firm = c.push_first-in-loop-cut.ensures.spread.firm ∙ c.loop-cut.invariant.firm;
      calls = in_rounds_then w.set (length (take i cuts) + 1) 1 (length (take (i + 1) cuts) + 1) c.args.table.now c.loop-cut.table c.push_first-in-loop-cut.new.table (g.B.Bay.state c.args.bay.now) (g.B.Bay.state c.loop-cut.bay) (g.B.Bay.state c.push_first-in-loop-cut.new.bay) (omega (arith, length-take i cuts, length-take (i + 1) cuts, before)) spread.leads.toward.goes_on.keeps_failed c.loop-cut.invariant.calls
          (one_round w.set _ c.loop-cut.table c.push_first-in-loop-cut.new.table (g.B.Bay.state c.loop-cut.bay) (g.B.Bay.state c.push_first-in-loop-cut.new.bay) spread.table spread.leads few);
    }

-- all cuts were written
all_cuts : (cuts : List (ℕ × ℕ)) (i : ℕ) → length cuts ≤ i → take i cuts ≡ cuts
all_cuts cuts i past = take_all i cuts past

pub push_first-requires-2 : goal.push_first-requires-2
push_first-requires-2 g c =
    let w = c.args.self.now in
    let cuts = c.args.cuts.now in
    let es = headed (array_by w) w.set cuts in
    let within = subst (λ (v : Writer). IsWithinLimits v.geometry) c.self.view_is c.self.invariant.within in
    let id : length w.id ≡ 16 = sym (ap (λ (v : Writer). length v.id) c.self.view_is) ∙ c.self.told in
    let few = c.requires.cuts.few in
    let room = c.requires.room in
    let long : length es ≡ 1 + length cuts = headed-length (array_by w) w.set cuts in
    let began = subst (λ (l : List (ℕ × ℕ)). Began w (headed (array_by w) w.set l) c.loop-cut.self c.args.table.now c.loop-cut.table (g.B.Bay.state c.args.bay.now) (g.B.Bay.state c.loop-cut.bay)) (all_cuts cuts c.loop-cut.cut-index c.loop-cut-test.false) c.loop-cut.invariant.began in
    let it = may_push w c.loop-cut.self es IsReady c.args.table.now c.loop-cut.table _ _ began
    (can_at (array_by w) w.set (length es) within id c.requires.set (omega (arith, long, few)))
    (omega (arith, long, room))
    (omega (arith, long)) in
    record { of = it.of; «open» = it.open_; blocks = it.blocks; few = it.few; room = it.room; set = (it.set_from, it.set_to); first = it.first_may; held = it.held }

-- the flush behind them
pub returns-clause-began : goal.returns-clause-began
returns-clause-began g c =
    let w = c.args.self.now in
    let cuts = c.args.cuts.now in
    let es = headed (array_by w) w.set cuts in
    let within = subst (λ (v : Writer). IsWithinLimits v.geometry) c.self.view_is c.self.invariant.within in
    let id : length w.id ≡ 16 = sym (ap (λ (v : Writer). length v.id) c.self.view_is) ∙ c.self.told in
    let few = c.requires.cuts.few in
    let long : length es ≡ 1 + length cuts = headed-length (array_by w) w.set cuts in
    let began = subst (λ (l : List (ℕ × ℕ)). Began w (headed (array_by w) w.set l) c.loop-cut.self c.args.table.now c.loop-cut.table (g.B.Bay.state c.args.bay.now) (g.B.Bay.state c.loop-cut.bay)) (all_cuts cuts c.loop-cut.cut-index c.loop-cut-test.false) c.loop-cut.invariant.began in
    let all = began_more w c.loop-cut.self c.push_first-2.new.self es IsReady c.args.table.now c.loop-cut.table c.push_first-2.new.table _ _ _ (g.met.B.Bay.sound c.args.bay.now) (g.met.B.Bay.sound c.loop-cut.bay)
    (can_at (array_by w) w.set (length es) within id c.requires.set (omega (arith, long, few)))
    (omega (arith, long))
    began c.push_first-2.ensures.writer c.push_first-2.ensures.spread c.push_first-2.ensures.held in
    let set_is : c.self-2.inside.set ≡ c.push_first-2.new.self.set = ap (λ (v : Writer). v.set) c.self-2.view_is in
    began_flushed w c.push_first-2.new.self _ c.args.table.now c.push_first-2.new.table c.flush_all.new.table _ _ _ (g.met.B.Bay.sound c.args.bay.now) (g.met.B.Bay.sound c.push_first-2.new.bay)
    (subst (λ (l : List Entry). Began w l c.push_first-2.new.self c.args.table.now c.push_first-2.new.table (g.B.Bay.state c.args.bay.now) (g.B.Bay.state c.push_first-2.new.bay)) (opening-is (array_by w) w.set cuts) all)
    (subst (λ s. Flushes s c.push_first-2.new.table c.flush_all.new.table (g.B.Bay.state c.push_first-2.new.bay) (g.B.Bay.state c.flush_all.new.bay)) set_is c.flush_all.ensures.flushed)

pub returns-clause-firm : goal.returns-clause-firm
returns-clause-firm g c =
    let w = c.args.self.now in
    let st = began_stays w c.loop-cut.self _ c.args.table.now c.loop-cut.table _ _ c.loop-cut.invariant.began in
    let second : c.push_first-2.new.self.set ≡ c.loop-cut.self.set = ap (λ (v : Writer). v.set) c.push_first-2.ensures.writer in
    let set_is : c.self-2.inside.set ≡ w.set = ap (λ (v : Writer). v.set) c.self-2.view_is ∙ second ∙ st.set_is in
    firm_after w.set c.push_first-2.new.table c.flush_all.new.table _ _
    (subst (λ s. Flushes s c.push_first-2.new.table c.flush_all.new.table (g.B.Bay.state c.push_first-2.new.bay) (g.B.Bay.state c.flush_all.new.bay)) set_is c.flush_all.ensures.flushed)

pub returns-clause-calls : goal.returns-clause-calls
returns-clause-calls g c =
    let w = c.args.self.now in
    let cuts = c.args.cuts.now in
    let st = began_stays w c.loop-cut.self _ c.args.table.now c.loop-cut.table _ _ c.loop-cut.invariant.began in
    let ready = c.push_first-2.ensures.spread.grows in
    let flushed = c.flush_all.ensures.flushed in
    let second : c.push_first-2.new.self.set ≡ c.loop-cut.self.set = ap (λ (v : Writer). v.set) c.push_first-2.ensures.writer in
    let set_is : c.self-2.inside.set ≡ w.set = ap (λ (v : Writer). v.set) c.self-2.view_is ∙ second ∙ st.set_is in
    let few_ready = subst (λ s. (g.B.Bay.state c.push_first-2.new.bay).moment ≤ (g.B.Bay.state c.loop-cut.bay).moment + live_of c.loop-cut.table s) st.set_is c.push_first-2.ensures.calls in
    let few_flushed = subst (λ s. (g.B.Bay.state c.flush_all.new.bay).moment ≤ (g.B.Bay.state c.push_first-2.new.bay).moment + live_of c.push_first-2.new.table s) set_is c.flush_all.ensures.calls in
    let begun = subst (λ n. InRounds w.set n c.args.table.now c.loop-cut.table (g.B.Bay.state c.args.bay.now) (g.B.Bay.state c.loop-cut.bay)) (ap (λ (l : List (ℕ × ℕ)). length l + 1) (all_cuts cuts c.loop-cut.cut-index c.loop-cut-test.false)) c.loop-cut.invariant.calls in
    in_rounds_then w.set (length cuts + 2) 1 (length cuts + 3) c.args.table.now c.push_first-2.new.table c.flush_all.new.table (g.B.Bay.state c.args.bay.now) (g.B.Bay.state c.push_first-2.new.bay) (g.B.Bay.state c.flush_all.new.bay) (omega arith) flushed.leads.toward.goes_on.keeps_failed
    (in_rounds_then w.set (length cuts + 1) 1 (length cuts + 2) c.args.table.now c.loop-cut.table c.push_first-2.new.table (g.B.Bay.state c.args.bay.now) (g.B.Bay.state c.loop-cut.bay) (g.B.Bay.state c.push_first-2.new.bay) (omega arith) ready.leads.toward.goes_on.keeps_failed begun
    (one_round w.set _ c.loop-cut.table c.push_first-2.new.table (g.B.Bay.state c.loop-cut.bay) (g.B.Bay.state c.push_first-2.new.bay) ready.table ready.leads few_ready))
    (one_round w.set _ c.push_first-2.new.table c.flush_all.new.table (g.B.Bay.state c.push_first-2.new.bay) (g.B.Bay.state c.flush_all.new.bay) flushed.table flushed.leads few_flushed)

pub returns-clause-others : goal.returns-clause-others
returns-clause-others g c =
    let w = c.args.self.now in
    let st = began_stays w c.loop-cut.self _ c.args.table.now c.loop-cut.table _ _ c.loop-cut.invariant.began in
    let before = c.loop-cut.invariant.began.grows in
    let ready = c.push_first-2.ensures.spread in
    let second : c.push_first-2.new.self.set ≡ c.loop-cut.self.set = ap (λ (v : Writer). v.set) c.push_first-2.ensures.writer in
    let set_is : c.self-2.inside.set ≡ w.set = ap (λ (v : Writer). v.set) c.self-2.view_is ∙ second ∙ st.set_is in
    flushed_others w.set c.args.table.now c.push_first-2.new.table c.flush_all.new.table (g.B.Bay.state c.args.bay.now) (g.B.Bay.state c.push_first-2.new.bay) (g.B.Bay.state c.flush_all.new.bay)
    (ready.grows.table ∙ ap (λ (s : Table). record s { lost = c.push_first-2.new.table.lost }) before.table)
    (λ d live. before.leads.stays_lost d (ready.grows.leads.stays_lost d live))
    (λ d z none. ap (λ (f : Lengths). f d z) (ready.firm ∙ c.loop-cut.invariant.firm))
    (subst (λ s. Flushes s c.push_first-2.new.table c.flush_all.new.table (g.B.Bay.state c.push_first-2.new.bay) (g.B.Bay.state c.flush_all.new.bay)) set_is c.flush_all.ensures.flushed)
