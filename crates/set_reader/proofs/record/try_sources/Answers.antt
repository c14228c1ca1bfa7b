use Rattle.std.proofs.Common.{◌≡◌, ◌+◌, ◌-◌, ◌*◌, ◌<◌, ◌≤◌, ℕ, List, length, take, drop, ap, sym, subst, ◌∙◌, arith}
use Rattle.smore_base.specs.declared.geometry.Geometry.{Geometry}
use Rattle.rs_code.specs.Fragments.{AreIndexes}
use Rattle.set_table.specs.declared.members.Member.{Member}
use Rattle.set_table.specs.Table.{Table}
use Rattle.set_reader.specs.Carriers.{carriers_by, AreCarriers}
use Rattle.set_reader.specs.Calls.{OnlyReadsBy, live_count}
use Rattle.set_table.specs.Points.{point_at}
use Rattle.set_reader.specs.Attempts.{Failed}
use Rattle.set_reader.proofs.AttemptLaws.{attempt_failed}
use Rattle.set_reader.specs.Rows.{IsInBay, HasBlocks, space_of, indexes_of}
use Rattle.set_reader.proofs.Told.{told_at, told_from}
use Rattle.set_reader.proofs.LossLaws.{lost_of, within, count_falls, reads_lost}
use Rattle.set_reader.proofs.FirstLaws.{first_all, in_bay, has_blocks, first_indexes, devices_are_live, begins}
use Rattle.set_reader.proofs.SourceLaws.{written_part, space_holds}
use Rattle.std.proofs.lemmas.List.{length-take, length-drop, length-take-le}
use Rattle.set_reader.proofs.record.try_sources.Goals as goal

-- the carriers, as they are borrowed
borrowed : (t : Table) (set : ℕ) (all members : List Member) → all ≡ members → AreCarriers t set (carriers_by members) → AreCarriers t set (carriers_by all)
borrowed t set all members same are = subst (λ (l : List Member). AreCarriers t set (carriers_by l)) (sym same) are

pub fill-requires-clause-indexes : goal.fill-requires-clause-indexes
fill-requires-clause-indexes g c =
    let t = c.args.table.now in
    let all = c.deref.result.now in
    subst (λ (g : Geometry). AreIndexes g.k (g.k + g.p) (indexes_of (take g.k all))) (sym c.geometry.ensures.same)
    (first_indexes t c.args.place.now.set t.geometry.k all (borrowed t _ all _ c.deref.ensures.0 c.in_ok-members.ensures.carriers) (omega (arith, c.in_ok-members.ensures.enough, ap length c.deref.ensures.0)))

pub fill-requires-clause-zones : goal.fill-requires-clause-zones
fill-requires-clause-zones g c =
    let t = c.args.table.now in
    let all = c.deref.result.now in
    let set = c.args.place.now.set in
    let are = borrowed t set all _ c.deref.ensures.0 c.in_ok-members.ensures.carriers in
    first_all (IsInBay (g.B.Bay.state c.args.bay.now).shape) t set c.geometry.result.now.k all (λ m is. in_bay t (g.B.Bay.state c.args.bay.now).shape set m c.in_ok-members.ensures.together c.requires.shape is) are.each

pub fill-requires-clause-written : goal.fill-requires-clause-written
fill-requires-clause-written g c =
    let t = c.args.table.now in
    let all = c.deref.result.now in
    let place = c.args.place.now in
    let bay = g.B.Bay.state c.args.bay.now in
    let are = borrowed t place.set all _ c.deref.ensures.0 c.in_ok-members.ensures.carriers in
    told_from bay.contents _ (λ held is.
    let stands = told_at bay.contents _ held is c.requires.stands in
    first_all (HasBlocks held place.block c.args.f) t place.set c.geometry.result.now.k all (λ m is. has_blocks t place.set place.block c.args.f stands.0 held m stands.1 stands.2 is) are.each)

pub lose-requires : goal.lose-requires
lose-requires g c =
    let t = c.args.table.now in
    let all = c.deref.result.now in
    let set = c.args.place.now.set in
    let are = borrowed t set all _ c.deref.ensures.0 c.in_ok-members.ensures.carriers in
    let live = devices_are_live t set c.geometry.result.now.k c.in-Err.device all are.each c.in-Err.ensures.device in
    let below = within t c.in-Err.device live in
    let devices = c.in_ok-members.ensures.together.devices in
    omega (arith, below, devices)

pub returns-in-Ok-clause-sources : goal.returns-in-Ok-clause-sources
returns-in-Ok-clause-sources g c =
    let t = c.args.table.now in
    let all = c.deref.result.now in
    let place = c.args.place.now in
    let bay = g.B.Bay.state c.args.bay.now in
    let are = borrowed t place.set all _ c.deref.ensures.0 c.in_ok-members.ensures.carriers in
    let k = c.geometry.result.now.k in
    let f = c.args.f in
    let D = c.deref_mut.result.now in
    let first : length (take k all) ≡ k = length-take-le k all (omega (arith, c.in_ok-members.ensures.enough, ap length c.deref.ensures.0, ap (λ (g : Geometry). g.k) c.geometry.ensures.same)) in
    let room : k * f ≤ c.space_for-space.result = subst (λ n. k * f ≤ n) (sym c.space_for-space.ensures) (subst (λ n. n * f ≤ space_of c.are_sources-plain.result (length (take k all) * f) f) first (space_holds c.are_sources-plain.result (length (take k all) * f) f)) in
    let end : c.in-Some.end ≡ c.args.from + c.space_for-space.result = c.in-Some.ensures.1 in
    let len : c.resize.new.self.len ≡ c.in-Some.end = c.in_ok-resize.ensures.len in
    let whole : length D ≡ c.resize.new.self.len = ap length c.deref_mut.ensures.value ∙ sym c.resize.new.self.ok.0 in
    let enough : c.args.from + k * f ≤ length D = omega (arith, room, end, len, whole) in
    told_from bay.contents _ (λ held is yes m stands long.
    begins t place held m all c.args.f c.geometry.result.now.k _ are (omega (arith, c.in_ok-members.ensures.enough, ap length c.deref.ensures.0)) long (ap (λ (g : Geometry). g.k) c.geometry.ensures.same)
    (written_part c.args.from (c.geometry.result.now.k * c.args.f) c.resize.new.self.len (take c.args.from c.deref_mut.result.now) c.fill.new.space _ _ (length-take-le c.args.from D (omega (arith, enough))) (omega (arith, c.fill.auto.space, length-take (length D - c.args.from) (drop c.args.from D), length-drop c.args.from D, enough)) (omega (arith, enough, whole))
    ∙ told_at bay.contents _ held is c.in-Ok.ensures.sources))

pub returns-in-Err-clause-lost : goal.returns-in-Err-clause-lost
returns-in-Err-clause-lost g c =
    let t = c.args.table.now in
    let all = c.deref.result.now in
    let set = c.args.place.now.set in
    let are = borrowed t set all _ c.deref.ensures.0 c.in_ok-members.ensures.carriers in
    let live = devices_are_live t set c.geometry.result.now.k c.in-Err.device all are.each c.in-Err.ensures.device in
    λ no. subst (λ (x : Table). live_count x < live_count t) (sym c.lose.ensures) (count_falls t c.in-Err.device live)

pub returns-in-Err-clause-reads : goal.returns-in-Err-clause-reads
returns-in-Err-clause-reads g c =
    let t = c.args.table.now in
    let all = c.deref.result.now in
    let set = c.args.place.now.set in
    let are = borrowed t set all _ c.deref.ensures.0 c.in_ok-members.ensures.carriers in
    let live = devices_are_live t set c.geometry.result.now.k c.in-Err.device all are.each c.in-Err.ensures.device in
    let old = g.B.Bay.state c.args.bay.now in
    let new = g.B.Bay.state c.fill.new.bay in
    subst (λ (x : Table). OnlyReadsBy t x old new) (sym c.lose.ensures) (reads_lost t c.in-Err.device live _ old new c.in-Err.ensures.reads)

pub returns-in-Err-clause-failed : goal.returns-in-Err-clause-failed
returns-in-Err-clause-failed g c =
    let t = c.args.table.now in
    let all = c.deref.result.now in
    let set = c.args.place.now.set in
    let are = borrowed t set all _ c.deref.ensures.0 c.in_ok-members.ensures.carriers in
    let live = devices_are_live t set c.geometry.result.now.k c.in-Err.device all are.each c.in-Err.ensures.device in
    let old = g.B.Bay.state c.args.bay.now in
    let new = g.B.Bay.state c.fill.new.bay in
    let k = ap (λ (g : Geometry). g.k) c.geometry.ensures.same in
    λ no. subst (λ (x : Table). Failed t.geometry.k new.failed (point_at t old) (point_at x new)) (sym c.lose.ensures)
    (subst (λ (n : ℕ). Failed n new.failed (point_at t old) (point_at (lost_of t c.in-Err.device) new)) k (attempt_failed t c.in-Err.device c.geometry.result.now.k old new live c.in-Err.ensures.reads))
