use Rattle.std.proofs.Common.{◌≡◌, ◌<◌, ◌≤◌, ℕ, List, length, get_or, refl, ap, sym, subst, ◌∙◌, arith}
use Rattle.std.specs.List.{AllByRecursion}
use Rattle.set_table.specs.declared.members.Member.{Member}
use Rattle.set_table.specs.Table.{Table, is_live}
use Rattle.set_table.specs.Table.{array_of}
use Rattle.set_reader.specs.Carriers.{carrier_by, carriers_by, IsOneOf}
use Rattle.set_reader.specs.Calls.{OnlyReadsBy, live_count}
use Rattle.set_reader.proofs.Told.{told_at, told_from}
use Rattle.set_reader.proofs.LossLaws.{count_falls, reads_lost}
use Rattle.set_table.specs.Points.{point_at}
use Rattle.set_reader.specs.Attempts.{Failed}
use Rattle.set_reader.proofs.AttemptLaws.{attempt_failed}
use Rattle.set_reader.proofs.PlaceLaws.{one_at, marker_within, lengths_are}
use Rattle.set_reader.proofs.lengths.try_lengths.Goals as goal

abbrev no_member : Member
no_member = record { index = 0; device = 0; zone = 0 }

-- the first member is a carrier
first_of : (t : Table) (set : ℕ) (all members : List Member) → all ≡ members → 1 ≤ t.geometry.k → t.geometry.k ≤ length members → AllByRecursion (IsOneOf t set) (carriers_by members) → IsOneOf t set (carrier_by (get_or all 0 no_member))
first_of t set all members same some enough each =
    one_at t set all 0 no_member (omega (arith, ap (λ (l : List Member). length l) same)) (subst (λ (l : List Member). AllByRecursion (IsOneOf t set) (carriers_by l)) (sym same) each)

pub read_marker_at-requires-clause-written : goal.read_marker_at-requires-clause-written
read_marker_at-requires-clause-written g c =
    let bay = g.B.Bay.state c.args.bay.now in
    let t = c.args.table.now in
    let one = first_of t c.args.place.now.set c.deref.result.now c.in_ok-members.members.items c.deref.ensures.0 c.in_ok-members.ensures.together.within.k_from c.in_ok-members.ensures.enough c.in_ok-members.ensures.carriers.each in
    told_from bay.contents _ (λ held is.
    let stands = told_at bay.contents _ held is c.requires.stands in
    marker_within (array_of t) _ c.args.place.now.block stands.0 (stands.1 _ _ _ one.below one.carrier))

pub returns-in-Ok-Some-clause-lengths : goal.returns-in-Ok-Some-clause-lengths
returns-in-Ok-Some-clause-lengths g c =
    let bay = g.B.Bay.state c.args.bay.now in
    let t = c.args.table.now in
    let one = first_of t c.args.place.now.set c.deref.result.now c.in_ok-members.members.items c.deref.ensures.0 c.in_ok-members.ensures.together.within.k_from c.in_ok-members.ensures.enough c.in_ok-members.ensures.carriers.each in
    told_from bay.contents _ (λ held is m stands.
    let read = told_at bay.contents _ held is c.in-Ok-Some.ensures.marker in
    lengths_are (array_of t) _ c.args.place.now.block m c.in-Ok-Some.marker _ (stands _ _ _ one.below one.carrier) (sym c.in-Ok-Some.field-0-is ∙ read) refl)

pub returns-in-Err-clause-lost : goal.returns-in-Err-clause-lost
returns-in-Err-clause-lost g c =
    let t = c.args.table.now in
    let one = first_of t c.args.place.now.set c.deref.result.now c.in_ok-members.members.items c.deref.ensures.0 c.in_ok-members.ensures.together.within.k_from c.in_ok-members.ensures.enough c.in_ok-members.ensures.carriers.each in
    let live = ap (is_live t) c.in-Err.ensures.device ∙ one.carrier.live in
    subst (λ (x : Table). live_count x < live_count t) (sym c.lose.ensures) (count_falls t c.in-Err.device live)

pub returns-in-Err-clause-reads : goal.returns-in-Err-clause-reads
returns-in-Err-clause-reads g c =
    let t = c.args.table.now in
    let one = first_of t c.args.place.now.set c.deref.result.now c.in_ok-members.members.items c.deref.ensures.0 c.in_ok-members.ensures.together.within.k_from c.in_ok-members.ensures.enough c.in_ok-members.ensures.carriers.each in
    let live = ap (is_live t) c.in-Err.ensures.device ∙ one.carrier.live in
    let old = g.B.Bay.state c.args.bay.now in
    let new = g.B.Bay.state c.read_marker_at.new.bay in
    subst (λ (x : Table). OnlyReadsBy t x old new) (sym c.lose.ensures) (reads_lost t c.in-Err.device live 1 old new c.in-Err.ensures.reads)

pub returns-in-Err-clause-failed : goal.returns-in-Err-clause-failed
returns-in-Err-clause-failed g c =
    let t = c.args.table.now in
    let one = first_of t c.args.place.now.set c.deref.result.now c.in_ok-members.members.items c.deref.ensures.0 c.in_ok-members.ensures.together.within.k_from c.in_ok-members.ensures.enough c.in_ok-members.ensures.carriers.each in
    let live = ap (is_live t) c.in-Err.ensures.device ∙ one.carrier.live in
    let old = g.B.Bay.state c.args.bay.now in
    let new = g.B.Bay.state c.read_marker_at.new.bay in
    subst (λ (x : Table). Failed 1 new.failed (point_at t old) (point_at x new)) (sym c.lose.ensures) (attempt_failed t c.in-Err.device 1 old new live c.in-Err.ensures.reads)
