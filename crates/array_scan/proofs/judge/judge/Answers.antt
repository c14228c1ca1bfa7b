use Rattle.std.proofs.Common.{◌≡◌, ℕ, List, map, take, sym, ap, ◌∙◌, subst}
use Rattle.array_model.specs.Sets.{lesser, least_kept}
use Rattle.array_scan.specs.declared.set_read.RecordAt.{RecordAt}
use Rattle.array_scan.specs.declared.judge.SetScan.{SetScan}
use Rattle.array_scan.specs.Judged.{Payloads, record_with, noted}
use Rattle.array_scan.proofs.JudgedSets.{JudgedBeside, JudgedSoFar, judged_one, beside_standing, beside_fallen}
use Rattle.array_scan.proofs.judge.judge.Goals as goal
use Rattle.array_scan.proofs.judge.judge.Goals.{then-stands, else-stands}

-- src/judge.rt:102:5
pub loop-read-preserved : goal.loop-read-preserved
loop-read-preserved c =
    let s : SetScan = record { read = c.in-Some.read; stands = c.stands-stands.result; valid = c.if-stands.valid } in
    let old = c.loop-read.kept in
    let new = c.note_cuts.new.kept in
    let noted_is : (payload : Payloads) (target : ℕ) → noted new target ≡ lesser (least_kept target (map (record_with (payload s.read.carriers.items)) (take s.valid s.read.records.items))) (noted old target) =
    λ payload target. c.in_ok-note_cuts.ensures (payload s.read.carriers.items) target ∙ ap (λ (rs : List RecordAt). lesser (least_kept target (map (record_with (payload s.read.carriers.items)) (take s.valid rs))) (noted old target)) c.deref.ensures.value in
    let beside : JudgedBeside c.args.k old new s = elim c.if-stands.branch [
      | then-stands w ↦ beside_standing c.args.k old new s w.valid_len-valid.result w.valid-is w.valid_len-valid.ensures.within c.stands-stands.ensures w.valid_len-valid.ensures.cut w.if-stands.true noted_is
      | else-stands w ↦ beside_fallen c.args.k old new s w.valid-is c.stands-stands.ensures w.if-stands.false noted_is
    ] in
    subst (λ (l : List SetScan). JudgedSoFar c.args.k c.args.sets.items c.pop.new.self.items l new) (sym c.in_ok-insert.ensures.items)
    (judged_one c.args.k c.args.sets.items c.loop-read.sets.items c.pop.new.self.items c.loop-read.judged.items old new s c.in-Some.ensures.items c.loop-read.invariant beside)
