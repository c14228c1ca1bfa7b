use Rattle.std.proofs.Common.{◌≡◌, ◌-◌, ℕ, true, false, List, length, drop, Some, None, cond, sym, ap, ◌∙◌, subst, arith}
use Rattle.array_scan.specs.declared.set_read.RecordAt.{RecordAt}
use Rattle.array_scan.specs.declared.records.ValidRecord.{ValidRecord}
use Rattle.array_scan.proofs.JudgedSets.{from_last}
use Rattle.array_scan.proofs.FoundNotes.{NewestSoFar, newest_other, newest_later, newest_earlier}
use Rattle.array_scan.proofs.notes.newest.Goals as goal
use Rattle.array_scan.proofs.notes.newest.Goals.{then-is_note_of+then-is_later, else-is_note_of, else-is_note_of-via-then-is_note_of+else-is_later, else-is_note_of-via-else-is_note_of}

-- src/notes.rt:53:5
pub loop-i-preserved : goal.loop-i-preserved
loop-i-preserved c =
    let records = c.args.records.now in
    let name = c.args.name.now in
    let i = c.loop-i.i in
    let v = c.index-records-count.result in
    let rest = drop (length records - i) records in
    let found = c.loop-i.found in
    let own = λ (payload : RecordAt → List ℕ) (yes : c.is_note_of.result ≡ true). c.is_note_of.ensures payload ∙ ap (λ b. cond b (Some v.at.now.marker.stamp) None) yes in
    let other = λ (payload : RecordAt → List ℕ) (no : c.is_note_of.result ≡ false). c.is_note_of.ensures payload ∙ ap (λ b. cond b (Some v.at.now.marker.stamp) None) no in
    subst (λ (l : List ValidRecord). NewestSoFar name l c.if-is_note_of.found) (sym (from_last records i v _ (omega (arith, c.loop-i-test.true)) c.index-records-count.is))
    (elim c.if-is_note_of.branch [
      | then-is_note_of+then-is_later w ↦
          rw w.found-is (newest_later name v rest (λ payload. own payload w.if-is_note_of.true) found (sym w.is_later.ensures ∙ w.if-is_later.true) c.loop-i.invariant)
      | else-is_note_of w ↦ elim w.else-is_note_of.branch [
        | else-is_note_of-via-then-is_note_of+else-is_later u ↦
            rw w.found-is (newest_earlier name v rest (λ payload. own payload u.if-is_note_of.true) found (sym u.is_later.ensures ∙ u.if-is_later.false) c.loop-i.invariant)
        | else-is_note_of-via-else-is_note_of u ↦
            rw w.found-is (newest_other name v rest found (λ payload. other payload u.if-is_note_of.false) c.loop-i.invariant)
      ]
    ])
