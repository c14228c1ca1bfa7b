use Rattle.std.proofs.Common.{List, ◌+◌, sym, subst}
use Rattle.array_scan.specs.declared.records.ValidRecord.{ValidRecord}
use Rattle.array_scan.proofs.NeededRecords.{FoundSoFar, one_needed, none_needed, element_at}
use Rattle.array_scan.proofs.needed.needed_among.Goals as goal
use Rattle.array_scan.proofs.needed.needed_among.Goals.{then-branch+in_ok-push, else-branch}

pub loop-i-preserved : goal.loop-i-preserved
loop-i-preserved g c =
    let before = g.B.Bay.state c.args.bay.now in
    let mid = g.B.Bay.state c.loop-i.bay in
    let after = g.B.Bay.state c.is_needed.new.bay in
    let k = c.args.code.now.k in
    let sets = c.args.sets.now in
    let records = c.args.records.now in
    let i = c.loop-i.i in
    let needed = c.loop-i.needed.items in
    elim c.if-branch.branch [
      | then-branch+in_ok-push w ↦
          rw w.needed-is
          (subst (λ (l : List ValidRecord). FoundSoFar k before after sets records (i + 1) l) (sym w.in_ok-push.ensures.items)
          (one_needed k before mid after sets records i w.index-records-i.result c.in_ok-is_needed.field-0 c.loop-i-test.true w.index-records-i.is needed c.loop-i.invariant c.in_ok-is_needed.ensures.reads c.in_ok-is_needed.ensures.needed w.if-branch.true))
      | else-branch w ↦
          let v = element_at records i c.loop-i-test.true in
          rw w.needed-is
          (none_needed k before mid after sets records i v.0 c.in_ok-is_needed.field-0 c.loop-i-test.true v.1 needed c.loop-i.invariant c.in_ok-is_needed.ensures.reads c.in_ok-is_needed.ensures.needed w.if-branch.false)
    ]
