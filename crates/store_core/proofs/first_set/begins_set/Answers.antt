use Rattle.std.proofs.Common.{◌≡◌, ℕ, List, take, length, arith, refl, replicate, length-take}
use Rattle.std.proofs.lemmas.List.{take_at, length-replicate}
use borrow.Rule.Slice.PartMut.{put_mid, post_of}
use Rattle.store_core.specs.Opening.{array_by}
use Rattle.store_core.proofs.FirstSet.{none_begins, begins_told}
use Rattle.store_core.proofs.first_set.begins_set.Goals as goal

pub returns-then-written-ge-FIRST_BYTES-clause-begins : goal.returns-then-written-ge-FIRST_BYTES-clause-begins
returns-then-written-ge-FIRST_BYTES-clause-begins g c =
    none_begins (g.B.Bay.state c.args.bay.now).contents (array_by c.args.label.now) c.write_first.new.out c.args.written c.write_first.ensures c.write_first.auto.out c.requires.written c.if-written-ge-FIRST_BYTES.true

pub returns-clause-begins : goal.returns-clause-begins
returns-clause-begins g c =
    let w = c.args.written in
    let zeros : List ℕ = replicate 1024 0 in
    let out = c.read.new.out in
    let long : length out ≡ w = omega (arith, c.read.auto.out, length-take w zeros, length-replicate {A = ℕ} 1024 0, c.if-written-ge-FIRST_BYTES.false) in
    begins_told (g.B.Bay.state c.args.bay.now).contents (array_by c.args.label.now) c.write_first.new.out w c.write_first.ensures c.write_first.auto.out c.requires.written c.eq.result (take w (put_mid 0 w zeros out)) (take w c.write_first.new.out) out c.eq.ensures
    (take_at out (post_of 0 w zeros) w long) refl c.if-written-ge-FIRST_BYTES.false long c.in_ok-read.ensures.bytes
