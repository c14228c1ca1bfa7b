use Rattle.std.proofs.Common.{◌≡◌, ℕ, ◌+◌, ◌<◌, List, length, get_or, inl, inr, subst, arith}
use Rattle.std.proofs.lemmas.Bool.{cases_lt}
use Rattle.std.proofs.lemmas.List.{get_or_default}
use Rattle.set_writer.proofs.open.check_cuts.Goals as goal

-- one more cut is short
short_more : (cuts : List (ℕ × ℕ)) (n : ℕ) (e : ℕ × ℕ) → n < length cuts → ((i : ℕ) (d : ℕ × ℕ) → i < n → (get_or cuts i d).1 < 65536) → (get_or cuts n e).1 < 65536 → (i : ℕ) (d : ℕ × ℕ) → i < n + 1 → (get_or cuts i d).1 < 65536
short_more cuts n e within before short i d below = elim (cases_lt i n) [
  | inl earlier ↦ before i d earlier
  | inr last ↦
      let same : n ≡ i = omega (arith, below, last) in
      subst (λ (c : ℕ × ℕ). c.1 < 65536) (get_or_default cuts i e d (subst (λ k. k < length cuts) same within)) (subst (λ k. (get_or cuts k e).1 < 65536) same short)
]

pub loop-cut-preserved : goal.loop-cut-preserved
loop-cut-preserved c = short_more c.args.cuts.now c.loop-cut.cut-index (0, 0) c.loop-cut-test.true c.loop-cut.invariant c.of_cut.ensures.short

pub returns : goal.returns
returns c = λ i d within. c.loop-cut.invariant i d (let past = c.loop-cut-test.false in omega (arith, within, past))
