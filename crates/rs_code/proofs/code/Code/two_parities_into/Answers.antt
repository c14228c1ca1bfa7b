use Rattle.std.proofs.Common.{◌≡◌, ◌+◌, ◌++◌, length, sym, subst, inl, inr, arith}
use Rattle.std.proofs.lemmas.Bool.{cases_eq}
use Rattle.rs_code.specs.Fragments.{piece, GivesFragment, sources}
use Rattle.rs_code.proofs.Combination.{given_by_sums}
use Rattle.rs_code.proofs.Pieces.{first_of_two, second_of_two}
use Rattle.rs_code.proofs.Sources.{sources_are_indexes}
use Rattle.rs_code.proofs.code.Code.two_parities_into.Goals as goal

pub returns : goal.returns
returns c =
    let code = c.args.self.now in
    let k = code.k in
    let f = c.args.f in
    let few = code.few in
    let sums = c.combine_both.ensures in
    let first = c.combine_both.new.first in
    let second = c.combine_both.new.second in
    let shards = c.args.shards.now in
    let j = c.args.j in
    let first_len : length first ≡ f = omega (arith, c.combine_both.auto.first, c.split_at_mut-first.ensures.front_len, c.requires.room) in
    let second_len : length second ≡ f = omega (arith, c.combine_both.auto.second, c.split_at_mut-first.ensures.back_len, c.requires.room) in
    let one =
    given_by_sums k (k + code.p) f (sources k) shards c.parity_factors-factors.result.now first (k + j)
    (omega arith) (sources_are_indexes k (k + code.p) (omega arith)) (omega arith)
    c.parity_factors-factors.ensures.factors c.parity_factors-factors.ensures.all first_len sums.first
    in
    let other =
    given_by_sums k (k + code.p) f (sources k) shards c.parity_factors-others.result.now second (k + (j + 1))
    (omega arith) (sources_are_indexes k (k + code.p) (omega arith)) (omega arith)
    c.parity_factors-others.ensures.factors c.parity_factors-others.ensures.all second_len sums.second
    in
    λ i h. elim (cases_eq i 0) [
      | inl e ↦
          subst (λ n. GivesFragment k (k + code.p) f (sources k) shards (k + (j + n)) (piece (first ++ second) f n)) (sym e)
          (subst (λ row. GivesFragment k (k + code.p) f (sources k) shards (k + (j + 0)) row) (sym (first_of_two f first second first_len))
          (subst (λ n. GivesFragment k (k + code.p) f (sources k) shards n first) (let z : k + j ≡ k + (j + 0) = omega arith in z) one))
      | inr ne ↦
          subst (λ n. GivesFragment k (k + code.p) f (sources k) shards (k + (j + n)) (piece (first ++ second) f n)) (let e : 1 ≡ i = omega arith in e)
          (subst (λ row. GivesFragment k (k + code.p) f (sources k) shards (k + (j + 1)) row) (sym (second_of_two f first second first_len second_len)) other)
    ]
