use Rattle.std.proofs.Common.{◌≡◌, ◌≤◌, ◌-◌, ◌+◌, ◌*◌, length, rules, sym, subst, arith}
use Rattle.rs_code.specs.Fragments.{piece, GivesFragment, sources}
use Rattle.rs_code.proofs.Codes.{code_through}
use Rattle.rs_code.proofs.Sources.{sources_are_indexes}
use Rattle.rs_code.proofs.Pieces.{piece_within, piece_whole, pieces_more}
use Rattle.rs_code.proofs.code.Code.parities_into.Goals as goal

pub slice_bounds-two_parities_into-end : goal.slice_bounds-two_parities_into-end
slice_bounds-two_parities_into-end c =
    let s = c.loop-pair in
    let lt = c.loop-pair-test.true in
    let within = piece_within c.args.self.now.p c.args.f (2 * s.pair + 1) (omega arith) in
    let total = c.requires.room in
    let same = s.auto.out in
    let fits : 2 * s.pair * c.args.f + 2 * c.args.f ≤ length s.out = omega arith in
    search rules

pub loop-pair-preserved : goal.loop-pair-preserved
loop-pair-preserved c = λ i h.
    let s = c.loop-pair in
    let code = c.args.self.now in
    let f = c.args.f in
    let j = 2 * s.pair in
    let lt = c.loop-pair-test.true in
    let within = piece_within code.p f (j + 1) (omega arith) in
    let total = c.requires.room in
    let same = s.auto.out in
    let made = c.two_parities_into.auto.out in
    pieces_more (λ m row. GivesFragment code.k (code.k + code.p) f (sources code.k) c.args.shards.now (code.k + m) row) f j 2 (j * f + 2 * f - j * f) s.out c.two_parities_into.new.out
    (omega arith) (omega arith) s.invariant c.two_parities_into.ensures i (omega arith)

pub returns-then-self-eq1-clause-fragments : goal.returns-then-self-eq1-clause-fragments
returns-then-self-eq1-clause-fragments c = λ i h.
    let s = c.loop-pair in
    let code = c.args.self.now in
    let k = code.k in
    let f = c.args.f in
    let j = code.p - 1 in
    let odd = c.if-self-eq1.true in
    let ended = c.loop-pair-test.false in
    let within = piece_within code.p f j (omega arith) in
    let total = c.requires.room in
    let same = s.auto.out in
    let room = c.parity_into.auto.out in
    let out = c.parity_into.new.out in
    let long : length out ≡ f = omega arith in
    pieces_more (λ m row. GivesFragment k (k + code.p) f (sources k) c.args.shards.now (k + m) row) f j 1 (j * f + f - j * f) s.out out
    (omega arith) (omega arith) (λ m lt. s.invariant m (omega arith))
    (λ m lt.
    subst (λ n. GivesFragment k (k + code.p) f (sources k) c.args.shards.now (k + (j + n)) (piece out f n)) (let z : 0 ≡ m = omega arith in z)
    (subst (λ n. GivesFragment k (k + code.p) f (sources k) c.args.shards.now (k + n) (piece out f 0)) (let z : j ≡ j + 0 = omega arith in z)
    (subst (GivesFragment k (k + code.p) f (sources k) c.args.shards.now (k + j)) (sym (piece_whole f out long)) c.parity_into.ensures.fragment)))
    i (omega arith)

pub returns-else-self-eq1-clause-code : goal.returns-else-self-eq1-clause-code
returns-else-self-eq1-clause-code c =
    let code = c.args.self.now in
    let few = code.few in
    code_through code.k (code.k + code.p) c.args.f (sources code.k) c.args.shards.now (omega arith) (sources_are_indexes code.k (code.k + code.p) (omega arith))
    (λ i. let fits = c.type_inv.shards i in omega arith) c.requires.size
