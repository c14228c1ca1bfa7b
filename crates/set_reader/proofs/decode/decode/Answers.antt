use Rattle.std.proofs.Common.{◌≡◌, ◌+◌, ◌-◌, ◌*◌, ◌<◌, ◌≤◌, ℕ, length, take, drop, subst, sym, ◌∙◌, arith}
use Rattle.rs_code.specs.Fragments.{GivesFragment, piece}
use Rattle.rs_code.proofs.Pieces.{pieces_more, piece_whole}
use Rattle.set_reader.proofs.decode.decode.Goals as goal

pub loop-index-preserved : goal.loop-index-preserved
loop-index-preserved c =
    let k = c.args.code.now.k in
    let n = k + c.args.code.now.p in
    let f = c.args.f in
    let at = c.loop-index.index in
    let below = c.loop-index-test.true in
    let room = c.loop-index.auto.out ∙ c.requires.room in
    let within : at * f + f ≤ length c.loop-index.out = grind (arith, room, below) in
    let part : length c.fragment_into.new.out ≡ f = c.fragment_into.auto.out ∙ (let e : length (take ((at * f + f) - (at * f)) (drop (at * f) c.loop-index.out)) ≡ f = grind (arith, within) in e) in
    pieces_more (GivesFragment k n f c.args.have.now c.args.rows.now) f at 1 _ c.loop-index.out c.fragment_into.new.out (omega (arith, within)) (omega (arith, part))
    c.loop-index.invariant
    (λ i one. subst (λ (j : ℕ). GivesFragment k n f c.args.have.now c.args.rows.now (at + j) (piece c.fragment_into.new.out f j)) (let e : 0 ≡ i = omega (arith, one) in e)
    (λ fragments is holds. piece_whole f c.fragment_into.new.out part ∙ c.fragment_into.ensures.fragment fragments is holds ∙ (let e : at ≡ at + 0 = omega arith in Rattle.std.proofs.Common.ap (Rattle.rs_code.specs.Fragments.fragment_at fragments) e)))
