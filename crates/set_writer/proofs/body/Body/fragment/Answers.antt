use Rattle.std.proofs.Common.{◌≡◌, ◌+◌, ◌-◌, ◌*◌, take, drop, sym, ap, subst, ◌∙◌, arith}
use Rattle.rs_code.specs.Fragments.{IsFragment}
use Rattle.rs_code.proofs.Pieces.{piece_within}
use Rattle.set_writer.specs.declared.body.Body.{Body}
use Rattle.set_writer.specs.Entry.{fragment}
use Rattle.set_writer.specs.Body.{payload_of, IsBody}
use Rattle.gf_field.specs.Field.{AreBytes}
use Rattle.set_writer.proofs.ByteLaws.{coded_bytes}
use Rattle.set_writer.proofs.FragmentLaws.{is_fragment, no_fragment, piece_is_fragment}
use Rattle.set_writer.proofs.body.Body.fragment.Goals as goal

pub slice_bounds-result-end-in-Pieces : goal.slice_bounds-result-end-in-Pieces
slice_bounds-result-end-in-Pieces c =
    let code = c.args.code.now in
    let keeps = subst (IsBody code.k code.p) c.in-Pieces.is c.requires.body in
    let within = piece_within (code.k + code.p) c.in-Pieces.pieces.fragment c.args.index c.requires.index in
    let size = keeps.size in
    omega (arith, within, size)

pub returns-in-Empty-clause-fragment : goal.returns-in-Empty-clause-fragment
returns-in-Empty-clause-fragment c = sym (ap (λ (b : Body). fragment c.args.code.now.k (payload_of b) c.args.index) c.in-Empty.is ∙ no_fragment c.args.code.now.k c.args.index)

pub returns-in-Whole-clause-fragment : goal.returns-in-Whole-clause-fragment
returns-in-Whole-clause-fragment c =
    let code = c.args.code.now in
    let coded = c.in-Whole.coded.now in
    let is = subst (IsBody code.k code.p) c.in-Whole.is c.requires.body in
    let has = code.has_source in
    let few = code.few in
    let known : IsFragment code.k (code.k + code.p) coded.payload c.args.index c.fragment.result.now =
    subst (λ k. IsFragment k (k + code.p) coded.payload c.args.index c.fragment.result.now) is.0 (subst (λ p. IsFragment coded.k (coded.k + p) coded.payload c.args.index c.fragment.result.now) is.1 c.fragment.ensures) in
    is_fragment code.k (code.k + code.p) coded.payload c.args.index c.fragment.result.now has (omega arith) (omega (arith, few)) c.requires.index known
    ∙ sym (ap (λ (b : Body). fragment code.k (payload_of b) c.args.index) c.in-Whole.is)

pub returns-in-Pieces-clause-fragment : goal.returns-in-Pieces-clause-fragment
returns-in-Pieces-clause-fragment c =
    let code = c.args.code.now in
    let b = c.in-Pieces.pieces in
    let keeps = subst (IsBody code.k code.p) c.in-Pieces.is c.requires.body in
    let has = code.has_source in
    let few = code.few in
    let width : c.args.index * b.fragment + b.fragment - c.args.index * b.fragment ≡ b.fragment = omega arith in
    ap (λ n. take n (drop (c.args.index * b.fragment) b.fragments.now)) width
    ∙ is_fragment code.k (code.k + code.p) (take b.payload b.fragments.now) c.args.index _ has (omega arith) (omega (arith, few)) c.requires.index (piece_is_fragment code.k code.p b.payload b.fragment c.args.index b.fragments.now keeps c.requires.index)
    ∙ sym (ap (λ (x : Body). fragment code.k (payload_of x) c.args.index) c.in-Pieces.is)

pub returns-in-Empty-clause-bytes : goal.returns-in-Empty-clause-bytes
returns-in-Empty-clause-bytes c = subst (λ (b : Body). AreBytes (payload_of b)) (sym c.in-Empty.is) tt

pub returns-in-Whole-clause-bytes : goal.returns-in-Whole-clause-bytes
returns-in-Whole-clause-bytes c =
    let code = c.args.code.now in
    let coded = c.in-Whole.coded.now in
    let is = subst (IsBody code.k code.p) c.in-Whole.is c.requires.body in
    let has = code.has_source in
    let few = code.few in
    let known : IsFragment code.k (code.k + code.p) coded.payload c.args.index c.fragment.result.now =
    subst (λ k. IsFragment k (k + code.p) coded.payload c.args.index c.fragment.result.now) is.0 (subst (λ p. IsFragment coded.k (coded.k + p) coded.payload c.args.index c.fragment.result.now) is.1 c.fragment.ensures) in
    subst (λ (b : Body). AreBytes (payload_of b)) (sym c.in-Whole.is) (coded_bytes code.k (code.k + code.p) coded.payload c.args.index c.fragment.result.now has (omega arith) (omega (arith, few)) known)

pub returns-in-Pieces-clause-bytes : goal.returns-in-Pieces-clause-bytes
returns-in-Pieces-clause-bytes c =
    let code = c.args.code.now in
    let b = c.in-Pieces.pieces in
    let keeps = subst (IsBody code.k code.p) c.in-Pieces.is c.requires.body in
    let has = code.has_source in
    let few = code.few in
    subst (λ (x : Body). AreBytes (payload_of x)) (sym c.in-Pieces.is)
    (coded_bytes code.k (code.k + code.p) (take b.payload b.fragments.now) c.args.index _ has (omega arith) (omega (arith, few)) (piece_is_fragment code.k code.p b.payload b.fragment c.args.index b.fragments.now keeps c.requires.index))
