use Rattle.std.proofs.Common.{◌+◌, ◌++◌, ℕ, List, ap, subst, ◌∙◌, arith}
use Rattle.std.proofs.lemmas.List.{take_at}
use Rattle.rs_code.specs.Fragments.{GivesFragment, HasCode}
use Rattle.array_scan.proofs.DecodedPayloads.{decoded_more, decoded_all}
use Rattle.array_scan.proofs.payload.decode.Goals as goal

pub loop-index-preserved : goal.loop-index-preserved
loop-index-preserved c =
    let code = c.args.code.now in
    let given = c.args.given.now in
    decoded_more code.k (code.k + code.p) c.args.f given.have.items given.fragments.items c.loop-index.payload.items c.fragment_into.new.out c.extend_from_slice.new.self.items c.loop-index.index c.loop-index.invariant
    (subst (λ (l : List ℕ). GivesFragment code.k (code.k + code.p) c.args.f l given.fragments.items c.loop-index.index c.fragment_into.new.out) c.deref.ensures.value
    (subst (λ (l : List ℕ). GivesFragment code.k (code.k + code.p) c.args.f c.deref.result.now l c.loop-index.index c.fragment_into.new.out) c.deref-in-loop-index.ensures.value c.fragment_into.ensures.fragment))
    (subst (λ (l : List ℕ). HasCode code.k (code.k + code.p) c.args.f l given.fragments.items) c.deref.ensures.value
    (subst (λ (l : List ℕ). HasCode code.k (code.k + code.p) c.args.f c.deref.result.now l) c.deref-in-loop-index.ensures.value c.fragment_into.ensures.code))
    (c.in_ok-extend_from_slice.ensures.items ∙ ap (λ l. c.loop-index.payload.items ++ l) (c.deref-in-loop-index-2.ensures.value ∙ take_at c.fragment_into.new.out _ c.resize.new.self.len (omega (arith, c.fragment_into.auto.out, c.deref_mut.ensures.len, c.resize.new.self.ok.0))))

pub returns : goal.returns
returns c =
    let code = c.args.code.now in
    let given = c.args.given.now in
    c.truncate.ensures.items
    ∙ decoded_all code.k (code.k + code.p) c.args.f c.args.bytes given.have.items given.fragments.items code.has_source (omega arith) (let few = code.few in omega (arith, few)) c.requires.have c.loop-index.payload.items c.loop-index.index (omega (arith, c.loop-index.auto.index-end, c.loop-index-test.false)) c.requires.f c.loop-index.invariant
