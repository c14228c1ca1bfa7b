use Rattle.std.proofs.Common.{◌≡◌, ℕ, ◌+◌, ◌-◌, ◌*◌, sym, ap, ◌∙◌, arith, subst, List, [], length, take, drop}
use Rattle.std.proofs.lemmas.List.FromFn.{get_or-map-range_with_len}
use Rattle.rs_code.specs.Coded.{CodedPayload}
use Rattle.rs_code.specs.Fragments.{IsFragment, piece}
use Rattle.rs_code.specs.Coded.{pieces}
use Rattle.rs_code.proofs.Pieces.{piece_within}
use Rattle.rs_code.proofs.coded.Coded.fragment.Goals as goal

pub slice_bounds-result-end : goal.slice_bounds-result-end
slice_bounds-result-end c =
    let k = ap (λ (v : CodedPayload). v.k) c.self.view_is in
    let p = ap (λ (v : CodedPayload). v.p) c.self.view_is in
    let n = c.self.inside.k + c.self.inside.p in
    let within = piece_within n c.self.inside.fragment_len c.args.index (omega arith) in
    let size = c.self.invariant.size in
    let len = ap length c.as_slice-fragments.ensures.value in
    omega arith

pub returns : goal.returns
returns c =
    let value : CodedPayload = record { payload = take c.self.inside.payload_len c.self.inside.fragments.items; k = c.self.inside.k; p = c.self.inside.p } in
    let f = c.self.inside.fragment_len in
    let n = c.self.inside.k + c.self.inside.p in
    let i = c.args.index in
    let bytes = c.self.inside.fragments.items in
    let k = ap (λ (v : CodedPayload). v.k) c.self.view_is in
    let p = ap (λ (v : CodedPayload). v.p) c.self.view_is in
    let cut : i * f + f - i * f ≡ f = omega arith in
    subst (λ (v : CodedPayload). IsFragment v.k (v.k + v.p) v.payload i (take (i * f + f - i * f) (drop (i * f) c.as_slice-fragments.result.now))) c.self.view_is
    (record {
      fragments = pieces n f bytes;
      of_payload = c.self.invariant.are;
      here =
          get_or-map-range_with_len (piece bytes f) 0 n i i [] (omega arith) (omega arith)
          ∙ ap (λ m. take m (drop (i * f) bytes)) (sym cut)
          ∙ ap (λ (b : List ℕ). take (i * f + f - i * f) (drop (i * f) b)) (sym c.as_slice-fragments.ensures.value);
    })
