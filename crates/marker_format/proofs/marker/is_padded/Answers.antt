use Rattle.std.proofs.Common.{◌∙◌, ap, subst, List, ℕ, drop, ◌+◌}
use Rattle.std.specs.Prelude.{IsTrue, ◌↔◌}
use Rattle.std.proofs.lemmas.List.{take_rest}
use Rattle.marker_format.specs.Frame.{AreZeros}
use Rattle.marker_format.proofs.marker.is_padded.Goals as goal

pub returns : goal.returns
returns c =
    let same = take_rest c.args.bytes.now (73 + c.from.result) ∙ ap (λ (n : ℕ). drop (73 + n) c.args.bytes.now) (c.from.ensures ∙ c.read_u8.ensures.value) in
    subst (λ (l : List ℕ). IsTrue c.are_zeros.result ↔ AreZeros l) same c.are_zeros.ensures
