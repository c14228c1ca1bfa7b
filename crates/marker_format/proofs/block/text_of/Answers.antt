use Rattle.std.proofs.Common.{arith, sym, ◌∙◌, ◌≡◌, subst, ℕ, ◌+◌, take, drop, length}
use Rattle.std.proofs.lemmas.List.{take_rest}
use Rattle.marker_format.specs.Frame.{AreZeros}
use Rattle.marker_format.specs.Block.{block_of}
use Rattle.marker_format.proofs.BlockLaws.{has_text, text_found}
use Rattle.marker_format.proofs.block.text_of.Goals as goal
use Rattle.marker_format.proofs.block.text_of.Goals.{then-block-ne-BLOCK-via-then-block-ne-BLOCK, then-block-ne-BLOCK-via-else-block-ne-BLOCK+then-block-number, then-block-ne-BLOCK-via-else-block-ne-BLOCK+else-block-number+then-not-are_zeros}

pub returns-then-block-ne-BLOCK-clause-none : goal.returns-then-block-ne-BLOCK-clause-none
returns-then-block-ne-BLOCK-clause-none c text len e =
    let has = has_text c.args.tag c.args.block.now text c.args.bytes e len c.requires in
    elim c.then-block-ne-BLOCK.branch [
      | then-block-ne-BLOCK-via-then-block-ne-BLOCK w ↦ w.if-block-ne-BLOCK.true has.long
      | then-block-ne-BLOCK-via-else-block-ne-BLOCK+then-block-number w ↦ w.if-block-number.true (has.tagged ∙ sym w.number.ensures)
      | then-block-ne-BLOCK-via-else-block-ne-BLOCK+else-block-number+then-not-are_zeros w ↦
          let same = take_rest c.args.block.now (1 + c.args.bytes) in
          let padded = w.are_zeros.ensures.1 (subst AreZeros (sym same) has.zeros) in
          absurd (cc (padded, w.if-not-are_zeros.true))
    ]

pub returns-clause-found : goal.returns-clause-found
returns-clause-found c =
    let block = c.args.block.now in
    let zeros = subst AreZeros (take_rest block (1 + c.args.bytes)) (c.are_zeros.ensures.0 c.if-not-are_zeros.false) in
    let found = text_found c.args.tag block c.args.bytes (omega arith) (c.if-block-number.false ∙ c.number.ensures) zeros c.requires in
    subst (λ (n : ℕ). (length (take n (drop 1 block)) ≡ c.args.bytes) × (block ≡ block_of c.args.tag (take n (drop 1 block)))) (omega arith) found
