-- A geometry within the limits breaks none.
use Rattle.std.proofs.Common.{◌≡◌, ◌+◌, ◌*◌, ◌%◌, ◌∙◌, None}
use Rattle.std.proofs.lemmas.Bool.{and_from, le-leb, lt-ltb, eq-eqb, cond-true}
use Rattle.smore_base.specs.declared.geometry.Geometry.{Geometry}
use Rattle.smore_base.specs.Geometry.{IsWithinLimits, first_fault, fits_k, fits_p, fits_drives, fits_zones, fits_blocks, fits_shard}

pub within_first : (g : Geometry) → IsWithinLimits g → first_fault g ≡ None
within_first g within =
    cond-true (fits_k g) _ _ (and_from _ _ (le-leb 1 g.k within.k_from) (lt-ltb g.k 20 within.k_to))
    ∙ cond-true (fits_p g) _ _ (and_from _ _ (le-leb 1 g.p within.p_from) (le-leb (g.k + g.p) 20 within.fragments))
    ∙ cond-true (fits_drives g) _ _ (and_from _ _ (le-leb (g.k + g.p) g.drives within.drives_from) (le-leb g.drives 24 within.drives_to))
    ∙ cond-true (fits_zones g) _ _ (and_from _ _ (le-leb 4 g.zones within.zones_from) (le-leb g.zones 4096 within.zones_to))
    ∙ cond-true (fits_blocks g) _ _ (and_from _ _ (le-leb 128 g.blocks within.blocks_from) (le-leb g.blocks 524288 within.blocks_to))
    ∙ cond-true (fits_shard g) _ _
    (and_from _ _
    (and_from _ _ (and_from _ _ (le-leb 511 g.shard within.shard_from) (le-leb g.shard 65408 within.shard_to)) (eq-eqb (g.shard % 511) 0 within.shard_whole))
    (le-leb (4 * g.shard) (511 * g.blocks) within.shard_share))
