-- A fragment is read from the store's zone, where it is told what that holds.
use Rattle.std.proofs.Common.{◌≡◌, ℕ, ◌+◌, ◌*◌, ◌≤◌, List, length, take, drop, ◌∙◌}
use Rattle.std.specs.Prelude.{Option, Some, None, IfSome}
use Rattle.zone_bay.specs.Contents.{Contents}
use Rattle.marker_format.specs.Fragment.{blocks_of, fragment_at}
use Rattle.marker_format.proofs.FragmentLaws.{fragment_at-part}

-- the blocks of a fragment, taken out of the zone, have it too
pub part_told : (contents : Option Contents) (part out : List ℕ) (at block bytes : ℕ) → at ≡ 512 * block → length part ≡ 512 * blocks_of bytes → out ≡ fragment_at part 0 bytes
    → IfSome contents (λ held. 512 * (block + blocks_of bytes) ≤ length (held 0 2)) → IfSome contents (λ held. part ≡ take (length part) (drop at (held 0 2))) → IfSome contents (λ held. out ≡ fragment_at (held 0 2) block bytes)
part_told None part out at block bytes place long is within reads = tt
part_told (Some held) part out at block bytes place long is within reads = is ∙ fragment_at-part (held 0 2) part at block bytes place reads long within
