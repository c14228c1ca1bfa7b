-- The replies of a step have frames.
use Rattle.std.proofs.Common.{ℕ, suc, ◌*◌, ◌≤◌, List, [], ◌∷◌, length, arith, length-append}
use Rattle.std.specs.List.{All}
use Rattle.object_machine.specs.declared.reply.Reply.{Reply}
use Rattle.object_machine.specs.declared.reply.Reply.TheVariants.{Done, Object, NotFound, Names, Refused}
use Rattle.store_core.specs.Store.{FitsFrame}
use Rattle.smore_top.specs.Frames.{name_field, name_fields, HasFrame}

-- names of 255 bytes at most take 257 each
few_bytes : (names : List (List ℕ)) → All (λ name. length name ≤ 255) names → length (name_fields names) ≤ 257 * length names
few_bytes [] small = omega arith
few_bytes (name ∷ names) small =
    omega (arith, few_bytes names (λ k d inside. small (suc k) d (omega (arith, inside))), small 0 name (omega arith), length-append (name_field name) (name_fields names))

pub fits_frame : (reply : Reply) → FitsFrame reply → HasFrame reply
fits_frame Done fits = record { fits = tt; small = omega arith }
fits_frame (Object bytes) fits = record { fits = tt; small = omega (arith, fits) }
fits_frame NotFound fits = record { fits = tt; small = omega arith }
fits_frame (Names names more) fits = record {
  fits = (omega (arith, fits.0), λ k d inside. omega (arith, (fits.1 k d inside).1));
  small = omega (arith, fits.0, few_bytes names (λ k d inside. (fits.1 k d inside).1));
}
fits_frame (Refused why) fits = record { fits = tt; small = omega arith }
