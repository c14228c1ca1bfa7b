-- The bits of the lost devices, from the last one on.
use Rattle.std.proofs.Common.{◌≡◌, ℕ, zero, suc, ◌+◌, ◌*◌, ◌^◌, ◌<◌, ◌≤◌, Bool, true, false, List, [], ◌∷◌, length, drop, get_or, refl, ap, ◌∙◌, arith}
use Rattle.std.specs.Int.{from_bool}
use Rattle.std.proofs.lemmas.List.{length-drop}
use Rattle.set_table.specs.Table.{lost_bits}

pub one_at_most : (b : Bool) → from_bool b ≤ 1
one_at_most true = omega arith
one_at_most false = omega arith

-- the bits from a device on
pub lost_here : (lost : List Bool) (d : ℕ) (b : Bool) → d < length lost → lost_bits (drop d lost) ≡ from_bool (get_or lost d b) + 2 * lost_bits (drop (d + 1) lost)
lost_here [] d b within = absurd (omega (arith, within))
lost_here (x ∷ lost) zero b within = refl
lost_here (x ∷ lost) (suc d) b within =
    let later : drop (d + 1) lost ≡ drop (suc d + 1) (x ∷ lost) = ap (λ n. drop n (x ∷ lost)) {x = suc (d + 1)} {y = suc d + 1} (omega arith) in
    lost_here lost d b (omega (arith, within)) ∙ ap (λ l. from_bool (get_or lost d b) + 2 * lost_bits l) later

pub lost_end : (lost : List Bool) (d : ℕ) → length lost ≤ d → lost_bits (drop d lost) ≡ 0
lost_end [] zero past = refl
lost_end [] (suc d) past = refl
lost_end (x ∷ lost) zero past = absurd (omega (arith, past))
lost_end (x ∷ lost) (suc d) past = lost_end lost d (omega (arith, past))

-- fewer devices than bits
pub lost_few : (lost : List Bool) (n : ℕ) → length lost ≤ n → lost_bits lost < 2 ^ n
lost_few [] zero few = omega arith
lost_few [] (suc n) few = omega (arith, lost_few [] n (omega arith))
lost_few (x ∷ lost) zero few = absurd (omega (arith, few))
lost_few (x ∷ lost) (suc n) few = omega (arith, one_at_most x, lost_few lost n (omega (arith, few)))

-- a table has 25 devices at most
pub lost_short : (lost : List Bool) (d drives : ℕ) → length lost ≡ drives + 1 → drives ≤ 24 → lost_bits (drop d lost) < 2 ^ 25
lost_short lost d drives long most = lost_few (drop d lost) 25 (omega (arith, length-drop d lost, long, most))
