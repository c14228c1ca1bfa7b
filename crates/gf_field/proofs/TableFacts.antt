-- What stands in the tables of powers and logarithms.
use Rattle.std.proofs.Common.{◌≡◌, ◌≢◌, ℕ, suc, zero, ◌+◌, ◌<◌, refl, sym, ap, ◌∙◌, true, ◌==◌, nat_lt, arith, get_or}
use Rattle.std.proofs.lemmas.Bool.{eqb-true, ltb-true}
use Rattle.std.proofs.Math.Numerals.{add-one}
use Rattle.gf_field.specs.declared.tables.TheConstants.{POWER, LOGARITHM}
use Rattle.gf_field.specs.Product.{carry_less_product, remainder, product}
use Rattle.gf_field.specs.Power.{power_of_two}
use Rattle.gf_field.proofs.Checked.{all_below, at_each}

-- each power in the table is twice the one before
powers_double : all_below 509 (λ i. get_or POWER (i + 1) 0 == product 2 (get_or POWER i 0)) ≡ true
unfolding product carry_less_product remainder
powers_double = refl

pub power_in_table : (i : ℕ) → i < 510 → get_or POWER i 0 ≡ power_of_two i
unfolding power_of_two
power_in_table zero h = refl
power_in_table (suc i) h =
    ap (λ j. get_or POWER j 0) (sym (add-one i))
    ∙ eqb-true (get_or POWER (i + 1) 0) (product 2 (get_or POWER i 0)) (at_each 509 (λ j. get_or POWER (j + 1) 0 == product 2 (get_or POWER j 0)) powers_double i (omega arith))
    ∙ ap (product 2) (power_in_table i (omega arith))

logarithms_small : all_below 256 (λ a. nat_lt (get_or LOGARITHM a 0) 255) ≡ true
logarithms_small = refl

pub logarithm_small : (a : ℕ) → a < 256 → get_or LOGARITHM a 0 < 255
logarithm_small a h = ltb-true (get_or LOGARITHM a 0) 255 (at_each 256 (λ b. nat_lt (get_or LOGARITHM b 0) 255) logarithms_small a h)

logarithms_lead_back : all_below 255 (λ a. get_or POWER (get_or LOGARITHM (a + 1) 0) 0 == a + 1) ≡ true
logarithms_lead_back = refl

pub power_of_logarithm : (a : ℕ) → a < 256 → a ≢ 0 → power_of_two (get_or LOGARITHM a 0) ≡ a
power_of_logarithm zero h ne = absurd (ne refl)
power_of_logarithm (suc a) h ne =
    let e = add-one a in
    let l = logarithm_small (suc a) h in
    sym (power_in_table (get_or LOGARITHM (suc a) 0) (omega arith))
    ∙ ap (λ b. get_or POWER (get_or LOGARITHM b 0) 0) (sym e)
    ∙ eqb-true (get_or POWER (get_or LOGARITHM (a + 1) 0) 0) (a + 1) (at_each 255 (λ b. get_or POWER (get_or LOGARITHM (b + 1) 0) 0 == b + 1) logarithms_lead_back a (omega arith))
    ∙ e

pub power_of_two-255 : power_of_two 255 ≡ 1
power_of_two-255 = sym (power_in_table 255 (omega arith))
