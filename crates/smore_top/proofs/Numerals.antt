-- Which words are the decimal digits of a number.
use Rattle.std.proofs.Common.{◌≡◌, ◌≢◌, inl, inr, ℕ, zero, suc, ◌<◌, ◌≤◌, ◌^◌, List, length, get_or, Ok, Result, sym, ap, ◌∙◌, arith}
use Rattle.std.specs.Fmt.{decimal}
use Rattle.std.specs.Str.Parse.{AllDigits, digits_value, ParsesUnsigned}
use Rattle.std.proofs.lemmas.Str.Parse.{IsNumeralModel, numerals_by_value, tells_digits, parse_plain, digit_at}
use Rattle.std.proofs.lemmas.Fmt.{parse-decimal, decimal_digit, decimal_nonempty, first_decimal, digits_decimal, decimal-digits_value, decimal_injective}
use Rattle.smore_top.specs.Words.{IsPlain, IsNumberAt}

own : IsNumeralModel (AllDigits 10) (digits_value 10)
own = numerals_by_value (AllDigits 10) tells_digits

plain_first : (word : List ℕ) → IsPlain word → get_or word 0 0 ≢ 43
plain_first word (inl zero_alone) is = let first = ap (λ (w : List ℕ). get_or w 0 0) zero_alone in omega (arith, first, is)
plain_first word (inr digit) is = omega (arith, digit, is)

plain_zero : (word : List ℕ) → IsPlain word → get_or word 0 0 ≡ 48 → length word ≡ 1
plain_zero word (inl zero_alone) is = ap length zero_alone
plain_zero word (inr digit) is = absurd (omega (arith, digit, is))

-- plain digits that are read as a number spell it
pub plain_spells : {E : Type 0} (word : List ℕ) (n : ℕ) (r : Result ℕ E) → r ≡ Ok n → ParsesUnsigned 32 10 word r → IsPlain word → word ≡ decimal n
plain_spells {E} word n r ok read plain =
    let is = parse_plain own {E = E} 32 word (Ok n) (rw ok at read) (plain_first word plain) in
    sym (decimal-digits_value own word is.0.0 is.0.1 (plain_zero word plain) (omega (arith, is.0.2))) ∙ ap decimal (sym is.1)

-- what a number is spelled by is plain
pub spelled_is_plain : (word : List ℕ) (n : ℕ) → n < 2 ^ 32 → word ≡ decimal n → IsPlain word
spelled_is_plain word zero small is = inl (is ∙ decimal_digit 0 (omega arith))
spelled_is_plain word (suc n) small is =
    let fits : suc n < 2 ^ 64 = omega arith in
    let first = first_decimal (suc n) (omega arith) fits in
    let digit = digit_at (decimal (suc n)) 0 (digits_decimal own (suc n) fits) (decimal_nonempty (suc n) fits) in
    let same = ap (λ (w : List ℕ). get_or w 0 0) is in
    inr (omega (arith, first, same), omega (arith, digit, same))

-- what isn't read spells no number
pub unread_spells_none : {E : Type 0} (word : List ℕ) (r : Result ℕ E) → ((n : ℕ) → r ≡ Ok n → ⊥) → ParsesUnsigned 32 10 word r → (n : ℕ) → n < 2 ^ 32 → word ≡ decimal n → ⊥
unread_spells_none word r none read n small is = none n (parse-decimal 32 n word r small (omega arith) is read)

-- the word at an index spells one number
pub one_number : (words : List (List ℕ)) (index m n : ℕ) → m < 2 ^ 64 → n < 2 ^ 64 → IsNumberAt index words m → IsNumberAt index words n → m ≡ n
one_number words index m n fits fits' is is' = decimal_injective m n fits fits' (let same = sym is ∙ is' in cc)

-- where it spells a number beyond the limit, it spells none below it
pub beyond_limit : (limit : ℕ) (words : List (List ℕ)) (index m n : ℕ) → (m < limit → ⊥) → m < 2 ^ 64 → limit ≤ 2 ^ 64 → IsNumberAt index words m → n < limit → IsNumberAt index words n → ⊥
beyond_limit limit words index m n beyond fits small is below is' = beyond (let same = one_number words index m n fits (omega arith) is is' in omega arith)
