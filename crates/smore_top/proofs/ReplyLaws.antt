-- A reply is read back from its frame, so that no two share one.
use Rattle.std.proofs.Common.{◌≡◌, ℕ, zero, suc, ◌<◌, ◌^◌, ◌==◌, Bool, true, false, List, [], ◌∷◌, ◌++◌, length, take, drop, Option, Some, None, option_and_then, arith, refl, sym, ap, ◌∙◌, append_assoc}
use Rattle.std.specs.Prelude.{option_map, if◌then◌else◌}
use Rattle.std.specs.List.{All}
use Rattle.std.specs.Int.{w16, w32, w64, to_be_bytes, from_be_bytes}
use Rattle.std.proofs.lemmas.List.{take_at, drop_at, append-nil}
use Rattle.std.proofs.lemmas.Nat.{from_be_bytes-to_be_bytes_2, from_be_bytes-to_be_bytes_8}
use Rattle.std.proofs.lemmas.Option.{same_Some}
use Rattle.object_machine.specs.declared.reply.Reply.{Reply}
use Rattle.object_machine.specs.declared.reply.Reply.TheVariants.{Done, Object, NotFound, Names, Refused}
use Rattle.object_machine.specs.declared.reply.Refusal.{Refusal}
use Rattle.object_machine.specs.declared.reply.Refusal.TheVariants.{Memory, NameBad, TooLarge, Full, TooFewFragments, Spent, Damaged}
use Rattle.smore_top.specs.declared.frame_numbers.TheConstants as numbers
use Rattle.smore_top.specs.Frames.{name_field, name_fields, more_byte, refusal_fields, reply_body, HasFrame}
use Rattle.smore_top.specs.Reading.{name_at}
use Rattle.smore_top.specs.Laws.{FitsValues, RepliesAreApart}
use Rattle.smore_top.proofs.FrameLaws.{name_again, same_fronts}

-- ---- reading back

-- the refusal of this number with these values
abbrev refusal_by : ℕ → ℕ → ℕ → Option Refusal
refusal_by number first second =
    if number == numbers.MEMORY_NUMBER then Some Memory
    else if number == numbers.NAME_BAD_NUMBER then Some (NameBad first)
    else if number == numbers.TOO_LARGE_NUMBER then Some (TooLarge first)
    else if number == numbers.FULL_NUMBER then Some (Full first second)
    else if number == numbers.TOO_FEW_FRAGMENTS_NUMBER then Some (TooFewFragments first second)
    else if number == numbers.SPENT_NUMBER then Some Spent
    else if number == numbers.DAMAGED_NUMBER then Some (Damaged first second)
    else None

abbrev refusal_in : List ℕ → Option Refusal
refusal_in [] = None
refusal_in (number ∷ values) = refusal_by number (from_be_bytes w64 (take 8 values)) (from_be_bytes w64 (drop 8 values))

-- so many names
abbrev names_in : ℕ → List ℕ → Option (List (List ℕ))
names_in zero bytes = Some []
names_in (suc count) bytes = option_and_then (λ field. option_map (λ names. field.0 ∷ names) (names_in count field.1)) (name_at bytes)

abbrev list_in : List ℕ → Option Reply
list_in [] = None
list_in (more ∷ fields) = option_map (λ names. Names names (more == 1)) (names_in (from_be_bytes w16 (take 2 fields)) (drop 2 fields))

abbrev reply_in : List ℕ → Option Reply
reply_in [] = None
reply_in (tag ∷ fields) =
    if tag == numbers.REFUSED_TAG then option_map (λ why. Refused why) (refusal_in fields)
    else if tag == numbers.DONE_TAG then Some Done
    else if tag == numbers.OBJECT_TAG then Some (Object fields)
    else if tag == numbers.NOT_FOUND_TAG then Some NotFound
    else if tag == numbers.NAMES_TAG then list_in fields
    else None

-- ---- what was spelled is read

first_value : (a b : ℕ) → a < 2 ^ 64 → from_be_bytes w64 (take 8 (to_be_bytes w64 a ++ to_be_bytes w64 b)) ≡ a
first_value a b fits = ap (from_be_bytes w64) (take_at (to_be_bytes w64 a) (to_be_bytes w64 b) 8 refl) ∙ from_be_bytes-to_be_bytes_8 a fits

second_value : (a b : ℕ) → b < 2 ^ 64 → from_be_bytes w64 (drop 8 (to_be_bytes w64 a ++ to_be_bytes w64 b)) ≡ b
second_value a b fits = ap (from_be_bytes w64) (drop_at (to_be_bytes w64 a) (to_be_bytes w64 b) 8 refl) ∙ from_be_bytes-to_be_bytes_8 b fits

-- both values stand for a refusal
both_values : (number a b : ℕ) → a < 2 ^ 64 → b < 2 ^ 64 → refusal_in (number ∷ to_be_bytes w64 a ++ to_be_bytes w64 b) ≡ refusal_by number a b
both_values number a b fits_a fits_b =
    ap (λ x. refusal_by number x (from_be_bytes w64 (drop 8 (to_be_bytes w64 a ++ to_be_bytes w64 b)))) (first_value a b fits_a) ∙ ap (refusal_by number a) (second_value a b fits_b)

refusal_is : (why : Refusal) → refusal_by (refusal_fields why).0 (refusal_fields why).1 (refusal_fields why).2 ≡ Some why
refusal_is Memory = refl
refusal_is (NameBad n) = refl
refusal_is (TooLarge n) = refl
refusal_is (Full need room) = refl
refusal_is (TooFewFragments of_set missing) = refl
refusal_is Spent = refl
refusal_is (Damaged upload part) = refl

names_again : (names : List (List ℕ)) (rest : List ℕ) → All (λ name. length name < 2 ^ 16) names → names_in (length names) (name_fields names ++ rest) ≡ Some names
names_again [] rest fits = refl
names_again (name ∷ names) rest fits =
    let later = name_fields names ++ rest in
    ap (λ (l : List ℕ). names_in (length (name ∷ names)) l) (append_assoc (name_field name) (name_fields names) rest)
    ∙ ap (option_and_then (λ (field : List ℕ × List ℕ). option_map (λ (more : List (List ℕ)). field.0 ∷ more) (names_in (length names) field.1))) (name_again name later (fits 0 name (omega arith)))
    ∙ ap (option_map (λ (more : List (List ℕ)). name ∷ more)) (names_again names rest (λ k d inside. fits (suc k) d (omega (arith, inside))))

more_is : (more : Bool) → (more_byte more == 1) ≡ more
more_is true = refl
more_is false = refl

list_again : (names : List (List ℕ)) (more : Bool) → length names < 2 ^ 16 → All (λ name. length name < 2 ^ 16) names → list_in (more_byte more ∷ to_be_bytes w16 (length names) ++ name_fields names) ≡ Some (Names names more)
list_again names more few fits =
    let bytes = to_be_bytes w16 (length names) ++ name_fields names in
    let count : from_be_bytes w16 (take 2 bytes) ≡ length names = ap (from_be_bytes w16) (take_at (to_be_bytes w16 (length names)) (name_fields names) 2 refl) ∙ from_be_bytes-to_be_bytes_2 (length names) few in
    let rest : drop 2 bytes ≡ name_fields names ++ [] = drop_at (to_be_bytes w16 (length names)) (name_fields names) 2 refl ∙ sym (append-nil (name_fields names)) in
    ap (λ n. option_map (λ found. Names found (more_byte more == 1)) (names_in n (drop 2 bytes))) count
    ∙ ap (λ (l : List ℕ). option_map (λ found. Names found (more_byte more == 1)) (names_in (length names) l)) rest
    ∙ ap (option_map (λ found. Names found (more_byte more == 1))) (names_again names [] fits)
    ∙ ap (λ b. Some (Names names b)) (more_is more)

reply_again : (reply : Reply) → HasFrame reply → FitsValues reply → reply_in (reply_body reply) ≡ Some reply
reply_again Done has fits = refl
reply_again (Object bytes) has fits = refl
reply_again NotFound has fits = refl
reply_again (Names names more) has fits = list_again names more has.fits.0 has.fits.1
reply_again (Refused why) has fits =
    ap (option_map (λ w. Refused w)) (both_values (refusal_fields why).0 (refusal_fields why).1 (refusal_fields why).2 fits.0 fits.1 ∙ refusal_is why)

pub replies_are_apart : RepliesAreApart
replies_are_apart a b has other fits others e =
    let body = same_fronts (to_be_bytes w32 (length (reply_body a))) (to_be_bytes w32 (length (reply_body b))) (reply_body a) (reply_body b) refl e in
    same_Some a b (sym (reply_again a has fits) ∙ ap reply_in body.1 ∙ reply_again b other others)
