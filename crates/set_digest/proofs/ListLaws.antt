-- Spelled lists of lines.
use Rattle.std.proofs.Common.{◌≡◌, ℕ, zero, suc, ◌+◌, ◌*◌, ◌<◌, ◌≤◌, List, [], ◌∷◌, ◌++◌, length, take, drop, get_or, refl, sym, ap, ap₂, ◌∙◌, subst, arith, append_assoc, append-nil}
use Rattle.std.proofs.lemmas.List.{take_at, take_more, drop_at, length-append}
use Rattle.std.proofs.lemmas.Grind.{flat_map-append}
use Rattle.set_digest.specs.declared.line.Line.{Line}
use Rattle.set_digest.specs.Line.{blocks_of, spelling_of}
use Rattle.set_digest.specs.Lines.{ListFrom, spelling_of_list}
use Rattle.set_digest.proofs.LineLaws.{length-spelling_of, lines_are_apart}

-- a list has no more lines than there are positions
pub list_is_short : (position block : ℕ) (ls : List Line) → position ≤ 65536 → ListFrom position block ls → position + length ls ≤ 65536
list_is_short position block [] within is = omega (arith, within)
list_is_short position block (l ∷ ls) within is =
    let line = is.0.position_to in
    let more = list_is_short (position + 1) (block + blocks_of l) ls (omega (arith, is.1, line)) is.3 in
    omega (arith, more)

pub first_are_list : (position block n : ℕ) (ls : List Line) → ListFrom position block ls → ListFrom position block (take n ls)
first_are_list position block zero ls is = tt
first_are_list position block (suc n) [] is = tt
first_are_list position block (suc n) (l ∷ ls) is = (is.0, is.1, is.2, first_are_list (position + 1) (block + blocks_of l) n ls is.3)

pub length-spelling_of_list : (position block : ℕ) (ls : List Line) → ListFrom position block ls → length (spelling_of_list ls) ≡ 320 * length ls
length-spelling_of_list position block [] is = let e : 0 ≡ 320 * 0 = omega arith in e
length-spelling_of_list position block (l ∷ ls) is =
    omega (arith, length-append (spelling_of l) (spelling_of_list ls), length-spelling_of l is.0, length-spelling_of_list (position + 1) (block + blocks_of l) ls is.3)

pub spelling_of_list-append : (some more : List Line) → spelling_of_list (some ++ more) ≡ spelling_of_list some ++ spelling_of_list more
spelling_of_list-append some more = flat_map-append spelling_of some more

pub lists_are_apart : (position block : ℕ) (a b : List Line) → ListFrom position block a → ListFrom position block b → spelling_of_list a ≡ spelling_of_list b → a ≡ b
lists_are_apart position block [] [] a_is b_is same = refl
lists_are_apart position block [] (y ∷ ys) a_is b_is same =
    absurd (omega (arith, ap length same, length-append (spelling_of y) (spelling_of_list ys), length-spelling_of y b_is.0))
lists_are_apart position block (x ∷ xs) [] a_is b_is same =
    absurd (omega (arith, ap length same, length-append (spelling_of x) (spelling_of_list xs), length-spelling_of x a_is.0))
lists_are_apart position block (x ∷ xs) (y ∷ ys) a_is b_is same =
    let long_x = length-spelling_of x a_is.0 in
    let long_y = length-spelling_of y b_is.0 in
    let first : x ≡ y =
    lines_are_apart x y a_is.0 b_is.0 (sym (take_at (spelling_of x) (spelling_of_list xs) 320 long_x) ∙ ap (take 320) same ∙ take_at (spelling_of y) (spelling_of_list ys) 320 long_y) in
    let rest : spelling_of_list xs ≡ spelling_of_list ys =
    sym (drop_at (spelling_of x) (spelling_of_list xs) 320 long_x) ∙ ap (drop 320) same ∙ drop_at (spelling_of y) (spelling_of_list ys) 320 long_y in
    let others = lists_are_apart (position + 1) (block + blocks_of x) xs ys a_is.3 (subst (λ (l : Line). ListFrom (position + 1) (block + blocks_of l) ys) (sym first) b_is.3) rest in
    ap₂ (λ (l : Line) (ls : List Line). l ∷ ls) first others

-- one line more was written
pub written_more : (old items new : List ℕ) (ls : List Line) (n : ℕ) (l : Line) → n < length ls → l ≡ get_or ls n l → items ≡ old ++ spelling_of_list (take n ls) → new ≡ items ++ spelling_of l → new ≡ old ++ spelling_of_list (take (n + 1) ls)
written_more old items new ls n l below here so_far added =
    let next : take (n + 1) ls ≡ take n ls ++ l ∷ [] = take_more ls n l below ∙ ap (λ x. take n ls ++ x ∷ []) (sym here) in
    added
    ∙ ap (λ t. t ++ spelling_of l) so_far
    ∙ append_assoc old (spelling_of_list (take n ls)) (spelling_of l)
    ∙ ap (λ t. old ++ t)
    (ap (λ t. spelling_of_list (take n ls) ++ t) (sym (append-nil (spelling_of l)))
    ∙ sym (spelling_of_list-append (take n ls) (l ∷ []))
    ∙ ap spelling_of_list (sym next))
