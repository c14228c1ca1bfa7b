-- What a take from the front piece leaves.
use Rattle.std.proofs.Common.{◌≡◌, ℕ, ◌+◌, ◌-◌, ◌<◌, ◌≤◌, List, ◌++◌, length, get_or, take, drop, sym, ap, ◌∙◌, arith}
use Rattle.std.proofs.lemmas.List.{at_drop_more, take-append-drop, drop-drop, drop-append-le, take-append-le, length-drop, take-take}
use Rattle.std.specs.Global.{Vec}
use Rattle.smore_top.specs.MemoryStreams.{joined, left_of}

-- a part of the front list, and all that follows
drop-append : (at count : ℕ) (p q : List ℕ) → at + count ≤ length p → drop at (p ++ q) ≡ take count (drop at p) ++ drop (at + count) (p ++ q)
drop-append at count p q fits =
    let short : count ≤ length (drop at p) = omega (arith, length-drop at p) in
    let low : at ≤ length p = omega arith in
    let front : take count (drop at (p ++ q)) ≡ take count (drop at p) = ap (take count) (drop-append-le at p q low) ∙ take-append-le count (drop at p) q short in
    sym (take-append-drop count (drop at (p ++ q))) ∙ ap (λ (l : List ℕ). l ++ drop count (drop at (p ++ q))) front ∙ ap (λ (l : List ℕ). take count (drop at p) ++ l) (drop-drop count at (p ++ q))

-- bytes of the front piece went to the buffer
pub left_of-take : (pieces : List (Vec ℕ)) (front at count : ℕ) (piece : Vec ℕ) (bytes buffer : List ℕ) → front < length pieces → piece ≡ get_or pieces front piece → bytes ≡ piece.items → count ≤ length bytes - at → at ≤ length bytes
    → take count buffer ≡ take count (take (length bytes - at) (drop at bytes)) → left_of pieces front at ≡ take count buffer ++ left_of pieces front (at + count)
left_of-take pieces front at count piece bytes buffer lt is same fits low copied =
    let rest = joined (drop (front + 1) pieces) in
    let whole : joined (drop front pieces) ≡ bytes ++ rest = at_drop_more joined pieces front piece lt ∙ ap (λ (p : Vec ℕ). p.items ++ rest) (sym is) ∙ ap (λ (l : List ℕ). l ++ rest) (sym same) in
    let part : take count buffer ≡ take count (drop at bytes) = copied ∙ take-take count (length bytes - at) (drop at bytes) fits in
    let split : drop at (bytes ++ rest) ≡ take count (drop at bytes) ++ drop (at + count) (bytes ++ rest) = drop-append at count bytes rest (omega arith) in
    ap (drop at) whole ∙ split ∙ ap (λ (l : List ℕ). l ++ drop (at + count) (bytes ++ rest)) (sym part) ∙ ap (λ (l : List ℕ). take count buffer ++ drop (at + count) l) (sym whole)
