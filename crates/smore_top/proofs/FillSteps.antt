-- One take more, of a loop that fills a buffer.
use Rattle.std.proofs.Common.{◌≡◌, ℕ, ◌+◌, ◌≤◌, List, ◌++◌, length, take, arith, sym, ap, ◌∙◌, append_assoc, length-append, length-take}
use Rattle.std.proofs.lemmas.List.{take-append-le, length-drop}
use Rattle.std.proofs.Math.Seq.{take-append-add}
use borrow.Rule.Slice.PartMut.{put_mid, post_of}

pub length-put_mid : (a k : ℕ) (out part : List ℕ) → a + k ≤ length out → length part ≡ k → length (put_mid a k out part) ≡ length out
length-put_mid a k out part within size = simp (length-append, length-take, length-drop) (omega arith)

filled_further : (out part : List ℕ) (filled k count : ℕ) → filled ≤ length out → count ≤ length part → take (filled + count) (put_mid filled k out part) ≡ take filled out ++ take count part
filled_further out part filled k count within some =
    let front : length (take filled out) ≡ filled = omega (arith, length-take filled out) in
    ap (λ n. take (n + count) (take filled out ++ (part ++ post_of filled k out))) (sym front)
    ∙ take-append-add (take filled out) (part ++ post_of filled k out) count
    ∙ ap (λ (l : List ℕ). take filled out ++ l) (take-append-le count part (post_of filled k out) some)

-- the bytes that were left at first are those in the buffer and those that are left now
pub taken_further : (out part before mid after : List ℕ) (filled k count : ℕ) → filled ≤ length out → count ≤ length part → before ≡ take filled out ++ mid → mid ≡ take count part ++ after → before ≡ take (filled + count) (put_mid filled k out part) ++ after
taken_further out part before mid after filled k count within some first then =
    first ∙ ap (λ (l : List ℕ). take filled out ++ l) then ∙ sym (append_assoc (take filled out) (take count part) after)
    ∙ ap (λ (l : List ℕ). l ++ after) (sym (filled_further out part filled k count within some))
