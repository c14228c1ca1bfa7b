-- What notes say of their objects: adding up the bytes of parts, and what is known of each name.
use Rattle.std.proofs.Common.{◌≡◌, ℕ, suc, ◌+◌, ◌-◌, ◌<◌, Option, Some, None, Result, Ok, Err, refl, ap, ◌∙◌, arith}
use Rattle.store_core.specs.Index.{added, bytes_from}

-- ---- adding up

-- so many bytes more
abbrev pub plus : ℕ → Result ℕ ℕ → Result ℕ ℕ
plus bytes (Ok rest) = Ok (bytes + rest)
plus bytes (Err missing) = Err missing

-- so many bytes were counted in the parts before this one
abbrev pub IsSoFar : (ℕ → Option ℕ) → ℕ → ℕ → ℕ → Type 0
IsSoFar sizes parts part bytes = bytes_from sizes 0 parts ≡ plus bytes (bytes_from sizes part (parts - part))

plus_none : (r : Result ℕ ℕ) → r ≡ plus 0 r
plus_none (Ok n) = ap Ok (omega arith)
plus_none (Err e) = refl

pub sum_starts : (sizes : ℕ → Option ℕ) (parts : ℕ) → IsSoFar sizes parts 0 0
sum_starts sizes parts = plus_none (bytes_from sizes 0 parts) ∙ ap (λ n. plus 0 (bytes_from sizes 0 n)) (omega arith)

plus_added : (bytes part size : ℕ) (r : Result ℕ ℕ) → plus bytes (added (Some size) part r) ≡ plus (bytes + size) r
plus_added bytes part size (Ok rest) = ap Ok (omega arith)
plus_added bytes part size (Err missing) = refl

pub unrolled : (sizes : ℕ → Option ℕ) (parts part : ℕ) → part < parts → bytes_from sizes part (parts - part) ≡ added (sizes part) part (bytes_from sizes (part + 1) (parts - (part + 1)))
unrolled sizes parts part l = ap (bytes_from sizes part) (let n : parts - part ≡ suc (parts - (part + 1)) = omega arith in n)

pub sum_goes_on : (sizes : ℕ → Option ℕ) (parts part bytes size : ℕ) → part < parts → sizes part ≡ Some size → IsSoFar sizes parts part bytes → IsSoFar sizes parts (part + 1) (bytes + size)
sum_goes_on sizes parts part bytes size l is so_far = so_far
    ∙ ap (plus bytes) (unrolled sizes parts part l ∙ ap (λ (o : Option ℕ). added o part (bytes_from sizes (part + 1) (parts - (part + 1)))) is)
    ∙ plus_added bytes part size (bytes_from sizes (part + 1) (parts - (part + 1)))

pub sum_stops : (sizes : ℕ → Option ℕ) (parts part bytes : ℕ) → part < parts → sizes part ≡ None → IsSoFar sizes parts part bytes → bytes_from sizes 0 parts ≡ Err part
sum_stops sizes parts part bytes l is so_far = so_far ∙ ap (plus bytes) (unrolled sizes parts part l ∙ ap (λ (o : Option ℕ). added o part (bytes_from sizes (part + 1) (parts - (part + 1)))) is)

pub sum_ends : (sizes : ℕ → Option ℕ) (parts bytes : ℕ) → IsSoFar sizes parts parts bytes → bytes_from sizes 0 parts ≡ Ok bytes
sum_ends sizes parts bytes so_far = so_far ∙ ap (λ n. plus bytes (bytes_from sizes parts n)) (let n : parts - parts ≡ 0 = omega arith in n) ∙ ap Ok (omega arith)
