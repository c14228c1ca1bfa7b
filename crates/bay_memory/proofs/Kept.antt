-- What a crash keeps.
use Rattle.std.proofs.Common.{◌≡◌, ℕ, ◌≤◌, ◌&&◌, ◌==◌, Bool, true, false, List, length, max, cond, Option, Some, refl, sym, ◌∙◌, ap, arith}
use Rattle.std.proofs.lemmas.List.{take_all}
use Rattle.zone_bay.specs.Contents.{Shape, Contents, Lengths}
use Rattle.zone_bay.specs.Images.{without_each}
use Rattle.zone_bay.proofs.Images.{same_contents}
use Rattle.bay_memory.specs.declared.keep.Keep.{Keep}
use Rattle.bay_memory.specs.declared.keep.Keep.TheVariants.{Firm, All, Short}
use Rattle.bay_memory.specs.Keep.{kept, kept_bytes, IsLeft}

pub kept_all : (held : Contents) (firm : Lengths) → kept All held firm ≡ held
kept_all held firm = same_contents (kept All held firm) held (λ d z. take_all (length (held d z)) (held d z) (omega arith))

-- an image keeps at least the firm bytes
kept_firm : (keep : Keep) (d z held firm : ℕ) → firm ≤ held → firm ≤ kept_bytes keep d z held firm
kept_firm Firm d z held firm within = omega arith
kept_firm All d z held firm within = within
kept_firm (Short device zone bytes) d z held firm within = short ((d == device) && (z == zone))
  where
    short : (b : Bool) → firm ≤ cond b (max firm bytes) held
    short true = omega arith
    short false = within

pub kept_left : (keep : Keep) (removed : List ℕ) (held : Contents) (firm : Lengths) (image : Contents) → ((d z : ℕ) → firm d z ≤ length (held d z)) → image ≡ without_each removed (kept keep held firm) → IsLeft removed held firm image
kept_left keep removed held firm image within is = (kept keep held firm, (λ d z. (kept_bytes keep d z (length (held d z)) (firm d z), kept_firm keep d z (length (held d z)) (firm d z) (within d z), refl)), is)

pub kept_pair : (shape shape' : Shape) (image image' : Contents) → shape ≡ shape' → image ≡ image' → ◌≡◌ {A = Option (Shape × Contents)} (Some (shape, image)) (Some (shape', image'))
kept_pair shape shape' image image' s i = ap {B = Option (Shape × Contents)} (λ (x : Shape). Some (x, image)) s ∙ ap {B = Option (Shape × Contents)} (λ (c : Contents). Some (shape', c)) i

pub asked_same : {A : Type 0} {x y : A} {o : Option A} → o ≡ Some x → o ≡ Some y → x ≡ y
asked_same is_x is_y = some_same (sym is_x ∙ is_y)
  where
    some_same : {A : Type 0} {x y : A} → ◌≡◌ {A = Option A} (Some x) (Some y) → x ≡ y
    some_same e = cc
