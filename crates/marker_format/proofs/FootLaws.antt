-- A foot is read exactly from its spelling.
use Rattle.std.proofs.Common.{length, ◌≡◌, ℕ, List, [], ◌∷◌, ◌++◌, drop, get_or, refl, sym, ap, ◌∙◌, arith}
use Rattle.std.specs.Prelude.{codes}
use Rattle.std.specs.Int.{w8, w16, w32, w64, Width}
use Rattle.std.proofs.lemmas.List.{append-nil, drop_all, length-append}
use Rattle.smore_base.specs.BigEndian.{AreBytes, spelled, fields_at}
use Rattle.smore_base.proofs.BigEndianLaws.{exact8, exact16, exact32, exact64, AllExact, AllFit, number_at-fits, length-spelled}
use Rattle.marker_format.specs.declared.foot.Foot.{Foot}
use Rattle.marker_format.specs.Foot.{IsFoot, fields_of, spelling_of, foot_at}
use Rattle.marker_format.specs.Frame.{HasFrame}
use Rattle.marker_format.proofs.Formats.{so_spelled, ReadsAgain, reads_again}

abbrev pub magic : List ℕ
magic = codes "SMOREFT1"

abbrev widths : List Width
widths = w64 ∷ w8 ∷ w16 ∷ w32 ∷ w32 ∷ []

exact : AllExact widths
exact = (exact64, (exact8, (exact16, (exact32, (exact32, tt)))))

fit : (f : Foot) → IsFoot f → AllFit (fields_of f)
fit f is = (is.set, (is.index, (is.position, (is.block, (is.count, tt)))))

-- what is read was written so
pub foot_at-spelled : (bytes : List ℕ) → AreBytes bytes → HasFrame magic 27 bytes → bytes ≡ spelling_of (foot_at bytes)
unfolding spelling_of
foot_at-spelled bytes fits frame =
    let none : drop 27 bytes ≡ [] = drop_all 27 bytes (omega (arith, frame.0)) in
    so_spelled widths magic bytes exact fits (omega (arith, frame.0)) frame.1
    ∙ ap (λ (l : List ℕ). magic ++ (spelled (fields_at widths bytes 8) ++ l)) none
    ∙ ap (λ (l : List ℕ). magic ++ l) (append-nil (spelled (fields_at widths bytes 8)))

pub foot_at-fits : (bytes : List ℕ) → AreBytes bytes → IsFoot (foot_at bytes)
foot_at-fits bytes fits = record {
  set = number_at-fits w64 bytes 8 exact64 fits;
  index = number_at-fits w8 bytes 16 exact8 fits;
  position = number_at-fits w16 bytes 17 exact16 fits;
  block = number_at-fits w32 bytes 19 exact32 fits;
  count = number_at-fits w32 bytes 23 exact32 fits;
}

again : (f : Foot) → IsFoot f → ReadsAgain magic (spelling_of f) [] (fields_of f)
unfolding spelling_of
again f is = reads_again magic (spelling_of f) [] (fields_of f) refl exact (fit f is) (ap (λ (l : List ℕ). magic ++ l) (sym (append-nil (spelled (fields_of f)))))

-- what was written is read again
pub foot_at-again : (f : Foot) → IsFoot f → foot_at (spelling_of f) ≡ f
foot_at-again f is =
    let e = (again f is).fields in
    λ i. record {
      set = (get_or (e i) 0 (w8, 0)).1;
      index = (get_or (e i) 1 (w8, 0)).1;
      position = (get_or (e i) 2 (w8, 0)).1;
      block = (get_or (e i) 3 (w8, 0)).1;
      count = (get_or (e i) 4 (w8, 0)).1;
    }

pub spelling_of-frame : (f : Foot) → IsFoot f → HasFrame magic 27 (spelling_of f)
unfolding spelling_of
spelling_of-frame f is = (omega (arith, length-append magic (spelled (fields_of f)), length-spelled (fields_of f) exact), (again f is).begins)

pub one_spelling : (a b : Foot) → IsFoot a → IsFoot b → spelling_of a ≡ spelling_of b → a ≡ b
one_spelling a b a-is b-is e = sym (foot_at-again a a-is) ∙ ap foot_at e ∙ foot_at-again b b-is

pub length-spelling_of : (f : Foot) → IsFoot f → length (spelling_of f) ≡ 27
length-spelling_of f is = (spelling_of-frame f is).0

-- also where a number is too great for its field
pub length-spelling : (f : Foot) → length (spelling_of f) ≡ 27
unfolding spelling_of
length-spelling f = omega (arith, length-append magic (spelled (fields_of f)), length-spelled (fields_of f) exact)
