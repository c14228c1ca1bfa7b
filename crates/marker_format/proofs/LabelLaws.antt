-- A label is read exactly from its spelling.
use Rattle.std.proofs.Common.{◌≡◌, ℕ, List, [], ◌∷◌, ◌++◌, length, take, drop, get_or, refl, sym, ap, ◌∙◌, arith}
use Rattle.std.specs.Prelude.{codes}
use Rattle.std.specs.Int.{w8, w16, w32, Width}
use Rattle.std.proofs.lemmas.List.{take_all, length-append, length-take, length-drop}
use Rattle.smore_base.specs.BigEndian.{AreBytes, spelled, fields_at}
use Rattle.smore_base.proofs.BigEndianLaws.{exact8, exact16, exact32, AllExact, AllFit, number_at-fits, length-spelled}
use Rattle.marker_format.specs.declared.label.Label.{Label}
use Rattle.marker_format.specs.Label.{IsLabel, fields_of, spelling_of, label_at}
use Rattle.marker_format.specs.Frame.{HasFrame}
use Rattle.marker_format.proofs.Formats.{so_spelled, ReadsAgain, reads_again}

abbrev pub magic : List ℕ
magic = codes "SMORELB1"

abbrev widths : List Width
widths = w8 ∷ w8 ∷ w8 ∷ w8 ∷ w8 ∷ w16 ∷ w32 ∷ w32 ∷ []

exact : AllExact widths
exact = (exact8, (exact8, (exact8, (exact8, (exact8, (exact16, (exact32, (exact32, tt))))))))

fit : (f : Label) → IsLabel f → AllFit (fields_of f)
fit f is = (is.version, (is.device, (is.drives, (is.k, (is.p, (is.zones, (is.blocks, (is.shard, tt))))))))

-- what is read was written so
pub label_at-spelled : (bytes : List ℕ) → AreBytes bytes → HasFrame magic 39 bytes → bytes ≡ spelling_of (label_at bytes)
unfolding spelling_of
label_at-spelled bytes fits frame =
    let all : take 16 (drop 23 bytes) ≡ drop 23 bytes = take_all 16 (drop 23 bytes) (omega (arith, frame.0, length-drop 23 bytes)) in
    so_spelled widths magic bytes exact fits (omega (arith, frame.0)) frame.1
    ∙ ap (λ (l : List ℕ). magic ++ (spelled (fields_at widths bytes 8) ++ l)) (sym all)

pub label_at-fits : (bytes : List ℕ) → AreBytes bytes → length bytes ≡ 39 → IsLabel (label_at bytes)
label_at-fits bytes fits long = record {
  version = number_at-fits w8 bytes 8 exact8 fits;
  device = number_at-fits w8 bytes 9 exact8 fits;
  drives = number_at-fits w8 bytes 10 exact8 fits;
  k = number_at-fits w8 bytes 11 exact8 fits;
  p = number_at-fits w8 bytes 12 exact8 fits;
  zones = number_at-fits w16 bytes 13 exact16 fits;
  blocks = number_at-fits w32 bytes 15 exact32 fits;
  shard = number_at-fits w32 bytes 19 exact32 fits;
  array = omega (arith, length-take 16 (drop 23 bytes), length-drop 23 bytes);
}

again : (f : Label) → IsLabel f → ReadsAgain magic (spelling_of f) f.array (fields_of f)
unfolding spelling_of
again f is = reads_again magic (spelling_of f) f.array (fields_of f) refl exact (fit f is) refl

-- what was written is read again
pub label_at-again : (f : Label) → IsLabel f → label_at (spelling_of f) ≡ f
label_at-again f is =
    let e = (again f is).fields in
    let a : take 16 (drop 23 (spelling_of f)) ≡ f.array = ap (take 16) (again f is).behind ∙ take_all 16 f.array (omega (arith, is.array)) in
    λ i. record {
      version = (get_or (e i) 0 (w8, 0)).1;
      device = (get_or (e i) 1 (w8, 0)).1;
      geometry = record {
        drives = (get_or (e i) 2 (w8, 0)).1;
        k = (get_or (e i) 3 (w8, 0)).1;
        p = (get_or (e i) 4 (w8, 0)).1;
        zones = (get_or (e i) 5 (w8, 0)).1;
        blocks = (get_or (e i) 6 (w8, 0)).1;
        shard = (get_or (e i) 7 (w8, 0)).1;
      };
      array = a i;
    }

pub spelling_of-frame : (f : Label) → IsLabel f → HasFrame magic 39 (spelling_of f)
unfolding spelling_of
spelling_of-frame f is = (omega (arith, length-append magic (spelled (fields_of f) ++ f.array), length-append (spelled (fields_of f)) f.array, length-spelled (fields_of f) exact, is.array), (again f is).begins)

pub one_spelling : (a b : Label) → IsLabel a → IsLabel b → spelling_of a ≡ spelling_of b → a ≡ b
one_spelling a b a-is b-is e = sym (label_at-again a a-is) ∙ ap label_at e ∙ label_at-again b b-is

pub length-spelling_of : (f : Label) → IsLabel f → length (spelling_of f) ≡ 39
length-spelling_of f is = (spelling_of-frame f is).0

-- also where a number is too great for its field
pub length-spelling : (f : Label) → length f.array ≡ 16 → length (spelling_of f) ≡ 39
unfolding spelling_of
length-spelling f array = omega (arith, array, length-append magic (spelled (fields_of f) ++ f.array), length-append (spelled (fields_of f)) f.array, length-spelled (fields_of f) exact)
