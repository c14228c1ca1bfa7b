-- A marker is read exactly from its spelling.
use Rattle.std.proofs.Common.{◌≡◌, ℕ, zero, suc, ◌+◌, ◌-◌, ◌<◌, Bool, true, false, List, [], ◌∷◌, ◌++◌, length, take, drop, replicate, get_or, Option, Some, None, refl, sym, ap, subst, ◌∙◌, arith, append_assoc}
use Rattle.std.specs.Prelude.{codes, cond}
use Rattle.std.proofs.lemmas.Bool.{ne_eqb}
use Rattle.std.specs.Int.{w8, w16, w32, w64, Width}
use Rattle.std.proofs.lemmas.List.{take_at, drop_at, drop-drop, take-append-drop, length-append, length-take, length-drop, length-replicate, get_or-replicate, same_lists}
use Rattle.smore_base.specs.BigEndian.{big_endian, AreBytes, spelled, number_of, number_at, fields_at}
use Rattle.smore_base.proofs.BigEndianLaws.{exact8, exact16, exact32, exact64, AllExact, AllFit, AreBytes-take, AreBytes-drop, number_at-fits, length-spelled}
use Rattle.marker_format.specs.declared.kind.Kind.{Kind}
use Rattle.marker_format.specs.declared.kind.Kind.TheVariants.{Head, Part, Put, Delete, Cut, Ready, Digest, Snapshot, Trailer}
use Rattle.marker_format.specs.declared.marker.Marker.{Marker}
use Rattle.marker_format.specs.Frame.{HasFrame, AreZeros}
use Rattle.marker_format.specs.Kind.{code_of, has_name, most_position}
use Rattle.marker_format.specs.Marker.{IsMarker, IsNamed, IsPadded, fields_of, bytes_of_name, name_field, name_of, spelling_of, marker_at}
use Rattle.marker_format.proofs.Formats.{so_spelled, ReadsAgain, reads_again}

abbrev pub magic : List ℕ
magic = codes "SMOREMK1"

abbrev widths : List Width
widths = w8 ∷ w8 ∷ w8 ∷ w8 ∷ w64 ∷ w16 ∷ w16 ∷ w64 ∷ w64 ∷ w32 ∷ w32 ∷ w32 ∷ w32 ∷ []

exact : AllExact widths
exact = (exact8, (exact8, (exact8, (exact8, (exact64, (exact16, (exact16, (exact64, (exact64, (exact32, (exact32, (exact32, (exact32, tt)))))))))))))

pub zeros_are : (xs : List ℕ) → AreZeros xs → xs ≡ replicate (length xs) 0
zeros_are xs zeros = same_lists xs (replicate (length xs) 0) (sym (length-replicate (length xs) 0)) (λ k d lt. zeros k d lt ∙ sym (get_or-replicate (length xs) k 0 d lt))

pub are_zeros : (n : ℕ) → AreZeros (replicate n 0)
are_zeros n k d lt = get_or-replicate n k 0 d (omega (arith, length-replicate {A = ℕ} n 0))

-- ---- names

name_is : (n : ℕ) (xs : List ℕ) → bytes_of_name (name_of n xs) ≡ take n xs
name_is zero xs = refl
name_is (suc n) xs = ap (λ (b : Bool). bytes_of_name (cond b None (Some (take (suc n) xs)))) (ne_eqb (suc n) 0 (λ h. omega (arith, h)))

-- a name's field is read as it was written
name_field-is : (bytes : List ℕ) → AreBytes bytes → length bytes ≡ 328 → IsPadded bytes → drop 72 bytes ≡ name_field (bytes_of_name (name_of (number_at w8 bytes 72) (drop 73 bytes)))
name_field-is bytes fits long padded =
    let n = number_at w8 bytes 72 in
    let rest = drop 73 bytes in
    let small : n < 256 = number_at-fits w8 bytes 72 exact8 fits in
    let len : length (take 1 (drop 72 bytes)) ≡ 1 = omega (arith, length-take 1 (drop 72 bytes), length-drop 72 bytes) in
    let first : big_endian w8 n ≡ take 1 (drop 72 bytes) = exact8.so_written (take 1 (drop 72 bytes)) (AreBytes-take 1 (drop 72 bytes) (AreBytes-drop 72 bytes fits)) len in
    let name : take n rest ≡ bytes_of_name (name_of n rest) = sym (name_is n rest) in
    let name_len : length (take n rest) ≡ n = omega (arith, length-take n rest, length-drop 73 bytes) in
    let behind : drop n rest ≡ replicate (255 - n) 0 = drop-drop n 73 bytes ∙ zeros_are (drop (73 + n) bytes) padded ∙ ap (λ (k : ℕ). replicate k 0) (omega (arith, length-drop (73 + n) bytes)) in
    let cut : drop 72 bytes ≡ take 1 (drop 72 bytes) ++ rest = sym (take-append-drop 1 (drop 72 bytes)) ∙ ap (λ (l : List ℕ). take 1 (drop 72 bytes) ++ l) (drop-drop 1 72 bytes) in
    let parts : rest ≡ take n rest ++ replicate (255 - n) 0 = sym (take-append-drop n rest) ∙ ap (λ (l : List ℕ). take n rest ++ l) behind in
    let field : drop 72 bytes ≡ big_endian w8 n ++ (take n rest ++ replicate (255 - n) 0) = cut ∙ (λ i. sym first i ++ parts i) in
    field ∙ (λ i. big_endian w8 (sym name_len i) ++ (take n rest ++ replicate (255 - sym name_len i) 0)) ∙ ap name_field name

-- a name that has a field is read from it
name_again : (used : Bool) (o : Option (List ℕ)) (rest : List ℕ) → IsNamed used o → name_of (length (bytes_of_name o)) (bytes_of_name o ++ rest) ≡ o
name_again true None rest h = refl
name_again false None rest h = refl
name_again true (Some []) rest h = absurd (omega (arith, h.0))
name_again true (Some (x ∷ xs)) rest h =
    let n = length (x ∷ xs) in
    ap (λ (b : Bool). cond b None (Some (take n ((x ∷ xs) ++ rest)))) (ne_eqb n 0 (λ e. omega (arith, e))) ∙ ap (λ (l : List ℕ). Some l) (take_at (x ∷ xs) rest n refl)
name_again false (Some name) rest h = absurd h

name_short : (used : Bool) (o : Option (List ℕ)) → IsNamed used o → length (bytes_of_name o) < 256
name_short true None h = omega arith
name_short false None h = omega arith
name_short true (Some name) h = omega (arith, h.1)
name_short false (Some name) h = absurd h

-- ---- whole markers

-- what is read was written so
pub marker_at-spelled : (bytes : List ℕ) → AreBytes bytes → HasFrame magic 328 bytes → IsPadded bytes → bytes ≡ spelling_of (marker_at bytes)
unfolding spelling_of
marker_at-spelled bytes fits frame padded =
    let behind : drop 16 (drop 56 bytes) ≡ name_field (bytes_of_name (marker_at bytes).name) = drop-drop 16 56 bytes ∙ name_field-is bytes fits frame.0 padded in
    let tail : drop 56 bytes ≡ take 16 (drop 56 bytes) ++ name_field (bytes_of_name (marker_at bytes).name) = sym (take-append-drop 16 (drop 56 bytes)) ∙ ap (λ (l : List ℕ). take 16 (drop 56 bytes) ++ l) behind in
    so_spelled widths magic bytes exact fits (omega (arith, frame.0)) frame.1
    ∙ ap (λ (l : List ℕ). magic ++ (spelled (fields_at widths bytes 8) ++ l)) tail

code_small : (kind : Kind) → code_of kind < 256
code_small Head = omega arith
code_small Part = omega arith
code_small Put = omega arith
code_small Delete = omega arith
code_small Cut = omega arith
code_small Ready = omega arith
code_small Digest = omega arith
code_small Snapshot = omega arith
code_small Trailer = omega arith

most_small : (kind : Kind) → most_position kind < 65536
most_small Head = omega arith
most_small Part = omega arith
most_small Put = omega arith
most_small Delete = omega arith
most_small Cut = omega arith
most_small Ready = omega arith
most_small Digest = omega arith
most_small Snapshot = omega arith
most_small Trailer = omega arith

fit : (m : Marker) → IsMarker m → AllFit (fields_of m)
fit m is = (
  omega (arith, is.coded, code_small is.kind),
  (
    omega (arith, is.index_to, is.n_to),
    (
      omega (arith, is.k_to, is.n_to),
      (
        omega (arith, is.n_to),
        (
          omega (arith, is.set_to),
          (
            omega (arith, is.position_to, most_small is.kind),
            (
              omega (arith, is.fragment_to),
              (
                omega (arith, is.stamp_to),
                (
                  omega (arith, is.upload_to),
                  (is.part_to, (is.parts_to, (is.length_to, (is.payload_to, tt)))),
                ),
              ),
            ),
          ),
        ),
      ),
    ),
  ),
)

abbrev tail_of : Marker → List ℕ
tail_of m = m.array ++ name_field (bytes_of_name m.name)

again : (m : Marker) → IsMarker m → ReadsAgain magic (spelling_of m) (tail_of m) (fields_of m)
unfolding spelling_of
again m is = reads_again magic (spelling_of m) (tail_of m) (fields_of m) refl exact (fit m is) refl

-- the name of a marker, as its bytes have it
record ReadsName (m : Marker) : Type 0 where
  number : number_at w8 (spelling_of m) 72 ≡ length (bytes_of_name m.name)
  behind : drop 73 (spelling_of m) ≡ bytes_of_name m.name ++ replicate (255 - length (bytes_of_name m.name)) 0

reads_name : (m : Marker) → IsMarker m → ReadsName m
reads_name m is =
    let bytes = spelling_of m in
    let name = bytes_of_name m.name in
    let zeros = replicate (255 - length name) 0 in
    let field : drop 72 bytes ≡ name_field name = sym (drop-drop 16 56 bytes) ∙ ap (drop 16) (again m is).behind ∙ drop_at m.array (name_field name) 16 is.array in
    let len : length (big_endian w8 (length name)) ≡ 1 = exact8.long (length name) in
    record {
      number = ap (λ (l : List ℕ). number_of w8 (take 1 l)) field ∙ ap (number_of w8) (take_at (big_endian w8 (length name)) (name ++ zeros) 1 len) ∙ exact8.read_back (length name) (name_short (has_name is.kind) m.name is.name);
      behind = sym (drop-drop 1 72 bytes) ∙ ap (drop 1) field ∙ drop_at (big_endian w8 (length name)) (name ++ zeros) 1 len;
    }

-- what was written is read again
pub marker_at-again : (m : Marker) → IsMarker m → marker_at (spelling_of m) ≡ m
marker_at-again m is =
    let bytes = spelling_of m in
    let name = bytes_of_name m.name in
    let e = (again m is).fields in
    let read = reads_name m is in
    let array : take 16 (drop 56 bytes) ≡ m.array = ap (take 16) (again m is).behind ∙ take_at m.array (name_field name) 16 is.array in
    let named : name_of (number_at w8 bytes 72) (drop 73 bytes) ≡ m.name = (λ i. name_of (read.number i) (read.behind i)) ∙ name_again (has_name is.kind) m.name (replicate (255 - length name) 0) is.name in
    λ i. record {
      kind = (get_or (e i) 0 (w8, 0)).1;
      index = (get_or (e i) 1 (w8, 0)).1;
      k = (get_or (e i) 2 (w8, 0)).1;
      n = (get_or (e i) 3 (w8, 0)).1;
      set = (get_or (e i) 4 (w8, 0)).1;
      position = (get_or (e i) 5 (w8, 0)).1;
      fragment = (get_or (e i) 6 (w8, 0)).1;
      stamp = (get_or (e i) 7 (w8, 0)).1;
      upload = (get_or (e i) 8 (w8, 0)).1;
      part = (get_or (e i) 9 (w8, 0)).1;
      parts = (get_or (e i) 10 (w8, 0)).1;
      length = (get_or (e i) 11 (w8, 0)).1;
      payload = (get_or (e i) 12 (w8, 0)).1;
      array = array i;
      name = named i;
    }

pub length-spelling_of : (m : Marker) → IsMarker m → length (spelling_of m) ≡ 328
unfolding spelling_of
length-spelling_of m is =
    let name = bytes_of_name m.name in
    omega (
      arith,
      length-append magic (spelled (fields_of m) ++ tail_of m),
      length-append (spelled (fields_of m)) (tail_of m),
      length-spelled (fields_of m) exact,
      is.array,
      length-append m.array (name_field name),
      length-append (big_endian w8 (length name)) (name ++ replicate (255 - length name) 0),
      exact8.long (length name),
      length-append name (replicate (255 - length name) 0),
      length-replicate {A = ℕ} (255 - length name) 0,
      name_short (has_name is.kind) m.name is.name,
    )

pub spelling_of-frame : (m : Marker) → IsMarker m → HasFrame magic 328 (spelling_of m)
spelling_of-frame m is = (length-spelling_of m is, (again m is).begins)

pub spelling_of-padded : (m : Marker) → IsMarker m → IsPadded (spelling_of m)
spelling_of-padded m is =
    let name = bytes_of_name m.name in
    let zeros = replicate (255 - length name) 0 in
    let read = reads_name m is in
    let e : drop (73 + number_at w8 (spelling_of m) 72) (spelling_of m) ≡ zeros =
    sym (drop-drop (number_at w8 (spelling_of m) 72) 73 (spelling_of m)) ∙ (λ i. drop (read.number i) (read.behind i)) ∙ drop_at name zeros (length name) refl in
    subst AreZeros (sym e) (are_zeros (255 - length name))

pub one_spelling : (a b : Marker) → IsMarker a → IsMarker b → spelling_of a ≡ spelling_of b → a ≡ b
one_spelling a b a-is b-is e = sym (marker_at-again a a-is) ∙ ap marker_at e ∙ marker_at-again b b-is

pub spelling_of-parts : (m : Marker) (bytes : List ℕ) → bytes ≡ (magic ++ (spelled (fields_of m) ++ m.array)) ++ name_field (bytes_of_name m.name) → bytes ≡ spelling_of m
unfolding spelling_of
spelling_of-parts m bytes e =
    let name = name_field (bytes_of_name m.name) in
    e ∙ append_assoc magic (spelled (fields_of m) ++ m.array) name ∙ ap (λ (l : List ℕ). magic ++ l) (append_assoc (spelled (fields_of m)) m.array name)
