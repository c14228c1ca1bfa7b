-- A line is told by its spelling.
use Rattle.std.proofs.Common.{◌≡◌, ℕ, ◌+◌, ◌-◌, ◌<◌, ◌≤◌, Bool, true, false, List, [], ◌∷◌, ◌++◌, length, take, drop, get_or, Option, Some, None, refl, sym, ap, ◌∙◌, arith, append_assoc}
use Rattle.std.specs.Prelude.{replicate}
use Rattle.std.specs.Int.{w8, w16, w32, w64, Width}
use Rattle.std.proofs.lemmas.List.{take_at, drop_at, length-append, length-replicate, replicate-append-replicate}
use Rattle.smore_base.specs.BigEndian.{big_endian, spelled, number_of, fields_at}
use Rattle.smore_base.proofs.BigEndianLaws.{exact8, exact16, exact32, exact64, AllExact, AllFit, length-spelled, fields_at-spelled}
use Rattle.marker_format.specs.declared.kind.Kind.{Kind}
use Rattle.marker_format.specs.declared.kind.Kind.TheVariants.{Head, Part, Put, Delete, Cut, Ready, Digest, Snapshot, Trailer}
use Rattle.marker_format.specs.Kind.{code_of, has_name}
use Rattle.marker_format.specs.Marker.{IsNamed, bytes_of_name, name_field}
use Rattle.set_digest.specs.declared.line.Line.{Line}
use Rattle.set_digest.specs.Line.{IsLine, fields_of, name_and_zeros, spelling_of}

abbrev widths : List Width
widths = w16 ∷ w8 ∷ w32 ∷ w16 ∷ w64 ∷ w64 ∷ w32 ∷ w32 ∷ w32 ∷ w32 ∷ []

exact : AllExact widths
exact = (exact16, (exact8, (exact32, (exact16, (exact64, (exact64, (exact32, (exact32, (exact32, (exact32, tt))))))))))

code_small : (kind : Kind) → code_of kind < 256
code_small Head = omega arith
code_small Part = omega arith
code_small Put = omega arith
code_small Delete = omega arith
code_small Cut = omega arith
code_small Ready = omega arith
code_small Digest = omega arith
code_small Snapshot = omega arith
code_small Trailer = omega arith

fit : (l : Line) → IsLine l → AllFit (fields_of l)
fit l is = (
  is.position_to,
  (
    omega (arith, is.coded, code_small is.kind),
    (is.block_to, (is.fragment_to, (omega (arith, is.stamp_to), (omega (arith, is.upload_to), (is.part_to, (is.parts_to, (is.length_to, (is.payload_to, tt)))))))),
  ),
)

-- ---- names

-- a name, and zeros to the end of a line
name_then_zeros : (name : List ℕ) → length name ≤ 255 → big_endian w8 (length name) ++ (name ++ replicate (278 - length name) 0) ≡ name_and_zeros name
name_then_zeros name short =
    let first = big_endian w8 (length name) in
    let zeros : replicate (278 - length name) 0 ≡ replicate (255 - length name) 0 ++ replicate 23 0 =
    ap (λ n. replicate n 0) (let e : 278 - length name ≡ 255 - length name + 23 = omega arith in e) ∙ sym (replicate-append-replicate (255 - length name) 23 0) in
    ap (λ l. first ++ (name ++ l)) zeros
    ∙ ap (λ l. first ++ l) (sym (append_assoc name (replicate (255 - length name) 0) (replicate 23 0)))
    ∙ sym (append_assoc first (name ++ replicate (255 - length name) 0) (replicate 23 0))

-- a name that was written behind the fields
pub name_written : (name old mid new : List ℕ) (at end left : ℕ) → length name ≤ 255 → take end mid ≡ take at old ++ (big_endian w8 (length name) ++ name) → left ≡ 278 - length name → new ≡ take end mid ++ replicate left 0
    → new ≡ take at old ++ name_and_zeros name
name_written name old mid new at end left short written left_is new_is =
    let first = big_endian w8 (length name) in
    let zeros = replicate (278 - length name) 0 in
    new_is
    ∙ (λ i. written i ++ replicate (left_is i) 0)
    ∙ append_assoc (take at old) (first ++ name) zeros
    ∙ ap (λ l. take at old ++ l) (append_assoc first name zeros ∙ name_then_zeros name short)

name_length : (name : List ℕ) → length name ≤ 255 → length (name_and_zeros name) ≡ 279
name_length name short =
    omega (
      arith,
      length-append (name_field name) (replicate 23 0),
      length-replicate {A = ℕ} 23 0,
      length-append (big_endian w8 (length name)) (name ++ replicate (255 - length name) 0),
      exact8.long (length name),
      length-append name (replicate (255 - length name) 0),
      length-replicate {A = ℕ} (255 - length name) 0,
      short,
    )

-- what follows a name
abbrev behind : List ℕ → List ℕ
behind name = replicate (255 - length name) 0 ++ replicate 23 0

name_parts : (name : List ℕ) → name_and_zeros name ≡ big_endian w8 (length name) ++ (name ++ behind name)
name_parts name =
    append_assoc (big_endian w8 (length name)) (name ++ replicate (255 - length name) 0) (replicate 23 0)
    ∙ ap (λ l. big_endian w8 (length name) ++ l) (append_assoc name (replicate (255 - length name) 0) (replicate 23 0))

names_are_apart : (a b : List ℕ) → length a ≤ 255 → length b ≤ 255 → name_and_zeros a ≡ name_and_zeros b → a ≡ b
names_are_apart a b short_a short_b e =
    let both : big_endian w8 (length a) ++ (a ++ behind a) ≡ big_endian w8 (length b) ++ (b ++ behind b) = sym (name_parts a) ∙ e ∙ name_parts b in
    let first : big_endian w8 (length a) ≡ big_endian w8 (length b) =
    sym (take_at (big_endian w8 (length a)) (a ++ behind a) 1 (exact8.long (length a))) ∙ ap (take 1) both ∙ take_at (big_endian w8 (length b)) (b ++ behind b) 1 (exact8.long (length b)) in
    let long : length a ≡ length b = sym (exact8.read_back (length a) (omega (arith, short_a))) ∙ ap (number_of w8) first ∙ exact8.read_back (length b) (omega (arith, short_b)) in
    let rest : a ++ behind a ≡ b ++ behind b =
    sym (drop_at (big_endian w8 (length a)) (a ++ behind a) 1 (exact8.long (length a))) ∙ ap (drop 1) both ∙ drop_at (big_endian w8 (length b)) (b ++ behind b) 1 (exact8.long (length b)) in
    sym (take_at a (behind a) (length b) long) ∙ ap (take (length b)) rest ∙ take_at b (behind b) (length b) refl

name_short : (used : Bool) (o : Option (List ℕ)) → IsNamed used o → length (bytes_of_name o) ≤ 255
name_short true None h = omega arith
name_short false None h = omega arith
name_short true (Some name) h = h.1
name_short false (Some name) h = absurd h

same_name : (ua ub : Bool) (a b : Option (List ℕ)) → IsNamed ua a → IsNamed ub b → bytes_of_name a ≡ bytes_of_name b → a ≡ b
same_name ua ub None None ha hb e = refl
same_name true ub (Some x) None ha hb e = absurd (omega (arith, ha.0, ap length e))
same_name false ub (Some x) None ha hb e = absurd ha
same_name ua true None (Some y) ha hb e = absurd (omega (arith, hb.0, ap length e))
same_name ua false None (Some y) ha hb e = absurd hb
same_name ua ub (Some x) (Some y) ha hb e = ap (λ (l : List ℕ). Some l) e

-- ---- whole lines

pub spelling_of-parts : (l : Line) (mid new : List ℕ) → take 41 mid ≡ spelled (fields_of l) → new ≡ take 41 mid ++ name_and_zeros (bytes_of_name l.name) → new ≡ spelling_of l
unfolding spelling_of
spelling_of-parts l mid new written new_is = new_is ∙ ap (λ t. t ++ name_and_zeros (bytes_of_name l.name)) written

pub length-spelling_of : (l : Line) → IsLine l → length (spelling_of l) ≡ 320
unfolding spelling_of
length-spelling_of l is =
    omega (
      arith,
      length-append (spelled (fields_of l)) (name_and_zeros (bytes_of_name l.name)),
      length-spelled (fields_of l) exact,
      name_length (bytes_of_name l.name) (name_short (has_name is.kind) l.name is.name),
    )

-- what is read of a line's bytes
record ReadsLine (l : Line) (bytes : List ℕ) : Type 0 where
  fields : fields_at widths bytes 0 ≡ fields_of l
  name : drop 41 bytes ≡ name_and_zeros (bytes_of_name l.name)

reads_line : (l : Line) → IsLine l → ReadsLine l (spelling_of l)
unfolding spelling_of
reads_line l is =
    let read = fields_at-spelled (fields_of l) (spelling_of l) (name_and_zeros (bytes_of_name l.name)) 0 exact (fit l is) refl in
    record { fields = read.0; name = read.1 }

pub lines_are_apart : (a b : Line) → IsLine a → IsLine b → spelling_of a ≡ spelling_of b → a ≡ b
lines_are_apart a b a_is b_is same =
    let ra = reads_line a a_is in
    let rb = reads_line b b_is in
    let e : fields_of a ≡ fields_of b = sym ra.fields ∙ ap (λ l. fields_at widths l 0) same ∙ rb.fields in
    let bytes : bytes_of_name a.name ≡ bytes_of_name b.name =
    names_are_apart _ _ (name_short (has_name a_is.kind) a.name a_is.name) (name_short (has_name b_is.kind) b.name b_is.name) (sym ra.name ∙ ap (drop 41) same ∙ rb.name) in
    let name : a.name ≡ b.name = same_name (has_name a_is.kind) (has_name b_is.kind) a.name b.name a_is.name b_is.name bytes in
    λ i. record {
      position = (get_or (e i) 0 (w8, 0)).1;
      kind = (get_or (e i) 1 (w8, 0)).1;
      block = (get_or (e i) 2 (w8, 0)).1;
      fragment = (get_or (e i) 3 (w8, 0)).1;
      stamp = (get_or (e i) 4 (w8, 0)).1;
      upload = (get_or (e i) 5 (w8, 0)).1;
      part = (get_or (e i) 6 (w8, 0)).1;
      parts = (get_or (e i) 7 (w8, 0)).1;
      length = (get_or (e i) 8 (w8, 0)).1;
      payload = (get_or (e i) 9 (w8, 0)).1;
      name = name i;
    }
