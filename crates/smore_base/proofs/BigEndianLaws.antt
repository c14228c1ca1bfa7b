-- Numbers and their bytes.
use Rattle.std.proofs.Common.{subst, map, ◌-◌, ◌^◌, ◌≡◌, ℕ, ◌+◌, ◌%◌, ◌<◌, ◌≤◌, List, [], ◌∷◌, ◌++◌, length, get_or, take, drop, refl, sym, ap, ◌∙◌, arith, inl, inr}
use Rattle.std.specs.Int.{Width, byte_len, w8, w16, w32, w64}
use Rattle.std.proofs.Math.Seq.{take-add}
use Rattle.std.proofs.lemmas.Bool.{cases_lt}
use Rattle.std.proofs.lemmas.List.{append-nil, append_assoc, take_all, take_at, drop_at, drop-drop, length-append, length-take, length-drop, get_or-take, get_or-drop, get_or_past}
use Rattle.std.proofs.lemmas.Nat.{be_bytes_2, be_bytes_4, be_bytes_8, from_be_bytes-to_be_bytes_2, from_be_bytes-to_be_bytes_4, from_be_bytes-to_be_bytes_8}
use Rattle.smore_base.specs.BigEndian.{big_endian, number_of, number_at, AreBytes, IsWritten, Stands, IsExact, Fields, spelled, fields_at, bytes_of}

alone : (bytes : List ℕ) → length bytes ≡ 1 → get_or bytes 0 0 < 256 → (get_or bytes 0 0 % 256) ∷ [] ≡ bytes
alone [] len fits = absurd (omega (arith, len))
alone (x ∷ []) len fits = ap (λ (y : ℕ). y ∷ []) (omega arith)
alone (x ∷ y ∷ more) len fits = absurd (omega (arith, len))

pub exact8 : IsExact w8
unfolding big_endian number_of
exact8 = record {
  long = λ n. refl;
  read_back = λ n lt. omega arith;
  so_written = λ bytes fits len. alone bytes len (fits 0);
  within = λ bytes fits. omega (arith, fits 0);
}

pub exact16 : IsExact w16
unfolding big_endian number_of
exact16 = record {
  long = λ n. refl;
  read_back = λ n lt. from_be_bytes-to_be_bytes_2 n lt;
  so_written = λ bytes fits len. be_bytes_2 bytes _ len fits refl;
  within = λ bytes fits. omega (arith, fits 0, fits 1);
}

pub exact32 : IsExact w32
unfolding big_endian number_of
exact32 = record {
  long = λ n. refl;
  read_back = λ n lt. from_be_bytes-to_be_bytes_4 n lt;
  so_written = λ bytes fits len. be_bytes_4 bytes _ len fits refl;
  within = λ bytes fits. omega (arith, fits 0, fits 1, fits 2, fits 3);
}

pub exact64 : IsExact w64
unfolding big_endian number_of
exact64 = record {
  long = λ n. refl;
  read_back = λ n lt. from_be_bytes-to_be_bytes_8 n lt;
  so_written = λ bytes fits len. be_bytes_8 bytes _ len fits refl;
  within = λ bytes fits. omega (arith, fits 0, fits 1, fits 2, fits 3, fits 4, fits 5, fits 6, fits 7);
}

pub AreBytes-drop : (n : ℕ) (bytes : List ℕ) → AreBytes bytes → AreBytes (drop n bytes)
AreBytes-drop n bytes fits i = rw get_or-drop (fits (n + i))

pub AreBytes-take : (n : ℕ) (bytes : List ℕ) → AreBytes bytes → AreBytes (take n bytes)
AreBytes-take n bytes fits i =
    elim (cases_lt i n) [
      | inl lt ↦ rw (get_or-take n bytes i 0 lt) (fits i)
      | inr le ↦ rw (get_or_past (take n bytes) i 0 (omega (arith, length-take n bytes))) (omega arith)
    ]

-- the number that is read at a place stands there
pub Stands-number_at : (w : Width) (bytes : List ℕ) (at : ℕ) → IsExact w → AreBytes bytes → at + byte_len w ≤ length bytes → Stands at (at + byte_len w) (big_endian w (number_at w bytes at)) bytes
Stands-number_at w bytes at exact fits long =
    let field = take (byte_len w) (drop at bytes) in
    let len : length field ≡ byte_len w = omega (arith, length-take (byte_len w) (drop at bytes), length-drop at bytes) in
    take-add at (byte_len w) bytes ∙ ap (λ (text : List ℕ). take at bytes ++ text) (sym (exact.so_written field (AreBytes-take (byte_len w) (drop at bytes) (AreBytes-drop at bytes fits)) len))

pub byte_at : (bytes : List ℕ) (at : ℕ) → get_or bytes at 0 ≡ number_at w8 bytes at
unfolding number_of
byte_at bytes at = sym (get_or-take 1 (drop at bytes) 0 0 (omega arith) ∙ get_or-drop at bytes 0 0 ∙ ap (λ (i : ℕ). get_or bytes i 0) (omega arith))

pub byte_is : (n : ℕ) → n < 256 → big_endian w8 n ≡ n ∷ []
unfolding big_endian
byte_is n lt = ap (λ (y : ℕ). y ∷ []) (omega arith)

pub number_at-fits : (w : Width) (bytes : List ℕ) (at : ℕ) → IsExact w → AreBytes bytes → number_at w bytes at < 256 ^ byte_len w
number_at-fits w bytes at exact fits = exact.within (take (byte_len w) (drop at bytes)) (AreBytes-take (byte_len w) (drop at bytes) (AreBytes-drop at bytes fits))

-- ---- one field behind the other

pub IsWritten-then : {a b c : ℕ} {x y old mid new : List ℕ} → IsWritten a b x old mid → IsWritten b c y mid new → b ≤ c → IsWritten a c (x ++ y) old new
IsWritten-then {a} {b} {c} {x} {y} {old} {mid} {new} first second le =
    let from_b : (xs : List ℕ) → drop c xs ≡ drop (c - b) (drop b xs) = λ xs. ap (λ (n : ℕ). drop n xs) (omega arith) ∙ sym (drop-drop (c - b) b xs) in
    record {
      prefix = second.prefix ∙ ap (λ (text : List ℕ). text ++ y) first.prefix ∙ append_assoc (take a old) x y;
      rest = second.rest ∙ from_b mid ∙ ap (drop (c - b)) first.rest ∙ sym (from_b old);
    }

-- what was written fills all
pub IsWritten-all : {n : ℕ} {text old new : List ℕ} → IsWritten 0 n text old new → length new ≤ n → new ≡ text
IsWritten-all {n} {text} {old} {new} written long = sym (take_all n new long) ∙ written.prefix

-- nothing was written
pub IsWritten-nothing : (at : ℕ) (bytes : List ℕ) → IsWritten at at [] bytes bytes
IsWritten-nothing at bytes = record { prefix = sym (append-nil (take at bytes)); rest = refl }

pub Stands-then : (a b c : ℕ) (x y bytes : List ℕ) → Stands a b x bytes → Stands b c y bytes → Stands a c (x ++ y) bytes
Stands-then a b c x y bytes first second = second ∙ ap (λ (text : List ℕ). text ++ y) first ∙ append_assoc (take a bytes) x y

-- ---- rows of fields

abbrev pub AllExact : List Width → Type 0
AllExact [] = Unit {0}
AllExact (w ∷ ws) = IsExact w × AllExact ws

abbrev pub AllFit : Fields → Type 0
AllFit [] = Unit {0}
AllFit (f ∷ fs) = (f.1 < 256 ^ byte_len f.0) × AllFit fs

-- the row that is read at a place stands there
pub Stands-fields_at : (ws : List Width) (bytes : List ℕ) (at : ℕ) → AllExact ws → AreBytes bytes → at + bytes_of ws ≤ length bytes → Stands at (at + bytes_of ws) (spelled (fields_at ws bytes at)) bytes
Stands-fields_at [] bytes at exact fits long = ap (λ (n : ℕ). take n bytes) (omega arith) ∙ sym (append-nil (take at bytes))
Stands-fields_at (w ∷ ws) bytes at exact fits long =
    let first = Stands-number_at w bytes at exact.0 fits (omega arith) in
    let more = Stands-fields_at ws bytes (at + byte_len w) exact.1 fits (omega arith) in
    let text : List ℕ = spelled (fields_at ws bytes (at + byte_len w)) in
    let end : at + byte_len w + bytes_of ws ≡ at + (byte_len w + bytes_of ws) = omega arith in
    Stands-then at (at + byte_len w) (at + (byte_len w + bytes_of ws)) (big_endian w (number_at w bytes at)) text bytes first (subst (λ (n : ℕ). Stands (at + byte_len w) n text bytes) end more)

-- a row that stands at a place is read there
pub fields_at-spelled : (fs : Fields) (bytes rest : List ℕ) (at : ℕ) → AllExact (map (λ f. f.0) fs) → AllFit fs → drop at bytes ≡ spelled fs ++ rest
    → (fields_at (map (λ f. f.0) fs) bytes at ≡ fs) × (drop (at + bytes_of (map (λ f. f.0) fs)) bytes ≡ rest)
fields_at-spelled [] bytes rest at exact fit e = (refl, ap (λ (n : ℕ). drop n bytes) (omega arith) ∙ e)
fields_at-spelled (f ∷ fs) bytes rest at exact fit e =
    let w = f.0 in
    let len = exact.0.long f.1 in
    let parts : drop at bytes ≡ big_endian w f.1 ++ (spelled fs ++ rest) = e ∙ append_assoc (big_endian w f.1) (spelled fs) rest in
    let number : number_at w bytes at ≡ f.1 = ap (λ (l : List ℕ). number_of w (take (byte_len w) l)) parts ∙ ap (number_of w) (take_at (big_endian w f.1) (spelled fs ++ rest) (byte_len w) len) ∙ exact.0.read_back f.1 fit.0 in
    let behind : drop (at + byte_len w) bytes ≡ spelled fs ++ rest = sym (drop-drop (byte_len w) at bytes) ∙ ap (drop (byte_len w)) parts ∙ drop_at (big_endian w f.1) (spelled fs ++ rest) (byte_len w) len in
    let more = fields_at-spelled fs bytes rest (at + byte_len w) exact.1 fit.1 behind in
    let field : (w, number_at w bytes at) ≡ f = λ i. (w, number i) in
    (λ i. field i ∷ more.0 i, ap (λ (n : ℕ). drop n bytes) (omega arith) ∙ more.1)

pub length-spelled : (fs : Fields) → AllExact (map (λ f. f.0) fs) → length (spelled fs) ≡ bytes_of (map (λ f. f.0) fs)
length-spelled [] exact = refl
length-spelled (f ∷ fs) exact = omega (arith, length-append (big_endian f.0 f.1) (spelled fs), exact.0.long f.1, length-spelled fs exact.1)
