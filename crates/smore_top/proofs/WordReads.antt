-- What is read of the words of a command line is what they spell.
use Rattle.std.proofs.Common.{◌≡◌, ℕ, ◌*◌, ◌<◌, ◌^◌, Bool, true, false, not, List, [], ◌∷◌, length, Some, Ok, Err, Result, refl, sym, ap, subst, ◌∙◌, arith}
use Rattle.std.specs.Prelude.{slice_get, MatchResult, OnOk, is_err}
use Rattle.std.specs.Str.{bytes_eq}
use Rattle.std.proofs.lemmas.Bool.{false≢true}
use Rattle.std.proofs.lemmas.Slice.Eq.{bytes_eq-Decides}
use Rattle.hex.specs.Hex.{decode_of, decode_sized, encode_lower, lower_digits}
use Rattle.hex.specs.declared.error.FromHexError.{FromHexError}
use Rattle.hex.proofs.HexLemmas.{length-encode_with, decode_of-encode_lower, decode_of-ok, decode_sized-twice, decode_sized-ok}
use Rattle.smore_base.specs.declared.geometry.Geometry.{Geometry}
use Rattle.marker_format.specs.Zone.{Array}
use Rattle.smore_top.specs.Words.{IsId, IsMadeGeometry, IsNumberAt, HasGeometry, IsFormat, BeginsFormat}
use Rattle.smore_top.proofs.Numerals.{one_number}

-- ---- the array's number

-- what decoding into 16 bytes answers
abbrev Decodes : {T : Type 0} → List ℕ → List ℕ → T → Result T FromHexError → Type 0
Decodes word out done result = MatchResult (decode_sized word 16) (λ bytes. (result ≡ Ok done) × (out ≡ bytes)) (λ e. result ≡ Err e)

id_decodes : (word id : List ℕ) → IsId id → word ≡ encode_lower id → decode_sized word 16 ≡ Ok id
id_decodes word id is spelled =
    let long : length word ≡ 2 * 16 = omega (arith, ap length spelled, length-encode_with lower_digits id, is.long) in
    let whole = decode_of-encode_lower id is.bytes in
    decode_sized-twice word 16 long ∙ (rw spelled whole)

-- it answers that of a word that spells a number
decoded : {T : Type 0} (word id out : List ℕ) (done : T) (result : Result T FromHexError) → Decodes word out done result → IsId id → word ≡ encode_lower id → (result ≡ Ok done) × (out ≡ id)
decoded word id out done result gives is spelled = rw (id_decodes word id is spelled) at gives

pub never_refused : {T : Type 0} (word id out : List ℕ) (done : T) (result : Result T FromHexError) → Decodes word out done result → is_err result ≡ true → IsId id → word ≡ encode_lower id → ⊥
never_refused word id out done result gives refused is spelled =
    let ok = (decoded word id out done result gives is spelled).0 in
    false≢true (rw ok at refused)

by_ok : {T : Type 0} (result : Result T FromHexError) (P : Type 0) → OnOk result P → is_err result ≡ false → P
by_ok (Ok x) P p is = p
by_ok (Err e) P p is = absurd (false≢true (sym is))

-- what is written of the bytes that were read
pub written : {T : Type 0} (out input digits : List ℕ) (result : Result T FromHexError) → OnOk result (digits ≡ encode_lower input) → is_err result ≡ false → input ≡ out → digits ≡ encode_lower out
written out input digits result writes ok same = by_ok result (digits ≡ encode_lower input) writes ok ∙ ap encode_lower same

pub spells_as_written : {T : Type 0} (word id out digits : List ℕ) (done : T) (result : Result T FromHexError) → Decodes word out done result → digits ≡ encode_lower out → (differ : Bool) → differ ≡ not (bytes_eq digits word) → differ ≡ true → IsId id → word ≡ encode_lower id → ⊥
spells_as_written word id out digits done result gives made differ by is_true is spelled =
    let own = (decoded word id out done result gives is spelled).1 in
    let same : digits ≡ word = made ∙ ap encode_lower own ∙ sym spelled in
    let equal = (bytes_eq-Decides digits word).1 same in
    false≢true (rw equal at (sym by ∙ is_true))

pub decoded_is_id : {T : Type 0} (word out : List ℕ) (done : T) (result : Result T FromHexError) → Decodes word out done result → is_err result ≡ false → IsId out
decoded_is_id word out done result gives ok = by_answer (decode_sized word 16) refl gives
  where
    by_answer : (d : Result (List ℕ) FromHexError) → decode_sized word 16 ≡ d → MatchResult d (λ bytes. (result ≡ Ok done) × (out ≡ bytes)) (λ e. result ≡ Err e) → IsId out
    by_answer (Ok bytes) e is =
        let twice = decode_sized-ok word 16 bytes e in
        let read = decode_of-ok word bytes (sym (decode_sized-twice word 16 twice) ∙ e) in
        let own : IsId bytes = record { long = omega (arith, read.2, twice); bytes = read.3 } in
        rw is.1 own
    by_answer (Err why) e is = absurd (false≢true (sym (rw is at ok)))

-- ---- the geometry

equal_geometries : (a b c d e f a' b' c' d' e' f' : ℕ) → a ≡ a' → b ≡ b' → c ≡ c' → d ≡ d' → e ≡ e' → f ≡ f'
    → ◌≡◌ {A = Geometry} (record { drives = a; k = b; p = c; zones = d; blocks = e; shard = f }) (record { drives = a'; k = b'; p = c'; zones = d'; blocks = e'; shard = f' })
equal_geometries a b c d e f a' b' c' d' e' f' same_a same_b same_c same_d same_e same_f = cc

-- a geometry that the words have is the one of the numbers that they spell
numbers_are : (words : List (List ℕ)) (drives k p zones blocks shard : ℕ) → drives < 2 ^ 64 → k < 2 ^ 64 → p < 2 ^ 64 → zones < 2 ^ 64 → blocks < 2 ^ 64 → shard < 2 ^ 64
    → IsNumberAt 3 words drives → IsNumberAt 4 words k → IsNumberAt 5 words p → IsNumberAt 6 words zones → IsNumberAt 7 words blocks → IsNumberAt 8 words shard
    → (geometry : Geometry) → HasGeometry words geometry → geometry ≡ record { drives = drives; k = k; p = p; zones = zones; blocks = blocks; shard = shard }
numbers_are words drives k p zones blocks shard fits_drives fits_k fits_p fits_zones fits_blocks fits_shard at_drives at_k at_p at_zones at_blocks at_shard geometry has =
    let within = has.made.within in
    let a = one_number words 3 geometry.drives drives (omega (arith, within.drives_to)) fits_drives has.drives at_drives in
    let b = one_number words 4 geometry.k k (omega (arith, within.k_to)) fits_k has.k at_k in
    let c = one_number words 5 geometry.p p (omega (arith, within.fragments)) fits_p has.p at_p in
    let d = one_number words 6 geometry.zones zones (omega (arith, within.zones_to)) fits_zones has.zones at_zones in
    let e = one_number words 7 geometry.blocks blocks (omega (arith, within.blocks_to)) fits_blocks has.blocks at_blocks in
    let f = one_number words 8 geometry.shard shard (omega (arith, within.shard_to)) fits_shard has.shard at_shard in
    equal_geometries _ _ _ _ _ _ _ _ _ _ _ _ a b c d e f

pub made_geometry : (words : List (List ℕ)) (drives k p zones blocks shard : ℕ) → drives < 2 ^ 64 → k < 2 ^ 64 → p < 2 ^ 64 → zones < 2 ^ 64 → blocks < 2 ^ 64 → shard < 2 ^ 64
    → IsNumberAt 3 words drives → IsNumberAt 4 words k → IsNumberAt 5 words p → IsNumberAt 6 words zones → IsNumberAt 7 words blocks → IsNumberAt 8 words shard
    → (geometry : Geometry) → HasGeometry words geometry → IsMadeGeometry (record { drives = drives; k = k; p = p; zones = zones; blocks = blocks; shard = shard })
made_geometry words drives k p zones blocks shard fits_drives fits_k fits_p fits_zones fits_blocks fits_shard at_drives at_k at_p at_zones at_blocks at_shard geometry has =
    subst IsMadeGeometry (numbers_are words drives k p zones blocks shard fits_drives fits_k fits_p fits_zones fits_blocks fits_shard at_drives at_k at_p at_zones at_blocks at_shard geometry has) has.made

pub one_geometry : (words : List (List ℕ)) (a b : Geometry) → HasGeometry words a → HasGeometry words b → a ≡ b
one_geometry words a b has has' =
    let within = has'.made.within in
    numbers_are words b.drives b.k b.p b.zones b.blocks b.shard
    (omega (arith, within.drives_to)) (omega (arith, within.k_to)) (omega (arith, within.fragments)) (omega (arith, within.zones_to)) (omega (arith, within.blocks_to)) (omega (arith, within.shard_to))
    has'.drives has'.k has'.p has'.zones has'.blocks has'.shard a has

pub one_id : (words : List (List ℕ)) (a b : List ℕ) → BeginsFormat words a → BeginsFormat words b → a ≡ b
one_id words a b begins begins' =
    let same : encode_lower a ≡ encode_lower b = (let some = sym begins.at_id ∙ begins'.at_id in cc) in
    let own = decode_of-encode_lower a begins.is_id.bytes in
    let own' = decode_of-encode_lower b begins'.is_id.bytes in
    let both = sym own ∙ ap decode_of same ∙ own' in
    cc

-- ---- all words

nine_words : (words : List (List ℕ)) (a b c d e f g h i : List ℕ) → length words ≡ 9
    → slice_get words 0 ≡ Some a → slice_get words 1 ≡ Some b → slice_get words 2 ≡ Some c → slice_get words 3 ≡ Some d → slice_get words 4 ≡ Some e
    → slice_get words 5 ≡ Some f → slice_get words 6 ≡ Some g → slice_get words 7 ≡ Some h → slice_get words 8 ≡ Some i
    → words ≡ a ∷ b ∷ c ∷ d ∷ e ∷ f ∷ g ∷ h ∷ i ∷ []
nine_words [] a b c d e f g h i many e0 e1 e2 e3 e4 e5 e6 e7 e8 = absurd cc
nine_words (w0 ∷ []) a b c d e f g h i many e0 e1 e2 e3 e4 e5 e6 e7 e8 = absurd cc
nine_words (w0 ∷ w1 ∷ []) a b c d e f g h i many e0 e1 e2 e3 e4 e5 e6 e7 e8 = absurd cc
nine_words (w0 ∷ w1 ∷ w2 ∷ []) a b c d e f g h i many e0 e1 e2 e3 e4 e5 e6 e7 e8 = absurd cc
nine_words (w0 ∷ w1 ∷ w2 ∷ w3 ∷ []) a b c d e f g h i many e0 e1 e2 e3 e4 e5 e6 e7 e8 = absurd cc
nine_words (w0 ∷ w1 ∷ w2 ∷ w3 ∷ w4 ∷ []) a b c d e f g h i many e0 e1 e2 e3 e4 e5 e6 e7 e8 = absurd cc
nine_words (w0 ∷ w1 ∷ w2 ∷ w3 ∷ w4 ∷ w5 ∷ []) a b c d e f g h i many e0 e1 e2 e3 e4 e5 e6 e7 e8 = absurd cc
nine_words (w0 ∷ w1 ∷ w2 ∷ w3 ∷ w4 ∷ w5 ∷ w6 ∷ []) a b c d e f g h i many e0 e1 e2 e3 e4 e5 e6 e7 e8 = absurd cc
nine_words (w0 ∷ w1 ∷ w2 ∷ w3 ∷ w4 ∷ w5 ∷ w6 ∷ w7 ∷ []) a b c d e f g h i many e0 e1 e2 e3 e4 e5 e6 e7 e8 = absurd cc
nine_words (w0 ∷ w1 ∷ w2 ∷ w3 ∷ w4 ∷ w5 ∷ w6 ∷ w7 ∷ w8 ∷ []) a b c d e f g h i many e0 e1 e2 e3 e4 e5 e6 e7 e8 = cc
nine_words (w0 ∷ w1 ∷ w2 ∷ w3 ∷ w4 ∷ w5 ∷ w6 ∷ w7 ∷ w8 ∷ w9 ∷ ws) a b c d e f g h i many e0 e1 e2 e3 e4 e5 e6 e7 e8 = absurd (omega arith)

pub format_read : (words : List (List ℕ)) (id : List ℕ) (geometry : Geometry) → BeginsFormat words id → HasGeometry words geometry → IsFormat (record { geometry = geometry; id = id }) words
format_read words id geometry begins has = record {
  folder = begins.folder;
  spelled = nine_words words _ _ _ _ _ _ _ _ _ begins.many begins.command begins.at_folder begins.at_id has.drives has.k has.p has.zones has.blocks has.shard;
  no_option = begins.no_option;
  id = begins.is_id;
  geometry = has.made;
}

pub format_begins : (words : List (List ℕ)) (array : Array) → IsFormat array words → BeginsFormat words array.id
format_begins words array is = record {
  many = ap length is.spelled;
  command = ap (λ (w : List (List ℕ)). slice_get w 0) is.spelled;
  folder = is.folder;
  at_folder = ap (λ (w : List (List ℕ)). slice_get w 1) is.spelled;
  no_option = is.no_option;
  at_id = ap (λ (w : List (List ℕ)). slice_get w 2) is.spelled;
  is_id = is.id;
}

pub format_has : (words : List (List ℕ)) (array : Array) → IsFormat array words → HasGeometry words array.geometry
format_has words array is = record {
  drives = ap (λ (w : List (List ℕ)). slice_get w 3) is.spelled;
  k = ap (λ (w : List (List ℕ)). slice_get w 4) is.spelled;
  p = ap (λ (w : List (List ℕ)). slice_get w 5) is.spelled;
  zones = ap (λ (w : List (List ℕ)). slice_get w 6) is.spelled;
  blocks = ap (λ (w : List (List ℕ)). slice_get w 7) is.spelled;
  shard = ap (λ (w : List (List ℕ)). slice_get w 8) is.spelled;
  made = is.geometry;
}
