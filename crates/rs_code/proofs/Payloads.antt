-- A payload, zeros after it and parity behind them keep its fragments.
use Rattle.std.proofs.Common.{◌≡◌, ℕ, suc, zero, ◌+◌, ◌-◌, ◌*◌, ◌<◌, ◌≤◌, List, [], ◌∷◌, ◌++◌, length, get_or, take, replicate, refl, sym, ap, ◌∙◌, arith, subst}
use Rattle.std.proofs.lemmas.Grind.{div_ceil_times}
use Rattle.std.proofs.lemmas.List.{take-take, take_all, take_at, append_assoc, length-append, length-replicate, replicate-append-replicate}
use Rattle.gf_field.specs.Field.{IsByte, AreBytes}
use Rattle.rs_code.specs.Fragments.{fragment_at, sources, IsCode, fragment_len, padded, AreFragments, EachPayloadHasOneCode}
use Rattle.rs_code.specs.Coded.{pieces, KeepsFragments}
use Rattle.rs_code.proofs.Codes.{code_through, any_fragments_give_all}
use Rattle.rs_code.proofs.Sources.{sources_are_indexes}
use Rattle.rs_code.proofs.Pieces.{piece_within, same_piece, pieces_at}
use Rattle.std.proofs.lemmas.List.FromFn.{length-range_with_len, get_or-range_with_len}

-- bytes at the front of bytes are bytes
pub front_is_bytes : (xs ys : List ℕ) → ((i : ℕ) → IsByte (get_or (xs ++ ys) i 0)) → (i : ℕ) → IsByte (get_or xs i 0)
front_is_bytes [] ys h i = omega arith
front_is_bytes (x ∷ xs) ys h zero = h 0
front_is_bytes (x ∷ xs) ys h (suc i) = front_is_bytes xs ys (λ i. h (suc i)) i

-- a payload is no longer than its source fragments
pub payload_fits : (k len : ℕ) → 1 ≤ k → len ≤ k * fragment_len k len
payload_fits k len h = let d = div_ceil_times len k h in let e = d.0 in omega arith

-- a payload with zeros after it, cut where there are fewer of them
length-filled : (payload : List ℕ) (size more : ℕ) → length payload + more ≡ size → length (payload ++ replicate more 0) ≡ size
length-filled payload size more e =
    length-append payload (replicate more 0) ∙ ap (λ n. length payload + n) (length-replicate more 0) ∙ e

take-filled : (payload : List ℕ) (size more rest all : ℕ) → length payload + more ≡ size → more + rest ≡ all → take size (payload ++ replicate all 0) ≡ payload ++ replicate more 0
take-filled payload size more rest all e split =
    ap (λ n. take size (payload ++ replicate n 0)) (sym split)
    ∙ ap (λ zeros. take size (payload ++ zeros)) (sym (replicate-append-replicate more rest 0))
    ∙ ap (take size) (sym (append_assoc payload (replicate more 0) (replicate rest 0)))
    ∙ take_at (payload ++ replicate more 0) (replicate rest 0) size (length-filled payload size more e)

pub length-padded : (k : ℕ) (payload : List ℕ) → 1 ≤ k → length (padded k payload) ≡ k * fragment_len k (length payload)
length-padded k payload h =
    let size = k * fragment_len k (length payload) in
    let fits = payload_fits k (length payload) h in
    length-filled payload size (size - length payload) (omega arith)

-- bytes of which the first pieces are a padded payload begin with it
pub starts_with_payload : (k : ℕ) (payload bytes : List ℕ) → 1 ≤ k → take (k * fragment_len k (length payload)) bytes ≡ padded k payload → take (length payload) bytes ≡ payload
starts_with_payload k payload bytes h e =
    let size = k * fragment_len k (length payload) in
    sym (take-take (length payload) size bytes (payload_fits k (length payload) h))
    ∙ ap (take (length payload)) e
    ∙ take_at payload (replicate (size - length payload) 0) (length payload) refl

keeps : (k p : ℕ) (payload bytes : List ℕ) → 1 ≤ k → length bytes ≡ (k + p) * fragment_len k (length payload)
    → IsCode k (k + p) (fragment_len k (length payload)) (pieces (k + p) (fragment_len k (length payload)) bytes)
    → take (k * fragment_len k (length payload)) bytes ≡ padded k payload
    → KeepsFragments k p (length payload) (fragment_len k (length payload)) bytes
keeps k p payload bytes h l code e =
    let f = fragment_len k (length payload) in
    let size = k * f in
    let fits = payload_fits k (length payload) h in
    let more : k * f ≤ (k + p) * f = omega arith in
    record {
      has_source = h;
      size = l;
      payload_fits = omega arith;
      pieces_of = refl;
      are =
          subst (λ front. AreFragments k (k + p) front (pieces (k + p) f bytes)) (sym (starts_with_payload k payload bytes h e)) (
            code,
            λ i hi.
                let count = length-range_with_len 0 k in
                let lt : i < k = omega arith in
                same_piece (padded k payload) bytes size f i
                (take_all size (padded k payload) (let n = length-padded k payload h in omega arith) ∙ sym e) (piece_within k f i lt)
                ∙ sym (pieces_at (k + p) f bytes i (omega arith))
                ∙ ap (fragment_at (pieces (k + p) f bytes)) (sym (get_or-range_with_len 0 k i 0 lt ∙ (let z : 0 + i ≡ i = omega arith in z))),
          );
    }

pub keeps_fragments : (k p f : ℕ) (payload bytes : List ℕ) → 1 ≤ k → f ≡ fragment_len k (length payload) → length bytes ≡ (k + p) * f
    → IsCode k (k + p) f (pieces (k + p) f bytes) → take (k * f) bytes ≡ padded k payload
    → KeepsFragments k p (length payload) f bytes
keeps_fragments k p f payload bytes h is =
    subst (λ f. length bytes ≡ (k + p) * f → IsCode k (k + p) f (pieces (k + p) f bytes) → take (k * f) bytes ≡ padded k payload → KeepsFragments k p (length payload) f bytes)
    (sym is) (keeps k p payload bytes h)

-- a payload is filled up in a vector
pub filled : (k p f size had : ℕ) (payload none filling full : List ℕ) → 1 ≤ k → f ≡ fragment_len k (length payload) → size ≡ (k + p) * f
    → none ≡ [] → filling ≡ none ++ payload → had ≡ length payload → full ≡ take size filling ++ replicate (size - had) 0
    → take (k * f) full ≡ padded k payload
filled k p f size had payload none filling full h is total start added len rest =
    let least = fragment_len k (length payload) in
    let fits = payload_fits k (length payload) h in
    let total_least : size ≡ (k + p) * least = total ∙ ap (λ g. (k + p) * g) is in
    let within : k * least ≤ size = omega arith in
    let filling_is : filling ≡ payload = added ∙ ap (λ xs. xs ++ payload) start in
    let full_is : full ≡ payload ++ replicate (size - length payload) 0 =
    rest
    ∙ ap (λ xs. take size xs ++ replicate (size - had) 0) filling_is
    ∙ ap (λ n. take size payload ++ replicate (size - n) 0) len
    ∙ ap (λ xs. xs ++ replicate (size - length payload) 0) (take_all size payload (omega arith))
    in
    ap (λ g. take (k * g) full) is ∙ ap (take (k * least)) full_is ∙ take-filled payload (k * least) (k * least - length payload) (size - k * least) (size - length payload) (omega arith) (omega arith)

-- what stands in the vector once the parity is added: it begins with the payload, and keeps its fragments
pub made_whole : (k p f size had kept : ℕ) (payload none filling full whole rest : List ℕ) → 1 ≤ k → f ≡ fragment_len k (length payload) → size ≡ (k + p) * f
    → none ≡ [] → filling ≡ none ++ payload → had ≡ length payload → full ≡ take size filling ++ replicate (size - had) 0
    → kept ≡ size → length whole ≡ kept → IsCode k (k + p) f (pieces (k + p) f whole) → take (k * f) whole ≡ take (k * f) full
    → (take (length payload) (take kept (whole ++ rest)) ≡ payload) × KeepsFragments k p (length payload) f (take kept (whole ++ rest))
made_whole k p f size had kept payload none filling full whole rest h is total start added len filled_up all l code same =
    let front = same ∙ filled k p f size had payload none filling full h is total start added len filled_up in
    let least = fragment_len k (length payload) in
    subst (λ xs. (take (length payload) xs ≡ payload) × KeepsFragments k p (length payload) f xs) (sym (take_at whole rest kept l)) (
      starts_with_payload k payload whole h (ap (λ g. take (k * g) whole) (sym is) ∙ front),
      keeps_fragments k p f payload whole h is (l ∙ all ∙ total) code front,
    )

-- ---- the one code of a payload
zeros_are_bytes : (n i : ℕ) → IsByte (get_or (replicate n 0) i 0)
zeros_are_bytes zero i = omega arith
zeros_are_bytes (suc n) zero = omega arith
zeros_are_bytes (suc n) (suc i) = zeros_are_bytes n i

filled_is_bytes : (payload : List ℕ) (n : ℕ) → AreBytes payload → (i : ℕ) → IsByte (get_or (payload ++ replicate n 0) i 0)
filled_is_bytes [] n h i = zeros_are_bytes n i
filled_is_bytes (x ∷ payload) n h zero = h.0
filled_is_bytes (x ∷ payload) n h (suc i) = filled_is_bytes payload n h.1 i

pub one_code : EachPayloadHasOneCode
one_code k n payload h small enough hb =
    let f = fragment_len k (length payload) in
    let few = sources_are_indexes k n enough in
    let through = code_through k n f (sources k) (padded k payload) small few (filled_is_bytes payload (k * f - length payload) hb) (length-padded k payload h) in
    let count = length-range_with_len 0 k in (
      through.0,
      (through.1, through.2),
      λ others are.
          any_fragments_give_all k n f (sources k) others (through.0) small few are.0 through.1
          (λ i hi. let within : i < length (sources k) = omega arith in sym (are.1 i within) ∙ through.2 i within),
    )
