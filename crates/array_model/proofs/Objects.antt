-- Which parts and objects records give.
use Rattle.std.proofs.Common.{◌≡◌, ℕ, ◌+◌, List, [], ◌∷◌, Result, Option, Some, None, cond, inl, inr, refl, ap, ◌∙◌, zero, suc, eq-eqb}
use Rattle.std.proofs.lemmas.Bool.{and_from}
use Rattle.array_model.specs.Record.{Record, Part, Put, payload_of}
use Rattle.array_model.specs.Map.{said_by, part_of, or_else, parts_from, object_by, joined}
use Rattle.array_model.proofs.Records.{Among, payload_is_part}

-- both have the same first payload of each part of the upload
abbrev pub SameParts : List Record → List Record → ℕ → Type 0
SameParts items items' upload = (part : ℕ) → part_of upload part items' ≡ part_of upload part items

parts_same : (items items' : List Record) (upload : ℕ) → SameParts items items' upload → (part more : ℕ) → parts_from items' upload part more ≡ parts_from items upload part more
parts_same items items' upload same part zero = refl
parts_same items items' upload same part (suc more) =
    ap (λ o. joined o part (parts_from items' upload (part + 1) more)) (same part)
    ∙ ap (joined (part_of upload part items) part) (parts_same items items' upload same (part + 1) more)

-- A note says the same where the parts of its upload are the same.
pub said_same : (items items' : List Record) (note : Record) → ((own : List ℕ) (stamp upload parts bytes : ℕ) → note ≡ Put own stamp upload parts bytes → SameParts items items' upload) → said_by items' (Some note) ≡ said_by items (Some note)
said_same items items' (Put own stamp upload parts bytes) same =
    ap (λ (r : Result (List ℕ) ℕ). Some (object_by upload parts bytes r)) (parts_same items items' upload (same own stamp upload parts bytes refl) 0 parts)
said_same items items' note same = refl

-- the payload of a part
pub payload_here : (upload part : ℕ) (payload : List ℕ) → payload_of upload part (Part upload part payload) ≡ Some payload
payload_here upload part payload = ap (λ b. cond b (Some payload) None) (and_from _ _ (eq-eqb upload upload refl) (eq-eqb part part refl))

-- A part that is there has a first payload,
pub part_has_first : (upload part : ℕ) (payload : List ℕ) (items : List Record) → Among (Part upload part payload) items → (first : List ℕ) × (part_of upload part items ≡ Some first)
part_has_first upload part payload [] found = absurd found
part_has_first upload part payload (item ∷ items) (inl is) = (payload, ap (λ o. or_else o (part_of upload part items)) (ap (payload_of upload part) is ∙ payload_here upload part payload))
part_has_first upload part payload (item ∷ items) (inr later) =
    let rest = part_has_first upload part payload items later in
    front (payload_of upload part item) refl rest
  where
    front : (own : Option (List ℕ)) → payload_of upload part item ≡ own → (first : List ℕ) × (part_of upload part items ≡ Some first) → (first : List ℕ) × (part_of upload part (item ∷ items) ≡ Some first)
    front None none rest = (rest.0, ap (λ o. or_else o (part_of upload part items)) none ∙ rest.1)
    front (Some mine) is rest = (mine, ap (λ o. or_else o (part_of upload part items)) is)

-- and the first payload is of one that is there.
pub first_is_there : (upload part : ℕ) (payload : List ℕ) (items : List Record) → part_of upload part items ≡ Some payload → Among (Part upload part payload) items
first_is_there upload part payload [] is = cc
first_is_there upload part payload (item ∷ items) is = front (payload_of upload part item) refl is (first_is_there upload part payload items)
  where
    front : (own : Option (List ℕ)) → payload_of upload part item ≡ own → or_else own (part_of upload part items) ≡ Some payload → (part_of upload part items ≡ Some payload → Among (Part upload part payload) items) → Among (Part upload part payload) (item ∷ items)
    front None none is later = inr (later is)
    front (Some mine) own is later = inl (payload_is_part upload part payload item (own ∙ is))
