-- One more part.
use Rattle.std.proofs.Common.{◌≡◌, ℕ, ◌<◌, ◌≤◌, List, [], ◌∷◌, ◌++◌, length, arith, sym, ap, ◌∙◌, subst, All}
use Rattle.std.specs.List.{AllByRecursion}
use Rattle.std.proofs.lemmas.List.{flat_map_more, append_assoc}
use Rattle.std.proofs.lemmas.List.Elements.{All-push}
use Rattle.rs_code.specs.Coded.{CodedPayload}
use Rattle.rs_code.specs.Blob.{joined, AreWholeButLast}

abbrev pub AreWhole : ℕ → List CodedPayload → Type 0
AreWhole size parts = AllByRecursion (λ (part : CodedPayload). length part.payload ≡ size) parts

pub whole_more : (size : ℕ) (parts : List CodedPayload) (part : CodedPayload) → AreWhole size parts → length part.payload ≡ size → AreWhole size (parts ++ part ∷ [])
whole_more size [] part h e = (e, tt)
whole_more size (first ∷ parts) part h e = (h.0, whole_more size parts part h.1 e)

-- whole parts alone
pub all_whole : (size : ℕ) (parts : List CodedPayload) → 0 < size → AreWhole size parts → AreWholeButLast size parts
all_whole size [] pos h = tt
all_whole size (part ∷ []) pos h = let e = h.0 in (omega arith, omega arith)
all_whole size (part ∷ (next ∷ parts)) pos h = (h.0, all_whole size (next ∷ parts) pos h.1)

-- whole parts and a last one
pub last_more : (size : ℕ) (parts : List CodedPayload) (last : CodedPayload) → AreWhole size parts → 0 < length last.payload → length last.payload ≤ size → AreWholeButLast size (parts ++ last ∷ [])
last_more size [] last h some few = (some, few)
last_more size (part ∷ []) last h some few = (h.0, (some, few))
last_more size (part ∷ (next ∷ parts)) last h some few = (h.0, last_more size (next ∷ parts) last h.1 some few)

abbrev pub IsMadeFor : ℕ → ℕ → CodedPayload → Type 0
IsMadeFor k p part = (part.k ≡ k) × (part.p ≡ p)

-- a part is taken from the front of what is left, coded and added
pub part_added : (k p : ℕ) (old new : List CodedPayload) (coded : CodedPayload) (part later rest bytes : List ℕ)
    → new ≡ old ++ coded ∷ [] → coded ≡ record { payload = part; k = k; p = p } → rest ≡ part ++ later → joined old ++ rest ≡ bytes → All (IsMadeFor k p) old
    → (joined new ++ later ≡ bytes) × All (IsMadeFor k p) new
part_added k p old new coded part later rest bytes added is cut all made =
    subst (λ parts. (joined parts ++ later ≡ bytes) × All (IsMadeFor k p) parts) (sym added) (
      ap (λ xs. xs ++ later) (sym (flat_map_more (λ (part : CodedPayload). part.payload) [] old coded) ∙ ap (λ (c : CodedPayload). joined old ++ c.payload) is)
          ∙ append_assoc (joined old) part later
          ∙ ap (λ xs. joined old ++ xs) (sym cut)
          ∙ all,
      All-push (IsMadeFor k p) old coded made (ap (λ (c : CodedPayload). c.k) is, ap (λ (c : CodedPayload). c.p) is),
    )
