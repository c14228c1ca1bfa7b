-- One zone of what is held beside the others, and which contents extend which.
use Rattle.std.proofs.Common.{◌≡◌, ℕ, List, [], ◌++◌, take, drop, refl, sym, ◌∙◌, ap, inl, inr}
use Rattle.std.proofs.lemmas.Bool.{cases_eq, eq-eqb, ne_eqb}
use Rattle.std.proofs.lemmas.List.{append-nil, append_assoc, take-append-drop}
use Rattle.zone_bay.specs.Contents.{Contents, with_zone, appended, Extends}

-- one zone, and the others
pub at_zone : (device zone : ℕ) (bytes : List ℕ) (held : Contents) → with_zone device zone bytes held device zone ≡ bytes
at_zone device zone bytes held = rw (eq-eqb device device refl, eq-eqb zone zone refl) refl

pub elsewhere : (device zone : ℕ) (bytes : List ℕ) (held : Contents) (P : ℕ → ℕ → List ℕ → Type 0) → P device zone bytes → ((d z : ℕ) → P d z (held d z)) → (d z : ℕ) → P d z (with_zone device zone bytes held d z)
elsewhere device zone bytes held P here each d z = elim (cases_eq d device) [
  | inl same ↦ elim (cases_eq z zone) [
    | inl there ↦ rw (eq-eqb d device same, eq-eqb z zone there, same, there) here
    | inr other ↦ rw (eq-eqb d device same, ne_eqb z zone other) (each d z)
  ]
  | inr other ↦ rw (ne_eqb d device other) (each d z)
]

pub extends_itself : (held : Contents) → Extends held held
extends_itself held d z = ([], sym (append-nil (held d z)))

pub extends_then : (held mid more : Contents) → Extends held mid → Extends mid more → Extends held more
extends_then held mid more first then d z = (
  (first d z).0 ++ (then d z).0,
  (then d z).1 ∙ ap (λ (l : List ℕ). l ++ (then d z).0) (first d z).1 ∙ append_assoc (held d z) (first d z).0 (then d z).0,
)

-- an append extends what was held
pub append_extends : (device zone : ℕ) (bytes : List ℕ) (held : Contents) → Extends held (appended device zone bytes held)
append_extends device zone bytes held = elsewhere device zone (held device zone ++ bytes) held (λ d z now. (behind : List ℕ) × (now ≡ held d z ++ behind)) (bytes, refl) (extends_itself held)

-- What extends what was held, and has the bytes behind it, extends what an append of the bytes makes of that.
pub extends_append : (device zone : ℕ) (bytes : List ℕ) (held more : Contents) → Extends held more → (behind : List ℕ) × (more device zone ≡ (held device zone ++ bytes) ++ behind) → Extends (appended device zone bytes held) more
extends_append device zone bytes held more extends here = elsewhere device zone (held device zone ++ bytes) held (λ d z now. (behind : List ℕ) × (more d z ≡ now ++ behind)) here extends

-- the whole of an append extends any part of it
pub part_extends : (device zone n : ℕ) (bytes : List ℕ) (held : Contents) → Extends (appended device zone (take n bytes) held) (appended device zone bytes held)
part_extends device zone n bytes held = extends_append device zone (take n bytes) held (appended device zone bytes held) (append_extends device zone bytes held) (
  drop n bytes,
  at_zone device zone (held device zone ++ bytes) held ∙ ap (λ (l : List ℕ). held device zone ++ l) (sym (take-append-drop n bytes)) ∙ sym (append_assoc (held device zone) (take n bytes) (drop n bytes)),
)
