-- What each call makes of what is held, zone by zone.
use Rattle.std.proofs.Common.{Bool, true, false, cond, min, ◌&&◌, ◌==◌, ◌≡◌, ℕ, ◌≤◌, List, length, take, refl, ap, arith, inl, inr}
use Rattle.std.specs.Prelude.{[]}
use Rattle.std.proofs.lemmas.Bool.{cases_eq, eq-eqb, ne_eqb}
use Rattle.std.proofs.lemmas.List.{append-nil, take_all}
use Rattle.zone_bay.specs.Contents.{Contents, Lengths, appended}
use Rattle.zone_bay.specs.Images.{still_firm}
use Rattle.zone_bay.specs.Bay.{Call, Written, Read, Append, Reset, Flush, Replace, made_by, part_made_by, firm_after}
use Rattle.zone_bay.proofs.Images.{same_contents}
use Rattle.bay_memory.specs.Past.{State, with_more, all_gone, all_firm}
use Rattle.bay_memory.specs.Array.{state_after}

-- two branches that are the same
same_either : {A : Type 0} (b : Bool) (a : A) → cond b a a ≡ a
same_either true a = refl
same_either false a = refl

-- what an answered call makes of the bytes of each zone
pub bytes_after : (call : Call) (held : Contents) (d z : ℕ) (state : State) → state.bytes ≡ held d z → (state_after call d z state).bytes ≡ made_by call held d z
bytes_after (Written device zone) held d z state is = rw (same_either (d == device) state) is
bytes_after (Read device zone) held d z state is = rw (same_either (d == device) state) is
bytes_after (Append device zone bytes) held d z state is = elim (cases_eq d device) [
  | inl same ↦ elim (cases_eq z zone) [
    | inl here ↦ rw (eq-eqb d device same, eq-eqb z zone here, is, same, here) refl
    | inr there ↦ rw (eq-eqb d device same, ne_eqb z zone there) is
  ]
  | inr other ↦ rw (ne_eqb d device other) is
]
bytes_after (Reset device zone) held d z state is = choice (d == device) (z == zone)
  where
    choice : (a b : Bool) → (cond a (cond b (all_gone state) state) state).bytes ≡ cond (a && b) [] (held d z)
    choice true true = refl
    choice true false = is
    choice false b = is
bytes_after (Flush device) held d z state is = choice (d == device)
  where
    choice : (b : Bool) → (cond b (all_firm state) state).bytes ≡ held d z
    choice true = is
    choice false = is
bytes_after (Replace device) held d z state is = choice (d == device)
  where
    choice : (b : Bool) → (cond b (all_gone state) state).bytes ≡ cond b [] (held d z)
    choice true = refl
    choice false = is

-- and how much of it is firm then
pub firm_made : (call : Call) (after : Contents) (firm : Lengths) (d z : ℕ) (state : State) → state.firm ≡ firm d z → state.firm ≤ length state.bytes → (state_after call d z state).bytes ≡ after d z → (state_after call d z state).firm ≡ firm_after call true after firm d z
firm_made (Written device zone) after firm d z state is within bytes = rw (same_either (d == device) state) is
firm_made (Read device zone) after firm d z state is within bytes = rw (same_either (d == device) state) is
firm_made (Append device zone bytes) after firm d z state is within now_bytes = choice (d == device) (z == zone)
  where
    choice : (a b : Bool) → (cond a (cond b (with_more bytes state) state) state).firm ≡ firm d z
    choice true true = is
    choice true false = is
    choice false b = is
firm_made (Reset device zone) after firm d z state is within bytes = choice (d == device) (z == zone) bytes
  where
    choice : (a b : Bool) → (cond a (cond b (all_gone state) state) state).bytes ≡ after d z → (cond a (cond b (all_gone state) state) state).firm ≡ min (firm d z) (length (after d z))
    choice true true bytes = omega (arith, ap length bytes)
    choice true false bytes = omega (arith, ap length bytes)
    choice false b bytes = omega (arith, ap length bytes)
firm_made (Flush device) after firm d z state is within bytes = choice (d == device) bytes
  where
    choice : (b : Bool) → (cond b (all_firm state) state).bytes ≡ after d z → (cond b (all_firm state) state).firm ≡ cond b (length (after d z)) (firm d z)
    choice true bytes = ap length bytes
    choice false bytes = is
firm_made (Replace device) after firm d z state is within bytes = choice (d == device) bytes
  where
    choice : (b : Bool) → (cond b (all_gone state) state).bytes ≡ after d z → (cond b (all_gone state) state).firm ≡ min (firm d z) (length (after d z))
    choice true bytes = omega (arith, ap length bytes)
    choice false bytes = omega (arith, ap length bytes)

-- an append of nothing
nothing_appended : (held : Contents) (device zone n : ℕ) → appended device zone (take n []) held ≡ held
nothing_appended held device zone n = same_contents (appended device zone (take n []) held) held each
  where
    none : ◌≡◌ {A = List ℕ} (take n []) []
    none = take_all n [] (omega arith)

    each : (d z : ℕ) → appended device zone (take n []) held d z ≡ held d z
    each d z = elim (cases_eq d device) [
      | inl same ↦ elim (cases_eq z zone) [
        | inl here ↦ rw (eq-eqb d device same, eq-eqb z zone here, same, here, none) (append-nil (held device zone))
        | inr there ↦ rw (eq-eqb d device same, ne_eqb z zone there) refl
      ]
      | inr other ↦ rw (ne_eqb d device other) refl
    ]

-- nothing of a call that failed
pub none_made : (call : Call) (held : Contents) → part_made_by 0 call held ≡ held
none_made (Written device zone) held = refl
none_made (Read device zone) held = refl
none_made (Append device zone bytes) held = nothing_appended held device zone 0
none_made (Reset device zone) held = refl
none_made (Flush device) held = refl
none_made (Replace device) held = refl

pub still_all_firm : (call : Call) (held : Contents) (firm : Lengths) → ((d z : ℕ) → firm d z ≤ length (held d z)) → firm ≡ firm_after call false held firm
still_all_firm (Written device zone) held firm within = refl
still_all_firm (Read device zone) held firm within = refl
still_all_firm (Append device zone bytes) held firm within = refl
still_all_firm (Reset device zone) held firm within = let each : (d z : ℕ) → firm d z ≡ still_firm held firm d z = λ d z. omega (arith, within d z) in λ i d z. each d z i
still_all_firm (Flush device) held firm within = refl
still_all_firm (Replace device) held firm within = let each : (d z : ℕ) → firm d z ≡ still_firm held firm d z = λ d z. omega (arith, within d z) in λ i d z. each d z i
