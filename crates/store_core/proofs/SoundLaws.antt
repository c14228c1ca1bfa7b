-- Indexes stay sound.
use Rattle.std.proofs.Common.{◌≡◌, ℕ, ◌<◌, ◌≤◌, ◌⊎◌, inl, inr, Bool, true, false, cond, List, Option, Some, None, is_some, refl, sym, ap, subst, ◌∙◌, arith, bytes_eq}
use Rattle.std.specs.Prelude.{IfSome}
use Rattle.std.specs.Coded.{×_prop, le_prop}
use Rattle.std.specs.Ordering.{eq_by_cmp}
use Rattle.std.specs.FinMap as finmap
use Rattle.std.specs.FinMap.{get-empty}
use Rattle.std.proofs.lemmas.Slice.Eq.{bytes_eq-Decides}
use Rattle.smore_base.specs.Name.{IsName}
use Rattle.store_core.specs.declared.index.Note.{Note}
use Rattle.store_core.specs.declared.index.Part.{Part}
use Rattle.store_core.specs.declared.index.Index.{Index}
use Rattle.store_core.specs.Index.{notes_in, parts_in, with_note, with_part, PartKey, part_cmp}
use Rattle.store_core.specs.Said.{or_else}
use Rattle.store_core.specs.Sound.{IsSoundPart, IsSoundIndex}
use Rattle.store_core.proofs.IndexMaps.{same_part}
use Rattle.store_core.proofs.SaidLaws.{get-with_part, get-with_note}

-- ---- one proof

IsName-prop : (name : List ℕ) → IsProp (IsName name)
IsName-prop name = ×_prop le_prop le_prop

IsSoundPart-prop : (blocks shard stamp upload : ℕ) (part : Part) → IsProp (IsSoundPart blocks shard stamp upload part)
IsSoundPart-prop blocks shard stamp upload part x y = λ i. record {
  past = le_prop x.past y.past i;
  within = le_prop x.within y.within i;
  small = le_prop x.small y.small i;
}

pub IsSoundIndex-prop : (blocks shard stamp : ℕ) (index : Index) → IsProp (IsSoundIndex blocks shard stamp index)
IsSoundIndex-prop blocks shard stamp index x y = λ i. record {
  names = λ name there. IsName-prop name (x.names name there) (y.names name there) i;
  notes = λ name note there. le_prop (x.notes name note there) (y.notes name note there) i;
  parts = λ upload number part there. IsSoundPart-prop blocks shard stamp upload part (x.parts upload number part there) (y.parts upload number part there) i;
}

-- ---- changes

pub sound_empty : (blocks shard stamp : ℕ) (index : Index) → notes_in index ≡ finmap.empty → parts_in index ≡ finmap.empty → IsSoundIndex blocks shard stamp index
sound_empty blocks shard stamp index notes parts = record {
  names = λ name there. let none = ap (λ n. finmap.get n name) notes ∙ get-empty _ name in let no = sym (ap is_some none) ∙ there in absurd cc;
  notes = λ name note there. let none = ap (λ n. finmap.get n name) notes ∙ get-empty _ name in let no = sym none ∙ there in absurd cc;
  parts = λ upload number part there. let none = ap (λ p. finmap.get p (upload, number)) parts ∙ get-empty _ (upload, number) in let no = sym none ∙ there in absurd cc;
}

-- later stamps
pub sound_later : (blocks shard stamp stamp' : ℕ) (index : Index) → stamp ≤ stamp' → IsSoundIndex blocks shard stamp index → IsSoundIndex blocks shard stamp' index
sound_later blocks shard stamp stamp' index l was = record {
  names = was.names;
  notes = λ name note there. omega (arith, l, was.notes name note there);
  parts = λ upload number part there. let p = was.parts upload number part there in record { past = omega (arith, l, p.past); within = p.within; small = p.small };
}

-- the same notes and parts
pub sound_same : (blocks shard stamp : ℕ) (old new : Index) → notes_in new ≡ notes_in old → parts_in new ≡ parts_in old → IsSoundIndex blocks shard stamp old → IsSoundIndex blocks shard stamp new
sound_same blocks shard stamp old new notes parts was = record {
  names = λ name there. was.names name (ap (λ n. is_some (finmap.get n name)) (sym notes) ∙ there);
  notes = λ name note there. was.notes name note (ap (λ n. finmap.get n name) (sym notes) ∙ there);
  parts = λ upload number part there. was.parts upload number part (ap (λ p. finmap.get p (upload, number)) (sym parts) ∙ there);
}

from_or_else : (a : Option Part) (b : Bool) (part p : Part) → or_else a (cond b (Some part) None) ≡ Some p → (a ≡ Some p) ⊎ ((b ≡ true) × (part ≡ p))
from_or_else (Some a) b part p e = inl e
from_or_else None true part p e = inr (refl, cc)
from_or_else None false part p e = absurd cc

-- one more part
pub sound_with_part : (blocks shard stamp : ℕ) (old new : Index) (upload number : ℕ) (part : Part) → notes_in new ≡ notes_in old → parts_in new ≡ with_part (upload, number) part (parts_in old) → IsSoundPart blocks shard stamp upload part → IsSoundIndex blocks shard stamp old → IsSoundIndex blocks shard stamp new
sound_with_part blocks shard stamp old new upload number part notes parts sound was = record {
  names = λ name there. was.names name (ap (λ n. is_some (finmap.get n name)) (sym notes) ∙ there);
  notes = λ name note there. was.notes name note (ap (λ n. finmap.get n name) (sym notes) ∙ there);
  parts = λ u i p there.
      let key : PartKey = (upload, number) in
      elim (from_or_else (finmap.get (parts_in old) (u, i)) (eq_by_cmp part_cmp (u, i) key) part p (sym (ap (λ q. finmap.get q (u, i)) parts ∙ get-with_part (parts_in old) key part (u, i)) ∙ there)) [
        | inl before ↦ was.parts u i p before
        | inr own ↦ subst (IsSoundPart blocks shard stamp u) own.1 (subst (λ (n : ℕ). IsSoundPart blocks shard stamp n part) (sym (ap (λ (k : PartKey). k.0) (same_part (u, i) key own.0))) sound)
      ];
}

-- a name with another note, or none
pub sound_with_note : (blocks shard stamp : ℕ) (old new : Index) (name : List ℕ) (note : Option Note) → IsName name → IfSome note (λ n. n.upload < stamp) → notes_in new ≡ with_note name note (notes_in old) → parts_in new ≡ parts_in old → IsSoundIndex blocks shard stamp old → IsSoundIndex blocks shard stamp new
sound_with_note blocks shard stamp old new name note fits below notes parts was = record {
  names = λ q there. at_one q (bytes_eq name q) refl (sym (ap is_some (ap (λ n. finmap.get n q) notes ∙ get-with_note note (notes_in old) name q)) ∙ there);
  notes = λ q n there. its q n (bytes_eq name q) (sym (ap (λ notes. finmap.get notes q) notes ∙ get-with_note note (notes_in old) name q) ∙ there);
  parts = λ upload number part there. was.parts upload number part (ap (λ p. finmap.get p (upload, number)) (sym parts) ∙ there);
}
  where
    own : (o : Option Note) (n : Note) → IfSome o (λ n. n.upload < stamp) → o ≡ Some n → n.upload < stamp
    own None n below e = absurd cc
    own (Some m) n below e = let same : m ≡ n = cc in subst (λ (n : Note). n.upload < stamp) same below

    its : (q : List ℕ) (n : Note) (b : Bool) → cond b note (finmap.get (notes_in old) q) ≡ Some n → n.upload < stamp
    its q n true e = own note n below e
    its q n false e = was.notes q n e

    at_one : (q : List ℕ) (b : Bool) → bytes_eq name q ≡ b → is_some (cond (bytes_eq name q) note (finmap.get (notes_in old) q)) ≡ true → IsName q
    at_one q true e there = subst IsName ((bytes_eq-Decides name q).0 e) fits
    at_one q false e there = was.names q (sym (ap (λ b. is_some (cond b note (finmap.get (notes_in old) q))) e) ∙ there)
