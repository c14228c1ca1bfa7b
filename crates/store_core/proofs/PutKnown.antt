-- What a put makes of an index and of what is known of each name.
use Rattle.std.proofs.Common.{inl, inr, ◌⊎◌, ◌≡◌, ℕ, ◌+◌, ◌<◌, ◌≤◌, Bool, true, false, cond, List, Option, Some, None, Result, Ok, refl, sym, ap, subst, ◌∙◌, arith, bytes_eq}
use Rattle.std.specs.Prelude.{is_some, IsSome, option_map, ◌==◌, ◌&&◌}
use Rattle.std.specs.Ordering.{nat_cmp, eq_by_cmp, is_eq}
use Rattle.std.specs.Cmp.{tied_itself}
use Rattle.std.specs.Cmp.Lexicographic.{slice_cmp, nat_list_cmp_total}
use Rattle.std.specs.FinMap as finmap
use Rattle.std.specs.FinMap.{get-insert, get-remove, same_map}
use Rattle.std.proofs.lemmas.Bool.{eq-eqb, ne_eqb, cases_eq, cases_lt}
use Rattle.smore_base.specs.Name.{IsName}
use Rattle.std.proofs.lemmas.Slice.Eq.{bytes_eq-Decides}
use Rattle.store_core.specs.declared.extent.Extent.{Extent}
use Rattle.store_core.specs.declared.extent.Extent.TheVariants.{Sized, Broken}
use Rattle.store_core.specs.declared.index.Note.{Note}
use Rattle.store_core.specs.declared.index.Part.{Part}
use Rattle.store_core.specs.declared.index.Index.{Index}
use Rattle.store_core.specs.Index.{notes_in, parts_in, Notes, Parts, PartKey, part_cmp, with_note, note_of, with_part_of, added, bytes_from, extent_by, sizes_in, extent_in, extents_in}
use Rattle.store_core.specs.Sound.{IsSoundPart, IsSoundIndex}
use Rattle.store_core.proofs.IndexMaps.{part_cmp_total, part_cmp_exact, same_name, same_part, part_taken_back}
use Rattle.store_core.proofs.Mapped.{get-mapped, same_by_name}
use Rattle.store_core.proofs.SaidLaws.{eq_keys, get-with_note}

-- ---- a part that is there

some_part : (o : Option Part) → ((p : Part) → o ≡ Some p → ⊥) → o ≡ None
some_part None none = refl
some_part (Some p) none = absurd (none p refl)

-- no part has the stamp that comes next
pub fresh_part : (blocks shard stamp : ℕ) (index : Index) (number : ℕ) → IsSoundIndex blocks shard stamp index → finmap.get (parts_in index) (stamp, number) ≡ None
fresh_part blocks shard stamp index number sound = some_part (finmap.get (parts_in index) (stamp, number)) (λ p there. let it = sound.parts stamp number p there in omega (arith, it.past))

pub with_part_some : (upload : ℕ) (part : Part) (parts : Parts) → 0 < part.bytes → with_part_of upload part parts ≡ finmap.insert parts (upload, 0) part
with_part_some upload part parts some = ap (λ b. cond b parts (finmap.insert parts (upload, 0) part)) (ne_eqb part.bytes 0 (λ none. omega (arith, some, none)))

pub with_part_none : (upload : ℕ) (part : Part) (parts : Parts) → part.bytes ≡ 0 → with_part_of upload part parts ≡ parts
with_part_none upload part parts none = ap (λ b. cond b parts (finmap.insert parts (upload, 0) part)) (eq-eqb part.bytes 0 none)

-- the parts of another upload stay
other_part : (parts : Parts) (stamp upload number : ℕ) (part : Part) → (upload ≡ stamp → ⊥) → finmap.get (with_part_of stamp part parts) (upload, number) ≡ finmap.get parts (upload, number)
other_part parts stamp upload number part other = at_one (part.bytes == 0)
  where
    apart : eq_by_cmp part_cmp (upload, number) (stamp, 0) ≡ false
    apart = eq_keys upload number stamp 0 ∙ ap (λ b. b && (0 == number)) (ne_eqb stamp upload (λ same. other (sym same)))

    at_one : (b : Bool) → finmap.get (cond b parts (finmap.insert parts (stamp, 0) part)) (upload, number) ≡ finmap.get parts (upload, number)
    at_one true = refl
    at_one false = get-insert part_cmp_total parts (stamp, 0) part (upload, number) ∙ ap (λ b. cond b (Some part) (finmap.get parts (upload, number))) apart

-- so what is known of its note stays
other_extent : (parts : Parts) (stamp : ℕ) (part : Part) (note : Note) → note.upload < stamp → extent_in (with_part_of stamp part parts) note ≡ extent_in parts note
other_extent parts stamp part note below = ap (λ (sizes : ℕ → Option ℕ). extent_by note (bytes_from sizes 0 note.parts)) (λ i number. sizes number i)
  where
    sizes : (number : ℕ) → sizes_in (with_part_of stamp part parts) note.upload number ≡ sizes_in parts note.upload number
    sizes number = ap (option_map (λ (p : Part). p.bytes)) (other_part parts stamp note.upload number part (λ same. omega (arith, below, same)))

-- of the put's own note the object is known
own_extent : (parts : Parts) (stamp : ℕ) (part : Part) → extent_in (with_part_of stamp part parts) (note_of stamp part.bytes) ≡ Sized part.bytes
own_extent parts stamp part = elim (cases_eq part.bytes 0) [
  | inl none ↦ empty none
  | inr other ↦ some other
]
  where
    by_parts : ℕ → Result ℕ ℕ
    by_parts count = bytes_from (sizes_in (with_part_of stamp part parts) stamp) 0 count

    sized : (n : ℕ) → n ≡ part.bytes → extent_by (note_of stamp part.bytes) (Ok n) ≡ Sized part.bytes
    sized n is = ap (λ b. cond b (Sized n) (Broken stamp (cond (part.bytes == 0) 0 1))) (eq-eqb n part.bytes is) ∙ ap Sized is

    empty : part.bytes ≡ 0 → extent_by (note_of stamp part.bytes) (bytes_from (sizes_in (with_part_of stamp part parts) stamp) 0 (cond (part.bytes == 0) 0 1)) ≡ Sized part.bytes
    empty none = ap (λ b. extent_by (note_of stamp part.bytes) (bytes_from (sizes_in (with_part_of stamp part parts) stamp) 0 (cond b 0 1))) (eq-eqb part.bytes 0 none) ∙ sized 0 (sym none)

    itself : eq_by_cmp part_cmp (stamp, 0) (stamp, 0) ≡ true
    itself = ap is_eq (tied_itself part_cmp_total (stamp, 0))

    there : (part.bytes ≡ 0 → ⊥) → finmap.get (with_part_of stamp part parts) (stamp, 0) ≡ Some part
    there other =
        ap (λ b. finmap.get (cond b parts (finmap.insert parts (stamp, 0) part)) (stamp, 0)) (ne_eqb part.bytes 0 other)
        ∙ get-insert part_cmp_total parts (stamp, 0) part (stamp, 0) ∙ ap (λ b. cond b (Some part) (finmap.get parts (stamp, 0))) itself

    some : (part.bytes ≡ 0 → ⊥) → extent_by (note_of stamp part.bytes) (bytes_from (sizes_in (with_part_of stamp part parts) stamp) 0 (cond (part.bytes == 0) 0 1)) ≡ Sized part.bytes
    some other =
        ap (λ b. extent_by (note_of stamp part.bytes) (bytes_from (sizes_in (with_part_of stamp part parts) stamp) 0 (cond b 0 1))) (ne_eqb part.bytes 0 other)
        ∙ ap (λ o. extent_by (note_of stamp part.bytes) (added (option_map (λ (p : Part). p.bytes) o) 0 (Ok 0))) (there other)
        ∙ sized (part.bytes + 0) (omega arith)

-- what is known after a put
pub known_put : (blocks shard stamp : ℕ) (old new : Index) (name : List ℕ) (part : Part) → IsSoundIndex blocks shard stamp old → notes_in new ≡ finmap.insert (notes_in old) name (note_of stamp part.bytes) → parts_in new ≡ with_part_of stamp part (parts_in old)
    → extents_in new ≡ finmap.insert (extents_in old) name (Sized part.bytes)
known_put blocks shard stamp old new name part sound notes parts = same_by_name _ _ (λ q.
    get-mapped (extent_in (parts_in new)) (notes_in new) q
    ∙ ap (λ p. option_map (extent_in p) (finmap.get (notes_in new) q)) parts
    ∙ ap (λ n. option_map says (finmap.get n q)) notes
    ∙ ap (option_map says) (get-insert nat_list_cmp_total (notes_in old) name (note_of stamp part.bytes) q)
    ∙ at_one q (eq_by_cmp (slice_cmp nat_cmp) q name) (finmap.get (notes_in old) q) refl
    ∙ ap (cond (eq_by_cmp (slice_cmp nat_cmp) q name) (Some (Sized part.bytes))) (sym (get-mapped (extent_in (parts_in old)) (notes_in old) q))
    ∙ sym (get-insert nat_list_cmp_total (extents_in old) name (Sized part.bytes) q))
  where
    says : Note → Extent
    says = extent_in (with_part_of stamp part (parts_in old))

    at_one : (q : List ℕ) (b : Bool) (o : Option Note) → finmap.get (notes_in old) q ≡ o → option_map (extent_in (with_part_of stamp part (parts_in old))) (cond b (Some (note_of stamp part.bytes)) o) ≡ cond b (Some (Sized part.bytes)) (option_map (extent_in (parts_in old)) o)
    at_one q true o e = ap (λ (x : Extent). Some x) (own_extent (parts_in old) stamp part)
    at_one q false None e = refl
    at_one q false (Some note) e = ap (λ (x : Extent). Some x) (other_extent (parts_in old) stamp part note (sound.notes q note e))

-- ---- taken back

pub taken_back_notes : (notes : Notes) (name : List ℕ) (note : Note) (old : Option Note) → old ≡ finmap.get notes name → with_note name old (finmap.insert notes name note) ≡ notes
taken_back_notes notes name note old is = same_by_name _ _ (λ q. get-with_note old (finmap.insert notes name note) name q ∙ at_one q (bytes_eq name q) refl)
  where
    at_one : (q : List ℕ) (b : Bool) → bytes_eq name q ≡ b → cond b old (finmap.get (finmap.insert notes name note) q) ≡ finmap.get notes q
    at_one q true e = is ∙ ap (finmap.get notes) ((bytes_eq-Decides name q).0 e)
    at_one q false e = get-insert nat_list_cmp_total notes name note q ∙ ap (λ b. cond b (Some note) (finmap.get notes q)) (other q (eq_by_cmp (slice_cmp nat_cmp) q name) refl e)
      where
        other : (q : List ℕ) (b : Bool) → eq_by_cmp (slice_cmp nat_cmp) q name ≡ b → bytes_eq name q ≡ false → b ≡ false
        other q false tied e = refl
        other q true tied e = absurd (let no : true ≡ false = sym ((bytes_eq-Decides name q).1 (sym (same_name q name tied))) ∙ e in cc)

-- a part that isn't there needn't be taken out
none_taken : (parts : Parts) (key : PartKey) → finmap.get parts key ≡ None → finmap.remove parts key ≡ parts
none_taken parts key none = same_map part_cmp_total part_cmp_exact _ _ (λ q. get-remove part_cmp_total parts key q ∙ at_one q (eq_by_cmp part_cmp q key) refl)
  where
    at_one : (q : PartKey) (b : Bool) → eq_by_cmp part_cmp q key ≡ b → cond b None (finmap.get parts q) ≡ finmap.get parts q
    at_one q true e = sym none ∙ ap (finmap.get parts) (sym (same_part q key e))
    at_one q false e = refl

pub taken_back_parts : (parts : Parts) (upload : ℕ) (part : Part) → finmap.get parts (upload, 0) ≡ None → finmap.remove (with_part_of upload part parts) (upload, 0) ≡ parts
taken_back_parts parts upload part fresh = at_one (part.bytes == 0)
  where
    at_one : (b : Bool) → finmap.remove (cond b parts (finmap.insert parts (upload, 0) part)) (upload, 0) ≡ parts
    at_one true = none_taken parts (upload, 0) fresh
    at_one false = part_taken_back parts (upload, 0) part fresh

-- the put's name has a note until then
pub put_there : (notes : Notes) (name : List ℕ) (note : Note) → IsSome (finmap.get (finmap.insert notes name note) name)
put_there notes name note = ap is_some (get-insert nat_list_cmp_total notes name note name ∙ ap (λ b. cond b (Some note) (finmap.get notes name)) (ap is_eq (tied_itself nat_list_cmp_total name)))

-- ---- the index stays sound

pub sound_put : (blocks shard stamp : ℕ) (old new : Index) (name : List ℕ) (part : Part) → IsName name → (0 < part.bytes → IsSoundPart blocks shard (stamp + 1) stamp part) → notes_in new ≡ finmap.insert (notes_in old) name (note_of stamp part.bytes) → parts_in new ≡ with_part_of stamp part (parts_in old)
    → IsSoundIndex blocks shard stamp old → IsSoundIndex blocks shard (stamp + 1) new
sound_put blocks shard stamp old new name part named fits notes parts was =
    record {
      names = λ q there. names q (eq_by_cmp (slice_cmp nat_cmp) q name) refl (subst IsSome (noted q) there);
      notes = λ q note there. below q note (eq_by_cmp (slice_cmp nat_cmp) q name) (sym (noted q) ∙ there);
      parts = λ upload number p there. lies upload number p (cases_lt 0 part.bytes) (sym (ap (λ m. finmap.get m (upload, number)) parts) ∙ there);
    }
  where
    noted : (q : List ℕ) → finmap.get (notes_in new) q ≡ cond (eq_by_cmp (slice_cmp nat_cmp) q name) (Some (note_of stamp part.bytes)) (finmap.get (notes_in old) q)
    noted q = ap (λ n. finmap.get n q) notes ∙ get-insert nat_list_cmp_total (notes_in old) name (note_of stamp part.bytes) q

    names : (q : List ℕ) (b : Bool) → eq_by_cmp (slice_cmp nat_cmp) q name ≡ b → IsSome (cond b (Some (note_of stamp part.bytes)) (finmap.get (notes_in old) q)) → IsName q
    names q true e there = subst IsName (sym (same_name q name e)) named
    names q false e there = was.names q there

    below : (q : List ℕ) (note : Note) (b : Bool) → cond b (Some (note_of stamp part.bytes)) (finmap.get (notes_in old) q) ≡ Some note → note.upload < stamp + 1
    below q note true e = let same : note_of stamp part.bytes ≡ note = cc in omega (arith, ap (λ (n : Note). n.upload) same)
    below q note false e = omega (arith, was.notes q note e)

    own : (upload number : ℕ) (p : Part) (b : Bool) → 0 < part.bytes → eq_by_cmp part_cmp (upload, number) (stamp, 0) ≡ b → cond b (Some part) (finmap.get (parts_in old) (upload, number)) ≡ Some p → IsSoundPart blocks shard (stamp + 1) upload p
    own upload number p true some tied e =
        let same : part ≡ p = cc in
        subst (IsSoundPart blocks shard (stamp + 1) upload) same (subst (λ (u : ℕ). IsSoundPart blocks shard (stamp + 1) u part) (sym (ap (λ (k : PartKey). k.0) (same_part (upload, number) (stamp, 0) tied))) (fits some))
    own upload number p false some tied e = let it = was.parts upload number p e in record { past = omega (arith, it.past); within = it.within; small = it.small }

    lies : (upload number : ℕ) (p : Part) → (0 < part.bytes) ⊎ (part.bytes ≤ 0) → finmap.get (with_part_of stamp part (parts_in old)) (upload, number) ≡ Some p → IsSoundPart blocks shard (stamp + 1) upload p
    lies upload number p (inl some) e = own upload number p (eq_by_cmp part_cmp (upload, number) (stamp, 0)) some refl (sym (ap (λ m. finmap.get m (upload, number)) (with_part_some stamp part (parts_in old) some) ∙ get-insert part_cmp_total (parts_in old) (stamp, 0) part (upload, number)) ∙ e)
    lies upload number p (inr none) e = let it = was.parts upload number p (sym (ap (λ m. finmap.get m (upload, number)) (with_part_none stamp part (parts_in old) (omega (arith, none)))) ∙ e) in record { past = omega (arith, it.past); within = it.within; small = it.small }
