-- What is said with one record more.
use Rattle.std.proofs.Common.{◌^◌, leb-true, ◌≡◌, ℕ, ◌+◌, ◌<◌, ◌≤◌, Bool, true, false, cond, List, [], ◌∷◌, ◌++◌, Option, Some, None, is_some, refl, sym, ap, ◌∙◌, arith}
use Rattle.std.specs.Prelude.{◌&&◌, ◌==◌}
use Rattle.std.specs.Int.{div_ceil}
use Rattle.std.specs.Str.{bytes_eq}
use Rattle.std.specs.Ordering.{nat_cmp, eq_by_cmp, is_eq}
use Rattle.std.specs.Cmp.{tied_itself}
use Rattle.std.specs.Cmp.Lexicographic.{slice_cmp, nat_list_cmp_total}
use Rattle.std.specs.FinMap as finmap
use Rattle.std.specs.FinMap.{get-insert, get-remove}
use Rattle.std.proofs.lemmas.Bool.{and_parts, eqb-true, eq-eqb, ltb-true}
use Rattle.std.proofs.lemmas.Slice.Eq.{bytes_eq-Decides}
use Rattle.marker_format.specs.declared.kind.Kind.{Kind}
use Rattle.marker_format.specs.declared.kind.Kind.TheVariants as kinds
use Rattle.marker_format.specs.declared.marker.Marker.{Marker}
use Rattle.marker_format.specs.Kind.{kind_of, code_of, has_name}
use Rattle.marker_format.specs.Marker.{is_named, is_coded, uses, counts, passes, is_well_formed}
use Rattle.marker_format.specs.Zone.{blocks_of, has_kind, end_from}
use Rattle.array_model.specs.Record.{Record, note_stamp}
use Rattle.array_model.specs.Reading.{record_by}
use Rattle.array_model.specs.Map.{newest, is_less}
use Rattle.store_core.specs.declared.index.Note.{Note}
use Rattle.store_core.specs.declared.index.Part.{Part}
use Rattle.store_core.specs.declared.index.Index.{Index}
use Rattle.store_core.specs.declared.said.Said.{Said}
use Rattle.store_core.specs.Extent.{ByName}
use Rattle.store_core.specs.Index.{notes_in, parts_in, with_note, with_part, Notes, Parts, PartKey, part_cmp}
use Rattle.store_core.specs.Said.{said_by, said, note_read, stamp_read, part_at, or_else, part_from, Says, stamps_in, HasSaid, Noted}
use Rattle.store_core.proofs.IndexMaps.{part_cmp_total, same_name, same_part}
use Rattle.store_core.proofs.NewestAdded.{kept, newest_added}

said-added : (ms : List Marker) (m : Marker) → said (ms ++ m ∷ []) ≡ said ms ++ said_by m ∷ []
said-added [] m = refl
said-added (x ∷ ms) m = ap (λ (l : List Record). said_by x ∷ l) (said-added ms m)

pub newest_said : (name : List ℕ) (ms : List Marker) (m : Marker) → newest name (said (ms ++ m ∷ [])) ≡ kept name (newest name (said ms)) (said_by m)
newest_said name ms m = ap (newest name) (said-added ms m) ∙ newest_added name (said ms) (said_by m)

-- ---- parts

or_else_regroup : (a b c : Option Part) → or_else a (or_else b c) ≡ or_else (or_else a b) c
or_else_regroup (Some a) b c = refl
or_else_regroup None b c = refl

pub or_else_none : (a : Option Part) → a ≡ or_else a None
or_else_none (Some a) = refl
or_else_none None = refl

pub part_from-added : (block : ℕ) (ms : List Marker) (m : Marker) (upload number : ℕ) → part_from block (ms ++ m ∷ []) upload number ≡ or_else (part_from block ms upload number) (part_at (end_from block ms) m upload number)
part_from-added block [] m upload number = sym (or_else_none _)
part_from-added block (x ∷ ms) m upload number = ap (or_else (part_at block x upload number)) (part_from-added (block + blocks_of x) ms m upload number) ∙ or_else_regroup (part_at block x upload number) _ _

-- ---- notes

-- a record that is no note of a name leaves what is read of it
pub unsaid : (name : List ℕ) (old : Option Record) (item : Record) → note_stamp name item ≡ None → kept name old item ≡ old
unsaid name old item none = ap (λ s. cond (is_some s) (cond (is_less s (stamp_read name old)) old (Some item)) old) none

pub and_true : {a b : Bool} → a ≡ true → b ≡ true → (a && b) ≡ true
and_true {a} {b} p q = ap (λ x. x && b) p ∙ q

bool_iff : (a b : Bool) → (a ≡ true → b ≡ true) → (b ≡ true → a ≡ true) → a ≡ b
bool_iff true b to from = sym (to refl)
bool_iff false true to from = from refl
bool_iff false false to from = refl

-- ---- the kind of a marker

-- a test of numbers comes before others
picked : (b : Bool) (n c : ℕ) (k kind : Kind) (rest : Option Kind) → (n == c) ≡ b → c ≡ code_of k → (rest ≡ Some kind → n ≡ code_of kind) → cond b (Some k) rest ≡ Some kind → n ≡ code_of kind
picked true n c k kind rest test code later e = eqb-true n c test ∙ code ∙ ap code_of (let same : k ≡ kind = cc in same)
picked false n c k kind rest test code later e = later e

-- the number of the kind that is read
pub code_known : (m : Marker) (kind : Kind) → kind_of m.kind ≡ Some kind → m.kind ≡ code_of kind
code_known m kind =
    let n = m.kind in
    picked (n == 1) n 1 kinds.Head kind _ refl refl (picked (n == 2) n 2 kinds.Part kind _ refl refl (picked (n == 3) n 3 kinds.Put kind _ refl refl
    (picked (n == 4) n 4 kinds.Delete kind _ refl refl (picked (n == 5) n 5 kinds.Cut kind _ refl refl (picked (n == 6) n 6 kinds.Ready kind _ refl refl
    (picked (n == 7) n 7 kinds.Digest kind _ refl refl (picked (n == 8) n 8 kinds.Snapshot kind _ refl refl (picked (n == 9) n 9 kinds.Trailer kind None refl refl (λ e. absurd cc)))))))))

pub kind_known : (m : Marker) (kind other : Kind) → kind_of m.kind ≡ Some kind → has_kind other m ≡ (code_of kind == code_of other)
kind_known m kind other is = ap (λ n. n == code_of other) (code_known m kind is)

-- what a well formed marker of a kind passes
well_parts : (m : Marker) (kind : Kind) → is_well_formed m ≡ true → kind_of m.kind ≡ Some kind → (is_coded m ≡ true) × (uses kind m ≡ true)
unfolding is_well_formed
well_parts m kind well is =
    let tests = sym (ap (passes (λ k. is_coded m && uses k m && counts k m)) is) ∙ well in
    and_parts (is_coded m) (uses kind m) (and_parts (is_coded m && uses kind m) (counts kind m) tests).0

-- a note has a name
pub named : (m : Marker) (kind : Kind) → is_well_formed m ≡ true → kind_of m.kind ≡ Some kind → has_name kind ≡ true → (name : List ℕ) × (m.name ≡ Some name)
named m kind well is has = at_one m.name refl (sym (ap (λ b. is_named b m.name) has) ∙ (and_parts _ _ (well_parts m kind well is).1).1)
  where
    at_one : (o : Option (List ℕ)) → m.name ≡ o → is_named true o ≡ true → (name : List ℕ) × (m.name ≡ Some name)
    at_one (Some name) e there = (name, e)
    at_one None e there = absurd cc

-- the bounds of its numbers
pub record Bounds (m : Marker) : Type 0 where
  pub set_from : 1 ≤ m.set
  pub set_to : m.set < 2 ^ 62
  pub index : m.index < m.n
  pub fragment : m.fragment ≡ div_ceil m.payload m.k
  pub stamp : m.stamp < 2 ^ 62
  pub upload : m.upload < 2 ^ 62

pub bounds : (m : Marker) (kind : Kind) → is_well_formed m ≡ true → kind_of m.kind ≡ Some kind → Bounds m
bounds m kind well is =
    let p = well_parts m kind well is in
    let set_to = and_parts _ _ p.0 in
    let set_from = and_parts _ _ set_to.0 in
    let short = and_parts _ _ set_from.0 in
    let fragment = and_parts _ _ short.0 in
    let index = and_parts _ _ fragment.0 in
    let name = and_parts _ _ p.1 in
    let payload = and_parts _ _ name.0 in
    let upload = and_parts _ _ payload.0 in
    let used = and_parts _ _ upload.0 in
    let stamp = and_parts _ _ used.0 in
    record {
      set_from = leb-true 1 m.set set_from.1;
      set_to = ltb-true m.set (2 ^ 62) set_to.1;
      index = ltb-true m.index m.n index.1;
      fragment = eqb-true m.fragment (div_ceil m.payload m.k) fragment.1;
      stamp = ltb-true m.stamp (2 ^ 62) stamp.1;
      upload = ltb-true m.upload (2 ^ 62) upload.1;
    }

-- a kind is read of a well formed marker
pub well_has_kind : (m : Marker) → is_well_formed m ≡ true → kind_of m.kind ≡ None → ⊥
unfolding is_well_formed
well_has_kind m well none = let no = sym (ap (passes (λ k. is_coded m && uses k m && counts k m)) none) ∙ well in cc

pub said_kind : (m : Marker) (kind : Kind) → kind_of m.kind ≡ Some kind → said_by m ≡ record_by (Some kind) m []
said_kind m kind is = ap (λ (o : Option Kind). record_by o m []) is

-- with one source fragment, that is the payload
pub one_source : (n : ℕ) → div_ceil n 1 ≡ n
one_source n = omega arith

-- ---- one more part

pub eq_keys : (upload number u i : ℕ) → eq_by_cmp part_cmp (upload, number) (u, i) ≡ ((u == upload) && (i == number))
eq_keys upload number u i = bool_iff _ _ to from
  where
    to : eq_by_cmp part_cmp (upload, number) (u, i) ≡ true → ((u == upload) && (i == number)) ≡ true
    to e = let is = same_part (upload, number) (u, i) e in and_true (eq-eqb u upload (sym (ap (λ (k : PartKey). k.0) is))) (eq-eqb i number (sym (ap (λ (k : PartKey). k.1) is)))

    from : ((u == upload) && (i == number)) ≡ true → eq_by_cmp part_cmp (upload, number) (u, i) ≡ true
    from e =
        let both = and_parts (u == upload) (i == number) e in
        let one = eqb-true u upload both.0 in
        let two = eqb-true i number both.1 in
        ap (λ (k : PartKey). eq_by_cmp part_cmp (upload, number) k) (λ j. (one j, two j)) ∙ ap is_eq (tied_itself part_cmp_total (upload, number))

pub get-with_part : (parts : Parts) (key : PartKey) (part : Part) (q : PartKey) → finmap.get (with_part key part parts) q ≡ or_else (finmap.get parts q) (cond (eq_by_cmp part_cmp q key) (Some part) None)
get-with_part parts key part q = at_one (finmap.get parts key) refl (eq_by_cmp part_cmp q key) refl
  where
    at_one : (o : Option Part) → finmap.get parts key ≡ o → (b : Bool) → eq_by_cmp part_cmp q key ≡ b → finmap.get (with_part key part parts) q ≡ or_else (finmap.get parts q) (cond b (Some part) None)
    at_one (Some p) there true e =
        ap (λ o. finmap.get (cond (is_some o) parts (finmap.insert parts key part)) q) there
        ∙ ap (finmap.get parts) (same_part q key e) ∙ there ∙ ap (λ o. or_else o (Some part)) (sym (ap (finmap.get parts) (same_part q key e) ∙ there))
    at_one (Some p) there false e = ap (λ o. finmap.get (cond (is_some o) parts (finmap.insert parts key part)) q) there ∙ or_else_none (finmap.get parts q)
    at_one None fresh true e =
        ap (λ o. finmap.get (cond (is_some o) parts (finmap.insert parts key part)) q) fresh
        ∙ get-insert part_cmp_total parts key part q ∙ ap (λ b. cond b (Some part) (finmap.get parts q)) e
        ∙ ap (λ o. or_else o (Some part)) (sym (ap (finmap.get parts) (same_part q key e) ∙ fresh))
    at_one None fresh false e =
        ap (λ o. finmap.get (cond (is_some o) parts (finmap.insert parts key part)) q) fresh
        ∙ get-insert part_cmp_total parts key part q ∙ ap (λ b. cond b (Some part) (finmap.get parts q)) e ∙ or_else_none (finmap.get parts q)

-- a part that isn't this marker's
pub unparted : (block : ℕ) (m : Marker) (upload number : ℕ) → has_kind kinds.Part m ≡ false → part_at block m upload number ≡ None
unparted block m upload number other = ap (λ b. cond (b && (m.upload == upload) && (m.part == number)) (Some (record { block = block; bytes = m.payload })) None) other

pub added_part : (old new : Said) (ms : List Marker) (m : Marker) (block : ℕ) → has_kind kinds.Part m ≡ true → ((name : List ℕ) → note_stamp name (said_by m) ≡ None)
    → parts_in new.index ≡ with_part (m.upload, m.part) (record { block = block; bytes = m.payload }) (parts_in old.index)
    → notes_in new.index ≡ notes_in old.index → stamps_in new ≡ stamps_in old → HasSaid old ms → block ≡ end_from 0 ms → HasSaid new (ms ++ m ∷ [])
added_part old new ms m block kind none parts notes stamps was here = record {
  says = record {
    notes = λ name. ap (λ n. finmap.get n name) notes ∙ was.says.notes name ∙ ap note_read (sym (newest_said name ms m ∙ unsaid name (newest name (said ms)) (said_by m) (none name)));
    parts = λ upload number.
        ap (λ p. finmap.get p (upload, number)) parts
        ∙ get-with_part (parts_in old.index) (m.upload, m.part) (record { block = block; bytes = m.payload }) (upload, number)
        ∙ ap (λ o. or_else o (cond (eq_by_cmp part_cmp (upload, number) (m.upload, m.part)) (Some (record { block = block; bytes = m.payload })) None)) (was.says.parts upload number)
        ∙ ap (λ b. or_else (part_from 0 ms upload number) (cond b (Some (record { block = block; bytes = m.payload })) None)) (eq_keys upload number m.upload m.part ∙ ap (λ b. b && (m.upload == upload) && (m.part == number)) (sym kind))
        ∙ ap (λ n. or_else (part_from 0 ms upload number) (part_at n m upload number)) here
        ∙ sym (part_from-added 0 ms m upload number);
  };
  stamps = λ name. ap (λ n. finmap.get n name) stamps ∙ was.stamps name ∙ ap (stamp_read name) (sym (newest_said name ms m ∙ unsaid name (newest name (said ms)) (said_by m) (none name)));
}

-- ---- one more note

-- the parts stay
parts_stay : (old new : Index) (ms : List Marker) (m : Marker) → has_kind kinds.Part m ≡ false → parts_in new ≡ parts_in old → Says old ms → (upload number : ℕ) → finmap.get (parts_in new) (upload, number) ≡ part_from 0 (ms ++ m ∷ []) upload number
parts_stay old new ms m other same was upload number =
    ap (λ p. finmap.get p (upload, number)) same ∙ was.parts upload number ∙ or_else_none (part_from 0 ms upload number)
    ∙ ap (or_else (part_from 0 ms upload number)) (sym (unparted (end_from 0 ms) m upload number other))
    ∙ sym (part_from-added 0 ms m upload number)

names_eq : (name q : List ℕ) → eq_by_cmp (slice_cmp nat_cmp) q name ≡ bytes_eq name q
names_eq name q = bool_iff _ _
    (λ e. (bytes_eq-Decides name q).1 (sym (same_name q name e)))
    (λ e. ap (λ (l : List ℕ). eq_by_cmp (slice_cmp nat_cmp) q l) ((bytes_eq-Decides name q).0 e) ∙ ap is_eq (tied_itself nat_list_cmp_total q))

-- one name has this now, or nothing
get-with : {X : Type 0} (o : Option X) (values : ByName X) (name q : List ℕ) → finmap.get (elim o [ None ↦ finmap.remove values name | Some x ↦ finmap.insert values name x ]) q ≡ cond (bytes_eq name q) o (finmap.get values q)
get-with None values name q = get-remove nat_list_cmp_total values name q ∙ ap (λ b. cond b None (finmap.get values q)) (names_eq name q)
get-with (Some x) values name q = get-insert nat_list_cmp_total values name x q ∙ ap (λ b. cond b (Some x) (finmap.get values q)) (names_eq name q)

pub get-with_note : (o : Option Note) (notes : Notes) (name q : List ℕ) → finmap.get (with_note name o notes) q ≡ cond (bytes_eq name q) o (finmap.get notes q)
get-with_note None notes name q = get-with None notes name q
get-with_note (Some n) notes name q = get-with (Some n) notes name q

pub added_note : (old new : Said) (ms : List Marker) (m : Marker) (name : List ℕ) (stamp : ℕ) (note : Option Note) → has_kind kinds.Part m ≡ false
    → ((q : List ℕ) → note_stamp q (said_by m) ≡ cond (bytes_eq name q) (Some stamp) None) → note_read (Some (said_by m)) ≡ note
    → Noted name stamp note old new → HasSaid old ms → HasSaid new (ms ++ m ∷ [])
added_note old new ms m name stamp note other stamps_are is noted was = record {
  says = record {
    notes = λ q. ap (λ n. finmap.get n q) noted.notes ∙ notes_at q (bytes_eq name q) refl ∙ ap note_read (sym (newest_said q ms m));
    parts = parts_stay old.index new.index ms m other noted.parts was.says;
  };
  stamps = λ q. ap (λ n. finmap.get n q) noted.stamps ∙ stamps_at q (bytes_eq name q) refl ∙ ap (stamp_read q) (sym (newest_said q ms m));
}
  where
    is_older : Bool
    is_older = is_less (Some stamp) (finmap.get (stamps_in old) name)

    newest_of : List ℕ → Option Record
    newest_of q = newest q (said ms)

    kept_other : (q : List ℕ) → bytes_eq name q ≡ false → newest_of q ≡ kept q (newest_of q) (said_by m)
    kept_other q apart = sym (unsaid q (newest_of q) (said_by m) (stamps_are q ∙ ap (λ b. cond b (Some stamp) None) apart))

    kept_own : (q : List ℕ) → bytes_eq name q ≡ true → kept q (newest_of q) (said_by m) ≡ cond is_older (newest_of q) (Some (said_by m))
    kept_own q e =
        ap (λ s. cond (is_some s) (cond (is_less s (stamp_read q (newest_of q))) (newest_of q) (Some (said_by m))) (newest_of q)) (stamps_are q ∙ ap (λ b. cond b (Some stamp) None) e)
        ∙ ap (λ o. cond (is_less (Some stamp) o) (newest_of q) (Some (said_by m))) (sym (was.stamps q) ∙ ap (finmap.get (stamps_in old)) (sym ((bytes_eq-Decides name q).0 e)))

    notes_at : (q : List ℕ) (b : Bool) → bytes_eq name q ≡ b → finmap.get (cond is_older (notes_in old.index) (with_note name note (notes_in old.index))) q ≡ note_read (kept q (newest_of q) (said_by m))
    notes_at q true e = by is_older ∙ ap note_read (sym (kept_own q e))
      where
        by : (older : Bool) → finmap.get (cond older (notes_in old.index) (with_note name note (notes_in old.index))) q ≡ note_read (cond older (newest_of q) (Some (said_by m)))
        by true = was.says.notes q
        by false = get-with_note note (notes_in old.index) name q ∙ ap (λ b. cond b note (finmap.get (notes_in old.index) q)) e ∙ sym is
    notes_at q false e = by is_older ∙ was.says.notes q ∙ ap note_read (kept_other q e)
      where
        by : (older : Bool) → finmap.get (cond older (notes_in old.index) (with_note name note (notes_in old.index))) q ≡ finmap.get (notes_in old.index) q
        by true = refl
        by false = get-with_note note (notes_in old.index) name q ∙ ap (λ b. cond b note (finmap.get (notes_in old.index) q)) e

    stamps_at : (q : List ℕ) (b : Bool) → bytes_eq name q ≡ b → finmap.get (cond is_older (stamps_in old) (finmap.insert (stamps_in old) name stamp)) q ≡ stamp_read q (kept q (newest_of q) (said_by m))
    stamps_at q true e = by is_older ∙ ap (stamp_read q) (sym (kept_own q e))
      where
        by : (older : Bool) → finmap.get (cond older (stamps_in old) (finmap.insert (stamps_in old) name stamp)) q ≡ stamp_read q (cond older (newest_of q) (Some (said_by m)))
        by true = was.stamps q
        by false = get-with (Some stamp) (stamps_in old) name q ∙ ap (λ b. cond b (Some stamp) (finmap.get (stamps_in old) q)) e ∙ sym (stamps_are q ∙ ap (λ b. cond b (Some stamp) None) e)
    stamps_at q false e = by is_older ∙ was.stamps q ∙ ap (stamp_read q) (kept_other q e)
      where
        by : (older : Bool) → finmap.get (cond older (stamps_in old) (finmap.insert (stamps_in old) name stamp)) q ≡ finmap.get (stamps_in old) q
        by true = refl
        by false = get-with (Some stamp) (stamps_in old) name q ∙ ap (λ b. cond b (Some stamp) (finmap.get (stamps_in old) q)) e

-- ---- a record of another kind

pub added_other : (s : Said) (ms : List Marker) (m : Marker) → has_kind kinds.Part m ≡ false → ((name : List ℕ) → note_stamp name (said_by m) ≡ None) → HasSaid s ms → HasSaid s (ms ++ m ∷ [])
added_other s ms m other none was = record {
  says = record {
    notes = λ name. was.says.notes name ∙ ap note_read (sym (newest_said name ms m ∙ unsaid name (newest name (said ms)) (said_by m) (none name)));
    parts = parts_stay s.index s.index ms m other refl was.says;
  };
  stamps = λ name. was.stamps name ∙ ap (stamp_read name) (sym (newest_said name ms m ∙ unsaid name (newest name (said ms)) (said_by m) (none name)));
}

pub added_default : (s : Said) (ms : List Marker) (m : Marker) (kind : Kind) → kind_of m.kind ≡ Some kind → (kind ≡ kinds.Part → ⊥) → (kind ≡ kinds.Put → ⊥) → (kind ≡ kinds.Delete → ⊥) → HasSaid s ms → HasSaid s (ms ++ m ∷ [])
added_default s ms m kinds.Part is no_part no_put no_delete was = absurd (no_part refl)
added_default s ms m kinds.Put is no_part no_put no_delete was = absurd (no_put refl)
added_default s ms m kinds.Delete is no_part no_put no_delete was = absurd (no_delete refl)
added_default s ms m kinds.Head is no_part no_put no_delete was = added_other s ms m (kind_known m kinds.Head kinds.Part is) (λ name. ap (note_stamp name) (said_kind m kinds.Head is)) was
added_default s ms m kinds.Cut is no_part no_put no_delete was = added_other s ms m (kind_known m kinds.Cut kinds.Part is) (λ name. ap (note_stamp name) (said_kind m kinds.Cut is)) was
added_default s ms m kinds.Ready is no_part no_put no_delete was = added_other s ms m (kind_known m kinds.Ready kinds.Part is) (λ name. ap (note_stamp name) (said_kind m kinds.Ready is)) was
added_default s ms m kinds.Digest is no_part no_put no_delete was = added_other s ms m (kind_known m kinds.Digest kinds.Part is) (λ name. ap (note_stamp name) (said_kind m kinds.Digest is)) was
added_default s ms m kinds.Snapshot is no_part no_put no_delete was = added_other s ms m (kind_known m kinds.Snapshot kinds.Part is) (λ name. ap (note_stamp name) (said_kind m kinds.Snapshot is)) was
added_default s ms m kinds.Trailer is no_part no_put no_delete was = added_other s ms m (kind_known m kinds.Trailer kinds.Part is) (λ name. ap (note_stamp name) (said_kind m kinds.Trailer is)) was
