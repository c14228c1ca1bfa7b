-- The map has for each name what is read of it.
use Rattle.std.proofs.Common.{◌≡◌, ℕ, Bool, true, false, cond, ◌⊎◌, inl, inr, List, [], ◌∷◌, Option, Some, None, bytes_eq, refl, sym, ap, ◌∙◌, nat_cmp}
use Rattle.std.specs.Cmp.{eq_by_cmp_equiv}
use Rattle.std.specs.Cmp.Lexicographic.{slice_cmp, nat_list_cmp_total}
use Rattle.std.specs.Ordering.{eq_by_cmp}
use Rattle.std.proofs.lemmas.Map.Text.{is_eq-slice_cmp}
use Rattle.std.proofs.lemmas.Slice.Eq.{bytes_eq-Decides}
use Rattle.std.specs.FinMap as finmap
use Rattle.smore_base.specs.Objects.{Value, Map}
use Rattle.array_model.specs.Record.{Record, Put, Delete, note_stamp}
use Rattle.array_model.specs.Sets.{records_of}
use Rattle.array_model.specs.Map.{items_of, newest, said_by, value_of, with_value, map_by, map_of}
use Rattle.array_model.specs.SetLaws.{MapHasWhatIsRead, SameValuesSameMap}
use Rattle.array_model.proofs.Records.{Among, the_newest, NewestIs, newest_is}

-- names are told apart by their bytes
tied : (name own : List ℕ) → eq_by_cmp (slice_cmp nat_cmp) name own ≡ bytes_eq own name
tied name own = (eq_by_cmp_equiv nat_list_cmp_total).symm name own ∙ is_eq-slice_cmp own name

pub get_with : (own name : List ℕ) (value : Option Value) (objects : Map) → finmap.get (with_value own value objects) name ≡ cond (bytes_eq own name) value (finmap.get objects name)
get_with own name None objects = finmap.get-remove nat_list_cmp_total objects own name ∙ ap (λ b. cond b None (finmap.get objects name)) (tied name own)
get_with own name (Some value) objects = finmap.get-insert nat_list_cmp_total objects own value name ∙ ap (λ b. cond b (Some value) (finmap.get objects name)) (tied name own)

-- no note of the name is among them
abbrev NoNote : List ℕ → List Record → Type 0
NoNote name items = (item : Record) → Among item items → note_stamp name item ≡ None

-- The map has of a name what is read of it, where one of these records is a note of the name, and else nothing.
abbrev Gets : List Record → List ℕ → List Record → Type 0
Gets items name more = (finmap.get (map_by items more) name ≡ value_of items name) ⊎ ((finmap.get (map_by items more) name ≡ None) × NoNote name more)

-- A record that is no note of the name,
past : (items : List Record) (name : List ℕ) (item : Record) (more : List Record) → note_stamp name item ≡ None → finmap.get (map_by items (item ∷ more)) name ≡ finmap.get (map_by items more) name → Gets items name more → Gets items name (item ∷ more)
past items name item more none same (inl has) = inl (same ∙ has)
past items name item more none same (inr hasnt) = inr (
  same ∙ hasnt.0,
  λ other found. elim found [
    | inl is ↦ ap (note_stamp name) (sym is) ∙ none
    | inr later ↦ hasnt.1 other later
  ],
)

-- and a note, of the name or of another.
at_note : (items : List Record) (name own : List ℕ) (stamp : ℕ) (item : Record) (more : List Record) → note_stamp name item ≡ cond (bytes_eq own name) (Some stamp) None → finmap.get (map_by items (item ∷ more)) name ≡ cond (bytes_eq own name) (value_of items own) (finmap.get (map_by items more) name) → Gets items name more → (b : Bool) → bytes_eq own name ≡ b → Gets items name (item ∷ more)
at_note items name own stamp item more is has rest true same =
    inl (has ∙ ap (λ b. cond b (value_of items own) (finmap.get (map_by items more) name)) same ∙ ap (value_of items) ((bytes_eq-Decides own name).0 same))
at_note items name own stamp item more is has rest false differs =
    past items name item more (is ∙ ap (λ b. cond b (Some stamp) None) differs)
    (has ∙ ap (λ b. cond b (value_of items own) (finmap.get (map_by items more) name)) differs) rest

gets : (items : List Record) (name : List ℕ) (more : List Record) → Gets items name more
gets items name [] = inr (finmap.get-empty (slice_cmp nat_cmp) name, λ item found. absurd found)
gets items name (Put own stamp u n b ∷ more) = at_note items name own stamp (Put own stamp u n b) more refl (get_with own name (value_of items own) (map_by items more)) (gets items name more) (bytes_eq own name) refl
gets items name (Delete own stamp ∷ more) = at_note items name own stamp (Delete own stamp) more refl (get_with own name (value_of items own) (map_by items more)) (gets items name more) (bytes_eq own name) refl
gets items name (item ∷ more) = past items name item more refl refl (gets items name more)

-- of a name without a note nothing is read
unread : (items : List Record) (name : List ℕ) → NoNote name items → (found : Option Record) → NewestIs name items found → said_by items found ≡ None
unread items name none None is = refl
unread items name none (Some note) (newest_is kept stamp there at bound) = let absent = none kept there in absurd (cc)

pub map_has_what_is_read : MapHasWhatIsRead
map_has_what_is_read k sets name = elim (gets (items_of (records_of k sets)) name (items_of (records_of k sets))) [
  | inl has ↦ has
  | inr hasnt ↦ hasnt.0 ∙ sym (unread (items_of (records_of k sets)) name hasnt.1 (newest name (items_of (records_of k sets))) (the_newest name (items_of (records_of k sets))))
]

pub same_values_same_map : SameValuesSameMap
same_values_same_map k old new same = finmap.same_map nat_list_cmp_total (finmap.slice_cmp-IsAntisymmetric finmap.nat_cmp-IsAntisymmetric) (map_of k new) (map_of k old) (λ name.
    map_has_what_is_read k new name ∙ same name ∙ sym (map_has_what_is_read k old name))
