-- In an image that shows a set its carriers agree on the first of its records.
use Rattle.std.proofs.Common.{◌≡◌, ℕ, ◌+◌, ◌<◌, ◌≤◌, Bool, true, false, cond, List, [], length, refl, sym, ap, ◌∙◌, subst, arith}
use Rattle.std.specs.Prelude.{◌&&◌, ◌==◌, nat_lt}
use Rattle.std.proofs.lemmas.Bool.{and_from, and_parts, eq-eqb, lt-ltb}
use Rattle.std.proofs.lemmas.List.{take_all}
use Rattle.zone_bay.specs.Contents.{Contents, Lengths}
use Rattle.zone_bay.specs.Images.{IsFirmPrefix, IsImage}
use Rattle.array_model.specs.Drives.{is_among}
use Rattle.set_table.specs.declared.zone_use.ZoneUse.TheVariants as uses
use Rattle.set_table.specs.Table.{Table, use_at}
use Rattle.set_table.specs.Table as table
use Rattle.set_writer.specs.Members.{of_members, is_member}
use Rattle.set_table.specs.Table.{array_of}
use Rattle.set_writer.specs.ImageLaws.{SetBytes, AreSetBytes, HoldBytes, View, begins_with, IsMember, IsAlone, HaveFirst}
use Rattle.set_writer.specs.KeptLaws.{IsShown}
use Rattle.set_writer.specs.StandLaws.{ShownHasFirst}
use Rattle.set_writer.proofs.OtherSets.{member_is}
use Rattle.set_writer.proofs.SetImages.{image_has_first}
use Rattle.set_writer.proofs.WriterImages.{own_member}

-- a zone of one of the drives that carries the set
abbrev is_own : SetBytes → Table → View → ℕ → ℕ → Bool
is_own s t view d z = is_among view.drives d && is_member (table.fragments_of t) s.set (use_at t.zones d z)

-- what is seen, with these zones whole
abbrev with_whole : SetBytes → Table → View → Contents
with_whole s t view d z = cond (is_own s t view d z) (of_members (table.fragments_of t) s.set s.zone (use_at t.zones d z)) (view.held d z)

-- what a member gets
own_more : (count set' index : ℕ) (more : ℕ → List ℕ) → index < count → of_members count set' more (uses.Carrier set' index) ≡ more index
own_more count set' index more below = ap (λ b. cond b (more index) []) (and_from (set' == set') (nat_lt index count) (eq-eqb set' set' refl) (lt-ltb index count below))

module _ (s : SetBytes) (t : Table) (firm : Lengths) (view : View) (shown : IsShown s t firm view) where
  -- of such a zone a part is left
  own_part : (d z : ℕ) → is_own s t view d z ≡ true → IsFirmPrefix (of_members (table.fragments_of t) s.set s.zone (use_at t.zones d z)) (firm d z) (view.held d z)
  own_part d z own =
      let both = and_parts (is_among view.drives d) (is_member (table.fragments_of t) s.set (use_at t.zones d z)) own in
      let member = member_is (table.fragments_of t) s.set (use_at t.zones d z) both.1 in
      let whole : of_members (table.fragments_of t) s.set s.zone (use_at t.zones d z) ≡ s.zone member.0 = ap (of_members (table.fragments_of t) s.set s.zone) member.2 ∙ own_more (table.fragments_of t) s.set member.0 s.zone member.1 in
      subst (λ (l : List ℕ). IsFirmPrefix l (firm d z) (view.held d z)) (sym whole) (shown.cut d z member.0 both.0 member.1 member.2)

  left_part : (d z : ℕ) (b : Bool) → is_own s t view d z ≡ b → IsFirmPrefix (cond b (of_members (table.fragments_of t) s.set s.zone (use_at t.zones d z)) (view.held d z)) (firm d z) (view.held d z)
  left_part d z true own = own_part d z own
  left_part d z false none = (firm d z + length (view.held d z), omega arith, sym (take_all (firm d z + length (view.held d z)) (view.held d z) (omega arith)))

  image : IsImage (with_whole s t view) firm view.held
  image d z = left_part d z (is_own s t view d z) refl

  hold : HoldBytes s t (with_whole s t view) view.drives
  hold d z index drive below carries =
      ap (λ b. cond b (of_members (table.fragments_of t) s.set s.zone (use_at t.zones d z)) (view.held d z))
      (and_from (is_among view.drives d) (is_member (table.fragments_of t) s.set (use_at t.zones d z)) drive (ap (is_member (table.fragments_of t) s.set) carries ∙ own_member (table.fragments_of t) s.set index below))
      ∙ ap (of_members (table.fragments_of t) s.set s.zone) carries ∙ own_more (table.fragments_of t) s.set index s.zone below

  alone_by : (d z : ℕ) (b : Bool) → is_own s t view d z ≡ b → is_among view.drives d ≡ true → 2 ≤ z → begins_with (array_of t) s.set (cond b (of_members (table.fragments_of t) s.set s.zone (use_at t.zones d z)) (view.held d z)) ≡ true → IsMember t s.set d z
  alone_by d z true own drive from begins = member_is (table.fragments_of t) s.set (use_at t.zones d z) (and_parts (is_among view.drives d) (is_member (table.fragments_of t) s.set (use_at t.zones d z)) own).1
  alone_by d z false none drive from begins = shown.alone d z drive from begins

  alone : IsAlone t s.set (with_whole s t view) view.drives
  alone d z drive from begins = alone_by d z (is_own s t view d z) refl drive from begins

  pub first_of_shown : s.array ≡ array_of t → AreSetBytes s → HaveFirst s t firm view
  first_of_shown array are = image_has_first s t (with_whole s t view) firm view array are hold (record { image = image; alone = alone })

pub shown_has_first : ShownHasFirst
shown_has_first s t firm view array are shown = first_of_shown s t firm view shown array are
