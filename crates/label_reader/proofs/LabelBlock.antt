-- A device begins with one label at most.
use Rattle.std.proofs.Common.{◌≡◌, ℕ, ◌<◌, ◌≤◌, ◌⊎◌, Bool, true, false, cond, List, [], length, take, drop, Option, Some, None, refl, sym, ap, subst, ◌∙◌, arith, lit≤}
use Rattle.std.specs.Prelude.{◌&&◌, IfSome, IfNone}
use Rattle.std.specs.Str.{bytes_eq}
use Rattle.std.proofs.lemmas.List.{length-take, length-drop, length-append, length-replicate}
use Rattle.std.proofs.lemmas.Slice.Eq.{bytes_eq-Decides}
use Rattle.smore_base.specs.BigEndian.{AreBytes}
use Rattle.smore_base.proofs.BigEndianLaws.{AreBytes-take, AreBytes-drop}
use Rattle.zone_bay.specs.Contents.{Shape, Contents}
use Rattle.zone_bay.specs.Bay.{BayState, IsSound}
use Rattle.marker_format.specs.declared.label.Label.{Label}
use Rattle.marker_format.specs.declared.tag.Tag.TheVariants as tags
use Rattle.marker_format.specs.Label.{IsLabel, label_at}
use Rattle.marker_format.specs.Block.{block_of, label_block}
use Rattle.marker_format.proofs.LabelLaws.{label_at-again, label_at-fits, length-spelling_of}
use Rattle.marker_format.proofs.BlockLaws.{has_text}
use Rattle.array_model.specs.Drives.{is_label_of_bay, label_on}
use Rattle.array_model.proofs.Carriers.{label_in as label_read, label_on-is, no_label}
use Rattle.label_reader.specs.Label.{label_in}

pub length-label_block : (l : Label) → IsLabel l → length (label_block l) ≡ 512
length-label_block l fits = (has_text tags.Label (label_block l) _ 39 refl (length-spelling_of l fits) (lit≤ tt)).long

-- the label whose fields stand in a block
abbrev read : List ℕ → Label
read block = label_at (take 39 (drop 1 block))

-- a block that holds a label is read as it
pub label_in-own : (block : List ℕ) (l : Label) → IsLabel l → block ≡ label_block l → label_in block ≡ Some l
unfolding label_in
label_in-own block l fits is =
    let text = has_text tags.Label block _ 39 is (length-spelling_of l fits) (lit≤ tt) in
    let own : read block ≡ l = ap label_at text.text_is ∙ label_at-again l fits in
    ap (λ (x : Label). cond (bytes_eq block (label_block x)) (Some x) None) own
    ∙ ap (λ b. cond b (Some l) None) ((bytes_eq-Decides block (label_block l)).1 is)

-- what is read stands there
pub label_in-is : (block : List ℕ) (l : Label) → label_in block ≡ Some l → (l ≡ read block) × (block ≡ label_block l)
unfolding label_in
label_in-is block l e = at_one (bytes_eq block (label_block (read block))) refl e
  where
    at_one : (b : Bool) → bytes_eq block (label_block (read block)) ≡ b → cond b (Some (read block)) None ≡ Some l → (l ≡ read block) × (block ≡ label_block l)
    at_one true is e =
        let same : l ≡ read block = cc in
        (same, (bytes_eq-Decides block (label_block (read block))).0 is ∙ ap label_block (sym same))
    at_one false is e = absurd cc

none_from : {A : Type 0} (o : Option A) → ((x : A) → o ≡ Some x → ⊥) → o ≡ None
none_from None never = refl
none_from (Some x) never = absurd (never x refl)

-- bytes of a block: what is read exactly, is what it holds
pub label_in-exact : (block : List ℕ) (o : Option Label) → AreBytes block → length block ≡ 512 → IfSome o (λ l. IsLabel l × (block ≡ label_block l)) → IfNone o ((l : Label) → IsLabel l → block ≡ label_block l → ⊥) → o ≡ label_in block
label_in-exact block (Some l) bytes long found none = sym (label_in-own block l found.0 found.1)
label_in-exact block None bytes long found none = sym (none_from (label_in block) (λ l e.
    let is = label_in-is block l e in
    let fits : IsLabel (read block) = label_at-fits (take 39 (drop 1 block)) (AreBytes-take 39 (drop 1 block) (AreBytes-drop 1 block bytes)) (omega (arith, length-take 39 (drop 1 block), length-drop 1 block)) in
    none l (subst IsLabel (sym is.0) fits) is.1))

-- and too few bytes hold none
label_block-long : (l : Label) → 512 ≤ length (label_block l)
unfolding block_of
label_block-long l = simp (length-append, length-replicate) (omega arith)

pub label_in-short : (block : List ℕ) → length block < 512 → label_in block ≡ None
label_in-short block short = none_from (label_in block) (λ l e. absurd (omega (arith, short, ap length (label_in-is block l e).1, label_block-long l)))

-- the label, where it is the device's
abbrev pub where_ours : Shape → ℕ → Option Label → Option Label
where_ours shape device None = None
where_ours shape device (Some l) = cond (is_label_of_bay shape device l) (Some l) None

both : {A : Type 0} (a b : Bool) (x : A) → cond (a && b) (Some x) None ≡ cond b (cond a (Some x) None) None
both true b x = refl
both false true x = refl
both false false x = refl

pub label_on-by : (shape : Shape) (held : Contents) (device : ℕ) → label_on shape held device ≡ where_ours shape device (label_in (take 512 (held device 0)))
unfolding label_on label_in
label_on-by shape held device =
    let block = take 512 (held device 0) in
    both (is_label_of_bay shape device (read block)) (bytes_eq block (label_block (read block))) (read block)
    ∙ at_one (bytes_eq block (label_block (read block)))
  where
    at_one : (b : Bool) → cond b (cond (is_label_of_bay shape device (read (take 512 (held device 0)))) (Some (read (take 512 (held device 0)))) None) None ≡ where_ours shape device (cond b (Some (read (take 512 (held device 0)))) None)
    at_one true = refl
    at_one false = refl

-- a device or a zone that isn't there has no label
pub label_on-outside : (bay : BayState) (device : ℕ) → IsSound bay → (bay.shape.devices ≤ device) ⊎ (bay.shape.zones ≤ 0) → IfSome bay.contents (λ held. None ≡ label_on bay.shape held device)
label_on-outside bay device sound outside = at_one bay.contents sound.inside
  where
    at_one : (o : Option Contents) → IfSome o (λ held. (d z : ℕ) → (bay.shape.devices ≤ d) ⊎ (bay.shape.zones ≤ z) → held d z ≡ []) → IfSome o (λ held. None ≡ label_on bay.shape held device)
    at_one None inside = tt
    at_one (Some held) inside = sym (label_on-is bay.shape held device ∙ ap (λ (l : List ℕ). label_read bay.shape device (take 512 l)) (inside device 0 outside) ∙ no_label bay.shape device)

-- what was found is the device's label, where it is one
pub label_told : (contents : Option Contents) (shape : Shape) (device : ℕ) (o : Option Label) → IfSome contents (λ held. o ≡ label_in (take 512 (held device 0))) → IfSome contents (λ held. where_ours shape device o ≡ label_on shape held device)
label_told None shape device o is = tt
label_told (Some held) shape device o is = ap (where_ours shape device) is ∙ sym (label_on-by shape held device)

-- a block that is too short
pub short_told : (contents : Option Contents) (device : ℕ) → IfSome contents (λ held. length (held device 0) < 512) → IfSome contents (λ held. None ≡ label_in (take 512 (held device 0)))
short_told None device short = tt
short_told (Some held) device short = sym (label_in-short (take 512 (held device 0)) (omega (arith, short, length-take 512 (held device 0))))
