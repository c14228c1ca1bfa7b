-- What a crash leaves, for what is firm and what is held.
use Rattle.std.proofs.Common.{◌≡◌, ◌≢◌, ◌⊎◌, ℕ, ◌+◌, ◌-◌, ◌≤◌, zero, suc, min, max, List, [], ◌∷◌, ◌++◌, length, take, refl, sym, subst, ◌∙◌, ap, arith, inl, inr}
use Rattle.std.proofs.lemmas.Bool.{cases_eq, eq-eqb, ne_eqb, cases_lt}
use Rattle.std.proofs.lemmas.List.{take_all, take_min, take-append-le, length-append}
use Rattle.zone_bay.proofs.Extends.{at_zone, elsewhere, part_extends}
use Rattle.std.proofs.Math.Seq.{take-append-add}
use Rattle.zone_bay.specs.Contents.{Contents, Lengths, appended}
use Rattle.zone_bay.specs.Images.{IsFirmPrefix, IsImage, flushed, still_firm, without, without_each}
use Rattle.zone_bay.specs.Laws.{NoMoreFirm, FlushLeavesFewer, FlushKeepsDevice, FlushLeavesOthers, AppendLeavesOld, AppendLeavesPart, AppendLeavesAnyPart, PartLeavesLess, MoreLeavesMore, LessFirmLeavesMore, StillFirmLeavesSame, AllFirmLeavesAll, HeldIsLeft, ResetLeavesNothing, ReplaceLeavesNothing, StillFirmIsHeld, StillFirmIsFirm, MissingLeavesImage, MissingEachLeaveImage, MissingOneByOne, MissingHoldNothing, OthersKeepTheirs}

-- two contents with the same bytes in each zone
pub same_contents : (f g : Contents) → ((d z : ℕ) → f d z ≡ g d z) → f ≡ g
same_contents f g each = λ i d z. each d z i

-- Where less is firm, no fewer images are left.
pub less_firm_leaves_more : LessFirmLeavesMore
less_firm_leaves_more held less more image below is d z = (
  (is d z).0,
  (let a = below d z in let b = (is d z).1 in omega arith),
  (is d z).2,
)

pub flushed_no_less : (held : Contents) (firm : Lengths) (device : ℕ) → NoMoreFirm held firm → (d z : ℕ) → firm d z ≤ flushed device held firm d z
flushed_no_less held firm device within d z =
    let room = within d z in
    elim (cases_eq d device) [
      | inl same ↦ rw (eq-eqb d device same) (omega arith)
      | inr other ↦ rw (ne_eqb d device other) (omega arith)
    ]

pub flush_leaves_fewer : FlushLeavesFewer
flush_leaves_fewer held firm device image within is = less_firm_leaves_more held firm (flushed device held firm) image (flushed_no_less held firm device within) is

-- all of a zone that is firm whole
whole_prefix : (held left : List ℕ) → IsFirmPrefix held (length held) left → left ≡ held
whole_prefix held left (n, enough, is) = is ∙ take_all n held enough

pub flush_keeps_device : FlushKeepsDevice
flush_keeps_device held firm device image is z =
    let prefix : IsFirmPrefix (held device z) (flushed device held firm device z) (image device z) = is device z in
    whole_prefix (held device z) (image device z) (rw (eq-eqb device device refl) at prefix)

pub flush_leaves_others : FlushLeavesOthers
flush_leaves_others held firm device image is whole d z = elim (cases_eq d device) [
  | inl same ↦ rw (eq-eqb d device same, same) (length (held device z), omega arith, whole z ∙ sym (take_all _ (held device z) (omega arith)))
  | inr other ↦ rw (ne_eqb d device other) (is d z)
]

pub all_firm_leaves_all : AllFirmLeavesAll
all_firm_leaves_all held firm image all is = same_contents image held (λ d z. whole_prefix (held d z) (image d z) (rw (all d z) at (is d z)))

pub held_is_left : HeldIsLeft
held_is_left held firm d z = (max (firm d z) (length (held d z)), omega arith, sym (take_all _ (held d z) (omega arith)))

-- What a crash may leave of a zone, it may leave where more stands behind it.
more_behind : (held bytes : List ℕ) (firm : ℕ) (left : List ℕ) → firm ≤ length held → IsFirmPrefix held firm left → IsFirmPrefix (held ++ bytes) firm left
more_behind held bytes firm left within (n, enough, is) = elim (cases_lt n (length held)) [
  | inl short ↦ (n, enough, is ∙ sym (take-append-le n held bytes (omega arith)))
  | inr long ↦ (length held, within, is ∙ take_all n held long ∙ sym (take-append-le (length held) held bytes (omega arith) ∙ take_all (length held) held (omega arith)))
]

pub append_leaves_old : AppendLeavesOld
append_leaves_old held firm device zone bytes image within is =
    elsewhere device zone (held device zone ++ bytes) held (λ d z now. IsFirmPrefix now (firm d z) (image d z))
    (more_behind (held device zone) bytes (firm device zone) (image device zone) (within device zone) (is device zone))
    is

pub append_leaves_any_part : AppendLeavesAnyPart
append_leaves_any_part held firm device zone bytes image n within is d z = elim (cases_eq d device) [
  | inl same ↦ elim (cases_eq z zone) [
    | inl there ↦ rw (eq-eqb d device same, eq-eqb z zone there, same, there) (
      length (held device zone) + n,
      (let a = within device zone in omega arith),
      sym (take-append-add (held device zone) bytes n),
    )
    | inr other ↦ rw (eq-eqb d device same, ne_eqb z zone other) (is d z)
  ]
  | inr other ↦ rw (ne_eqb d device other) (is d z)
]

pub more_leaves_more : MoreLeavesMore
more_leaves_more held more firm image within extends is d z =
    subst (λ (l : List ℕ). IsFirmPrefix l (firm d z) (image d z)) (sym (extends d z).1) (more_behind (held d z) (extends d z).0 (firm d z) (image d z) (within d z) (is d z))

pub part_leaves_less : PartLeavesLess
part_leaves_less held firm device zone bytes n image within is =
    more_leaves_more (appended device zone (take n bytes) held) (appended device zone bytes held) firm image within_part (part_extends device zone n bytes held) is
  where
    within_part : NoMoreFirm (appended device zone (take n bytes) held) firm
    within_part = elsewhere device zone (held device zone ++ take n bytes) held (λ d z now. firm d z ≤ length now) (let w = within device zone in omega (arith, length-append (held device zone) (take n bytes))) within

-- the part that stands behind all that was held, or the image as it was
part_behind : (held bytes : List ℕ) (firm : ℕ) (left : List ℕ) → IsFirmPrefix (held ++ bytes) firm left → IsFirmPrefix held firm left ⊎ ((n : ℕ) × (n ≤ length bytes) × (left ≡ held ++ take n bytes))
part_behind held bytes firm left (n, enough, is) = elim (cases_lt n (length held)) [
  | inl short ↦ inl (n, enough, is ∙ take-append-le n held bytes (omega arith))
  | inr long ↦ inr (
    min (n - length held) (length bytes),
    omega arith,
    is ∙ ap (λ (m : ℕ). take m (held ++ bytes)) (let e : n ≡ length held + (n - length held) = omega arith in e) ∙ take-append-add held bytes (n - length held) ∙ ap (λ (l : List ℕ). held ++ l) (sym (take_min (n - length held) bytes)),
  )
]

pub append_leaves_part : AppendLeavesPart
append_leaves_part held firm device zone bytes image is =
    let there : IsFirmPrefix (held device zone ++ bytes) (firm device zone) (image device zone) = rw (at_zone device zone (held device zone ++ bytes) held) at (is device zone) in
    elim (part_behind (held device zone) bytes (firm device zone) (image device zone) there) [
      | inl old ↦ inl (as_before held firm device zone bytes image old is)
      | inr part ↦ inr part
    ]
  where
    as_before : (held : Contents) (firm : Lengths) (device zone : ℕ) (bytes : List ℕ) (image : Contents) → IsFirmPrefix (held device zone) (firm device zone) (image device zone) → IsImage (appended device zone bytes held) firm image → IsImage held firm image
    as_before held firm device zone bytes image old is d z = elim (cases_eq d device) [
      | inl same ↦ elim (cases_eq z zone) [
        | inl there ↦ rw (same, there) old
        | inr other ↦ rw (eq-eqb d device same, ne_eqb z zone other) at (is d z)
      ]
      | inr other ↦ rw (ne_eqb d device other) at (is d z)
    ]

nothing_left : (firm : ℕ) (left : List ℕ) → IsFirmPrefix [] firm left → left ≡ []
nothing_left firm left (n, enough, is) = is ∙ take_all n [] (omega arith)

pub reset_leaves_nothing : ResetLeavesNothing
reset_leaves_nothing held firm device zone image is = nothing_left (firm device zone) (image device zone) (rw (at_zone device zone [] held) at (is device zone))

pub replace_leaves_nothing : ReplaceLeavesNothing
replace_leaves_nothing held firm device image is z = nothing_left (firm device z) (image device z) (rw (eq-eqb device device refl) at (is device z))

pub still_firm_is_held : StillFirmIsHeld
still_firm_is_held held firm d z = omega arith

pub still_firm_is_firm : StillFirmIsFirm
still_firm_is_firm held firm within i d z = same d z i
  where
    same : (d z : ℕ) → still_firm held firm d z ≡ firm d z
    same d z = let a = within d z in omega arith

-- a prefix with as much of the firm bytes as the zone holds
still_prefix : (held : List ℕ) (firm : ℕ) (left : List ℕ) → IsFirmPrefix held (min firm (length held)) left → IsFirmPrefix held firm left
still_prefix held firm left (n, enough, is) = (
  max n firm,
  omega arith,
  is ∙ elim (cases_lt n firm) [
    | inl below ↦ take_all n held (omega arith) ∙ sym (take_all (max n firm) held (omega arith))
    | inr above ↦ ap (λ (m : ℕ). take m held) (let e : n ≡ max n firm = omega arith in e)
  ],
)

pub still_firm_leaves_same : StillFirmLeavesSame
still_firm_leaves_same held firm image is d z = still_prefix (held d z) (firm d z) (image d z) (is d z)

-- Devices that are missing.
without_same : (device : ℕ) (image : Contents) (d z : ℕ) → d ≡ device → without device image d z ≡ []
without_same device image d z same = rw (eq-eqb d device same) refl

without_other : (device : ℕ) (image : Contents) (d z : ℕ) → d ≢ device → without device image d z ≡ image d z
without_other device image d z other = rw (ne_eqb d device other) refl

no_prefix : (firm : ℕ) → IsFirmPrefix [] firm []
no_prefix firm = (firm, omega arith, sym (take_all firm [] (omega arith)))

pub missing_leaves_image : MissingLeavesImage
missing_leaves_image held firm device image is d z = elim (cases_eq d device) [
  | inl same ↦ rw (eq-eqb d device same) (no_prefix (firm d z))
  | inr other ↦ rw (ne_eqb d device other) (is d z)
]

pub missing_each_leave_image : MissingEachLeaveImage
missing_each_leave_image held firm [] image is = is
missing_each_leave_image held firm (device ∷ more) image is = missing_each_leave_image (without device held) firm more (without device image) (missing_leaves_image held firm device image is)

pub missing_one_by_one : MissingOneByOne
missing_one_by_one [] more image = refl
missing_one_by_one (device ∷ some) more image = missing_one_by_one some more (without device image)

-- what each removal of a device keeps
pub carried : {P : Contents → Type 0} → ((device : ℕ) (image : Contents) → P image → P (without device image)) → (devices : List ℕ) (image : Contents) → P image → P (without_each devices image)
carried {P} step [] image is = is
carried {P} step (device ∷ more) image is = carried {P = P} step more (without device image) (step device image is)

-- A zone that is blank stays blank.
without_blank : (devices : List ℕ) (image : Contents) (d z : ℕ) → image d z ≡ [] → without_each devices image d z ≡ []
without_blank devices image d z blank = carried {P = λ left. left d z ≡ []} step devices image blank
  where
    step : (device : ℕ) (left : Contents) → left d z ≡ [] → without device left d z ≡ []
    step device left none = elim (cases_eq d device) [
      | inl same ↦ without_same device left d z same
      | inr other ↦ without_other device left d z other ∙ none
    ]

pub missing_hold_nothing : MissingHoldNothing
missing_hold_nothing [] image d z (k, within, is) = absurd (omega arith)
missing_hold_nothing (device ∷ more) image d z (zero, within, is) = without_blank more (without device image) d z (without_same device image d z (sym is))
missing_hold_nothing (device ∷ more) image d z (suc k, within, is) = missing_hold_nothing more (without device image) d z (k, omega arith, is)

pub others_keep_theirs : OthersKeepTheirs
others_keep_theirs [] image d z none = refl
others_keep_theirs (device ∷ more) image d z none =
    others_keep_theirs more (without device image) d z (λ (k, within, is). none (suc k, omega arith, is))
    ∙ without_other device image d z (λ same. none (zero, omega arith, sym same))
