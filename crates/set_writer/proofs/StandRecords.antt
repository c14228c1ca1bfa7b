-- The records of a set and those of its digest, as they are read.
use Rattle.std.proofs.Common.{◌≡◌, ℕ, zero, suc, ◌+◌, ◌<◌, ◌≤◌, Bool, true, false, cond, List, [], ◌∷◌, ◌++◌, length, map, take, None, refl, ap, ap₂, ◌∙◌, arith}
use Rattle.std.specs.Prelude.{◌||◌, All, not, Some}
use Rattle.std.specs.List.{AllByRecursion, range_with_len}
use Rattle.std.proofs.lemmas.Bool.{both_ways, eq-eqb, ne_eqb}
use Rattle.marker_format.specs.declared.kind.Kind.{Kind}
use Rattle.marker_format.specs.declared.kind.Kind.TheVariants as kinds
use Rattle.marker_format.specs.declared.marker.Marker.{Marker}
use Rattle.marker_format.specs.Kind.{code_of, kind_of}
use Rattle.marker_format.specs.Zone.{Array, has_kind}
use Rattle.array_model.specs.Record.{Record, Head, Ready, is_ready}
use Rattle.array_model.specs.Reading.{fragments_of, record_by}
use Rattle.array_model.specs.Sets.{lesser, least_kept}
use Rattle.set_writer.specs.declared.first.First.TheVariants.{IsReady}
use Rattle.set_writer.specs.Entry.{Entry}
use Rattle.set_writer.specs.Writer.{Writer, parts_of, first_record, cuts_from, digest_record, digest, AreRecordsFrom}
use Rattle.set_writer.specs.PayloadLaws.{item_of}
use Rattle.set_writer.specs.SetReadLaws.{are_ready}
use Rattle.set_writer.specs.StandLaws.{is_digest, without_digest, cut_of, OpeningIsOfCuts, NoCutIsItsOwn}

-- ---- a digest's records and the others

abbrev pub IsOther : Entry → Type 0
IsOther e = is_digest (item_of e) ≡ false

abbrev pub IsOfDigest : Entry → Type 0
IsOfDigest e = (is_digest (item_of e) ≡ true) × (is_ready (item_of e) ≡ false)

no_digest : (kind : Kind) (m : Marker) (payload : List ℕ) → m.kind ≡ code_of kind → has_kind kinds.Digest m ≡ false → is_digest (record_by (kind_of m.kind) m payload) ≡ false
no_digest kinds.Head m payload coded none = ap (λ n. is_digest (record_by (kind_of n) m payload)) coded
no_digest kinds.Part m payload coded none = ap (λ n. is_digest (record_by (kind_of n) m payload)) coded
no_digest kinds.Put m payload coded none = ap (λ n. is_digest (record_by (kind_of n) m payload)) coded
no_digest kinds.Delete m payload coded none = ap (λ n. is_digest (record_by (kind_of n) m payload)) coded
no_digest kinds.Cut m payload coded none = ap (λ n. is_digest (record_by (kind_of n) m payload)) coded
no_digest kinds.Ready m payload coded none = ap (λ n. is_digest (record_by (kind_of n) m payload)) coded
no_digest kinds.Digest m payload coded none = absurd (both_ways (has_kind kinds.Digest m) none (eq-eqb m.kind 7 coded))
no_digest kinds.Snapshot m payload coded none = ap (λ n. is_digest (record_by (kind_of n) m payload)) coded
no_digest kinds.Trailer m payload coded none = ap (λ n. is_digest (record_by (kind_of n) m payload)) coded

pub others_are : (array : Array) (set' position index : ℕ) (es : List Entry) → index < fragments_of array → AreRecordsFrom array set' position es → AllByRecursion IsOther es
others_are array set' position index [] below are = tt
others_are array set' position index (e ∷ es) below are =
    let is = are.0.entry.markers index below in
    (no_digest is.kind e.marker e.payload is.coded are.0.no_digest, others_are array set' (position + 1) index es below are.1)

digests_from : (w : Writer) (from count : ℕ) → AllByRecursion IsOfDigest (map (digest_record w) (range_with_len from count))
digests_from w from zero = tt
digests_from w from (suc count) = ((refl, refl), digests_from w (from + 1) count)

pub digest_is : (w : Writer) → AllByRecursion IsOfDigest (digest w)
digest_is w = digests_from w 0 (parts_of w)

-- the digest where a set is closed
pub ending_is : (b : Bool) (w : Writer) → AllByRecursion IsOfDigest (cond b (digest w) [])
ending_is true w = digest_is w
ending_is false w = tt

-- ---- the first of both

none_of_digest : (n : ℕ) (more : List Entry) → AllByRecursion IsOfDigest more → without_digest (map item_of (take n more)) ≡ []
none_of_digest zero more all = refl
none_of_digest (suc n) [] all = refl
none_of_digest (suc n) (e ∷ more) all =
    ap (λ b. cond (not b) (item_of e ∷ without_digest (map item_of (take n more))) (without_digest (map item_of (take n more)))) all.0.0 ∙ none_of_digest n more all.1

-- Of the first of all, without a digest's, the first of the others are left.
pub first_others : (n : ℕ) (es more : List Entry) → AllByRecursion IsOther es → AllByRecursion IsOfDigest more → without_digest (map item_of (take n (es ++ more))) ≡ map item_of (take n es)
first_others zero es more others digests = refl
first_others (suc n) [] more others digests = none_of_digest (suc n) more digests
first_others (suc n) (e ∷ es) more others digests =
    ap (λ b. cond (not b) (item_of e ∷ without_digest (map item_of (take n (es ++ more)))) (without_digest (map item_of (take n (es ++ more))))) others.0
    ∙ ap (λ (l : List Record). item_of e ∷ l) (first_others n es more others.1 digests)

none_is_ready : (n : ℕ) (more : List Entry) → AllByRecursion IsOfDigest more → are_ready (take n more) ≡ false
none_is_ready zero more all = refl
none_is_ready (suc n) [] all = refl
none_is_ready (suc n) (e ∷ more) all = ap₂ (λ a b. a || b) all.0.1 (none_is_ready n more all.1)

-- A ready record is among the first of all where one is among the first of the others.
pub first_ready : (n : ℕ) (es more : List Entry) → AllByRecursion IsOfDigest more → are_ready (take n (es ++ more)) ≡ are_ready (take n es)
first_ready zero es more digests = refl
first_ready (suc n) [] more digests = none_is_ready (suc n) more digests
first_ready (suc n) (e ∷ es) more digests = ap (λ b. is_ready (item_of e) || b) (first_ready n es more digests)

-- and among more of them
pub ready_still : (c n : ℕ) (es : List Entry) → c ≤ n → are_ready (take c es) ≡ true → are_ready (take n es) ≡ true
ready_still zero n es few ready = absurd (both_ways false refl ready)
ready_still (suc c) n [] few ready = absurd (both_ways false refl ready)
ready_still (suc c) zero (e ∷ es) few ready = absurd (omega (arith, few))
ready_still (suc c) (suc n) (e ∷ es) few ready = at (is_ready (item_of e)) ready (λ rest. ready_still c n es (omega (arith, few)) rest)
  where
    at : (b : Bool) → (b || are_ready (take c es)) ≡ true → (are_ready (take c es) ≡ true → are_ready (take n es) ≡ true) → (b || are_ready (take n es)) ≡ true
    at true here behind = refl
    at false here behind = behind here

-- ---- a set that is opened

cuts_are_read : (array : Array) (set' position last : ℕ) (cuts : List (ℕ × ℕ)) → map item_of (cuts_from array set' position cuts ++ first_record array set' last IsReady ∷ []) ≡ map cut_of cuts ++ Ready ∷ []
cuts_are_read array set' position last [] = refl
cuts_are_read array set' position last (cut ∷ cuts) = ap (λ (l : List Record). cut_of cut ∷ l) (cuts_are_read array set' (position + 1) last cuts)

pub opening_is_of_cuts : OpeningIsOfCuts
opening_is_of_cuts array set' cuts = ap (λ (l : List Record). Head ∷ l) (cuts_are_read array set' 1 (1 + length cuts) cuts)

others_are_kept : (set' : ℕ) (cuts : List (ℕ × ℕ)) → All (λ (cut : ℕ × ℕ). (1 ≤ cut.0) × (cut.0 < set')) cuts → least_kept set' (map cut_of cuts ++ Ready ∷ []) ≡ None
others_are_kept set' [] targets = refl
others_are_kept set' (cut ∷ cuts) targets =
    let lower = (targets 0 cut (omega arith)).1 in
    ap (λ b. lesser (cond b (Some cut.1) None) (least_kept set' (map cut_of cuts ++ Ready ∷ []))) (ne_eqb cut.0 set' (λ e. omega (arith, lower, e)))
    ∙ others_are_kept set' cuts (λ i c here. targets (suc i) c (omega (arith, here)))

pub no_cut_is_its_own : NoCutIsItsOwn
no_cut_is_its_own array set' cuts is = ap (least_kept set') (opening_is_of_cuts array set' cuts) ∙ others_are_kept set' cuts is.targets
