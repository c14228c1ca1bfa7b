-- A settled set reads the same from any of its carriers.
use Rattle.std.proofs.Common.{◌≡◌, ℕ, ◌+◌, ◌<◌, ◌≤◌, Bool, true, false, cond, eqb, ◌⊎◌, inl, inr, List, [], ◌∷◌, ◌++◌, length, map, take, Option, Some, None, refl, sym, ap, ap₂, ◌∙◌, append-nil, arith}
use Rattle.std.specs.Prelude.{◌&&◌, not}
use Rattle.std.specs.List.{AllByRecursion, last_or}
use Rattle.std.proofs.lemmas.Bool.{and_parts, eqb-true, cond-true}
use Rattle.std.proofs.lemmas.List.{length-append, length-map, take-map, take-append-le}
use Rattle.zone_bay.specs.Contents.{Contents}
use Rattle.marker_format.specs.declared.foot.Foot.{Foot}
use Rattle.marker_format.specs.declared.kind.Kind.{Kind}
use Rattle.marker_format.specs.declared.kind.Kind.TheVariants.{Head, Part, Put, Delete, Cut, Ready, Digest, Snapshot, Trailer}
use Rattle.marker_format.specs.declared.marker.Marker.{Marker}
use Rattle.marker_format.specs.Kind.{code_of}
use Rattle.marker_format.specs.Marker.{IsMarker, Counts}
use Rattle.marker_format.specs.Zone.{Array, Stand, Placed, begun, blocks_of, end_from, has_kind, may_stand, keeps_digest, first_digest, foot_between, stands_at, foot_follows, has_foot, is_rebuilt, trailer_follows, whole_records}
use Rattle.marker_format.proofs.ZoneLaws.{Begin-begun}
use Rattle.array_model.specs.Drives.{bytes_at, records_at}
use Rattle.array_model.specs.Reading.{Carrier, aside, alike, IsPrefixAlike, agreed, are_closed}
use Rattle.array_model.specs.Kept.{HaveOneList}
use Rattle.array_model.specs.ReadingLaws.{CutReadsTheSame, ClosedReadsTheSame}
use Rattle.array_model.proofs.Records.{Among, among_from_contains, contains_from_among, all_among}
use Rattle.array_model.proofs.Alike.{part_stays, nothing_else_is_aside}
use Rattle.array_model.proofs.Agreed.{agree_where_alike, held_by_each, agreed_is_longest}

-- ---- the end of a closed zone

-- the last record of a digest, behind which none follows
abbrev ends : Option Marker → Bool
ends None = false
ends (Some last) = has_kind Digest last && eqb (last.part + 1) last.parts

foot_ends : (bytes : List ℕ) (block : ℕ) (first : Option Placed) (last : Option Marker) → stands_at bytes block (foot_between first last) ≡ true → ends last ≡ true
foot_ends bytes block None last is = absurd cc
foot_ends bytes block (Some first) None is = absurd cc
foot_ends bytes block (Some first) (Some last) is = at_one (has_kind Digest last && eqb (last.part + 1) last.parts) is
  where
    foot : Foot
    foot = record { set = last.set; index = last.index; position = first.marker.position; block = first.block; count = last.parts }

    at_one : (b : Bool) → stands_at bytes block (cond b (Some foot) None) ≡ true → b ≡ true
    at_one true is = refl
    at_one false is = is

closed_ends : (array : Array) (bytes : List ℕ) → has_foot array bytes ≡ true → ends (last_or None (whole_records array bytes)) ≡ true
unfolding has_foot foot_follows
closed_ends array bytes is = foot_ends bytes (end_from 0 (whole_records array bytes)) (first_digest 0 (whole_records array bytes)) (last_or None (whole_records array bytes)) is

pub whole_stand : (array : Array) (bytes : List ℕ) → Stand array bytes None 0 (whole_records array bytes)
unfolding whole_records
whole_stand array bytes = at_one (is_rebuilt (begun array bytes) && not (trailer_follows array bytes (begun array bytes)))
  where
    at_one : (b : Bool) → Stand array bytes None 0 (cond b [] (begun array bytes))
    at_one true = tt
    at_one false = Begin-begun array bytes

-- of a digest record
digest_counts : (m : Marker) (kind : Kind) → m.kind ≡ code_of kind → m.kind ≡ 7 → Counts kind m → m.part < m.parts
digest_counts m Digest coded is counts = counts.0
digest_counts m Head coded is counts = absurd (omega (arith, coded, is))
digest_counts m Part coded is counts = absurd (omega (arith, coded, is))
digest_counts m Put coded is counts = absurd (omega (arith, coded, is))
digest_counts m Delete coded is counts = absurd (omega (arith, coded, is))
digest_counts m Cut coded is counts = absurd (omega (arith, coded, is))
digest_counts m Ready coded is counts = absurd (omega (arith, coded, is))
digest_counts m Snapshot coded is counts = absurd (omega (arith, coded, is))
digest_counts m Trailer coded is counts = absurd (omega (arith, coded, is))

-- Behind a marker like the last of a digest no record may stand.
none_follows : (d e y : Marker) → IsMarker d → IsMarker e → IsMarker y → alike e ≡ alike d → ends (Some d) ≡ true → may_stand (Some e) y ≡ true → ⊥
none_follows d e y d_is e_is y_is same last may =
    let both : (has_kind Digest d ≡ true) × (eqb (d.part + 1) d.parts ≡ true) = and_parts (has_kind Digest d) (eqb (d.part + 1) d.parts) last in
    let digest : d.kind ≡ 7 = eqb-true d.kind 7 both.0 in
    let full : d.part + 1 ≡ d.parts = eqb-true (d.part + 1) d.parts both.1 in
    let left : aside e ≡ aside d = nothing_else_is_aside e d e_is d_is (agree_where_alike e d same) in
    let kind : e.kind ≡ d.kind = ap (λ (m : Marker). m.kind) left in
    let parts : e.parts ≡ d.parts = ap (λ (m : Marker). m.parts) left in
    let other : eqb d.kind 1 ≡ false = ap (λ k. eqb k 1) digest in
    let part : e.part ≡ d.part =
    sym (part_stays e (ap (λ k. eqb k 1) kind ∙ other)) ∙ ap (λ (m : Marker). m.part) left ∙ part_stays d other in
    next_digest (kind ∙ digest) (omega arith) (and_parts _ _ may).1
  where
    next_digest : e.kind ≡ 7 → e.part + 1 ≡ e.parts → keeps_digest e y ≡ true → ⊥
    next_digest digest full next =
        let keeps : (has_kind Digest y && eqb y.part (e.part + 1) && eqb y.parts e.parts) ≡ true =
        sym (cond-true (has_kind Digest e) (has_kind Digest y && eqb y.part (e.part + 1) && eqb y.parts e.parts) (cond (has_kind Digest y) (eqb y.part 0) true) (ap (λ k. eqb k 7) digest)) ∙ next in
        let tests : ((has_kind Digest y && eqb y.part (e.part + 1)) ≡ true) × (eqb y.parts e.parts ≡ true) = and_parts (has_kind Digest y && eqb y.part (e.part + 1)) (eqb y.parts e.parts) keeps in
        let first : (has_kind Digest y ≡ true) × (eqb y.part (e.part + 1) ≡ true) = and_parts (has_kind Digest y) (eqb y.part (e.part + 1)) tests.0 in
        let below : y.part < y.parts = digest_counts y y_is.kind y_is.coded (eqb-true y.kind 7 first.0) y_is.counts in
        omega (arith, eqb-true y.part (e.part + 1) first.1, eqb-true y.parts e.parts tests.1)

-- the last records before these, if any, are alike
abbrev AreAlike : Option Marker → Option Marker → Type 0
AreAlike None None = Unit {0}
AreAlike (Some d) (Some e) = IsMarker d × IsMarker e × (alike e ≡ alike d)
AreAlike o p = ⊥

-- A list that goes on like one that ends with a digest has no more.
no_more : (array : Array) (bytes : List ℕ) (xs ys : List Marker) (rest : List (List ℕ)) (o p : Option Marker) (block : ℕ) → AllByRecursion IsMarker xs → Stand array bytes p block ys → AreAlike o p → map alike ys ≡ map alike xs ++ rest → ends (last_or o xs) ≡ true → rest ≡ []
no_more array bytes [] [] rest o p block well stand both same last = sym same
no_more array bytes [] (y ∷ ys) rest None p block well stand both same last = absurd cc
no_more array bytes [] (y ∷ ys) rest (Some d) None block well stand both same last = absurd both
no_more array bytes [] (y ∷ ys) rest (Some d) (Some e) block well stand both same last = absurd (none_follows d e y both.0 both.1 stand.0.marker both.2 last stand.1)
no_more array bytes (x ∷ xs) [] rest o p block well stand both same last = absurd cc
no_more array bytes (x ∷ xs) (y ∷ ys) rest o p block well stand both same last =
    no_more array bytes xs ys rest (Some x) (Some y) (block + blocks_of y) well.1 stand.2 (well.0, stand.0.marker, cc) (cc) last

pub all_markers : (array : Array) (bytes : List ℕ) (ms : List Marker) (before : Option Marker) (block : ℕ) → Stand array bytes before block ms → AllByRecursion IsMarker ms
all_markers array bytes [] before block stand = tt
all_markers array bytes (m ∷ ms) before block stand = (stand.0.marker, all_markers array bytes ms (Some m) (block + blocks_of m) stand.2)

-- Of two prefixes of one list one is a prefix of the other.
one_in_other : {X : Type 0} (xs ys r s : List X) → xs ++ r ≡ ys ++ s → ((rest : List X) × (ys ≡ xs ++ rest)) ⊎ ((rest : List X) × (xs ≡ ys ++ rest))
one_in_other [] ys r s e = inl (ys, refl)
one_in_other (x ∷ xs) [] r s e = inr (x ∷ xs, refl)
one_in_other (x ∷ xs) (y ∷ ys) r s e = elim (one_in_other xs ys r s cc) [
  | inl more ↦ let head : y ≡ x = cc in inl (more.0, ap₂ ◌∷◌ head more.1)
  | inr more ↦ let head : x ≡ y = cc in inr (more.0, ap₂ ◌∷◌ head more.1)
]

-- A zone that has first ones of a closed zone's list, or more, has just these.
closed_has_all : (array : Array) (one other : List ℕ) (rest : List (List ℕ)) → has_foot array one ≡ true → map alike (whole_records array other) ≡ map alike (whole_records array one) ++ rest → map alike (whole_records array other) ≡ map alike (whole_records array one)
closed_has_all array one other rest foot same =
    let xs = whole_records array one in
    let ys = whole_records array other in
    let none = no_more array other xs ys rest None None 0 (all_markers array one xs None 0 (whole_stand array one)) (whole_stand array other) tt same (closed_ends array one foot) in
    same ∙ ap (λ l. map alike xs ++ l) none ∙ append-nil (map alike xs)

closed_alike : (array : Array) (one other : List ℕ) (all : List Marker) → has_foot array one ≡ true → has_foot array other ≡ true → IsPrefixAlike (whole_records array one) all → IsPrefixAlike (whole_records array other) all → map alike (whole_records array one) ≡ map alike (whole_records array other)
closed_alike array one other all one_foot other_foot p q = elim (one_in_other (map alike (whole_records array one)) (map alike (whole_records array other)) p.0 q.0 (sym p.1 ∙ q.1)) [
  | inl more ↦ sym (closed_has_all array one other more.0 one_foot more.1)
  | inr more ↦ closed_has_all array other one more.0 other_foot more.1
]

-- ---- all carriers

pub all_closed : (array : Array) (held : Contents) (carriers : List Carrier) (carrier : Carrier) → are_closed array held carriers ≡ true → Among carrier carriers → has_foot array (bytes_at held carrier.place) ≡ true
all_closed array held [] carrier closed found = absurd found
all_closed array held (c ∷ carriers) carrier closed (inl is) = ap (λ (x : Carrier). has_foot array (bytes_at held x.place)) (sym is) ∙ (and_parts _ _ closed).0
all_closed array held (c ∷ carriers) carrier closed (inr later) = all_closed array held carriers carrier (and_parts _ _ closed).1 later

each_alike : (array : Array) (held : Contents) (carriers : List Carrier) (one other : Carrier) → HaveOneList array held carriers → are_closed array held carriers ≡ true → Among one carriers → Among other carriers → map alike (records_at array held one.place) ≡ map alike (records_at array held other.place)
each_alike array held carriers one other lists closed one_in other_in =
    closed_alike array (bytes_at held one.place) (bytes_at held other.place) lists.0
    (all_closed array held carriers one closed one_in) (all_closed array held carriers other closed other_in)
    (all_among (λ (c : Carrier). IsPrefixAlike (records_at array held c.place) lists.0) carriers one lists.1 one_in)
    (all_among (λ (c : Carrier). IsPrefixAlike (records_at array held c.place) lists.0) carriers other lists.1 other_in)

-- Two lists of which each has the other first are alike.
alike_both : (one other : List Marker) → IsPrefixAlike one other → IsPrefixAlike other one → map alike one ≡ map alike other
alike_both one other p q = nothing p.0 p.1
  where
    nothing : (rest : List (List ℕ)) → map alike other ≡ map alike one ++ rest → map alike one ≡ map alike other
    nothing [] e = sym (e ∙ append-nil (map alike one))
    nothing (x ∷ rest) e =
        absurd (omega (arith, ap length e, ap length q.1, length-append (map alike one) (x ∷ rest), length-append (map alike other) q.0))

-- Carriers that are all alike agree on what each has.
pub agreed_alike : (array : Array) (held : Contents) (some : List Carrier) (c : Carrier) → Among c some → ((other : Carrier) → Among other some → map alike (records_at array held other.place) ≡ map alike (records_at array held c.place)) → map alike (agreed array held some) ≡ map alike (records_at array held c.place)
agreed_alike array held some c there same =
    alike_both (agreed array held some) (records_at array held c.place)
    (held_by_each array held some c there)
    (agreed_is_longest array held some (records_at array held c.place) (let found = contains_from_among some c there in omega (arith, found.1))
    (λ other found. ([], same other (among_from_contains some other found) ∙ sym (append-nil (map alike (records_at array held c.place))))))

pub first_among : (some : List Carrier) → 0 < length some → (c : Carrier) × Among c some
first_among [] there = absurd (omega (arith, there))
first_among (c ∷ some) there = (c, inl refl)

pub closed_reads_the_same : ClosedReadsTheSame
closed_reads_the_same array held some carriers part lists closed =
    let first = first_among some part.0 in
    let c = first.0 in
    let inside = λ (other : Carrier) (found : Among other some). among_from_contains carriers other (part.1 other (contains_from_among some other found)) in
    agreed_alike array held some c first.1 (λ other found. each_alike array held carriers other c lists closed (inside other found) (inside c first.1))
    ∙ sym (agreed_alike array held carriers c (inside c first.1) (λ other found. each_alike array held carriers other c lists closed found (inside c first.1)))

pub cut_reads_the_same : CutReadsTheSame
cut_reads_the_same array held some carriers kept part fits =
    let more = agreed_is_longest array held some (agreed array held carriers) part.0 (λ carrier found. held_by_each array held carriers carrier (among_from_contains carriers carrier (part.1 carrier found))) in
    let long : kept ≤ length (map alike (agreed array held carriers)) = omega (arith, fits, length-map (agreed array held carriers) alike) in
    sym (take-map alike kept (agreed array held some))
    ∙ ap (take kept) more.1
    ∙ take-append-le kept (map alike (agreed array held carriers)) more.0 long
    ∙ take-map alike kept (agreed array held carriers)
