-- The list on which carriers agree.
use Rattle.std.proofs.Common.{◌≡◌, ℕ, Bool, true, false, cond, inl, inr, List, [], ◌∷◌, ◌++◌, length, map, take, refl, sym, ap, ap₂, ◌∙◌, subst, append_assoc, append-nil, arith}
use Rattle.std.specs.List.{AllByRecursion}
use Rattle.std.proofs.lemmas.Bool.{cond_both, cond-true}
use Rattle.std.proofs.lemmas.List.{map-append, length-append}
use Rattle.std.proofs.lemmas.Slice.Eq.{bytes_eq-Decides}
use Rattle.zone_bay.specs.Contents.{Contents, Extends}
use Rattle.marker_format.specs.declared.marker.Marker.{Marker}
use Rattle.marker_format.specs.Zone.{Array, IsPrefix, begun, is_rebuilt, whole_records}
use Rattle.marker_format.proofs.ZoneLaws.{Begin-begun, begun-longest, begun-cut, begun-more, Begin-cut, whole_records-first}
use Rattle.array_model.specs.Drives.{bytes_at, records_at}
use Rattle.array_model.specs.Reading.{Carrier, alike, agree, common, common_of, IsPrefixAlike, agreed}
use Rattle.array_model.specs.ReadingLaws.{AreFirst, IsCutBehind, AgreedIsHeld, AgreedIsLongest, AgreedGrows, AgreedStays}
use Rattle.array_model.proofs.Records.{Among, among_from_contains, contains_from_among}
use Rattle.array_model.proofs.SameZones.{map-same}

-- ---- two lists

pub alike_where_agreed : (a b : Marker) → agree a b ≡ true → alike a ≡ alike b
alike_where_agreed a b is = (bytes_eq-Decides (alike a) (alike b)).0 is

pub agree_where_alike : (a b : Marker) → alike a ≡ alike b → agree a b ≡ true
agree_where_alike a b same = (bytes_eq-Decides (alike a) (alike b)).1 same

-- What two lists have in common are the first ones of the first,
pub common_first : (ms others : List Marker) → IsPrefix (common ms others) ms
common_first [] others = ([], refl)
common_first (m ∷ ms) [] = (m ∷ ms, refl)
common_first (m ∷ ms) (other ∷ others) =
    let rest = common_first ms others in
    cond_both (agree m other) (m ∷ common ms others) [] (λ l. IsPrefix l (m ∷ ms)) (λ is. (rest.0, ap (λ l. m ∷ l) rest.1)) (λ is. (m ∷ ms, refl))

-- and of the second, but for what is left aside,
common_second : (ms others : List Marker) → IsPrefixAlike (common ms others) others
common_second [] others = (map alike others, refl)
common_second (m ∷ ms) [] = ([], refl)
common_second (m ∷ ms) (other ∷ others) =
    let rest = common_second ms others in
    cond_both (agree m other) (m ∷ common ms others) [] (λ l. IsPrefixAlike l (other ∷ others)) (λ is. (rest.0, ap₂ ◌∷◌ (sym (alike_where_agreed m other is)) rest.1)) (λ is. (map alike (other ∷ others), refl))

-- and no longer list is so.
common_longest : (ms one other : List Marker) → IsPrefixAlike ms one → IsPrefixAlike ms other → IsPrefixAlike ms (common one other)
common_longest [] one other p q = (map alike (common one other), refl)
common_longest (m ∷ ms) [] other p q = let e = p.1 in absurd cc
common_longest (m ∷ ms) (x ∷ one) [] p q = let e = q.1 in absurd cc
common_longest (m ∷ ms) (x ∷ one) (y ∷ other) (r, e) (s, f) =
    let first : alike x ≡ alike m = cc in
    let second : alike y ≡ alike m = cc in
    both_alike first second (common_longest ms one other (r, cc) (s, cc))
  where
    both_alike : alike x ≡ alike m → alike y ≡ alike m → IsPrefixAlike ms (common one other) → IsPrefixAlike (m ∷ ms) (common (x ∷ one) (y ∷ other))
    both_alike first second rest =
        subst (IsPrefixAlike (m ∷ ms)) (sym (cond-true (agree x y) (x ∷ common one other) [] (agree_where_alike x y (first ∙ sym second)))) (rest.0, ap₂ ◌∷◌ first rest.1)

alike_prefix : (some all : List Marker) → IsPrefix some all → IsPrefixAlike some all
alike_prefix some all p = (map alike p.0, ap (map alike) p.1 ∙ map-append alike some p.0)

alike_trans : (a b c : List Marker) → IsPrefixAlike a b → IsPrefixAlike b c → IsPrefixAlike a c
alike_trans a b c p q = (p.0 ++ q.0, q.1 ∙ ap (λ l. l ++ q.0) p.1 ∙ append_assoc (map alike a) p.0 q.0)

-- Longer lists have as much in common, or more.
common_more : (one more other others : List Marker) → IsPrefix (common one other) (common (one ++ more) (other ++ others))
common_more [] more other others = (common more (other ++ others), refl)
common_more (m ∷ one) more [] others = (common (m ∷ (one ++ more)) others, refl)
common_more (m ∷ one) more (x ∷ other) others = at_one (agree m x) (common_more one more other others)
  where
    at_one : (b : Bool) → IsPrefix (common one other) (common (one ++ more) (other ++ others)) → IsPrefix (cond b (m ∷ common one other) []) (cond b (m ∷ common (one ++ more) (other ++ others)) [])
    at_one true rest = (rest.0, ap (λ l. m ∷ l) rest.1)
    at_one false rest = ([], refl)

common_grows : (one one' other other' : List Marker) → IsPrefix one one' → IsPrefix other other' → IsPrefix (common one other) (common one' other')
common_grows one one' other other' p q =
    subst (λ (l : List Marker). IsPrefix (common one other) (common l other')) (sym p.1)
    (subst (λ (l : List Marker). IsPrefix (common one other) (common (one ++ p.0) l)) (sym q.1) (common_more one p.0 other q.0))

-- ---- all carriers

pub held_by_each : (array : Array) (held : Contents) (carriers : List Carrier) (carrier : Carrier) → Among carrier carriers → IsPrefixAlike (agreed array held carriers) (records_at array held carrier.place)
held_by_each array held [] carrier found = absurd found
held_by_each array held (c ∷ []) carrier (inl is) = alike_prefix _ (records_at array held carrier.place) ([], ap (λ (x : Carrier). records_at array held x.place) (sym is) ∙ sym (append-nil (records_at array held c.place)))
held_by_each array held (c ∷ []) carrier (inr found) = absurd found
held_by_each array held (c ∷ d ∷ carriers) carrier (inl is) =
    subst (λ (x : Carrier). IsPrefixAlike (agreed array held (c ∷ d ∷ carriers)) (records_at array held x.place)) is
    (alike_prefix (agreed array held (c ∷ d ∷ carriers)) (records_at array held c.place) (common_first (records_at array held c.place) (agreed array held (d ∷ carriers))))
held_by_each array held (c ∷ d ∷ carriers) carrier (inr found) =
    alike_trans (agreed array held (c ∷ d ∷ carriers)) (agreed array held (d ∷ carriers)) (records_at array held carrier.place)
    (common_second (records_at array held c.place) (agreed array held (d ∷ carriers)))
    (held_by_each array held (d ∷ carriers) carrier found)

pub agreed_is_held : AgreedIsHeld
agreed_is_held array held carriers carrier found = held_by_each array held carriers carrier (among_from_contains carriers carrier found)

longest_of_each : (array : Array) (held : Contents) (ms : List Marker) (c : Carrier) (carriers : List Carrier) → ((carrier : Carrier) → Among carrier (c ∷ carriers) → IsPrefixAlike ms (records_at array held carrier.place)) → IsPrefixAlike ms (agreed array held (c ∷ carriers))
longest_of_each array held ms c [] each = each c (inl refl)
longest_of_each array held ms c (d ∷ carriers) each =
    common_longest ms (records_at array held c.place) (agreed array held (d ∷ carriers)) (each c (inl refl)) (longest_of_each array held ms d carriers (λ carrier found. each carrier (inr found)))

pub agreed_is_longest : AgreedIsLongest
agreed_is_longest array held [] ms some each = absurd (omega arith)
agreed_is_longest array held (c ∷ carriers) ms some each = longest_of_each array held ms c carriers (λ carrier found. each carrier (contains_from_among (c ∷ carriers) carrier found))

all_grow : (f g : Carrier → List Marker) (carriers : List Carrier) → AllByRecursion (λ c. IsPrefix (f c) (g c)) carriers → IsPrefix (common_of (map f carriers)) (common_of (map g carriers))
all_grow f g [] all = ([], refl)
all_grow f g (c ∷ []) all = all.0
all_grow f g (c ∷ d ∷ carriers) all = common_grows (f c) (g c) (common_of (map f (d ∷ carriers))) (common_of (map g (d ∷ carriers))) all.0 (all_grow f g (d ∷ carriers) all.1)

-- ---- zones that grow, or are cut

-- More bytes behind a first zone's leave its whole records first.
first_zone_grows : (array : Array) (bytes more : List ℕ) → is_rebuilt (begun array bytes) ≡ false → IsPrefix (whole_records array bytes) (whole_records array (bytes ++ more))
first_zone_grows array bytes more first =
    subst (λ (ms : List Marker). IsPrefix ms (whole_records array (bytes ++ more))) (sym (whole_records-first array bytes first)) (at_list (begun array bytes) refl (begun-more array bytes more) first)
  where
    at_list : (ms : List Marker) → begun array bytes ≡ ms → IsPrefix ms (begun array (bytes ++ more)) → is_rebuilt ms ≡ false → IsPrefix ms (whole_records array (bytes ++ more))
    at_list [] is p first = (whole_records array (bytes ++ more), refl)
    at_list (m ∷ ms) is p first = (p.0, whole_records-first array (bytes ++ more) (ap is_rebuilt p.1 ∙ first) ∙ p.1)

grown : (array : Array) (held more : Contents) (carriers : List Carrier) → AreFirst array held carriers → Extends held more → AllByRecursion (λ (c : Carrier). IsPrefix (records_at array held c.place) (records_at array more c.place)) carriers
grown array held more [] first extends = tt
grown array held more (c ∷ carriers) first extends =
    let behind = extends c.place.device c.place.zone in (
      subst (λ (bytes : List ℕ). IsPrefix (records_at array held c.place) (whole_records array bytes)) (sym behind.1) (first_zone_grows array (bytes_at held c.place) behind.0 first.0),
      grown array held more carriers first.1 extends,
    )

pub agreed_grows : AgreedGrows
agreed_grows array held more carriers first extends = all_grow (λ c. records_at array held c.place) (λ c. records_at array more c.place) carriers (grown array held more carriers first extends)

-- Two lists of which each is a prefix of the other are the same.
both_prefixes : (one other : List Marker) → IsPrefix one other → IsPrefix other one → one ≡ other
both_prefixes one other (rest, p) (more, q) = nothing rest p
  where
    nothing : (rest : List Marker) → other ≡ one ++ rest → one ≡ other
    nothing [] p = sym (p ∙ append-nil one)
    nothing (x ∷ rest) p = absurd (omega (arith, ap length p, ap length q, length-append one (x ∷ rest), length-append other more))

cut_first_zone : (array : Array) (bytes cut : List ℕ) → is_rebuilt (begun array bytes) ≡ false → IsCutBehind array bytes cut → whole_records array cut ≡ whole_records array bytes
cut_first_zone array bytes cut first (n, behind, is) =
    let same : begun array (take n bytes) ≡ begun array bytes = both_prefixes (begun array (take n bytes)) (begun array bytes) (begun-cut n array bytes) (begun-longest array (take n bytes) (begun array bytes) (Begin-cut n array bytes (begun array bytes) (Begin-begun array bytes) behind)) in
    ap (whole_records array) is
    ∙ whole_records-first array (take n bytes) (ap is_rebuilt same ∙ first)
    ∙ same
    ∙ sym (whole_records-first array bytes first)

cut_same : (array : Array) (held cut : Contents) (carriers : List Carrier) → AreFirst array held carriers → AllByRecursion (λ (c : Carrier). IsCutBehind array (bytes_at held c.place) (bytes_at cut c.place)) carriers → AllByRecursion (λ (c : Carrier). records_at array cut c.place ≡ records_at array held c.place) carriers
cut_same array held cut [] first behind = tt
cut_same array held cut (c ∷ carriers) first behind = (cut_first_zone array (bytes_at held c.place) (bytes_at cut c.place) first.0 behind.0, cut_same array held cut carriers first.1 behind.1)

pub agreed_stays : AgreedStays
agreed_stays array held cut carriers first behind = ap common_of (map-same (λ (c : Carrier). records_at array cut c.place) (λ c. records_at array held c.place) carriers (cut_same array held cut carriers first behind))
