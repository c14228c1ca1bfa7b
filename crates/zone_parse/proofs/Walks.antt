-- A walk comes to the records of its zone.
use Rattle.std.proofs.Common.{◌≡◌, ℕ, zero, suc, ◌+◌, ◌-◌, ◌*◌, ◌/◌, ◌≤◌, Bool, true, false, cond, List, [], ◌∷◌, ◌++◌, length, drop, replicate, get_or, Option, Some, None, inl, inr, refl, sym, ap, ◌∙◌, arith}
use Rattle.std.specs.Prelude.{◌&&◌, ◌==◌, map, option_map}
use Rattle.std.specs.List.{last_or}
use Rattle.std.specs.Str.{bytes_eq}
use Rattle.std.proofs.lemmas.Bool.{and_parts, eqb-true, cases_lt, false_from_ne_true}
use Rattle.std.proofs.lemmas.List.{append-nil, length-append, length-take, length-drop, nil_from_length}
use Rattle.std.proofs.lemmas.Slice.Eq.{bytes_eq-Decides}
use Rattle.marker_format.specs.declared.kind.Kind.TheVariants.{Head, Part, Put, Delete, Cut, Ready, Digest, Snapshot, Trailer}
use Rattle.marker_format.specs.declared.tag.Tag.TheVariants as tags
use Rattle.marker_format.specs.declared.kind.Kind.{Kind}
use Rattle.marker_format.specs.declared.marker.Marker.{Marker}
use Rattle.marker_format.specs.declared.foot.Foot.{Foot}
use Rattle.marker_format.specs.Kind.{code_of, most_position}
use Rattle.marker_format.specs.Marker.{IsMarker}
use Rattle.marker_format.specs.Foot as foot
use Rattle.marker_format.specs.Block.{marker_in_block, marker_block, foot_block}
use Rattle.marker_format.specs.Zone.{Array, Placed, block_at, blocks_of, end_from, has_kind, belongs, shares_zone, may_stand, Stand, Begin, IsPrefix, with_more, next_at, records_from, begun, first_digest, foot_between, foot_of, stands_at, foot_follows, is_trailer, trailer_follows}
use Rattle.marker_format.proofs.BlockLaws.{HasText, has_text, marker_in_block-is}
use Rattle.marker_format.proofs.FootLaws.{length-spelling}
use Rattle.marker_format.proofs.MarkerLaws.{length-spelling_of}
use Rattle.marker_format.specs.Marker.{spelling_of}
use Rattle.marker_format.proofs.ZoneLaws.{next_at-is, Stand-records_from, records_from-longest, end_from-length, Stand-within}
use Rattle.zone_parse.specs.declared.walk.FirstDigest.{FirstDigest}
use Rattle.zone_parse.specs.declared.walk.Walk.{Walk}
use Rattle.zone_parse.specs.Walk.{last_of, as_marker, before_of, digest_with, start, behind, behind_all, records_behind, foot_seen, holds_foot, shown, foot_at, ends_zone, trailer_at}
use Rattle.zone_parse.proofs.Shown.{shown_short, shown_whole}

-- ---- what the rules ask of a record is all that a walk keeps of it

next_at-last : (array : Array) (bytes : List ℕ) (m : Marker) (block : ℕ) → next_at array bytes (Some (as_marker (last_of m))) block ≡ next_at array bytes (Some m) block
unfolding next_at
next_at-last array bytes m block = refl

records_from-last : (most : ℕ) (array : Array) (bytes : List ℕ) (m : Marker) (block : ℕ) → records_from most array bytes (Some (as_marker (last_of m))) block ≡ records_from most array bytes (Some m) block
unfolding records_from
records_from-last zero array bytes m block = refl
records_from-last (suc most) array bytes m block = ap (λ (o : Option Marker). with_more o (λ x. records_from most array bytes (Some x) (block + blocks_of x))) (next_at-last array bytes m block)

-- ---- more than enough is enough

prefixes_are : (xs ys : List Marker) → IsPrefix xs ys → IsPrefix ys xs → xs ≡ ys
prefixes_are xs ys p q =
    let none : p.0 ≡ [] = nil_from_length p.0 (omega (arith, ap length p.1, ap length q.1, length-append xs p.0, length-append ys q.0)) in
    sym (p.1 ∙ ap (λ (l : List Marker). xs ++ l) none ∙ append-nil xs)

Stand-few : (array : Array) (bytes : List ℕ) (before : Option Marker) (block : ℕ) (ms : List Marker) → Stand array bytes before block ms → length ms ≤ length bytes / 512 - block
Stand-few array bytes before block [] stand = omega arith
Stand-few array bytes before block (m ∷ ms) stand =
    omega (arith, stand.0.within, Stand-within array bytes (Some m) (block + blocks_of m) ms stand.2 stand.0.within, end_from-length (block + blocks_of m) ms)

records_from-enough : (p q : ℕ) (array : Array) (bytes : List ℕ) (before : Option Marker) (block : ℕ) → length bytes / 512 - block ≤ p → length bytes / 512 - block ≤ q → records_from p array bytes before block ≡ records_from q array bytes before block
records_from-enough p q array bytes before block p-enough q-enough =
    let all_p = Stand-records_from p array bytes before block in
    let all_q = Stand-records_from q array bytes before block in
    prefixes_are (records_from p array bytes before block) (records_from q array bytes before block)
    (records_from-longest q array bytes before block (records_from p array bytes before block) all_p (omega (arith, Stand-few array bytes before block (records_from p array bytes before block) all_p)))
    (records_from-longest p array bytes before block (records_from q array bytes before block) all_q (omega (arith, Stand-few array bytes before block (records_from q array bytes before block) all_q)))

-- ---- steps

records_from-none : (most : ℕ) (array : Array) (bytes : List ℕ) (before : Option Marker) (block : ℕ) → next_at array bytes before block ≡ None → records_from most array bytes before block ≡ []
unfolding records_from
records_from-none zero array bytes before block e = refl
records_from-none (suc most) array bytes before block e = ap (λ (o : Option Marker). with_more o (λ x. records_from most array bytes (Some x) (block + blocks_of x))) e

records_from-some : (most : ℕ) (array : Array) (bytes : List ℕ) (before : Option Marker) (block : ℕ) (m : Marker) → next_at array bytes before block ≡ Some m
    → records_from (suc most) array bytes before block ≡ m ∷ records_from most array bytes (Some m) (block + blocks_of m)
unfolding records_from
records_from-some most array bytes before block m e = ap (λ (o : Option Marker). with_more o (λ x. records_from most array bytes (Some x) (block + blocks_of x))) e

pub records_again-some : (most : ℕ) (array : Array) (bytes : List ℕ) (w : Walk) (m : Marker) → next_at array bytes (before_of w) w.block ≡ Some m
    → records_from (suc most) array bytes (before_of w) w.block ≡ m ∷ records_from most array bytes (before_of (behind w m)) (w.block + blocks_of m)
records_again-some most array bytes w m e =
    records_from-some most array bytes (before_of w) w.block m e ∙ ap (λ (l : List Marker). m ∷ l) (sym (records_from-last most array bytes m (w.block + blocks_of m)))

pub records_again-none : (most : ℕ) (array : Array) (bytes : List ℕ) (w : Walk) → next_at array bytes (before_of w) w.block ≡ None → records_from most array bytes (before_of w) w.block ≡ []
records_again-none most array bytes w e = records_from-none most array bytes (before_of w) w.block e

pub records_behind-none : (array : Array) (bytes : List ℕ) (w : Walk) → next_at array bytes (before_of w) w.block ≡ None → records_behind array bytes w ≡ []
unfolding records_behind
records_behind-none array bytes w e = records_from-none (length bytes / 512) array bytes (before_of w) w.block e

pub records_behind-some : (array : Array) (bytes : List ℕ) (w : Walk) (m : Marker) → next_at array bytes (before_of w) w.block ≡ Some m → records_behind array bytes w ≡ m ∷ records_behind array bytes (behind w m)
unfolding records_behind
records_behind-some array bytes w m e =
    let most = length bytes / 512 in
    let within = (next_at-is array bytes (before_of w) w.block m e).0.within in
    let one_more : most ≡ suc (most - 1) = omega (arith, within) in
    let block = w.block + blocks_of m in
    ap (λ (n : ℕ). records_from n array bytes (before_of w) w.block) one_more
    ∙ records_again-some (most - 1) array bytes w m e
    ∙ ap (λ (l : List Marker). m ∷ l) (records_from-enough (most - 1) most array bytes (before_of (behind w m)) block (omega (arith, within)) (omega arith))

-- ---- the end of a walk

behind_all-block : (w : Walk) (ms : List Marker) → (behind_all w ms).block ≡ end_from w.block ms
behind_all-block w [] = refl
behind_all-block w (m ∷ ms) = behind_all-block (behind w m) ms

behind_all-last : (w : Walk) (ms : List Marker) → (behind_all w ms).last ≡ last_or w.last (map last_of ms)
behind_all-last w [] = refl
behind_all-last w (m ∷ ms) = behind_all-last (behind w m) ms

last_or-map : (o : Option Marker) (ms : List Marker) → last_or (option_map last_of o) (map last_of ms) ≡ option_map last_of (last_or o ms)
last_or-map o [] = refl
last_or-map o (m ∷ ms) = last_or-map (Some m) ms

abbrev digest_of : Placed → FirstDigest
digest_of p = record { position = p.marker.position; block = p.block }

abbrev or_else : Option FirstDigest → Option FirstDigest → Option FirstDigest
or_else (Some d) o = Some d
or_else None o = o

behind_all-digest : (w : Walk) (ms : List Marker) → (behind_all w ms).digest ≡ or_else w.digest (option_map digest_of (first_digest w.block ms))
behind_all-digest w [] = nothing w.digest
  where
    nothing : (o : Option FirstDigest) → o ≡ or_else o None
    nothing None = refl
    nothing (Some d) = refl
behind_all-digest w (m ∷ ms) = behind_all-digest (behind w m) ms ∙ one w.digest
  where
    rest : Option Placed
    rest = first_digest (w.block + blocks_of m) ms

    test : (b : Bool) → or_else (cond b (Some (record { position = m.position; block = w.block })) None) (option_map digest_of rest) ≡ option_map digest_of (cond b (Some (record { marker = m; block = w.block })) rest)
    test true = refl
    test false = refl

    one : (o : Option FirstDigest) → or_else (digest_with o w.block m) (option_map digest_of rest) ≡ or_else o (option_map digest_of (first_digest w.block (m ∷ ms)))
    one (Some d) = refl
    one None = test (has_kind Digest m)

foot_seen-between : (x : Option Placed) (y : Option Marker) → foot_seen (option_map digest_of x) (option_map last_of y) ≡ foot_between x y
foot_seen-between None None = refl
foot_seen-between None (Some m) = refl
foot_seen-between (Some p) None = refl
foot_seen-between (Some p) (Some m) = refl

pub foot_seen-all : (ms : List Marker) → foot_seen (behind_all start ms).digest (behind_all start ms).last ≡ foot_of ms
foot_seen-all ms =
    let d : (behind_all start ms).digest ≡ option_map digest_of (first_digest 0 ms) = behind_all-digest start ms in
    let l : (behind_all start ms).last ≡ option_map last_of (last_or None ms) = behind_all-last start ms ∙ last_or-map None ms in
    (λ i. foot_seen (d i) (l i)) ∙ foot_seen-between (first_digest 0 ms) (last_or None ms)

pub foot_at-all : (bytes : List ℕ) (ms : List Marker) → foot_at bytes (behind_all start ms) ≡ foot_follows bytes ms
unfolding foot_follows
foot_at-all bytes ms = λ i. stands_at bytes (behind_all-block start ms i) (foot_seen-all ms i)

-- ---- positions

abbrev next_position : Option Marker → ℕ
next_position None = 0
next_position (Some m) = m.position + 1

head_first : (m : Marker) (is : IsMarker m) → has_kind Head m ≡ true → m.position ≡ 0
head_first m is head = first is.kind (sym is.coded ∙ eqb-true m.kind 1 head) is.position_to
  where
    first : (kind : Kind) → code_of kind ≡ 1 → m.position ≤ most_position kind → m.position ≡ 0
    first Head e le = omega (arith, le)
    first Part e le = absurd (omega (arith, e))
    first Put e le = absurd (omega (arith, e))
    first Delete e le = absurd (omega (arith, e))
    first Cut e le = absurd (omega (arith, e))
    first Ready e le = absurd (omega (arith, e))
    first Digest e le = absurd (omega (arith, e))
    first Snapshot e le = absurd (omega (arith, e))
    first Trailer e le = absurd (omega (arith, e))

one_above : (before : Option Marker) (m : Marker) → IsMarker m → may_stand before m ≡ true → m.position ≡ next_position before
one_above None m is may = head_first m is may
one_above (Some b) m is may =
    let d = and_parts _ _ may in
    let c = and_parts _ _ d.0 in
    let p = and_parts _ _ c.0 in
    eqb-true m.position (b.position + 1) p.1

pub positions : (array : Array) (bytes : List ℕ) (before : Option Marker) (block : ℕ) (ms : List Marker) → Stand array bytes before block ms → next_position (last_or before ms) ≡ next_position before + length ms
positions array bytes before block [] stand = omega arith
positions array bytes before block (m ∷ ms) stand =
    omega (arith, positions array bytes (Some m) (block + blocks_of m) ms stand.2, one_above before m stand.0.marker stand.1)

ends_zone-is : (array : Array) (count : ℕ) (y m : Option Marker) → next_position y ≡ count → ends_zone array (option_map last_of y) m ≡ is_trailer array count y m
ends_zone-is array count None m e = refl
ends_zone-is array count (Some l) None e = refl
ends_zone-is array count (Some l) (Some m) e = ap (λ (n : ℕ). has_kind Trailer m && belongs array m && (m.position == n) && shares_zone l m) e

pub trailer_at-all : (array : Array) (bytes : List ℕ) (ms : List Marker) → Begin array bytes ms → trailer_at array bytes (behind_all start ms) ≡ trailer_follows array bytes ms
unfolding trailer_follows
trailer_at-all array bytes ms begin =
    let w = behind_all start ms in
    let count : next_position (last_or None ms) ≡ length ms = positions array bytes None 0 ms begin ∙ omega arith in
    let l : w.last ≡ option_map last_of (last_or None ms) = behind_all-last start ms ∙ last_or-map None ms in
    let place : (b : Bool) (n : ℕ) → cond b (n + 1) n ≡ n + cond b 1 0 = place_is in
    let block : cond (foot_at bytes w) (w.block + 1) w.block ≡ end_from 0 ms + cond (foot_follows bytes ms) 1 0 =
    place (foot_at bytes w) w.block ∙ (λ i. behind_all-block start ms i + cond (foot_at-all bytes ms i) 1 0) in
    (λ i. ends_zone array (l i) (marker_in_block (block_at bytes (block i)))) ∙ ends_zone-is array (length ms) (last_or None ms) (marker_in_block (block_at bytes (end_from 0 ms + cond (foot_follows bytes ms) 1 0))) count
  where
    place_is : (b : Bool) (n : ℕ) → cond b (n + 1) n ≡ n + cond b 1 0
    place_is true n = refl
    place_is false n = omega arith

-- ---- blocks that are shown

no_marker : (block : List ℕ) → ((m : Marker) → IsMarker m → block ≡ marker_block m → ⊥) → marker_in_block block ≡ None
no_marker block none = given (marker_in_block block) refl
  where
    given : (o : Option Marker) → marker_in_block block ≡ o → marker_in_block block ≡ None
    given None e = e
    given (Some m) e = let is = marker_in_block-is block m e in absurd (none m is.0 is.1)

marker_text : (m : Marker) → IsMarker m → HasText tags.Marker (marker_block m) (spelling_of m) 328
marker_text m is = has_text tags.Marker (marker_block m) (spelling_of m) 328 refl (length-spelling_of m is) (omega arith)

pub marker_shown : (bytes : List ℕ) (block : ℕ) → marker_in_block (shown bytes block) ≡ marker_in_block (block_at bytes block)
marker_shown bytes block = elim (cases_lt (length bytes) (512 * (block + 1))) [
  | inl short ↦
      let zeros : marker_in_block (shown bytes block) ≡ None = ap marker_in_block (shown_short bytes block short) ∙ no_marker (replicate 512 0) (λ m is e. absurd (omega (arith, ap (λ (l : List ℕ). get_or l 0 0) e, (marker_text m is).tagged))) in
      let part : marker_in_block (block_at bytes block) ≡ None = no_marker (block_at bytes block) (λ m is e. omega (arith, ap length e, (marker_text m is).long, length-take 512 (drop (512 * block) bytes), length-drop (512 * block) bytes)) in
      zeros ∙ sym part
  | inr whole ↦ ap marker_in_block (shown_whole bytes block whole)
]

foot_text : (f : Foot) → HasText tags.Foot (foot_block f) (foot.spelling_of f) 27
foot_text f = has_text tags.Foot (foot_block f) (foot.spelling_of f) 27 refl (length-spelling f) (omega arith)

no_foot : (f : Foot) (block : List ℕ) → (block ≡ foot_block f → ⊥) → bytes_eq block (foot_block f) ≡ false
no_foot f block none = false_from_ne_true (bytes_eq block (foot_block f)) (λ e. none ((bytes_eq-Decides block (foot_block f)).0 e))

pub foot_shown : (bytes : List ℕ) (block : ℕ) (o : Option Foot) → holds_foot o (shown bytes block) ≡ stands_at bytes block o
foot_shown bytes block None = refl
foot_shown bytes block (Some f) = elim (cases_lt (length bytes) (512 * (block + 1))) [
  | inl short ↦
      let zeros : bytes_eq (shown bytes block) (foot_block f) ≡ false = ap (λ (l : List ℕ). bytes_eq l (foot_block f)) (shown_short bytes block short) ∙ no_foot f (replicate 512 0) (λ e. omega (arith, ap (λ (l : List ℕ). get_or l 0 0) e, (foot_text f).tagged)) in
      let part : bytes_eq (block_at bytes block) (foot_block f) ≡ false = no_foot f (block_at bytes block) (λ e. omega (arith, ap length e, (foot_text f).long, length-take 512 (drop (512 * block) bytes), length-drop (512 * block) bytes)) in
      zeros ∙ sym part
  | inr whole ↦ ap (λ (l : List ℕ). bytes_eq l (foot_block f)) (shown_whole bytes block whole)
]

-- ---- walks from the first block on

pub records_behind-start : (array : Array) (bytes : List ℕ) → records_behind array bytes start ≡ begun array bytes
unfolding records_behind begun
records_behind-start array bytes = refl

-- so many as there are, are all
pub records_from-exact : (array : Array) (bytes : List ℕ) (w : Walk) → records_from (length (records_behind array bytes w)) array bytes (before_of w) w.block ≡ records_behind array bytes w
unfolding records_behind
records_from-exact array bytes w =
    let most = length bytes / 512 in
    let all = records_from most array bytes (before_of w) w.block in
    let some = records_from (length all) array bytes (before_of w) w.block in
    let stand_all = Stand-records_from most array bytes (before_of w) w.block in
    let stand_some = Stand-records_from (length all) array bytes (before_of w) w.block in
    prefixes_are some all
    (records_from-longest most array bytes (before_of w) w.block some stand_some (omega (arith, Stand-few array bytes (before_of w) w.block some stand_some)))
    (records_from-longest (length all) array bytes (before_of w) w.block all stand_all (omega arith))
