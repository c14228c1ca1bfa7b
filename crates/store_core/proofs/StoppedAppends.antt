-- What a zone says where an append to it was stopped: a part of a record adds nothing.
use Rattle.std.proofs.Common.{◌≡◌, ◌⊎◌, inl, inr, ℕ, ◌+◌, ◌-◌, ◌<◌, ◌≤◌, true, false, List, [], ◌∷◌, ◌++◌, length, take, drop, None, is_some, sym, ap, subst, ◌∙◌, arith}
use Rattle.std.specs.List.{list_any}
use Rattle.std.proofs.lemmas.Bool.{cases_lt}
use Rattle.std.proofs.lemmas.List.{append-nil, append_assoc, length-append, length-drop, take_all, take-append-le, take-append-drop}
use Rattle.std.proofs.Math.Seq.{take-append-add}
use Rattle.smore_base.specs.Objects.{Map}
use Rattle.zone_bay.specs.Contents.{Shape}
use Rattle.marker_format.specs.declared.kind.Kind.TheVariants as kinds
use Rattle.marker_format.specs.declared.marker.Marker.{Marker}
use Rattle.marker_format.specs.Zone.{Array, has_kind, Begin, begun, whole_records, is_rebuilt}
use Rattle.marker_format.proofs.ZoneLaws.{Stand-within, Begin-begun, begun-more, begun-full, whole_records-first}
use Rattle.store_core.specs.declared.zone.OpenZone.{OpenZone}
use Rattle.store_core.proofs.ObjectMaps.{objects_of}
use Rattle.store_core.proofs.OpenZones.{IsFilled, filled_whole}
use Rattle.store_core.proofs.ZoneItems.{items_from, items-front}
use Rattle.store_core.proofs.Held.{map_ready}
use Rattle.store_core.proofs.RecordAdded.{StandsBehind}
use Rattle.store_core.proofs.Stops.{Gives, EachGives}

-- ---- records between others

-- what has these records in front, and is a front of these and one more, is either of the two
between : (ms all rest more : List Marker) (m : Marker) → all ≡ ms ++ rest → ms ++ m ∷ [] ≡ all ++ more → (all ≡ ms) ⊎ (all ≡ ms ++ m ∷ [])
between ms all [] more m is front = inl (is ∙ append-nil ms)
between ms all (x ∷ []) [] m is front = inr (sym (append-nil all) ∙ sym front)
between ms all (x ∷ []) (y ∷ more) m is front = absurd (omega (arith, ap length is, ap length front, length-append ms (x ∷ []), length-append ms (m ∷ []), length-append all (y ∷ more)))
between ms all (x ∷ (x' ∷ rest)) more m is front = absurd (omega (arith, ap length is, ap length front, length-append ms (x ∷ (x' ∷ rest)), length-append ms (m ∷ []), length-append all more))

-- a part of a record behind those that fill the bytes is no record
part_begun : (array : Array) (bytes part rest : List ℕ) (ms : List Marker) (m : Marker) → IsFilled array bytes ms → IsFilled array (bytes ++ (part ++ rest)) (ms ++ m ∷ []) → 0 < length rest → begun array (bytes ++ part) ≡ ms
part_begun array bytes part rest ms m filled all some =
    let cut = bytes ++ part in
    let whole : cut ++ rest ≡ bytes ++ (part ++ rest) = append_assoc bytes part rest in
    let first = begun-more array bytes part in
    let behind = begun-more array cut rest in
    let first_is : begun array cut ≡ ms ++ first.0 = first.1 ∙ ap (λ (l : List Marker). l ++ first.0) (begun-full array bytes ms filled.fill.begin filled.fill.full) in
    let all_is : ms ++ m ∷ [] ≡ begun array cut ++ behind.0 = sym (begun-full array (bytes ++ (part ++ rest)) (ms ++ m ∷ []) all.fill.begin all.fill.full) ∙ ap (begun array) (sym whole) ∙ behind.1 in
    elim (between ms (begun array cut) first.0 behind.0 m first_is all_is) [
      | inl same ↦ same
      | inr more ↦
          let begin : Begin array cut (ms ++ m ∷ []) = subst (Begin array cut) more (Begin-begun array cut) in
          let within = Stand-within array cut None 0 (ms ++ m ∷ []) begin (omega arith) in
          absurd (omega (arith, within, all.fill.full, ap length whole, length-append cut rest, some))
    ]

pub part_whole : (array : Array) (bytes part rest : List ℕ) (ms : List Marker) (m : Marker) → IsFilled array bytes ms → IsFilled array (bytes ++ (part ++ rest)) (ms ++ m ∷ []) → 0 < length rest → whole_records array (bytes ++ part) ≡ ms
part_whole array bytes part rest ms m filled all some =
    let is = part_begun array bytes part rest ms m filled all some in
    whole_records-first array (bytes ++ part) (ap is_rebuilt is ∙ filled.first) ∙ is

-- ---- what the bytes say

module _ (array : Array) (shape : Shape) (one : array.geometry.k ≡ 1) (p : array.geometry.p ≡ 1) (drives : 1 < shape.devices) (zones : 2 < shape.zones) where
  gives_from : (bytes : List ℕ) (ms : List Marker) (objects : Map) → whole_records array bytes ≡ ms → list_any (has_kind kinds.Ready) ms ≡ true → list_any (has_kind kinds.Digest) ms ≡ false → is_rebuilt ms ≡ false → objects_of (items_from bytes 0 ms) ≡ objects → Gives array shape objects bytes
  gives_from bytes ms objects whole ready no_digest first is = record {
    zone = inr (record {
      ready = ap (list_any (has_kind kinds.Ready)) whole ∙ ready;
      no_digest = ap (list_any (has_kind kinds.Digest)) whole ∙ no_digest;
      first = ap is_rebuilt whole ∙ first;
    });
    map = λ held label alone same.
        map_ready array shape one p drives zones held (ap is_some label) alone (ap (list_any (has_kind kinds.Ready)) (ap (whole_records array) same ∙ whole) ∙ ready)
        ∙ ap (λ (l : List ℕ). objects_of (items_from l 0 (whole_records array l))) same
        ∙ ap (λ (l : List Marker). objects_of (items_from bytes 0 l)) whole ∙ is;
  }

  module _ (open_zone : OpenZone) (stamp : ℕ) (bytes : List ℕ) (ms : List Marker) (objects : Map) (stands : StandsBehind array open_zone stamp bytes ms) (is : objects_of (items_from bytes 0 ms) ≡ objects) where
    -- a part of a record behind it
    gives_part : (part rest : List ℕ) (m : Marker) → IsFilled array (bytes ++ (part ++ rest)) (ms ++ m ∷ []) → 0 < length rest → Gives array shape objects (bytes ++ part)
    gives_part part rest m all some = gives_from (bytes ++ part) ms objects (part_whole array bytes part rest ms m stands.filled all some) stands.ready stands.no_digest stands.filled.first
        (ap objects_of (items-front array bytes part None 0 ms one stands.filled.fill.begin) ∙ is)

    -- each part of a record behind it, and the whole record
    pub each_record : (zone' : OpenZone) (stamp' : ℕ) (more : List ℕ) (m : Marker) (after : Map) → StandsBehind array zone' stamp' (bytes ++ more) (ms ++ m ∷ []) → objects_of (items_from (bytes ++ more) 0 (ms ++ m ∷ [])) ≡ after → EachGives array shape objects after bytes more
    each_record zone' stamp' more m after later is_after = record {
      part = λ n few. at_one n (cases_lt n (length more));
      whole = full;
    }
      where
        full : Gives array shape after (bytes ++ more)
        full = gives_from (bytes ++ more) (ms ++ m ∷ []) after (filled_whole array (bytes ++ more) (ms ++ m ∷ []) later.filled) later.ready later.no_digest later.filled.first is_after

        at_one : (n : ℕ) → (n < length more) ⊎ (length more ≤ n) → Gives array shape objects (bytes ++ take n more) ⊎ Gives array shape after (bytes ++ take n more)
        at_one n (inl less) = inl (gives_part (take n more) (drop n more) m
            (subst (λ (l : List ℕ). IsFilled array (bytes ++ l) (ms ++ m ∷ [])) (sym (take-append-drop n more)) later.filled) (omega (arith, less, length-drop n more)))
        at_one n (inr all) = inr (subst (λ (l : List ℕ). Gives array shape after (bytes ++ l)) (sym (take_all n more all)) full)

  -- more behind bytes that change nothing
  pub each_joined : (before after : Map) (held first second : List ℕ) → EachGives array shape before before held first → EachGives array shape before after (held ++ first) second → EachGives array shape before after held (first ++ second)
  each_joined before after held first second same each = record {
    part = λ n few. at_one n (omega (arith, few, length-append first second)) (cases_lt n (length first));
    whole = subst (Gives array shape after) (append_assoc held first second) each.whole;
  }
    where
      either : (bytes : List ℕ) → Gives array shape before bytes ⊎ Gives array shape before bytes → Gives array shape before bytes
      either bytes (inl gives) = gives
      either bytes (inr gives) = gives

      moved : (l m : List ℕ) → l ≡ m → Gives array shape before l ⊎ Gives array shape after l → Gives array shape before m ⊎ Gives array shape after m
      moved l m is (inl gives) = inl (subst (Gives array shape before) is gives)
      moved l m is (inr gives) = inr (subst (Gives array shape after) is gives)

      at_one : (n : ℕ) → n ≤ length first + length second → (n < length first) ⊎ (length first ≤ n) → Gives array shape before (held ++ take n (first ++ second)) ⊎ Gives array shape after (held ++ take n (first ++ second))
      at_one n few (inl less) = inl (subst (λ (l : List ℕ). Gives array shape before (held ++ l)) (sym (take-append-le n first second (omega (arith, less)))) (either (held ++ take n first) (same.part n (omega (arith, less)))))
      at_one n few (inr more) = moved _ _
          (append_assoc held first (take (n - length first) second) ∙ ap (λ (l : List ℕ). held ++ l) (sym (take-append-add first second (n - length first)) ∙ ap (λ k. take k (first ++ second)) (omega (arith, more))))
          (each.part (n - length first) (omega (arith, few, more)))
