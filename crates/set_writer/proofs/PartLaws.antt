-- Digest records on the members, one behind the other.
use Rattle.std.proofs.Common.{◌≡◌, ℕ, ◌+◌, ◌-◌, ◌*◌, ◌/◌, ◌<◌, ◌≤◌, List, [], length, take, drop, Option, IfSome, refl, sym, ap, ap₂, subst, ◌∙◌, arith}
use Rattle.std.proofs.lemmas.List.{take-append-drop, take_at}
use Rattle.std.proofs.Math.Nat.{mul-le-mul_left}
use Rattle.smore_base.specs.Room.{payload_room}
use Rattle.zone_bay.specs.Bay.{BayState, IsSound}
use Rattle.marker_format.specs.declared.marker.Marker.{Marker}
use Rattle.marker_format.specs.Zone.{Array, blocks_of}
use Rattle.set_table.specs.Table.{Table, fragments_of}
use Rattle.set_writer.specs.Entry.{Entry, entry_bytes, entries_bytes, IsEntry}
use Rattle.set_writer.specs.Members.{Spreads, Grows, HoldBlocks, AllHaveRoom}
use Rattle.set_table.specs.Table.{array_of}
use Rattle.set_writer.specs.Writer.{Writer, array_by, parts_of, part_of, digest_marker, digest_record, first_digests, blocks_in}
use Rattle.set_writer.specs.Calls.{IsOf}
use Rattle.set_writer.specs.Writer.{CanDigest}
use Rattle.set_writer.specs.Fit.{live_of}
use Rattle.set_writer.specs.Rounds.{InRounds}
use Rattle.set_table.specs.Points.{point_at}
use Rattle.set_writer.proofs.EntryLaws.{length-entry_bytes}
use Rattle.set_writer.proofs.FitLaws.{blocks_most, room_for, hold_more}
use Rattle.set_writer.proofs.WroteLaws.{entries-more}
use Rattle.set_writer.proofs.MemberCalls.{grows_none}
use Rattle.set_writer.proofs.BeganLaws.{members_none, grows_more, of_now}
use Rattle.set_writer.proofs.RoundLaws.{no_rounds, one_round, in_rounds_then}
use Rattle.set_writer.proofs.DigestLaws.{digests-more, digests_blocks-more, fragment_most, digest_is_entry, digests_most}

-- the first so many of a list, as many as they are
take-itself : (n : ℕ) (l : List ℕ) → take (length (take n l)) l ≡ take n l
take-itself n l = ap (take (length (take n l))) (sym (take-append-drop n l)) ∙ take_at (take n l) (drop n l) (length (take n l)) refl

-- the record, as it is put
pub part_entry : (w : Writer) (part k shard : ℕ) (m : Marker) (lines : List ℕ) → k ≡ w.geometry.k → shard ≡ w.geometry.shard → lines ≡ w.lines → m ≡ digest_marker w part
    → record { marker = m; payload = take (part * (k * shard) + m.payload - part * (k * shard)) (drop (part * (k * shard)) lines) } ≡ digest_record w part
part_entry w part k shard m lines k_is shard_is lines_is marker_is =
    let size : k * shard ≡ payload_room w.geometry = ap₂ (λ a b. a * b) k_is shard_is in
    let from : part * (k * shard) ≡ part * payload_room w.geometry = ap (λ n. part * n) size in
    let count : part * (k * shard) + m.payload - part * (k * shard) ≡ length (part_of w part) = let p = ap (λ (x : Marker). x.payload) marker_is in omega (arith, p) in
    let payload : take (part * (k * shard) + m.payload - part * (k * shard)) (drop (part * (k * shard)) lines) ≡ part_of w part =
    ap (λ n. take n (drop (part * (k * shard)) lines)) count
    ∙ ap₂ (λ n (l : List ℕ). take (length (part_of w part)) (drop n l)) from lines_is
    ∙ take-itself (payload_room w.geometry) (drop (part * payload_room w.geometry) w.lines) in
    ap₂ (λ (x : Marker) (l : List ℕ). record { marker = x; payload = l }) marker_is payload

module _ (w : Writer) (can : CanDigest w) (part : ℕ) (below : part < parts_of w) where
  -- the buffers have room for it
  pub part_fragments : (k p pieces : ℕ) → k ≡ w.geometry.k → p ≡ w.geometry.p → pieces ≡ (w.geometry.k + w.geometry.p) * w.geometry.shard → (k + p) * (digest_marker w part).fragment ≤ pieces
  part_fragments k p pieces k_is p_is pieces_is =
      let most = mul-le-mul_left (w.geometry.k + w.geometry.p) (fragment_most w can part) in
      let same : (k + p) * (digest_marker w part).fragment ≡ (w.geometry.k + w.geometry.p) * (digest_marker w part).fragment = ap₂ (λ a b. (a + b) * (digest_marker w part).fragment) k_is p_is in
      omega (arith, most, same, pieces_is)

  pub part_blocks : blocks_of (digest_marker w part) ≤ 1 + w.geometry.shard / 511
  part_blocks = blocks_most (array_by w) (digest_record w part) can.within (digest_is_entry w can part below)

  within_zone : w.used + blocks_in (first_digests w part) + blocks_of (digest_marker w part) + 2 ≤ w.geometry.blocks
  within_zone =
      let more = digests_blocks-more w part in
      let most = digests_most w can (part + 1) (omega (arith, below)) in
      let all = can.blocks in
      omega (arith, more, most, all)

  -- and the zones have
  pub part_room : (t : Table) (o : Option _) → array_by w ≡ array_of t → IfSome o (HoldBlocks t w.set (w.used + blocks_in (first_digests w part))) → IfSome o (AllHaveRoom t w.set (512 * blocks_of (digest_marker w part)))
  part_room t o array held =
      let same = ap (λ (a : Array). a.geometry.blocks) array in
      let within = within_zone in
      room_for t w.set (w.used + blocks_in (first_digests w part)) (blocks_of (digest_marker w part)) o (omega (arith, same, within)) held

  pub part_held : (t t' : Table) (old new : BayState) → array_by w ≡ array_of t → Spreads w.set (entry_bytes w.geometry.k (digest_record w part)) t t' old new
      → IfSome old.contents (HoldBlocks t w.set (w.used + blocks_in (first_digests w part))) → IfSome new.contents (HoldBlocks t' w.set (w.used + blocks_in (first_digests w (part + 1))))
  part_held t t' old new array spread held =
      let kt = ap (λ (a : Array). a.geometry.k) array in
      let entry : IsEntry (array_of t) (digest_record w part) = subst (λ (a : Array). IsEntry a (digest_record w part)) array (digest_is_entry w can part below) in
      let more = digests_blocks-more w part in
      subst (λ n. IfSome new.contents (HoldBlocks t' w.set n)) (let e : w.used + blocks_in (first_digests w part) + blocks_of (digest_marker w part) ≡ w.used + blocks_in (first_digests w (part + 1)) = omega (arith, more) in e)
      (hold_more t t' w.set (w.used + blocks_in (first_digests w part)) (blocks_of (digest_marker w part)) (entry_bytes w.geometry.k (digest_record w part)) old new spread.grows
      (λ index within. length-entry_bytes (array_of t) (digest_record w part) w.geometry.k index entry kt within) held)

-- ---- one behind the other

-- The first so many were put, and take so many blocks.
pub record Digested (w : Writer) (n blocks : ℕ) (now : Writer) (t t' : Table) (old new : BayState) : Type 0 where
  pub writer : now ≡ w
  pub grows : Grows w.set (entries_bytes w.geometry.k (first_digests w n)) t t' old new
  pub sum : blocks ≡ blocks_in (first_digests w n)
  pub held : IfSome new.contents (HoldBlocks t' w.set (w.used + blocks_in (first_digests w n)))
  pub of : IsOf w t' new
  pub firm : new.firm ≡ old.firm
  pub calls : InRounds w.set n t t' old new

pub digested_none : (w : Writer) (t : Table) (bay : BayState) → IsOf w t bay → IfSome bay.contents (HoldBlocks t w.set w.used) → Digested w 0 0 w t t bay bay
digested_none w t bay of_ held = record {
  writer = refl;
  grows = grows_none _ t bay (members_none (fragments_of t) w.set (entries_bytes w.geometry.k []) (λ index. refl));
  sum = refl;
  held = subst (λ n. IfSome bay.contents (HoldBlocks t w.set n)) (let e : w.used ≡ w.used + 0 = omega arith in e) held;
  of = of_;
  firm = refl;
  calls = no_rounds w.set bay.failed (point_at t bay);
}

pub digested_more : (w now next : Writer) (n blocks more : ℕ) (t t' t'' : Table) (old mid new : BayState) → IsSound old → IsSound mid → Digested w n blocks now t t' old mid
    → next ≡ now → Spreads now.set (entry_bytes now.geometry.k (digest_record now n)) t' t'' mid new → more ≡ blocks_of (digest_marker now n)
    → IfSome new.contents (HoldBlocks t'' now.set (now.used + blocks_in (first_digests now (n + 1)))) → new.moment ≤ mid.moment + live_of t' now.set → Digested w (n + 1) (blocks + more) next t t'' old new
digested_more w now next n blocks more t t' t'' old mid new sound sound' d is spread more_is held few =
    let spread' : Spreads w.set (entry_bytes w.geometry.k (digest_record w n)) t' t'' mid new = subst (λ (v : Writer). Spreads v.set (entry_bytes v.geometry.k (digest_record v n)) t' t'' mid new) d.writer spread in
    let step = digests_blocks-more w n in
    let size : more ≡ blocks_of (digest_marker w n) = more_is ∙ ap (λ (v : Writer). blocks_of (digest_marker v n)) d.writer in
    let was = d.sum in
    record {
      writer = is ∙ d.writer;
      grows = grows_more w.set (entries_bytes w.geometry.k (first_digests w n)) (entry_bytes w.geometry.k (digest_record w n)) (entries_bytes w.geometry.k (first_digests w (n + 1))) t t' t'' old mid new sound sound' d.grows spread'.grows
          (λ index. sym (entries-more w.geometry.k (first_digests w n) (digest_record w n) index) ∙ ap (λ (es : List Entry). entries_bytes w.geometry.k es index) (sym (digests-more w n)));
      sum = omega (arith, step, size, was);
      held = subst (λ (v : Writer). IfSome new.contents (HoldBlocks t'' v.set (v.used + blocks_in (first_digests v (n + 1))))) d.writer held;
      of = of_now w w t' t'' mid new refl spread'.grows.table spread'.grows.leads.toward.goes_on.same_shape d.of;
      firm = spread'.firm ∙ d.firm;
      calls = in_rounds_then w.set n 1 (n + 1) t t' t'' old mid new refl spread'.grows.leads.toward.goes_on.keeps_failed d.calls
          (one_round w.set _ t' t'' mid new spread'.grows.table spread'.grows.leads (subst (λ (v : Writer). new.moment ≤ mid.moment + live_of t' v.set) d.writer few));
    }

-- they are within the zones
pub digested_fits : (w : Writer) (n : ℕ) → CanDigest w → n ≤ parts_of w → w.used + blocks_in (first_digests w n) + 2 ≤ w.geometry.blocks
digested_fits w n can within = let most = digests_most w can n within in let all = can.blocks in omega (arith, most, all)
