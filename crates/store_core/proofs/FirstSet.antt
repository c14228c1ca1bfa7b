-- The head and the ready record that a set begins with.
use Rattle.std.proofs.Common.{◌≡◌, ℕ, ◌<◌, ◌≤◌, Bool, false, List, [], length, take, drop, Option, IfSome, refl, sym, ap, ◌∙◌, arith, bytes_eq}
use Rattle.std.specs.Prelude.{◌↔◌, IsTrue}
use Rattle.std.proofs.lemmas.List.{length-append, take_all}
use Rattle.std.proofs.lemmas.Slice.Eq.{bytes_eq-Decides}
use Rattle.smore_base.proofs.Told.{IfSome-both}
use Rattle.zone_bay.specs.Contents.{Contents}
use Rattle.marker_format.specs.Marker.{IsMarker}
use Rattle.marker_format.specs.Block.{marker_block}
use Rattle.marker_format.specs.Zone.{Array}
use Rattle.marker_format.proofs.BlockLaws.{length-marker_block}
use Rattle.store_core.specs.Records.{IsPlace, next_place}
use Rattle.marker_format.specs.Fragment.{record_bytes}
use Rattle.store_core.specs.Zone.{first_place, first_head, first_ready, opening_bytes}
use Rattle.store_core.specs.Opening.{BeginsSet}
use Rattle.store_core.proofs.OwnMarkers.{head_is, ready_is}

module _ (array : Array) (id : length array.id ≡ 16) where
  place : IsPlace (first_place array)
  place = record { set_from = omega arith; set_to = omega arith; index = omega arith; position = omega arith; array = id }

  next : IsPlace (next_place (first_place array))
  next = record { set_from = omega arith; set_to = omega arith; index = omega arith; position = omega arith; array = id }

  pub first_head-is : IsMarker (first_head array)
  first_head-is = head_is (first_place array) place refl

  pub first_ready-is : IsMarker (first_ready array)
  first_ready-is = ready_is (next_place (first_place array)) next

  pub length-opening_bytes : length (opening_bytes array) ≡ 1024
  length-opening_bytes =
      omega (arith, length-append (record_bytes (first_head array) []) (record_bytes (first_ready array) []), length-append (marker_block (first_head array)) [], length-append (marker_block (first_ready array)) [], length-marker_block (first_head array) first_head-is, length-marker_block (first_ready array) first_ready-is)

-- ---- whether a zone begins with a first part of them

module _ (contents : Option Contents) (array : Array) (first : List ℕ) (written : ℕ) (is : first ≡ opening_bytes array) (long : length first ≡ 1024) (size : IfSome contents (λ held. length (held 0 2) ≡ written)) where
  -- too much is written
  pub none_begins : 1024 ≤ written → IfSome contents (λ held. IsTrue false ↔ BeginsSet array (held 0 2))
  none_begins more = IfSome-both contents _ _ _ size size (λ held n n'. (λ t. absurd cc, λ begins. absurd (omega (arith, n, more, begins.less, ap length is, long))))

  -- the bytes that were found are those that they begin with
  pub begins_told : (b : Bool) (x y found : List ℕ) → b ≡ bytes_eq x y → x ≡ found → y ≡ take written first → written < 1024 → length found ≡ written → IfSome contents (λ held. found ≡ take (length found) (drop 0 (held 0 2))) → IfSome contents (λ held. IsTrue b ↔ BeginsSet array (held 0 2))
  begins_told b x y found test from to few all read = IfSome-both contents _ _ _ size read (λ held n got.
      let bytes : List ℕ = held 0 2 in
      let whole : found ≡ bytes = got ∙ take_all (length found) bytes (omega (arith, all, n)) in
      let want : y ≡ take (length bytes) (opening_bytes array) = to ∙ ap (λ k. take k first) (sym n) ∙ ap (take (length bytes)) is in (
        λ t. record {
          part = sym (from ∙ whole) ∙ (bytes_eq-Decides x y).0 (sym test ∙ t) ∙ want;
          less = omega (arith, n, few, ap length is, long);
        },
        λ begins. test ∙ (bytes_eq-Decides x y).1 (from ∙ whole ∙ begins.part ∙ sym want),
      ))
