use Rattle.std.proofs.Common.{◌≡◌, ℕ, ◌<◌, get_or, arith, true, sym, ap, ◌∙◌, subst, List, drop}
use Rattle.std.specs.Int.{w32}
use Rattle.std.proofs.lemmas.List.{length-take, length-drop}
use Rattle.smore_base.proofs.BigEndianLaws.{exact32, number_at-fits}
use Rattle.marker_format.specs.Frame.{HasFrame}
use Rattle.marker_format.specs.Marker.{IsPadded, is_well_formed, marker_at}
use Rattle.marker_format.proofs.MarkerLaws.{magic, marker_at-spelled, marker_at-again, spelling_of-frame, spelling_of-padded}
use Rattle.marker_format.proofs.MarkerRules.{IsMarker-from, is_well_formed-true}
use Rattle.marker_format.proofs.marker.read_marker.Goals as goal
use Rattle.marker_format.proofs.marker.read_marker.Goals.{then-not-has_frame-via-then-not-has_frame, then-not-has_frame-via-else-not-has_frame+then-not-is_padded}

pub returns-then-not-has_frame-clause-none : goal.returns-then-not-has_frame-clause-none
returns-then-not-has_frame-clause-none c m is e =
    elim c.then-not-has_frame.branch [
      | then-not-has_frame-via-then-not-has_frame w ↦
          let framed = c.has_frame.ensures.1 (subst (λ (bytes : List ℕ). HasFrame magic 328 bytes) (sym e) (spelling_of-frame m is)) in absurd (cc (framed, w.if-not-has_frame.true))
      | then-not-has_frame-via-else-not-has_frame+then-not-is_padded w ↦
          let padded = w.is_padded.ensures.1 (subst IsPadded (sym e) (spelling_of-padded m is)) in absurd (cc (padded, w.if-not-is_padded.true))
    ]

pub returns-then-not-is_well_formed-clause-none : goal.returns-then-not-is_well_formed-clause-none
returns-then-not-is_well_formed-clause-none c m is e =
    let same : c.marker_of-marker.result ≡ m = c.marker_of-marker.ensures ∙ ap marker_at e ∙ marker_at-again m is in
    let formed : c.is_well_formed.result ≡ true = c.is_well_formed.ensures ∙ ap is_well_formed same ∙ is_well_formed-true m is in
    absurd (cc (formed, c.if-not-is_well_formed.true))

pub returns-clause-found : goal.returns-clause-found
returns-clause-found c =
    let bytes = c.args.bytes.now in
    let bytes_fit : (i : ℕ) → get_or bytes i 0 < 256 = λ i. omega (arith, c.type_inv.bytes i) in
    let frame = c.has_frame.ensures.0 c.if-not-has_frame.false in
    let padded = c.is_padded.ensures.0 c.if-not-is_padded.false in
    let read = c.marker_of-marker.ensures in
    let formed = ap is_well_formed (sym read) ∙ sym c.is_well_formed.ensures ∙ c.if-not-is_well_formed.false in
    let is = IsMarker-from (marker_at bytes) (record {
      part_to = number_at-fits w32 bytes 40 exact32 bytes_fit;
      parts_to = number_at-fits w32 bytes 44 exact32 bytes_fit;
      length_to = number_at-fits w32 bytes 48 exact32 bytes_fit;
      payload_to = number_at-fits w32 bytes 52 exact32 bytes_fit;
      array = omega (arith, length-take 16 (drop 56 bytes), length-drop 56 bytes, frame.0);
    }) formed in
    rw read (is, marker_at-spelled bytes bytes_fit frame padded)
