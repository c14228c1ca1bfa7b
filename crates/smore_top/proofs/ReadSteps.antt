-- Reading a request: its length, and then its body.
use Rattle.std.proofs.Common.{◌≡◌, ℕ, ◌<◌, ◌≤◌, List, ◌++◌, length, take, Option, Some, None, Ok, Err, arith, sym, ap, subst, ◌∙◌, append_assoc, length-append, length-take}
use Rattle.std.specs.Int.{w32, to_be_bytes, from_be_bytes}
use Rattle.std.proofs.lemmas.List.{take_all}
use Rattle.smore_base.specs.Told.{Told}
use Rattle.zone_bay.specs.declared.failed.Failed.{Failed}
use Rattle.smore_base.proofs.Told.{Told-then}
use Rattle.smore_top.specs.declared.request.Request.{Request}
use Rattle.object_machine.specs.Coding.{Coding}
use Rattle.smore_top.specs.declared.end.End.TheVariants.{NoMemory, SourceFailed, BadFrame}
use Rattle.smore_top.specs.declared.frame_numbers.TheConstants.{MAX_BODY_BYTES}
use Rattle.smore_top.specs.Frames.{IsSpelledBy, StartsNoFrame}
use Rattle.smore_top.specs.Reading.{request_in}
use Rattle.smore_top.specs.Streams.{Fills}
use Rattle.smore_top.specs.Answering.{TakesLast, ReadsRequest}
use Rattle.smore_top.proofs.FrameLaws.{none_part, none_body, whole_frame}

-- the four bytes of the length were taken
after_header : (header before mid : List ℕ) (count : ℕ) → length header ≡ 4 → 4 ≤ count → before ≡ take count header ++ mid → before ≡ header ++ mid
after_header header before mid count four whole is = is ∙ ap (λ (l : List ℕ). l ++ mid) (take_all count header (omega (arith, four, whole)))

-- so were bytes of the body
after_part : (header part before mid after : List ℕ) → before ≡ header ++ mid → mid ≡ part ++ after → before ≡ (header ++ part) ++ after
after_part header part before mid after first then = first ∙ ap (λ (l : List ℕ). header ++ l) then ∙ sym (append_assoc header part after)

-- no frame stands at the front of what was left
bad_frame : (coding : Coding) (more before after : List ℕ) → before ≡ more ++ after → StartsNoFrame coding before → 0 < length before → TakesLast coding BadFrame before after
bad_frame coding more before after is none some = (more, is, (subst (StartsNoFrame coding) is none, subst (λ (l : List ℕ). 0 < length l) is some))

module _ (coding : Coding) (left0 left1 left2 : Option (List ℕ)) (header buffer : List ℕ) (count room : ℕ) (four : length header ≡ 4) (whole : 4 ≤ count) (long : room ≡ from_be_bytes w32 header) (first : Told left0 left1 (Fills {E = Failed} 4 (Ok count) header)) where
  -- the source failed within the body
  pub read_failed : (e : Failed) → Told left1 left2 (Fills room (Err e) buffer) → Told left0 left2 (ReadsRequest coding (Err SourceFailed))
  read_failed e then = Told-then left0 left1 left2 _ _ _ first then (λ before mid after p q.
      let head = after_header header before mid count four whole p.0 in
      (header ++ q.0, after_part header q.0 before mid after head q.1, none_part coding header q.0 four (omega (arith, q.2, long))))

  -- the body ends too early
  pub read_cut : (got : ℕ) → got < room → Told left1 left2 (Fills {E = Failed} room (Ok got) buffer) → Told left0 left2 (ReadsRequest coding (Err BadFrame))
  read_cut got short then = Told-then left0 left1 left2 _ _ _ first then (λ before mid after p q.
      let head = after_header header before mid count four whole p.0 in
      let ended = q.1 short in
      let little : length mid < from_be_bytes w32 header = omega (arith, ap length q.0, length-append (take got buffer) after, length-take got buffer, ap length ended, long, short) in
      bad_frame coding (header ++ take got buffer) before after (after_part header (take got buffer) before mid after head q.0)
      (subst (StartsNoFrame coding) (sym head) (none_part coding header mid four little)) (omega (arith, ap length head, length-append header mid, four)))

  module _ (got : ℕ) (body : List ℕ) (enough : room ≤ got) (size : length buffer ≡ room) (is : body ≡ buffer) (then : Told left1 left2 (Fills {E = Failed} room (Ok got) buffer)) where
    taken : (mid after : List ℕ) → mid ≡ take got buffer ++ after → mid ≡ body ++ after
    taken mid after q = q ∙ ap (λ (l : List ℕ). l ++ after) (take_all got buffer (omega (arith, size, enough)) ∙ sym is)

    -- no memory for the request
    pub read_without_memory : Told left0 left2 (ReadsRequest coding (Err NoMemory))
    read_without_memory = Told-then left0 left1 left2 _ _ _ first then (λ before mid after p q.
        (header ++ body, after_part header body before mid after (after_header header before mid count four whole p.0) (taken mid after q.0), tt))

    -- the body spells no request
    pub read_bad : request_in coding body ≡ None → Told left0 left2 (ReadsRequest coding (Err BadFrame))
    read_bad none = Told-then left0 left1 left2 _ _ _ first then (λ before mid after p q.
        let head = after_header header before mid count four whole p.0 in
        let all = taken mid after q.0 in
        let spelled : before ≡ header ++ (body ++ after) = head ∙ ap (λ (l : List ℕ). header ++ l) all in
        bad_frame coding (header ++ body) before after (after_part header body before mid after head all)
        (subst (StartsNoFrame coding) (sym spelled) (none_body coding header body after four (ap length is ∙ size ∙ long) none)) (omega (arith, ap length head, length-append header mid, four)))

    -- it spells this request
    pub read_request_of : (r : Request) (n : ℕ) → to_be_bytes w32 n ≡ header → room ≡ n → room ≤ MAX_BODY_BYTES → IsSpelledBy coding body r → Told left0 left2 (ReadsRequest coding (Ok (Some r)))
    read_request_of r n head size_is small found = Told-then left0 left1 left2 _ _ _ first then (λ before mid after p q. (
      header ++ body,
      after_part header body before mid after (after_header header before mid count four whole p.0) (taken mid after q.0),
      whole_frame coding header body r n head (ap length is ∙ size ∙ size_is) (omega (arith, ap length is, size, small)) found,
    ))
