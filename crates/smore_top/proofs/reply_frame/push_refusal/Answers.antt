use Rattle.std.proofs.Common.{◌≡◌, ℕ, List, [], ◌∷◌, ◌++◌, ap, ◌∙◌, append_assoc}
use Rattle.std.specs.Int.{w64, to_be_bytes}
use Rattle.smore_top.specs.Frames.{frame, frame_head, refusal_body}
use Rattle.smore_top.proofs.reply_frame.push_refusal.Goals as goal

written : (old first second third fourth : List ℕ) (fields : ℕ × ℕ × ℕ) → first ≡ old ++ frame_head 0 17 → second ≡ first ++ fields.0 ∷ [] → third ≡ second ++ to_be_bytes w64 fields.1 → fourth ≡ third ++ to_be_bytes w64 fields.2 → fourth ≡ old ++ frame (refusal_body fields)
written old first second third fourth fields a b c d =
    let one = to_be_bytes w64 fields.1 in
    let two = to_be_bytes w64 fields.2 in
    d
    ∙ ap (λ (l : List ℕ). l ++ two) (c ∙ ap (λ (l : List ℕ). l ++ one) (b ∙ ap (λ (l : List ℕ). l ++ fields.0 ∷ []) a))
    ∙ append_assoc ((old ++ frame_head 0 17) ++ fields.0 ∷ []) one two
    ∙ append_assoc (old ++ frame_head 0 17) (fields.0 ∷ []) (one ++ two)
    ∙ append_assoc old (frame_head 0 17) (fields.0 ∷ (one ++ two))

pub returns : goal.returns
returns c =
    written c.args.out.now.items c.push_head.new.out.items c.push.new.self.items c.extend_from_slice.new.self.items c.extend_from_slice-2.new.self.items c.fields_of-number.result c.in_ok-push_head.ensures c.in_ok-push.ensures.items (c.in_ok-extend_from_slice.ensures.items ∙ ap (λ (l : List ℕ). c.push.new.self.items ++ l) c.to_be_bytes.ensures) (c.in_ok-extend_from_slice-2.ensures.items ∙ ap (λ (l : List ℕ). c.extend_from_slice.new.self.items ++ l) c.to_be_bytes-2.ensures)
    ∙ ap (λ f. c.args.out.now.items ++ frame (refusal_body f)) c.fields_of-number.ensures
