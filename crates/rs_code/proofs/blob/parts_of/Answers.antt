use Rattle.std.proofs.Common.{◌≡◌, ◌≢◌, [], ◌∷◌, ◌++◌, length, drop, refl, sym, ap, ◌∙◌, arith, subst}
use Rattle.std.proofs.lemmas.List.{take-append-drop, append-nil, nil_from_length}
use Rattle.std.proofs.lemmas.Bool.{eqb-true, eqb-false}
use Rattle.rs_code.specs.Coded.{CodedPayload}
use Rattle.rs_code.specs.Blob.{joined}
use Rattle.rs_code.proofs.Parts.{AreWhole, whole_more, all_whole, last_more, part_added}
use Rattle.rs_code.proofs.blob.parts_of.Goals as goal
use Rattle.rs_code.proofs.blob.parts_of.Goals.{then-not-is_empty+in_ok-of-2+in_ok-push-2, else-not-is_empty}

pub loop-rest-preserved : goal.loop-rest-preserved
loop-rest-preserved c =
    let code = c.args.code.now in
    let kept = c.loop-rest.invariant in
    let rest = c.loop-rest.rest.now in
    let part = c.split_at.result.0.now in
    let later = c.split_at.result.1.now in
    let coded = c.in_ok-of.field-0 in
    let new = c.push.new.self.items in
    let cut : rest ≡ part ++ later = sym (take-append-drop c.args.size rest) ∙ ap (λ xs. xs ++ drop c.args.size rest) (sym c.split_at.ensures.front) ∙ ap (λ xs. part ++ xs) (sym c.split_at.ensures.back) in
    let more = part_added code.k code.p c.loop-rest.parts.items new coded part later rest c.args.bytes.now
    c.in_ok-push.ensures.items c.in_ok-of.ensures cut kept.all_bytes kept.code in
    record {
      all_bytes = more.0;
      code = more.1;
      whole =
          subst (AreWhole c.args.size) (sym c.in_ok-push.ensures.items)
          (whole_more c.args.size c.loop-rest.parts.items coded kept.whole
          (ap (λ (c : CodedPayload). length c.payload) c.in_ok-of.ensures ∙ c.split_at.ensures.front_len));
    }

pub returns : goal.returns
returns c =
    let code = c.args.code.now in
    let kept = c.loop-rest.invariant in
    let rest = c.loop-rest.rest.now in
    let old = c.loop-rest.parts.items in
    elim c.if-not-is_empty.branch [
      | then-not-is_empty+in_ok-of-2+in_ok-push-2 w ↦
          let last = w.in_ok-of-2.field-0 in
          let more = part_added code.k code.p old (old ++ last ∷ []) last rest [] rest c.args.bytes.now refl w.in_ok-of-2.ensures (sym (append-nil rest)) kept.all_bytes kept.code in
          let len = ap (λ (part : CodedPayload). length part.payload) w.in_ok-of-2.ensures in
          let some : length rest ≢ 0 = eqb-false (length rest) 0 (sym w.if-not-is_empty.ensures) in
          let few = c.loop-rest-test.false in
          rw (w.parts-is, w.in_ok-push-2.ensures.items) (record {
            all_bytes = sym (append-nil (joined (old ++ last ∷ []))) ∙ more.0;
            code = more.1;
            sizes = last_more c.args.size old last kept.whole (omega arith) (omega arith);
          })
      | else-not-is_empty w ↦
          let none : rest ≡ [] = nil_from_length rest (eqb-true (length rest) 0 (sym w.if-not-is_empty.ensures)) in
          rw w.parts-is (record {
            all_bytes = sym (append-nil (joined old)) ∙ ap (λ xs. joined old ++ xs) (sym none) ∙ kept.all_bytes;
            code = kept.code;
            sizes = all_whole c.args.size old (omega arith) kept.whole;
          })
    ]
