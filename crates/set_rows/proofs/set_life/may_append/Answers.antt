use Rattle.std.proofs.Common.{ℕ, ◌+◌, ◌*◌, ◌≤◌, ap, subst, ◌∙◌}
use Rattle.smore_base.specs.declared.geometry.Geometry.{Geometry}
use Rattle.set_rows.proofs.AppendLaws.{same_bytes, appendable}
use Rattle.set_rows.proofs.set_life.may_append.Goals as goal

pub returns-then-marker-from : goal.returns-then-marker-from
returns-then-marker-from c formed =
    let same = c.geometry-geometry.ensures.same in
    appendable c.args.writer.now c.args.table.now c.args.marker.now c.args.body.now c.requires.array c.requires.code c.requires.widths (c.is_well_formed.ensures formed)
    (record {
      kind = c.is_known.ensures c.if-not-is_known.false;
      k = c.if-marker-geometry.false ∙ ap (λ (g : Geometry). g.k) same;
      n = c.if-marker-geometry-2.false ∙ ap (λ (g : Geometry). g.k + g.p) same;
      array = same_bytes c.args.marker.now.array c.array.result c.if-ne.ensures ∙ c.array.ensures;
      set_is = c.if-marker-set.false ∙ c.set.ensures;
      position_is = c.if-marker-records.false ∙ c.records.ensures;
      payload = c.if-marker-payload_len.false ∙ c.payload_len.ensures;
      most = subst (λ (g : Geometry). c.args.marker.now.payload ≤ g.k * g.shard) same
          (subst (λ (k : ℕ). c.args.marker.now.payload ≤ k * c.geometry-geometry.result.now.shard) c.from.ensures c.if-marker-from.true);
    })
