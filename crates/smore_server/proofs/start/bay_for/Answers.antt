use Rattle.std.proofs.Common.{inl, inr, ap, sym, subst, ◌∙◌}
use Rattle.bay_files.specs.Counts.{shape_in}
use Rattle.smore_base.specs.Geometry.{first_fault}
use Rattle.smore_top.specs.Words.{Spell, RefusedFor}
use Rattle.smore_top.specs.declared.command.Command.TheVariants.{Format, Batch}
use Rattle.smore_base.proofs.GeometryLaws.{within_first}
use Rattle.smore_server.proofs.Options.{at_none}
use Rattle.smore_server.proofs.start.bay_for.Goals as goal
use Rattle.smore_server.proofs.start.bay_for.Goals.{in-Format, in-Batch}

pub returns-in-Err-Words : goal.returns-in-Err-Words
returns-in-Err-Words g c =
    let none = subst (λ fault. RefusedFor fault c.args.words.now) c.in-Err-Words.field-0-is c.in-Err-Words.ensures in
    record {
      shape = λ shape is. elim is [
        | inl batch ↦ absurd (none (Batch batch.0) (batch.1, batch.2))
        | inr new ↦ absurd (none (Format new.1.folder new.0.geometry new.0.id) (new.1.spelled, new.1.no_option, new.1.id, new.1.geometry))
      ];
    }

pub returns : goal.returns
returns g c = elim c.match-command-2.branch [
  | in-Format w ↦
      let spelled = subst (Spell c.args.words.now) w.in-Format.is c.in-Ok.ensures in
      let fresh = at_none (first_fault w.in-Format.geometry) _ _ (within_first w.in-Format.geometry spelled.3.within) w.create.ensures.fresh in
      let shape_is = ap (λ bay. shape_in bay.line) w.result-is ∙ fresh.has_shape in
      record {
        shape = λ shape is. inr (
          record { geometry = w.in-Format.geometry; id = w.in-Format.array },
          record { folder = _; spelled = spelled.0; no_option = spelled.1; id = spelled.2; geometry = spelled.3 },
          record { devices = sym (ap (λ s. s.devices) shape_is); zones = sym (ap (λ s. s.zones) shape_is); blocks = sym (ap (λ s. s.blocks) shape_is) },
        );
      }
  | in-Batch w ↦
      let spelled = subst (Spell c.args.words.now) w.in-Batch.is c.in-Ok.ensures in
      record { shape = λ shape is. inl (_, spelled.0, spelled.1) }
]
