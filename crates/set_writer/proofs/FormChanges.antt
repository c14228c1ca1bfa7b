-- What stays of a set where another one is formed.
use Rattle.std.proofs.Common.{◌≡◌, ℕ, inl, inr, refl, sym, ◌∙◌}
use Rattle.set_table.specs.declared.zone_use.ZoneUse.TheVariants.{Empty, Carrier}
use Rattle.set_writer.specs.TableLaws.{FormKeepsSet}
use Rattle.set_writer.proofs.FormedLaws.{from_empty, same_live, same_array}
use Rattle.set_writer.proofs.KeptSets.{formed_uses}

empty_carries_none : (set' index : ℕ) → Empty ≡ Carrier set' index → ⊥
empty_carries_none set' index e = cc

pub form_keeps : FormKeepsSet
form_keeps set' other members t t' differ forms = record {
  zones = record {
    array = same_array t t' other members forms;
    live = λ d live. sym (same_live t t' other members forms d) ∙ live;
    stay = λ d z index _ is. (formed_uses t t t' other members refl forms d z set' index (λ e. differ (sym e))).1 is;
    no_more = λ d z index _ is. (formed_uses t t t' other members refl forms d z set' index (λ e. differ (sym e))).0 is;
  };
  empty = λ held d z live is. elim (from_empty t t' other members forms d z) [
    | inl was ↦ absurd (empty_carries_none other was.1 (sym is ∙ was.2))
    | inr same ↦ inl (sym same ∙ is)
  ];
}
