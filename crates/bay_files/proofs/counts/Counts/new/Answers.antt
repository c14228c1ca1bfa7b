use Rattle.std.proofs.Common.{◌≡◌, ℕ, ◌≤◌, List, inl, inr, refl, subst, get_or, replicate, arith}
use Rattle.std.proofs.lemmas.Bool.{cases_lt}
use Rattle.std.proofs.lemmas.List.{get_or-replicate, get_or_past}
use Rattle.zone_bay.specs.Outside.{last}
use Rattle.bay_files.specs.declared.counts.TheConstants.{MAX_DEVICES}
use Rattle.bay_files.proofs.counts.Counts.new.Goals as goal

abbrev zeros : List ℕ
zeros = replicate MAX_DEVICES 0

all_zero : (d : ℕ) → ◌≡◌ {A = ℕ} (get_or zeros d 0) 0
all_zero d = elim (cases_lt d MAX_DEVICES) [ inl within ↦ get_or-replicate MAX_DEVICES d 0 0 within | inr past ↦ get_or_past zeros d 0 past ]

pub returns : goal.returns
returns c = record {
  fresh = λ line few. record {
    has_shape = refl;
    no_calls = refl;
    no_reads = refl;
    no_faults = all_zero;
    none_failed = λ d m within has. subst (λ first. first ≤ m) (get_or-replicate MAX_DEVICES d last 0 (omega (arith, within, few))) has;
  };
}
