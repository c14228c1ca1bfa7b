use Rattle.array_model.proofs.Carriers.{no_carrier_comes, carrier_stays, no_more_carriers}
use Rattle.array_model.proofs.reading_laws.carriers_stay.Goals as goal

pub returns-clause-none : goal.returns-clause-none
returns-clause-none c = no_carrier_comes

pub returns-clause-stays : goal.returns-clause-stays
returns-clause-stays c = carrier_stays

pub returns-clause-fewer : goal.returns-clause-fewer
returns-clause-fewer c = no_more_carriers
