use Rattle.std.proofs.Common.{ap, arith, length}
use Rattle.std.proofs.lemmas.List.{length-append}
use Rattle.marker_format.proofs.ZoneLaws.{Begin-begun, begun-longest}
use Rattle.marker_format.proofs.laws.records_are_the_longest.Goals as goal

pub returns-clause-begin : goal.returns-clause-begin
returns-clause-begin c = Begin-begun

pub returns-clause-prefixes : goal.returns-clause-prefixes
returns-clause-prefixes c = begun-longest

pub returns-clause-longest : goal.returns-clause-longest
returns-clause-longest c = λ array bytes ms begin. let p = begun-longest array bytes ms begin in omega (arith, ap length p.1, length-append ms p.0)
