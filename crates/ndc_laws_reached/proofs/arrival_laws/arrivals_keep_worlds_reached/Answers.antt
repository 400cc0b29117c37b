use Rattle.ndc_laws_reached.proofs.ArrivalLaws.{due_kept, flights_kept}
use Rattle.ndc_laws_reached.proofs.arrival_laws.arrivals_keep_worlds_reached.Goals as goal

pub returns-clause-flights : goal.returns-clause-flights
returns-clause-flights c = flights_kept

pub returns-clause-due : goal.returns-clause-due
returns-clause-due c = due_kept
