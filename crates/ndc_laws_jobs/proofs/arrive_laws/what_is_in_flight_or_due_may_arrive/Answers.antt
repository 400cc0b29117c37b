use Rattle.ndc_laws_jobs.proofs.ComeLemmas.{due_allowed, flights_allowed}
use Rattle.ndc_laws_jobs.proofs.arrive_laws.what_is_in_flight_or_due_may_arrive.Goals as goal

pub returns-clause-flights : goal.returns-clause-flights
returns-clause-flights c = flights_allowed

pub returns-clause-due : goal.returns-clause-due
returns-clause-due c = due_allowed
