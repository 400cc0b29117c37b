use Rattle.ndc_laws_cells.proofs.PastLemmas.{events_are_one}
use Rattle.ndc_laws_cells.proofs.write_laws.an_event_has_one_content_and_one_past.Goals as goal

pub returns : goal.returns
returns c = events_are_one
