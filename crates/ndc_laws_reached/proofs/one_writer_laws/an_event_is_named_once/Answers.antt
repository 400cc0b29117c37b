use Rattle.ndc_laws_reached.proofs.OneWriterLemmas.{one_event}
use Rattle.ndc_laws_reached.proofs.one_writer_laws.an_event_is_named_once.Goals as goal

pub returns : goal.returns
returns c = one_event
