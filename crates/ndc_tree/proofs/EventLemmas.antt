-- The last of a batch's events.
pub use Rattle.ndc_model_sets.proofs.EventLemmas.{last-id-at}
