use Rattle.std.proofs.Common.{◌∙◌, ap, sym}
use Rattle.indexmap.specs.IndexMap.{insert_entry}
use Rattle.ndc_event.specs.Key.{key_eq}
use Rattle.ndc_rebuild.specs.Kept.{reaches}
use Rattle.ndc_rebuild.proofs.PathLemmas.{with_kept-reached}
use Rattle.ndc_rebuild.proofs.checkpoints.Checkpoints.keep_marked.Goals as goal

-- the copy is kept, since the batch reaches a multiple
pub returns-clause-states : goal.returns-clause-states
returns-clause-states c =
    rw (← c.self.view_is)
    (c.in_ok-insert.ensures.entries ∙ ap (insert_entry key_eq c.self.inside.states.entries c.args.tip) c.in_ok-copy.ensures
    ∙ with_kept-reached c.args.tip c.args.events c.args.state.now.current c.self.inside.states.entries (ap (reaches c.args.events) (sym c.next.ensures) ∙ sym c.reaches.ensures ∙ c.if-not-reaches.false))
