use Rattle.std.proofs.Common.{◌∙◌, ◌++◌, ◌∷◌, [], ap, map, List, Bor, None, Ok, sym}
use Rattle.ndc_event.specs.declared.batch.Event.{Event}
use Rattle.std.specs.Prelude.{option_to_list}
use Rattle.ndc_model_cells.specs.Writing.{alone, first_batch, reset_refused}
use Rattle.ndc_reset.specs.Reset.{reset_of}
use Rattle.ndc_shard_entries.proofs.ResetLemmas.{reset-written}
use Rattle.ndc_shard_entries.proofs.reset.reset_entries.Goals as goal

-- src/reset.rt:28:1
pub returns : goal.returns
returns c =
    let a = c.args in
    let closing = option_to_list c.in_ok-closing.closing in
    let kinds = c.in_ok-kinds.kinds.items in
    let planned = ap (λ (l : List (Bor Event)). reset_refused (reset_of (map (λ e. e.now) l) c.in-Some.tip.batch.now.run a.event a.limit)) (sym c.as_slice.ensures.value) ∙ c.in_ok-kinds.ensures in
    let new = c.alone.ensures ∙ ap alone (c.in_ok-batch.ensures ∙ ap (λ key. first_batch a.domain.now a.workflow.now key None kinds) c.reset_key-key.ensures) in
    reset-written a.domain.now a.workflow.now a.event a.limit a.version a.runs.now c.in-Some.tip.batch.now c.in-Some.tip.state.now c.in-Some.ensures.0 c.in-Some.ensures.1
    c.next_key-key.result c.next_key-key.ensures (map (λ e. e.now) c.in_ok-history.history.items) kinds closing c.in_ok-history.ensures planned c.in_ok-closing.ensures
    ∙ sym (ap Ok (c.in_ok-entries.ensures ∙ ap (λ entry. closing ++ entry ∷ []) new))
