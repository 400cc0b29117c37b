use Rattle.std.proofs.Common.{◌≡◌, ◌∙◌, ◌∷◌, ◌++◌, [], List, Ok, ap, subst}
use Rattle.ndc_event.specs.declared.batch.Batch.{Batch}
use Rattle.ndc_state.specs.Replay.{history_of, replay_of}
use Rattle.ndc_rebuild.specs.Kept.{Kept, with_kept}
use Rattle.ndc_rebuild.proofs.PathLemmas.{FitsPath-this}
use Rattle.ndc_tests_base.proofs.rebuild.restored_from_kept.Goals as goal

-- the one batch was kept with its own state, or not at all
pub restore-requires-clause-kept : goal.restore-requires-clause-kept
restore-requires-clause-kept c =
    let b = c.in_ok-batch.batch in
    let items : c.push.new.self.items ≡ b ∷ [] = c.in_ok-push.ensures.items ∙ ap (λ (l : List Batch). l ++ b ∷ []) c.new-path.ensures.items in
    FitsPath-this c.keep.new.self c.as_slice-2.result.now (record { value = 18446744073709551617 }) b c.from.result c.in-Ok.state
    (c.as_slice-2.ensures.value ∙ items) (c.keep.ensures.run ∙ ap (λ (k : Kept). k.run) c.new-kept.ensures)
    (c.in_ok-keep.ensures.states ∙ ap (λ (k : Kept). with_kept b.key c.from.result c.in-Ok.state k.states) c.new-kept.ensures)
    (subst (λ (l : List Batch). replay_of (record { value = 18446744073709551617 }) (history_of l) ≡ Ok c.in-Ok.state) (c.as_slice.ensures.value ∙ items) c.in-Ok.ensures.answer)
