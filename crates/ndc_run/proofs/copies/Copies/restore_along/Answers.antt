use Rattle.std.proofs.Common.{◌≡◌, ◌∙◌, ap, map, sym, subst}
use Rattle.ndc_rebuild.specs.Kept.{Kept, FitsPath}
use Rattle.ndc_event.specs.declared.key.RunId.{RunId}
use Rattle.ndc_run.specs.CopiesFields.{IsKeptOf, states_in}
use Rattle.ndc_run.proofs.copies.Copies.restore_along.Goals as goal

-- what is in the box is what is kept
pub restore_along-requires-clause-kept : goal.restore_along-requires-clause-kept
restore_along-requires-clause-kept g c =
    let held = c.in-Some.held.value in
    let own : held.run ≡ c.self.inside.run = subst (IsKeptOf c.self.inside.run) c.in-Some.is c.self.invariant in
    let same : c.args.self.now ≡ held =
    sym c.self.view_is ∙ ap (λ o. record { run = c.self.inside.run; states = states_in o }) c.in-Some.is
    ∙ ap (λ (r : RunId). record { run = r; states = held.states }) (sym own) in
    subst (λ (k : Kept). FitsPath k (map (λ b. b.now) c.args.path.now)) (same ∙ sym c.deref.ensures) c.requires.kept
