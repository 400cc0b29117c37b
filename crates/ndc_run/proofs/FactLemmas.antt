-- What the state of a run tells of its current branch.
use Rattle.std.proofs.Common.{◌≡◌, ℕ, ◌+◌, true, ◌==◌, List, [], ◌∷◌, length, Option, Some, None, IsOk, refl, sym, ◌∙◌, subst, ap, arith}
use Rattle.std.proofs.lemmas.Bool.{and_parts, eqb-true}
use Rattle.ndc_event.specs.Batch.{follow_from}
use Rattle.ndc_event.specs.declared.batch.Batch.{Batch}
use Rattle.ndc_event.specs.declared.batch.Event.{Event}
use Rattle.ndc_event.specs.declared.key.RunId.{RunId}
use Rattle.ndc_state.specs.Laws.{IsOpenFit}
use Rattle.ndc_state.specs.Replay.{replay_of}
use Rattle.ndc_state.specs.Value.{new_state}
use Rattle.ndc_state.proofs.LawProofs.{open_fit}
use Rattle.ndc_model_sets.proofs.ViewLaws.{replay-signals}
use Rattle.ndc_model_sets.specs.Branches.{current_tip}
use Rattle.ndc_model_sets.specs.Current.{current_state, state_at, state_to, origins_at}
use Rattle.ndc_model_sets.specs.Paths.{last_id, events_to, path_to}
use Rattle.ndc_model_sets.specs.Sets.{Has}
use Rattle.ndc_model_sets.specs.Sound.{PathsReplay, VersionsAreChains}
use Rattle.ndc_model_sets.proofs.PathIds.{ends, AreEventsTo, path-events}
use Rattle.ndc_tree.proofs.PathLemmas.{path_is, versions_are_chains}
use Rattle.ndc_run.specs.Run.{IsRun}
use Rattle.ndc_run.proofs.LearnLemmas.{tip-has}
use Rattle.ndc_run.proofs.StateLemmas.{path-state, path-next}

pub chains : (run : RunId) (batches : List Batch) → IsRun run batches → VersionsAreChains batches
chains run batches r = versions_are_chains run batches r.tree

pub replays : (run : RunId) (batches : List Batch) → IsRun run batches → PathsReplay batches
replays run batches r b has = subst (λ (i : RunId). IsOk (replay_of i (events_to b.key batches))) (sym (r.tree.runs b has)) (r.replays b has)

-- events that count from a number end with that many more
follow-length : (id : ℕ) (events : List Event) → follow_from id events ≡ true → ends id events ≡ id + length events
follow-length id [] f = omega arith
follow-length id (e ∷ es) f =
    let p = and_parts (e.id == id + 1) (follow_from e.id es) f in
    follow-length e.id es p.1 ∙ (let own : e.id ≡ id + 1 = eqb-true e.id (id + 1) p.0 in omega (arith, own))

pub next_behind : (run : RunId) (batches : List Batch) (tip : Batch) → IsRun run batches → current_tip run batches ≡ Some tip → (current_state run batches).next ≡ last_id tip.events + 1
next_behind run batches tip r e =
    let has : Has batches tip = tip-has run batches tip r.tree e in
    let a : AreEventsTo tip (events_to tip.key batches) = path-events batches tip (path_to tip.key batches) r.tree.faultless r.tree.parents (path_is run batches r.tree tip has) in
    ap (λ o. (state_at run o batches).next) e ∙ path-next run batches tip r has
    ∙ ap (λ n. n + 1) (sym (follow-length 0 (events_to tip.key batches) a.follow ∙ zero-plus (length (events_to tip.key batches))) ∙ a.end)
  where
    zero-plus : (n : ℕ) → 0 + n ≡ n
    zero-plus n = omega arith

pub open_until_closed : (run : RunId) (batches : List Batch) → IsRun run batches → IsOpenFit (current_state run batches)
open_until_closed run batches r = by (current_tip run batches) refl
  where
    by : (o : Option Batch) → current_tip run batches ≡ o → IsOpenFit (state_at run o batches)
    by None e = refl
    by (Some tip) e = open_fit run (events_to tip.key batches) (state_to run tip.key batches) (path-state run batches tip r (tip-has run batches tip r.tree e))

pub path_origins : (run : RunId) (batches : List Batch) → IsRun run batches → (current_state run batches).origins ≡ origins_at run (current_tip run batches) batches
path_origins run batches r = by (current_tip run batches) refl
  where
    by : (o : Option Batch) → current_tip run batches ≡ o → (state_at run o batches).origins ≡ origins_at run o batches
    by None e = refl
    by (Some tip) e = replay-signals (new_state run) (state_to run tip.key batches) (events_to tip.key batches) (path-state run batches tip r (tip-has run batches tip r.tree e))
