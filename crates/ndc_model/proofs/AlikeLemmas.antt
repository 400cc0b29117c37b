-- Clusters that have learned the same answer alike.
use Rattle.std.proofs.Common.{◌≡◌, Bool, true, ◌&&◌, List, [], ◌∷◌, codes, if◌then◌else◌, refl, ap, ◌∙◌}
use Rattle.std.proofs.lemmas.Bool.{or_right}
use Rattle.std.proofs.lemmas.Slice.Eq.{bytes_eq-Decides}
use Rattle.ndc_domain.specs.declared.clusters.ClusterNo.{ClusterNo}
use Rattle.ndc_event.specs.declared.batch.Batch.{Batch}
use Rattle.ndc_event.specs.declared.name.Name.{Name}
use Rattle.ndc_script_types.specs.declared.script.Act.TheVariants as act
use Rattle.ndc_script_types.specs.declared.script.Header.{Header}
use Rattle.ndc_model_sets.specs.View.{view_of}
use Rattle.ndc_text.specs.Views.{dump_text}
use Rattle.ndc_model.specs.Lines.{act_step}
use Rattle.ndc_model.specs.Reading.{branches_answer, compare_answer, current_answer, dump_answer, history_answer, is_nothing, learned_at, read_answer, shows_same, state_answer}
use Rattle.ndc_model.specs.Texts.{ok}
use Rattle.ndc_model.specs.World.{World}

module _ (header : Header) (one two : ClusterNo) (domain workflow : Name) (w : World) (same : learned_at header one domain workflow w ≡ learned_at header two domain workflow w) where
  pub history_alike : (act_step header (act.History one domain workflow) w).answer ≡ (act_step header (act.History two domain workflow) w).answer
  unfolding act_step
  history_alike = ap (read_answer history_answer) same

  pub branches_alike : (act_step header (act.Branches one domain workflow) w).answer ≡ (act_step header (act.Branches two domain workflow) w).answer
  unfolding act_step
  branches_alike = ap (read_answer branches_answer) same

  pub current_alike : (act_step header (act.Current one domain workflow) w).answer ≡ (act_step header (act.Current two domain workflow) w).answer
  unfolding act_step
  current_alike = ap (read_answer current_answer) same

  pub state_alike : (act_step header (act.StateOf one domain workflow) w).answer ≡ (act_step header (act.StateOf two domain workflow) w).answer
  unfolding act_step
  state_alike = ap (read_answer state_answer) same

  pub dump_alike : (act_step header (act.Dump one domain workflow) w).answer ≡ (act_step header (act.Dump two domain workflow) w).answer
  unfolding act_step
  dump_alike = ap (read_answer (dump_answer domain workflow)) same

-- a cluster shows the same as itself
shows_same-self : (domain workflow : Name) (batches : List Batch) → shows_same domain workflow batches batches ≡ true
shows_same-self domain workflow batches =
    or_right (is_nothing batches && is_nothing batches) _ ((bytes_eq-Decides (dump_text domain workflow (view_of batches)) (dump_text domain workflow (view_of batches))).1 refl)

pub compare_same : (header : Header) (one two : ClusterNo) (domain workflow : Name) (w : World) → learned_at header one domain workflow w ≡ learned_at header two domain workflow w
    → (act_step header (act.Compare one two domain workflow) w).answer ≡ ok (codes "same" ∷ [])
unfolding act_step
compare_same header one two domain workflow w same =
    ap (λ batches. compare_answer domain workflow batches (learned_at header two domain workflow w)) same
    ∙ ap (λ (b : Bool). ok ((if b then codes "same" else codes "differ") ∷ [])) (shows_same-self domain workflow (learned_at header two domain workflow w))
