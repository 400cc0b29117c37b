-- Handovers that are found, and worlds after them.
use Rattle.std.proofs.Common.{◌≡◌, Bool, true, false, List, [], ◌∷◌, Option, Some, find, length, is_some, refl, sym, ◌∙◌, ap, subst, if◌then◌else◌}
use Rattle.std.specs.Prelude.{codes}
use Rattle.std.specs.List.{AllByRecursion}
use Rattle.ndc_script_types.specs.WellFormed.{AreTwoClusters}
use Rattle.ndc_script_types.specs.declared.script.Header.{Header}
use Rattle.ndc_domain.specs.declared.clusters.ClusterNo.{ClusterNo}
use Rattle.ndc_event.specs.declared.name.Name.{Name}
use Rattle.ndc_laws_reached.proofs.TrimmedLemmas.{link-there}
use Rattle.ndc_graceful.specs.Begin.{begin_of}
use Rattle.ndc_graceful.specs.declared.handover.Handover.{Handover}
use Rattle.ndc_model.proofs.ListLemmas.{set-length}
use Rattle.ndc_model.specs.Fair.{IsShaped}
use Rattle.ndc_model.specs.Handovers.{complete_open, complete_step, handed_over, handover_begun, handover_step, open_handover, queue_ends}
use Rattle.ndc_model.specs.Steps.{answered}
use Rattle.ndc_model.specs.Texts.{refused}
use Rattle.ndc_model.specs.World.{Link, World, cluster_at, is_link, link_at, link_found, with_table}
use Rattle.ndc_model_sets.proofs.Lists.{all-among, find-among}
use Rattle.ndc_world_steps.specs.Links.{is_handover_to}

-- there are as many clusters after a handover
pub over_length : (handover : Handover) (w : World) → length (handed_over handover w).clusters ≡ length w.clusters
unfolding with_table
over_length handover w = set-length w.clusters handover.to.number _

-- what holds of all handovers holds of the one that is found
pub found_fits : (P : Handover → Type 0) (test : Handover → Bool) (xs : List Handover) (handover : Handover) → AllByRecursion P xs → Some handover ≡ find test xs → P handover
found_fits P test [] handover all e = absurd (cc)
found_fits P test (x ∷ xs) handover all e = by (test x) refl (found_fits P test xs handover all.1)
  where
    by : (t : Bool) → test x ≡ t → (Some handover ≡ find test xs → P handover) → P handover
    by true here rest = let some : Some handover ≡ Some x = e ∙ ap (λ b. if b then Some x else find test xs) here in let same : x ≡ handover = cc in subst P same all.0
    by false there rest = rest (e ∙ ap (λ b. if b then Some x else find test xs) there)

-- the line where a handover is open, and where none is
pub open_refuses : (header : Header) (at : ClusterNo) (domain : Name) (target : ClusterNo) (w : World) → is_some (open_handover domain w) ≡ true
    → answered w (refused (codes "HandoverOpen" ∷ [])) ≡ handover_step header at domain target w
unfolding handover_step
open_refuses header at domain target w e =
    sym (ap (λ t. if t then answered w (refused (codes "HandoverOpen" ∷ [])) else handover_begun at w (begin_of header.clusters at domain target (queue_ends header at w) (cluster_at at w).table)) e)

pub begins : (header : Header) (at : ClusterNo) (domain : Name) (target : ClusterNo) (w : World) → is_some (open_handover domain w) ≡ false
    → handover_begun at w (begin_of header.clusters at domain target (queue_ends header at w) (cluster_at at w).table) ≡ handover_step header at domain target w
unfolding handover_step
begins header at domain target w e =
    sym (ap (λ t. if t then answered w (refused (codes "HandoverOpen" ∷ [])) else handover_begun at w (begin_of header.clusters at domain target (queue_ends header at w) (cluster_at at w).table)) e)

-- the line on the handover that is found
pub completes : (at : ClusterNo) (domain : Name) (w : World) (o : Option Handover) → o ≡ find (is_handover_to at domain) w.handovers → complete_open w o ≡ complete_step at domain w
unfolding complete_step
completes at domain w o e = ap (complete_open w) e

-- a reader has a lane for each shard of another cluster
pub lanes_of : (header : Header) (w : World) (reader source : ClusterNo) → IsShaped header w → AreTwoClusters header reader source → length (link_at reader source w).lanes ≡ header.shards
lanes_of header w reader source shaped two =
    let link = link-there header w reader source shaped two in
    ap (λ (o : Option Link). length (link_found reader source o).lanes) link.1
    ∙ all-among (λ (l : Link). length l.lanes ≡ header.shards) w.links link.0 shaped.lanes (find-among (is_link reader source) w.links link.0 link.1)
