-- What comes of damaged messages, and of the messages of letters.
use Rattle.std.proofs.Common.{◌≡◌, ◌<◌, ◌≤◌, ℕ, Bool, true, false, codes, not, nat_lt, remove, slice_get, length, [], ◌∷◌, ◌++◌, Option, Some, None, refl, sym, ◌∙◌, subst, ap, arith, if◌then◌else◌}
use Rattle.std.specs.Prelude.{find, option_map}
use Rattle.std.specs.List.{IsAmong}
use Rattle.std.proofs.lemmas.Bool.{and_parts}
use Rattle.std.proofs.lemmas.Bool.Decides.{nat_tests}
use Rattle.ndc_script_types.specs.WellFormed.{AreTwoClusters}
use Rattle.ndc_script_types.specs.declared.script.Act.TheVariants as act
use Rattle.ndc_script_types.specs.declared.script.Header.{Header}
use Rattle.ndc_model_cells.specs.declared.message.Message.{Message}
use Rattle.ndc_model_cells.specs.Places.{place_of}
use Rattle.ndc_model_cells.specs.Writing.{same_cluster}
use Rattle.ndc_domain.specs.declared.clusters.ClusterNo.{ClusterNo}
use Rattle.ndc_event.specs.Batch.{fault_of}
use Rattle.ndc_laws_cells.proofs.FoundLemmas.{find-passes, there-among}
use Rattle.ndc_laws_reached.proofs.ManyLemmas.{one-cluster}
use Rattle.ndc_laws_reached.proofs.WrittenLemmas.{has-written}
use Rattle.ndc_laws_reached.proofs.LinkLemmas.{IsLinkFit, links-fit}
use Rattle.ndc_laws_reached.proofs.TrimmedLemmas.{link-there}
use Rattle.ndc_letters.specs.Letters.{letter_of}
use Rattle.ndc_letters.specs.declared.letter.Letter.{Letter}
use Rattle.ndc_model.specs.Facts.{IsReached}
use Rattle.ndc_model.specs.Fair.{IsMessageTrue, written_of}
use Rattle.ndc_model.specs.Letters.{damage_at, with_letters}
use Rattle.ndc_model.specs.Lines.{act_step}
use Rattle.ndc_model.specs.Moves.{all_written}
use Rattle.ndc_model.specs.Sending.{flight_step}
use Rattle.ndc_model.specs.Steps.{Stepped, answered}
use Rattle.ndc_model.specs.Texts.{ok}
use Rattle.ndc_model.specs.World.{Link, World, cluster_at, flight_at, is_link, lane_in, link_found, queue_at, with_flight}
use Rattle.ndc_model.proofs.LetterLemmas.{whole_where_uncut}
use Rattle.ndc_model.proofs.ListLemmas.{all-got}
use Rattle.ndc_laws_cells.proofs.Lists.{is-among}
use Rattle.ndc_model_sets.proofs.BranchLemmas.{has-among}
use Rattle.ndc_model_sets.proofs.Lists.{Among, all-among, find-among}
use Rattle.ndc_text.specs.Ranges.{InRange}
use Rattle.ndc_text.specs.Text.{batch_text}

module _ (header : Header) (lines : ℕ) (w : World) (is : IsReached header lines w) (reader source : ClusterNo) (two : AreTwoClusters header reader source) (shard : ℕ) (below : shard < header.shards)
    (place : ℕ) (sent : Message) (at : slice_get (flight_at reader source shard w) place ≡ Some sent) where
  -- what is in flight is in the queue
  flying : Among sent (queue_at source shard w)
  flying =
      subst (λ (c : ClusterNo). Among sent (queue_at c shard w)) source_is
      (is-among (queue_at there.0.source shard w) sent (all-got (IsAmong (queue_at there.0.source shard w)) (lane_in there.0 shard).flight place sent (subst (λ (l : Link). slice_get (lane_in l shard).flight place ≡ Some sent) (ap (link_found reader source) there.1) at)
      (fit.lanes shard below).is_true.flight))
    where
      there : (link : Link) × (find (is_link reader source) w.links ≡ Some link)
      there = link-there header w reader source is.shaped two

      fit : IsLinkFit header w there.0
      fit = all-among (IsLinkFit header w) w.links there.0 (links-fit header lines w is) (find-among (is_link reader source) w.links there.0 there.1)

      source_is : there.0.source ≡ source
      source_is = one-cluster there.0.source source (and_parts (same_cluster there.0.reader reader) (same_cluster there.0.source source) (find-passes (is_link reader source) w.links there.0 there.1)).1

  written : Among sent.batch (all_written header shard w)
  written =
      there-among (all_written header shard w) (place_of sent.batch) sent.batch
      (all-among (IsMessageTrue header shard w) (queue_at source shard w) sent (is.fair.messages source shard two.second below).written flying).0

  range : InRange sent.batch
  range =
      all-among InRange (written_of header sent.batch.domain sent.batch.workflow w) sent.batch (is.ranges sent.batch.domain sent.batch.workflow)
      (has-among (written_of header sent.batch.domain sent.batch.workflow w) sent.batch (has-written header lines w is shard below sent.batch written))

  faultless : fault_of sent.batch ≡ None
  faultless = (is.fair.writing.sound sent.batch.domain sent.batch.workflow).faultless sent.batch (has-written header lines w is shard below sent.batch written)

  -- a message that comes damaged, by whether its bytes are read
  abbrev taken : Bool → Letter → Stepped
  taken whole letter =
      if whole then answered w (ok (codes "whole" ∷ []))
      else answered (with_letters reader ((cluster_at reader w).letters ++ letter ∷ []) (with_flight reader source shard (remove (flight_at reader source shard w) place) w)) (ok (codes "aside" ∷ []))

  lost : (act_step header (act.Lose reader source shard place) w).world ≡ with_flight reader source shard (remove (flight_at reader source shard w) place) w
  unfolding act_step
  lost = ap (λ (o : Option Message). (flight_step reader source shard w (option_map (λ _. remove (flight_at reader source shard w) place) o)).world) at

  comes : (cut : ℕ) → act_step header (act.Damage reader source shard place cut) w ≡ taken (not (nat_lt cut (length (batch_text sent.batch)))) (letter_of source cut sent.batch)
  unfolding act_step
  comes cut =
      ap (damage_at reader source shard place cut w) at
      ∙ ap (λ t. taken t (letter_of source cut sent.batch)) (whole_where_uncut source sent.batch cut range faultless)

  -- a cut message is lost, and set aside
  pub cut-aside : (cut : ℕ) → cut < length (batch_text sent.batch) → act_step header (act.Damage reader source shard place cut) w
      ≡ answered (with_letters reader ((cluster_at reader w).letters ++ letter_of source cut sent.batch ∷ []) (act_step header (act.Lose reader source shard place) w).world) (ok (codes "aside" ∷ []))
  cut-aside cut less =
      comes cut ∙ ap (λ t. taken (not t) (letter_of source cut sent.batch)) short
      ∙ ap (λ (v : World). answered (with_letters reader ((cluster_at reader w).letters ++ letter_of source cut sent.batch ∷ []) v) (ok (codes "aside" ∷ []))) (sym lost)
    where
      short : nat_lt cut (length (batch_text sent.batch)) ≡ true
      short = grind (arith, nat_tests)

  -- a whole one changes nothing
  pub whole-stays : (cut : ℕ) → length (batch_text sent.batch) ≤ cut → act_step header (act.Damage reader source shard place cut) w ≡ answered w (ok (codes "whole" ∷ []))
  whole-stays cut most = comes cut ∙ ap (λ t. taken (not t) (letter_of source cut sent.batch)) long
    where
      long : nat_lt cut (length (batch_text sent.batch)) ≡ false
      long = grind (arith, nat_tests)

pub purge-alone : (header : Header) (w : World) (cluster : ClusterNo) → (act_step header (act.Purge cluster) w).world ≡ with_letters cluster [] w
unfolding act_step
purge-alone header w cluster = refl

pub letters-alone : (header : Header) (w : World) (cluster : ClusterNo) → (act_step header (act.LettersOf cluster) w).world ≡ w
unfolding act_step
letters-alone header w cluster = refl
