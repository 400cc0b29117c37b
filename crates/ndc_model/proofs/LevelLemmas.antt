-- Levels stay in order.
use Rattle.std.proofs.Common.{ℕ, ◌+◌, ◌≤◌, List, length, drop, Option, Some, None, arith, length-drop}
use Rattle.std.specs.List.{prefix_len}
use Rattle.std.proofs.lemmas.List.{length-take}
use Rattle.std.proofs.lemmas.List.Sums.{prefix_len-le-length}
use Rattle.ndc_domain.specs.declared.clusters.ClusterNo.{ClusterNo}
use Rattle.ndc_domain.specs.declared.record.DomainRecord.{DomainRecord}
use Rattle.ndc_model_cells.specs.declared.message.Message.{Message}
use Rattle.ndc_model_cells.specs.Cells.{Cell}
use Rattle.ndc_model.specs.Queues.{Lane, taken, after_pull, needs_nothing, after_renewal, after_rewind}
use Rattle.ndc_queue.specs.Levels.{AreLevels}

taken-most : (count : Option ℕ) (queue : List Message) (lane : Lane) → lane.levels.read ≤ length queue → lane.levels.read + length (taken count queue lane) ≤ length queue
taken-most None queue lane h = omega (arith, h, length-drop lane.levels.read queue)
taken-most (Some n) queue lane h = omega (arith, h, length-drop lane.levels.read queue, length-take n (drop lane.levels.read queue))

pub pull_keeps : (reader : ClusterNo) (table : List DomainRecord) (count : Option ℕ) (queue : List Message) (lane : Lane) → AreLevels queue lane.levels → AreLevels queue (after_pull reader table count queue lane).levels
pull_keeps reader table count queue lane are =
    record { done_most = omega (arith, are.done_most); read_most = taken-most count queue lane are.read_most }

pub renewal_keeps : (reader : ClusterNo) (table : List DomainRecord) (cell : Cell) (queue : List Message) (lane : Lane) → AreLevels queue lane.levels → AreLevels queue (after_renewal reader table cell queue lane).levels
renewal_keeps reader table cell queue lane are =
    let front : prefix_len (needs_nothing reader table cell) (drop lane.levels.done queue) ≤ length (drop lane.levels.done queue) = prefix_len-le-length (needs_nothing reader table cell) (drop lane.levels.done queue) in
    record { done_most = omega arith; read_most = omega (arith, are.done_most, are.read_most, front, length-drop lane.levels.done queue) }

pub rewind_keeps : (queue : List Message) (lane : Lane) → AreLevels queue lane.levels → AreLevels queue (after_rewind lane).levels
rewind_keeps queue lane are = record { done_most = omega arith; read_most = omega (arith, are.done_most, are.read_most) }
