-- In a world that is as it should be there is room for more in each workflow.
use Rattle.std.proofs.Common.{◌≡◌, ℕ, ◌<◌, ◌≤◌, ◌+◌, ◌^◌, List, length, Option, Some, None, IfSome, refl, ap, arith}
use Rattle.ndc_script_types.specs.WellFormed.{IsCluster}
use Rattle.ndc_script_types.specs.declared.script.Header.{Header}
use Rattle.ndc_model_cells.specs.Cells.{Cell, arrived_of, learned_of}
use Rattle.ndc_model_cells.specs.Shards.{shard_of}
use Rattle.ndc_model_cells.specs.Writing.{greatest_version, state_under}
use Rattle.ndc_model_cells.proofs.PlaceLemmas.{set_of_workflow}
use Rattle.ndc_domain.specs.declared.clusters.ClusterNo.{ClusterNo}
use Rattle.ndc_event.specs.declared.batch.Batch.{Batch}
use Rattle.ndc_event.specs.declared.name.Name.{Name}
use Rattle.ndc_laws_reached.proofs.WrittenLemmas.{cell-is}
use Rattle.ndc_laws_reached.proofs.WriterLemmas.{within}
use Rattle.ndc_model.specs.Facts.{IsReached}
use Rattle.ndc_model.specs.Fair.{AreNumbersSmall, written_of}
use Rattle.ndc_model.specs.World.{World, cell_at}
use Rattle.ndc_model_sets.specs.Branches.{workflow_tip}
use Rattle.ndc_model_sets.specs.Current.{strays}
use Rattle.ndc_model_sets.specs.Sets.{Has}
use Rattle.ndc_model_sets.proofs.BranchLemmas.{among-has, has-among}
use Rattle.ndc_model_sets.proofs.LearnedLemmas.{learned_closed}
use Rattle.ndc_model_sets.proofs.Lists.{Among, all-among}
use Rattle.ndc_model_cells.specs.Allowed.{HasRoom}
use Rattle.ndc_laws_cells.specs.Adding.{MayAdd}
use Rattle.ndc_laws_cells.proofs.CountLemmas.{events-most}
use Rattle.ndc_laws_cells.proofs.EntryLemmas.{greatest-least}
use Rattle.ndc_laws_cells.proofs.MayLemmas.{events-same, next-counts, version-most}
use Rattle.ndc_laws_cells.proofs.StrayLemmas.{strays-few}

module _ (header : Header) (lines : ℕ) (w : World) (is : IsReached header lines w) (cluster : ClusterNo) (known : IsCluster header cluster) (domain workflow : Name)
    (below : shard_of domain workflow header.shards < header.shards) where
  abbrev at : ℕ
  at = shard_of domain workflow header.shards

  abbrev cell : Cell
  cell = cell_at cluster at w

  abbrev all : List Batch
  all = written_of header domain workflow w

  abbrev part : List Batch
  part = learned_of domain workflow cell

  numbers : AreNumbersSmall lines all
  numbers = is.fair.numbers.written domain workflow

  lines-most : lines ≤ 100000
  lines-most = is.fair.numbers.lines_most

  -- with a version that none has reached anybody might add
  abbrev later : ℕ
  later = greatest_version all + 1

  version-below : (x : Batch) → Has all x → x.key.version ≤ greatest_version all
  version-below x has = version-most all x (has-among all x has)

  might-add : MayAdd all part later
  might-add =
      let closed = learned_closed (arrived_of domain workflow cell) (set_of_workflow domain workflow cell (cell-is header lines w is at below cluster known)) in
      record {
        sound = is.fair.writing.sound domain workflow;
        named = is.fair.copies domain workflow;
        part_set = closed.0;
        part_closed = closed.1;
        within = within header lines w is cluster known domain workflow below;
        own = λ x has same. let l = version-below x has in absurd (omega (arith, l, same));
        top = λ x has. let l = version-below x (within header lines w is cluster known domain workflow below x has) in omega (arith, l);
      }

  written-too : (x : Batch) → Among x part → Has all x
  written-too x h = might-add.within x (among-has part x might-add.part_set.ordered h)

  strays-most : length (strays part) ≤ 100000
  strays-most =
      let few = strays-few all part (is.fair.copies domain workflow) written-too (λ x has. has-among all x has) in
      let o = numbers.originals_most in let l = lines-most in omega (arith, few, o, l)

  pub has-room : HasRoom (learned_of domain workflow (cell_at cluster (shard_of domain workflow header.shards) w))
  has-room = record {
    tasks =
        let t = greatest-least (length all) part (λ x h. all-among (λ (y : Batch). y.key.task ≤ length all) all x numbers.tasks (has-among all x (written-too x h))) in
        let n = numbers.batches_most in let l = lines-most in omega (arith, t, n, l);
    ids = by (workflow_tip part) refl;
  }
    where
      by : (o : Option Batch) → workflow_tip part ≡ o → IfSome (state_under o part) (λ s. s.next + length (strays part) + 2 ≤ 10 ^ 12)
      by None e = tt
      by (Some tip) e =
          let n = next-counts all part later might-add tip e in
          let p = events-most tip.key all numbers.events_most in
          let q = ap length (events-same all part later might-add tip e) in
          let s = strays-most in let m = numbers.batches_most in let l = lines-most in
          omega (arith, n, p, q, s, m, l)
