-- Who writes to a domain; workflows, each once.
pub use Rattle.ndc_laws_cells.proofs.NameLemmas.{AreApart, apart-flip, of-both, workflows-among, workflows-apart}
use Rattle.std.proofs.Common.{◌≡◌, ℕ, zero, suc, ◌+◌, ◌<◌, ◌≤◌, Bool, true, false, List, [], ◌∷◌, Option, Some, None, refl, sym, ◌∙◌, arith, true≢false}
use Rattle.std.specs.List.{AllByRecursion, range_with_len}
use Rattle.std.proofs.lemmas.Bool.{eqb-true}
use Rattle.ndc_script_types.specs.declared.script.Header.{Header}
use Rattle.ndc_model_cells.specs.Cells.{Cell, learned_of}
use Rattle.ndc_model_cells.specs.Writing.{Desk, is_writer, may_write, may_write_by, reapplication_by, reapplication_of}
use Rattle.ndc_domain.specs.Clusters.{ClusterList, writer_of}
use Rattle.ndc_domain.specs.Records.{record_of}
use Rattle.ndc_domain.specs.declared.clusters.ClusterNo.{ClusterNo}
use Rattle.ndc_domain.specs.declared.record.DomainRecord.{DomainRecord}
use Rattle.ndc_event.specs.declared.batch.Batch.{Batch}
use Rattle.ndc_event.specs.declared.name.Name.{Name}
use Rattle.ndc_model.specs.World.{World, cell_at, cluster_at, home_at}
use Rattle.ndc_laws_reached.specs.Writing.{applied_in}
use Rattle.ndc_laws_reached.proofs.ApplyLemmas.{same-cell}

-- whether a cluster writes with the version of a record
abbrev pub owns_by : ClusterNo → ClusterList → Option DomainRecord → Bool
owns_by cluster clusters None = false
owns_by cluster clusters (Some one) = is_writer cluster (writer_of clusters one.version)

-- whether a cluster writes with the version of its own record of a domain
abbrev pub owns : Header → ClusterNo → World → Name → Bool
owns header cluster w domain = owns_by cluster header.clusters (record_of (cluster_at cluster w).table domain)

-- who does not write to a domain applies nothing again
idle : (home : Desk) (domain workflow : Name) (cell : Cell) → owns_by home.me home.clusters (record_of home.table domain) ≡ false → reapplication_of home domain workflow cell ≡ []
unfolding reapplication_of may_write
idle home domain workflow cell = by (record_of home.table domain)
  where
    by : (o : Option DomainRecord) → owns_by home.me home.clusters o ≡ false → reapplication_by domain workflow (may_write_by home o (learned_of domain workflow cell)) (learned_of domain workflow cell) ≡ []
    by None never = refl
    by (Some one) never = rw never refl

pub idle-applied : (header : Header) (cluster : ClusterNo) (shard : ℕ) (b : Batch) (w : World) → owns header cluster w b.domain ≡ false → applied_in header cluster shard b w ≡ w
idle-applied header cluster shard b w never =
    rw (idle (home_at header cluster w) b.domain b.workflow (cell_at cluster shard w) never) (same-cell cluster shard w)

-- a version has one writer
pub one-writer : (one two : ClusterNo) (o : Option ClusterNo) → is_writer one o ≡ true → is_writer two o ≡ true → one.number ≡ two.number
one-writer one two None h k = absurd (true≢false (sym h))
one-writer one two (Some writer) h k = sym (eqb-true writer.number one.number h) ∙ eqb-true writer.number two.number k

-- numbers that rise
abbrev pub Rise : List ℕ → Type 0
Rise [] = Unit {0}
Rise (n ∷ ns) = AllByRecursion (λ more. n < more) ns × Rise ns

range-least : (from n : ℕ) → AllByRecursion (λ more. from ≤ more) (range_with_len from n)
range-least from zero = tt
range-least from (suc n) = (omega arith, weaker (range_with_len (from + 1) n) (range-least (from + 1) n))
  where
    weaker : (ns : List ℕ) → AllByRecursion (λ more. from + 1 ≤ more) ns → AllByRecursion (λ more. from ≤ more) ns
    weaker [] all = tt
    weaker (m ∷ ms) all = (omega (arith, all.0), weaker ms all.1)

pub range-rises : (from n : ℕ) → Rise (range_with_len from n)
range-rises from zero = tt
range-rises from (suc n) = (weaker (range_with_len (from + 1) n) (range-least (from + 1) n), range-rises (from + 1) n)
  where
    weaker : (ns : List ℕ) → AllByRecursion (λ more. from + 1 ≤ more) ns → AllByRecursion (λ more. from < more) ns
    weaker [] all = tt
    weaker (m ∷ ms) all = (omega (arith, all.0), weaker ms all.1)
