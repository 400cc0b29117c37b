-- Whether a cell may write, by what is learned of the workflow.
use Rattle.std.proofs.Common.{◌≡◌, ℕ, List, [], Option, Result, Err, ◌∙◌, ap, sym}
use Rattle.ndc_model_cells.specs.Cells.{Cell, learned_of}
use Rattle.ndc_model_cells.specs.Writing.{Desk, may_write, reapplication_by, reapplication_of}
use Rattle.ndc_event.specs.Outcome.{◌>>=◌}
use Rattle.ndc_shard_entries.proofs.WriterLemmas.{both_tests}
use Rattle.ndc_shard_entries.specs.Writer.{unless_behind, writes_to}
use Rattle.ndc_command.specs.declared.refusal.Refusal.{Refusal}
use Rattle.ndc_domain.specs.Clusters.{ClusterList}
use Rattle.ndc_domain.specs.declared.clusters.ClusterNo.{ClusterNo}
use Rattle.ndc_domain.specs.Records.{record_of}
use Rattle.ndc_domain.specs.declared.record.DomainRecord.{DomainRecord}
use Rattle.ndc_event.specs.declared.name.Name.{Name}

-- a home is its parts
home-parts : (home : Desk) (clusters : ClusterList) (me : ClusterNo) (table : List DomainRecord) → clusters ≡ home.clusters → me ≡ home.me → table ≡ home.table
    → record { clusters = clusters; me = me; limit = home.limit; table = table } ≡ home
home-parts home clusters me table e f g = λ i. record { clusters = e i; me = f i; limit = home.limit; table = g i }

-- what a cluster's record lets it write is told by the parts of its desk
pub record-parts : (home : Desk) (domain : Name) (clusters : ClusterList) (me : ClusterNo) (table : List DomainRecord) (o : Option DomainRecord) (w : Result ℕ Refusal)
    → clusters ≡ home.clusters → me ≡ home.me → table ≡ home.table → w ≡ writes_to (record { clusters = clusters; me = me; limit = home.limit; table = table }) o → o ≡ record_of table domain
    → w ≡ writes_to home (record_of home.table domain)
record-parts home domain clusters me table o w e f g h k =
    h ∙ ap (λ (x : Desk). writes_to x o) (home-parts home clusters me table e f g) ∙ ap (writes_to home) (k ∙ ap (λ (t : List DomainRecord). record_of t domain) g)

-- whether a cell may write is told by what its cluster's record lets it, and then by what it has learned of the workflow
pub may-parts : (home : Desk) (domain workflow : Name) (cell : Cell) (w : Result ℕ Refusal) → w ≡ writes_to home (record_of home.table domain)
    → (w >>= λ version. unless_behind version (learned_of domain workflow cell)) ≡ may_write home domain workflow cell
unfolding may_write
may-parts home domain workflow cell w known =
    ap (λ (r : Result ℕ Refusal). r >>= λ version. unless_behind version (learned_of domain workflow cell)) known ∙ sym (both_tests home (record_of home.table domain) (learned_of domain workflow cell))

-- where the record does not let it write, reapplication writes nothing
pub refused : (home : Desk) (domain workflow : Name) (cell : Cell) (w : Result ℕ Refusal) (why : Refusal) → w ≡ writes_to home (record_of home.table domain) → w ≡ Err why
    → reapplication_of home domain workflow cell ≡ []
unfolding reapplication_of
refused home domain workflow cell w why known error =
    ap (λ (r : Result ℕ Refusal). reapplication_by domain workflow r (learned_of domain workflow cell))
    (sym (may-parts home domain workflow cell w known) ∙ ap (λ (r : Result ℕ Refusal). r >>= λ version. unless_behind version (learned_of domain workflow cell)) error)
