-- A cluster may write where its record lets it, and nothing greater is learned.
use Rattle.std.proofs.Common.{◌≡◌, ℕ, Bool, true, false, nat_lt, [], List, Option, Some, None, Ok, not, refl, arith}
use Rattle.std.proofs.lemmas.Bool.Decides.{nat_tests}
use Rattle.ndc_domain.specs.Clusters.{writer_of}
use Rattle.ndc_domain.specs.declared.record.DomainRecord.{DomainRecord}
use Rattle.ndc_event.specs.Outcome.{◌>>=◌}
use Rattle.ndc_event.specs.declared.batch.Batch.{Batch}
use Rattle.ndc_model_cells.specs.Writing.{Desk, is_writer, may_write_by}
use Rattle.ndc_shard_entries.specs.Writer.{unless_behind, writes_to}

-- both tests, one after the other
pub both_tests : (home : Desk) (one : Option DomainRecord) (batches : List Batch) → may_write_by home one batches ≡ (writes_to home one >>= λ version. unless_behind version batches)
both_tests home None batches = refl
both_tests home (Some one) batches = by (not (is_writer home.me (writer_of home.clusters one.version))) refl
  where
    by : (t : Bool) → not (is_writer home.me (writer_of home.clusters one.version)) ≡ t → may_write_by home (Some one) batches ≡ (writes_to home (Some one) >>= λ version. unless_behind version batches)
    by true other = rw other refl
    by false own = rw own refl

-- no version is below 0
below-zero : (version : ℕ) → nat_lt version 0 ≡ false
below-zero version = grind (arith, nat_tests)

-- where nothing is learned, nothing greater is
pub none_greater : (version : ℕ) → unless_behind version [] ≡ Ok version
none_greater version = rw (below-zero version) refl
