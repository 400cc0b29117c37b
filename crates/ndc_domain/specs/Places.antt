-- Where the record of a name stands in a list of records, or would go.
use Rattle.std.specs.Prelude.{◌≡◌, ℕ, ◌<◌, ◌≤◌, List, length, slice_get, slice_set, insert, None}
use Rattle.ndc_domain.specs.declared.record.DomainRecord.{DomainRecord}
use Rattle.ndc_domain.specs.Records.{record_of, put_record}

-- the record of the name is at the place, so that a new one of the name is written there
pub record IsAt (records : List DomainRecord) (name : List ℕ) (place : ℕ) : Type 0 where
  pub in_range : place < length records
  pub found : record_of records name ≡ slice_get records place
  pub put : (new : DomainRecord) → new.name ≡ name → put_record new records ≡ slice_set records place new

-- there is no record of the name, and a new one goes in at the place
pub record IsGap (records : List DomainRecord) (name : List ℕ) (place : ℕ) : Type 0 where
  pub in_range : place ≤ length records
  pub absent : record_of records name ≡ None
  pub put : (new : DomainRecord) → new.name ≡ name → put_record new records ≡ insert records place new
