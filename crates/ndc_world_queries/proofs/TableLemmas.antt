-- Tables are one exactly where they pass the test.
use Rattle.std.proofs.Common.{◌≡◌, ◌↔◌, Bool, true, false, ◌&&◌, ◌==◌, IsTrue, List, refl, sym, subst, true≢false}
use Rattle.std.specs.Bool.{Decides}
use Rattle.std.specs.Str.{bytes_eq}
use Rattle.std.proofs.lemmas.Bool.Decides.{Decides-eqb}
use Rattle.std.proofs.lemmas.Slice.Eq.{bytes_eq-Decides, slice_eq-Decides}
use Rattle.ndc_domain.proofs.Edits.{record_eq_true}
use Rattle.ndc_domain.specs.declared.record.DomainRecord.{DomainRecord}
use Rattle.ndc_domain.specs.Records.{record_eq}
use Rattle.ndc_world_queries.specs.Summaries.{same_table}

pub both-true : (a b : Bool) → a ≡ true → b ≡ true → (a && b) ≡ true
both-true true b first second = second
both-true false b first second = first

-- a record passes the test with itself
record-itself : (one : DomainRecord) → record_eq one one ≡ true
record-itself one =
    both-true (bytes_eq one.name one.name) _ ((bytes_eq-Decides one.name one.name).1 refl)
    (both-true (one.version == one.version) _ ((Decides-eqb one.version one.version).1 refl)
    (both-true (one.config == one.config) _ ((Decides-eqb one.config one.config).1 refl)
    (both-true (one.days == one.days) _ ((Decides-eqb one.days one.days).1 refl)
    ((bytes_eq-Decides one.members one.members).1 refl))))

record-decides : (one two : DomainRecord) → Decides (record_eq one two) (one ≡ two)
record-decides one two = (record_eq_true one two, λ same. subst (λ (other : DomainRecord). record_eq one other ≡ true) same (record-itself one))

-- tables pass the test exactly where they are one
pub table_decides : (one two : List DomainRecord) → Decides (same_table one two) (one ≡ two)
table_decides one two = slice_eq-Decides record-decides one two (same_table one two) refl

-- what is true exactly where something holds is each test that decides it
pub decided : {P : Type 0} (told test : Bool) → IsTrue told ↔ P → Decides test P → told ≡ test
decided true test iff decides = sym (decides.1 (iff.0 refl))
decided false true iff decides = absurd (true≢false (sym (iff.1 (decides.0 refl))))
decided false false iff decides = refl

-- what is true exactly where two tables are one is the test
pub table_told : (one two : List DomainRecord) (same : Bool) → IsTrue same ↔ (one ≡ two) → same ≡ same_table one two
table_told one two same iff = decided same (same_table one two) iff (table_decides one two)
