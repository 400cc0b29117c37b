-- The names of the batches of a workflow.
use Rattle.std.proofs.Common.{◌≡◌, true, refl}
use Rattle.std.specs.Str.{bytes_eq}
use Rattle.std.proofs.lemmas.Bool.{and_from, and_parts}
use Rattle.std.proofs.lemmas.Slice.Eq.{bytes_eq-Decides}
use Rattle.ndc_model_cells.specs.Places.{is_of}
use Rattle.ndc_event.specs.declared.batch.Batch.{Batch}
use Rattle.ndc_event.specs.declared.name.Name.{Name}

-- a batch of a workflow has its names
pub names-of : (domain workflow : Name) (b : Batch) → is_of domain workflow b ≡ true → (b.domain ≡ domain) × (b.workflow ≡ workflow)
names-of domain workflow b own =
    let parts = and_parts (bytes_eq b.domain domain) (bytes_eq b.workflow workflow) own in
    ((bytes_eq-Decides b.domain domain).0 parts.0, (bytes_eq-Decides b.workflow workflow).0 parts.1)

-- what has its names is of the workflow
pub of-names : (domain workflow : Name) (b : Batch) → b.domain ≡ domain → b.workflow ≡ workflow → is_of domain workflow b ≡ true
of-names domain workflow b d w =
    and_from (bytes_eq b.domain domain) (bytes_eq b.workflow workflow) ((bytes_eq-Decides b.domain domain).1 d) ((bytes_eq-Decides b.workflow workflow).1 w)

-- each batch is of its own workflow
pub own-names : (b : Batch) → is_of b.domain b.workflow b ≡ true
own-names b = of-names b.domain b.workflow b refl refl
