-- What is listed beside workflows that change.
use Rattle.std.specs.Prelude.{◌≡◌, Bool, false, List, Option, None}
use Rattle.ndc_event.specs.declared.batch.Batch.{Batch}
use Rattle.ndc_event.specs.declared.name.Name.{Name}
use Rattle.ndc_shard_runs.specs.Kept.{StaysSettled}
use Rattle.ndc_shard_workflows.specs.Due.{is_listed, is_named}

-- a workflow was listed beside the others where reapplication may be due in it
pub record IsListedWhereDue (domain workflow : Name) (may_be_due : Bool) (before after : List (Name × Name)) : Type 0 where
  pub kept : (d w : Name) → is_listed d w after ≡ false → is_listed d w before ≡ false
  pub own : is_listed domain workflow after ≡ false → may_be_due ≡ false

-- a workflow was listed beside the others where something is put off of it, and else taken from them
pub record IsListedWhereBehind (domain workflow : Name) (is_behind : Bool) (before after : List (Name × Name)) : Type 0 where
  pub kept : (d w : Name) → is_named d w (domain, workflow) ≡ false → is_listed d w after ≡ false → is_listed d w before ≡ false
  pub own : is_listed domain workflow after ≡ false → is_behind ≡ false

-- before a batch is written to a workflow of which this is learned, the workflow was listed beside the others unless the batch
-- leaves no stray
pub record IsListedBefore (batch : Batch) (second : Option Batch) (learned : List Batch) (before after : List (Name × Name)) : Type 0 where
  pub kept : (d w : Name) → is_listed d w after ≡ false → is_listed d w before ≡ false
  pub alone : is_listed batch.domain batch.workflow after ≡ false → second ≡ None
  pub settled : is_listed batch.domain batch.workflow after ≡ false → StaysSettled batch learned
