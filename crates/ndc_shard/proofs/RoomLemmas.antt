-- Room for numbers where a cell may be asked to write.
use Rattle.std.proofs.Common.{◌≡◌, ◌≤◌, ◌+◌, ◌^◌, List, [], Option, Some, None, IfSome, length, refl, sym, subst, arith}
use Rattle.ndc_model_cells.specs.Writing.{greatest_task, state_under}
use Rattle.ndc_event.specs.declared.batch.Batch.{Batch}
use Rattle.ndc_model_sets.specs.Branches.{workflow_tip}
use Rattle.ndc_model_sets.specs.Current.{strays}
use Rattle.ndc_state.specs.Value.{StateValue}
use Rattle.ndc_model_cells.specs.Allowed.{HasRoom}
use Rattle.ndc_shard.specs.Trying.{LeavesRoom}

pub tasks-few : (batches known : List Batch) → batches ≡ known → HasRoom known → greatest_task batches ≤ 10 ^ 12
tasks-few batches known e room = subst (λ (l : List Batch). greatest_task l ≤ 10 ^ 12) (sym e) (let most = room.tasks in omega (arith, most))

pub none-few : (batches : List Batch) → batches ≡ [] → greatest_task batches ≤ 10 ^ 12
none-few batches e = subst (λ (l : List Batch). greatest_task l ≤ 10 ^ 12) (sym e) (omega arith)

pub ids-few : (batches known : List Batch) → batches ≡ known → HasRoom known → IfSome (state_under (workflow_tip batches) batches) (λ s. s.next ≤ 10 ^ 12)
ids-few batches known e room =
    subst (λ (l : List Batch). IfSome (state_under (workflow_tip l) l) (λ s. s.next ≤ 10 ^ 12)) (sym e) (by (state_under (workflow_tip known) known) room.ids)
  where
    by : (o : Option StateValue) → IfSome o (λ s. s.next + length (strays known) + 2 ≤ 10 ^ 12) → IfSome o (λ s. s.next ≤ 10 ^ 12)
    by None small = tt
    by (Some s) small = omega (arith, small)

-- ---- room for one more batch

pub tasks-left : (batches known : List Batch) → batches ≡ known → LeavesRoom known → greatest_task batches ≤ 10 ^ 12
tasks-left batches known e room = subst (λ (l : List Batch). greatest_task l ≤ 10 ^ 12) (sym e) room.tasks

pub next-left : (batches known : List Batch) → batches ≡ known → LeavesRoom known → IfSome (state_under (workflow_tip batches) batches) (λ s. s.next ≤ 10 ^ 12)
next-left batches known e room = subst (λ (l : List Batch). IfSome (state_under (workflow_tip l) l) (λ s. s.next ≤ 10 ^ 12)) (sym e) room.next

pub room-left : (batches : List Batch) → HasRoom batches → LeavesRoom batches
room-left batches room = record { tasks = (let most = room.tasks in omega (arith, most)); next = ids-few batches batches refl room }

pub none-left : (batches : List Batch) → batches ≡ [] → LeavesRoom batches
none-left batches e = subst LeavesRoom (sym e) (record { tasks = omega arith; next = tt })

pub same-left : (batches known : List Batch) → batches ≡ known → LeavesRoom batches → LeavesRoom known
same-left batches known e room = subst LeavesRoom e room
