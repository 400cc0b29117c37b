-- How many messages wait in a cell, where one workflow changes.
use Rattle.std.proofs.Common.{◌≡◌, ℕ, zero, suc, ◌+◌, ◌≤◌, Bool, true, false, not, List, [], ◌∷◌, Some, Result, Ok, Err, OnOk, OnErr, cond, length, refl, sym, ◌∙◌, subst, ap, arith}
use Rattle.std.specs.List.{filter}
use Rattle.std.specs.Str.{bytes_eq}
use Rattle.std.proofs.lemmas.Bool.{and_parts}
use Rattle.std.proofs.lemmas.Slice.Eq.{bytes_eq-Decides}
use Rattle.ndc_event.specs.declared.batch.Batch.{Batch}
use Rattle.ndc_event.specs.declared.key.BatchKey.{BatchKey}
use Rattle.ndc_event.specs.declared.name.Name.{Name}
use Rattle.ndc_model_cells.specs.Allowed.{MayArrive}
use Rattle.ndc_model_cells.specs.Arrival.{arrived_at}
use Rattle.ndc_model_cells.specs.Cells.{Cell}
use Rattle.ndc_model_cells.specs.Places.{is_of}
use Rattle.ndc_model_cells.specs.Workflow.{WorkflowValue, workflow_of}
use Rattle.ndc_model_cells.specs.Writing.{Entry, with_batches}
use Rattle.ndc_model_cells.specs.declared.message.Message.{Message}
use Rattle.ndc_model_cells.proofs.NameLemmas.{own-names}
use Rattle.ndc_shard_workflows.specs.Due.{is_named}
use Rattle.ndc_shard_workflows.specs.Forgetting.{IsForgotten}
use Rattle.ndc_shard_workflows.specs.Workflow.{IsWorkflow}
use Rattle.ndc_shard_workflows.specs.Workflows.{OthersStay}
use Rattle.ndc_shard_workflows.proofs.BehindLemmas.{second-other}
use Rattle.ndc_shard_workflows.proofs.CellLemmas.{filter-swap, other_same}
use Rattle.ndc_shard_workflows.proofs.PutOffLemmas.{all_wait}

-- ---- lengths

-- what passes a test and what does not are all
both-lengths : {X : Type 0} (p : X → Bool) (xs : List X) → length (filter p xs) + length (filter (λ x. not (p x)) xs) ≡ length xs
both-lengths p [] = refl
both-lengths p (x ∷ xs) = by (p x) (both-lengths p xs)
  where
    by : (t : Bool) → length (filter p xs) + length (filter (λ x. not (p x)) xs) ≡ length xs
        → length (cond t (x ∷ filter p xs) (filter p xs)) + length (cond (not t) (x ∷ filter (λ x. not (p x)) xs) (filter (λ x. not (p x)) xs)) ≡ suc (length xs)
    by true e = omega (arith, e)
    by false e = omega (arith, e)

pub some-length : {X : Type 0} (p : X → Bool) (xs : List X) → length (filter p xs) ≤ length xs
some-length p xs = let e = both-lengths p xs in omega (arith, e)

-- nothing of what passes a test does not
neither-kept : {X : Type 0} (p : X → Bool) (xs : List X) → filter (λ x. not (p x)) (filter p xs) ≡ []
neither-kept p [] = refl
neither-kept p (x ∷ xs) = by (p x) refl (neither-kept p xs)
  where
    by : (t : Bool) → p x ≡ t → filter (λ x. not (p x)) (filter p xs) ≡ [] → filter (λ x. not (p x)) (cond t (x ∷ filter p xs) (filter p xs)) ≡ []
    by true e rest = ap (λ t. cond (not t) (x ∷ filter (λ x. not (p x)) (filter p xs)) (filter (λ x. not (p x)) (filter p xs))) e ∙ rest
    by false e rest = rest

abbrev of : Name → Name → Message → Bool
of d w m = is_of d w m.batch

-- two tests in either order
swapped : {X : Type 0} (p q : X → Bool) (xs : List X) → filter p (filter q xs) ≡ filter q (filter p xs)
swapped p q xs = filter-swap p q q xs (λ x e. refl)

-- lists that are alike by workflow
abbrev AreAlike : List Message → List Message → Type 0
AreAlike ys zs = (d w : Name) → filter (of d w) ys ≡ filter (of d w) zs

alike-without : (p : Message → Bool) (ys zs : List Message) → AreAlike ys zs → AreAlike (filter p ys) (filter p zs)
alike-without p ys zs same = λ d w. swapped (of d w) p ys ∙ ap (filter p) (same d w) ∙ swapped p (of d w) zs

-- they are of one length
alike-length : (most : ℕ) (ys zs : List Message) → length ys ≤ most → AreAlike ys zs → length ys ≡ length zs
alike-length most [] [] few same = refl
alike-length most [] (z ∷ zs) few same =
    let kept : filter (of z.batch.domain z.batch.workflow) (z ∷ zs) ≡ z ∷ filter (of z.batch.domain z.batch.workflow) zs =
    ap (λ t. cond t (z ∷ filter (of z.batch.domain z.batch.workflow) zs) (filter (of z.batch.domain z.batch.workflow) zs)) (own-names z.batch) in
    let none : [] ≡ z ∷ filter (of z.batch.domain z.batch.workflow) zs = same z.batch.domain z.batch.workflow ∙ kept in
    absurd (cc)
alike-length zero (y ∷ ys) zs few same = absurd (omega (arith, few))
alike-length (suc most) (y ∷ ys) zs few same =
    let p : Message → Bool = of y.batch.domain y.batch.workflow in
    let others : Message → Bool = λ m. not (p m) in
    let dropped : filter others (y ∷ ys) ≡ filter others ys = ap (λ t. cond (not t) (y ∷ filter others ys) (filter others ys)) (own-names y.batch) in
    let fewer = some-length others ys in
    let size = ap (λ (l : List Message). length l) dropped in
    let rest = alike-length most (filter others (y ∷ ys)) (filter others zs) (omega (arith, few, fewer, size)) (alike-without others (y ∷ ys) zs same) in
    let mine = ap (λ (l : List Message). length l) (same y.batch.domain y.batch.workflow) in
    let one = both-lengths p (y ∷ ys) in
    let two = both-lengths p zs in
    omega (arith, rest, mine, one, two)

-- ---- one workflow changes

module _ (domain workflow : Name) (before after : Cell) (others : (d w : Name) → is_named d w (domain, workflow) ≡ false → (workflow_of d w after).waiting ≡ (workflow_of d w before).waiting) where
  abbrev own : Message → Bool
  own = of domain workflow

  abbrev other : Message → Bool
  other m = not (own m)

  alike : AreAlike (filter other after.waiting) (filter other before.waiting)
  alike d w = by (is_named d w (domain, workflow)) refl
    where
      by : (t : Bool) → is_named d w (domain, workflow) ≡ t → filter (of d w) (filter other after.waiting) ≡ filter (of d w) (filter other before.waiting)
      by true e =
          let parts = and_parts (bytes_eq domain d) (bytes_eq workflow w) e in
          let first : domain ≡ d = (bytes_eq-Decides domain d).0 parts.0 in
          let second : workflow ≡ w = (bytes_eq-Decides workflow w).0 parts.1 in
          let none : (xs : List Message) → filter (of d w) (filter other xs) ≡ [] = λ xs.
          swapped (of d w) other xs
          ∙ ap (λ (k : Name). filter other (filter (of k w) xs)) (sym first) ∙ ap (λ (k : Name). filter other (filter (of domain k) xs)) (sym second)
          ∙ neither-kept own xs in
          none after.waiting ∙ sym (none before.waiting)
      by false e = swapped (of d w) other after.waiting ∙ ap (filter other) (others d w e) ∙ swapped other (of d w) before.waiting

  -- what waits in the cell grows as what waits in the workflow does
  recount : length after.waiting + length (workflow_of domain workflow before).waiting ≡ length before.waiting + length (workflow_of domain workflow after).waiting
  recount =
      let one = both-lengths own after.waiting in
      let two = both-lengths own before.waiting in
      let rest = alike-length (length (filter other after.waiting)) (filter other after.waiting) (filter other before.waiting) (omega arith) alike in
      omega (arith, one, two, rest)

  -- so does the number that is kept of it
  pub recounted : (all waited waits then : ℕ) → all ≡ length before.waiting → waited ≡ length (workflow_of domain workflow before).waiting
      → waits ≡ length (workflow_of domain workflow after).waiting → then + waited ≡ all + waits → then ≡ length after.waiting
  recounted all waited waits then one two three sum = let r = recount in omega (arith, one, two, three, sum, r)

-- the same where the names are those of a batch
pub recounted-at : (b : Batch) (before after : Cell) (d w : Name) → d ≡ b.domain → w ≡ b.workflow
    → ((d w : Name) → is_of d w b ≡ false → (workflow_of d w after).waiting ≡ (workflow_of d w before).waiting) → (all waited then : ℕ) → all ≡ length before.waiting
    → waited ≡ length (workflow_of d w before).waiting → then + waited ≡ all + length (workflow_of d w after).waiting → then ≡ length after.waiting
recounted-at b before after d w first second others all waited then one two sum =
    recounted b.domain b.workflow before after others all waited (length (workflow_of d w after).waiting) then one (two ∙ renamed before) (renamed after) sum
  where
    renamed : (cell : Cell) → length (workflow_of d w cell).waiting ≡ length (workflow_of b.domain b.workflow cell).waiting
    renamed cell = ap (λ (k : Name). length (workflow_of k w cell).waiting) first ∙ ap (λ (k : Name). length (workflow_of b.domain k cell).waiting) second

pub none-at : (b : Batch) (cell : Cell) (d w : Name) → d ≡ b.domain → w ≡ b.workflow → (workflow_of b.domain b.workflow cell).waiting ≡ [] → (workflow_of d w cell).waiting ≡ []
none-at b cell d w first second none =
    subst (λ (k : Name). (workflow_of k w cell).waiting ≡ []) (sym first) (subst (λ (k : Name). (workflow_of b.domain k cell).waiting ≡ []) (sym second) none)

-- ---- by what

-- a message was handed to its workflow
pub handed-others : (b : Batch) (before after : Cell) → OthersStay b before after → (d w : Name) → is_of d w b ≡ false → (workflow_of d w after).waiting ≡ (workflow_of d w before).waiting
handed-others b before after stay d w e = ap (λ (v : WorkflowValue). v.waiting) (stay d w e)

-- a message arrived
pub arrived-others : (sent : Message) (cell : Cell) → MayArrive sent cell → ((d w : Name) → IsWorkflow (workflow_of d w cell)) → (d w : Name) → is_of d w sent.batch ≡ false
    → (workflow_of d w (arrived_at sent cell)).waiting ≡ (workflow_of d w cell).waiting
arrived-others sent cell may workflows d w e =
    ap (λ (v : WorkflowValue). v.waiting) (other_same d w sent cell e (second-other d w sent.batch sent.second e may.own) (all_wait (workflow_of d w cell) (workflows d w)))

-- what waits in a workflow is a part of what waits in the cell
pub own_few : (d w : Name) (cell : Cell) → length (workflow_of d w cell).waiting ≤ length cell.waiting
own_few d w cell = some-length (of d w) cell.waiting

-- a message was dropped
pub forgotten-others : (domain workflow : Name) (key : BatchKey) (before after : Cell) → IsForgotten domain workflow key before after → (d w : Name) → is_named d w (domain, workflow) ≡ false
    → (workflow_of d w after).waiting ≡ (workflow_of d w before).waiting
forgotten-others domain workflow key before after it d w e = ap (λ (v : WorkflowValue). v.waiting) (it.others d w e)

pub forgotten-fewer : (domain workflow : Name) (key : BatchKey) (before after : Cell) → IsForgotten domain workflow key before after
    → length (workflow_of domain workflow after).waiting ≤ length (workflow_of domain workflow before).waiting
forgotten-fewer domain workflow key before after it =
    let size = ap (λ (v : WorkflowValue). length v.waiting) it.own in
    let few = some-length (λ sent. not (Rattle.ndc_model_sets.specs.Learned.has_key (Some key) (Rattle.ndc_model_cells.specs.Cells.both sent))) (workflow_of domain workflow before).waiting in
    omega (arith, size, few)

-- what is written leaves what waits
pub counted-either : {A E : Type 0} (entry : Entry) (cell : Cell) (r : Result A E) (all : ℕ) (new : Cell) → OnOk r (new ≡ with_batches entry cell) → OnErr r (new ≡ cell) → all ≡ length cell.waiting
    → all ≡ length new.waiting
counted-either entry cell (Ok x) all new e f same = same ∙ ap (λ (c : Cell). length c.waiting) (sym e)
counted-either entry cell (Err x) all new e f same = same ∙ ap (λ (c : Cell). length c.waiting) (sym f)
