-- Each batch stands in one block.
use Rattle.std.proofs.Common.{◌≡◌, Bool, true, false, ◌&&◌, List, [], ◌∷◌, ◌++◌, cond, refl, sym, ap, ◌∙◌, append_assoc}
use Rattle.std.specs.List.{list_all}
use Rattle.std.proofs.lemmas.List.{append-nil}
use Rattle.std.proofs.lemmas.List.Folds.{list_all-append}
use Rattle.std.proofs.lemmas.Grind.{flat_map-append}
use Rattle.ndc_event.specs.declared.batch.Batch.{Batch}
use Rattle.ndc_event.specs.declared.key.BatchKey.{BatchKey}
use Rattle.ndc_explain_picture.specs.Blocks.{Blocked, batches_in, blocks_of, ended, forks, goes_on, is_filled, no_block, with_batch, with_batches, with_block, with_last}

-- the batches so far
abbrev so_far : Blocked → List Batch
so_far now = batches_in now.done ++ now.block

-- a block that ends takes its batches along
ended-batches : (block : List Batch) (done : List (List Batch)) → batches_in (with_block block done) ≡ batches_in done ++ block
ended-batches [] done = sym (append-nil (batches_in done))
ended-batches (b ∷ block) done =
    flat_map-append (λ (x : List Batch). x) done ((b ∷ block) ∷ []) ∙ ap (λ (z : List Batch). batches_in done ++ z) (append-nil (b ∷ block))

-- a batch goes after those so far
last-batches : (b : Batch) (now : Blocked) → so_far (with_last b now) ≡ so_far now ++ b ∷ []
last-batches b now = sym (append_assoc (batches_in now.done) now.block (b ∷ []))

step-batches : (keys : List BatchKey) (b : Batch) (now : Blocked) → so_far (with_batch keys b now) ≡ so_far now ++ b ∷ []
step-batches keys b now = by (goes_on keys now.before b)
  where
    by : (t : Bool) → so_far (with_last b (cond t now (ended now))) ≡ so_far now ++ b ∷ []
    by true = last-batches b now
    by false = last-batches b (ended now) ∙ ap (λ (z : List Batch). z ++ b ∷ []) (append-nil (batches_in (with_block now.block now.done)) ∙ ended-batches now.block now.done)

all-batches : (keys : List BatchKey) (batches : List Batch) (now : Blocked) → so_far (with_batches keys batches now) ≡ so_far now ++ batches
all-batches keys [] now = sym (append-nil (so_far now))
all-batches keys (b ∷ batches) now =
    all-batches keys batches (with_batch keys b now) ∙ ap (λ (z : List Batch). z ++ batches) (step-batches keys b now) ∙ append_assoc (so_far now) (b ∷ []) batches

-- the blocks, one after the other, are the batches
pub blocks_are_batches : (batches : List Batch) → batches_in (blocks_of batches) ≡ batches
blocks_are_batches batches =
    let now = with_batches (forks batches) batches no_block in
    ended-batches now.block now.done ∙ all-batches (forks batches) batches no_block

-- a block that ends is not empty
ended-filled : (block : List Batch) (done : List (List Batch)) → list_all is_filled done ≡ true → list_all is_filled (with_block block done) ≡ true
ended-filled [] done h = h
ended-filled (b ∷ block) done h = list_all-append is_filled done ((b ∷ block) ∷ []) ∙ ap (λ (t : Bool). t && true) h

step-filled : (keys : List BatchKey) (b : Batch) (now : Blocked) → list_all is_filled now.done ≡ true → list_all is_filled (with_batch keys b now).done ≡ true
step-filled keys b now h = by (goes_on keys now.before b)
  where
    by : (t : Bool) → list_all is_filled (with_last b (cond t now (ended now))).done ≡ true
    by true = h
    by false = ended-filled now.block now.done h

all-filled : (keys : List BatchKey) (batches : List Batch) (now : Blocked) → list_all is_filled now.done ≡ true → list_all is_filled (with_batches keys batches now).done ≡ true
all-filled keys [] now h = h
all-filled keys (b ∷ batches) now h = all-filled keys batches (with_batch keys b now) (step-filled keys b now h)

-- no block is empty
pub blocks_are_filled : (batches : List Batch) → list_all is_filled (blocks_of batches) ≡ true
blocks_are_filled batches =
    let now = with_batches (forks batches) batches no_block in
    ended-filled now.block now.done (all-filled (forks batches) batches no_block refl)
