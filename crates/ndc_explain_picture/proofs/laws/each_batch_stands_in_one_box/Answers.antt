use Rattle.ndc_explain_picture.proofs.BlockLaws.{blocks_are_batches, blocks_are_filled}
use Rattle.ndc_explain_picture.proofs.PlaceLaws.{blocks_are_placed}
use Rattle.ndc_explain_picture.proofs.laws.each_batch_stands_in_one_box.Goals as goal

pub returns-clause-once : goal.returns-clause-once
returns-clause-once c = λ batches. blocks_are_batches batches

pub returns-clause-filled : goal.returns-clause-filled
returns-clause-filled c = λ batches. blocks_are_filled batches

pub returns-clause-placed : goal.returns-clause-placed
returns-clause-placed c = λ clusters batches. blocks_are_placed clusters batches
