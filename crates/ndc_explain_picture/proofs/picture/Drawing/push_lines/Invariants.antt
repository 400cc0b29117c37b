use Rattle.std.proofs.Common.{◌≡◌, ◌++◌, drop}
use Rattle.std.specs.List.{flat_map}
use Rattle.ndc_explain_picture.specs.Blocks.{summary_of}
use Rattle.ndc_explain_picture.specs.Picture.{lines_of}
use Rattle.ndc_explain_picture.proofs.picture.Drawing.push_lines.Given as goal

-- the text so far, with what is left, is the whole
abbrev pub invariant-loop-block : goal.invariant-loop-block
invariant-loop-block l = l.text.items ++ flat_map (λ block. lines_of l.self block (summary_of block)) (drop l.block-index l.self.blocks) ≡ l.initial.text.items ++ flat_map (λ block. lines_of l.self block (summary_of block)) l.self.blocks
