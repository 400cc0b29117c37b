-- Words of an answer.
use Rattle.std.specs.Prelude.{ℕ, List, Option, Some, None, decimal}
use Rattle.ndc_model.specs.Steps.{written_words}
use Rattle.ndc_model.specs.Texts.{ok}
use Rattle.ndc_model_cells.specs.declared.job.Written.{Written}
use Rattle.ndc_text.specs.Views.{key_text}
use Rattle.ndc_world_answers.specs.declared.word.Word.{Word}
use Rattle.ndc_world_answers.specs.declared.word.Word.TheVariants as word

-- how a word is printed
abbrev pub word_text : Word → List ℕ
word_text (word.Plain text) = text.now
word_text (word.Bytes bytes) = bytes.now
word_text (word.Number number) = decimal number
word_text (word.Key key) = key_text key

-- the answer of a line: the keys of what it wrote, where it did, or else this text
abbrev pub text_of : Option Written → List ℕ → List ℕ
text_of (Some written) text = ok (written_words written)
text_of None text = text
