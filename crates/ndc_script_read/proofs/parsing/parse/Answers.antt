use Rattle.ndc_script_read.proofs.Short.{short_of}
use Rattle.ndc_script_read.proofs.parsing.parse.Goals as goal

-- no script that is read has too many lines in print
pub returns-clause-well_formed : goal.returns-clause-well_formed
returns-clause-well_formed c = record {
  header = c.in_ok-script.ensures.header;
  lines = c.in_ok-script.ensures.lines;
  short = short_of c.args.bytes.now c.in_ok-script.script c.in_ok-script.ensures.answer;
}
