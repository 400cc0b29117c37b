-- What jobs came to.
use Rattle.std.specs.Prelude.{List, map, sum}
use Rattle.ndc_world_answers.specs.declared.tally.Tally.{Tally}
use Rattle.ndc_model.specs.Moves.{Note}
use Rattle.ndc_model.specs.Steps.{applied_by, arrived_by, known_by, learned_by, put_off_by}

-- the counts of notes
abbrev pub tally_of : List Note → Tally
tally_of notes = record {
  learned = sum (map learned_by notes);
  known = sum (map known_by notes);
  put_off = sum (map put_off_by notes);
  arrived = sum (map arrived_by notes);
  applied = sum (map applied_by notes);
}
