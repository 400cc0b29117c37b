-- What is told of a script, line by line.
use Rattle.std.proofs.Common.{◌≡◌, ℕ, ◌+◌, ◌<◌, ◌≤◌, List, [], ◌∷◌, ◌++◌, length, drop, get_or, refl, ap, sym, subst, ◌∙◌}
use Rattle.std.specs.Prelude.{Option}
use Rattle.std.specs.List.{flat_map}
use Rattle.std.proofs.lemmas.Grind.{flat_map-append}
use Rattle.std.proofs.lemmas.List.{append_assoc, append-nil, at_drop_all, at_drop_more, drop-drop}
use Rattle.std.proofs.lemmas.List.Folds.{length-prefix_len}
use Rattle.ndc_model.specs.Bare.{bare}
use Rattle.ndc_model.specs.Lines.{answer_text, answers_of, ran_of, world_behind}
use Rattle.ndc_model.specs.Report.{report_of}
use Rattle.ndc_model.specs.Standing.{StandFor}
use Rattle.ndc_model.specs.World.{World}
use Rattle.ndc_port.specs.Bytes.{Appends, AppendsFront, Sent}
use Rattle.ndc_port.proofs.Steps.{Sent_end, Sent_part, Sent_piece, Sent_start}
use Rattle.ndc_script_types.specs.declared.script.Header.{Header}
use Rattle.ndc_script_types.specs.declared.script.Line.{Line}
use Rattle.ndc_script_types.specs.declared.script.Script.{Script}
use Rattle.ndc_script_words.specs.Text.{KeptLine}
use Rattle.ndc_world.specs.Rest.{at_world, left_of, opening_of}
use Rattle.ndc_world.specs.Running.{Running, behind_line, ran_at}
use Rattle.ndc_world.specs.Standing.{WorldValue}
use Rattle.ndc_world.proofs.LeftLemmas.{left_more}
use Rattle.ndc_probe.specs.Answers.{answer_to}
use Rattle.ndc_probe.specs.Comments.{commented}
use Rattle.ndc_probe.specs.Notices.{noticed}
use Rattle.ndc_probe.specs.Probed.{above, answers_to, below, line_text, noticed_behind, parts_of, probed, stands_above, text_of, told_of_lines}

-- a line, and what is told after it
first-line : (running : Running) (line : Line) (lines : List Line) (asked : List KeptLine)
    → text_of (parts_of running (line ∷ lines) asked) ≡ line_text running line (above line.number asked) ++ text_of (parts_of (behind_line running line) lines (below line.number asked))
first-line running line lines asked =
    let answers = commented (answers_to running (above line.number asked)) in
    let told = answers_of (ran_at running line) in
    let notices = commented (noticed_behind running line) in
    let rest = text_of (parts_of (behind_line running line) lines (below line.number asked)) in
    sym (append_assoc answers (told ++ notices) rest ∙ ap (λ (l : List ℕ). answers ++ l) (append_assoc told notices rest))

-- the lines that are left after a place
module _ (running behind : Running) (lines : List Line) (i : ℕ) (line : Line) (asked : List KeptLine) (within : i < length lines) (is : line ≡ get_or lines i line) (moved : behind ≡ behind_line running line) where
  abbrev rest : List ℕ
  rest = text_of (parts_of behind (drop (i + 1) lines) (below line.number asked))

  next-line : text_of (parts_of running (drop i lines) asked) ≡ line_text running line (above line.number asked) ++ rest
  next-line =
      at_drop_more (λ l. text_of (parts_of running l asked)) lines i line within
      ∙ ap (λ (one : Line). text_of (parts_of running (one ∷ drop (i + 1) lines) asked)) (sym is)
      ∙ first-line running line (drop (i + 1) lines) asked
      ∙ ap (λ (r : Running). line_text running line (above line.number asked) ++ text_of (parts_of r (drop (i + 1) lines) (below line.number asked))) (sym moved)

  -- what belongs to a line is written whole
  pub sent_line : (before now after : Option (List ℕ)) (bytes : List ℕ) → Sent before now bytes (text_of (parts_of running (drop i lines) asked)) → Appends now after (line_text running line (above line.number asked))
      → Sent before after bytes rest
  sent_line before now after bytes sent taken = Sent_piece before now after bytes (line_text running line (above line.number asked)) rest (subst (Sent before now bytes) next-line sent) taken

  -- of it only a prefix is written
  pub sent_part : (before now after : Option (List ℕ)) (bytes : List ℕ) → Sent before now bytes (text_of (parts_of running (drop i lines) asked)) → AppendsFront now after (line_text running line (above line.number asked))
      → AppendsFront before after bytes
  sent_part before now after bytes sent part = Sent_part before now after bytes (line_text running line (above line.number asked)) rest (subst (Sent before now bytes) next-line sent) part

-- after the last line there is what is asked there
module _ (running : Running) (lines : List Line) (i : ℕ) (asked : List KeptLine) (most : length lines ≤ i) where
  last-line : text_of (parts_of running (drop i lines) asked) ≡ commented (answers_to running asked)
  last-line = at_drop_all (λ l. text_of (parts_of running l asked)) lines i most ∙ append-nil (commented (answers_to running asked))

  pub sent_last : (before now after : Option (List ℕ)) (bytes : List ℕ) → Sent before now bytes (text_of (parts_of running (drop i lines) asked)) → Appends now after (commented (answers_to running asked)) → Appends before after bytes
  sent_last before now after bytes sent taken =
      Sent_end before after bytes
      (Sent_piece before now after bytes (commented (answers_to running asked)) [] (subst (Sent before now bytes) (last-line ∙ sym (append-nil (commented (answers_to running asked)))) sent) taken)

  pub sent_last_part : (before now after : Option (List ℕ)) (bytes : List ℕ) → Sent before now bytes (text_of (parts_of running (drop i lines) asked)) → AppendsFront now after (commented (answers_to running asked)) → AppendsFront before after bytes
  sent_last_part before now after bytes sent part =
      Sent_part before now after bytes (commented (answers_to running asked)) [] (subst (Sent before now bytes) (last-line ∙ sym (append-nil (commented (answers_to running asked)))) sent) part

-- before the first line all of it is left
pub sent_opening : (script : Script) (running : Running) (lines : List Line) (asked : List KeptLine) → running ≡ opening_of script → lines ≡ script.lines → (written : Option (List ℕ))
    → Sent written written (text_of (probed script asked)) (text_of (parts_of running lines asked))
sent_opening script running lines asked opened are written =
    subst (λ (l : List ℕ). Sent written written (text_of (probed script asked)) l)
    (sym (ap (λ (r : Running). text_of (parts_of r lines asked)) opened ∙ ap (λ (l : List Line). text_of (parts_of (opening_of script) l asked)) are))
    (Sent_start written (text_of (probed script asked)))

-- how far a script is run: the world for which its clusters stand, and what is left to send
pub record IsUnderWay (script : Script) (asked : List KeptLine) (standing : WorldValue) (lines : List Line) (left : List KeptLine) (before now : Option (List ℕ)) : Type 0 where
  pub whole : World
  pub stands : StandFor standing.world standing.reports whole
  pub sent : Sent before now (text_of (probed script asked)) (text_of (parts_of (at_world standing whole) lines left))

-- the questions that are left after those above a line
pub below_is : (number place : ℕ) (asked taken : List KeptLine) → taken ≡ above number (drop place asked) → below number (drop place asked) ≡ drop (place + length taken) asked
below_is number place asked taken is =
    ap (λ (n : ℕ). drop n (drop place asked)) (sym (ap length is ∙ length-prefix_len (stands_above number) (drop place asked))) ∙ drop-drop (length taken) place asked

-- the text of a line, by the clusters before it and after it
pub line_is : (header : Header) (before after : WorldValue) (line : Line) (asked : List KeptLine) (w : World) (told : List ℕ) → before.header ≡ header → before.world ≡ bare w
    → after.world ≡ bare (world_behind w (ran_at (at_world before w) line)) → told ≡ answers_of (ran_at (at_world before w) line)
    → (commented (flat_map (answer_to header before.world) asked) ++ told) ++ commented (noticed header line.act after.world) ≡ line_text (at_world before w) line asked
line_is header before after line asked w told headed stood stands answers =
    let ran = ran_at (at_world before w) line in
    ap (λ (v : World). (commented (flat_map (answer_to header v) asked) ++ told) ++ commented (noticed header line.act after.world)) stood
    ∙ ap (λ (v : World). (commented (flat_map (answer_to header (bare w)) asked) ++ told) ++ commented (noticed header line.act v)) stands
    ∙ ap (λ (l : List ℕ). (commented (flat_map (answer_to header (bare w)) asked) ++ l) ++ commented (noticed header line.act (bare (world_behind w ran)))) answers
    ∙ ap (λ (h : Header). (commented (flat_map (answer_to h (bare w)) asked) ++ answers_of ran) ++ commented (noticed h line.act (bare (world_behind w ran)))) (sym headed)
    ∙ append_assoc (commented (answers_to (at_world before w) asked)) (answers_of ran) (commented (noticed_behind (at_world before w) line))

-- the answers after the last line, by the clusters there
pub last_is : (header : Header) (standing : WorldValue) (asked : List KeptLine) (w : World) → standing.header ≡ header → standing.world ≡ bare w
    → commented (flat_map (answer_to header standing.world) asked) ≡ commented (answers_to (at_world standing w) asked)
last_is header standing asked w headed stands =
    ap (λ (v : World). commented (flat_map (answer_to header v) asked)) stands ∙ ap (λ (h : Header). commented (flat_map (answer_to h (bare w)) asked)) (sym headed)

-- what lines answer, of those that are left
told-left : (running : Running) (lines : List Line) (asked : List KeptLine) → told_of_lines (parts_of running lines asked) ≡ answers_of (left_of running lines)
told-left running [] asked = refl
told-left running (line ∷ lines) asked =
    ap (λ (l : List ℕ). answers_of (ran_at running line) ++ l) (told-left (behind_line running line) lines (below line.number asked))
    ∙ sym (ap answers_of (left_more running line lines) ∙ flat_map-append answer_text (ran_at running line) (left_of (behind_line running line) lines))

pub told_is_report : (script : Script) (asked : List KeptLine) → told_of_lines (probed script asked) ≡ report_of script [] []
told_is_report script asked = told-left (opening_of script) script.lines asked ∙ sym (append-nil (answers_of (ran_of script) ++ []) ∙ append-nil (answers_of (ran_of script)))
