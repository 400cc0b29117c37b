-- Lines of a script that are counted one after the other.
use Rattle.std.proofs.Common.{◌≡◌, ℕ, ◌+◌, ◌<◌, ◌≤◌, List, [], ◌∷◌, ◌++◌, length, drop, get_or, refl, ap, sym, subst, ◌∙◌, arith}
use Rattle.std.proofs.lemmas.List.{at_drop_all, at_drop_more, length-append}
use Rattle.ndc_script_types.specs.declared.script.Header.{Header}
use Rattle.ndc_script_types.specs.declared.script.Line.{Line}
use Rattle.ndc_script_types.specs.declared.script.Script.{Script}
use Rattle.ndc_model.specs.Lines.{AnsweredLine, act_step, lines_of_act, plain_lines, ran_from, ran_of, world_behind}
use Rattle.ndc_model.specs.World.{World, opening_world}
use Rattle.ndc_model.specs.Standing.{StandFor}
use Rattle.ndc_world.specs.Rest.{at_world, last_world, left_of, opening_of}
use Rattle.ndc_world.proofs.LeftLemmas.{left_more}
use Rattle.ndc_world.specs.Counts.{refused_in}
use Rattle.ndc_world.specs.Running.{Running, behind_line, ran_at}
use Rattle.ndc_world.specs.Standing.{WorldValue}

refused-more : (runs more : List AnsweredLine) → refused_in (runs ++ more) ≡ refused_in runs + refused_in more
refused-more [] more = omega arith
refused-more (run ∷ runs) more = let rest = refused-more runs more in omega (arith, rest)

behind-more : (w : World) (runs more : List AnsweredLine) → world_behind w (runs ++ more) ≡ world_behind (world_behind w runs) more
behind-more w [] more = refl
behind-more w (run ∷ runs) more = behind-more run.step.world runs more

-- how far a script is counted: so many answers were given and so many of them are refusals, and these lines are left
pub record IsCounted (script : Script) (running : Running) (answers refused : ℕ) (lines : List Line) : Type 0 where
  pub header : running.header ≡ script.header
  pub answered : answers + length (plain_lines lines) ≡ length (plain_lines script.lines)
  pub count : refused + refused_in (left_of running lines) ≡ refused_in (ran_of script)
  pub world : world_behind running.world (left_of running lines) ≡ last_world script

counted-start : (script : Script) → IsCounted script (opening_of script) 0 0 script.lines
counted-start script = record { header = refl; answered = omega arith; count = omega arith; world = refl }

-- the lines that run are those of the script, with each burst taken apart
count-ran : (header : Header) (w : World) (lines : List Line) → length (ran_from header w lines) ≡ length lines
count-ran header w [] = refl
count-ran header w (line ∷ lines) = let rest = count-ran header (act_step header line.act w).world lines in omega (arith, rest)

-- after the last line
pub record IsCountedAll (script : Script) (running : Running) (answers refused : ℕ) : Type 0 where
  pub header : running.header ≡ script.header
  pub answered : answers ≡ length (ran_of script)
  pub count : refused ≡ refused_in (ran_of script)
  pub world : running.world ≡ last_world script

counted-end : (script : Script) (running : Running) (answers refused : ℕ) → IsCounted script running answers refused [] → IsCountedAll script running answers refused
counted-end script running answers refused is = record {
  header = is.header;
  answered = let e = is.answered in let f = count-ran script.header (opening_world script.header) (plain_lines script.lines) in omega (arith, e, f);
  count = let e = is.count in omega (arith, e);
  world = is.world;
}

-- one more line
counted-line : (script : Script) (running : Running) (answers refused : ℕ) (line : Line) (rest : List Line) → IsCounted script running answers refused (line ∷ rest)
    → IsCounted script (behind_line running line) (answers + length (lines_of_act line.number line.act)) (refused + refused_in (ran_at running line)) rest
counted-line script running answers refused line rest is = record {
  header = is.header;
  answered = let a = is.answered in let b = length-append (lines_of_act line.number line.act) (plain_lines rest) in omega (arith, a, b);
  count = let a = is.count in let b = ap refused_in (left_more running line rest) in let c = refused-more (ran_at running line) (left_of (behind_line running line) rest) in omega (arith, a, b, c);
  world = sym (behind-more running.world (ran_at running line) (left_of (behind_line running line) rest)) ∙ sym (ap (world_behind running.world) (left_more running line rest)) ∙ is.world;
}

-- before the first line
pub counted_opening : (script : Script) (running : Running) (answers refused : ℕ) (lines : List Line) → running ≡ opening_of script → answers ≡ 0 → refused ≡ 0 → lines ≡ script.lines → IsCounted script running answers refused lines
counted_opening script running answers refused lines opened none zero are =
    subst (λ (r : Running). IsCounted script r answers refused lines) (sym opened)
    (subst (λ (n : ℕ). IsCounted script (opening_of script) n refused lines) (sym none)
    (subst (λ (n : ℕ). IsCounted script (opening_of script) 0 n lines) (sym zero)
    (subst (IsCounted script (opening_of script) 0 0) (sym are) (counted-start script))))

-- one more line, where it stands
pub counted_next : (script : Script) (running behind : Running) (answers refused more_answers more_refused : ℕ) (lines : List Line) (i : ℕ) (line : Line) → i < length lines → line ≡ get_or lines i line → behind ≡ behind_line running line
    → more_answers ≡ answers + length (lines_of_act line.number line.act) → more_refused ≡ refused + refused_in (ran_at running line) → IsCounted script running answers refused (drop i lines)
    → IsCounted script behind more_answers more_refused (drop (i + 1) lines)
counted_next script running behind answers refused more_answers more_refused lines i line within is moved answered count before =
    let next : drop i lines ≡ line ∷ drop (i + 1) lines = at_drop_more (λ l. l) lines i line within ∙ ap (λ (one : Line). one ∷ drop (i + 1) lines) (sym is) in
    subst (λ (r : Running). IsCounted script r more_answers more_refused (drop (i + 1) lines)) (sym moved)
    (subst (λ (n : ℕ). IsCounted script (behind_line running line) n more_refused (drop (i + 1) lines)) (sym answered)
    (subst (λ (n : ℕ). IsCounted script (behind_line running line) (answers + length (lines_of_act line.number line.act)) n (drop (i + 1) lines)) (sym count)
    (counted-line script running answers refused line (drop (i + 1) lines) (subst (IsCounted script running answers refused) next before))))

-- after the last line
pub counted_all : (script : Script) (running : Running) (answers refused : ℕ) (lines : List Line) (i : ℕ) → length lines ≤ i → IsCounted script running answers refused (drop i lines) → IsCountedAll script running answers refused
counted_all script running answers refused lines i most before = counted-end script running answers refused (subst (IsCounted script running answers refused) (at_drop_all (λ l. l) lines i most) before)

-- how far a script is counted, in a world for which its clusters stand
pub record IsCounting (script : Script) (value : WorldValue) (lines : List Line) : Type 0 where
  pub whole : World
  pub stands : StandFor value.world value.reports whole
  pub counted : IsCounted script (at_world value whole) value.answers value.refused lines
