-- One step of reading words or lines from left to right.
use Rattle.std.proofs.Common.{◌≡◌, ℕ, zero, suc, ◌+◌, ◌-◌, ◌<◌, Bool, false, List, [], ◌∷◌, ◌++◌, length, map, drop, get_or, Result, Ok, Bor, if◌then◌else◌, sym, ap, ◌∙◌, arith}
use Rattle.std.proofs.lemmas.List.{at_drop_more}
use Rattle.ndc_script_types.specs.Print.{lines_within}
use Rattle.ndc_event.specs.Outcome.{◌>>=◌}
use Rattle.ndc_command.specs.declared.command.Action.{Action}
use Rattle.ndc_script_read.specs.declared.command.Group.{Group}
use Rattle.ndc_script_types.specs.declared.script.Act.{Act}
use Rattle.ndc_script_types.specs.declared.script.BurstJob.{BurstJob}
use Rattle.ndc_script_types.specs.declared.script.Header.{Header}
use Rattle.ndc_script_types.specs.declared.script.Line.{Line}
use Rattle.ndc_script_types.specs.declared.script.ScriptError.{ScriptError}
use Rattle.ndc_script_words.specs.Text.{KeptLine}
use Rattle.ndc_script_read.specs.Commands.{group_of, actions_behind}
use Rattle.ndc_script_read.specs.Body.{is_end, job_read, jobs_of, act_read, body_behind}
use Rattle.ndc_script_read.proofs.LineLists.{behind, behind-one}

-- a word that belongs to the action before is passed over
operand_passed : (line operands : ℕ) (word : List ℕ) (words : List (List ℕ)) → 0 < operands → actions_behind line operands (word ∷ words) ≡ actions_behind line (operands - 1) words
unfolding actions_behind
operand_passed line zero word words some = absurd (omega arith)
operand_passed line (suc operands) word words some =
    let same : operands ≡ suc operands - 1 = omega arith in ap (λ (n : ℕ). actions_behind line n words) same

pub operand_step : (line operands : ℕ) (words : List (Bor (List ℕ))) (i : ℕ) (d : Bor (List ℕ)) → 0 < operands → i < length words → actions_behind line operands (map (λ word. word.now) (drop i words)) ≡ actions_behind line (operands - 1) (map (λ word. word.now) (drop (i + 1) words))
operand_step line operands words i d some within =
    at_drop_more (λ (rest : List (Bor (List ℕ))). actions_behind line operands (map (λ word. word.now) rest)) words i d within
    ∙ operand_passed line operands ((get_or words i d).now) (map (λ word. word.now) (drop (i + 1) words)) some

action_read : (line : ℕ) (front : List Action) (word : List ℕ) (words : List (List ℕ)) (group : Group) → group_of line word words ≡ Ok group → behind front (actions_behind line 0 (word ∷ words)) ≡ behind (front ++ group.action ∷ []) (actions_behind line group.operands words)
unfolding actions_behind
action_read line front word words group is =
    ap (λ (r : Result Group ScriptError). behind front (r >>= (λ g. actions_behind line g.operands words >>= (λ more. Ok (g.action ∷ more))))) is
    ∙ behind-one front group.action (actions_behind line group.operands words)

-- an action is read
pub action_step : (line : ℕ) (front : List Action) (words : List (Bor (List ℕ))) (i : ℕ) (d : Bor (List ℕ)) (group : Group) → i < length words → group_of line ((get_or words i d).now) (map (λ word. word.now) (drop (i + 1) words)) ≡ Ok group → behind front (actions_behind line 0 (map (λ word. word.now) (drop i words))) ≡ behind (front ++ group.action ∷ []) (actions_behind line group.operands (map (λ word. word.now) (drop (i + 1) words)))
action_step line front words i d group within is =
    at_drop_more (λ (rest : List (Bor (List ℕ))). behind front (actions_behind line 0 (map (λ word. word.now) rest))) words i d within
    ∙ action_read line front ((get_or words i d).now) (map (λ word. word.now) (drop (i + 1) words)) group is

job_more : (end : ℕ) (name : List ℕ) (front : List BurstJob) (line : KeptLine) (lines : List KeptLine) (job : BurstJob) → is_end line.reading line.words ≡ false → job_read name line.number line.reading line.words ≡ Ok job → behind front (jobs_of end name (line ∷ lines)) ≡ behind (front ++ job ∷ []) (jobs_of end name lines)
unfolding jobs_of
job_more end name front line lines job goes is =
    ap (λ (b : Bool). behind front (if b then Ok [] else (job_read name line.number line.reading line.words >>= (λ j. jobs_of end name lines >>= (λ more. Ok (j ∷ more)))))) goes
    ∙ ap (λ (r : Result BurstJob ScriptError). behind front (r >>= (λ j. jobs_of end name lines >>= (λ more. Ok (j ∷ more))))) is
    ∙ behind-one front job (jobs_of end name lines)

-- a job of a burst is read
pub job_step : (end : ℕ) (name : List ℕ) (front : List BurstJob) (lines : List KeptLine) (i : ℕ) (line : KeptLine) (job : BurstJob) → i < length lines → line ≡ get_or lines i line → is_end line.reading line.words ≡ false → job_read name line.number line.reading line.words ≡ Ok job → behind front (jobs_of end name (drop i lines)) ≡ behind (front ++ job ∷ []) (jobs_of end name (drop (i + 1) lines))
job_step end name front lines i line job within at goes is =
    at_drop_more (λ (rest : List KeptLine). behind front (jobs_of end name rest)) lines i line within
    ∙ ap (λ (one : KeptLine). behind front (jobs_of end name (one ∷ drop (i + 1) lines))) (sym at)
    ∙ job_more end name front line (drop (i + 1) lines) job goes is

-- a line that belongs to a burst is passed over
line_passed : (header : Header) (end within : ℕ) (line : KeptLine) (lines : List KeptLine) → 0 < within → body_behind header end within (line ∷ lines) ≡ body_behind header end (within - 1) lines
unfolding body_behind
line_passed header end zero line lines some = absurd (omega arith)
line_passed header end (suc within) line lines some =
    let same : within ≡ suc within - 1 = omega arith in ap (λ (n : ℕ). body_behind header end n lines) same

pub passed_step : (header : Header) (end within : ℕ) (lines : List KeptLine) (i : ℕ) (d : KeptLine) → 0 < within → i < length lines → body_behind header end within (drop i lines) ≡ body_behind header end (within - 1) (drop (i + 1) lines)
passed_step header end within lines i d some below =
    at_drop_more (λ (rest : List KeptLine). body_behind header end within rest) lines i d below
    ∙ line_passed header end within (get_or lines i d) (drop (i + 1) lines) some

line_more : (header : Header) (end : ℕ) (front : List Line) (line : KeptLine) (lines : List KeptLine) (asked : Act) → act_read header end line.number line.reading line.words lines ≡ Ok asked → behind front (body_behind header end 0 (line ∷ lines)) ≡ behind (front ++ record { number = line.number; act = asked } ∷ []) (body_behind header end (lines_within asked) lines)
unfolding body_behind
line_more header end front line lines asked is =
    ap (λ (r : Result Act ScriptError). behind front (r >>= (λ act. body_behind header end (lines_within act) lines >>= (λ more. Ok (record { number = line.number; act = act } ∷ more))))) is
    ∙ behind-one front (record { number = line.number; act = asked }) (body_behind header end (lines_within asked) lines)

-- a line of the body is read
pub line_step : (header : Header) (end : ℕ) (front : List Line) (lines : List KeptLine) (i : ℕ) (line : KeptLine) (asked : Act) → i < length lines → line ≡ get_or lines i line → act_read header end line.number line.reading line.words (drop (i + 1) lines) ≡ Ok asked → behind front (body_behind header end 0 (drop i lines)) ≡ behind (front ++ record { number = line.number; act = asked } ∷ []) (body_behind header end (lines_within asked) (drop (i + 1) lines))
line_step header end front lines i line asked within at is =
    at_drop_more (λ (rest : List KeptLine). behind front (body_behind header end 0 rest)) lines i line within
    ∙ ap (λ (one : KeptLine). behind front (body_behind header end 0 (one ∷ drop (i + 1) lines))) (sym at)
    ∙ line_more header end front line (drop (i + 1) lines) asked is
