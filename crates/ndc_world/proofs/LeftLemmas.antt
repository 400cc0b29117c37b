-- Lines of a script that run one after the other.
use Rattle.std.proofs.Common.{◌≡◌, ℕ, ◌+◌, ◌<◌, ◌≤◌, Bool, true, false, List, [], ◌∷◌, ◌++◌, length, map, drop, get_or, refl, ap, sym, subst, ◌∙◌, arith}
use Rattle.std.specs.Prelude.{Option, ◌==◌, not}
use Rattle.std.proofs.lemmas.Bool.{eqb-true, false≢true}
use Rattle.std.proofs.lemmas.Grind.{flat_map-append}
use Rattle.std.proofs.lemmas.List.{append_assoc, append-nil, at_drop_all, at_drop_more, length-append}
use Rattle.ndc_script_types.specs.Print.{body_lines, header_lines}
use Rattle.ndc_script_types.specs.WellFormed.{IsWellFormed, IsWellFormedAct}
use Rattle.ndc_script_types.specs.declared.script.Header.{Header}
use Rattle.ndc_script_types.specs.declared.script.Line.{Line}
use Rattle.ndc_script_types.specs.declared.script.Script.{Script}
use Rattle.ndc_laws_reached.proofs.ScriptLemmas.{lines-short}
use Rattle.ndc_index.specs.Seats.{SeatValue, after_all, after_told}
use Rattle.ndc_index.specs.declared.seen.Seen.{Seen}
use Rattle.ndc_model.specs.Lines.{AnsweredLine, answer_text, answers_of, lines_of_act, plain_lines, ran_of, seen_in, world_behind}
use Rattle.ndc_model.specs.World.{World, opening_world}
use Rattle.ndc_model.specs.Standing.{StandFor}
use Rattle.ndc_model.proofs.ListLemmas.{all-listed}
use Rattle.ndc_model.proofs.ScriptLemmas.{runs_in_parts}
use Rattle.ndc_port.specs.Bytes.{Appends, AppendsFront, Sent}
use Rattle.ndc_port.proofs.Steps.{Sent_end, Sent_part, Sent_piece, Sent_start}
use Rattle.ndc_world.specs.Rest.{MayRun, at_world, kept_where, left_of, opening_of}
use Rattle.ndc_world.specs.Running.{Running, behind_line, ran_at}
use Rattle.ndc_world.specs.Standing.{WorldValue}

-- a well-formed script may run
pub opening_may_run : (script : Script) → IsWellFormed script → MayRun script.header 0 script.lines
opening_may_run script is = record {
  fit = all-listed (λ line. IsWellFormedAct script.header line.act) script.lines is.lines;
  few = omega (arith, is.short, lines-short script.header script.lines, length-append (header_lines script.header) (body_lines script.header script.lines));
}

-- a seat that is told of some and then of others
told-more : (seen more : List Seen) (seat : SeatValue) → after_all (seen ++ more) seat ≡ after_all more (after_all seen seat)
told-more [] more seat = refl
told-more (one ∷ seen) more seat = told-more seen more (after_told one seat)

pub all_told_more : (seen more : List Seen) (seats : List SeatValue) → map (after_all more) (map (after_all seen) seats) ≡ map (after_all (seen ++ more)) seats
all_told_more seen more [] = refl
all_told_more seen more (seat ∷ seats) = ap (λ (s : SeatValue). s ∷ map (after_all more) (map (after_all seen) seats)) (sym (told-more seen more seat)) ∙ ap (λ (l : List SeatValue). after_all (seen ++ more) seat ∷ l) (all_told_more seen more seats)

pub none_told : (seats : List SeatValue) → map (after_all []) seats ≡ seats
none_told [] = refl
none_told (seat ∷ seats) = ap (λ (l : List SeatValue). seat ∷ l) (none_told seats)

kept-more : (keeps : Bool) (seen more : List Seen) → kept_where keeps (seen ++ more) ≡ kept_where keeps seen ++ kept_where keeps more
kept-more true seen more = refl
kept-more false seen more = refl

-- what was kept serves those that are told late, where it is kept for them
pub kept_serves : (seats : List SeatValue) (keeps : Bool) (seen : List Seen) → (keeps ≡ false → seats ≡ []) → map (after_all (kept_where keeps seen)) seats ≡ map (after_all seen) seats
kept_serves seats true seen none = refl
kept_serves seats false seen none = ap (map (after_all [])) (none refl) ∙ sym (ap (map (after_all seen)) (none refl))

module _ (running : Running) (line : Line) (rest : List Line) where
  -- a line runs, and then the others in the world that it leaves
  pub left_more : left_of running (line ∷ rest) ≡ ran_at running line ++ left_of (behind_line running line) rest
  left_more = runs_in_parts running.header running.world (lines_of_act line.number line.act) (plain_lines rest)

  answers-more : answers_of (left_of running (line ∷ rest)) ≡ answers_of (ran_at running line) ++ answers_of (left_of (behind_line running line) rest)
  answers-more = ap answers_of left_more ∙ flat_map-append answer_text (ran_at running line) (left_of (behind_line running line) rest)

  seen-more : seen_in (left_of running (line ∷ rest)) ≡ seen_in (ran_at running line) ++ seen_in (left_of (behind_line running line) rest)
  seen-more = ap seen_in left_more ∙ flat_map-append (λ run. run.step.seen) (ran_at running line) (left_of (behind_line running line) rest)

  room : MayRun running.header running.lines (line ∷ rest) → running.lines + length (lines_of_act line.number line.act) + length (plain_lines rest) ≤ 100000
  room may = omega (arith, may.few, length-append (lines_of_act line.number line.act) (plain_lines rest))

-- the lines that are left after a place
module _ (running behind : Running) (lines : List Line) (i : ℕ) (line : Line) (within : i < length lines) (is : line ≡ get_or lines i line) (moved : behind ≡ behind_line running line) where
  abbrev rest : List Line
  rest = drop (i + 1) lines

  next : {Y : Type 0} (F : List Line → Y) → F (drop i lines) ≡ F (line ∷ rest)
  next F = at_drop_more F lines i line within ∙ ap (λ (one : Line). F (one ∷ rest)) (sym is)

  next-is : drop i lines ≡ line ∷ rest
  next-is = next (λ l. l)

  pub may_run_line : MayRun running.header running.lines (drop i lines) → IsWellFormedAct running.header line.act
  may_run_line may = (subst (MayRun running.header running.lines) next-is may).fit.0

  pub may_run_room : MayRun running.header running.lines (drop i lines) → running.lines + length (lines_of_act line.number line.act) ≤ 100000
  may_run_room may = omega (arith, room running line rest (subst (MayRun running.header running.lines) next-is may))

  pub may_run_more : MayRun running.header running.lines (drop i lines) → MayRun behind.header behind.lines rest
  may_run_more may =
      let there : MayRun running.header running.lines (line ∷ rest) = subst (MayRun running.header running.lines) next-is may in
      subst (λ (r : Running). MayRun r.header r.lines rest) (sym moved) (record { fit = there.fit.1; few = omega (arith, room running line rest there) })

  answers-next : answers_of (left_of running (drop i lines)) ≡ answers_of (ran_at running line) ++ answers_of (left_of behind rest)
  answers-next =
      next (λ l. answers_of (left_of running l)) ∙ answers-more running line rest
      ∙ ap (λ (r : Running). answers_of (ran_at running line) ++ answers_of (left_of r rest)) (sym moved)

  seen-next : seen_in (left_of running (drop i lines)) ≡ seen_in (ran_at running line) ++ seen_in (left_of behind rest)
  seen-next =
      next (λ l. seen_in (left_of running l)) ∙ seen-more running line rest
      ∙ ap (λ (r : Running). seen_in (ran_at running line) ++ seen_in (left_of r rest)) (sym moved)

  -- the answers of a line are written whole
  pub sent_line : (before now after : Option (List ℕ)) (bytes : List ℕ) → Sent before now bytes (answers_of (left_of running (drop i lines))) → Appends now after (answers_of (ran_at running line))
      → Sent before after bytes (answers_of (left_of behind rest))
  sent_line before now after bytes sent taken = Sent_piece before now after bytes (answers_of (ran_at running line)) (answers_of (left_of behind rest)) (subst (Sent before now bytes) answers-next sent) taken

  -- of the answers of a line only a prefix is written
  pub sent_part : (before now after : Option (List ℕ)) (bytes : List ℕ) → Sent before now bytes (answers_of (left_of running (drop i lines))) → AppendsFront now after (answers_of (ran_at running line))
      → AppendsFront before after bytes
  sent_part before now after bytes sent part = Sent_part before now after bytes (answers_of (ran_at running line)) (answers_of (left_of behind rest)) (subst (Sent before now bytes) answers-next sent) part

  -- what a line made learned is kept
  pub kept_line : (keeps : Bool) (all old new : List Seen) (seen : List Seen) → seen ≡ seen_in (ran_at running line) → new ≡ old ++ kept_where keeps seen
      → old ++ kept_where keeps (seen_in (left_of running (drop i lines))) ≡ all → new ++ kept_where keeps (seen_in (left_of behind rest)) ≡ all
  kept_line keeps all old new seen same pushed before =
      ap (λ (l : List Seen). l ++ kept_where keeps (seen_in (left_of behind rest))) pushed
      ∙ append_assoc old (kept_where keeps seen) (kept_where keeps (seen_in (left_of behind rest)))
      ∙ ap (λ (l : List Seen). old ++ (kept_where keeps l ++ kept_where keeps (seen_in (left_of behind rest)))) same
      ∙ ap (λ (l : List Seen). old ++ l) (sym (kept-more keeps (seen_in (ran_at running line)) (seen_in (left_of behind rest))))
      ∙ ap (λ (l : List Seen). old ++ kept_where keeps l) (sym seen-next)
      ∙ before

  -- and told
  pub told_line : (all old new : List SeatValue) (seen : List Seen) → seen ≡ seen_in (ran_at running line) → new ≡ map (after_all seen) old
      → map (after_all (seen_in (left_of running (drop i lines)))) old ≡ all → map (after_all (seen_in (left_of behind rest))) new ≡ all
  told_line all old new seen same told before =
      ap (map (after_all (seen_in (left_of behind rest)))) (told ∙ ap (λ (l : List Seen). map (after_all l) old) same)
      ∙ all_told_more (seen_in (ran_at running line)) (seen_in (left_of behind rest)) old
      ∙ ap (λ (l : List Seen). map (after_all l) old) (sym seen-next)
      ∙ before

-- where no line is left
pub none_left : (running : Running) (lines : List Line) (i : ℕ) → drop i lines ≡ [] → left_of running (drop i lines) ≡ []
none_left running lines i none = ap (left_of running) none

-- seats that are told of one more
told-cons : (one : Seen) (seen : List Seen) (seats : List SeatValue) → map (after_all seen) (map (after_told one) seats) ≡ map (after_all (one ∷ seen)) seats
told-cons one seen [] = refl
told-cons one seen (seat ∷ seats) = ap (λ (l : List SeatValue). after_all seen (after_told one seat) ∷ l) (told-cons one seen seats)

pub told_next : (seen : List Seen) (i : ℕ) (one : Seen) (old now all : List SeatValue) → i < length seen → one ≡ get_or seen i one → now ≡ map (after_told one) old
    → map (after_all (drop i seen)) old ≡ all → map (after_all (drop (i + 1) seen)) now ≡ all
told_next seen i one old now all within is told before =
    ap (map (after_all (drop (i + 1) seen))) told
    ∙ told-cons one (drop (i + 1) seen) old
    ∙ ap (λ (x : Seen). map (after_all (x ∷ drop (i + 1) seen)) old) is
    ∙ sym (at_drop_more (λ l. map (after_all l) old) seen i one within)
    ∙ before

-- seats that were told all
pub told_all : (seen : List Seen) (i : ℕ) (now all : List SeatValue) → length seen ≤ i → map (after_all (drop i seen)) now ≡ all → now ≡ all
told_all seen i now all most before = sym (at_drop_all (λ l. map (after_all l) now) seen i most ∙ none_told now) ∙ before

-- before the first line all of the script is left
module _ (script : Script) (running : Running) (lines : List Line) (opened : running ≡ opening_of script) (are : lines ≡ script.lines) where
  left-all : left_of running lines ≡ ran_of script
  left-all = ap (λ (r : Running). left_of r lines) opened ∙ ap (left_of (opening_of script)) are

  pub sent_opening : (written : Option (List ℕ)) → Sent written written (answers_of (ran_of script)) (answers_of (left_of running lines))
  sent_opening written = subst (λ (l : List AnsweredLine). Sent written written (answers_of (ran_of script)) (answers_of l)) (sym left-all) (Sent_start written (answers_of (ran_of script)))

  pub may_opening : IsWellFormed script → MayRun running.header running.lines lines
  may_opening is = subst (λ (r : Running). MayRun r.header r.lines lines) (sym opened) (subst (MayRun script.header 0) (sym are) (opening_may_run script is))

  pub kept_opening : (keeps : Bool) (told : List Seen) → told ≡ [] → told ++ kept_where keeps (seen_in (left_of running lines)) ≡ kept_where keeps (seen_in (ran_of script))
  kept_opening keeps told none = ap (λ (l : List Seen). l ++ kept_where keeps (seen_in (left_of running lines))) none ∙ ap (λ (l : List AnsweredLine). kept_where keeps (seen_in l)) left-all

  pub asked_opening : (seats : List SeatValue) → map (after_all (seen_in (left_of running lines))) seats ≡ map (after_all (seen_in (ran_of script))) seats
  asked_opening seats = ap (λ (l : List AnsweredLine). map (after_all (seen_in l)) seats) left-all

-- after the last line nothing is left
module _ (script : Script) (running : Running) (lines : List Line) (i : ℕ) (most : length lines ≤ i) where
  no-more : {Y : Type 0} (F : List AnsweredLine → Y) → F (left_of running (drop i lines)) ≡ F []
  no-more F = at_drop_all (λ l. F (left_of running l)) lines i most

  pub sent_all : (before now : Option (List ℕ)) (bytes : List ℕ) → Sent before now bytes (answers_of (left_of running (drop i lines))) → Appends before now bytes
  sent_all before now bytes sent = Sent_end before now bytes (subst (Sent before now bytes) (no-more answers_of) sent)

  pub kept_all : (keeps : Bool) (told all : List Seen) → told ++ kept_where keeps (seen_in (left_of running (drop i lines))) ≡ kept_where keeps all → told ≡ kept_where keeps all
  kept_all true told all is = sym (append-nil told) ∙ ap (λ (l : List Seen). told ++ l) (sym (no-more seen_in)) ∙ is
  kept_all false told all is = sym (append-nil told) ∙ is

  pub asked_all : (seats all : List SeatValue) → map (after_all (seen_in (left_of running (drop i lines)))) seats ≡ all → seats ≡ all
  asked_all seats all is = sym (none_told seats) ∙ sym (no-more (λ l. map (after_all (seen_in l)) seats)) ∙ is

true-from : (b : Bool) → not b ≡ false → b ≡ true
true-from true is = refl
true-from false is = absurd (false≢true (sym is))

-- where it is not kept, nobody is to be told late
pub none_kept : {X : Type 0} (value : X → SeatValue) (late : List X) (n : ℕ) (is_empty : Bool) → n ≡ length late → is_empty ≡ (n == 0) → not is_empty ≡ false → map value late ≡ []
none_kept value [] n is_empty count tests none = refl
none_kept value (x ∷ late) n is_empty count tests none =
    let same : n ≡ 0 = eqb-true n 0 (sym tests ∙ true-from is_empty none) in
    absurd (omega (arith, count, same))

-- clusters that represent the opening world, before the first line
pub opened_at : (script : Script) (standing : WorldValue) → standing.header ≡ script.header → standing.lines ≡ 0 → at_world standing (opening_world script.header) ≡ opening_of script
opened_at script standing headed none =
    ap (λ (h : Header). record { header = h; lines = standing.lines; world = opening_world script.header }) headed ∙ ap (λ (n : ℕ). record { header = script.header; lines = n; world = opening_world script.header }) none

-- and after a line
pub moved_at : (standing behind : WorldValue) (w v : World) (line : Line) → behind.header ≡ standing.header → behind.lines ≡ standing.lines + length (lines_of_act line.number line.act) → v ≡ world_behind w (ran_at (at_world standing w) line)
    → at_world behind v ≡ behind_line (at_world standing w) line
moved_at standing behind w v line headed count left =
    ap (λ (h : Header). record { header = h; lines = behind.lines; world = v }) headed
    ∙ ap (λ (n : ℕ). record { header = standing.header; lines = n; world = v }) count
    ∙ ap (λ (u : World). record { header = standing.header; lines = standing.lines + length (lines_of_act line.number line.act); world = u }) left

-- how far a script is run: the world for which its clusters stand, what is left to send, to keep and to tell
pub record IsUnderWay (script : Script) (standing : WorldValue) (lines : List Line) (keeps : Bool) (told : List Seen) (before now : Option (List ℕ)) (asked all : List SeatValue) : Type 0 where
  pub whole : World
  pub stands : StandFor standing.world standing.reports whole
  pub sent : Sent before now (answers_of (ran_of script)) (answers_of (left_of (at_world standing whole) lines))
  pub kept : told ++ kept_where keeps (seen_in (left_of (at_world standing whole) lines)) ≡ kept_where keeps (seen_in (ran_of script))
  pub asked_left : map (after_all (seen_in (left_of (at_world standing whole) lines))) asked ≡ map (after_all (seen_in (ran_of script))) all
