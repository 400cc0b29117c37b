use Rattle.std.proofs.Common.{◌≡◌, ◌<◌, ◌+◌, Ok, ℕ, [], length, drop, sym, ap, ◌∙◌, arith}
use Rattle.std.proofs.lemmas.List.Elements.{All-push}
use Rattle.ndc_script_read.specs.Body.{act_read, body_behind}
use Rattle.ndc_script_words.specs.Text.{KeptLine}
use Rattle.ndc_script_types.specs.WellFormed.{IsWellFormedAct}
use Rattle.ndc_script_types.specs.declared.script.Line.{Line}
use Rattle.ndc_script_words.specs.declared.text.Reading.TheVariants.{Readable}
use Rattle.ndc_script_read.proofs.LineLists.{behind}
use Rattle.ndc_script_read.proofs.ReadSteps.{passed_step, line_step}
use Rattle.ndc_script_read.proofs.body.body_of.Goals as goal
use Rattle.ndc_script_read.proofs.body.body_of.Goals.{then-within-gt0, else-within-gt0+in_ok-act+in_ok-push}

pub loop-place-preserved : goal.loop-place-preserved
loop-place-preserved c =
    let header = c.args.header.now in
    let lines = c.args.lines.now in
    let place = c.loop-place.place in
    let front = c.loop-place.body.items in
    let below : place < length lines = omega arith in
    let none : KeptLine = record { number = 0; reading = Readable; words = [] } in
    elim c.if-within-gt0.branch [
      | then-within-gt0 w ↦ record {
        read =
            rw (w.body-is, w.within-is)
            (ap (behind front) (sym (passed_step header c.args.end c.loop-place.within lines place none w.if-within-gt0.true below)) ∙ c.loop-place.invariant.read);
        well_formed = rw w.body-is c.loop-place.invariant.well_formed;
      }
      | else-within-gt0+in_ok-act+in_ok-push w ↦
          let zero : c.loop-place.within ≡ 0 = omega arith in
          let line = w.index-lines-place.result in
          let asked = w.in_ok-act.act in
          let read : act_read header c.args.end line.number line.reading line.words (drop (place + 1) lines) ≡ Ok asked = rw w.split_at.ensures.back at w.in_ok-act.ensures.answer in
          record {
            read =
                rw (w.body-is, w.within-is, w.lines_within-within.ensures, w.in_ok-push.ensures.items, w.number.ensures)
                (sym (line_step header c.args.end front lines place line asked below w.index-lines-place.is read)
                ∙ ap (λ (n : ℕ). behind front (body_behind header c.args.end n (drop place lines))) (sym zero)
                ∙ c.loop-place.invariant.read);
            well_formed =
                rw (w.body-is, w.in_ok-push.ensures.items)
                (All-push (λ (one : Line). IsWellFormedAct header one.act) front (record { number = w.number.result; act = asked }) c.loop-place.invariant.well_formed w.in_ok-act.ensures.well_formed);
          }
    ]
