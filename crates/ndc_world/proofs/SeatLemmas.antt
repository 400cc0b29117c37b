-- What the lines of indexers are after a script, by what was asked for.
use Rattle.std.proofs.Common.{◌≡◌, ◌≢◌, ℕ, Bool, true, false, List, [], ◌∷◌, ◌++◌, length, map, drop, get_or, Option, Some, None, refl, ap, sym, subst, ◌∙◌, arith}
use Rattle.std.specs.Prelude.{AllPairs, ◌||◌, codes, decimal, if◌then◌else◌, is_some}
use Rattle.std.specs.List.{flat_map}
use Rattle.std.specs.Str.{bytes_eq}
use Rattle.std.proofs.lemmas.Bool.{and_parts, false≢true}
use Rattle.std.proofs.lemmas.List.{append_assoc, append-nil}
use Rattle.std.proofs.lemmas.Slice.Eq.{bytes_eq-Decides}
use Rattle.ndc_script_types.specs.declared.script.Script.{Script}
use Rattle.ndc_event.specs.declared.name.Name.{Name}
use Rattle.ndc_index.specs.Lines.{calls_well, index_line, index_lines, is_dropped}
use Rattle.ndc_index.specs.Texts.{events_told, kinds_text, open_text, signals_text}
use Rattle.ndc_index.specs.Seats.{Chosen, IndexerValue, SeatValue, after_all, all_known, chosen, chosen_of, indexer_of, new_seat, seat_in, seat_line, seat_of, seats_known, shown}
use Rattle.ndc_index.specs.declared.seen.Seen.{Seen}
use Rattle.ndc_index.proofs.LawLemmas.{first_chosen, lines_are_index_lines}
use Rattle.ndc_model.specs.Lines.{answers_of, ran_of, seen_in}
use Rattle.ndc_model.specs.Report.{report_of}
use Rattle.ndc_port.specs.Bytes.{Appends, AppendsFront, Sent}
use Rattle.ndc_port.proofs.Steps.{Sent_end, Sent_part, Sent_piece}
use Rattle.ndc_world.specs.Rest.{kept_where}
use Rattle.ndc_world.proofs.LeftLemmas.{kept_serves}
use Rattle.ndc_world.specs.Seats.{AreNew, AreShipped, Reports, ReportsFront, WritesAll, WritesFront, all_asked, asked_for, failing_of, is_shipped, seat_lines, told_text}

-- the seat of a name is that of an indexer of the name that was told nothing
abbrev IsNew : List IndexerValue → Name → Type 0
IsNew all name = seat_in all name ≡ new_seat name (shown name (failing_of (indexer_of name all)) [])

next-new : (name : Name) (one : IndexerValue) (all : List IndexerValue) → one.list ≡ [] → (is_some (indexer_of name all) ≡ true → IsNew all name) → is_some (indexer_of name (one ∷ all)) ≡ true → IsNew (one ∷ all) name
next-new name one all empty rest = by (bytes_eq one.title name) refl
  where
    by : (b : Bool) → bytes_eq one.title name ≡ b → is_some (indexer_of name (one ∷ all)) ≡ true → IsNew (one ∷ all) name
    by true e some =
        let titled : one.title ≡ name = (bytes_eq-Decides one.title name).0 e in
        let same : one ≡ shown name one.failing [] = ap (λ (t : List ℕ). shown t one.failing one.list) titled ∙ ap (λ (l : List Seen). shown name one.failing l) empty in
        rw e (ap (λ (o : IndexerValue). seat_of name 0 (Some o)) same)
    by false e some = let there : is_some (indexer_of name all) ≡ true = rw e at some in rw e (rest there)

new-seat : (name : Name) (all : List IndexerValue) → AreNew all → is_some (indexer_of name all) ≡ true → IsNew all name
new-seat name [] new some = absurd (false≢true some)
new-seat name (one ∷ all) new some = next-new name one all new.0 (new-seat name all new.1) some

-- the line of a name's seat that was told all
line-shown : (all : List IndexerValue) (name : Name) (own : List ℕ) (seen : List Seen) → AreNew all → is_some (indexer_of name all) ≡ true → seat_line (after_all seen (seat_in all name)) own ≡ index_line seen (asked_for all name own)
line-shown all name own seen new some =
    ap (λ (s : SeatValue). seat_line (after_all seen s) own) (new-seat name all new some) ∙ lines_are_index_lines name (failing_of (indexer_of name all)) own seen

-- the lines of seats, as they are shown after what was told
pub lines_shown : {X : Type 0} (value : X → SeatValue) (own : X → List ℕ) (seen : List Seen) (xs : List X) (seats : List SeatValue) → map value xs ≡ map (after_all seen) seats
    → flat_map (λ x. seat_line (value x) (own x)) xs ≡ seat_lines seen seats (map own xs)
lines_shown value own seen [] [] same = refl
lines_shown value own seen [] (seat ∷ seats) same = absurd (let e = ap length same in omega (arith, e))
lines_shown value own seen (x ∷ xs) [] same = absurd (let e = ap length same in omega (arith, e))
lines_shown value own seen (x ∷ xs) (seat ∷ seats) same =
    let first : value x ≡ after_all seen seat = ap (λ (l : List SeatValue). get_or l 0 (value x)) same in
    let rest : map value xs ≡ map (after_all seen) seats = ap (λ (l : List SeatValue). drop 1 l) same in
    ap (λ (s : SeatValue). seat_line s (own x) ++ flat_map (λ y. seat_line (value y) (own y)) xs) first
    ∙ ap (λ (l : List ℕ). seat_line (after_all seen seat) (own x) ++ l) (lines_shown value own seen xs seats rest)

-- the lines of names' seats are index lines
seats-index : (all : List IndexerValue) (seen : List Seen) → AreNew all → (names : List Name) (owns : List (List ℕ)) → all_known all names ≡ true
    → seat_lines seen (map (seat_in all) names) owns ≡ index_lines seen (all_asked all names owns)
seats-index all seen new [] owns known = refl
seats-index all seen new (name ∷ names) [] known =
    let parts = and_parts (is_some (indexer_of name all)) (all_known all names) known in
    ap (λ (l : List ℕ). l ++ seat_lines seen (map (seat_in all) names) []) (line-shown all name [] seen new parts.0)
    ∙ ap (λ (l : List ℕ). index_line seen (asked_for all name []) ++ l) (seats-index all seen new names [] parts.1)
seats-index all seen new (name ∷ names) (own ∷ owns) known =
    let parts = and_parts (is_some (indexer_of name all)) (all_known all names) known in
    ap (λ (l : List ℕ). l ++ seat_lines seen (map (seat_in all) names) owns) (line-shown all name own seen new parts.0)
    ∙ ap (λ (l : List ℕ). index_line seen (asked_for all name own) ++ l) (seats-index all seen new names owns parts.1)

-- names are known, each part of them
known-parts : (all : List IndexerValue) (names more : List Name) → all_known all (names ++ more) ≡ true → (all_known all names ≡ true) × (all_known all more ≡ true)
known-parts all [] more known = (refl, known)
known-parts all (name ∷ names) more known =
    let parts = and_parts (is_some (indexer_of name all)) (all_known all (names ++ more)) known in
    let rest = known-parts all names more parts.1 in
    (rw parts.0 rest.0, rest.1)

-- seats were chosen for names: each has the first indexer of its name
pub record AreSeated (all : List IndexerValue) (names late : List Name) (asked behind : List SeatValue) : Type 0 where
  pub both_known : all_known all (names ++ late) ≡ true
  pub known : all_known all names ≡ true
  pub late_known : all_known all late ≡ true
  pub asked_are : asked ≡ map (seat_in all) names
  pub late_are : behind ≡ map (seat_in all) late

pub seated_chosen : (all : List IndexerValue) (names late : List Name) (asked behind : List SeatValue) → AllPairs (λ one two. one ≢ two) (names ++ late) → chosen names late all ≡ Some (chosen_of asked behind)
    → AreSeated all names late asked behind
seated_chosen all names late asked behind differ is = by (all_known all (names ++ late)) refl
  where
    both : seats_known all names late ≡ Some (chosen_of asked behind)
    both = sym (first_chosen names late all differ) ∙ is

    or_empty : Option Chosen → Chosen
    or_empty None = chosen_of [] []
    or_empty (Some c) = c

    by : (b : Bool) → all_known all (names ++ late) ≡ b → AreSeated all names late asked behind
    by true e =
        let found : Some (chosen_of (map (seat_in all) names) (map (seat_in all) late)) ≡ Some (chosen_of asked behind) = rw e at both in
        let parts = known-parts all names late e in
        record {
          both_known = e;
          known = parts.0;
          late_known = parts.1;
          asked_are = sym (ap (λ (o : Option Chosen). (or_empty o).asked) found);
          late_are = sym (ap (λ (o : Option Chosen). (or_empty o).late) found);
        }
    by false e =
        let found : None ≡ Some (chosen_of asked behind) = rw e at both in
        absurd (false≢true (ap (λ (o : Option Chosen). is_some o) found))

-- no seats were chosen: a name has no indexer
pub unknown_chosen : (all : List IndexerValue) (names late : List Name) → AllPairs (λ one two. one ≢ two) (names ++ late) → chosen names late all ≡ None → all_known all (names ++ late) ≡ false
unknown_chosen all names late differ is = by (all_known all (names ++ late)) refl
  where
    none : seats_known all names late ≡ None
    none = sym (first_chosen names late all differ) ∙ is

    by : (b : Bool) → all_known all (names ++ late) ≡ b → all_known all (names ++ late) ≡ false
    by true e =
        let found : Some (chosen_of (map (seat_in all) names) (map (seat_in all) late)) ≡ None = rw e at none in
        absurd (false≢true (sym (ap (λ (o : Option Chosen). is_some o) found)))
    by false e = e

-- what an indexer that ships shows has nothing of its own in it
own-aside : (kinds opened signals : Bool) (a b c own : List ℕ) → (kinds || (opened || signals)) ≡ true → (if kinds then a else if opened then b else if signals then c else own) ≡ (if kinds then a else if opened then b else if signals then c else [])
own-aside true opened signals a b c own is = refl
own-aside false true signals a b c own is = refl
own-aside false false true a b c own is = refl
own-aside false false false a b c own is = absurd (false≢true is)

line-alone : (seen : List Seen) (all : List IndexerValue) (name : Name) (own : List ℕ) → is_shipped name ≡ true → index_line seen (asked_for all name own) ≡ index_line seen (asked_for all name [])
line-alone seen all name own is =
    ap
    (λ (text : List ℕ). codes "index " ++ name ++ codes " " ++ (if is_dropped (asked_for all name []) seen then codes "failed after " ++ decimal (calls_well (failing_of (indexer_of name all)) 1 seen) else text) ++ codes "\n")
    (own-aside (bytes_eq name (codes "kinds")) (bytes_eq name (codes "open")) (bytes_eq name (codes "signals")) (kinds_text (events_told seen)) (open_text (events_told seen)) (signals_text (events_told seen)) own is)

nothing-own : (seen : List Seen) (all : List IndexerValue) (names : List Name) (owns : List (List ℕ)) → AreShipped names → index_lines seen (all_asked all names owns) ≡ index_lines seen (all_asked all names [])
nothing-own seen all [] owns shipped = refl
nothing-own seen all (name ∷ names) [] shipped = refl
nothing-own seen all (name ∷ names) (own ∷ owns) shipped =
    λ i. line-alone seen all name own shipped.0 i ++ nothing-own seen all names owns shipped.1 i

-- what is written of the seats of names is the report
module _ (all : List IndexerValue) (script : Script) (names late : List Name) (asked behind : List SeatValue) (new : AreNew all) (seated : AreSeated all names late asked behind) where
  is-report : (owns late_owns : List (List ℕ)) → told_text script asked behind owns late_owns ≡ report_of script (all_asked all names owns) (all_asked all late late_owns)
  is-report owns late_owns =
      ap (λ (l : List SeatValue). told_text script l behind owns late_owns) seated.asked_are
      ∙ ap (λ (l : List SeatValue). told_text script (map (seat_in all) names) l owns late_owns) seated.late_are
      ∙ ap (λ (l : List ℕ). answers_of (ran_of script) ++ (l ++ seat_lines (seen_in (ran_of script)) (map (seat_in all) late) late_owns)) (seats-index all (seen_in (ran_of script)) new names owns seated.known)
      ∙ ap (λ (l : List ℕ). answers_of (ran_of script) ++ (index_lines (seen_in (ran_of script)) (all_asked all names owns) ++ l)) (seats-index all (seen_in (ran_of script)) new late late_owns seated.late_known)
      ∙ sym (append_assoc (answers_of (ran_of script)) (index_lines (seen_in (ran_of script)) (all_asked all names owns)) (index_lines (seen_in (ran_of script)) (all_asked all late late_owns)))

  pub reports_whole : (before after : Option (List ℕ)) → WritesAll script asked behind before after → Reports script all names late before after
  reports_whole before after given =
      let written = subst (Appends before after) (is-report given.0 given.1) given.2 in
      record {
        owns = given.0;
        late_owns = given.1;
        written = written;
        one_text = λ shipped late_shipped. subst (λ (l : List ℕ). Appends before after (report l (index_lines (seen_in (ran_of script)) (all_asked all late []))))
            (nothing-own (seen_in (ran_of script)) all names given.0 shipped)
            (subst (λ (l : List ℕ). Appends before after (report (index_lines (seen_in (ran_of script)) (all_asked all names given.0)) l)) (nothing-own (seen_in (ran_of script)) all late given.1 late_shipped) written);
      }
    where
      report : List ℕ → List ℕ → List ℕ
      report lines more = answers_of (ran_of script) ++ lines ++ more

  pub reports_front : (before after : Option (List ℕ)) → WritesFront script asked behind before after → ReportsFront script all names late before after
  reports_front before after given = (given.0, given.1, subst (AppendsFront before after) (is-report given.0 given.1) given.2)

-- a prefix of the answers is a prefix of all that is written
pub front_answers : (script : Script) (asked late : List SeatValue) (before after : Option (List ℕ)) → AppendsFront before after (answers_of (ran_of script)) → WritesFront script asked late before after
front_answers script asked late before after part =
    let more = seat_lines (seen_in (ran_of script)) asked [] ++ seat_lines (seen_in (ran_of script)) late [] in
    ([], [], (part.0 ++ more, (part.1.0, ap (λ (l : List ℕ). l ++ more) part.1.1 ∙ append_assoc part.1.0 part.0 more, part.1.2)))

-- seats that represent others
pub same_seats : {V X : Type 0} (items : V → List X) (value : X → SeatValue) (now old : V) (all : List SeatValue) → now ≡ old → map value (items old) ≡ all → map value (items now) ≡ all
same_seats items value now old all same is = ap (λ v. map value (items v)) same ∙ is

-- late seats that were told what was kept for them
pub late_told : {V X : Type 0} (items : V → List X) (value : X → SeatValue) (new now old : V) (keeps : Bool) (told seen : List Seen) → map value (items new) ≡ map (after_all told) (map value (items now)) → now ≡ old → told ≡ kept_where keeps seen
    → (keeps ≡ false → map value (items old) ≡ []) → map value (items new) ≡ map (after_all seen) (map value (items old))
late_told items value new now old keeps told seen is same kept none =
    is ∙ ap (λ v. map (after_all told) (map value (items v))) same ∙ ap (λ (l : List Seen). map (after_all l) (map value (items old))) kept ∙ kept_serves (map value (items old)) keeps seen none

-- after the answers the lines of all seats are written
module _ {X : Type 0} (value : X → SeatValue) (own : X → List ℕ) (script : Script) (asked late : List SeatValue) (xs ys : List X)
    (told : map value xs ≡ map (after_all (seen_in (ran_of script))) asked) (late_are : map value ys ≡ map (after_all (seen_in (ran_of script))) late)
    (before now after : Option (List ℕ)) (lines : List ℕ) (shows : lines ≡ flat_map (λ x. seat_line (value x) (own x)) xs ++ flat_map (λ x. seat_line (value x) (own x)) ys) (answered : Appends before now (answers_of (ran_of script))) where
  lines-are : lines ≡ seat_lines (seen_in (ran_of script)) asked (map own xs) ++ seat_lines (seen_in (ran_of script)) late (map own ys)
  lines-are =
      shows ∙ ap (λ (l : List ℕ). l ++ flat_map (λ x. seat_line (value x) (own x)) ys) (lines_shown value own (seen_in (ran_of script)) xs asked told)
      ∙ ap (λ (l : List ℕ). seat_lines (seen_in (ran_of script)) asked (map own xs) ++ l) (lines_shown value own (seen_in (ran_of script)) ys late late_are)

  abbrev text : List ℕ
  text = seat_lines (seen_in (ran_of script)) asked (map own xs) ++ seat_lines (seen_in (ran_of script)) late (map own ys)

  sent : Sent before now (answers_of (ran_of script) ++ text) text
  sent = (answers_of (ran_of script), refl, answered)

  pub ends_whole : Appends now after lines → WritesAll script asked late before after
  ends_whole whole = (
    map own xs,
    map own ys,
    Sent_end before after (answers_of (ran_of script) ++ text)
        (Sent_piece before now after (answers_of (ran_of script) ++ text) text [] (subst (Sent before now (answers_of (ran_of script) ++ text)) (sym (append-nil text)) sent) (subst (Appends now after) lines-are whole)),
  )

  pub ends_front : AppendsFront now after lines → WritesFront script asked late before after
  ends_front front = (
    map own xs,
    map own ys,
    Sent_part before now after (answers_of (ran_of script) ++ text) text [] (subst (Sent before now (answers_of (ran_of script) ++ text)) (sym (append-nil text)) sent) (subst (AppendsFront now after) lines-are front),
  )

-- what was put after nothing
pub from_nothing : (bytes front more : List ℕ) → front ≡ [] → bytes ≡ front ++ more → bytes ≡ more
from_nothing bytes front more none is = is ∙ ap (λ (l : List ℕ). l ++ more) none
