-- What is read is printed again as the same bytes.
use Rattle.std.proofs.Common.{◌≡◌, ℕ, ◌+◌, Bool, true, false, ◌==◌, List, [], ◌∷◌, ◌++◌, Option, Some, None, Result, Ok, Err, length, codes, if◌then◌else◌, append_assoc, refl, sym, ap, ◌∙◌, subst}
use Rattle.std.specs.List.{flat_map, slice_split, onto_first}
use Rattle.std.specs.Str.{bytes_eq}
use Rattle.std.proofs.lemmas.Bool.{eqb-true}
use Rattle.std.proofs.lemmas.Slice.Eq.{bytes_eq-Decides}
use Rattle.ndc_event.specs.Name.{is_name}
use Rattle.ndc_event.specs.Outcome.{◌>>=◌}
use Rattle.ndc_event.specs.declared.batch.Batch.{Batch}
use Rattle.ndc_event.specs.declared.key.BatchKey.{BatchKey}
use Rattle.ndc_event.specs.declared.name.Name.{Name}
use Rattle.ndc_model_sets.specs.View.{view_of}
use Rattle.ndc_model_sets.specs.declared.view.View.{View}
use Rattle.ndc_text.specs.Read.{read_of}
use Rattle.ndc_text.specs.Text.{batch_text}
use Rattle.ndc_text.specs.Views.{dump_text, run_state_lines}
use Rattle.ndc_text.proofs.Exact.{found}
use Rattle.ndc_text.specs.declared.form.TextForm.{TextForm}
use Rattle.ndc_text.specs.declared.form.TextForm.TheVariants as form
use Rattle.ndc_dump_causes.specs.declared.error.DumpError.{DumpError}
use Rattle.ndc_dump.specs.declared.frame.Heading.{Heading}
use Rattle.ndc_dump.specs.declared.dump.Dump.{Dump}
use Rattle.ndc_dump_causes.specs.declared.error.DumpError.TheVariants.{Line}
use Rattle.ndc_dump_causes.specs.declared.error.LineCause.TheVariants.{BadFrame}
use Rattle.ndc_dump.specs.Batches.{batch_on, batches_on, behind, on_line, out_of_order, view_lines}
use Rattle.ndc_dump_causes.specs.Causes.{sound_or}
use Rattle.ndc_dump.specs.Migrated.{standing_for}
use Rattle.ndc_dump.specs.Read.{dump_of, dump_on, dump_with, shown_or, view_on, view_text}
use Rattle.ndc_dump_causes.proofs.NoCause.{went}
use Rattle.ndc_dump.proofs.ReadLemmas.{line-read, placed}
use Rattle.ndc_dump.specs.Frame.{IsHeaded, begins_batch, begins_first, body_of, form_of, framed, heading_by, heading_of, heading_in, named}
use Rattle.ndc_dump.specs.Lines.{differ_at, lines_of, onto_line, without_end}

-- the lines joined
abbrev pub whole : List (List ℕ) → List ℕ
whole lines = flat_map (λ line. line) lines

onto-whole : (b : ℕ) (lines : List (List ℕ)) → whole (onto_line b lines) ≡ b ∷ whole lines
onto-whole b [] = refl
onto-whole b (line ∷ lines) = refl

pub lines-whole : (bytes : List ℕ) → whole (lines_of bytes) ≡ bytes
lines-whole [] = refl
lines-whole (b ∷ bs) =
    elim (b == 10) as (λ (t : Bool). whole (if t then (b ∷ []) ∷ lines_of bs else onto_line b (lines_of bs)) ≡ b ∷ bs)
    [ true ↦ ap (λ l. b ∷ l) (lines-whole bs) | false ↦ onto-whole b (lines_of bs) ∙ ap (λ l. b ∷ l) (lines-whole bs) ]

-- a line with its end
abbrev pub IsEnded : List ℕ → Type 0
IsEnded line = line ≡ without_end line ++ 10 ∷ []

-- each line but the last has its end
abbrev pub AreEnded : List (List ℕ) → Type 0
AreEnded [] = Unit {0}
AreEnded (line ∷ []) = Unit {0}
AreEnded (line ∷ next ∷ lines) = IsEnded line × AreEnded (next ∷ lines)

end-alone : (b : ℕ) → (b == 10) ≡ true → IsEnded (b ∷ [])
end-alone b e = rw e (ap (λ n. n ∷ []) (eqb-true b 10 e))

ended-onto : (b : ℕ) (line : List ℕ) → (b == 10) ≡ false → IsEnded line → IsEnded (b ∷ line)
ended-onto b line e h = rw e (ap (λ l. b ∷ l) h)

all-onto : (b : ℕ) (lines : List (List ℕ)) → (b == 10) ≡ false → AreEnded lines → AreEnded (onto_line b lines)
all-onto b [] e h = tt
all-onto b (line ∷ []) e h = tt
all-onto b (line ∷ next ∷ lines) e h = (ended-onto b line e h.0, h.1)

all-behind : (b : ℕ) (lines : List (List ℕ)) → (b == 10) ≡ true → AreEnded lines → AreEnded ((b ∷ []) ∷ lines)
all-behind b [] e h = tt
all-behind b (line ∷ lines) e h = (end-alone b e, h)

pub lines-ended : (bytes : List ℕ) → AreEnded (lines_of bytes)
lines-ended [] = tt
lines-ended (b ∷ bs) = by (b == 10) refl (lines-ended bs)
  where
    by : (t : Bool) → (b == 10) ≡ t → AreEnded (lines_of bs) → AreEnded (if t then (b ∷ []) ∷ lines_of bs else onto_line b (lines_of bs))
    by true e h = all-behind b (lines_of bs) e h
    by false e h = all-onto b (lines_of bs) e h

-- lines that do not differ are the same
pub same-lines : (number : ℕ) (lines wanted : List (List ℕ)) → differ_at number lines wanted ≡ None → lines ≡ wanted
same-lines number [] [] h = refl
same-lines number [] (w ∷ wanted) h = absurd (cc)
same-lines number (l ∷ lines) [] h = absurd (cc)
same-lines number (l ∷ lines) (w ∷ wanted) h = by (bytes_eq l w) refl h (same-lines (number + 1) lines wanted)
  where
    by : (t : Bool) → bytes_eq l w ≡ t → (if t then differ_at (number + 1) lines wanted else Some number) ≡ None → (differ_at (number + 1) lines wanted ≡ None → lines ≡ wanted) → l ∷ lines ≡ w ∷ wanted
    by true e h rest = ap (λ x. x ∷ lines) ((bytes_eq-Decides l w).0 e) ∙ ap (λ xs. w ∷ xs) (rest h)
    by false e h rest = absurd (cc)

-- ---- the heading

-- words with single spaces between them
abbrev spaced : List (List ℕ) → List ℕ
spaced [] = []
spaced (word ∷ []) = word
spaced (word ∷ next ∷ words) = word ++ 32 ∷ spaced (next ∷ words)

some-word : (bytes : List ℕ) → (word : List ℕ) × (words : List (List ℕ)) × (slice_split (λ byte. byte == 32) bytes ≡ word ∷ words)
some-word [] = ([], [], refl)
some-word (b ∷ bs) = by (b == 32) (some-word bs)
  where
    by : (t : Bool) → (word : List ℕ) × (words : List (List ℕ)) × (slice_split (λ byte. byte == 32) bs ≡ word ∷ words)
        → (word : List ℕ) × (words : List (List ℕ)) × ((if t then [] ∷ slice_split (λ byte. byte == 32) bs else onto_first b (slice_split (λ byte. byte == 32) bs)) ≡ word ∷ words)
    by true rest = ([], slice_split (λ byte. byte == 32) bs, refl)
    by false rest = (b ∷ rest.0, rest.1, ap (onto_first b) rest.2)

spaced-first : (b : ℕ) (word : List ℕ) (words : List (List ℕ)) → spaced ((b ∷ word) ∷ words) ≡ b ∷ spaced (word ∷ words)
spaced-first b word [] = refl
spaced-first b word (next ∷ words) = refl

spaced-split : (bytes : List ℕ) → spaced (slice_split (λ byte. byte == 32) bytes) ≡ bytes
spaced-split [] = refl
spaced-split (b ∷ bs) = by (b == 32) refl (spaced-split bs)
  where
    by : (t : Bool) → (b == 32) ≡ t → spaced (slice_split (λ byte. byte == 32) bs) ≡ bs
        → spaced (if t then [] ∷ slice_split (λ byte. byte == 32) bs else onto_first b (slice_split (λ byte. byte == 32) bs)) ≡ b ∷ bs
    by true e rest =
        let s = some-word bs in
        ap (λ ws. spaced ([] ∷ ws)) s.2 ∙ ap (λ l. 32 ∷ l) (sym (ap spaced s.2) ∙ rest) ∙ ap (λ n. n ∷ bs) (sym (eqb-true b 32 e))
    by false e rest =
        let s = some-word bs in
        ap (λ ws. spaced (onto_first b ws)) s.2 ∙ spaced-first b s.0 s.1 ∙ ap (λ l. b ∷ l) (sym (ap spaced s.2) ∙ rest)

name-is : (bytes : List ℕ) (name : Name) → named bytes ≡ Some name → bytes ≡ name
name-is bytes name = by (is_name bytes)
  where
    by : (t : Bool) → (if t then Some bytes else None) ≡ Some name → bytes ≡ name
    by true e = cc
    by false e = absurd (cc)

form-two : (word : List ℕ) → form_of word ≡ Some form.Two → word ≡ codes "2"
form-two word e = by (bytes_eq word (codes "1")) (bytes_eq word (codes "2")) refl e
  where
    by : (s t : Bool) → bytes_eq word (codes "2") ≡ t → (if s then Some form.One else if t then Some form.Two else None) ≡ Some form.Two → word ≡ codes "2"
    by true t f e = absurd (cc)
    by false true f e = (bytes_eq-Decides word (codes "2")).0 f
    by false false f e = absurd (cc)

-- the text of a heading, without its line end
abbrev pub heading_text : Heading → List ℕ
heading_text heading = codes "dump 2 " ++ heading.domain ++ codes " " ++ heading.workflow

heading-words : (words : List (List ℕ)) (heading : Heading) → heading_in words ≡ Some heading → heading.form ≡ form.Two → spaced words ≡ heading_text heading
heading-words [] heading e two = absurd (cc)
heading-words (a ∷ []) heading e two = absurd (cc)
heading-words (a ∷ b ∷ []) heading e two = absurd (cc)
heading-words (a ∷ b ∷ c ∷ []) heading e two = absurd (cc)
heading-words (a ∷ b ∷ c ∷ d ∷ e ∷ words) heading h two = absurd (cc)
heading-words (word ∷ number ∷ domain ∷ workflow ∷ []) heading e two = by (bytes_eq word (codes "dump")) refl e
  where
    parts : word ≡ codes "dump" → (f : Option TextForm) (m n : Option Name) → form_of number ≡ f → named domain ≡ m → named workflow ≡ n → heading_by f m n ≡ Some heading
        → spaced (word ∷ number ∷ domain ∷ workflow ∷ []) ≡ heading_text heading
    parts first None m n f g h e = absurd (cc)
    parts first (Some t) None n f g h e = absurd (cc)
    parts first (Some t) (Some x) None f g h e = absurd (cc)
    parts first (Some t) (Some x) (Some y) f g h e =
        let same : record { form = t; domain = x; workflow = y } ≡ heading = cc in
        let is_two : t ≡ form.Two = ap (λ (q : Heading). q.form) same ∙ two in
        ap (λ w. spaced (w ∷ number ∷ domain ∷ workflow ∷ [])) first
        ∙ ap (λ w. spaced (codes "dump" ∷ w ∷ domain ∷ workflow ∷ [])) (form-two number (f ∙ ap Some is_two))
        ∙ ap (λ w. spaced (codes "dump" ∷ codes "2" ∷ w ∷ workflow ∷ [])) (name-is domain x g)
        ∙ ap (λ w. spaced (codes "dump" ∷ codes "2" ∷ x ∷ w ∷ [])) (name-is workflow y h)
        ∙ sym (append_assoc (codes "dump 2 " ++ x) (codes " ") y ∙ append_assoc (codes "dump 2 ") x (codes " " ++ y))
        ∙ ap heading_text same

    by : (t : Bool) → bytes_eq word (codes "dump") ≡ t → (if t then heading_by (form_of number) (named domain) (named workflow) else None) ≡ Some heading → spaced (word ∷ number ∷ domain ∷ workflow ∷ []) ≡ heading_text heading
    by true f e = parts ((bytes_eq-Decides word (codes "dump")).0 f) (form_of number) (named domain) (named workflow) refl refl refl e
    by false f e = absurd (cc)

pub heading-line : (line : List ℕ) (heading : Heading) → heading_in (slice_split (λ byte. byte == 32) line) ≡ Some heading → heading.form ≡ form.Two → line ≡ heading_text heading
heading-line line heading e two = sym (spaced-split line) ∙ heading-words (slice_split (λ byte. byte == 32) line) heading e two

-- ---- the batches and the view

batch-line : (heading : Heading) (number : ℕ) (last : Option BatchKey) (line : List ℕ) (b : Batch) → batch_on heading number last line ≡ Ok b → without_end line ≡ batch_text b
unfolding batch_on
batch-line heading number last line b e =
    let one = went (on_line number (read_of heading.form (without_end line))) _ b e in
    let two = placed number one.0 b (out_of_order heading last one.0) one.2 in
    (found heading.form (without_end line) one.0 (line-read number (read_of heading.form (without_end line)) one.0 one.1)).1 ∙ ap batch_text two.1

more-batches : (b : Batch) (line : List ℕ) (rest : List (List ℕ)) (r : Result (List Batch) DumpError) (batches : List Batch) (behind_all : List ℕ) → line ≡ batch_text b ++ 10 ∷ []
    → ((bs : List Batch) → r ≡ Ok bs → whole rest ≡ flat_map (λ b. batch_text b ++ codes "\n") bs ++ behind_all) → behind (b ∷ []) r ≡ Ok batches
    → whole (line ∷ rest) ≡ flat_map (λ b. batch_text b ++ codes "\n") batches ++ behind_all
more-batches b line rest (Err error) batches behind_all is more e = absurd (cc)
more-batches b line rest (Ok bs) batches behind_all is more e =
    let same : b ∷ bs ≡ batches = cc in
    ap (λ l. l ++ whole rest) is ∙ ap (λ (l : List ℕ). (batch_text b ++ 10 ∷ []) ++ l) (more bs refl)
    ∙ sym (append_assoc (batch_text b ++ 10 ∷ []) (flat_map (λ b. batch_text b ++ codes "\n") bs) behind_all)
    ∙ ap (λ l. flat_map (λ b. batch_text b ++ codes "\n") l ++ behind_all) same

-- the lines of batches are the texts of the batches
batches-whole : (heading : Heading) (number : ℕ) (last : Option BatchKey) (lines : List (List ℕ)) (batches : List Batch) (v : List ℕ) (vs : List (List ℕ)) → AreEnded lines → view_lines lines ≡ v ∷ vs
    → batches_on heading number last lines ≡ Ok batches → whole lines ≡ flat_map (λ b. batch_text b ++ codes "\n") batches ++ whole (v ∷ vs)
batches-whole heading number last [] batches v vs ended shown = λ e. absurd (cc)
batches-whole heading number last (line ∷ lines) batches v vs ended shown =
    by (begins_batch line) lines ended shown (λ b bs ended shown e. batches-whole heading (number + 1) (Some b.key) lines bs v vs ended shown e)
  where
    rest_ended : (lines : List (List ℕ)) → AreEnded (line ∷ lines) → AreEnded lines
    rest_ended [] h = tt
    rest_ended (next ∷ lines) h = h.1

    this_ended : (lines : List (List ℕ)) → AreEnded (line ∷ lines) → view_lines lines ≡ v ∷ vs → IsEnded line
    this_ended [] h e = absurd (cc)
    this_ended (next ∷ lines) h e = h.0

    by : (t : Bool) (lines : List (List ℕ)) → AreEnded (line ∷ lines) → (if t then view_lines lines else line ∷ lines) ≡ v ∷ vs
        → ((b : Batch) (bs : List Batch) → AreEnded lines → view_lines lines ≡ v ∷ vs → batches_on heading (number + 1) (Some b.key) lines ≡ Ok bs → whole lines ≡ flat_map (λ b. batch_text b ++ codes "\n") bs ++ whole (v ∷ vs))
        → (if t then batch_on heading number last line >>= (λ b. behind (b ∷ []) (batches_on heading (number + 1) (Some b.key) lines)) else Ok []) ≡ Ok batches
        → whole (line ∷ lines) ≡ flat_map (λ b. batch_text b ++ codes "\n") batches ++ whole (v ∷ vs)
    by true lines ended shown more e =
        let one = went (batch_on heading number last line) _ batches e in
        more-batches one.0 line lines (batches_on heading (number + 1) (Some one.0.key) lines) batches (whole (v ∷ vs))
        (this_ended lines ended shown ∙ ap (λ l. l ++ 10 ∷ []) (batch-line heading number last line one.0 one.1))
        (λ bs h. more one.0 bs (rest_ended lines ended) shown h) one.2
    by false lines ended shown more e =
        let none : [] ≡ batches = cc in
        ap whole shown ∙ ap (λ bs. flat_map (λ b. batch_text b ++ codes "\n") bs ++ whole (v ∷ vs)) none

view-differs : (view v : View) (o : Option ℕ) → shown_or view o ≡ Ok v → (o ≡ None) × (v ≡ view)
view-differs view v None e = (refl, cc)
view-differs view v (Some n) e = absurd (cc)

view-same : (number : ℕ) (lines : List (List ℕ)) (view v : View) → view_on number lines view ≡ Ok v → (lines ≡ lines_of (view_text view)) × (v ≡ view)
unfolding view_on
view-same number lines view v e =
    let d = view-differs view v (differ_at number lines (lines_of (view_text view))) e in
    (same-lines number lines (lines_of (view_text view)) d.0, d.1)

lines-some : (b : ℕ) (bytes : List ℕ) → (v : List ℕ) × (vs : List (List ℕ)) × (lines_of (b ∷ bytes) ≡ v ∷ vs)
lines-some b bytes = by (b == 10) (lines_of bytes)
  where
    by : (t : Bool) (lines : List (List ℕ)) → (v : List ℕ) × (vs : List (List ℕ)) × ((if t then (b ∷ []) ∷ lines else onto_line b lines) ≡ v ∷ vs)
    by true lines = (b ∷ [], lines, refl)
    by false [] = (b ∷ [], [], refl)
    by false (line ∷ lines) = (b ∷ line, lines, refl)

view-some : (view : View) → (v : List ℕ) × (vs : List (List ℕ)) × (lines_of (view_text view) ≡ v ∷ vs)
view-some view = by (flat_map run_state_lines view.runs)
  where
    by : (text : List ℕ) → (v : List ℕ) × (vs : List (List ℕ)) × (lines_of (text ++ codes "end\n") ≡ v ∷ vs)
    by [] = lines-some 101 (codes "nd\n")
    by (b ∷ text) = lines-some b (text ++ codes "end\n")

framed-line : (o : Option Heading) (heading : Heading) → framed o ≡ Ok heading → o ≡ Some heading
framed-line None heading e = absurd (cc)
framed-line (Some h) heading e = let same : h ≡ heading = cc in ap Some same

body-is : (first : List ℕ) (lines body : List (List ℕ)) → body_of (first ∷ lines) ≡ Ok body → lines ≡ body
body-is first lines body = by (begins_first lines)
  where
    by : (t : Bool) → (if t then Ok lines else Err (Line 2 BadFrame)) ≡ Ok body → lines ≡ body
    by true e = cc
    by false e = absurd (cc)

assoc : (a b c d : List ℕ) → a ++ (b ++ (c ++ d)) ≡ ((a ++ b) ++ c) ++ d
assoc a b c d = sym (append_assoc (a ++ b) c d ∙ append_assoc a b (c ++ d))

-- where there is a line after it, the first one has its end
first-ends : (first : List ℕ) (lines : List (List ℕ)) → AreEnded (first ∷ lines) → begins_first lines ≡ true → IsEnded first
first-ends first [] h e = absurd (cc)
first-ends first (next ∷ lines) h e = h.0

rest-ends : (first : List ℕ) (lines : List (List ℕ)) → AreEnded (first ∷ lines) → AreEnded lines
rest-ends first [] h = tt
rest-ends first (next ∷ lines) h = h.1

body-begins : (first : List ℕ) (lines body : List (List ℕ)) → body_of (first ∷ lines) ≡ Ok body → begins_first lines ≡ true
body-begins first lines body e = by (begins_first lines) refl e
  where
    by : (t : Bool) → begins_first lines ≡ t → (if t then Ok lines else Err (Line 2 BadFrame)) ≡ Ok body → begins_first lines ≡ true
    by true f e = f
    by false f e = absurd (cc)

-- a dump in the second form is printed again as the lines that it was read from
again : (lines : List (List ℕ)) (d : Dump) → AreEnded lines → IsHeaded form.Two lines → dump_on lines ≡ Ok d → whole lines ≡ dump_text d.domain d.workflow d.view
unfolding dump_on
again [] d ended two e = absurd (cc)
again (first ∷ lines) d ended two e =
    let one = went (heading_of (first ∷ lines)) _ d e in
    let second = went (body_of (first ∷ lines)) _ d one.2 in
    let three = went (batches_on one.0 2 None second.0) _ d second.2 in
    let four = went (sound_or three.0) _ d three.2 in
    let five = went (view_on (2 + length three.0) (view_lines second.0) (view_of (standing_for one.0.form three.0))) _ d four.2 in
    let last : dump_with one.0 five.0 ≡ d = cc in
    let body = body-is first lines second.0 second.1 in
    let is_two : one.0.form ≡ form.Two = two one.0 one.1 in
    let shown = view-same (2 + length three.0) (view_lines second.0) (view_of (standing_for one.0.form three.0)) five.0 five.1 in
    let some = view-some (view_of (standing_for one.0.form three.0)) in
    let behind_heading : whole second.0 ≡ flat_map (λ b. batch_text b ++ codes "\n") three.0 ++ view_text (view_of (standing_for one.0.form three.0)) =
    batches-whole one.0 2 None second.0 three.0 some.0 some.1 (subst AreEnded body (rest-ends first lines ended)) (shown.0 ∙ some.2) three.1
    ∙ ap (λ (l : List ℕ). flat_map (λ b. batch_text b ++ codes "\n") three.0 ++ l) (ap whole (sym some.2) ∙ lines-whole (view_text (view_of (standing_for one.0.form three.0)))) in
    let stands : standing_for one.0.form three.0 ≡ three.0 = ap (λ f. standing_for f three.0) is_two in
    ap (λ l. first ++ whole l) body
    ∙ ap (λ (l : List ℕ). l ++ whole second.0) (first-ends first lines ended (body-begins first lines second.0 second.1) ∙ ap (λ l. l ++ 10 ∷ []) (heading-line (without_end first) one.0 (framed-line _ one.0 one.1) is_two))
    ∙ ap (λ (l : List ℕ). (heading_text one.0 ++ 10 ∷ []) ++ l) (behind_heading ∙ ap (λ bs. flat_map (λ b. batch_text b ++ codes "\n") three.0 ++ view_text (view_of bs)) stands)
    ∙ assoc (heading_text one.0 ++ 10 ∷ []) (flat_map (λ b. batch_text b ++ codes "\n") three.0) (flat_map run_state_lines (view_of three.0).runs) (codes "end\n")
    ∙ ap (λ v. dump_text one.0.domain one.0.workflow v) (ap view_of (sym stands) ∙ sym shown.1)
    ∙ ap (λ (x : Dump). dump_text x.domain x.workflow x.view) last

-- bytes that are read as a dump in the second form are what is printed of it
pub printed_again : (bytes : List ℕ) (d : Dump) → IsHeaded form.Two (lines_of bytes) → dump_of bytes ≡ Ok d → bytes ≡ dump_text d.domain d.workflow d.view
unfolding dump_of
printed_again bytes d two e = sym (lines-whole bytes) ∙ again (lines_of bytes) d (lines-ended bytes) two e
