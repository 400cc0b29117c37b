-- What is read is what can be dumped: the names of the heading, and batches of its domain and workflow, of which there is one.
use Rattle.std.proofs.Common.{◌≡◌, ℕ, ◌+◌, ◌==◌, Bool, true, false, not, List, [], ◌∷◌, length, map, codes, Option, Some, None, Result, Ok, Err, IfOk, if◌then◌else◌, refl, sym, ap, ◌∙◌, subst}
use Rattle.std.specs.Prelude.{◌≢◌}
use Rattle.std.specs.List.{AllByRecursion, slice_split}
use Rattle.std.specs.Str.{bytes_eq}
use Rattle.std.proofs.lemmas.Bool.{and_parts}
use Rattle.std.proofs.lemmas.Slice.Eq.{bytes_eq-Decides}
use Rattle.ndc_event.specs.Name.{is_name}
use Rattle.ndc_event.specs.Outcome.{Gives, ◌>>=◌}
use Rattle.ndc_event.specs.declared.batch.Batch.{Batch}
use Rattle.ndc_event.specs.declared.key.BatchKey.{BatchKey}
use Rattle.ndc_event.specs.declared.name.Name.{Name}
use Rattle.ndc_model_sets.specs.View.{view_of}
use Rattle.ndc_model_sets.specs.declared.view.View.{View}
use Rattle.ndc_model_sets.specs.Sound.{IsSound}
use Rattle.ndc_text.specs.Ranges.{InRange, IsName}
use Rattle.ndc_text.proofs.Exact.{bare}
use Rattle.ndc_text.specs.Read.{read_of}
use Rattle.ndc_text.specs.Views.{dump_text}
use Rattle.ndc_text.specs.declared.form.TextForm.{TextForm}
use Rattle.ndc_text.specs.declared.form.TextForm.TheVariants as form
use Rattle.ndc_dump.specs.declared.dump.Dump.{Dump}
use Rattle.ndc_dump_causes.specs.declared.error.DumpError.{DumpError}
use Rattle.ndc_dump_causes.specs.declared.error.DumpError.TheVariants.{Line, Memory}
use Rattle.ndc_dump_causes.specs.declared.error.LineCause.TheVariants as cause
use Rattle.ndc_dump.specs.declared.frame.Heading.{Heading}
use Rattle.ndc_dump.specs.Batches.{batch_on, batches_on, behind, is_behind, is_own, is_same_as, on_line, out_of_order, view_lines}
use Rattle.ndc_dump_causes.specs.Causes.{sound_or}
use Rattle.ndc_dump.specs.Frame.{IsHeaded, begins_batch, begins_first, body_of, form_of, framed, heading_by, heading_in, heading_of, named}
use Rattle.ndc_dump.specs.Lines.{lines_of, without_end}
use Rattle.ndc_dump_causes.specs.Given.{AreRead}
use Rattle.ndc_dump.specs.Migrated.{standing_for, with_carrier_in}
use Rattle.ndc_dump.specs.Printed.{CanBeDumped, IsOwn}
use Rattle.ndc_dump.specs.Read.{dump_of, dump_on, dump_with, shown_or, view_on}
use Rattle.ndc_dump.proofs.Again.{printed_again}
use Rattle.ndc_dump.proofs.Migration.{migrated-all, migrated-range, migrated-sound}
use Rattle.ndc_dump.proofs.Printed.{dump-again}
use Rattle.ndc_dump_causes.proofs.Soundness.{read_is_sound}
use Rattle.ndc_dump_causes.proofs.NoCause.{went}
use Rattle.ndc_dump.proofs.ReadLemmas.{are-read, line-read, placed}
use Rattle.ndc_dump.proofs.ShownView.{shown-view}

-- ---- the names of the heading

name-of : (bytes : List ℕ) (name : Name) → named bytes ≡ Some name → IsName name
name-of bytes name e = by (is_name bytes) refl e
  where
    by : (t : Bool) → is_name bytes ≡ t → (if t then Some bytes else None) ≡ Some name → IsName name
    by true f e = let same : bytes ≡ name = cc in subst IsName same f
    by false f e = absurd (cc)

-- the names of a heading are names
record HasNames (heading : Heading) : Type 0 where
  domain : IsName heading.domain
  workflow : IsName heading.workflow

names-in : (words : List (List ℕ)) (heading : Heading) → heading_in words ≡ Some heading → HasNames heading
names-in [] heading e = absurd (cc)
names-in (a ∷ []) heading e = absurd (cc)
names-in (a ∷ b ∷ []) heading e = absurd (cc)
names-in (a ∷ b ∷ c ∷ []) heading e = absurd (cc)
names-in (a ∷ b ∷ c ∷ d ∷ e ∷ words) heading h = absurd (cc)
names-in (word ∷ number ∷ domain ∷ workflow ∷ []) heading e = by (bytes_eq word (codes "dump")) e
  where
    parts : (f : Option TextForm) (m n : Option Name) → named domain ≡ m → named workflow ≡ n → heading_by f m n ≡ Some heading → HasNames heading
    parts None m n g h e = absurd (cc)
    parts (Some t) None n g h e = absurd (cc)
    parts (Some t) (Some x) None g h e = absurd (cc)
    parts (Some t) (Some x) (Some y) g h e =
        let same : record { form = t; domain = x; workflow = y } ≡ heading = cc in
        subst HasNames same (record { domain = name-of domain x g; workflow = name-of workflow y h })

    by : (t : Bool) → (if t then heading_by (form_of number) (named domain) (named workflow) else None) ≡ Some heading → HasNames heading
    by true e = parts (form_of number) (named domain) (named workflow) refl refl e
    by false e = absurd (cc)

framed-some : (o : Option Heading) (heading : Heading) → framed o ≡ Ok heading → o ≡ Some heading
framed-some None heading e = absurd (cc)
framed-some (Some h) heading e = let same : h ≡ heading = cc in ap Some same

names-of : (lines : List (List ℕ)) (heading : Heading) → heading_of lines ≡ Ok heading → HasNames heading
names-of [] heading e = absurd (cc)
names-of (line ∷ lines) heading e = names-in (slice_split (λ byte. byte == 32) (without_end line)) heading (framed-some _ heading e)

-- ---- batches of the domain and workflow

in-order-own : (heading : Heading) (last : Option BatchKey) (b : Batch) → out_of_order heading last b ≡ None → IsOwn heading.domain heading.workflow b
in-order-own heading last b e = by (is_own heading b) refl e
  where
    by : (t : Bool) → is_own heading b ≡ t
        → (if not t then Some cause.Foreign else if is_same_as b.key last then Some cause.SameKey else if is_behind b.key last then Some cause.BadOrder else None) ≡ None
        → IsOwn heading.domain heading.workflow b
    by true f e =
        let p = and_parts (bytes_eq b.domain heading.domain) (bytes_eq b.workflow heading.workflow) f in
        record { domain_is = (bytes_eq-Decides b.domain heading.domain).0 p.0; workflow_is = (bytes_eq-Decides b.workflow heading.workflow).0 p.1 }
    by false f e = absurd (cc)

batch-own : (heading : Heading) (number : ℕ) (last : Option BatchKey) (line : List ℕ) (b : Batch) → batch_on heading number last line ≡ Ok b → IsOwn heading.domain heading.workflow b
unfolding batch_on
batch-own heading number last line b e =
    let one = went (on_line number (read_of heading.form (without_end line))) _ b e in
    let two = placed number one.0 b (out_of_order heading last one.0) one.2 in
    subst (IsOwn heading.domain heading.workflow) two.1 (in-order-own heading last one.0 two.0)

more-own : (heading : Heading) (b : Batch) (r : Result (List Batch) DumpError) (batches : List Batch) → IsOwn heading.domain heading.workflow b
    → ((rest : List Batch) → r ≡ Ok rest → AllByRecursion (IsOwn heading.domain heading.workflow) rest) → behind (b ∷ []) r ≡ Ok batches → AllByRecursion (IsOwn heading.domain heading.workflow) batches
more-own heading b (Err error) batches own rest e = absurd (cc)
more-own heading b (Ok bs) batches own rest e = let same : b ∷ bs ≡ batches = cc in subst (AllByRecursion (IsOwn heading.domain heading.workflow)) same (own, rest bs refl)

lines-own : (heading : Heading) (number : ℕ) (last : Option BatchKey) (lines : List (List ℕ)) (batches : List Batch) → batches_on heading number last lines ≡ Ok batches
    → AllByRecursion (IsOwn heading.domain heading.workflow) batches
lines-own heading number last [] batches = λ e. let none : [] ≡ batches = cc in subst (AllByRecursion (IsOwn heading.domain heading.workflow)) none tt
lines-own heading number last (line ∷ lines) batches = by (begins_batch line) (λ b rest h. lines-own heading (number + 1) (Some b.key) lines rest h)
  where
    by : (t : Bool) → ((b : Batch) (rest : List Batch) → batches_on heading (number + 1) (Some b.key) lines ≡ Ok rest → AllByRecursion (IsOwn heading.domain heading.workflow) rest)
        → (if t then batch_on heading number last line >>= (λ b. behind (b ∷ []) (batches_on heading (number + 1) (Some b.key) lines)) else Ok []) ≡ Ok batches
        → AllByRecursion (IsOwn heading.domain heading.workflow) batches
    by true rest e =
        let one = went (batch_on heading number last line) _ batches e in
        more-own heading one.0 (batches_on heading (number + 1) (Some one.0.key) lines) batches (batch-own heading number last line one.0 one.1) (rest one.0) one.2
    by false rest e = let none : [] ≡ batches = cc in subst (AllByRecursion (IsOwn heading.domain heading.workflow)) none tt

-- ---- there is a batch

some-behind : (b : Batch) (r : Result (List Batch) DumpError) (batches : List Batch) → behind (b ∷ []) r ≡ Ok batches → batches ≢ []
some-behind b (Err error) batches e none = absurd (cc)
some-behind b (Ok bs) batches e none = let same : b ∷ bs ≡ batches = cc in let both : b ∷ bs ≡ [] = same ∙ none in absurd (cc)

some-read : (heading : Heading) (number : ℕ) (last : Option BatchKey) (lines : List (List ℕ)) (batches : List Batch) → begins_first lines ≡ true → batches_on heading number last lines ≡ Ok batches → batches ≢ []
some-read heading number last [] batches h e = absurd (cc)
some-read heading number last (line ∷ lines) batches h e =
    let one = went (batch_on heading number last line) _ batches
    (sym (ap (λ t. if t then batch_on heading number last line >>= (λ b. behind (b ∷ []) (batches_on heading (number + 1) (Some b.key) lines)) else Ok []) h) ∙ e) in
    some-behind one.0 _ batches one.2

body-lines : (lines body : List (List ℕ)) → body_of lines ≡ Ok body → begins_first body ≡ true
body-lines [] body e = absurd (cc)
body-lines (first ∷ lines) body e = by (begins_first lines) refl e
  where
    by : (t : Bool) → begins_first lines ≡ t → (if t then Ok lines else Err (Line 2 cause.BadFrame)) ≡ Ok body → begins_first body ≡ true
    by true f e = let same : lines ≡ body = cc in sym (ap begins_first same) ∙ f
    by false f e = absurd (cc)

-- ---- batches of the form without carriers

batch-bare : (heading : Heading) (number : ℕ) (last : Option BatchKey) (line : List ℕ) (b : Batch) → heading.form ≡ form.One → batch_on heading number last line ≡ Ok b → b.carrier ≡ None
unfolding batch_on
batch-bare heading number last line b is e =
    let one = went (on_line number (read_of heading.form (without_end line))) _ b e in
    let two = placed number one.0 b (out_of_order heading last one.0) one.2 in
    sym (ap (λ (x : Batch). x.carrier) two.1)
    ∙ bare (without_end line) one.0 (sym (ap (λ f. read_of f (without_end line)) is) ∙ line-read number (read_of heading.form (without_end line)) one.0 one.1)

more-bare : (b : Batch) (r : Result (List Batch) DumpError) (batches : List Batch) → b.carrier ≡ None → ((rest : List Batch) → r ≡ Ok rest → AllByRecursion (λ b. b.carrier ≡ None) rest)
    → behind (b ∷ []) r ≡ Ok batches → AllByRecursion (λ b. b.carrier ≡ None) batches
more-bare b (Err error) batches is rest e = absurd (cc)
more-bare b (Ok bs) batches is rest e = let same : b ∷ bs ≡ batches = cc in subst (AllByRecursion (λ b. b.carrier ≡ None)) same (is, rest bs refl)

lines-bare : (heading : Heading) (number : ℕ) (last : Option BatchKey) (lines : List (List ℕ)) (batches : List Batch) → heading.form ≡ form.One → batches_on heading number last lines ≡ Ok batches
    → AllByRecursion (λ b. b.carrier ≡ None) batches
lines-bare heading number last [] batches is = λ e. let none : [] ≡ batches = cc in subst (AllByRecursion (λ b. b.carrier ≡ None)) none tt
lines-bare heading number last (line ∷ lines) batches is = by (begins_batch line) (λ b rest h. lines-bare heading (number + 1) (Some b.key) lines rest is h)
  where
    by : (t : Bool) → ((b : Batch) (rest : List Batch) → batches_on heading (number + 1) (Some b.key) lines ≡ Ok rest → AllByRecursion (λ b. b.carrier ≡ None) rest)
        → (if t then batch_on heading number last line >>= (λ b. behind (b ∷ []) (batches_on heading (number + 1) (Some b.key) lines)) else Ok []) ≡ Ok batches → AllByRecursion (λ b. b.carrier ≡ None) batches
    by true rest e =
        let one = went (batch_on heading number last line) _ batches e in
        more-bare one.0 (batches_on heading (number + 1) (Some one.0.key) lines) batches (batch-bare heading number last line one.0 is one.1) (rest one.0) one.2
    by false rest e = let none : [] ≡ batches = cc in subst (AllByRecursion (λ b. b.carrier ≡ None)) none tt

-- ---- the dump

-- what is known of batches that are read
record AreFound (domain workflow : Name) (batches : List Batch) : Type 0 where
  some : batches ≢ []
  own : AllByRecursion (IsOwn domain workflow) batches
  range : AllByRecursion InRange batches
  sound : IsSound batches

some-mapped : {X Y : Type 0} (f : X → Y) (xs : List X) → xs ≢ [] → map f xs ≢ []
some-mapped f [] some none = some refl
some-mapped f (x ∷ xs) some none = absurd (cc)

-- the set that they represent, in whatever form they are
standing : (text : TextForm) (domain workflow : Name) (batches : List Batch) → AreRead batches → (text ≡ form.One → AllByRecursion (λ b. b.carrier ≡ None) batches) → AreFound domain workflow batches
    → AreFound domain workflow (standing_for text batches)
standing form.Two domain workflow batches read bare found = found
standing form.One domain workflow batches read bare found = record {
  some = some-mapped (with_carrier_in batches) batches found.some;
  own = migrated-all batches read found.sound (bare refl) (IsOwn domain workflow) (λ b carrier own. record { domain_is = own.domain_is; workflow_is = own.workflow_is }) found.own;
  range = migrated-range batches read found.sound (bare refl);
  sound = migrated-sound batches read found.sound (bare refl);
}

view-shown : (view v : View) (o : Option ℕ) → shown_or view o ≡ Ok v → v ≡ view
view-shown view v None e = cc
view-shown view v (Some n) e = absurd (cc)

-- batches that were read, and of which no cause holds, represent a set that can be dumped
pub set-found : (lines : List (List ℕ)) (heading : Heading) (body : List (List ℕ)) (batches : List Batch) → heading_of lines ≡ Ok heading → body_of lines ≡ Ok body → batches_on heading 2 None body ≡ Ok batches
    → sound_or batches ≡ Ok tt → CanBeDumped heading.domain heading.workflow (standing_for heading.form batches)
set-found lines heading body batches headed has reads sound =
    let names = names-of lines heading headed in
    let read = are-read heading 2 None body batches reads in
    let found = standing heading.form heading.domain heading.workflow batches read (λ is. lines-bare heading 2 None body batches is reads) (record {
      some = some-read heading 2 None body batches (body-lines lines body has) reads;
      own = lines-own heading 2 None body batches reads;
      range = read.range;
      sound = read_is_sound batches read sound;
    }) in
    record { domain_name = names.domain; workflow_name = names.workflow; some = found.some; own = found.own; range = found.range; sound = found.sound }

found-on : (lines : List (List ℕ)) (d : Dump) → dump_on lines ≡ Ok d → CanBeDumped d.domain d.workflow d.view.batches
unfolding dump_on view_on
found-on lines d e =
    let one = went (heading_of lines) _ d e in
    let second = went (body_of lines) _ d one.2 in
    let three = went (batches_on one.0 2 None second.0) _ d second.2 in
    let four = went (sound_or three.0) _ d three.2 in
    let five = went (view_on (2 + length three.0) (view_lines second.0) (view_of (standing_for one.0.form three.0))) _ d four.2 in
    let last : dump_with one.0 five.0 ≡ d = cc in
    let view = view-shown (view_of (standing_for one.0.form three.0)) five.0 _ five.1 in
    let batches : standing_for one.0.form three.0 ≡ d.view.batches = sym (ap (λ (v : View). v.batches) view) ∙ ap (λ (x : Dump). x.view.batches) last in
    subst (λ (x : Dump). CanBeDumped x.domain x.workflow d.view.batches) last
    (subst (CanBeDumped one.0.domain one.0.workflow) batches (set-found lines one.0 second.0 three.0 one.1 second.1 three.1 (four.1 ∙ refl)))

-- what is read, in whatever form, represents a set that can be dumped
pub can-be-dumped : (bytes : List ℕ) (d : Dump) → dump_of bytes ≡ Ok d → CanBeDumped d.domain d.workflow d.view.batches
unfolding dump_of
can-be-dumped bytes d e = found-on (lines_of bytes) d e

view-of-dump : (bytes : List ℕ) (d : Dump) → dump_of bytes ≡ Ok d → d.view ≡ view_of d.view.batches
unfolding dump_of
view-of-dump bytes d e = shown-view (lines_of bytes) d e

-- and bytes in the form with carriers are what is printed of it
pub printed-of : (bytes : List ℕ) (d : Dump) → IsHeaded form.Two (lines_of bytes) → dump_of bytes ≡ Ok d → bytes ≡ dump_text d.domain d.workflow (view_of d.view.batches)
printed-of bytes d two e = printed_again bytes d two e ∙ ap (dump_text d.domain d.workflow) (view-of-dump bytes d e)

-- what is read is printed as bytes that are read as the same
pub rebuilt : (bytes : List ℕ) (d : Dump) → dump_of bytes ≡ Ok d → dump_of (dump_text d.domain d.workflow d.view) ≡ Ok d
rebuilt bytes d e =
    let view = view-of-dump bytes d e in
    ap (λ v. dump_of (dump_text d.domain d.workflow v)) view ∙ dump-again d.domain d.workflow d.view.batches (can-be-dumped bytes d e)
    ∙ ap (λ v. Ok (record { domain = d.domain; workflow = d.workflow; view = v })) (sym view)

-- what is read is a sound set
pub given-sound : (bytes : List ℕ) (lines : List (List ℕ)) (r : Result Dump DumpError) → lines ≡ lines_of bytes → Gives Memory (λ dump. dump) r (dump_on lines) → IfOk r (λ dump. IsSound dump.view.batches)
unfolding dump_of
given-sound bytes lines (Ok d) e g = (can-be-dumped bytes d (ap dump_on (sym e) ∙ g)).sound
given-sound bytes lines (Err error) e g = tt
