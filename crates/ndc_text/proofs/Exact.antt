-- A text is read as a batch exactly where it is that batch's text.
use Rattle.std.proofs.Common.{◌≡◌, ℕ, Bool, true, false, List, [], ◌++◌, Option, Some, None, Result, Ok, Err, refl, sym, ap, ◌∙◌, subst}
use Rattle.std.specs.Prelude.{IfOk, if◌then◌else◌}
use Rattle.std.specs.Str.{bytes_eq}
use Rattle.std.proofs.lemmas.Slice.Eq.{bytes_eq-Decides}
use Rattle.std.proofs.lemmas.Str.{is_utf8-from_IsUtf8}
use Rattle.ndc_event.specs.Batch.{fault_of}
use Rattle.ndc_event.specs.declared.batch.Batch.{Batch}
use Rattle.ndc_event.specs.declared.batch.BatchFault.{BatchFault}
use Rattle.ndc_text.specs.Ranges.{InRange}
use Rattle.ndc_text.specs.Read.{json_at, canonical, checked_by, read_of}
use Rattle.ndc_text.specs.Text.{batch_data, batch_text}
use Rattle.ndc_text.specs.Walk.{batch_at}
use Rattle.ndc_event.specs.Outcome.{Gives}
use Rattle.ndc_event.specs.declared.key.BatchKey.{BatchKey}
use Rattle.ndc_text.specs.declared.error.TextError.{TextError}
use Rattle.ndc_text.specs.declared.error.TextError.TheVariants.{ExtraKey, NotCanonical, Check, Memory}
use Rattle.ndc_text.specs.declared.form.TextForm.{TextForm}
use Rattle.ndc_text.specs.declared.form.TextForm.TheVariants.{One, Two}
use Rattle.ndc_text.proofs.Again.{batch_again, bare_batch_again, carried_batch_again}
use Rattle.ndc_text.proofs.Closing.{object_ends}
use Rattle.ndc_text.proofs.Found.{after, holds, batch_fits, bare_carrier}
use Rattle.ndc_text.proofs.Plain.{read-compact_text, IsUtf8-compact_text}
use Rattle.ndc_text.proofs.Shapes.{batch_plain, batch_depth}

-- ---- the text is read

json_again : (b : Batch) → InRange b → json_at (batch_text b) ≡ Ok (batch_data b)
unfolding batch_text
json_again b h = rw (is_utf8-from_IsUtf8 _ (IsUtf8-compact_text (batch_data b) (batch_plain b h)), read-compact_text (batch_data b) (batch_plain b h) (batch_depth b)) refl

same_bytes : (bytes : List ℕ) → bytes_eq bytes bytes ≡ true
same_bytes bytes = (bytes_eq-Decides bytes bytes).1 refl

read_again : (form : TextForm) (b : Batch) → InRange b → batch_at form (batch_data b) ≡ Ok b → read_of form (batch_text b) ≡ checked_by b (fault_of b)
unfolding read_of
read_again form b h walked = rw (json_again b h, walked, same_bytes (batch_text b)) refl

pub text_again : (b : Batch) → InRange b → fault_of b ≡ None → read_of Two (batch_text b) ≡ Ok b
text_again b h none = read_again Two b h (batch_again b h) ∙ ap (checked_by b) none

pub faulty_again : (b : Batch) (fault : BatchFault) → InRange b → fault_of b ≡ Some fault → read_of Two (batch_text b) ≡ Err (Check fault)
faulty_again b fault h some = read_again Two b h (batch_again b h) ∙ ap (checked_by b) some

pub bare_text_again : (b : Batch) → InRange b → fault_of b ≡ None → b.carrier ≡ None → read_of One (batch_text b) ≡ Ok b
bare_text_again b h none bare = read_again One b h (bare_batch_again b h bare) ∙ ap (checked_by b) none

-- text 1 has no key for a carrier
pub carried_again : (b : Batch) (carrier : BatchKey) → InRange b → b.carrier ≡ Some carrier → read_of One (batch_text b) ≡ Err ExtraKey
unfolding read_of
carried_again b carrier h some = rw (json_again b h, carried_batch_again b carrier some) refl

-- ---- what is read is the text

-- what is known of a batch that a text is read as
abbrev pub IsRead : List ℕ → Batch → Type 0
IsRead bytes b = InRange b × (bytes ≡ batch_text b) × (fault_of b ≡ None)

checked : (bytes : List ℕ) (b : Batch) (fault : Option BatchFault) → fault_of b ≡ fault → InRange b → bytes ≡ batch_text b → IfOk (checked_by b fault) (IsRead bytes)
checked bytes b None e h same = (h, same, e)
checked bytes b (Some fault) e h same = tt

printed : (bytes : List ℕ) (b : Batch) (test : Bool) → bytes_eq bytes (batch_text b) ≡ test → InRange b
    → IfOk (if test then Ok b else Err NotCanonical) (λ c. (c ≡ b) × (bytes ≡ batch_text b))
printed bytes b true e h = (refl, (bytes_eq-Decides bytes (batch_text b)).0 e)
printed bytes b false e h = tt

found_at : (form : TextForm) (bytes : List ℕ) → IfOk (read_of form bytes) (IsRead bytes)
unfolding read_of
found_at form bytes = after (IsRead bytes) _ (json_at bytes) (λ d _.
    after (IsRead bytes) _ (batch_at form d) (λ b walked.
    after (IsRead bytes) _ (canonical bytes b) (λ c same.
    let h = holds InRange (batch_at form d) b (batch_fits form d) walked in
    let p = holds (λ c. (c ≡ b) × (bytes ≡ batch_text b)) (canonical bytes b) c (printed bytes b (bytes_eq bytes (batch_text b)) refl h) same in
    checked bytes c (fault_of c) refl (subst InRange (sym p.0) h) (p.1 ∙ ap batch_text (sym p.0)))))

pub found : (form : TextForm) (bytes : List ℕ) (b : Batch) → read_of form bytes ≡ Ok b → IsRead bytes b
found form bytes b e = holds (IsRead bytes) (read_of form bytes) b (found_at form bytes) e

canonical_same : (bytes : List ℕ) (b : Batch) (test : Bool) (P : Batch → Type 0) → P b → IfOk (if test then Ok b else Err NotCanonical) P
canonical_same bytes b true P h = h
canonical_same bytes b false P h = tt

checked_same : (b : Batch) (fault : Option BatchFault) (P : Batch → Type 0) → P b → IfOk (checked_by b fault) P
checked_same b None P h = h
checked_same b (Some fault) P h = tt

bare_at : (bytes : List ℕ) → IfOk (read_of One bytes) (λ b. b.carrier ≡ None)
unfolding read_of
bare_at bytes =
    let P : Batch → Type 0 = λ b. b.carrier ≡ None in
    after P _ (json_at bytes) (λ d _.
    after P _ (batch_at One d) (λ b walked.
    after P _ (canonical bytes b) (λ c same.
    checked_same c (fault_of c) P (holds P (canonical bytes b) c (canonical_same bytes b (bytes_eq bytes (batch_text b)) P (holds P (batch_at One d) b (bare_carrier d) walked)) same))))

pub found_bare : (bytes : List ℕ) (r : Result Batch TextError) → Gives Memory (λ b. b) r (read_of One bytes) → IfOk r (λ b. InRange b × (bytes ≡ batch_text b) × (fault_of b ≡ None) × (b.carrier ≡ None))
found_bare bytes (Ok b) e = let f = found One bytes b e in (f.0, f.1, f.2, holds (λ b. b.carrier ≡ None) (read_of One bytes) b (bare_at bytes) e)
found_bare bytes (Err x) e = tt

pub bare : (bytes : List ℕ) (b : Batch) → read_of One bytes ≡ Ok b → b.carrier ≡ None
bare bytes b e = holds (λ b. b.carrier ≡ None) (read_of One bytes) b (bare_at bytes) e

-- ---- laws

-- no text is that of two batches
pub one_batch : (b c : Batch) → InRange b → InRange c → batch_text b ≡ batch_text c → b ≡ c
one_batch b c h k e =
    let same : batch_data b ≡ batch_data c = let one = json_again b h in let two = json_again c k in let both : json_at (batch_text b) ≡ json_at (batch_text c) = ap json_at e in cc in
    let one = batch_again b h in let two = batch_again c k in let both : batch_at Two (batch_data b) ≡ batch_at Two (batch_data c) = ap (batch_at Two) same in cc

-- no text of a batch goes on to the text of another
pub no_front : (b c : Batch) (rest : List ℕ) → InRange b → InRange c → batch_text b ++ rest ≡ batch_text c → rest ≡ []
unfolding batch_text
no_front b c rest h k e = object_ends _ _ rest (batch_plain b h) (batch_plain c k) e
