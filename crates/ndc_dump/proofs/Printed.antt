-- What is printed of a sound set is read.
use Rattle.std.proofs.Common.{◌≡◌, ℕ, ◌+◌, ◌≤◌, ◌<◌, ◌==◌, nat_le, Bool, true, false, not, ◌&&◌, List, [], ◌∷◌, ◌++◌, map, length, codes, Option, Some, None, Ok, if◌then◌else◌, cond, append_assoc, refl, sym, ap, ◌∙◌, subst, arith, lit<}
use Rattle.std.specs.List.{AllByRecursion, flat_map, list_all, onto_first, slice_split}
use Rattle.std.specs.Str.{bytes_eq}
use Rattle.std.proofs.lemmas.Bool.{and_from, and_parts, leb-true, ne_eqb}
use Rattle.std.proofs.lemmas.List.{append-nil}
use Rattle.std.proofs.lemmas.Slice.Eq.{bytes_eq-Decides}
use Rattle.ndc_event.specs.Batch.{fault_of}
use Rattle.ndc_event.specs.Key.{key_lt}
use Rattle.ndc_event.specs.Name.{is_name_byte}
use Rattle.ndc_event.specs.declared.batch.Batch.{Batch}
use Rattle.ndc_event.specs.declared.key.BatchKey.{BatchKey}
use Rattle.ndc_event.specs.declared.name.Name.{Name}
use Rattle.ndc_model_sets.specs.Sets.{ComeAfter, Rise}
use Rattle.ndc_model_sets.specs.View.{view_of}
use Rattle.ndc_model_sets.specs.declared.view.View.{View}
use Rattle.ndc_model_sets.proofs.BranchLemmas.{among-has}
use Rattle.ndc_model_sets.proofs.Lists.{all-among, all-from}
use Rattle.ndc_text.specs.Ranges.{InRange, IsName}
use Rattle.ndc_text.specs.Text.{batch_text}
use Rattle.ndc_text.specs.Views.{dump_text}
use Rattle.ndc_text.specs.declared.form.TextForm.TheVariants as form
use Rattle.ndc_text.proofs.Exact.{text_again}
use Rattle.ndc_dump_causes.specs.declared.error.LineCause.TheVariants as cause
use Rattle.ndc_dump.specs.declared.frame.Heading.{Heading}
use Rattle.ndc_dump.specs.Bare.{bare_dump_of, bare_dump_on}
use Rattle.ndc_text.specs.Bare.{bare_text}
use Rattle.ndc_dump.specs.Batches.{batch_on, batches_on, is_behind, is_own, is_same_as, out_of_order, view_lines}
use Rattle.ndc_dump.specs.Frame.{begins_batch, begins_first, body_of, framed, heading_by, heading_in, heading_of, named}
use Rattle.ndc_dump.specs.Lines.{differ_at, lines_of, onto_line, without_end}
use Rattle.ndc_dump.specs.Printed.{CanBeDumped, IsOwn}
use Rattle.ndc_dump.specs.Read.{dump_of, dump_on, view_on, view_text}
use Rattle.ndc_dump.proofs.Again.{heading_text}
use Rattle.ndc_dump.proofs.Apart.{batch_line, dump_apart, runs_begin, text_begins}
use Rattle.ndc_dump_causes.proofs.Causeless.{is-causeless}
use Rattle.ndc_dump.proofs.Learning.{later-key}
use Rattle.ndc_dump.proofs.Unbroken.{is_unbroken, text-unbroken, unbroken-append}

-- ---- lines

-- a text without a line end, with one after it, is the first line
lines-line : (line rest : List ℕ) → is_unbroken line ≡ true → lines_of (line ++ 10 ∷ rest) ≡ (line ++ 10 ∷ []) ∷ lines_of rest
lines-line [] rest h = refl
lines-line (b ∷ bs) rest h = by (b == 10) h (lines-line bs rest)
  where
    by : (t : Bool) → (not t && is_unbroken bs) ≡ true → (is_unbroken bs ≡ true → lines_of (bs ++ 10 ∷ rest) ≡ (bs ++ 10 ∷ []) ∷ lines_of rest)
        → (if t then (b ∷ []) ∷ lines_of (bs ++ 10 ∷ rest) else onto_line b (lines_of (bs ++ 10 ∷ rest))) ≡ (b ∷ bs ++ 10 ∷ []) ∷ lines_of rest
    by true h more = absurd (cc)
    by false h more = ap (onto_line b) (more h)

without-line : (line : List ℕ) → is_unbroken line ≡ true → without_end (line ++ 10 ∷ []) ≡ line
without-line [] h = refl
without-line (b ∷ bs) h = by (b == 10) h (without-line bs)
  where
    by : (t : Bool) → (not t && is_unbroken bs) ≡ true → (is_unbroken bs ≡ true → without_end (bs ++ 10 ∷ []) ≡ bs) → (if t then [] else b ∷ without_end (bs ++ 10 ∷ [])) ≡ b ∷ bs
    by true h more = absurd (cc)
    by false h more = ap (λ l. b ∷ l) (more h)

-- the first line begins a batch where the text does
begins-line : (bytes : List ℕ) → begins_first (lines_of bytes) ≡ begins_batch bytes
begins-line [] = refl
begins-line (b ∷ bs) = by (b == 10) (lines_of bs)
  where
    by : (t : Bool) (lines : List (List ℕ)) → begins_first (if t then (b ∷ []) ∷ lines else onto_line b lines) ≡ begins_batch (b ∷ bs)
    by true lines = refl
    by false [] = refl
    by false (line ∷ lines) = refl

same-differ : (number : ℕ) (lines : List (List ℕ)) → differ_at number lines lines ≡ None
same-differ number [] = refl
same-differ number (line ∷ lines) = rw ((bytes_eq-Decides line line).1 refl) (same-differ (number + 1) lines)

-- ---- words

-- no byte is a space
abbrev is_word : List ℕ → Bool
is_word bytes = list_all (λ byte. not (byte == 32)) bytes

split-word : (word rest : List ℕ) → is_word word ≡ true → slice_split (λ byte. byte == 32) (word ++ 32 ∷ rest) ≡ word ∷ slice_split (λ byte. byte == 32) rest
split-word [] rest h = refl
split-word (b ∷ bs) rest h = by (b == 32) h (split-word bs rest)
  where
    by : (t : Bool) → (not t && is_word bs) ≡ true → (is_word bs ≡ true → slice_split (λ byte. byte == 32) (bs ++ 32 ∷ rest) ≡ bs ∷ slice_split (λ byte. byte == 32) rest)
        → cond t ([] ∷ slice_split (λ byte. byte == 32) (bs ++ 32 ∷ rest)) (onto_first b (slice_split (λ byte. byte == 32) (bs ++ 32 ∷ rest))) ≡ (b ∷ bs) ∷ slice_split (λ byte. byte == 32) rest
    by true h more = absurd (cc)
    by false h more = ap (onto_first b) (more h)

split-last : (word : List ℕ) → is_word word ≡ true → slice_split (λ byte. byte == 32) word ≡ word ∷ []
split-last [] h = refl
split-last (b ∷ bs) h = by (b == 32) h (split-last bs)
  where
    by : (t : Bool) → (not t && is_word bs) ≡ true → (is_word bs ≡ true → slice_split (λ byte. byte == 32) bs ≡ bs ∷ [])
        → cond t ([] ∷ slice_split (λ byte. byte == 32) bs) (onto_first b (slice_split (λ byte. byte == 32) bs)) ≡ (b ∷ bs) ∷ []
    by true h more = absurd (cc)
    by false h more = ap (onto_first b) (more h)

visible : (byte other : ℕ) → is_name_byte byte ≡ true → other < 33 → not (byte == other) ≡ true
visible byte other h small =
    let low : 33 ≤ byte = leb-true 33 byte (and_parts (nat_le 33 byte) (nat_le byte 126) h).0 in ap not (ne_eqb byte other (λ e. omega (arith, low, small, e)))

all-visible : (bytes : List ℕ) (other : ℕ) → list_all is_name_byte bytes ≡ true → other < 33 → list_all (λ byte. not (byte == other)) bytes ≡ true
all-visible [] other h small = refl
all-visible (b ∷ bs) other h small =
    let p = and_parts (is_name_byte b) (list_all is_name_byte bs) h in
    and_from (not (b == other)) (list_all (λ byte. not (byte == other)) bs) (visible b other p.0 small) (all-visible bs other p.1 small)

name-bytes : (name : Name) → IsName name → list_all is_name_byte name ≡ true
name-bytes name h = (and_parts (nat_le 1 (length name) && nat_le (length name) 200) (list_all is_name_byte name) h).1

-- ---- the dump of a domain and a workflow

module _ (domain workflow : Name) where
  abbrev own : Heading
  own = record { form = form.Two; domain = domain; workflow = workflow }

  -- ---- the heading

  heading-unbroken : IsName domain → IsName workflow → is_unbroken (heading_text own) ≡ true
  heading-unbroken h k =
      unbroken-append (codes "dump 2 " ++ domain ++ codes " ") workflow
      (unbroken-append (codes "dump 2 " ++ domain) (codes " ") (unbroken-append (codes "dump 2 ") domain refl (all-visible domain 10 (name-bytes domain h) (lit< tt))) refl)
      (all-visible workflow 10 (name-bytes workflow k) (lit< tt))

  heading-split : IsName domain → IsName workflow → slice_split (λ byte. byte == 32) (heading_text own) ≡ codes "dump" ∷ codes "2" ∷ domain ∷ workflow ∷ []
  heading-split h k =
      ap (slice_split (λ byte. byte == 32)) (append_assoc (codes "dump 2 " ++ domain) (codes " ") workflow ∙ append_assoc (codes "dump 2 ") domain (codes " " ++ workflow))
      ∙ split-word (codes "dump") (codes "2 " ++ (domain ++ (codes " " ++ workflow))) refl
      ∙ ap (λ ws. codes "dump" ∷ ws) (split-word (codes "2") (domain ++ (codes " " ++ workflow)) refl
      ∙ ap (λ ws. codes "2" ∷ ws) (split-word domain workflow (all-visible domain 32 (name-bytes domain h) (lit< tt))
      ∙ ap (λ ws. domain ∷ ws) (split-last workflow (all-visible workflow 32 (name-bytes workflow k) (lit< tt)))))

  named-name : (name : Name) → IsName name → named name ≡ Some name
  named-name name h = ap (λ t. if t then Some name else None) h

  heading-again : (lines : List (List ℕ)) → IsName domain → IsName workflow → heading_of ((heading_text own ++ 10 ∷ []) ∷ lines) ≡ Ok own
  heading-again lines h k =
      ap (λ line. framed (heading_in (slice_split (λ byte. byte == 32) line))) (without-line (heading_text own) (heading-unbroken h k))
      ∙ ap (λ words. framed (heading_in words)) (heading-split h k)
      ∙ ap (λ name. framed (heading_by (Some form.Two) name (named workflow))) (named-name domain h)
      ∙ ap (λ name. framed (heading_by (Some form.Two) (Some domain) name)) (named-name workflow k)

  -- ---- the batches

  -- a batch as it stands in a dump
  record IsPrinted (b : Batch) : Type 0 where
    own : IsOwn domain workflow b
    range : InRange b
    faultless : fault_of b ≡ None

  in-order : (last : Option BatchKey) (b : Batch) → IsOwn domain workflow b → ((key : BatchKey) → last ≡ Some key → key_lt key b.key ≡ true) → out_of_order own last b ≡ None
  in-order last b is after = rw is_its_own (by last refl)
    where
      is_its_own : is_own own b ≡ true
      is_its_own = and_from (bytes_eq b.domain domain) (bytes_eq b.workflow workflow) ((bytes_eq-Decides b.domain domain).1 is.domain_is) ((bytes_eq-Decides b.workflow workflow).1 is.workflow_is)

      by : (o : Option BatchKey) → last ≡ o → (if is_same_as b.key last then Some cause.SameKey else if is_behind b.key last then Some cause.BadOrder else None) ≡ None
      by None e = rw e refl
      by (Some key) e = let later = later-key key b.key (after key e) in rw (e, later.1, later.0) refl

  batch-again : (number : ℕ) (last : Option BatchKey) (b : Batch) → IsPrinted b → ((key : BatchKey) → last ≡ Some key → key_lt key b.key ≡ true) → batch_on own number last (batch_text b ++ 10 ∷ []) ≡ Ok b
  unfolding batch_on
  batch-again number last b p after =
      rw (without-line (batch_text b) (text-unbroken b p.range), text_again b p.range p.faultless, in-order last b p.own after) refl

  batches-again : (number : ℕ) (last : Option BatchKey) (batches : List Batch) (rest : List (List ℕ)) → AllByRecursion IsPrinted batches → ((key : BatchKey) → last ≡ Some key → ComeAfter key batches)
      → Rise batches → begins_first rest ≡ false → batches_on own number last (map batch_line batches ++ rest) ≡ Ok batches
  batches-again number last [] [] all after rise none = refl
  batches-again number last [] (line ∷ rest) all after rise none = rw none refl
  batches-again number last (b ∷ batches) rest all after rise none =
      rw (
        text_begins b (10 ∷ []),
        batch-again number last b all.0 (λ key e. (after key e).0),
        batches-again (number + 1) (Some b.key) batches rest all.1 (λ key e. let same : b.key ≡ key = cc in subst (λ (k : BatchKey). ComeAfter k batches) same rise.0) rise.1 none,
      ) refl

  view-again : (batches : List Batch) (rest : List (List ℕ)) → begins_first rest ≡ false → view_lines (map batch_line batches ++ rest) ≡ rest
  view-again [] [] none = refl
  view-again [] (line ∷ rest) none = rw none refl
  view-again (b ∷ batches) rest none = rw (text_begins b (10 ∷ [])) (view-again batches rest none)

  body-again : (line : List ℕ) (batches : List Batch) (rest : List (List ℕ)) → (batches ≡ [] → ⊥) → body_of (line ∷ (map batch_line batches ++ rest)) ≡ Ok (map batch_line batches ++ rest)
  body-again line [] rest some = absurd (some refl)
  body-again line (b ∷ batches) rest some = rw (text_begins b (10 ∷ [])) refl

  lines-again : (batches : List Batch) (more : List ℕ) → AllByRecursion InRange batches → lines_of (flat_map batch_line batches ++ more) ≡ map batch_line batches ++ lines_of more
  lines-again [] more all = refl
  lines-again (b ∷ batches) more all =
      ap lines_of (append_assoc (batch_line b) (flat_map batch_line batches) more ∙ append_assoc (batch_text b) (codes "\n") (flat_map batch_line batches ++ more))
      ∙ lines-line (batch_text b) (flat_map batch_line batches ++ more) (text-unbroken b all.0)
      ∙ ap (λ ls. batch_line b ∷ ls) (lines-again batches more all.1)

  view-same : (number : ℕ) (view : View) → view_on number (lines_of (view_text view)) view ≡ Ok view
  unfolding view_on
  view-same number view = rw (same-differ number (lines_of (view_text view))) refl

  -- ---- the dump

  dump-lines : (batches : List Batch) → CanBeDumped domain workflow batches
      → lines_of (dump_text domain workflow (view_of batches)) ≡ (heading_text own ++ 10 ∷ []) ∷ (map batch_line batches ++ lines_of (view_text (view_of batches)))
  dump-lines batches can =
      ap lines_of (dump_apart domain workflow batches ∙ append_assoc (heading_text own) (codes "\n") (flat_map batch_line batches ++ view_text (view_of batches)))
      ∙ lines-line (heading_text own) (flat_map batch_line batches ++ view_text (view_of batches)) (heading-unbroken can.domain_name can.workflow_name)
      ∙ ap (λ ls. (heading_text own ++ 10 ∷ []) ∷ ls) (lines-again batches (view_text (view_of batches)) can.range)

  all-printed : (batches : List Batch) → CanBeDumped domain workflow batches → AllByRecursion IsPrinted batches
  all-printed batches can =
      all-from IsPrinted batches (λ b among. record {
        own = all-among (IsOwn domain workflow) batches b can.own among;
        range = all-among InRange batches b can.range among;
        faultless = can.sound.faultless b (among-has batches b can.sound.set.ordered among);
      })

  pub dump-again : (batches : List Batch) → CanBeDumped domain workflow batches
      → dump_of (dump_text domain workflow (view_of batches)) ≡ Ok (record { domain = domain; workflow = workflow; view = view_of batches })
  unfolding dump_of dump_on
  dump-again batches can =
      let none : begins_first (lines_of (view_text (view_of batches))) ≡ false = begins-line (view_text (view_of batches)) ∙ runs_begin (view_of batches).runs in
      rw (
        dump-lines batches can,
        heading-again (map batch_line batches ++ lines_of (view_text (view_of batches))) can.domain_name can.workflow_name,
        body-again (heading_text own ++ 10 ∷ []) batches (lines_of (view_text (view_of batches))) can.some,
        batches-again 2 None batches (lines_of (view_text (view_of batches))) (all-printed batches can) (λ key e. absurd (cc)) can.sound.set.ordered none,
        is-causeless batches can.sound,
        view-again batches (lines_of (view_text (view_of batches))) none,
        view-same (2 + length batches) (view_of batches),
      ) refl

  -- ---- the batches alone

  bare-lines : (batches : List Batch) → CanBeDumped domain workflow batches → lines_of (bare_text domain workflow batches) ≡ (heading_text own ++ 10 ∷ []) ∷ (map batch_line batches ++ [])
  bare-lines batches can =
      ap lines_of (append_assoc (heading_text own) (codes "\n") (flat_map batch_line batches))
      ∙ lines-line (heading_text own) (flat_map batch_line batches) (heading-unbroken can.domain_name can.workflow_name)
      ∙ ap (λ ls. (heading_text own ++ 10 ∷ []) ∷ lines_of ls) (sym (append-nil (flat_map batch_line batches)))
      ∙ ap (λ ls. (heading_text own ++ 10 ∷ []) ∷ ls) (lines-again batches [] can.range)

  pub bare-again : (batches : List Batch) → CanBeDumped domain workflow batches
      → bare_dump_of (bare_text domain workflow batches) ≡ Ok (record { domain = domain; workflow = workflow; view = view_of batches })
  unfolding bare_dump_of bare_dump_on
  bare-again batches can =
      rw (
        bare-lines batches can,
        heading-again (map batch_line batches ++ []) can.domain_name can.workflow_name,
        body-again (heading_text own ++ 10 ∷ []) batches [] can.some,
        batches-again 2 None batches [] (all-printed batches can) (λ key e. absurd (cc)) can.sound.set.ordered refl,
        is-causeless batches can.sound,
        view-again batches [] refl,
      ) refl
