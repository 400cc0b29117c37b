-- Batches that were read line by line are a set in range.
use Rattle.std.proofs.Common.{◌≡◌, ℕ, suc, ◌+◌, ◌<◌, ◌≤◌, Bool, true, false, not, ◌==◌, nat_lt, List, [], ◌∷◌, map, length, inl, inr, Option, Some, None, Result, Ok, Err, IfOk, refl, sym, ap, ◌∙◌, subst, arith, if◌then◌else◌}
use Rattle.std.specs.List.{AllByRecursion}
use Rattle.std.proofs.lemmas.Bool.{and_parts, eqb-true, ltb-true, ltb-false}
use Rattle.ndc_event.specs.Batch.{fault_of, is_carrier_fit, is_parent_fit}
use Rattle.ndc_event.specs.Key.{key_lt}
use Rattle.std.proofs.lemmas.List.{length-map}
use Rattle.ndc_event.specs.Outcome.{Gives, ◌>>=◌}
use Rattle.ndc_event.specs.declared.batch.Batch.{Batch}
use Rattle.ndc_event.specs.declared.key.BatchKey.{BatchKey}
use Rattle.ndc_model_sets.specs.Sets.{ComeAfter, PointsBack, Rise, earlier_of}
use Rattle.ndc_model_sets.proofs.BranchLemmas.{has-among}
use Rattle.ndc_model_sets.proofs.FaultLemmas.{passes}
use Rattle.ndc_model_sets.proofs.KeyLemmas.{before-from, before-total, IsBefore}
use Rattle.ndc_model_sets.proofs.Lists.{all-among}
use Rattle.ndc_model_sets.proofs.SetLemmas.{after-trans}
use Rattle.ndc_text.specs.Ranges.{InRange}
use Rattle.ndc_text.specs.Read.{read_of}
use Rattle.ndc_text.specs.declared.error.TextError.{TextError}
use Rattle.ndc_text.proofs.Exact.{found}
use Rattle.ndc_dump_causes.specs.declared.error.DumpError.{DumpError}
use Rattle.ndc_dump_causes.specs.declared.error.DumpError.TheVariants.{Memory}
use Rattle.ndc_dump_causes.specs.declared.error.LineCause.{LineCause}
use Rattle.ndc_dump_causes.specs.declared.error.LineCause.TheVariants as cause
use Rattle.ndc_dump.specs.declared.frame.Heading.{Heading}
use Rattle.ndc_dump.specs.Batches.{batch_on, batches_on, behind, is_behind, is_own, is_same_as, on_line, out_of_order, placed_or}
use Rattle.ndc_dump.specs.Frame.{begins_batch}
use Rattle.ndc_dump_causes.specs.Given.{AreRead}
use Rattle.ndc_dump.specs.Lines.{without_end}
use Rattle.ndc_dump_causes.proofs.NoCause.{went}

-- a batch without a fault points back
pub points-back : (b : Batch) → fault_of b ≡ None → PointsBack b
points-back b none key e = by b.parent b.carrier (passes b none).parent (passes b none).carrier e
  where
    by : (p c : Option BatchKey) → is_parent_fit b.key p ≡ true → is_carrier_fit b.key p c ≡ true → earlier_of p c ≡ Some key → key_lt key b.key ≡ true
    by (Some p) c fit _ e =
        let same : p ≡ key = cc in
        let parts = and_parts (not (nat_lt b.key.version p.version)) (nat_lt p.task b.key.task) fit in
        subst (λ (k : BatchKey). key_lt k b.key ≡ true) same (before-from p b.key (under (nat_lt p.version b.key.version) refl (ltb-true p.task b.key.task parts.1) parts.0))
      where
        under : (t : Bool) → nat_lt p.version b.key.version ≡ t → p.task < b.key.task → not (nat_lt b.key.version p.version) ≡ true → IsBefore p b.key
        under true f less g = inl (ltb-true p.version b.key.version f)
        under false f less g = inr (versions (nat_lt b.key.version p.version) refl g, less)
          where
            versions : (s : Bool) → nat_lt b.key.version p.version ≡ s → not s ≡ true → p.version ≡ b.key.version
            versions true h k = absurd (cc)
            versions false h k = omega (arith, ltb-false p.version b.key.version f, ltb-false b.key.version p.version h)
    by None None fit g e = absurd (cc)
    by None (Some c) fit g e =
        let same : c ≡ key = cc in
        let parts = and_parts (c.version == b.key.version) (c.task + 1 == b.key.task) g in
        let next : c.task + 1 ≡ b.key.task = eqb-true (c.task + 1) b.key.task parts.1 in
        subst (λ (k : BatchKey). key_lt k b.key ≡ true) same (before-from c b.key (inr (eqb-true c.version b.key.version parts.0, omega (arith, next))))

-- what is known of the batch of a line
pub record IsLine (last : Option BatchKey) (b : Batch) : Type 0 where
  pub faultless : fault_of b ≡ None
  pub range : InRange b
  pub after : (key : BatchKey) → last ≡ Some key → key_lt key b.key ≡ true

pub line-read : (number : ℕ) (r : Result Batch TextError) (b : Batch) → on_line number r ≡ Ok b → r ≡ Ok b
line-read number (Ok c) b e = let same : c ≡ b = cc in ap Ok same
line-read number (Err error) b e = absurd (cc)

pub placed : (number : ℕ) (c b : Batch) (o : Option LineCause) → placed_or number c o ≡ Ok b → (o ≡ None) × (c ≡ b)
placed number c b None e = (refl, cc)
placed number c b (Some fault) e = absurd (cc)

-- a batch with which nothing is wrong is of the heading's domain and workflow
pub own-line : (heading : Heading) (last : Option BatchKey) (b : Batch) → out_of_order heading last b ≡ None → is_own heading b ≡ true
own-line heading last b none = by (is_own heading b) refl none
  where
    by : (t : Bool) → is_own heading b ≡ t
        → (if not t then Some cause.Foreign else if is_same_as b.key last then Some cause.SameKey else if is_behind b.key last then Some cause.BadOrder else None) ≡ None → is_own heading b ≡ true
    by true e n = e
    by false e n = absurd (cc)

in-order : (heading : Heading) (last : Option BatchKey) (b : Batch) → out_of_order heading last b ≡ None → (key : BatchKey) → last ≡ Some key → key_lt key b.key ≡ true
in-order heading last b none key e = by (is_own heading b) (is_same_as b.key last) (is_behind b.key last) refl refl none
  where
    by : (r s t : Bool) → is_same_as b.key last ≡ s → is_behind b.key last ≡ t
        → (if not r then Some cause.Foreign else if s then Some cause.SameKey else if t then Some cause.BadOrder else None) ≡ None → key_lt key b.key ≡ true
    by false s t f g n = absurd (cc)
    by true true t f g n = absurd (cc)
    by true false true f g n = absurd (cc)
    by true false false f g n =
        before-total b.key key (sym (ap (is_behind b.key) e) ∙ g) (sym (ap (is_same_as b.key) e) ∙ f)

batch-read : (heading : Heading) (number : ℕ) (last : Option BatchKey) (line : List ℕ) (b : Batch) → batch_on heading number last line ≡ Ok b → IsLine last b
unfolding batch_on
batch-read heading number last line b e =
    let one = went (on_line number (read_of heading.form (without_end line))) _ b e in
    let two = placed number one.0 b (out_of_order heading last one.0) one.2 in
    let read = found heading.form (without_end line) one.0 (line-read number (read_of heading.form (without_end line)) one.0 one.1) in
    subst (IsLine last) two.1 (record { faultless = read.2; range = read.0; after = in-order heading last one.0 two.0 })

-- what is known of the batches of lines
pub record AreLines (last : Option BatchKey) (batches : List Batch) : Type 0 where
  pub faultless : AllByRecursion (λ b. fault_of b ≡ None) batches
  pub range : AllByRecursion InRange batches
  pub after : (key : BatchKey) → last ≡ Some key → ComeAfter key batches
  pub rise : Rise batches

no-lines : (last : Option BatchKey) (batches : List Batch) → [] ≡ batches → AreLines last batches
no-lines last batches e = subst (AreLines last) e (record { faultless = tt; range = tt; after = λ key e. tt; rise = tt })

more-lines : (last : Option BatchKey) (b : Batch) (r : Result (List Batch) DumpError) (batches : List Batch) → IsLine last b → ((rest : List Batch) → r ≡ Ok rest → AreLines (Some b.key) rest)
    → behind (b ∷ []) r ≡ Ok batches → AreLines last batches
more-lines last b (Err error) batches one rest e = absurd (cc)
more-lines last b (Ok bs) batches one rest e =
    let l = rest bs refl in
    let same : b ∷ bs ≡ batches = cc in
    subst (AreLines last) same (record {
      faultless = (one.faultless, l.faultless);
      range = (one.range, l.range);
      after = λ key h. (one.after key h, after-trans key b.key bs (one.after key h) (l.after b.key refl));
      rise = (l.after b.key refl, l.rise);
    })

lines-read : (heading : Heading) (number : ℕ) (last : Option BatchKey) (lines : List (List ℕ)) (batches : List Batch) → batches_on heading number last lines ≡ Ok batches → AreLines last batches
lines-read heading number last [] batches = λ e. no-lines last batches (cc)
lines-read heading number last (line ∷ lines) batches = by (begins_batch line) (λ b rest h. lines-read heading (number + 1) (Some b.key) lines rest h)
  where
    by : (t : Bool) → ((b : Batch) (rest : List Batch) → batches_on heading (number + 1) (Some b.key) lines ≡ Ok rest → AreLines (Some b.key) rest)
        → (if t then batch_on heading number last line >>= (λ b. behind (b ∷ []) (batches_on heading (number + 1) (Some b.key) lines)) else Ok []) ≡ Ok batches → AreLines last batches
    by true rest e =
        let one = went (batch_on heading number last line) _ batches e in
        more-lines last one.0 (batches_on heading (number + 1) (Some one.0.key) lines) batches (batch-read heading number last line one.0 one.1) (rest one.0) one.2
    by false rest e = no-lines last batches (cc)

all-back : (batches : List Batch) → AllByRecursion (λ b. fault_of b ≡ None) batches → AllByRecursion PointsBack batches
all-back [] all = tt
all-back (b ∷ bs) all = (points-back b all.0, all-back bs all.1)

pub are-read : (heading : Heading) (number : ℕ) (last : Option BatchKey) (lines : List (List ℕ)) (batches : List Batch) → batches_on heading number last lines ≡ Ok batches → AreRead batches
are-read heading number last lines batches e =
    let l = lines-read heading number last lines batches e in
    record {
      set = record { ordered = l.rise; back = all-back batches l.faultless };
      faultless = λ b has. all-among (λ b. fault_of b ≡ None) batches b l.faultless (has-among batches b has);
      range = l.range;
    }

-- ---- what is given

pub given_read : (heading : Heading) (lines : List (List ℕ)) {X : Type 0} (items : X → List Batch) (r : Result X DumpError) → Gives Memory items r (batches_on heading 2 None lines) → IfOk r (λ x. AreRead (items x))
given_read heading lines items (Ok x) e = are-read heading 2 None lines (items x) e
given_read heading lines items (Err error) e = tt

counted-lines : (n : ℕ) (b : Batch) (r : Result (List Batch) DumpError) (batches : List Batch) → ((rest : List Batch) → r ≡ Ok rest → length rest ≤ n) → behind (b ∷ []) r ≡ Ok batches → length batches ≤ suc n
counted-lines n b (Err error) batches rest e = absurd (cc)
counted-lines n b (Ok bs) batches rest e =
    let same : b ∷ bs ≡ batches = cc in
    let few : length bs ≤ n = rest bs refl in
    subst (λ (l : List Batch). length l ≤ suc n) same (omega (arith, few))

lines-count : (heading : Heading) (number : ℕ) (last : Option BatchKey) (lines : List (List ℕ)) (batches : List Batch) → batches_on heading number last lines ≡ Ok batches → length batches ≤ length lines
lines-count heading number last [] batches = λ e. let none : [] ≡ batches = cc in subst (λ (l : List Batch). length l ≤ 0) none (omega arith)
lines-count heading number last (line ∷ lines) batches = by (begins_batch line) (λ b rest h. lines-count heading (number + 1) (Some b.key) lines rest h)
  where
    by : (t : Bool) → ((b : Batch) (rest : List Batch) → batches_on heading (number + 1) (Some b.key) lines ≡ Ok rest → length rest ≤ length lines)
        → (if t then batch_on heading number last line >>= (λ b. behind (b ∷ []) (batches_on heading (number + 1) (Some b.key) lines)) else Ok []) ≡ Ok batches → length batches ≤ suc (length lines)
    by true rest e =
        let one = went (batch_on heading number last line) _ batches e in
        counted-lines (length lines) one.0 (batches_on heading (number + 1) (Some one.0.key) lines) batches (rest one.0) one.2
    by false rest e = let none : [] ≡ batches = cc in subst (λ (l : List Batch). length l ≤ suc (length lines)) none (omega arith)

pub given_count : (heading : Heading) {L : Type 0} (read : L → List ℕ) (lines : List L) {X : Type 0} (items : X → List Batch) (r : Result X DumpError) → Gives Memory items r (batches_on heading 2 None (map read lines))
    → IfOk r (λ x. length (items x) ≤ length lines)
given_count heading read lines items (Ok x) e = subst (λ (n : ℕ). length (items x) ≤ n) (length-map lines read) (lines-count heading 2 None (map read lines) (items x) e)
given_count heading read lines items (Err error) e = tt
