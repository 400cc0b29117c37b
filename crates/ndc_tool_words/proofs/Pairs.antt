-- The options that were given, one after the other, and what the table makes of them.
use Rattle.std.proofs.Common.{◌≡◌, ◌∙◌, ℕ, Bool, true, false, ◌||◌, cond, is_some, List, [], ◌∷◌, ◌++◌, map, codes, Option, Some, None, if◌then◌else◌, refl, sym, ap}
use Rattle.std.specs.Prelude.{slice_get, find, option_and_then}
use Rattle.std.specs.Str.{bytes_eq}
use Rattle.clap.specs.Words.{Row, Text, first_of}
use Rattle.clap.specs.Walk.{has_row}
use Rattle.clap.specs.declared.builder.value_parser.Reading.TheVariants.{AsWritten}
use Rattle.clap.specs.declared.parser.matches.ValueSource.TheVariants.{CommandLine}
use Rattle.ndc_tool_words.specs.Reads.{◌>>=◌}
use Rattle.ndc_tool_words.specs.Numbers.{number_within}
use Rattle.ndc_tool_words.specs.Names.{names_of}
use Rattle.ndc_tool_words.specs.Options.{Flag, Index, Late, Options, Workers, with_value}
use Rattle.ndc_tool_words.specs.Found.{given_by, options_in}

-- the name of an option
abbrev pub name_of : Flag → Text
name_of Workers = codes "workers"
name_of Index = codes "index"
name_of Late = codes "late"

-- an option and its value
abbrev pub Pair : Type 0
Pair = Flag × Text

-- the row of an option that was given
abbrev pub row : Pair → Row
row p = record {
  id = name_of p.0;
  values = p.1 ∷ [];
  count = None;
  source = Some CommandLine;
  reading = AsWritten;
}

-- the value that was given to an option first
abbrev pub value_in : Flag → List Pair → Option Text
value_in f [] = None
value_in f (p ∷ ps) = if bytes_eq (name_of p.0) (name_of f) then Some p.1 else value_in f ps

-- the value that clap finds is the first one
pub first-found : (f : Flag) (ps : List Pair) → first_of (name_of f) (map row ps) ≡ value_in f ps
first-found f [] = refl
first-found f (p ∷ ps) = go (bytes_eq (name_of p.0) (name_of f)) (first-found f ps)
  where
    go : (t : Bool) → first_of (name_of f) (map row ps) ≡ value_in f ps
        → option_and_then (λ (r : Row). slice_get r.values 0) (cond t (Some (row p)) (find (λ (r : Row). bytes_eq r.id (name_of f)) (map row ps))) ≡ cond t (Some p.1) (value_in f ps)
    go true e = refl
    go false e = e

-- an option has a row where it has a value
pub has-value : (f : Flag) (ps : List Pair) → has_row (name_of f) (map row ps) ≡ is_some (value_in f ps)
has-value f [] = refl
has-value f (p ∷ ps) = go (bytes_eq (name_of p.0) (name_of f)) (has-value f ps)
  where
    go : (t : Bool) → has_row (name_of f) (map row ps) ≡ is_some (value_in f ps)
        → (t || has_row (name_of f) (map row ps)) ≡ is_some (cond t (Some p.1) (value_in f ps))
    go true e = refl
    go false e = e

-- a value, or the one after it
abbrev pub or_value : Option Text → Option Text → Option Text
or_value None more = more
or_value (Some value) more = Some value

-- the value with one more option after all others
pub value-behind : (g f : Flag) (v : Text) (ps : List Pair) → value_in g (ps ++ (f, v) ∷ []) ≡ or_value (value_in g ps) (cond (bytes_eq (name_of f) (name_of g)) (Some v) None)
value-behind g f v [] = refl
value-behind g f v (p ∷ ps) = go (bytes_eq (name_of p.0) (name_of g)) (value-behind g f v ps)
  where
    go : (t : Bool) → value_in g (ps ++ (f, v) ∷ []) ≡ or_value (value_in g ps) (cond (bytes_eq (name_of f) (name_of g)) (Some v) None)
        → cond t (Some p.1) (value_in g (ps ++ (f, v) ∷ [])) ≡ or_value (cond t (Some p.1) (value_in g ps)) (cond (bytes_eq (name_of f) (name_of g)) (Some v) None)
    go true e = refl
    go false e = e

-- and where it is of another option
pub value-beside : (o : Option Text) → or_value o None ≡ o
value-beside None = refl
value-beside (Some value) = refl

abbrev pub Names : Type 0
Names = List (List ℕ)

-- the options from what was given to each
abbrev pub options_by : Option Flag → Option (Option ℕ) → Option (Option Names) → Option (Option Names) → Option Options
options_by awaited workers index late = workers >>= (λ w. index >>= (λ i. late >>= (λ l. Some (record {
  workers = w;
  index = i;
  late = l;
  awaited = awaited;
}))))

abbrev pub workers_given : Option Text → Option (Option ℕ)
workers_given = given_by (number_within 1 64)

abbrev pub names_given : Option Text → Option (Option Names)
names_given = given_by names_of

-- the options that were given, while the value of one is awaited
abbrev pub options_of : Option Flag → List Pair → Option Options
options_of awaited ps = options_by awaited (workers_given (value_in Workers ps)) (names_given (value_in Index ps)) (names_given (value_in Late ps))

-- they are those that are found
pub options-found : (ps : List Pair) → options_in (map row ps) ≡ options_of None ps
unfolding options_in
options-found ps = λ i. options_by None (workers_given (first-found Workers ps i)) (names_given (first-found Index ps i)) (names_given (first-found Late ps i))

each-by : {X : Type 0} (a b : Option Flag) (w : Option (Option ℕ)) (i l : Option (Option Names)) (k m : Options → Option X)
    → ((x : Option ℕ) (y z : Option Names) → k (record { workers = x; index = y; late = z; awaited = a }) ≡ m (record { workers = x; index = y; late = z; awaited = b }))
    → (options_by a w i l >>= k) ≡ (options_by b w i l >>= m)
each-by a b None i l k m same = refl
each-by a b (Some x) None l k m same = refl
each-by a b (Some x) (Some y) None k m same = refl
each-by a b (Some x) (Some y) (Some z) k m same = same x y z

-- what is the same at each of the options is the same
pub each : {X : Type 0} (a b : Option Flag) (ps : List Pair) (k m : Options → Option X)
    → ((x : Option ℕ) (y z : Option Names) → k (record { workers = x; index = y; late = z; awaited = a }) ≡ m (record { workers = x; index = y; late = z; awaited = b }))
    → (options_of a ps >>= k) ≡ (options_of b ps >>= m)
each a b ps k m same = each-by a b (workers_given (value_in Workers ps)) (names_given (value_in Index ps)) (names_given (value_in Late ps)) k m same

none-by : {X : Type 0} (a : Option Flag) (w : Option (Option ℕ)) (i l : Option (Option Names)) (k : Options → Option X)
    → ((x : Option ℕ) (y z : Option Names) → k (record { workers = x; index = y; late = z; awaited = a }) ≡ None) → (options_by a w i l >>= k) ≡ None
none-by a None i l k none = refl
none-by a (Some x) None l k none = refl
none-by a (Some x) (Some y) None k none = refl
none-by a (Some x) (Some y) (Some z) k none = none x y z

-- what is none at each of the options is none
pub none-of-each : {X : Type 0} (a : Option Flag) (ps : List Pair) (k : Options → Option X)
    → ((x : Option ℕ) (y z : Option Names) → k (record { workers = x; index = y; late = z; awaited = a }) ≡ None) → (options_of a ps >>= k) ≡ None
none-of-each a ps k none = none-by a (workers_given (value_in Workers ps)) (names_given (value_in Index ps)) (names_given (value_in Late ps)) k none

-- ---- one more option

abbrev given : {X : Type 0} → Option X → Option (Option X)
given o = o >>= (λ x. Some (Some x))

new-workers : (r : Option ℕ) (i l : Option (Option Names))
    → (options_by None (Some None) i l >>= (λ o. if is_some o.workers then None else r >>= (λ x. Some (record o { workers = Some x; awaited = None })))) ≡ options_by None (given r) i l
new-workers None None l = refl
new-workers None (Some y) None = refl
new-workers None (Some y) (Some z) = refl
new-workers (Some x) None l = refl
new-workers (Some x) (Some y) None = refl
new-workers (Some x) (Some y) (Some z) = refl

new-index : (r : Option Names) (w : Option (Option ℕ)) (l : Option (Option Names))
    → (options_by None w (Some None) l >>= (λ o. if is_some o.index then None else r >>= (λ y. Some (record o { index = Some y; awaited = None })))) ≡ options_by None w (given r) l
new-index r None l = refl
new-index None (Some x) None = refl
new-index None (Some x) (Some z) = refl
new-index (Some y) (Some x) None = refl
new-index (Some y) (Some x) (Some z) = refl

new-late : (r : Option Names) (w : Option (Option ℕ)) (i : Option (Option Names))
    → (options_by None w i (Some None) >>= (λ o. if is_some o.late then None else r >>= (λ z. Some (record o { late = Some z; awaited = None })))) ≡ options_by None w i (given r)
new-late r None i = refl
new-late r (Some x) None = refl
new-late None (Some x) (Some y) = refl
new-late (Some z) (Some x) (Some y) = refl

again-workers : (r s : Option ℕ) (i l : Option (Option Names))
    → (options_by None (given r) i l >>= (λ o. if is_some o.workers then None else s >>= (λ x. Some (record o { workers = Some x; awaited = None })))) ≡ None
again-workers None s i l = refl
again-workers (Some x) s None l = refl
again-workers (Some x) s (Some y) None = refl
again-workers (Some x) s (Some y) (Some z) = refl

again-index : (r s : Option Names) (w : Option (Option ℕ)) (l : Option (Option Names))
    → (options_by None w (given r) l >>= (λ o. if is_some o.index then None else s >>= (λ y. Some (record o { index = Some y; awaited = None })))) ≡ None
again-index r s None l = refl
again-index None s (Some x) l = refl
again-index (Some y) s (Some x) None = refl
again-index (Some y) s (Some x) (Some z) = refl

again-late : (r s : Option Names) (w : Option (Option ℕ)) (i : Option (Option Names))
    → (options_by None w i (given r) >>= (λ o. if is_some o.late then None else s >>= (λ z. Some (record o { late = Some z; awaited = None })))) ≡ None
again-late r s None i = refl
again-late r s (Some x) None = refl
again-late None s (Some x) (Some y) = refl
again-late (Some z) s (Some x) (Some y) = refl

-- an option that was not given yet, read by the table, is one more option
pub one-more : (f : Flag) (v : Text) (ps : List Pair) → value_in f ps ≡ None → (options_of None ps >>= with_value f v) ≡ options_of None (ps ++ (f, v) ∷ [])
unfolding with_value
one-more Workers v ps none =
    ap (λ o. options_by None (workers_given o) (names_given (value_in Index ps)) (names_given (value_in Late ps)) >>= with_value Workers v) none
    ∙ (new-workers (number_within 1 64 v) (names_given (value_in Index ps)) (names_given (value_in Late ps))
    ∙ (λ i. options_by None
    (workers_given (sym (value-behind Workers Workers v ps ∙ ap (λ o. or_value o (Some v)) none) i))
    (names_given (sym (value-behind Index Workers v ps ∙ value-beside (value_in Index ps)) i))
    (names_given (sym (value-behind Late Workers v ps ∙ value-beside (value_in Late ps)) i))))
one-more Index v ps none =
    ap (λ o. options_by None (workers_given (value_in Workers ps)) (names_given o) (names_given (value_in Late ps)) >>= with_value Index v) none
    ∙ (new-index (names_of v) (workers_given (value_in Workers ps)) (names_given (value_in Late ps))
    ∙ (λ i. options_by None
    (workers_given (sym (value-behind Workers Index v ps ∙ value-beside (value_in Workers ps)) i))
    (names_given (sym (value-behind Index Index v ps ∙ ap (λ o. or_value o (Some v)) none) i))
    (names_given (sym (value-behind Late Index v ps ∙ value-beside (value_in Late ps)) i))))
one-more Late v ps none =
    ap (λ o. options_by None (workers_given (value_in Workers ps)) (names_given (value_in Index ps)) (names_given o) >>= with_value Late v) none
    ∙ (new-late (names_of v) (workers_given (value_in Workers ps)) (names_given (value_in Index ps))
    ∙ (λ i. options_by None
    (workers_given (sym (value-behind Workers Late v ps ∙ value-beside (value_in Workers ps)) i))
    (names_given (sym (value-behind Index Late v ps ∙ value-beside (value_in Index ps)) i))
    (names_given (sym (value-behind Late Late v ps ∙ ap (λ o. or_value o (Some v)) none) i))))

-- an option that was given before is refused
pub no-more : (f : Flag) (v u : Text) (ps : List Pair) → value_in f ps ≡ Some u → (options_of None ps >>= with_value f v) ≡ None
unfolding with_value
no-more Workers v u ps some =
    ap (λ o. options_by None (workers_given o) (names_given (value_in Index ps)) (names_given (value_in Late ps)) >>= with_value Workers v) some
    ∙ again-workers (number_within 1 64 u) (number_within 1 64 v) (names_given (value_in Index ps)) (names_given (value_in Late ps))
no-more Index v u ps some =
    ap (λ o. options_by None (workers_given (value_in Workers ps)) (names_given o) (names_given (value_in Late ps)) >>= with_value Index v) some
    ∙ again-index (names_of u) (names_of v) (workers_given (value_in Workers ps)) (names_given (value_in Late ps))
no-more Late v u ps some =
    ap (λ o. options_by None (workers_given (value_in Workers ps)) (names_given (value_in Index ps)) (names_given o) >>= with_value Late v) some
    ∙ again-late (names_of u) (names_of v) (workers_given (value_in Workers ps)) (names_given (value_in Index ps))
