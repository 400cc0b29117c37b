-- Words that differ, by the set of those that came before.
use Rattle.std.proofs.Common.{◌≡◌, ℕ, ◌+◌, ◌<◌, Bool, true, false, ◌&&◌, ◌||◌, not, List, [], ◌∷◌, length, map, drop, get_or, cond, Bor, refl, sym, ap, ◌∙◌}
use Rattle.std.specs.List.{list_all, list_any}
use Rattle.std.specs.BTreeSet.{BTreeSet, contains, Updates}
use Rattle.std.specs.Cmp.Lexicographic.{slice_cmp}
use Rattle.std.specs.Ordering.{nat_cmp}
use Rattle.std.specs.declared.cmp.Ordering.{Ordering}
use Rattle.std.proofs.lemmas.Map.Text.{is_eq-slice_cmp}
use Rattle.std.specs.Str.{bytes_eq}
use Rattle.std.proofs.lemmas.List.{at_drop_more}
use Rattle.std.proofs.lemmas.Slice.Eq.{bytes_eq-Decides}
use Rattle.ndc_domain.proofs.Writers.{not_true}
use Rattle.ndc_script_read.specs.Register.{all_differ}

-- words as a slice holds them
abbrev pub Words : Type 0
Words = List (Bor (List ℕ))

-- none of the words passes, and no two of them are the same
abbrev pub differ_behind : (Bor (List ℕ) → Bool) → Words → Bool
differ_behind before words = list_all (λ word. not (before word)) words && all_differ (map (λ word. word.now) words)

not_so : (b : Bool) → not b ≡ true → b ≡ false
not_so true h = absurd (cc)
not_so false h = refl

swapped : (a b d : Bool) → (a && (b && d)) ≡ ((b && a) && d)
swapped true true d = refl
swapped true false d = refl
swapped false true d = refl
swapped false false d = refl

sym_by : (one two : List ℕ) (a b : Bool) → bytes_eq one two ≡ a → bytes_eq two one ≡ b → a ≡ b
sym_by one two true b is back = sym ((bytes_eq-Decides two one).1 (sym ((bytes_eq-Decides one two).0 is))) ∙ back
sym_by one two false b is back =
    sym (sym back ∙ not_true (bytes_eq two one) (λ t. let same : bytes_eq one two ≡ true = (bytes_eq-Decides one two).1 (sym ((bytes_eq-Decides two one).0 t)) in absurd (cc)))

bytes_eq-sym : (one two : List ℕ) → bytes_eq one two ≡ bytes_eq two one
bytes_eq-sym one two = sym_by one two (bytes_eq one two) (bytes_eq two one) refl refl

split : (e p any all : Bool) → (not (e || p) && (not any && all)) ≡ (not (e || any) && (not p && all))
split true p any all = refl
split false true true all = refl
split false true false all = refl
split false false true all = refl
split false false false all = refl

-- none is the word or passes exactly where none is the word and none passes
none_more : (before after : Bor (List ℕ) → Bool) (word : Bor (List ℕ)) (words : Words) → ((q : Bor (List ℕ)) → after q ≡ (bytes_eq word.now q.now || before q)) → list_all (λ w. not (after w)) words ≡ (not (list_any (λ other. bytes_eq other word.now) (map (λ w. w.now) words)) && list_all (λ w. not (before w)) words)
none_more before after word [] is = refl
none_more before after word (w ∷ words) is =
    ap (λ (b : Bool). not b && list_all (λ one. not (after one)) words) (is w ∙ ap (λ (b : Bool). b || before w) (bytes_eq-sym word.now w.now))
    ∙ ap (λ (b : Bool). not (bytes_eq w.now word.now || before w) && b) (none_more before after word words is)
    ∙ split (bytes_eq w.now word.now) (before w) (list_any (λ other. bytes_eq other word.now) (map (λ one. one.now) words)) (list_all (λ one. not (before one)) words)

new_word : (before after : Bor (List ℕ) → Bool) (word : Bor (List ℕ)) (words : Words) → before word ≡ false → ((q : Bor (List ℕ)) → after q ≡ (bytes_eq word.now q.now || before q)) → differ_behind before (word ∷ words) ≡ differ_behind after words
new_word before after word words fresh is =
    ap (λ (b : Bool). (not b && list_all (λ w. not (before w)) words) && (not (list_any (λ other. bytes_eq other word.now) (map (λ w. w.now) words)) && all_differ (map (λ w. w.now) words))) fresh
    ∙ swapped (list_all (λ w. not (before w)) words) (not (list_any (λ other. bytes_eq other word.now) (map (λ w. w.now) words))) (all_differ (map (λ w. w.now) words))
    ∙ ap (λ (b : Bool). b && all_differ (map (λ w. w.now) words)) (sym (none_more before after word words is))

-- a word that did not come before
pub fresh_step : (before after : Bor (List ℕ) → Bool) (words : Words) (i : ℕ) (d : Bor (List ℕ)) → i < length words → not (before (get_or words i d)) ≡ true → ((q : Bor (List ℕ)) → after q ≡ (bytes_eq (get_or words i d).now q.now || before q)) → differ_behind before (drop i words) ≡ differ_behind after (drop (i + 1) words)
fresh_step before after words i d within fresh is =
    at_drop_more (differ_behind before) words i d within ∙ new_word before after (get_or words i d) (drop (i + 1) words) (not_so (before (get_or words i d)) fresh) is

all_new : (before : Bor (List ℕ) → Bool) (words : Words) → ((q : Bor (List ℕ)) → before q ≡ false) → list_all (λ w. not (before w)) words ≡ true
all_new before [] none = refl
all_new before (w ∷ words) none = ap (λ (b : Bool). not b && list_all (λ one. not (before one)) words) (none w) ∙ all_new before words none

-- none comes before the first
pub none_before : (before : Bor (List ℕ) → Bool) (words : Words) → ((q : Bor (List ℕ)) → before q ≡ false) → differ_behind before words ≡ all_differ (map (λ w. w.now) words)
none_before before words none = ap (λ (b : Bool). b && all_differ (map (λ w. w.now) words)) (all_new before words none)

-- how the set orders its words
abbrev pub word_cmp : Bor (List ℕ) → Bor (List ℕ) → Ordering
word_cmp one two = slice_cmp nat_cmp one.now two.now

or_cond : (a b : Bool) → cond a true b ≡ (a || b)
or_cond true b = refl
or_cond false b = refl

-- a set that a word was put into
pub put_in : (before after : BTreeSet (Bor (List ℕ))) (word : Bor (List ℕ)) → Updates word_cmp before after word true → (q : Bor (List ℕ)) → contains word_cmp after q ≡ (bytes_eq word.now q.now || contains word_cmp before q)
put_in before after word updates q =
    updates.0 q ∙ ap (λ (b : Bool). cond b true (contains word_cmp before q)) (is_eq-slice_cmp word.now q.now) ∙ or_cond (bytes_eq word.now q.now) (contains word_cmp before q)

-- a set without words
pub empty_has : (set : BTreeSet (Bor (List ℕ))) → set.keys ≡ [] → (q : Bor (List ℕ)) → contains word_cmp set q ≡ false
empty_has set none q = rw none refl
