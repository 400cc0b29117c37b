-- Kinds and their names.
use Rattle.std.proofs.Common.{◌≡◌, ℕ, Bool, true, false, List, Option, Some, codes, refl, sym, ap, ◌∙◌}
use Rattle.std.specs.Prelude.{if◌then◌else◌}
use Rattle.std.specs.Str.{bytes_eq}
use Rattle.std.proofs.lemmas.Slice.Eq.{bytes_eq-Decides}
use Rattle.ndc_node_frames.specs.Frames.{kind_word, kind_in}
use Rattle.ndc_node_frames.specs.declared.kind.Kind.{Kind}
use Rattle.ndc_node_frames.specs.declared.kind.Kind.TheVariants.{Poll, Entries, Records, Handover, Gap, Served, Bootstrap, Recall, Recalled, Progress}

-- a kind is found by its name
pub kind_again : (kind : Kind) → kind_in (kind_word kind) ≡ Some kind
unfolding kind_in
kind_again Poll = refl
kind_again Entries = refl
kind_again Records = refl
kind_again Handover = refl
kind_again Gap = refl
kind_again Served = refl
kind_again Bootstrap = refl
kind_again Recall = refl
kind_again Recalled = refl
kind_again Progress = refl

-- one test of the table
one_test : (w : List ℕ) (here kind : Kind) (test : Bool) (rest : Option Kind) → bytes_eq w (kind_word here) ≡ test → (if test then Some here else rest) ≡ Some kind
    → (rest ≡ Some kind → kind_word kind ≡ w) → kind_word kind ≡ w
one_test w here kind true rest e h k = let same : here ≡ kind = cc in ap kind_word (sym same) ∙ sym ((bytes_eq-Decides w (kind_word here)).0 e)
one_test w here kind false rest e h k = k h

-- what is found by a name has this name
pub named : (w : List ℕ) (kind : Kind) → kind_in w ≡ Some kind → kind_word kind ≡ w
unfolding kind_in
named w kind h =
    one_test w Poll kind (bytes_eq w (codes "poll")) _ refl h (λ h.
    one_test w Entries kind (bytes_eq w (codes "entries")) _ refl h (λ h.
    one_test w Records kind (bytes_eq w (codes "records")) _ refl h (λ h.
    one_test w Handover kind (bytes_eq w (codes "handover")) _ refl h (λ h.
    one_test w Gap kind (bytes_eq w (codes "gap")) _ refl h (λ h.
    one_test w Served kind (bytes_eq w (codes "served")) _ refl h (λ h.
    one_test w Bootstrap kind (bytes_eq w (codes "bootstrap")) _ refl h (λ h.
    one_test w Recall kind (bytes_eq w (codes "recall")) _ refl h (λ h.
    one_test w Recalled kind (bytes_eq w (codes "recalled")) _ refl h (λ h.
    one_test w Progress kind (bytes_eq w (codes "progress")) _ refl h (λ h.
    absurd (cc)))))))))))
