-- The first batch that a cause holds of.
use Rattle.std.proofs.Common.{◌≡◌, ℕ, ◌+◌, ◌<◌, Bool, true, false, List, find, length, drop, get_or, Some, Result, Err, if◌then◌else◌, sym, ap, ◌∙◌, subst}
use Rattle.ndc_event.specs.Outcome.{Gives}
use Rattle.ndc_event.specs.declared.batch.Batch.{Batch}
use Rattle.ndc_dump_causes.specs.declared.error.DumpError.{DumpError}
use Rattle.ndc_dump_causes.specs.declared.error.DumpError.TheVariants.{Key, Memory}
use Rattle.ndc_dump_causes.specs.declared.error.KeyCause.{KeyCause}
use Rattle.ndc_dump_causes.specs.Causes.{holds_of_none, refused_at}
use Rattle.ndc_dump_causes.proofs.OnPaths.{left-one}

-- a batch passes, and the next is tried
pub passed-one : (cause : KeyCause) (test : Batch → Bool) (xs : List Batch) (i : ℕ) (b : Batch) → i < length xs → b ≡ get_or xs i b → test b ≡ false
    → holds_of_none cause test (drop i xs) ≡ holds_of_none cause test xs → holds_of_none cause test (drop (i + 1) xs) ≡ holds_of_none cause test xs
passed-one cause test xs i b below is refuted rest =
    sym (ap (holds_of_none cause test) (left-one xs i b below is) ∙ ap (λ t. refused_at cause (if t then Some b else find test (drop (i + 1) xs))) refuted) ∙ rest

-- the cause holds of a batch, and of none before it
pub held-of : (cause : KeyCause) (test : Batch → Bool) (xs : List Batch) (i : ℕ) (b : Batch) → i < length xs → b ≡ get_or xs i b → test b ≡ true
    → holds_of_none cause test (drop i xs) ≡ holds_of_none cause test xs → holds_of_none cause test xs ≡ Err (Key b.key cause)
held-of cause test xs i b below is held rest =
    sym rest ∙ ap (holds_of_none cause test) (left-one xs i b below is) ∙ ap (λ t. refused_at cause (if t then Some b else find test (drop (i + 1) xs))) held

pub refused-held : (cause : KeyCause) (test : Batch → Bool) (xs : List Batch) (i : ℕ) (b : Batch) (r : Result (Unit {0}) DumpError) → i < length xs → b ≡ get_or xs i b → test b ≡ true
    → holds_of_none cause test (drop i xs) ≡ holds_of_none cause test xs → r ≡ Err (Key b.key cause) → Gives Memory (λ (done : Unit {0}). done) r (holds_of_none cause test xs)
refused-held cause test xs i b r below is held rest e =
    subst (λ (r : Result (Unit {0}) DumpError). Gives Memory (λ (done : Unit {0}). done) r (holds_of_none cause test xs)) (sym e) (λ _. held-of cause test xs i b below is held rest)
