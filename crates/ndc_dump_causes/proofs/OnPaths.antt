-- Paths of references to batches, replayed and gone over for origins.
use Rattle.std.proofs.Common.{◌≡◌, ℕ, ◌+◌, ◌<◌, List, [], ◌∷◌, ◌++◌, map, length, drop, get_or, Option, Some, None, refl, sym, ap, ◌∙◌}
use Rattle.std.specs.List.{cons_option}
use Rattle.std.proofs.lemmas.List.{append_assoc, at_drop_more}
use Rattle.ndc_event.specs.declared.batch.Batch.{Batch}
use Rattle.ndc_event.specs.declared.batch.Event.{Event}
use Rattle.ndc_event.specs.declared.key.RunId.{RunId}
use Rattle.ndc_event.specs.declared.key.Origin.{Origin}
use Rattle.ndc_reapply.specs.Strays.{origins_of}
use Rattle.ndc_reapply.specs.declared.stray.Stray.{Stray}
use Rattle.ndc_model_sets.specs.Origins.{origins_in, signal_of, signals_in}
use Rattle.ndc_state.specs.Replay.{history_of}

-- what is left from a place on is the item there, and what is left after it
pub left-one : {X : Type 0} (xs : List X) (i : ℕ) (x : X) → i < length xs → x ≡ get_or xs i x → drop i xs ≡ x ∷ drop (i + 1) xs
left-one xs i x below is = at_drop_more (λ l. l) xs i x below ∙ ap (λ y. y ∷ drop (i + 1) xs) (sym is)

-- the events left from a place on
pub history-left : {X : Type 0} (f : X → Batch) (xs : List X) (i : ℕ) (x : X) → i < length xs → x ≡ get_or xs i x
    → history_of (map f (drop i xs)) ≡ (f x).events ++ history_of (map f (drop (i + 1) xs))
history-left f xs i x below is = ap (λ l. history_of (map f l)) (left-one xs i x below is)

origins-some : (o : Option Stray) (all xs ys : List Stray) → origins_of all ≡ origins_of xs ++ origins_of ys → origins_of (cons_option o all) ≡ origins_of (cons_option o xs) ++ origins_of ys
origins-some None all xs ys e = e
origins-some (Some s) all xs ys e = ap (λ (l : List Origin). s.origin ∷ l) e

-- the origins of events and of those after them
pub origins-append : (run : RunId) (es fs : List Event) → origins_in run (es ++ fs) ≡ origins_in run es ++ origins_in run fs
origins-append run [] fs = refl
origins-append run (e ∷ es) fs = origins-some (signal_of run e.id e.version e.kind) (signals_in run (es ++ fs)) (signals_in run es) (signals_in run fs) (origins-append run es fs)

-- the next batch's origins are listed
pub origins-more : {X : Type 0} (run : RunId) (f : X → Batch) (xs : List X) (i : ℕ) (x : X) (old now all : List Origin) → i < length xs → x ≡ get_or xs i x
    → old ++ origins_in run (history_of (map f (drop i xs))) ≡ all → now ≡ old ++ origins_in run (f x).events
    → now ++ origins_in run (history_of (map f (drop (i + 1) xs))) ≡ all
origins-more run f xs i x old now all below is h new =
    ap (λ l. l ++ origins_in run (history_of (map f (drop (i + 1) xs)))) new
    ∙ append_assoc old (origins_in run (f x).events) (origins_in run (history_of (map f (drop (i + 1) xs))))
    ∙ ap (λ (l : List Origin). old ++ l) (sym (ap (origins_in run) (history-left f xs i x below is) ∙ origins-append run (f x).events (history_of (map f (drop (i + 1) xs)))))
    ∙ h
