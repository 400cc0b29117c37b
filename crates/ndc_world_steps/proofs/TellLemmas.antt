-- Counts of jobs, one list of notes after another.
use Rattle.std.proofs.Common.{◌≡◌, ℕ, ◌+◌, List, [], ◌∷◌, ◌++◌, map, sum, refl, ◌∙◌, ap, arith}
use Rattle.std.specs.List.{flat_map}
use Rattle.std.proofs.lemmas.Grind.{flat_map-append}
use Rattle.std.proofs.lemmas.List.Sums.{sum_by-append}
use Rattle.ndc_world_answers.specs.Tallies.{no_tally, with_notes}
use Rattle.ndc_world_answers.specs.declared.tally.Tally.{Tally}
use Rattle.ndc_model.specs.Moves.{Note}
use Rattle.ndc_model.specs.Steps.{applied_by, arrived_by, known_by, learned_by, put_off_by, seen_at, seen_of}
use Rattle.ndc_world_replication.specs.Dones.{notes_in}
use Rattle.ndc_world_replication.specs.declared.working.Done.{Done}
use Rattle.ndc_world_steps.specs.Telling.{tally_of}

map-both : (f : Note → ℕ) (one two : List Note) → map f (one ++ two) ≡ map f one ++ map f two
map-both f [] two = refl
map-both f (note ∷ one) two = ap (λ l. f note ∷ l) (map-both f one two)

both : (f : Note → ℕ) (one two : List Note) (before : ℕ) → before + sum (map f (one ++ two)) ≡ before + sum (map f one) + sum (map f two)
both f one two before =
    let joined : sum (map f (one ++ two)) ≡ sum (map f one) + sum (map f two) = ap sum (map-both f one two) ∙ sum_by-append (λ n. n) (map f one) (map f two) in
    omega (arith, joined)

tally : ℕ → ℕ → ℕ → ℕ → ℕ → Tally
tally learned known put_off arrived applied = record { learned = learned; known = known; put_off = put_off; arrived = arrived; applied = applied }

same-tally : (a b c d e v w x y z : ℕ) → a ≡ v → b ≡ w → c ≡ x → d ≡ y → e ≡ z → tally a b c d e ≡ tally v w x y z
same-tally a b c d e v w x y z p q r s t = cc

-- of jobs that were done, counted after others
pub counts_more : (done : Done) (dones : List Done) (t : Tally) → with_notes (flat_map notes_in (done ∷ dones)) t ≡ with_notes (flat_map notes_in dones) (with_notes (notes_in done) t)
unfolding tally
counts_more done dones t =
    same-tally _ _ _ _ _ _ _ _ _ _ (both learned_by (notes_in done) (flat_map notes_in dones) t.learned) (both known_by (notes_in done) (flat_map notes_in dones) t.known)
    (both put_off_by (notes_in done) (flat_map notes_in dones) t.put_off) (both arrived_by (notes_in done) (flat_map notes_in dones) t.arrived)
    (both applied_by (notes_in done) (flat_map notes_in dones) t.applied)

pub seen_more : (done : Done) (dones : List Done) → seen_of (flat_map notes_in (done ∷ dones)) ≡ seen_of (notes_in done) ++ seen_of (flat_map notes_in dones)
seen_more done dones = flat_map-append (λ note. seen_at note.cluster note.reply.learned) (notes_in done) (flat_map notes_in dones)

-- with nothing counted before
pub counts_all : (notes : List Note) → with_notes notes no_tally ≡ tally_of notes
unfolding tally
counts_all notes = same-tally _ _ _ _ _ (sum (map learned_by notes)) (sum (map known_by notes)) (sum (map put_off_by notes)) (sum (map arrived_by notes)) (sum (map applied_by notes)) (omega arith) (omega arith) (omega arith) (omega arith) (omega arith)
