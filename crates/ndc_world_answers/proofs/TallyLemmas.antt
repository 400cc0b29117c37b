-- Replies counted one after the other are their notes counted.
use Rattle.std.proofs.Common.{◌≡◌, ℕ, zero, suc, ◌+◌, ◌≤◌, List, [], ◌∷◌, ◌++◌, map, sum, length, drop, take, refl, sym, ap, ◌∙◌, arith}
use Rattle.std.proofs.lemmas.List.Sums.{sum_by-cons}
use Rattle.ndc_model_cells.specs.declared.job.JobReply.{JobReply}
use Rattle.ndc_model_cells.specs.declared.job.ShardJob.{ShardJob}
use Rattle.ndc_domain.specs.declared.clusters.ClusterNo.{ClusterNo}
use Rattle.ndc_index.specs.declared.seen.Seen.{Seen}
use Rattle.ndc_model.specs.Moves.{Note, notes_of}
use Rattle.ndc_model.specs.Steps.{applied_by, arrived_by, known_by, learned_by, put_off_by, seen_at, seen_of}
use Rattle.ndc_world_answers.specs.Tallies.{seen_by, with_notes, with_replies, with_reply}
use Rattle.ndc_world_answers.specs.declared.tally.Tally.{Tally}

-- one more note at the beginning
more : (f : Note → ℕ) (note : Note) (notes : List Note) (before : ℕ) → before + sum (map f (note ∷ notes)) ≡ before + f note + sum (map f notes)
more f note notes before = let whole : sum (map f (note ∷ notes)) ≡ f note + sum (map f notes) = sum_by-cons (λ n. n) (f note) (map f notes) in omega (arith, whole)

-- what is counted, count by count
pub tally : ℕ → ℕ → ℕ → ℕ → ℕ → Tally
tally learned known put_off arrived applied = record { learned = learned; known = known; put_off = put_off; arrived = arrived; applied = applied }

pub same-tally : (a b c d e v w x y z : ℕ) → a ≡ v → b ≡ w → c ≡ x → d ≡ y → e ≡ z → tally a b c d e ≡ tally v w x y z
same-tally a b c d e v w x y z p q r s t = cc

-- a note at the beginning is counted first
pub with-note : (note : Note) (notes : List Note) (t : Tally) → with_notes (note ∷ notes) t ≡ with_notes notes (with_reply note.job note.reply t)
unfolding tally
with-note note notes t =
    same-tally _ _ _ _ _ _ _ _ _ _ (more learned_by note notes t.learned) (more known_by note notes t.known) (more put_off_by note notes t.put_off) (more arrived_by note notes t.arrived)
    (more applied_by note notes t.applied)

no-notes : (t : Tally) → with_notes [] t ≡ t
unfolding tally
no-notes t = same-tally _ _ _ _ _ t.learned t.known t.put_off t.arrived t.applied (omega arith) (omega arith) (omega arith) (omega arith) (omega arith)

pub replies_as_notes : (jobs : List ShardJob) (replies : List JobReply) (t : Tally) (cluster : ClusterNo) → with_replies jobs replies t ≡ with_notes (notes_of cluster jobs replies) t
replies_as_notes [] replies t cluster = sym (no-notes t)
replies_as_notes (asked ∷ jobs) [] t cluster = sym (no-notes t)
replies_as_notes (asked ∷ jobs) (reply ∷ replies) t cluster =
    replies_as_notes jobs replies (with_reply asked.job reply t) cluster ∙ sym (with-note (record { cluster = cluster; job = asked.job; reply = reply }) (notes_of cluster jobs replies) t)

-- replies to no job tell nothing
pub seen_as_notes : (cluster : ClusterNo) (jobs : List ShardJob) (replies : List JobReply) → seen_by cluster (take (length jobs) replies) ≡ seen_of (notes_of cluster jobs replies)
seen_as_notes cluster [] replies = refl
seen_as_notes cluster (asked ∷ jobs) [] = refl
seen_as_notes cluster (asked ∷ jobs) (reply ∷ replies) = ap (λ (l : List Seen). seen_at cluster reply.learned ++ l) (seen_as_notes cluster jobs replies)

-- where no reply is left, no job counts
no-reply : (jobs : List ShardJob) (t : Tally) → with_replies jobs [] t ≡ t
no-reply [] t = refl
no-reply (asked ∷ jobs) t = refl

pub none-left : (jobs : List ShardJob) (replies : List JobReply) (place : ℕ) (t : Tally) → length replies ≤ place → with_replies (drop place jobs) (drop place replies) t ≡ t
none-left jobs [] zero t most = no-reply jobs t
none-left jobs (reply ∷ replies) zero t most = absurd (omega (arith, most))
none-left [] [] (suc place) t most = refl
none-left (asked ∷ jobs) [] (suc place) t most = no-reply (drop place jobs) t
none-left [] (reply ∷ replies) (suc place) t most = refl
none-left (asked ∷ jobs) (reply ∷ replies) (suc place) t most = none-left jobs replies place t (omega (arith, most))
