-- Lines that are not bursts take no lines after them.
use Rattle.std.proofs.Common.{◌≡◌, ℕ, ◌==◌, Bool, true, false, List, [], ◌∷◌, length, IfOk, if◌then◌else◌, refl}
use Rattle.ndc_script_types.specs.Print.{lines_within}
use Rattle.ndc_domain.specs.declared.clusters.ClusterNo.{ClusterNo}
use Rattle.ndc_script_words.specs.declared.operand.WorkflowAt.{WorkflowAt}
use Rattle.ndc_script_types.specs.declared.script.Act.{Act}
use Rattle.ndc_script_types.specs.declared.script.Header.{Header}
use Rattle.ndc_script_words.specs.declared.verb.ClusterVerb.{ClusterVerb}
use Rattle.ndc_script_words.specs.declared.verb.ClusterVerb.TheVariants as cluster_verb
use Rattle.ndc_script_words.specs.declared.verb.PairVerb.{PairVerb}
use Rattle.ndc_script_words.specs.declared.verb.PairVerb.TheVariants as pair_verb
use Rattle.ndc_script_words.specs.declared.verb.DomainVerb.{DomainVerb}
use Rattle.ndc_script_words.specs.declared.verb.DomainVerb.TheVariants as domain_verb
use Rattle.ndc_script_words.specs.declared.verb.TargetVerb.{TargetVerb}
use Rattle.ndc_script_words.specs.declared.verb.TargetVerb.TheVariants as target_verb
use Rattle.ndc_script_words.specs.declared.verb.PlaceVerb.{PlaceVerb}
use Rattle.ndc_script_words.specs.declared.verb.PlaceVerb.TheVariants as place_verb
use Rattle.ndc_script_words.specs.declared.verb.PlacesVerb.{PlacesVerb}
use Rattle.ndc_script_words.specs.declared.verb.PlacesVerb.TheVariants as places_verb
use Rattle.ndc_script_words.specs.declared.verb.WorkflowVerb.{WorkflowVerb}
use Rattle.ndc_script_words.specs.declared.verb.WorkflowVerb.TheVariants as workflow_verb
use Rattle.ndc_script_words.specs.declared.verb.CommandVerb.{CommandVerb}
use Rattle.ndc_script_words.specs.Operands.{named, numbered, shard_of, place_of, known, both_known, two_clusters, workflow_at}
use Rattle.ndc_script_read.specs.Commands.{command_of, command_line}
use Rattle.ndc_script_read.specs.Register.{differing, members_named, register_with, register_line}
use Rattle.ndc_script_read.specs.Lines.{cluster_act, cluster_line, pair_act, pair_line, domain_act, domain_line, retain_line, target_act, target_line, handover_line, levels_line, place_act, place_line, pull_line, places_act, places_with, places_line, settle_line, workflow_act, workflow_line, compare_line, reset_line, beat_with, beat_line, progress_line}
use Rattle.ndc_script_words.proofs.Fits.{after}

-- no lines belong to it
abbrev pub IsSingle : Act → Type 0
IsSingle asked = lines_within asked ≡ 0

cluster_act_single : (verb : ClusterVerb) (c : ClusterNo) → IsSingle (cluster_act verb c)
cluster_act_single cluster_verb.Work c = refl
cluster_act_single cluster_verb.Trim c = refl
cluster_act_single cluster_verb.Gaps c = refl
cluster_act_single cluster_verb.Resend c = refl
cluster_act_single cluster_verb.Letters c = refl
cluster_act_single cluster_verb.Purge c = refl
cluster_act_single cluster_verb.MergeLetters c = refl

pair_act_single : (verb : PairVerb) (a b : ClusterNo) → IsSingle (pair_act verb a b)
pair_act_single pair_verb.Pull a b = refl
pair_act_single pair_verb.Rewind a b = refl
pair_act_single pair_verb.Bootstrap a b = refl
pair_act_single pair_verb.Domains a b = refl
pair_act_single pair_verb.Sync a b = refl

domain_act_single : (verb : DomainVerb) (a : ClusterNo) (d : List ℕ) → IsSingle (domain_act verb a d)
domain_act_single domain_verb.Domain a d = refl
domain_act_single domain_verb.Members a d = refl
domain_act_single domain_verb.Complete a d = refl

target_act_single : (verb : TargetVerb) (a : ClusterNo) (d : List ℕ) (t : ClusterNo) → IsSingle (target_act verb a d t)
target_act_single target_verb.Join a d t = refl
target_act_single target_verb.Failover a d t = refl

place_act_single : (verb : PlaceVerb) (a b : ClusterNo) (s n : ℕ) → IsSingle (place_act verb a b s n)
place_act_single place_verb.Pull a b s n = refl
place_act_single place_verb.Lose a b s n = refl
place_act_single place_verb.Repeat a b s n = refl

places_act_single : (verb : PlacesVerb) (a b : ClusterNo) (s p n : ℕ) → IsSingle (places_act verb a b s p n)
places_act_single places_verb.Move a b s p n = refl
places_act_single places_verb.Damage a b s p n = refl

workflow_act_single : (verb : WorkflowVerb) (w : WorkflowAt) → IsSingle (workflow_act verb w)
workflow_act_single workflow_verb.History w = refl
workflow_act_single workflow_verb.Branches w = refl
workflow_act_single workflow_verb.Current w = refl
workflow_act_single workflow_verb.State w = refl
workflow_act_single workflow_verb.Dump w = refl

pub cluster_line_single : (header : Header) (line : ℕ) (verb : ClusterVerb) (words : List (List ℕ)) → IfOk (cluster_line header line verb words) IsSingle
unfolding cluster_line
cluster_line_single header line verb [] = tt
cluster_line_single header line verb (one ∷ []) = after IsSingle _ (known header line one) (λ c pc. cluster_act_single verb c)
cluster_line_single header line verb (one ∷ more ∷ others) = tt

pub pair_line_single : (header : Header) (line : ℕ) (verb : PairVerb) (words : List (List ℕ)) → IfOk (pair_line header line verb words) IsSingle
unfolding pair_line
pair_line_single header line verb [] = tt
pair_line_single header line verb (one ∷ []) = tt
pair_line_single header line verb (one ∷ two ∷ []) = after IsSingle _ (two_clusters header line one two) (λ cs pcs. pair_act_single verb cs.one cs.two)
pair_line_single header line verb (one ∷ two ∷ more ∷ others) = tt

pub domain_line_single : (header : Header) (line : ℕ) (verb : DomainVerb) (words : List (List ℕ)) → IfOk (domain_line header line verb words) IsSingle
unfolding domain_line
domain_line_single header line verb [] = tt
domain_line_single header line verb (at ∷ []) = tt
domain_line_single header line verb (at ∷ domain ∷ []) = after IsSingle _ (named line domain) (λ d pd. after IsSingle _ (known header line at) (λ a pa. domain_act_single verb a d))
domain_line_single header line verb (at ∷ domain ∷ more ∷ others) = tt

pub retain_line_single : (header : Header) (line : ℕ) (words : List (List ℕ)) → IfOk (retain_line header line words) IsSingle
unfolding retain_line
retain_line_single header line [] = tt
retain_line_single header line (at ∷ []) = tt
retain_line_single header line (at ∷ domain ∷ []) = tt
retain_line_single header line (at ∷ domain ∷ days ∷ []) = after IsSingle _ (named line domain) (λ d pd. after IsSingle _ (numbered line 1 1000 days) (λ n pn. after IsSingle _ (known header line at) (λ a pa. refl)))
retain_line_single header line (at ∷ domain ∷ days ∷ more ∷ others) = tt

pub target_line_single : (header : Header) (line : ℕ) (verb : TargetVerb) (words : List (List ℕ)) → IfOk (target_line header line verb words) IsSingle
unfolding target_line
target_line_single header line verb [] = tt
target_line_single header line verb (at ∷ []) = tt
target_line_single header line verb (at ∷ domain ∷ []) = tt
target_line_single header line verb (at ∷ domain ∷ target ∷ []) = after IsSingle _ (named line domain) (λ d pd. after IsSingle _ (both_known header line at target) (λ cs pcs. target_act_single verb cs.one d cs.two))
target_line_single header line verb (at ∷ domain ∷ target ∷ more ∷ others) = tt

pub handover_line_single : (header : Header) (line : ℕ) (words : List (List ℕ)) → IfOk (handover_line header line words) IsSingle
unfolding handover_line
handover_line_single header line [] = tt
handover_line_single header line (at ∷ []) = tt
handover_line_single header line (at ∷ domain ∷ []) = tt
handover_line_single header line (at ∷ domain ∷ target ∷ []) = after IsSingle _ (named line domain) (λ d pd. after IsSingle _ (two_clusters header line at target) (λ cs pcs. refl))
handover_line_single header line (at ∷ domain ∷ target ∷ more ∷ others) = tt

pub levels_line_single : (header : Header) (line : ℕ) (words : List (List ℕ)) → IfOk (levels_line header line words) IsSingle
unfolding levels_line
levels_line_single header line [] = tt
levels_line_single header line (reader ∷ []) = tt
levels_line_single header line (reader ∷ source ∷ []) = tt
levels_line_single header line (reader ∷ source ∷ shard ∷ []) = after IsSingle _ (shard_of header line shard) (λ s ps. after IsSingle _ (two_clusters header line reader source) (λ cs pcs. refl))
levels_line_single header line (reader ∷ source ∷ shard ∷ more ∷ others) = tt

pub place_line_single : (header : Header) (line : ℕ) (verb : PlaceVerb) (words : List (List ℕ)) → IfOk (place_line header line verb words) IsSingle
unfolding place_line
place_line_single header line verb [] = tt
place_line_single header line verb (reader ∷ []) = tt
place_line_single header line verb (reader ∷ source ∷ []) = tt
place_line_single header line verb (reader ∷ source ∷ shard ∷ []) = tt
place_line_single header line verb (reader ∷ source ∷ shard ∷ number ∷ []) = after IsSingle _ (shard_of header line shard) (λ s ps. after IsSingle _ (place_of line number) (λ n pn. after IsSingle _ (two_clusters header line reader source) (λ cs pcs. place_act_single verb cs.one cs.two s n)))
place_line_single header line verb (reader ∷ source ∷ shard ∷ number ∷ more ∷ others) = tt

pull_by : (header : Header) (line : ℕ) (words : List (List ℕ)) (b : Bool) → IfOk (if b then pair_line header line pair_verb.Pull words else place_line header line place_verb.Pull words) IsSingle
pull_by header line words true = pair_line_single header line pair_verb.Pull words
pull_by header line words false = place_line_single header line place_verb.Pull words

pub pull_line_single : (header : Header) (line : ℕ) (words : List (List ℕ)) → IfOk (pull_line header line words) IsSingle
unfolding pull_line
pull_line_single header line words = pull_by header line words (length words == 2)

places_with_single : (header : Header) (line : ℕ) (verb : PlacesVerb) (reader source : List ℕ) (shard : ℕ) (place number : List ℕ) → IfOk (places_with header line verb reader source shard place number) IsSingle
unfolding places_with
places_with_single header line verb reader source shard place number = after IsSingle _ (place_of line place) (λ p pp. after IsSingle _ (place_of line number) (λ n pn. after IsSingle _ (two_clusters header line reader source) (λ cs pcs. places_act_single verb cs.one cs.two shard p n)))

pub places_line_single : (header : Header) (line : ℕ) (verb : PlacesVerb) (words : List (List ℕ)) → IfOk (places_line header line verb words) IsSingle
unfolding places_line
places_line_single header line verb [] = tt
places_line_single header line verb (reader ∷ []) = tt
places_line_single header line verb (reader ∷ source ∷ []) = tt
places_line_single header line verb (reader ∷ source ∷ shard ∷ []) = tt
places_line_single header line verb (reader ∷ source ∷ shard ∷ place ∷ []) = tt
places_line_single header line verb (reader ∷ source ∷ shard ∷ place ∷ number ∷ []) = after IsSingle _ (shard_of header line shard) (λ s ps. places_with_single header line verb reader source s place number)
places_line_single header line verb (reader ∷ source ∷ shard ∷ place ∷ number ∷ more ∷ others) = tt

pub settle_line_single : (line : ℕ) (words : List (List ℕ)) → IfOk (settle_line line words) IsSingle
unfolding settle_line
settle_line_single line [] = refl
settle_line_single line (word ∷ words) = tt

pub workflow_line_single : (header : Header) (line : ℕ) (verb : WorkflowVerb) (words : List (List ℕ)) → IfOk (workflow_line header line verb words) IsSingle
unfolding workflow_line
workflow_line_single header line verb [] = tt
workflow_line_single header line verb (cluster ∷ []) = tt
workflow_line_single header line verb (cluster ∷ domain ∷ []) = tt
workflow_line_single header line verb (cluster ∷ domain ∷ workflow ∷ []) = after IsSingle _ (workflow_at header line cluster domain workflow) (λ w pw. workflow_act_single verb w)
workflow_line_single header line verb (cluster ∷ domain ∷ workflow ∷ more ∷ others) = tt

pub compare_line_single : (header : Header) (line : ℕ) (words : List (List ℕ)) → IfOk (compare_line header line words) IsSingle
unfolding compare_line
compare_line_single header line [] = tt
compare_line_single header line (one ∷ []) = tt
compare_line_single header line (one ∷ two ∷ []) = tt
compare_line_single header line (one ∷ two ∷ domain ∷ []) = tt
compare_line_single header line (one ∷ two ∷ domain ∷ workflow ∷ []) = after IsSingle _ (workflow_at header line one domain workflow) (λ w pw. after IsSingle _ (known header line two) (λ c pc. refl))
compare_line_single header line (one ∷ two ∷ domain ∷ workflow ∷ more ∷ others) = tt

pub reset_line_single : (header : Header) (line : ℕ) (words : List (List ℕ)) → IfOk (reset_line header line words) IsSingle
unfolding reset_line
reset_line_single header line [] = tt
reset_line_single header line (cluster ∷ []) = tt
reset_line_single header line (cluster ∷ domain ∷ []) = tt
reset_line_single header line (cluster ∷ domain ∷ workflow ∷ []) = tt
reset_line_single header line (cluster ∷ domain ∷ workflow ∷ event ∷ []) = after IsSingle _ (numbered line 1 1000000 event) (λ n pn. after IsSingle _ (workflow_at header line cluster domain workflow) (λ w pw. refl))
reset_line_single header line (cluster ∷ domain ∷ workflow ∷ event ∷ more ∷ others) = tt

beat_with_single : (header : Header) (line : ℕ) (cluster domain workflow id details : List ℕ) → IfOk (beat_with header line cluster domain workflow id details) IsSingle
unfolding beat_with
beat_with_single header line cluster domain workflow id details = after IsSingle _ (named line id) (λ i pi. after IsSingle _ (named line details) (λ d pd. after IsSingle _ (workflow_at header line cluster domain workflow) (λ w pw. refl)))

pub beat_line_single : (header : Header) (line : ℕ) (words : List (List ℕ)) → IfOk (beat_line header line words) IsSingle
unfolding beat_line
beat_line_single header line [] = tt
beat_line_single header line (cluster ∷ []) = tt
beat_line_single header line (cluster ∷ domain ∷ []) = tt
beat_line_single header line (cluster ∷ domain ∷ workflow ∷ []) = tt
beat_line_single header line (cluster ∷ domain ∷ workflow ∷ id ∷ []) = tt
beat_line_single header line (cluster ∷ domain ∷ workflow ∷ id ∷ details ∷ []) = beat_with_single header line cluster domain workflow id details
beat_line_single header line (cluster ∷ domain ∷ workflow ∷ id ∷ details ∷ more ∷ others) = tt

pub progress_line_single : (header : Header) (line : ℕ) (words : List (List ℕ)) → IfOk (progress_line header line words) IsSingle
unfolding progress_line
progress_line_single header line [] = tt
progress_line_single header line (cluster ∷ []) = tt
progress_line_single header line (cluster ∷ domain ∷ []) = tt
progress_line_single header line (cluster ∷ domain ∷ workflow ∷ []) = tt
progress_line_single header line (cluster ∷ domain ∷ workflow ∷ id ∷ []) = after IsSingle _ (named line id) (λ i pi. after IsSingle _ (workflow_at header line cluster domain workflow) (λ w pw. refl))
progress_line_single header line (cluster ∷ domain ∷ workflow ∷ id ∷ more ∷ others) = tt

register_with_single : (header : Header) (line : ℕ) (domain : List ℕ) (days : ℕ) (at target : List ℕ) (names : List (List ℕ)) → IfOk (register_with header line domain days at target names) IsSingle
unfolding register_with
register_with_single header line domain days at target names = after IsSingle _ (known header line at) (λ a pa. after IsSingle _ (known header line target) (λ t pt. after IsSingle _ (members_named header line names) (λ m pm. refl)))

pub register_line_single : (header : Header) (line : ℕ) (words : List (List ℕ)) → IfOk (register_line header line words) IsSingle
unfolding register_line
register_line_single header line [] = tt
register_line_single header line (at ∷ []) = tt
register_line_single header line (at ∷ domain ∷ []) = tt
register_line_single header line (at ∷ domain ∷ target ∷ []) = tt
register_line_single header line (at ∷ domain ∷ target ∷ days ∷ names) = after IsSingle _ (named line domain) (λ d pd. after IsSingle _ (numbered line 1 1000 days) (λ n pn. after IsSingle _ (differing line names) (λ w pw. register_with_single header line d n at target w)))

pub command_line_single : (header : Header) (line : ℕ) (verb : CommandVerb) (words : List (List ℕ)) → IfOk (command_line header line verb words) IsSingle
unfolding command_line
command_line_single header line verb [] = tt
command_line_single header line verb (cluster ∷ []) = tt
command_line_single header line verb (cluster ∷ domain ∷ []) = tt
command_line_single header line verb (cluster ∷ domain ∷ workflow ∷ operands) = after IsSingle _ (command_of line verb operands) (λ c pc. after IsSingle _ (workflow_at header line cluster domain workflow) (λ w pw. refl))
