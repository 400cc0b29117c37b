-- What lines on a domain, alone or with another cluster, are read as is well-formed.
use Rattle.std.proofs.Common.{ℕ, List}
use Rattle.ndc_domain.specs.declared.clusters.ClusterNo.{ClusterNo}
use Rattle.ndc_script_types.specs.declared.script.Header.{Header}
use Rattle.ndc_script_types.specs.WellFormed.{IsCluster, IsName, IsWellFormedAct}
use Rattle.ndc_script_words.specs.declared.verb.DomainVerb.{DomainVerb}
use Rattle.ndc_script_words.specs.declared.verb.DomainVerb.TheVariants as domain_verb
use Rattle.ndc_script_words.specs.declared.verb.TargetVerb.{TargetVerb}
use Rattle.ndc_script_words.specs.declared.verb.TargetVerb.TheVariants as target
use Rattle.ndc_script_read.specs.Lines.{domain_act, target_act}

-- lines on a domain and another cluster
pub target_fits : (header : Header) (verb : TargetVerb) (at : ClusterNo) (domain : List ℕ) (other : ClusterNo) → IsCluster header at → IsName domain → IsCluster header other → IsWellFormedAct header (target_act verb at domain other)
target_fits header target.Join at domain other a d o = (a, d, o)
target_fits header target.Failover at domain other a d o = (a, d, o)

-- lines on a domain
pub domain_fits : (header : Header) (verb : DomainVerb) (at : ClusterNo) (domain : List ℕ) → IsCluster header at → IsName domain → IsWellFormedAct header (domain_act verb at domain)
domain_fits header domain_verb.Domain at domain a d = (a, d)
domain_fits header domain_verb.Members at domain a d = (a, d)
domain_fits header domain_verb.Complete at domain a d = (a, d)
