use Rattle.std.proofs.Common.{◌≡◌, ◌++◌, map, drop}
use Rattle.ndc_script_types.specs.Print.{lines_text, job_words}
use Rattle.ndc_script.proofs.printing.push_jobs.Given as goal

-- the text so far, with the lines of the jobs that are left, is the whole
abbrev pub invariant-loop-job : goal.invariant-loop-job
invariant-loop-job l =
    l.text.items ++ lines_text (map (job_words l.cluster) (drop l.job-index l.jobs))
    ≡ l.fn.text.items ++ lines_text (map (job_words l.cluster) l.jobs)
