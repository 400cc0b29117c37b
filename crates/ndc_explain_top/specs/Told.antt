-- What is told of one dump, by what was asked for.
use Rattle.std.specs.Prelude.{ℕ, Bool, List, ◌++◌, Option}
use Rattle.ndc_domain.specs.Clusters.{ClusterList}
use Rattle.ndc_text.specs.Views.{dump_text}
use Rattle.ndc_dump.specs.declared.dump.Dump.{Dump}
use Rattle.ndc_explain.specs.Explanation.{Findings, explained, findings, workflow_line}
use Rattle.ndc_explain_picture.specs.Graph.{tree_picture_of}
use Rattle.ndc_explain_picture.specs.Picture.{picture_of}
use Rattle.ndc_explain_top.specs.declared.asked.Form.{Form}
use Rattle.ndc_explain_top.specs.declared.asked.Form.TheVariants as form
use Rattle.ndc_explain_top.specs.declared.asked.Request.{Request}

-- a dump in this form, with what was found in it
abbrev pub told_with : Form → Option ClusterList → Bool → Dump → Findings → List ℕ
told_with form.Text clusters all dump found = workflow_line dump.domain dump.workflow ++ explained clusters all dump found
told_with form.Picture clusters all dump found = picture_of clusters dump
told_with form.TreePicture clusters all dump found = tree_picture_of clusters dump
told_with form.View clusters all dump found = dump_text dump.domain dump.workflow dump.view

-- a dump in the form that was asked for
abbrev pub told_of : Request → Dump → List ℕ
told_of request dump = told_with request.form request.clusters request.all dump (findings dump.view)
