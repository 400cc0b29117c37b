use Rattle.std.proofs.Common.{◌≡◌, ◌∙◌, ap, ap₂, true, codes}
use Rattle.std.proofs.lemmas.Result.{IfOk-weaker}
use Rattle.clap.specs.Simple.{App, Shape, app_of, app_of_fields, new_app, on_top, with_subcommand}
use Rattle.clap.proofs.SimpleLemmas.{is_false}
use Rattle.clap.proofs.WalkLemmas.{both}
use Rattle.ndc_tool_words.specs.Command.{bare}
use Rattle.ndc_tool_words.proofs.command.command.Goals as goal

-- the settings, and then each subcommand; none has an argument that is global
pub returns : goal.returns
returns c =
    let base : app_of c.subcommand_required.result ≡ on_top bare (new_app (codes "ndc")) =
    ap app_of_fields c.subcommand_required.ensures
    ∙ ap (on_top (λ (s : Shape). record s { subcommand_required = true })) (ap app_of_fields c.disable_version_flag.ensures
    ∙ ap (on_top (λ (s : Shape). record s { disable_version_flag = true })) (ap app_of_fields c.disable_help_subcommand.ensures
    ∙ ap (on_top (λ (s : Shape). record s { disable_help_subcommand = true })) (ap app_of_fields c.disable_help_flag.ensures
    ∙ ap (on_top (λ (s : Shape). record s { disable_help_flag = true })) (ap app_of_fields c.no_binary_name.ensures
    ∙ ap (on_top (λ (s : Shape). record s { no_binary_name = true })) c.new.ensures.app)))) in
    let top = λ (a : App). a.top in
    let plain = λ (a : App). a.top.is_plain in
    let run = c.in_ok-subcommand.ensures.shape (is_false _ (both _ _ (both _ _ (both _ _ (ap plain c.in_ok-run.ensures)).1).1).0) ∙ ap₂ with_subcommand base (ap top c.in_ok-run.ensures) in
    let rebuild = c.in_ok-subcommand-2.ensures.shape c.new-2.ensures.local ∙ ap₂ with_subcommand run (ap top c.new-2.ensures.app) in
    let inspect = c.in_ok-subcommand-3.ensures.shape c.new-3.ensures.local ∙ ap₂ with_subcommand rebuild (ap top c.new-3.ensures.app) in
    let make = c.in_ok-subcommand-4.ensures.shape (is_false _ (both _ _ (both _ _ (both _ _ (ap plain c.in_ok-make.ensures)).1).1).0) ∙ ap₂ with_subcommand inspect (ap top c.in_ok-make.ensures) in
    IfOk-weaker c.subcommand-5.result _ _
    (λ command added. added.shape (is_false _ (both _ _ (both _ _ (both _ _ (ap plain c.in_ok-demo.ensures)).1).1).0) ∙ ap₂ with_subcommand make (ap top c.in_ok-demo.ensures))
    c.subcommand-5.ensures
