-- The command that takes the words apart.
use Rattle.std.specs.Prelude.{true, codes, Some}
use Rattle.clap.specs.Words.{App, Rule, Shape, Text, new_app, new_rule, with_rule, with_subcommand}
use Rattle.clap.specs.Simple.{on_top}
use Rattle.clap.specs.declared.builder.action.ArgAction.TheVariants.{Set}

-- an option that takes one value
abbrev pub option_rule : Text → Rule
option_rule name = record (new_rule name) { long = Some name; action = Some Set }

-- one value that has to be there
abbrev pub value_rule : Text → Rule
value_rule name = record (new_rule name) { required = true; action = Some Set }

-- `run`, with options in any order
abbrev pub run_app : App
run_app = with_rule (with_rule (with_rule (new_app (codes "run")) (option_rule (codes "workers"))) (option_rule (codes "index"))) (option_rule (codes "late"))

-- `make N SEED`
abbrev pub make_app : App
make_app = with_rule (with_rule (new_app (codes "make")) (value_rule (codes "count"))) (value_rule (codes "seed"))

-- `demo N`
abbrev pub demo_app : App
demo_app = with_rule (new_app (codes "demo")) (value_rule (codes "count"))

-- without help, version and the program's own name, and with a word that has to be there
abbrev pub bare : Shape → Shape
bare shape = record shape {
  no_binary_name = true;
  disable_help_flag = true;
  disable_help_subcommand = true;
  disable_version_flag = true;
  subcommand_required = true;
}

-- the whole command
abbrev pub whole_app : App
whole_app =
    with_subcommand (with_subcommand (with_subcommand (with_subcommand (with_subcommand (on_top bare (new_app (codes "ndc"))) run_app.top) (new_app (codes "rebuild")).top) (new_app (codes "inspect")).top) make_app.top) demo_app.top
