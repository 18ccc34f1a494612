-- A command with its options.
use Rattle.std.specs.Prelude.{ℕ}
use Rattle.matter.specs.declared.commands.Command.{Command}
use Rattle.matter.specs.declared.commands.CommandOptions.{CommandOptions}
use Rattle.matter.specs.declared.commands.Request.{Request}

abbrev pub request : Command → CommandOptions → Request
request command options = record { options = options; command = command }

-- from OptionsMask and OptionsOverride
abbrev pub options : ℕ → ℕ → CommandOptions
options mask overrides = record { mask = mask; overrides = overrides }

-- neither bit set
abbrev pub no_options : CommandOptions
no_options = options 0 0
