-- Leave to run is the text's rule, for every bitmap; the commands heed it, but for Stop mode.
use Prim.Native.Nat.{ℕ, ◌/◌, ◌%◌, ◌<◌}
use mathlib.Core.Bool.{Bool, true, false, not, cond}
use mathlib.Core.Path.{◌≡◌, refl, sym}
use native.Mathlib.Omega.{arith}
use Rattle.std.proofs.lemmas.Bool.Decides.{nat_tests}
use lib.Dec.{eqb}
use Rattle.matter.specs.declared.commands.Command.{Command}
use Rattle.matter.specs.declared.commands.Request.{Request}
use Rattle.matter.specs.declared.enums.MoveModeEnum.{MoveModeEnum}
use Rattle.matter.specs.declared.enums.OnOff.{OnOff}
use Rattle.matter.specs.Flags.{has_flag}
use Rattle.matter.specs.Rules.{may_execute}
use Rattle.tasks.specs.declared.Task.{Task}
use Rattle.lamp.specs.declared.Lamp.{Lamp}
use Rattle.commands.specs.Commands.{checks, skip, giving}
use Rattle.commands.specs.Answers.{command_done}
use Rattle.conformance.specs.Options.{bit, bitmap, temporary_bit, temporary_options, continues}

-- the first bit of a bitmap is its first
first_bit : (b : ℕ → ℕ) → b 0 < 2 → bit 0 (bitmap b) ≡ b 0
first_bit b h = omega arith

-- a bit is 0 or 1
bit-small : (b : Bool) (x y : ℕ) → cond b (x / 1 % 2) (y / 1 % 2) < 2
bit-small true x y = omega arith
bit-small false x y = omega arith

-- ExecuteIfOff of the temporary bitmap: the override's where the mask has it, else the attribute's
execute-if-off : (options mask over : ℕ) → bit 0 (temporary_options options mask over) ≡ cond (eqb (bit 0 mask) 1) (bit 0 over) (bit 0 options)
unfolding temporary_options
execute-if-off options mask over = first_bit (temporary_bit options mask over) (bit-small (eqb (bit 0 mask) 1) over options)

-- a number below 2 that is not 0 is 1
not-0-is-1 : (n : ℕ) → n < 2 → not (eqb n 0) ≡ eqb n 1
not-0-is-1 n h = grind (arith, nat_tests)

by : (b : Bool) (x y : ℕ) → not (eqb (cond b (x / 1 % 2) (y / 1 % 2)) 0) ≡ cond b (eqb (x / 1 % 2) 1) (eqb (y / 1 % 2) 1)
by true x y = not-0-is-1 (x / 1 % 2) (omega arith)
by false x y = not-0-is-1 (y / 1 % 2) (omega arith)

-- whether a command may execute in the port is the text's rule
pub options-agree : (on_off : OnOff) (options mask over : ℕ) → may_execute on_off options mask over ≡ continues on_off options mask over
unfolding continues has_flag
options-agree OnOff.Off options mask over = rw (execute-if-off options mask over) (sym (by (eqb (bit 0 mask) 1) over options))
options-agree OnOff.On options mask over = refl
options-agree OnOff.NoHandler options mask over = refl

module _ (l : Lamp) (r : Request) (on_off : OnOff) where
  -- a command that may not continue does nothing, unless it is in Stop mode
  pub options-heeded : continues on_off l.options r.options.mask r.options.overrides ≡ false → (checks r.command).stop ≡ false → command_done l r on_off ≡ skip l
  options-heeded h s = rw (s, options-agree on_off l.options r.options.mask r.options.overrides, h)

  -- in Stop mode it gives the Stop task all the same, where the text's does nothing
  pub options-passed-by : (checks r.command).stop ≡ true → command_done l r on_off ≡ giving l Task.Stop
  options-passed-by s = rw s

-- the smallest such command: MoveHue in Stop mode to a lamp that is off, with all options 0
pub stop-mode-differs : (continues OnOff.Off 0 0 0 ≡ false) × ((checks (Command.MoveHue MoveModeEnum.Stop 0 false)).stop ≡ true)
unfolding continues temporary_options
stop-mode-differs = (refl, refl)
