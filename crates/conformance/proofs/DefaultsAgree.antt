-- A fresh lamp has the text's defaults, but for the direction of its loop.
use Prim.Native.Nat.{ℕ, ◌≤◌}
use mathlib.Core.Bool.{true, false}
use mathlib.Core.Path.{◌≡◌, refl}
use Rattle.matter.specs.declared.limits.Bounds.{Bounds}
use Rattle.matter.specs.Flags.{has_flag, xy}
use Rattle.matter.specs.Numbers.{color_mode_number, enhanced_color_mode_number, loop_direction_number}
use Rattle.matter.specs.Rules.{default_color_mode}
use Rattle.progress.proofs.Laws.{clamp-keeps}
use Rattle.lamp.specs.Making.{fresh_lamp}
use Rattle.conformance.specs.Defaults.{default_current_hue, default_current_saturation, default_remaining_time, default_color_temperature_mireds, default_color_mode_number, default_color_loop_direction, default_color_loop_time, default_color_loop_start_enhanced_hue, default_color_loop_stored_enhanced_hue}

module _ (bounds : Bounds) (features options clock : ℕ) where
  pub fresh-hue : (fresh_lamp bounds features options clock).color.hue ≡ default_current_hue
  fresh-hue = refl

  pub fresh-saturation : (fresh_lamp bounds features options clock).color.saturation ≡ default_current_saturation
  fresh-saturation = refl

  pub fresh-remaining : (fresh_lamp bounds features options clock).remaining.tenths ≡ default_remaining_time
  fresh-remaining = refl

  -- the mireds, where the device has them; else the closest (LimitsAgree)
  pub fresh-mireds : bounds.min ≤ 250 → 250 ≤ bounds.max → (fresh_lamp bounds features options clock).color.mireds ≡ default_color_temperature_mireds
  fresh-mireds h k = clamp-keeps bounds.min bounds.max 250 h k

  -- the modes, where the device has X and Y
  pub fresh-modes : has_flag features xy ≡ true → (color_mode_number (fresh_lamp bounds features options clock).color.mode ≡ default_color_mode_number) × (enhanced_color_mode_number (fresh_lamp bounds features options clock).color.emode ≡ default_color_mode_number)
  unfolding default_color_mode
  fresh-modes e = (rw e, rw e)

  pub fresh-loop : ((fresh_lamp bounds features options clock).looping.active ≡ false) × ((fresh_lamp bounds features options clock).looping.time ≡ default_color_loop_time) × ((fresh_lamp bounds features options clock).looping.start ≡ default_color_loop_start_enhanced_hue) × ((fresh_lamp bounds features options clock).looping.stored ≡ default_color_loop_stored_enhanced_hue)
  fresh-loop = (refl, refl, refl, refl)

  -- the loop of a fresh lamp turns upward, the text's downward
  pub fresh-direction-differs : (loop_direction_number (fresh_lamp bounds features options clock).looping.direction ≡ 1) × (default_color_loop_direction ≡ 0)
  fresh-direction-differs = (refl, refl)
