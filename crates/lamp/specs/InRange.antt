-- The widths of the numbers of a lamp and of a call: facts that every lamp and call of a program has, and the premise
-- of theorems over every list of calls. They are no part of validity.
use Rattle.matter.specs.InRange.{Byte, Short, Clock, InRangeBounds, InRangeRequest}
use Rattle.tasks.specs.InRange.{InRangeTask, InRangeRunning}
use Rattle.lamp.specs.declared.Call.{Call}
use Rattle.lamp.specs.declared.Lamp.{Lamp}

pub record InRangeLamp (l : Lamp) : Type 0 where
  pub clock : Clock l.clock
  pub bounds : InRangeBounds l.bounds
  pub hue : Short l.color.hue
  pub saturation : Byte l.color.saturation
  pub mireds : Short l.color.mireds
  pub hue_stamp : Clock l.color.stamps.hue
  pub saturation_stamp : Clock l.color.stamps.saturation
  pub mireds_stamp : Clock l.color.stamps.mireds
  pub loop_time : Short l.looping.time
  pub loop_start : Short l.looping.start
  pub loop_stored : Short l.looping.stored
  pub remaining : Short l.remaining.tenths
  pub options : Byte l.options
  pub running : InRangeRunning l.running

abbrev pub InRangeCall : Call → Type 0
InRangeCall (Call.Command r on_off clock) = InRangeRequest r × Clock clock
InRangeCall (Call.Start task clock) = InRangeTask task × Clock clock
InRangeCall (Call.Step clock) = Clock clock
InRangeCall (Call.Halt clock) = Clock clock
InRangeCall (Call.SetBounds bounds clock) = InRangeBounds bounds × Clock clock
