-- "Notice numbers, in decimal, one byte each": document 01's list, under the attributes' names, and document 02's.
use Rattle.std.specs.Prelude.{ℕ}
use Rattle.notices.specs.declared.Notice.{Notice}

abbrev pub RemainingTime : ℕ
RemainingTime = 1

abbrev pub CurrentHue : ℕ
CurrentHue = 2

abbrev pub EnhancedCurrentHue : ℕ
EnhancedCurrentHue = 3

abbrev pub CurrentSaturation : ℕ
CurrentSaturation = 4

abbrev pub ColorTemperatureMireds : ℕ
ColorTemperatureMireds = 5

abbrev pub ColorMode : ℕ
ColorMode = 6

abbrev pub EnhancedColorMode : ℕ
EnhancedColorMode = 7

abbrev pub ColorLoopActive : ℕ
ColorLoopActive = 8

abbrev pub ColorLoopDirection : ℕ
ColorLoopDirection = 9

abbrev pub ColorLoopTime : ℕ
ColorLoopTime = 10

abbrev pub ColorLoopStartEnhancedHue : ℕ
ColorLoopStartEnhancedHue = 11

abbrev pub ColorLoopStoredEnhancedHue : ℕ
ColorLoopStoredEnhancedHue = 12

-- persistence marked dirty
abbrev pub marked_dirty : ℕ
marked_dirty = 13

-- scenes reported
abbrev pub scenes_notified : ℕ
scenes_notified = 14

-- device written with hue and saturation
abbrev pub device_hue_saturation : ℕ
device_hue_saturation = 15

-- device written with mireds
abbrev pub device_mireds : ℕ
device_mireds = 16

-- a task given
abbrev pub task_given : ℕ
task_given = 17

-- document 02, A.6: the hue of the task given goes half the circle, and the other way round is as long
abbrev pub hue_tie : ℕ
hue_tie = 18

abbrev pub notice_number : Notice → ℕ
notice_number Notice.RemainingTime = RemainingTime
notice_number Notice.CurrentHue = CurrentHue
notice_number Notice.EnhancedCurrentHue = EnhancedCurrentHue
notice_number Notice.CurrentSaturation = CurrentSaturation
notice_number Notice.ColorTemperatureMireds = ColorTemperatureMireds
notice_number Notice.ColorMode = ColorMode
notice_number Notice.EnhancedColorMode = EnhancedColorMode
notice_number Notice.ColorLoopActive = ColorLoopActive
notice_number Notice.ColorLoopDirection = ColorLoopDirection
notice_number Notice.ColorLoopTime = ColorLoopTime
notice_number Notice.ColorLoopStartEnhancedHue = ColorLoopStartEnhancedHue
notice_number Notice.ColorLoopStoredEnhancedHue = ColorLoopStoredEnhancedHue
notice_number Notice.MarkedDirty = marked_dirty
notice_number Notice.ScenesNotified = scenes_notified
notice_number Notice.DeviceHueSaturation = device_hue_saturation
notice_number Notice.DeviceMireds = device_mireds
notice_number Notice.TaskGiven = task_given
notice_number Notice.HueTie = hue_tie
