-- The theorems, of the fades that meet the premises by computation.
use mathlib.Core.Bool.{true}
use mathlib.Core.List.{List, ◌++◌}
use mathlib.Core.Path.{◌≡◌, sym, ◌∙◌, ap}
use Rattle.matter.specs.declared.enums.DirectionEnum.{DirectionEnum}
use Rattle.hue.specs.Hue.{moved_hue}
use Rattle.hue.proofs.Laws.{moved_up}
use Rattle.arc.proofs.Laws.{in-range-current}
use Rattle.arc.proofs.Examples.{green}
use Rattle.lamp.specs.declared.Call.{Call}
use Rattle.schedule.specs.Calls.{idle, steps}
use Rattle.schedule.specs.Fades.{begun, later}
use Rattle.consequences.specs.Together.{ShowSame}
use Rattle.consequences.specs.NeverThrough.{Avoids}
use Rattle.consequences.proofs.Examples.{red_to_cyan, alone, among, moved_to50, asked, same-clocks, off-by-50, alike, premised, premised-but-hue}
use Rattle.consequences.proofs.NeverThrough.{never-through-asked}
use Rattle.consequences.proofs.OffTarget.{off-target}
use Rattle.consequences.proofs.Together.{after-each}

-- down from red to cyan, never green
down-never-green : Avoids (red_to_cyan DirectionEnum.Down) green
down-never-green = never-through-asked (red_to_cyan DirectionEnum.Down) premised.0 green (in-range-current 64 106) asked.1

-- the lamp alone and the one among other calls: after as many accepted steps they show the same
always-together : (xs xs' ys ys' : List Call) → alone.calls ≡ xs ++ xs' → among.calls ≡ ys ++ ys' → steps (begun alone).lamp xs ≡ steps (begun among).lamp ys → ShowSame (later alone xs) (later among ys)
always-together = after-each alone among premised.1 premised.2 alike (same-clocks.0 ∙ sym same-clocks.1)

-- the fade to 1000 whose hue moved by 50 in between: whenever it is idle, its hue is 1050
ends-at-1050 : (ys zs : List Call) → moved_to50.calls ≡ ys ++ zs → idle (later moved_to50 ys) ≡ true → (later moved_to50 ys).color.hue ≡ 1050
ends-at-1050 ys zs split i = off-target moved_to50 premised-but-hue ys zs split i ∙ ap (moved_hue 1000) off-by-50.0 ∙ moved_up 1000 50
