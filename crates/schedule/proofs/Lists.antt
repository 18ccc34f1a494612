-- Lists of calls, put together and taken apart, and what a whole list keeps of a lamp.
use mathlib.Core.Bool.{true, not, ◌&&◌}
use mathlib.Core.List.{List, [], ◌∷◌, ◌++◌}
use mathlib.Core.Path.{◌≡◌, refl}
use Rattle.matter.proofs.Laws.{and_left, and_right}
use Rattle.lamp.specs.declared.Lamp.{Lamp}
use Rattle.lamp.specs.Valid.{lamp_valid}
use Rattle.lamp.specs.declared.Call.{Call}
use Rattle.lamp.specs.InRange.{InRangeLamp}
use Rattle.commands.proofs.Kept.{valid-kept, in-range-kept}
use Rattle.schedule.specs.Calls.{next, after, accepts, InRangeCalls, interrupts, quiet}
use Rattle.schedule.specs.Schedule.{Fed, Shown, followed, scheduled_from}

-- ---- two lists, one behind the other

pub after-append : (l : Lamp) (xs ys : List Call) → after l (xs ++ ys) ≡ after (after l xs) ys
unfolding after
after-append l [] ys = refl
after-append l (x ∷ xs) ys = after-append (next l x) xs ys

pub scheduled-append : (f : Fed) (s : Shown) (xs ys : List Call) → scheduled_from f s (xs ++ ys) ≡ scheduled_from f (scheduled_from f s xs) ys
unfolding scheduled_from
scheduled-append f s [] ys = refl
scheduled-append f s (x ∷ xs) ys = scheduled-append f (followed f s x) xs ys

-- one more call
pub after_one : (l : Lamp) (xs : List Call) (x : Call) → after l (xs ++ (x ∷ [])) ≡ next (after l xs) x
unfolding after
after_one l xs x = after-append l xs (x ∷ [])

pub scheduled-one : (f : Fed) (s : Shown) (xs : List Call) (x : Call) → scheduled_from f s (xs ++ (x ∷ [])) ≡ followed f (scheduled_from f s xs) x
unfolding scheduled_from
scheduled-one f s xs x = scheduled-append f s xs (x ∷ [])

-- a quiet list is quiet at its front, and from any place on
pub quiet-front : (l : Lamp) (xs ys : List Call) → quiet l (xs ++ ys) ≡ true → quiet l xs ≡ true
unfolding quiet
quiet-front l [] ys q = refl
quiet-front l (x ∷ xs) ys q =
    let a : not (interrupts x && accepts l x) ≡ true = and_left (not (interrupts x && accepts l x)) _ q in
    rw a (quiet-front (next l x) xs ys (and_right (not (interrupts x && accepts l x)) _ q))

pub quiet-back : (l : Lamp) (xs ys : List Call) → quiet l (xs ++ ys) ≡ true → quiet (after l xs) ys ≡ true
unfolding quiet after
quiet-back l [] ys q = q
quiet-back l (x ∷ xs) ys q = quiet-back (next l x) xs ys (and_right (not (interrupts x && accepts l x)) _ q)

-- a quiet list's first call, and the others
pub quiet-call : (l : Lamp) (x : Call) (xs : List Call) → quiet l (x ∷ xs) ≡ true → (not (interrupts x && accepts l x) ≡ true) × (quiet (next l x) xs ≡ true)
unfolding quiet
quiet-call l x xs q = (and_left (not (interrupts x && accepts l x)) _ q, and_right (not (interrupts x && accepts l x)) _ q)

pub in-range-split : (xs ys : List Call) → InRangeCalls (xs ++ ys) → InRangeCalls xs × InRangeCalls ys
in-range-split [] ys t = (tt, t)
in-range-split (x ∷ xs) ys t = let r = in-range-split xs ys t.1 in ((t.0, r.0), r.1)

-- ---- what a list keeps

pub valid-after : (l : Lamp) (xs : List Call) → lamp_valid l ≡ true → lamp_valid (after l xs) ≡ true
unfolding after
valid-after l [] f = f
valid-after l (x ∷ xs) f = valid-after (next l x) xs (valid-kept l x f)

pub in-range-after : (l : Lamp) (xs : List Call) → lamp_valid l ≡ true → InRangeLamp l → InRangeCalls xs → InRangeLamp (after l xs)
unfolding after
in-range-after l [] f t c = t
in-range-after l (x ∷ xs) f t c = in-range-after (next l x) xs (valid-kept l x f) (in-range-kept l x f t c.0) c.1
