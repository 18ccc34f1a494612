-- *Together*, proved: the schedule shows the fade at the clock of the last accepted step, and the claim says that the lamp shows
-- what the schedule does.
use Prim.Native.Nat.{ℕ, suc}
use mathlib.Core.Bool.{Bool, true, false, cond}
use mathlib.Core.List.{List, [], ◌∷◌, ◌++◌, append_assoc}
use mathlib.Core.Path.{◌≡◌, refl, sym, ap, ◌∙◌}
use lib.ListN.{length, take}
use lib.Seq.{take_at}
use Rattle.lamp.specs.declared.Lamp.{Lamp}
use Rattle.lamp.specs.declared.Answer.{Answer}
use Rattle.lamp.specs.declared.Call.{Call}
use Rattle.commands.specs.Answers.{clock_of}
use Rattle.schedule.specs.Calls.{next, after, accepts, accepted_step, steps}
use Rattle.schedule.specs.Schedule.{Fed, Shown, shown_at, takes, followed, scheduled_from, scheduled}
use Rattle.schedule.specs.Claim.{fed, KeptFade}
use Rattle.schedule.specs.Fades.{Fade, finds, begun}
use Rattle.schedule.proofs.Lists.{after_one, scheduled-one}
use Rattle.consequences.specs.Together.{step_clocks, Alike, Together, AfterEach}
use Rattle.consequences.proofs.Kept.{kept}

-- ---- the schedule shows the fade at the last accepted step

-- the fade as at a clock
record At (f : Fed) (clock : ℕ) (s : Shown) : Type 0 where
  hue : s.hue ≡ (shown_at f clock).hue
  remaining : s.remaining ≡ (shown_at f clock).remaining
  done : s.done ≡ (shown_at f clock).done

-- the last of some clocks, or the one before them
abbrev last_of : ℕ → List ℕ → ℕ
last_of c [] = c
last_of c (d ∷ ds) = last_of d ds

last-cond : (b : Bool) (c d : ℕ) (ds : List ℕ) → last_of (cond b d c) ds ≡ last_of c (cond b (d ∷ ds) ds)
last-cond true c d ds = refl
last-cond false c d ds = refl

-- one call: taken or not, an accepted step shows the fade at its clock, and no other call moves it
module _ (f : Fed) (s : Shown) (c : ℕ) (m : At f c s) where
  other : (b : Bool) (clock : ℕ) → At f c (cond b (record { clock = clock; hue = s.hue; remaining = s.remaining; wait = s.wait; done = s.done }) s)
  other true clock = record { hue = m.hue; remaining = m.remaining; done = m.done }
  other false clock = m

  stepped : (b : Bool) (clock : ℕ) → At f (cond b clock c) (cond b (shown_at f clock) s)
  stepped true clock = record { hue = refl; remaining = refl; done = refl }
  stepped false clock = m

  one : (l : Lamp) (x : Call) → accepts l x ≡ takes s x → At f (cond (accepted_step l x) (clock_of x) c) (followed f s x)
  one l (Call.Command k on_off clock) e = other (takes s (Call.Command k on_off clock)) clock
  one l (Call.Start task clock) e = other (takes s (Call.Start task clock)) clock
  one l (Call.Step clock) e = rw e (stepped (takes s (Call.Step clock)) clock)
  one l (Call.Halt clock) e = other (takes s (Call.Halt clock)) clock
  one l (Call.SetBounds bounds clock) e = other (takes s (Call.SetBounds bounds clock)) clock

-- all along the calls that follow the start: `ys` are behind, and left the lamp `l` and the schedule `s`
module _ (a : Answer) (f : Fed) (calls : List Call) (k : KeptFade a f calls) where
  along : (xs ys zs : List Call) → calls ≡ ys ++ (xs ++ zs) → (l : Lamp) (s : Shown) → l ≡ after a.lamp ys → s ≡ scheduled f ys → (c : ℕ) → At f c s → At f (last_of c (step_clocks l xs)) (scheduled_from f s xs)
  unfolding scheduled_from step_clocks
  along [] ys zs split l s el es c m = m
  along (x ∷ xs) ys zs split l s el es c m =
      let e : accepts l x ≡ takes s x = rw (el, es) (k.every_call ys x (xs ++ zs) split).accepted in
      rw (← last-cond (accepted_step l x) c (clock_of x) (step_clocks (next l x) xs))
      (along xs (ys ++ (x ∷ [])) zs (split ∙ sym (append_assoc ys (x ∷ []) (xs ++ zs))) (next l x) (followed f s x) (ap (λ (n : Lamp). next n x) el ∙ sym (after_one a.lamp ys x)) (ap (λ (t : Shown). followed f t x) es ∙ sym (scheduled-one f (shown_at f f.start) ys x)) (cond (accepted_step l x) (clock_of x) c) (one f s c m l x e))

  -- what the lamp shows after the calls `xs`
  shows : (xs zs : List Call) → calls ≡ xs ++ zs → At f (last_of f.start (step_clocks a.lamp xs)) (scheduled f xs)
  unfolding scheduled_from after
  shows xs zs split = along xs [] zs split a.lamp (shown_at f f.start) refl refl f.start (record { hue = refl; remaining = refl; done = refl })

-- ---- two fades

-- the schedules of two fades that are alike show the same at each clock
same_at : (d e : Fade) → Alike d e → (clock : ℕ) → shown_at (fed d.move (finds d) d.start) clock ≡ shown_at (fed e.move (finds e) e.start) clock
unfolding shown_at
same_at d e a clock = rw (a.found, a.target, a.direction, a.tenths, a.start)

pub together : Together
together d e p q a xs xs' ys ys' sx sy c =
    let m = shows (begun d) (fed d.move (finds d) d.start) d.calls (kept d p) xs xs' sx in
    let n = shows (begun e) (fed e.move (finds e) e.start) e.calls (kept e q) ys ys' sy in
    let g = ((kept d p).everywhere xs xs' sx).agrees in
    let h = ((kept e q).everywhere ys ys' sy).agrees in
    let s : shown_at (fed d.move (finds d) d.start) (last_of d.start (step_clocks (begun d).lamp xs)) ≡ shown_at (fed e.move (finds e) e.start) (last_of e.start (step_clocks (begun e).lamp ys)) =
    same_at d e a (last_of d.start (step_clocks (begun d).lamp xs)) ∙ rw (c, a.start) in
    record {
      hue = g.hue ∙ m.hue ∙ ap (λ (t : Shown). t.hue) s ∙ sym n.hue ∙ sym h.hue;
      remaining = g.remaining ∙ m.remaining ∙ ap (λ (t : Shown). t.remaining) s ∙ sym n.remaining ∙ sym h.remaining;
      done = g.done ∙ m.done ∙ ap (λ (t : Shown). t.done) s ∙ sym n.done ∙ sym h.done;
    }

-- ---- after each step

clocks-append : (l : Lamp) (xs ys : List Call) → step_clocks l (xs ++ ys) ≡ step_clocks l xs ++ step_clocks (after l xs) ys
unfolding step_clocks after
clocks-append l [] ys = refl
clocks-append l (x ∷ xs) ys = rw (clocks-append (next l x) xs ys) (go (accepted_step l x))
  where
    go : (b : Bool) → cond b (clock_of x ∷ (step_clocks (next l x) xs ++ step_clocks (after (next l x) xs) ys)) (step_clocks (next l x) xs ++ step_clocks (after (next l x) xs) ys) ≡ cond b (clock_of x ∷ step_clocks (next l x) xs) (step_clocks (next l x) xs) ++ step_clocks (after (next l x) xs) ys
    go true = refl
    go false = refl

clocks-length : (l : Lamp) (xs : List Call) → length (step_clocks l xs) ≡ steps l xs
unfolding step_clocks steps
clocks-length l [] = refl
clocks-length l (x ∷ xs) = rw (← clocks-length (next l x) xs) (go (accepted_step l x))
  where
    go : (b : Bool) → length (cond b (clock_of x ∷ step_clocks (next l x) xs) (step_clocks (next l x) xs)) ≡ cond b (suc (length (step_clocks (next l x) xs))) (length (step_clocks (next l x) xs))
    go true = refl
    go false = refl

-- the clocks of a front are those of the whole, as many as it has steps
front : (l : Lamp) (xs ys : List Call) → take (steps l xs) (step_clocks l (xs ++ ys)) ≡ step_clocks l xs
front l xs ys = rw (clocks-append l xs ys) (take_at (step_clocks l xs) (step_clocks (after l xs) ys) (steps l xs) (clocks-length l xs))

pub after-each : AfterEach
after-each d e p q a c xs xs' ys ys' sx sy n =
    together d e p q a xs xs' ys ys' sx sy
    (sym (front (begun d).lamp xs xs') ∙ rw (n, ← sx, c, sy) (front (begun e).lamp ys ys'))
