-- A lamp more, from the end: the mask of at most 31 lamps behind it, and then one bit more, fits 32 bits.
use Rattle.std.proofs.Common.{◌≡◌, ◌∙◌, sym, ap, ◌++◌, ◌∷◌, [], List, length, drop, length-append, append_assoc, ◌<◌, ◌≤◌, arith}
use Rattle.std.proofs.lemmas.Grind.{common_steps}
use Rattle.std.proofs.Math.Seq.{drop-append_seam}
use Rattle.lamp.specs.declared.Lamp.{Lamp}
use Rattle.rows.specs.Rows.{mask_of}
use Rattle.rows.proofs.Masks.{mask-lt}
use Rattle.rows.proofs.mask_of.Goals as goal

module _ {left lamps : List Lamp} (h : left ++ drop (length left) lamps ≡ lamps) (more : List Lamp) (x : Lamp) (e : left ≡ more ++ x ∷ []) where
  abbrev behind : List Lamp
  behind = drop (length left) lamps

  whole : more ++ x ∷ behind ≡ lamps
  whole = sym (append_assoc more (x ∷ []) behind) ∙ ap (λ l. l ++ behind) (sym e) ∙ h

  next : drop (length more) lamps ≡ x ∷ behind
  next = ap (drop (length more)) (sym whole) ∙ drop-append_seam more (x ∷ behind)

  half : length lamps ≤ 32 → mask_of behind < 2147483648
  half few = mask-lt behind 31 (omega (arith, ap length whole, length-append more (x ∷ behind)))

pub overflow_mul-mask : goal.overflow_mul-mask
overflow_mul-mask c =
    let was = c.loop-lamp.invariant in omega (arith, was.mask, half was.left _ _ c.in-Some.ensures.steps c.requires)

pub overflow_add-mask : goal.overflow_add-mask
overflow_add-mask c =
    let was = c.loop-lamp.invariant in
    grind (arith, common_steps, was.mask, c.from.ensures, half was.left _ _ c.in-Some.ensures.steps c.requires)

pub loop-lamp-preserved : goal.loop-lamp-preserved
loop-lamp-preserved c =
    let was = c.loop-lamp.invariant in
    let n = next was.left _ _ c.in-Some.ensures.steps in record {
      left = rw n (whole was.left _ _ c.in-Some.ensures.steps);
      mask = rw (n, c.from.ensures, c.is_running.ensures, was.mask) (grind (arith, common_steps));
    }
