-- A turn answers one call more, the first ten words of those that are left.
use Rattle.std.proofs.Common.{◌≡◌, ℕ, ◌+◌, ◌*◌, List, [], ◌∷◌, ◌++◌, length, take, drop, sym, ap, ◌∙◌, add-one, arith}
use Rattle.std.proofs.Math.Seq.{take-append_seam, drop-append_seam}
use Rattle.std.proofs.lemmas.List.{drop-drop, length_push}
use Rattle.measure.specs.Runs.{ran}
use Rattle.measure.proofs.run.Goals as goal

-- words that are cut after the first ten
cut : (w x rest : List ℕ) → w ≡ x ++ rest → length x ≡ 10 → (take 10 w ≡ x) × (drop 10 w ≡ rest)
cut w x rest e n =
    (ap (λ k. take k w) (sym n) ∙ ap (take (length x)) e ∙ take-append_seam x rest, ap (λ k. drop k w) (sym n) ∙ ap (drop (length x)) e ∙ drop-append_seam x rest)

pub loop-call-preserved : goal.loop-call-preserved
unfolding ran
loop-call-preserved c =
    let l = c.loop-call in
    let k = length l.yielded in
    let steps = c.in-Some.ensures.steps in
    let call = cut _ _ _ (sym l.invariant.left ∙ steps.1.0) (steps.1.1 ∙ l.invariant.size) in
    let more : length (l.yielded ++ c.in-Some.call ∷ []) ≡ k + 1 = length_push l.yielded c.in-Some.call in
    record {
      size = steps.0 ∙ l.invariant.size;
      so_far = rw (more, add-one k, l.invariant.so_far, call.0) (sym c.after-ran.ensures);
      left = sym call.1 ∙ drop-drop 10 (k * 10) c.args.calls.now ∙ ap (λ n. drop n c.args.calls.now) (omega (arith, more));
    }
