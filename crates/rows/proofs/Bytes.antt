-- The caller's slice after a row call, place by place: sixteen bytes of each lamp, then what was behind them.
use Rattle.std.specs.Prelude.{is_ok}
use Rattle.matter.specs.Causes.{accepted}
use Rattle.matter.proofs.Laws.{accepted-of}
use Prim.Native.Nat.{ℕ, zero, suc, ◌+◌, ◌-◌, ◌*◌, ◌≤◌, ◌<◌}
use mathlib.Core.List.{List, [], ◌∷◌, ◌++◌, append_assoc}
use mathlib.Core.Path.{◌≡◌, refl, ap, ◌∙◌}
use native.Mathlib.Omega.{arith}
use lib.ListN.{length, take, drop, get_or, replicate, length-append, length-replicate, length-drop}
use lib.Seq.{get_or-take, take_at, drop_at, drop-append-add}
use Rattle.notices.specs.Notices.{filled}
use Rattle.lamp.specs.declared.Lamp.{Lamp}
use Rattle.lamp.specs.declared.Call.{Call}
use Rattle.commands.specs.Answers.{answer}
use Rattle.commands.proofs.Table.{table}
use Rattle.rows.specs.declared.Row.{Row}
use Rattle.rows.specs.Rows.{no_lamp, lamp_at, placed, visited, bytes_of, row_cause, row_bytes}
use Rattle.rows.proofs.Causes.{slice_fits}
use Rattle.rows.proofs.Laws.{InRow, Room, either, visited-step, accepted-slice, accepted-few, placed-many}

-- the sixteen bytes of a place
abbrev pub sixteen_at : ℕ → List ℕ → List ℕ
sixteen_at k out = take 16 (drop (16 * k) out)

filled-16 : (xs : List ℕ) → length xs ≤ 16 → length (filled xs) ≡ 16
unfolding filled
filled-16 xs h = omega (arith, length-append xs (replicate (16 - length xs) 0), length-replicate {A = ℕ} (16 - length xs) 0)

sixteen : (l : Lamp) (clock : ℕ) → length (visited l clock).notices.places ≡ 16
sixteen l clock =
    let few = table.few l (Call.Step clock) in
    rw ((visited-step l clock).1, few.listed) (filled-16 few.reported (omega (arith, few.few)))

bytes-length : (clock : ℕ) (ls : List Lamp) → length (bytes_of clock ls) ≡ 16 * length ls
bytes-length clock [] = refl
bytes-length clock (l ∷ ls) =
    omega (arith, length-append (visited l clock).notices.places (bytes_of clock ls), sixteen l clock, bytes-length clock ls)

place-bytes : (clock k : ℕ) (ls : List Lamp) (rest : List ℕ) → k < length ls →
    sixteen_at k (bytes_of clock ls ++ rest) ≡ (visited (get_or ls k no_lamp) clock).notices.places
place-bytes clock k [] rest h = absurd (omega arith)
place-bytes clock zero (l ∷ ls) rest h =
    rw (append_assoc (visited l clock).notices.places (bytes_of clock ls) rest)
    (take_at (visited l clock).notices.places (bytes_of clock ls ++ rest) 16 (sixteen l clock))
place-bytes clock (suc k) (l ∷ ls) rest h =
    let more : 16 * suc k ≡ length (visited l clock).notices.places + 16 * k = omega (arith, sixteen l clock) in
    rw (append_assoc (visited l clock).notices.places (bytes_of clock ls) rest, more, drop-append-add (visited l clock).notices.places (bytes_of clock ls ++ rest) (16 * k))
    (place-bytes clock k ls rest (omega arith))

-- an accepted row call writes at each place what that lamp's own step reports, an idle one's nothing
pub bytes-at : (r : Row) (out : List ℕ) (clock k : ℕ) → InRow k r → row_cause r (length out) clock ≡ accepted →
    sixteen_at k (row_bytes r out clock) ≡ (answer (lamp_at r k) (Call.Step clock)).notices.places
unfolding row_bytes
bytes-at r out clock k h e =
    rw e (place-bytes clock k (placed r) _ (omega (arith, placed-many r h.room, h.there))
    ∙ rw (get_or-take r.count r.lamps k no_lamp h.there, (visited-step (lamp_at r k) clock).1))

all-bytes : (r : Row) (clock : ℕ) → Room r → length (bytes_of clock (placed r)) ≡ 16 * r.count
all-bytes r clock h = bytes-length clock (placed r) ∙ ap (λ n. 16 * n) (placed-many r h)

-- "Bytes past the last place stay", and the slice its size, whether the call is accepted or not
pub bytes_past : (r : Row) (out : List ℕ) (clock : ℕ) → length r.lamps ≡ 32 →
    drop (16 * r.count) (row_bytes r out clock) ≡ drop (16 * r.count) out
unfolding row_bytes
bytes_past r out clock len =
    either (is_ok (row_cause r (length out) clock))
    (λ e. rw e (drop_at (bytes_of clock (placed r)) (drop (16 * r.count) out) (16 * r.count)
    (all-bytes r clock (record { few = accepted-few r (length out) clock (accepted-of _ e); places = len }))))
    (λ e. rw e)

pub bytes-size : (r : Row) (out : List ℕ) (clock : ℕ) → length r.lamps ≡ 32 → length (row_bytes r out clock) ≡ length out
unfolding row_bytes
bytes-size r out clock len =
    either (is_ok (row_cause r (length out) clock))
    (λ e. let fits = slice_fits r (length out) (accepted-slice r (length out) clock (accepted-of _ e)) in
    let many = all-bytes r clock (record { few = fits.0; places = len }) in
    rw e (omega (arith, length-append (bytes_of clock (placed r)) (drop (16 * r.count) out), length-drop (16 * r.count) out, many, fits.1)))
    (λ e. rw e)
