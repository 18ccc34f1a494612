-- A slice, and a place in it, as what a text is put into.
use Rattle.std.specs.Prelude.{ℕ, ◌+◌, cond, ltb, length, slice_set}
use Rattle.text.specs.declared.buffer.Buffer.{Buffer}

-- the byte at the place, and the next place; behind the slice's end nothing changes
unfoldable pub with_byte : Buffer → ℕ → Buffer
with_byte b byte =
    cond (ltb b.at (length b.out.now))
    (record {
      out = record { ref_ptr = b.out.ref_ptr; ghost_name = b.out.ghost_name; now = slice_set b.out.now b.at byte };
      at = b.at + 1;
    })
    b
