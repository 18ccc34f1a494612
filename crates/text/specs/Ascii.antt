-- A text as bytes: `ascii "ok"` is 111 and 107. Every text in specs/ is of ASCII characters, whose code is their byte.
use Rattle.std.specs.Prelude.{ℕ, List, [], ◌∷◌}
use Prim.Native.Char.{code}
use Prim.Native.String.{String, [] as empty, ◌∷◌ as ◌followed_by◌}

abbrev pub ascii : String → List ℕ
ascii empty = []
ascii (c followed_by s) = code c ∷ ascii s
