-- The mask of the lamps behind those that are left.
use Rattle.std.proofs.Common.{◌≡◌, ◌++◌, length, drop}
use Rattle.rows.specs.Rows.{mask_of}
use Rattle.rows.proofs.mask_of.Given as goal

abbrev pub invariant-loop-lamp : goal.invariant-loop-lamp
invariant-loop-lamp l = let rest = l.lamp-iterator.iter.rest.now in record {
  left : rest ++ drop (length rest) l.lamps ≡ l.lamps;
  mask : l.mask ≡ mask_of (drop (length rest) l.lamps);
}
