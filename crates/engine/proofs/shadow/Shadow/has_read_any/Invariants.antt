use Rattle.std.proofs.Common.{◌≡◌, false, drop}
use Rattle.serial.specs.Machine.{has_read_any, has_written}
use Rattle.engine.proofs.shadow.Shadow.has_read_any.Given as goal

-- no read passed names a page of the list
abbrev pub invariant-reads : goal.invariant-reads
invariant-reads l =
    (l.found ≡ false) × (has_read_any l.reads l.list ≡ has_read_any (drop l.read-index l.reads) l.list)

-- and no entry passed is for the page of this read
abbrev pub invariant-loop-write : goal.invariant-loop-write
invariant-loop-write l =
    (l.found ≡ false) × (has_written l.list l.read.page ≡ has_written (drop l.write-index l.list) l.read.page)
