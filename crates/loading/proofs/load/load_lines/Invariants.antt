use Rattle.std.proofs.Common.{◌+◌, ◌≤◌, length}
use Rattle.std.specs.Slice.Iter.{split_inclusive_rest}
use Rattle.std.specs.Iterator.Adapters.{enumerate_source, enumerate_count}
use Rattle.machines.specs.Held.{held_lines, rooms_of, SameAreas}
use Rattle.loading.specs.Loads.{Blank}
use Rattle.loading.proofs.OfLoop.{Goes}
use Rattle.loading.proofs.load.load_lines.Given as goal

abbrev pub invariant-loop-n : goal.invariant-loop-n
invariant-loop-n l =
    let n = enumerate_count l.n-iterator in
    let rest = split_inclusive_rest (enumerate_source l.n-iterator) in
    (Blank l.fn.sheet (held_lines l.fn.table) → Goes (rooms_of l.fn.table) l.file l.sheet (held_lines l.table) (n + 1) rest)
    × SameAreas l.fn.table l.table
    × (n + 1 + length rest ≤ length l.file)
