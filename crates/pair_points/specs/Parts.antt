-- What a part of the question answers. The question's own contract does not cite this file. Assumes nothing.
use Rattle.std.specs.Prelude.{ℕ, Bool, ◌&&◌, List, eqb, get_or}
use Rattle.table.specs.Table.{marks}

-- label l goes from task w to task r, by the labels' writers and their readers fields
abbrev pub goes_from : (writer readers : List ℕ) (w r l : ℕ) → Bool
goes_from writer readers w r l = eqb (get_or writer l 0) w && marks (get_or readers l 0) r
