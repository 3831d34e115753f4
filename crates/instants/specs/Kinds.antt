-- The kinds of copy in a listing. Document 01, Copies and frames: "each copy as kind 1 (0 write, 1 read)". Assumes
-- nothing.
use Rattle.std.specs.Prelude.{ℕ}
use Rattle.instants.specs.declared.puts.CopyKind.{CopyKind}
use Rattle.instants.specs.declared.puts.CopyKind.TheVariants.{Write, Read}

-- "0 write, 1 read"
abbrev pub kind_of : CopyKind → ℕ
kind_of Write = 0
kind_of Read = 1
