-- Of which points a counter is: publishing points or reading points. The definitions of this crate and of those above it
-- ask `reads`. Assumes nothing.
use Rattle.std.specs.Prelude.{Bool, true, false}
use Rattle.gathering.specs.declared.Kind.{Kind}
use Rattle.gathering.specs.declared.Kind.TheVariants.{Publishing, Reading}

-- they are reading points
abbrev pub reads : Kind → Bool
reads Publishing = false
reads Reading = true
