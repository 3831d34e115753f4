-- What holds in the loop of `case_bytes::bytes_at`: so many bytes were read. Assumes nothing.
use Rattle.case_bytes.proofs.BytesFrom.{Filled}
use Rattle.case_bytes.proofs.bytes_at.Given as goal

abbrev pub invariant-loop-count : goal.invariant-loop-count
invariant-loop-count l = Filled l.text l.initial.room l.at l.room l.count l.end
