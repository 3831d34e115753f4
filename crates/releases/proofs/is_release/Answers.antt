-- `releases::is_release` meets its contract. Assumes nothing.
use Rattle.std.proofs.lemmas.Bool.Decides.{same_from_decides, Decides-eqb}
use Rattle.times.specs.Releases.{is_release}
use Rattle.releases.proofs.is_release.Goals as goal

pub returns : goal.returns
unfolding is_release
returns c =
    same_from_decides _ _ (rw c.from.ensures at c.is_multiple_of.ensures) (Decides-eqb _ _)
