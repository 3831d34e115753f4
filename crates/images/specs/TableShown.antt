-- What a reader of an image answers. Assumes nothing.
use Rattle.std.specs.Prelude.{ℕ, ◌≡◌, List}
use Rattle.table.specs.Refusals.{said_of_image}
use Rattle.table.specs.Shown.{answer_of, shown_of}
use Rattle.images.specs.declared.TableRead.{TableRead}

-- the image's answer, and its table
pub record TableShown (image : List ℕ) (r : TableRead) : Type 0 where
  pub answer : said_of_image r.answer ≡ answer_of image
  pub table : r.table ≡ (shown_of image).table
