-- The text that the printing program prints. Document 01, The printing program. Assumes nothing.
use Rattle.std.specs.Prelude.{ℕ, cond, List, [], ◌∷◌, ◌++◌, ltb, length}
use Rattle.lists.specs.Lists.{some_below, each_below, each_of}
use Rattle.outcomes.specs.Outcome.{Outcome, gives, refuses, asked_of}
use Rattle.table.specs.Table.{hyperperiod_of}
use Rattle.table.specs.Image.{Whole, read_image}
use Rattle.copies.specs.Copies.{Copy, write, read, Frame}
use Rattle.copies.specs.Listing.{Listing, core_listing, listing_of}
use Rattle.ages.specs.Ages.{Ages, ages_of_chain}
use Rattle.printing.specs.Words.{hyperperiod_word, core_word, chain_word, paths_word, long_word, worst_word, best_word}
use Rattle.printing.specs.Words.{jitter_word, refused_word, space, letter_w, letter_r, colon, newline, decimal}
use Rattle.printing.specs.Words.{named}

-- "each copy after one space: W and the label, or R, the label, a colon and the reader"
unfoldable pub copy_text : Copy → List ℕ
copy_text (write label writer) = space ∷ letter_w ∷ decimal label
copy_text (read label reader) = space ∷ letter_r ∷ decimal label ++ colon ∷ decimal reader

-- "A frame's line is its start and then each copy"
unfoldable pub frame_text : Frame → List ℕ
frame_text frame = decimal frame.start ++ each_of frame.copies copy_text ++ newline ∷ []

-- "a core without frames has its `core` line alone"
unfoldable pub core_text : Listing → List ℕ
core_text listing = named core_word listing.core ++ newline ∷ each_of listing.frames frame_text

-- "A chain's line gives its number, the number of paths, the longest length, the worst and best age and the jitter."
unfoldable pub chain_text : ℕ → Ages → List ℕ
chain_text chain ages =
    named chain_word chain
    ++ space ∷ named paths_word ages.paths
    ++ space ∷ named long_word ages.longest
    ++ space ∷ named worst_word ages.worst
    ++ space ∷ named best_word ages.best
    ++ space ∷ named jitter_word ages.jitter
    ++ newline ∷ []

-- "All cores come first, then all chains"
unfoldable pub whole_text : Whole → List ℕ
whole_text whole =
    named hyperperiod_word (hyperperiod_of whole.table)
    ++ newline ∷ each_below whole.table.cores (λ core. core_text (core_listing whole.table core))
    ++ each_below whole.table.chains
    (λ k. chain_text k (ages_of_chain whole.table whole.rows k))

-- "`refused 11 0` where any core's listing needs more than 65,536 bytes"
unfoldable pub printable : Whole → Outcome Whole
printable whole =
    cond (some_below whole.table.cores (λ core. ltb 65536 (length (listing_of whole.table core))))
    (refuses 11 0)
    (gives whole)

-- "An image that is refused prints one line, `refused`, a space, the number, a space, the place, and nothing else."
unfoldable pub text_of : Outcome Whole → List ℕ
text_of (gives whole) = whole_text whole
text_of (refuses number place) = named refused_word number ++ space ∷ decimal place ++ newline ∷ []

-- what is printed of an image
unfoldable pub printed : List ℕ → List ℕ
printed bytes = text_of (asked_of (read_image bytes) printable)
