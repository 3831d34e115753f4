-- What a line of a case says, and the lines that are no case. Assumes nothing.
use Rattle.std.specs.Prelude.{ℕ, ◌≡◌, ◌≢◌, ◌+◌, ◌*◌, ◌<◌, ◌≤◌, ◌⊎◌, List, [], Some, length, slice_get, slice_index, slice_range}
use Rattle.lines.specs.Numbers.{numbers_at}
use Rattle.case_words.specs.Words.{Goes, asked_by}
use Rattle.case_bytes.specs.Images.{bytes_from}
use Rattle.case_lines.specs.declared.Case.{Case}

-- it is empty, or begins with "#"
abbrev pub IsPassedOver : List ℕ → Type 0
IsPassedOver line = (line ≡ []) ⊎ (slice_get line 0 ≡ Some 35)

-- the word that starts at a place goes as far as the next space, or as the line
abbrev pub IsWord : List ℕ → ℕ → ℕ → Type 0
IsWord line start end =
    (start < end) × (end ≤ length line) × (end < length line → slice_index line end ≡ 32)
    × ((k : ℕ) → start < k → k < end → slice_index line k ≢ 32)

-- from a place on the line says so: the word of the question, its numbers, and then the image, with which it ends
abbrev pub Says : List ℕ → ℕ → ℕ → Case → Type 0
Says line start room case =
    (end : ℕ) × IsWord line start end × Goes (Some case.question) (slice_range line start end)
    × (numbers_at line end (asked_by case.question) ≡ Some case.numbers)
    × (case.image.now ≡ bytes_from line room case.numbers.end)
    × (case.numbers.end + 3 * length case.image.now ≡ length line)
