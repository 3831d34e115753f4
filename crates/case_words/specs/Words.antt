-- The words that questions go by, each after one space. Assumes nothing.
use Rattle.std.specs.Prelude.{ℕ, ◌≡◌, List, [], ◌∷◌, Option, None, Some}
use Rattle.case_words.specs.declared.Question.{Question}
use Rattle.case_words.specs.declared.Question.TheVariants.{Image, Points, Listing, Ages, Directly}

-- " image"
abbrev pub image_word : List ℕ
image_word = 32 ∷ 105 ∷ 109 ∷ 97 ∷ 103 ∷ 101 ∷ []

-- " points"
abbrev pub points_word : List ℕ
points_word = 32 ∷ 112 ∷ 111 ∷ 105 ∷ 110 ∷ 116 ∷ 115 ∷ []

-- " listing"
abbrev pub listing_word : List ℕ
listing_word = 32 ∷ 108 ∷ 105 ∷ 115 ∷ 116 ∷ 105 ∷ 110 ∷ 103 ∷ []

-- " ages"
abbrev pub ages_word : List ℕ
ages_word = 32 ∷ 97 ∷ 103 ∷ 101 ∷ 115 ∷ []

-- " directly"
abbrev pub directly_word : List ℕ
directly_word = 32 ∷ 100 ∷ 105 ∷ 114 ∷ 101 ∷ 99 ∷ 116 ∷ 108 ∷ 121 ∷ []

-- what a question goes by; no question by anything else
abbrev pub Goes : Option Question → List ℕ → Type 0
Goes (Some Image) part = part ≡ image_word
Goes (Some Points) part = part ≡ points_word
Goes (Some Listing) part = part ≡ listing_word
Goes (Some Ages) part = part ≡ ages_word
Goes (Some Directly) part = part ≡ directly_word
Goes None part =
    ¬ (part ≡ image_word) × ¬ (part ≡ points_word) × ¬ (part ≡ listing_word) × ¬ (part ≡ ages_word)
    × ¬ (part ≡ directly_word)

-- how many numbers a question has: a listing core and room, ages a chain, points a writer, a reader and n
abbrev pub asked_by : Question → ℕ
asked_by Image = 0
asked_by Points = 3
asked_by Listing = 2
asked_by Ages = 1
asked_by Directly = 3
