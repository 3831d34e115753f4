-- Words, numbers and lines of text as bytes. Document 01, The printing program, and Language form for each
-- place: "fixed byte strings for the line words".
-- Assumes nothing.
use Rattle.std.specs.Prelude.{ℕ, zero, suc, ◌+◌, ◌/◌, ◌%◌, true, false, List, [], ◌∷◌, ◌++◌, ltb}

-- "hyperperiod"
abbrev pub hyperperiod_word : List ℕ
hyperperiod_word = 104 ∷ 121 ∷ 112 ∷ 101 ∷ 114 ∷ 112 ∷ 101 ∷ 114 ∷ 105 ∷ 111 ∷ 100 ∷ []

-- "core"
abbrev pub core_word : List ℕ
core_word = 99 ∷ 111 ∷ 114 ∷ 101 ∷ []

-- "chain"
abbrev pub chain_word : List ℕ
chain_word = 99 ∷ 104 ∷ 97 ∷ 105 ∷ 110 ∷ []

-- "paths"
abbrev pub paths_word : List ℕ
paths_word = 112 ∷ 97 ∷ 116 ∷ 104 ∷ 115 ∷ []

-- "long"
abbrev pub long_word : List ℕ
long_word = 108 ∷ 111 ∷ 110 ∷ 103 ∷ []

-- "worst"
abbrev pub worst_word : List ℕ
worst_word = 119 ∷ 111 ∷ 114 ∷ 115 ∷ 116 ∷ []

-- "best"
abbrev pub best_word : List ℕ
best_word = 98 ∷ 101 ∷ 115 ∷ 116 ∷ []

-- "jitter"
abbrev pub jitter_word : List ℕ
jitter_word = 106 ∷ 105 ∷ 116 ∷ 116 ∷ 101 ∷ 114 ∷ []

-- "refused"
abbrev pub refused_word : List ℕ
refused_word = 114 ∷ 101 ∷ 102 ∷ 117 ∷ 115 ∷ 101 ∷ 100 ∷ []

-- " ", "W", "R", ":" and the end of a line
abbrev pub space : ℕ
space = 32

abbrev pub letter_w : ℕ
letter_w = 87

abbrev pub letter_r : ℕ
letter_r = 82

abbrev pub colon : ℕ
colon = 58

abbrev pub newline : ℕ
newline = 10

-- the decimal digits of n in at most so many places, the highest first, none of them a needless 0
unfoldable pub digits_in : ℕ → ℕ → List ℕ
digits_in zero n = []
digits_in (suc places) n = elim (ltb n 10) [
  | true ↦ (48 + n) ∷ []
  | false ↦ digits_in places (n / 10) ++
      (48 + n % 10) ∷ []
]

-- a number in decimal
unfoldable pub decimal : ℕ → List ℕ
decimal n = digits_in (suc n) n

-- a word, and a number after one space
unfoldable pub named : List ℕ → ℕ → List ℕ
named word n = word ++ space ∷ decimal n
