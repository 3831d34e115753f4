-- The images that document 01's cases speak of, and what is said of its example. Assumes nothing.
use Rattle.std.specs.Prelude.{ℕ, List, [], ◌∷◌}

-- "`12 08 08 40 00 01 10 00 05 02 00 00 00 01 00 20` (two cores; task 0 on core 0, period 2; task 1 on core 1, period
-- 5; label 0 from 0 to 1; chain 0, 1)"
abbrev pub example : List ℕ
example =
    0x12 ∷ 0x08 ∷ 0x08 ∷ 0x40 ∷ 0x00 ∷ 0x01 ∷ 0x10 ∷ 0x00
    ∷ 0x05 ∷ 0x02 ∷ 0x00 ∷ 0x00 ∷ 0x00 ∷ 0x01 ∷ 0x00 ∷ 0x20 ∷ []

-- one core, two tasks of the periods 999 and 1001, nothing else
abbrev pub periods999and1001 : List ℕ
periods999and1001 = 0x11 ∷ 0x08 ∷ 0x00 ∷ 0x00 ∷ 0x01 ∷ 0xf3 ∷ 0x80 ∷ 0x03 ∷ 0xe9 ∷ []

-- one core, two tasks of the periods 1000 and 1001, nothing else
abbrev pub periods1000and1001 : List ℕ
periods1000and1001 = 0x11 ∷ 0x08 ∷ 0x00 ∷ 0x00 ∷ 0x01 ∷ 0xf4 ∷ 0x00 ∷ 0x03 ∷ 0xe9 ∷ []

-- "Core 0 of the image above: `00 00 14 00 00 40 00 00 00 20 00 00 00 80 02 00 00`."
abbrev pub example_listing : List ℕ
example_listing =
    0x00 ∷ 0x00 ∷ 0x14 ∷ 0x00 ∷ 0x00 ∷ 0x40 ∷ 0x00 ∷ 0x00 ∷ 0x00 ∷ 0x20
    ∷ 0x00 ∷ 0x00 ∷ 0x00 ∷ 0x80 ∷ 0x02 ∷ 0x00 ∷ 0x00 ∷ []

-- "it prints exactly:", with the ages of document 02, C-11: "The example in 01 becomes worst 13, best 12"
--     hyperperiod 10
--     core 0
--     0 W0
--     4 W0
--     core 1
--     0 R0:1
--     5 R0:1
--     chain 0 paths 2 long 1 worst 13 best 12 jitter 1
abbrev pub example_text : List ℕ
example_text =
    104 ∷ 121 ∷ 112 ∷ 101 ∷ 114 ∷ 112 ∷ 101 ∷ 114 ∷ 105 ∷ 111 ∷ 100 ∷ 32 ∷ 49 ∷ 48 ∷ 10
    ∷ 99 ∷ 111 ∷ 114 ∷ 101 ∷ 32 ∷ 48 ∷ 10
    ∷ 48 ∷ 32 ∷ 87 ∷ 48 ∷ 10
    ∷ 52 ∷ 32 ∷ 87 ∷ 48 ∷ 10
    ∷ 99 ∷ 111 ∷ 114 ∷ 101 ∷ 32 ∷ 49 ∷ 10
    ∷ 48 ∷ 32 ∷ 82 ∷ 48 ∷ 58 ∷ 49 ∷ 10
    ∷ 53 ∷ 32 ∷ 82 ∷ 48 ∷ 58 ∷ 49 ∷ 10
    ∷ 99 ∷ 104 ∷ 97 ∷ 105 ∷ 110 ∷ 32 ∷ 48 ∷ 32 ∷ 112 ∷ 97 ∷ 116 ∷ 104 ∷ 115 ∷ 32 ∷ 50 ∷ 32 ∷ 108 ∷ 111 ∷ 110
    ∷ 103 ∷ 32 ∷ 49 ∷ 32 ∷ 119 ∷ 111 ∷ 114 ∷ 115 ∷ 116 ∷ 32 ∷ 49 ∷ 51 ∷ 32 ∷ 98 ∷ 101 ∷ 115 ∷ 116 ∷ 32 ∷ 49 ∷ 50
    ∷ 32 ∷ 106 ∷ 105 ∷ 116 ∷ 116 ∷ 101 ∷ 114 ∷ 32 ∷ 49 ∷ 10 ∷ []
