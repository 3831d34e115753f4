-- The bytes that the further cases speak of: images, texts and listings, as the independent program is given them and
-- writes them. Assumes nothing.
use Rattle.std.specs.Prelude.{ℕ, List, [], ◌∷◌}

-- the bytes of the images `crossed`, `shared` and `back`
abbrev pub crossed_bytes : List ℕ
crossed_bytes =
    0x11 ∷ 0x08 ∷ 0x10 ∷ 0x00 ∷ 0x00 ∷ 0x01 ∷ 0x00 ∷ 0x00 ∷ 0x02 ∷ 0x02 ∷ 0x00 ∷ 0x00 ∷ 0x00 ∷ 0x00
    ∷ 0x60 ∷ 0x00 ∷ 0x00 ∷ 0x00 ∷ 0x00 ∷ []

abbrev pub shared_bytes : List ℕ
shared_bytes =
    0x13 ∷ 0x0c ∷ 0x08 ∷ 0x80 ∷ 0x00 ∷ 0x01 ∷ 0x10 ∷ 0x00 ∷ 0x03 ∷ 0x20 ∷ 0x00 ∷ 0x08 ∷ 0x06 ∷ 0x00
    ∷ 0x00 ∷ 0x00 ∷ 0x02 ∷ 0x00 ∷ 0x48 ∷ 0x02 ∷ []

abbrev pub back_bytes : List ℕ
back_bytes =
    0x11 ∷ 0x08 ∷ 0x10 ∷ 0x80 ∷ 0x00 ∷ 0x01 ∷ 0x00 ∷ 0x00 ∷ 0x03 ∷ 0x02 ∷ 0x00 ∷ 0x00 ∷ 0x00 ∷ 0x00
    ∷ 0x60 ∷ 0x00 ∷ 0x00 ∷ 0x00 ∷ 0x0c ∷ 0x01 ∷ 0x04 ∷ 0x00 ∷ 0x20 ∷ 0x08 ∷ 0x02 ∷ 0x00 ∷ 0x80 ∷ []

-- what is printed of `crossed`:
--     hyperperiod 2
--     core 0
--     0 W0 W1 R0:1 R1:0
abbrev pub crossed_text : List ℕ
crossed_text =
    104 ∷ 121 ∷ 112 ∷ 101 ∷ 114 ∷ 112 ∷ 101 ∷ 114 ∷ 105 ∷ 111 ∷ 100 ∷ 32 ∷ 50 ∷ 10
    ∷ 99 ∷ 111 ∷ 114 ∷ 101 ∷ 32 ∷ 48 ∷ 10
    ∷ 48 ∷ 32 ∷ 87 ∷ 48 ∷ 32 ∷ 87 ∷ 49 ∷ 32 ∷ 82 ∷ 48 ∷ 58 ∷ 49 ∷ 32 ∷ 82 ∷ 49 ∷ 58 ∷ 48 ∷ 10 ∷ []

-- what is printed of `shared`:
--     hyperperiod 12
--     core 0
--     0 W0
--     2 W0
--     4 W0
--     6 W0
--     8 W0
--     core 1
--     0 R0:1 R0:2
--     3 R0:1
--     4 R0:2
--     6 R0:1
--     8 R0:2
--     9 R0:1
--     core 2
--     chain 0 paths 2 long 1 worst 9 best 8 jitter 1
--     chain 1 paths 1 long 0 worst 10 best 10 jitter 0
abbrev pub shared_text : List ℕ
shared_text =
    104 ∷ 121 ∷ 112 ∷ 101 ∷ 114 ∷ 112 ∷ 101 ∷ 114 ∷ 105 ∷ 111 ∷ 100 ∷ 32 ∷ 49 ∷ 50 ∷ 10
    ∷ 99 ∷ 111 ∷ 114 ∷ 101 ∷ 32 ∷ 48 ∷ 10
    ∷ 48 ∷ 32 ∷ 87 ∷ 48 ∷ 10
    ∷ 50 ∷ 32 ∷ 87 ∷ 48 ∷ 10
    ∷ 52 ∷ 32 ∷ 87 ∷ 48 ∷ 10
    ∷ 54 ∷ 32 ∷ 87 ∷ 48 ∷ 10
    ∷ 56 ∷ 32 ∷ 87 ∷ 48 ∷ 10
    ∷ 99 ∷ 111 ∷ 114 ∷ 101 ∷ 32 ∷ 49 ∷ 10
    ∷ 48 ∷ 32 ∷ 82 ∷ 48 ∷ 58 ∷ 49 ∷ 32 ∷ 82 ∷ 48 ∷ 58 ∷ 50 ∷ 10
    ∷ 51 ∷ 32 ∷ 82 ∷ 48 ∷ 58 ∷ 49 ∷ 10
    ∷ 52 ∷ 32 ∷ 82 ∷ 48 ∷ 58 ∷ 50 ∷ 10
    ∷ 54 ∷ 32 ∷ 82 ∷ 48 ∷ 58 ∷ 49 ∷ 10
    ∷ 56 ∷ 32 ∷ 82 ∷ 48 ∷ 58 ∷ 50 ∷ 10
    ∷ 57 ∷ 32 ∷ 82 ∷ 48 ∷ 58 ∷ 49 ∷ 10
    ∷ 99 ∷ 111 ∷ 114 ∷ 101 ∷ 32 ∷ 50 ∷ 10
    ∷ 99 ∷ 104 ∷ 97 ∷ 105 ∷ 110 ∷ 32 ∷ 48 ∷ 32 ∷ 112 ∷ 97 ∷ 116 ∷ 104 ∷ 115 ∷ 32 ∷ 50 ∷ 32 ∷ 108 ∷ 111 ∷ 110
    ∷ 103 ∷ 32 ∷ 49 ∷ 32 ∷ 119 ∷ 111 ∷ 114 ∷ 115 ∷ 116 ∷ 32 ∷ 57 ∷ 32 ∷ 98 ∷ 101 ∷ 115 ∷ 116 ∷ 32 ∷ 56 ∷ 32
    ∷ 106 ∷ 105 ∷ 116 ∷ 116 ∷ 101 ∷ 114 ∷ 32 ∷ 49 ∷ 10
    ∷ 99 ∷ 104 ∷ 97 ∷ 105 ∷ 110 ∷ 32 ∷ 49 ∷ 32 ∷ 112 ∷ 97 ∷ 116 ∷ 104 ∷ 115 ∷ 32 ∷ 49 ∷ 32 ∷ 108 ∷ 111 ∷ 110
    ∷ 103 ∷ 32 ∷ 48 ∷ 32 ∷ 119 ∷ 111 ∷ 114 ∷ 115 ∷ 116 ∷ 32 ∷ 49 ∷ 48 ∷ 32 ∷ 98 ∷ 101 ∷ 115 ∷ 116 ∷ 32 ∷ 49 ∷ 48
    ∷ 32 ∷ 106 ∷ 105 ∷ 116 ∷ 116 ∷ 101 ∷ 114 ∷ 32 ∷ 48 ∷ 10 ∷ []

-- what is printed of `back`:
--     hyperperiod 6
--     core 0
--     0 W0 W1 R0:1 R1:0
--     2 W0
--     3 W1 R0:1
--     4 R1:0
--     chain 0 paths 2 long 4 worst 12 best 10 jitter 2
--     chain 1 paths 2 long 19 worst 27 best 26 jitter 1
abbrev pub back_text : List ℕ
back_text =
    104 ∷ 121 ∷ 112 ∷ 101 ∷ 114 ∷ 112 ∷ 101 ∷ 114 ∷ 105 ∷ 111 ∷ 100 ∷ 32 ∷ 54 ∷ 10
    ∷ 99 ∷ 111 ∷ 114 ∷ 101 ∷ 32 ∷ 48 ∷ 10
    ∷ 48 ∷ 32 ∷ 87 ∷ 48 ∷ 32 ∷ 87 ∷ 49 ∷ 32 ∷ 82 ∷ 48 ∷ 58 ∷ 49 ∷ 32 ∷ 82 ∷ 49 ∷ 58 ∷ 48 ∷ 10
    ∷ 50 ∷ 32 ∷ 87 ∷ 48 ∷ 10
    ∷ 51 ∷ 32 ∷ 87 ∷ 49 ∷ 32 ∷ 82 ∷ 48 ∷ 58 ∷ 49 ∷ 10
    ∷ 52 ∷ 32 ∷ 82 ∷ 49 ∷ 58 ∷ 48 ∷ 10
    ∷ 99 ∷ 104 ∷ 97 ∷ 105 ∷ 110 ∷ 32 ∷ 48 ∷ 32 ∷ 112 ∷ 97 ∷ 116 ∷ 104 ∷ 115 ∷ 32 ∷ 50 ∷ 32 ∷ 108 ∷ 111 ∷ 110
    ∷ 103 ∷ 32 ∷ 52 ∷ 32 ∷ 119 ∷ 111 ∷ 114 ∷ 115 ∷ 116 ∷ 32 ∷ 49 ∷ 50 ∷ 32 ∷ 98 ∷ 101 ∷ 115 ∷ 116 ∷ 32 ∷ 49 ∷ 48
    ∷ 32 ∷ 106 ∷ 105 ∷ 116 ∷ 116 ∷ 101 ∷ 114 ∷ 32 ∷ 50 ∷ 10
    ∷ 99 ∷ 104 ∷ 97 ∷ 105 ∷ 110 ∷ 32 ∷ 49 ∷ 32 ∷ 112 ∷ 97 ∷ 116 ∷ 104 ∷ 115 ∷ 32 ∷ 50 ∷ 32 ∷ 108 ∷ 111 ∷ 110
    ∷ 103 ∷ 32 ∷ 49 ∷ 57 ∷ 32 ∷ 119 ∷ 111 ∷ 114 ∷ 115 ∷ 116 ∷ 32 ∷ 50 ∷ 55 ∷ 32 ∷ 98 ∷ 101 ∷ 115 ∷ 116 ∷ 32 ∷ 50
    ∷ 54 ∷ 32 ∷ 106 ∷ 105 ∷ 116 ∷ 116 ∷ 101 ∷ 114 ∷ 32 ∷ 49 ∷ 10 ∷ []

-- what is printed of an image that is refused:
--     refused 9 127
abbrev pub refused_text : List ℕ
refused_text =
    114 ∷ 101 ∷ 102 ∷ 117 ∷ 115 ∷ 101 ∷ 100 ∷ 32 ∷ 57 ∷ 32 ∷ 49 ∷ 50 ∷ 55 ∷ 10 ∷ []

-- the listing of core 0 of `crossed`: one frame of four copies
abbrev pub crossed_listing : List ℕ
crossed_listing =
    0x00 ∷ 0x00 ∷ 0x04 ∷ 0x00 ∷ 0x00 ∷ 0x20 ∷ 0x00 ∷ 0x00 ∷ 0x00 ∷ 0x80
    ∷ 0x00 ∷ 0x04 ∷ 0x30 ∷ 0x03 ∷ 0x04 ∷ 0x00 ∷ []

-- the listings of the cores of `shared`: core 0 has five frames
abbrev pub shared_listing0 : List ℕ
shared_listing0 =
    0x00 ∷ 0x00 ∷ 0x18 ∷ 0x00 ∷ 0x00 ∷ 0xa0 ∷ 0x00 ∷ 0x00 ∷ 0x00 ∷ 0x20
    ∷ 0x00 ∷ 0x00 ∷ 0x00 ∷ 0x40 ∷ 0x02 ∷ 0x00 ∷ 0x00 ∷ 0x00 ∷ 0x08 ∷ 0x00
    ∷ 0x20 ∷ 0x00 ∷ 0x00 ∷ 0x00 ∷ 0xc0 ∷ 0x02 ∷ 0x00 ∷ 0x00 ∷ 0x00 ∷ 0x10
    ∷ 0x00 ∷ 0x20 ∷ 0x00 ∷ []

-- core 1 has six, the first of two copies
abbrev pub shared_listing1 : List ℕ
shared_listing1 =
    0x20 ∷ 0x00 ∷ 0x18 ∷ 0x00 ∷ 0x00 ∷ 0xc0 ∷ 0x00 ∷ 0x00 ∷ 0x00 ∷ 0x50
    ∷ 0x03 ∷ 0x00 ∷ 0x40 ∷ 0x00 ∷ 0x06 ∷ 0x00 ∷ 0x30 ∷ 0x02 ∷ 0x00 ∷ 0x00
    ∷ 0x80 ∷ 0x03 ∷ 0x00 ∷ 0x40 ∷ 0x00 ∷ 0x0c ∷ 0x00 ∷ 0x30 ∷ 0x02 ∷ 0x00
    ∷ 0x01 ∷ 0x00 ∷ 0x03 ∷ 0x00 ∷ 0x40 ∷ 0x00 ∷ 0x12 ∷ 0x00 ∷ 0x30 ∷ 0x02 ∷ []

-- core 2 has none
abbrev pub shared_listing2 : List ℕ
shared_listing2 =
    0x40 ∷ 0x00 ∷ 0x18 ∷ 0x00 ∷ 0x00 ∷ 0x00 ∷ []

-- sixteen bytes that a buffer holds before
abbrev pub counted : List ℕ
counted = 1 ∷ 2 ∷ 3 ∷ 4 ∷ 5 ∷ 6 ∷ 7 ∷ 8 ∷ 9 ∷ 10 ∷ 11 ∷ 12 ∷ 13 ∷ 14 ∷ 15 ∷ 16 ∷ []
