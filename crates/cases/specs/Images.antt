-- Images for the further cases, built field by field in document 01's order (Table image): each part is a list of named
-- fields, and nothing is checked, so that refused images can be built too. Assumes nothing.
use Rattle.std.specs.Prelude.{ℕ, ◌+◌, ◌-◌, ◌^◌, List, [], ◌∷◌, ◌++◌, length, replicate, take}
use Rattle.lists.specs.Lists.{each_of}
use Rattle.bits.specs.Packing.{Field, bits, packed}
use Rattle.cases.specs.Example.{example}

-- "Head: version 4, cores 4, tasks 6, labels 7, chains 5"
abbrev pub head_of : (version cores tasks labels chains : ℕ) → List Field
head_of version cores tasks labels chains =
    bits 4 version ∷ bits 4 cores ∷ bits 6 tasks ∷ bits 7 labels ∷ bits 5 chains ∷ []

-- "Version is 1."
abbrev pub head : (cores tasks labels chains : ℕ) → List Field
head cores tasks labels chains = head_of 1 cores tasks labels chains

-- "Each task: core 3, period 20"
abbrev pub task : (core period : ℕ) → List Field
task core period = bits 3 core ∷ bits 20 period ∷ []

-- "Each label: writer 5, readers 32"
abbrev pub label : (writer readers : ℕ) → List Field
label writer readers = bits 5 writer ∷ bits 32 readers ∷ []

-- the bit of task i in a readers field: "the most significant bit stands for task 0"
abbrev pub to : (i : ℕ) → ℕ
to i = 2 ^ (31 - i)

-- "Each chain: length 4, then that many task numbers of 5"
abbrev pub chain : (tasks : List ℕ) → List Field
chain tasks = bits 4 (length tasks) ∷ each_of tasks (λ i. bits 5 i ∷ [])

-- "Fields are packed without gaps"; "Zero bits fill the last byte"
abbrev pub image : (parts : List (List Field)) → List ℕ
image parts = packed (each_of parts (λ part. part))

-- document 01's example with another last byte
abbrev pub last_byte : (byte : ℕ) → List ℕ
last_byte byte = take 15 example ++ byte ∷ []

-- one core; task 0 with period 5, task 1 with period 2; label 0 from 0 to 1; chain 0, 1
abbrev pub chain5and2 : List ℕ
chain5and2 = image (head 1 2 1 1 ∷ task 0 5 ∷ task 0 2 ∷ label 0 (to 1) ∷ chain (0 ∷ 1 ∷ []) ∷ [])

-- one core and one task, with this period
abbrev pub alone : (period : ℕ) → List ℕ
alone period = image (head 1 1 0 0 ∷ task 0 period ∷ [])

-- one core, one task, and so many labels from it to nobody
abbrev pub labels : (count : ℕ) → List ℕ
labels count = image (head 1 1 count 0 ∷ task 0 1 ∷ replicate count (label 0 0))

-- one core; task 0 with period 2, task 1 with period 5; and what follows them
abbrev pub two_tasks : (labels chains : ℕ) → (parts : List (List Field)) → List ℕ
two_tasks labels chains parts = image (head 1 2 labels chains ∷ task 0 2 ∷ task 0 5 ∷ parts)

-- the same with label 0 from 0 to 1, and one chain
abbrev pub one_chain : (chain : List Field) → List ℕ
one_chain chain = two_tasks 1 1 (label 0 (to 1) ∷ chain ∷ [])

-- eight cores, 32 tasks on the last one with period 1, label 0 from 0 to 31, and sixteen times the chain 0, 31
abbrev pub widest : List ℕ
widest = image
    (head 8 32 1 16 ∷ replicate 32 (task 7 1) ++ label 0 (to 31) ∷ replicate 16 (chain (0 ∷ 31 ∷ [])))

-- one core; tasks 0 and 1, both with period 2, that write to each other: label 0 from 0 to 1, label 1 from 1 to 0
abbrev pub crossed : List ℕ
crossed = image (head 1 2 2 0 ∷ task 0 2 ∷ task 0 2 ∷ label 0 (to 1) ∷ label 1 (to 0) ∷ [])

-- three cores; task 0 on core 0, period 2; tasks 1 and 2 on core 1, periods 3 and 4; nothing on core 2; label 0 from 0
-- to 1 and to 2; chain 0, 1 and chain 0, 2
abbrev pub shared : List ℕ
shared = image
    (head 3 3 1 2 ∷ task 0 2 ∷ task 1 3 ∷ task 1 4 ∷ label 0 (to 1 + to 2)
    ∷ chain (0 ∷ 1 ∷ []) ∷ chain (0 ∷ 2 ∷ []) ∷ [])

-- one core; tasks 0 and 1, with periods 2 and 3, that write to each other; chain 0, 1, 0 and chain 0, 1, 0, 1, 0, 1,
-- 0, 1
abbrev pub back : List ℕ
back = image
    (head 1 2 2 2 ∷ task 0 2 ∷ task 0 3 ∷ label 0 (to 1) ∷ label 1 (to 0)
    ∷ chain (0 ∷ 1 ∷ 0 ∷ []) ∷ chain (0 ∷ 1 ∷ 0 ∷ 1 ∷ 0 ∷ 1 ∷ 0 ∷ 1 ∷ []) ∷ [])

-- two tasks, and two labels from task 0: label 0 to nobody, label 1 to task 1
abbrev pub unread : List ℕ
unread = two_tasks 2 0 (label 0 0 ∷ label 0 (to 1) ∷ [])
