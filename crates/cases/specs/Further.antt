-- Further cases of document 01: one table. Each value was found from document 01 by hand or by the independent program,
-- and not by these definitions. Left out: `refused 11 0` of the printing program, whose listing of more than 65,536
-- bytes is too large to compute. Assumes nothing.
use Rattle.std.specs.Prelude.{◌+◌, List, [], ◌∷◌, ◌++◌, replicate, take}
use Rattle.outcomes.specs.Outcome.{gives, refuses}
use Rattle.copies.specs.Plans.{listed_plan, full_plan}
use Rattle.cases.specs.Example.{example, example_listing, periods1000and1001}
use Rattle.cases.specs.Images.{head_of, head, task, label, to, chain, image, chain5and2, alone, labels, last_byte}
use Rattle.cases.specs.Images.{two_tasks, one_chain, widest, crossed, shared, back, unread}
use Rattle.cases.specs.Texts.{crossed_bytes, shared_bytes, back_bytes}
use Rattle.cases.specs.Texts.{crossed_text, shared_text, back_text, refused_text, crossed_listing}
use Rattle.cases.specs.Texts.{shared_listing0, shared_listing1, shared_listing2, counted}
use Rattle.cases.specs.Kinds.{Case, made, accepted, refused, points, listing, listed, lent, ages, printed, writes}
use Rattle.cases.specs.Kinds.{serves, pair, aged}

abbrev pub further : List Case
further =
    -- the example's bytes: "(two cores; task 0 on core 0, period 2; task 1 on core 1, period 5; label 0 from 0 to 1;
    -- chain 0, 1)"; and those of the three images below, as the independent program was given them
    made (image (head 2 2 1 1 ∷ task 0 2 ∷ task 1 5 ∷ label 0 (to 1) ∷ chain (0 ∷ 1 ∷ []) ∷ [])) example
    ∷ made crossed crossed_bytes
    ∷ made shared shared_bytes
    ∷ made back back_bytes
    -- "Chain 5, 2: paths 2, worst 11, best 10."; "the other ages in 01 move likewise" (C-11)
    ∷ ages chain5and2 0 (gives (aged 2 1 13 12 1))
    -- "In 16 bytes: refused 11."; in 17 it is not
    ∷ listing example 0 16 (refuses 11 0)
    ∷ listed example 0 17 (gives 17)
    -- "Last byte `21` instead of `20`: refused 9, place 127. One more byte: refused 9, place 128."
    ∷ refused (last_byte 0x21) 9 127
    ∷ refused (example ++ 0x00 ∷ []) 9 128
    -- "Period 1,000,000 passes alone, 1,000,001 is refused 5. 64 labels pass, 65 are refused 3."
    ∷ accepted (alone 1000000)
    ∷ refused (alone 1000001) 5 29
    ∷ accepted (labels 64)
    ∷ refused (labels 65) 3 14
    -- 1: "the image ends inside or before the next field", here before its third, inside a period, inside a chain
    ∷ refused (take 1 example) 1 8
    ∷ refused (image (head 1 1 0 0 ∷ [])) 1 29
    ∷ refused (take 15 example) 1 118
    -- 2: "version is not 1"; "the first that fails decides", here before a core count of 0
    ∷ refused (image (head_of 2 1 1 0 0 ∷ task 0 1 ∷ [])) 2 0
    ∷ refused (image (head_of 0 0 1 0 0 ∷ task 0 1 ∷ [])) 2 0
    -- 3: "a count in the head outside its range": "Cores 1 to 8, tasks 1 to 32, labels 0 to 64, chains 0 to 16"
    ∷ refused (image (head 0 1 0 0 ∷ task 0 1 ∷ [])) 3 4
    ∷ refused (image (head 9 1 0 0 ∷ task 0 1 ∷ [])) 3 4
    ∷ refused (image (head 1 0 0 0 ∷ [])) 3 8
    ∷ refused (image (head 1 33 0 0 ∷ replicate 33 (task 0 1))) 3 8
    ∷ refused (image (head 1 1 0 17 ∷ task 0 1 ∷ [])) 3 21
    ∷ accepted widest
    -- 4: "a task's core is not below the core count"
    ∷ refused (image (head 1 2 0 0 ∷ task 0 2 ∷ task 1 5 ∷ [])) 4 49
    -- 5: "period 0 or above 1,000,000"
    ∷ refused (image (head 1 2 0 0 ∷ task 0 2 ∷ task 0 0 ∷ [])) 5 52
    -- 6: "writer is no task of the table"
    ∷ refused (two_tasks 1 0 (label 2 (to 1) ∷ [])) 6 72
    -- 7: "a reader is no task of the table, or is the writer"
    ∷ refused (two_tasks 1 0 (label 0 (to 1 + to 2) ∷ [])) 7 77
    ∷ refused (two_tasks 1 0 (label 0 (to 1 + to 31) ∷ [])) 7 77
    ∷ refused (two_tasks 2 0 (label 0 (to 1) ∷ label 1 (to 1) ∷ [])) 7 114
    -- 8: "chain length outside 2 to 8; chain task not in the table; no label for the step", for a step at "its second
    -- task"
    ∷ refused (one_chain (chain (0 ∷ []))) 8 109
    ∷ refused (one_chain (chain (replicate 9 0))) 8 109
    ∷ refused (one_chain (chain (2 ∷ 1 ∷ []))) 8 113
    ∷ refused (one_chain (chain (0 ∷ 2 ∷ []))) 8 118
    ∷ refused (one_chain (chain (1 ∷ 0 ∷ []))) 8 118
    ∷ refused (one_chain (chain (0 ∷ 1 ∷ 0 ∷ []))) 8 123
    -- 9: "a fill bit is 1, or bytes follow", at the "first such bit"; "Then 9, then 10"
    ∷ refused (last_byte 0x3f) 9 123
    ∷ refused (last_byte 0x21 ++ 0x00 ∷ []) 9 127
    ∷ refused (periods1000and1001 ++ 0x00 ∷ []) 9 72
    -- 10: "H above 1,000,000"; "then 10, then 12"
    ∷ points periods1000and1001 0 2 0 (refuses 10 0)
    -- 11: "lent buffer shorter than the listing"
    ∷ listing example 1 16 (refuses 11 0)
    -- 12: "asked core, chain or task not in the table, or n above 1,000,000"; "then 12, 13, 11"
    ∷ listing example 2 0 (refuses 12 0)
    ∷ ages example 1 (refuses 12 0)
    ∷ points example 2 1 0 (refuses 12 0)
    ∷ points example 0 2 0 (refuses 12 0)
    ∷ points example 0 1 1000001 (refuses 12 0)
    ∷ points example 1 0 1000001 (refuses 12 0)
    ∷ points example 0 1 1000000 (pair 5000000 5000000)
    -- 13: "no label goes from the asked writer to the asked reader"
    ∷ points example 1 0 0 (refuses 13 0)
    ∷ points example 0 0 0 (refuses 13 0)
    -- "a refused image gets the same refusal whichever question is asked"; "prints one line"
    ∷ points (last_byte 0x21) 9 9 9 (refuses 9 127)
    ∷ listing (last_byte 0x21) 9 0 (refuses 9 127)
    ∷ ages (last_byte 0x21) 9 (refuses 9 127)
    ∷ printed (last_byte 0x21) refused_text
    -- "Inside a frame come the writes by rising label, then the reads by rising label and, within a label, rising
    -- task." "The two may be the same core; the copies are still listed."
    ∷ printed crossed crossed_text
    ∷ listing crossed 0 16 (gives crossed_listing)
    -- "a label has two readers with different periods"; "a core without frames has its `core` line alone"
    ∷ printed shared shared_text
    ∷ listing shared 0 33 (gives shared_listing0)
    ∷ listing shared 1 40 (gives shared_listing1)
    ∷ listing shared 2 6 (gives shared_listing2)
    -- "On success a listing fills the first bytes of the buffer, .. and the bytes after them keep their values."
    ∷ lent example 0 (counted ++ 17 ∷ 18 ∷ 19 ∷ 20 ∷ []) (example_listing ++ 18 ∷ 19 ∷ 20 ∷ [])
    -- of a refusal: "each lent buffer then holds what it held", here by 11, by 12 and by 9
    ∷ lent example 0 counted counted
    ∷ lent example 2 (counted ++ counted) (counted ++ counted)
    ∷ lent (last_byte 0x21) 0 (counted ++ counted) (counted ++ counted)
    -- "A task may stand in a chain more than once."; "chain length 2 to 8"
    ∷ ages back 0 (gives (aged 2 4 12 10 2))
    ∷ ages back 1 (gives (aged 2 19 27 26 1))
    ∷ printed back back_text
    -- the points of both directions, periods 2 and 3; "The ceiling decides": Q(1) is 4 and not 2
    ∷ points back 0 1 1 (pair 2 3)
    ∷ points back 1 0 1 (pair 3 4)
    -- "t, modulo H": in two rounds of 6 ticks, the listed copies of label 0 and those to task 0
    ∷ writes listed_plan back 0 12 (0 ∷ 2 ∷ 6 ∷ 8 ∷ [])
    ∷ serves listed_plan back 1 0 12 (0 ∷ 4 ∷ 6 ∷ 10 ∷ [])
    -- "Full copying .. writes each label at every release of its writer, serves each reader at every release of that
    -- reader, and copies at no other time": task 0 is no reader of label 0, and there is no label 2
    ∷ writes full_plan back 0 12 (0 ∷ 2 ∷ 4 ∷ 6 ∷ 8 ∷ 10 ∷ [])
    ∷ serves full_plan back 1 0 12 (0 ∷ 2 ∷ 4 ∷ 6 ∷ 8 ∷ 10 ∷ [])
    ∷ serves full_plan back 0 0 12 []
    ∷ writes full_plan back 2 12 []
    -- "A label may have no reader.": the listed copies write label 1 and never label 0; full copying writes it too
    ∷ accepted unread
    ∷ writes listed_plan unread 0 20 []
    ∷ writes listed_plan unread 1 20 (0 ∷ 4 ∷ 10 ∷ 14 ∷ [])
    ∷ writes full_plan unread 0 10 (0 ∷ 2 ∷ 4 ∷ 6 ∷ 8 ∷ [])
    ∷ []
