-- The lines of frames put one after the other: none yet, one more, and all. No contract cites this file. Assumes nothing.
use Prim.Native.Nat.{ℕ}
use mathlib.Core.Path.{◌≡◌, ap, ◌∙◌}
use mathlib.Core.List.{List, [], ◌∷◌, ◌++◌, append-nil, append_assoc}
use Rattle.lists.specs.Lists.{each_of}
use Rattle.lists.proofs.Each.{each_of_append}
use Rattle.table.specs.declared.Table.{Table}
use Rattle.copies.specs.Copies.{Frame, frames_of}
use Rattle.copies.specs.Listing.{core_listing}
use Rattle.printing.specs.Printed.{frame_text, core_text}
use Rattle.printing.specs.Words.{core_word, named, newline}
use Rattle.texts.specs.Puts.{Puts}
use Rattle.texts.specs.declared.Text.{Text}
use Rattle.texts.proofs.Putting.{nothing_put, put_then}

-- the lines of frames
abbrev pub PutsFrames : (held made : Text) (frames : List Frame) → Type 0
PutsFrames held made frames = Puts held made (each_of frames frame_text)

pub no_frame : {frames : List Frame} (text : Text) → frames ≡ [] → PutsFrames text text frames
unfolding each_of
no_frame text none = rw none (nothing_put text)

pub one_more : {held middle made : Text} {after : List Frame} (before : List Frame) (frame : Frame)
    → PutsFrames held middle before → after ≡ before ++ frame ∷ [] → Puts middle made (frame_text frame)
    → PutsFrames held made after
unfolding each_of
one_more before frame first more one =
    let all : each_of (before ++ frame ∷ []) frame_text ≡ each_of before frame_text ++ frame_text frame =
    each_of_append frame_text before (frame ∷ [])
    ∙ ap (λ l. each_of before frame_text ++ l) (append-nil (frame_text frame)) in
    rw (more, all) (put_then first one)

-- a core's own line, and then the lines of its frames
pub core_put : (table : Table) (core : ℕ) {held middle made : Text}
    → Puts held middle (named core_word core ++ newline ∷ []) → PutsFrames middle made (frames_of table core)
    → Puts held made (core_text (core_listing table core))
unfolding core_text
core_put table core line frames =
    rw (append_assoc (named core_word core) (newline ∷ []) (each_of (frames_of table core) frame_text)) at
    (put_then line frames)
