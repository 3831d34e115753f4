-- `filling::fill_from` meets its contract: what one read gives stands after what was read before. Assumes nothing.
use Rattle.std.proofs.Common.{ℕ, ◌≡◌, ◌+◌, ◌-◌, ◌≤◌, List, ◌++◌, length, take, length-append, append_assoc, arith, ◌∙◌, sym, ap}
use Rattle.std.specs.Prelude.{None, Some}
use Rattle.std.specs.declared.option.Option.{Option}
use Rattle.std.specs.Io.KnownBytes.{Consumes}
use Rattle.std.proofs.lemmas.List.{take-append-le, length-take}
use Rattle.std.proofs.Math.Seq.{take-append-add}
use borrow.Rule.Slice.PartMut.{put_mid, post_of}
use Rattle.filling.proofs.fill_from.Goals as goal

-- bytes are consumed, and then more of them
then_more : (first middle last : Option (List ℕ)) (xs ys : List ℕ) → Consumes first middle xs
    → Consumes middle last ys → Consumes first last (xs ++ ys)
then_more None middle last xs ys one two = tt
then_more (Some _) None last xs ys one two = absurd one
then_more (Some _) (Some _) None xs ys one two = absurd two
then_more (Some all) (Some rest) (Some end) xs ys one two =
    one ∙ ap (λ l. xs ++ l) two ∙ sym (append_assoc xs ys end)

-- what was read stands at the front
at_front : (a k n : ℕ) (xs ys : List ℕ) → a ≤ length xs → n ≤ length ys
    → take (a + n) (put_mid a k xs ys) ≡ take a xs ++ take n ys
at_front a k n xs ys room inside =
    let long : length (take a xs) ≡ a = omega (arith, length-take a xs) in
    (rw long at (take-append-add (take a xs) (ys ++ post_of a k xs) n))
    ∙ ap (λ l. take a xs ++ l) (take-append-le n ys (post_of a k xs) inside)

-- so what a part is given is consumed after what was consumed before
read_more : (first middle last : Option (List ℕ)) (a k n : ℕ) (xs ys : List ℕ) → a ≤ length xs → n ≤ length ys
    → Consumes first middle (take a xs) → Consumes middle last (take n ys)
    → Consumes first last (take (a + n) (put_mid a k xs ys))
read_more first middle last a k n xs ys room inside one two =
    rw (at_front a k n xs ys room inside) (then_more first middle last (take a xs) (take n ys) one two)

pub loop-done-preserved : goal.loop-done-preserved
loop-done-preserved g c =
    let a = c.loop-done.done in
    let xs = c.loop-done.buffer in
    let ys = c.read.new.buf in
    let k = length xs - a in
    let read = c.in_ok-count.ensures in
    record {
      within = omega (arith, read.bound.0, length-append (take a xs) (ys ++ post_of a k xs), length-append ys (post_of a k xs), length-take a xs);
      read =
          read_more _ _ _ a k c.in_ok-count.count xs ys c.loop-done.invariant.within read.bound.0
          c.loop-done.invariant.read read.bytes.0;
    }
