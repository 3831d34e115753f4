-- `liskobran::print_image` meets its contract. Assumes nothing.
use Rattle.std.proofs.Common.{◌≡◌, ◌∙◌, ◌≤◌, length, take, arith}
use Rattle.std.proofs.lemmas.List.{length-take}
use Rattle.printing.specs.Printed.{printed}
use Rattle.liskobran.proofs.Whole.{read_enough, stands_whole, text_short, written_of}
use Rattle.liskobran.proofs.print_image.Goals as goal

pub returns : goal.returns
returns g c =
    let told = c.in_ok-count.ensures in
    let count = c.in_ok-count.count in
    let read = take count c.fill_from.new.buffer in
    let long : length read ≡ count =
    omega (arith, length-take count c.fill_from.new.buffer, told.same_length, told.within) in
    let few : length read ≤ 1024 = omega (arith, told.same_length, told.within) in
    let room : length (printed read) ≤ length c.room-text.result =
    omega (arith, text_short read few, c.room-text.ensures) in
    written_of _ _ _ _ _ (λ image is.
    stands_whole c.put_text-size.ensures room
    ∙ read_enough image _ read (rw is at told.bytes) few (λ less. told.whole (omega (arith, told.same_length))))
    c.write_all.ensures.bytes
