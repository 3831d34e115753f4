-- Numbers that fit their fields. Assumes nothing.
use Rattle.std.specs.Prelude.{◌<◌, ◌^◌, List, [], ◌∷◌}
use Rattle.bits.specs.Packing.{Field}

-- each value is below 2 to the width of its field
abbrev pub Fits : List Field → Type 0
Fits [] = Unit {0}
Fits (f ∷ fields) = (f.value < 2 ^ f.width) × Fits fields
