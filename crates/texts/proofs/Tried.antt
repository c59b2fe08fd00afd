-- P1's text and texts near it, by computing. Assumes nothing.
use mathlib.Core.Path.{refl}
use Rattle.plates.specs.Listing.{decimal}
use Rattle.texts.specs.Tried.{Worked}

pub worked : Worked
unfolding decimal
worked = record {
  written = refl;
  angles_back = refl;
  rights_back = refl;
  numbers = refl;
}
