-- What holds of the counts of a shape.
use Rattle.std.specs.Prelude.{◌≡◌, List, ℕ, ◌%◌, ◌≤◌, length}

-- for each dart an angle and its right bends
pub record Counted (angles rights : List ℕ) : Type 0 where
  pub same_length : length rights ≡ length angles
  pub even_length : length angles % 2 ≡ 0
  pub most : length angles ≤ 256
