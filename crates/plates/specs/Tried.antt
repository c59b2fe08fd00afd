-- Plates to try, with their shapes, as the crate shapes defines them: P1 to P8, one strip from a post to itself, and P9.
pub use Rattle.shapes.specs.Tried.{Row, row, p1, p2, p3, p4, p5, p6, p7, p8, loop, rows, given, row_holds, rows_hold, rows_best, f0, f1, f2}
