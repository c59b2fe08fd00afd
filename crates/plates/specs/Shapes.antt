-- Shapes with words of bends; H1 to H4; which comes first; counts as in files; bends by strip, their limits and prices: as the crate shapes defines them.
pub use Rattle.shapes.specs.Shapes.{rights, lefts, turned_over, same_b, same_word, Shape, shape, nth_w, count_w, twins_ok_from, angles_ok, angle_sum, posts_ok, plus_side, minus_side, face_ok, faces_ok, meets, rights_of, total, bends, straights_from, is_cornered, cornered_from, cornered, smaller, same, comes_first, some_true, some_false, join_b, even_word, words_from, shape_of}
pub use Rattle.shapes.specs.Rates.{Rates, rates, prices_ok, pair_sums, strip_bends, all_within, all_free, priced_sum, price, comes_first_by, BestBy, BestWithin}
