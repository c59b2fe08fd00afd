-- Plates: darts, faces, refusals 7 to 15, as the crates finite and embedding define them.
pub use Rattle.finite.specs.Base.{pick, pick_t, first_of, when, is_in, all_below, distinct, last_of, is_lowest}
pub use Rattle.embedding.specs.Plates.{Plate, plate, darts, strips, twin, leaves, ends_at, degree_from, degree, before, part_of, over_four, all_leave, parts_ok, just_before, after, walk_from, face_of, faces_from, faces, joins, reach, connected, is_plane, plate_fault}
