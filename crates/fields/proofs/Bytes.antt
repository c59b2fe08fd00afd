-- Parts and rows of bytes are bytes. Assumes nothing.
use mathlib.Core.Path.{◌≡◌, refl}
use mathlib.Core.Bool.{true}
use mathlib.Core.List.{List, [], ◌∷◌, ◌++◌}
use Prim.Native.Nat.{ℕ, zero, suc, ◌/◌, ◌%◌, ◌<◌}
use native.Mathlib.Omega.{arith}
use lib.Dec.{ltb}
use lib.ListN.{length, take, drop}
use borrow.Author.Tests.{lt-ltb}
use Rattle.finite.proofs.Tests.{and_left, and_right, and_both}
use Rattle.fields.specs.Files.{two, four, field}
use Rattle.fields.specs.Writing.{all_bytes}

pub bytes_take : (n : ℕ) (s : List ℕ) → all_bytes s ≡ true → all_bytes (take n s) ≡ true
bytes_take zero s e = refl
bytes_take (suc n) [] e = refl
bytes_take (suc n) (x ∷ xs) e = and_both (ltb x 256) _ (and_left (ltb x 256) (all_bytes xs) e) (bytes_take n xs (and_right (ltb x 256) (all_bytes xs) e))

pub bytes_drop : (n : ℕ) (s : List ℕ) → all_bytes s ≡ true → all_bytes (drop n s) ≡ true
bytes_drop zero s e = e
bytes_drop (suc n) [] e = refl
bytes_drop (suc n) (x ∷ xs) e = bytes_drop n xs (and_right (ltb x 256) (all_bytes xs) e)

pub bytes_append : (s t : List ℕ) → all_bytes s ≡ true → all_bytes t ≡ true → all_bytes (s ++ t) ≡ true
bytes_append [] t e h = h
bytes_append (x ∷ xs) t e h = and_both (ltb x 256) _ (and_left (ltb x 256) (all_bytes xs) e) (bytes_append xs t (and_right (ltb x 256) (all_bytes xs) e) h)

pub bytes_two : (v : ℕ) → v < 65536 → all_bytes (two v) ≡ true
bytes_two v l = and_both _ _ (lt-ltb (v / 256) 256 (omega arith)) (and_both _ true (lt-ltb (v % 256) 256 (omega arith)) refl)

pub bytes_four : (v : ℕ) → v < 4294967296 → all_bytes (four v) ≡ true
bytes_four v l = bytes_append (two (v / 65536)) (two (v % 65536)) (bytes_two (v / 65536) (omega arith)) (bytes_two (v % 65536) (omega arith))

pub bytes_field : (t : ℕ) (c : List ℕ) → t < 256 → length c < 65536 → all_bytes c ≡ true → all_bytes (field t c) ≡ true
bytes_field t c l k e = and_both _ _ (lt-ltb t 256 l) (bytes_append (two (length c)) c (bytes_two (length c) k) e)
