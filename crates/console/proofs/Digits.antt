-- Digits gone over one at a time: those that are left go on from the number so far, of which no more than 65,536 counts.
use mathlib.Core.Path.{◌≡◌, refl, ap, ◌∙◌}
use mathlib.Core.Bool.{Bool, true, false, ◌&&◌}
use mathlib.Core.List.{List, [], ◌∷◌}
use Prim.Native.Nat.{ℕ, ◌+◌, ◌-◌, ◌*◌, ◌<◌, min}
use native.Mathlib.Omega.{arith}
use lib.Dec.{leb}
use lib.ListN.{length, get_or, drop}
use Rattle.std.proofs.Common.{Option, Some, None}
use Rattle.std.proofs.lemmas.List.{drop_more}
use Rattle.finite.specs.Base.{pick}
use Rattle.console.specs.Decimals.{go_on, capped}

-- what is above 65,536 makes no difference
above : (v w : ℕ) (ds : List ℕ) → min v 65536 ≡ min w 65536 → capped 65536 (go_on v ds) ≡ capped 65536 (go_on w ds)
above v w [] e = ap Some e
above v w (d ∷ ds) e = by (leb 48 d && leb d 57) _ _ (above (10 * v + (d - 48)) (10 * w + (d - 48)) ds (omega arith))
  where
    by : (b : Bool) (x y : Option ℕ) → capped 65536 x ≡ capped 65536 y → capped 65536 (pick b x None) ≡ capped 65536 (pick b y None)
    by true x y h = h
    by false x y h = refl

module _ (s : List ℕ) (i v : ℕ) (l : i < length s) where
  opened : go_on v (drop i s) ≡ pick (leb 48 (get_or s i 0) && leb (get_or s i 0) 57) (go_on (10 * v + (get_or s i 0 - 48)) (drop (i + 1) s)) None
  opened = ap (go_on v) (drop_more s i 0 l)

  pub one_more : (leb 48 (get_or s i 0) && leb (get_or s i 0) 57) ≡ true → (w : ℕ) → w ≡ min (10 * v + (get_or s i 0 - 48)) 65536
      → capped 65536 (go_on v (drop i s)) ≡ capped 65536 (go_on w (drop (i + 1) s))
  one_more y w e =
      ap (capped 65536) (opened ∙ ap (λ (b : Bool). pick b (go_on (10 * v + (get_or s i 0 - 48)) (drop (i + 1) s)) None) y)
      ∙ above (10 * v + (get_or s i 0 - 48)) w (drop (i + 1) s) (omega arith)
