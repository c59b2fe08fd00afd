-- The promises of both conversions leave no choice: two results that fulfil one of them are the same. Assumes nothing.
use mathlib.Core.Path.{◌≡◌, sym, ◌∙◌}
use mathlib.Core.List.{List}
use Prim.Native.Nat.{ℕ, zero, suc}
use Rattle.plates.specs.Answers.{Shaped}
use Rattle.plates.specs.Answers.{Listed}
use Rattle.plates.specs.Texts.{write_fault, WriteWith, WriteSays, read_fault, ReadWith, ReadSays}

write_with : (f : ℕ) (s t o o₁ o₂ : List ℕ) (r q : Listed) → WriteWith f s t o o₁ r → WriteWith f s t o o₂ q → (o₁ ≡ o₂) × (r ≡ q)
write_with zero s t o o₁ o₂ r q (a, b, c) (d, e, f) = (c ∙ sym f, λ x. record { number = (a ∙ sym d) x; long = (b ∙ sym e) x })
write_with (suc n) s t o o₁ o₂ r q (a, b, c) (d, e, f) = (c ∙ sym f, λ x. record { number = (a ∙ sym d) x; long = (b ∙ sym e) x })

pub write_only : (s t o o₁ o₂ : List ℕ) (r q : Listed) → WriteSays s t o o₁ r → WriteSays s t o o₂ q → (o₁ ≡ o₂) × (r ≡ q)
write_only s t o = write_with (write_fault s t o) s t o

read_with : (f : ℕ) (s t o o₁ o₂ : List ℕ) (r q : Shaped) → ReadWith f s t o o₁ r → ReadWith f s t o o₂ q → (o₁ ≡ o₂) × (r ≡ q)
read_with zero s t o o₁ o₂ r q (a, b, c, d) (e, f, g, h) = (d ∙ sym h, λ x. record { number = (a ∙ sym e) x; long = (b ∙ sym f) x; bends = (c ∙ sym g) x })
read_with (suc n) s t o o₁ o₂ r q (a, b, c, d) (e, f, g, h) = (d ∙ sym h, λ x. record { number = (a ∙ sym e) x; long = (b ∙ sym f) x; bends = (c ∙ sym g) x })

pub read_only : (s t o o₁ o₂ : List ℕ) (r q : Shaped) → ReadSays s t o o₁ r → ReadSays s t o o₂ q → (o₁ ≡ o₂) × (r ≡ q)
read_only s t o = read_with (read_fault s t o) s t o
