-- An element put in just before another, and one in the place of another: members, lengths, and the element before each, round the list.
use mathlib.Core.Path.{◌≡◌, refl, sym, ap, subst, ◌∙◌}
use mathlib.Core.Bool.{Bool, true, false}
use mathlib.Core.List.{List, [], ◌∷◌}
use mathlib.Core.Logic.{◌⊎◌, inl, inr, ⊎_elim}
use Prim.Native.Nat.{ℕ, suc, ◌+◌}
use native.Mathlib.Omega.{arith}
use borrow.Author.Tests.{eq-eqb, ne_eqb}
use lib.ListN.{length}
use Rattle.finite.proofs.Members.{in_none, in_here, in_more, in_cases, in_past, distinct_head, distinct_rest, distinct_more}
use Rattle.finite.proofs.Tests.{either, equal_or_not, not_both, not_true_false, same_test}
use Rattle.embedding.specs.Plates.{pick, when, is_in, distinct, last_of, just_before}
use Rattle.embedding.specs.Edits.{put_before, rename, renamed}
use Rattle.embedding.proofs.Rotation.{before_here, before_on, round_before}

-- a test of members from its two ways
in_out : (x : ℕ) (ys : List ℕ) → (is_in x ys ≡ true → ⊥) → is_in x ys ≡ false
in_out x ys = not_true_false (is_in x ys)

pub not_head : (x y : ℕ) (ys : List ℕ) → is_in x (y ∷ ys) ≡ false → (x ≡ y → ⊥)
not_head x y ys e q = not_both (subst (λ (z : ℕ). is_in z (y ∷ ys) ≡ true) (sym q) (in_here y ys)) e

pub not_rest : (x y : ℕ) (ys : List ℕ) → is_in x (y ∷ ys) ≡ false → is_in x ys ≡ false
not_rest x y ys e = in_out x ys (λ h. not_both (in_more x y ys h) e)

-- b put in just before a
module _ (a b : ℕ) where
  pub put_here : (z : ℕ) (zs : List ℕ) → a ≡ z → put_before a b (z ∷ zs) ≡ b ∷ (z ∷ zs)
  put_here z zs e = ap (λ (t : Bool). pick t (b ∷ (z ∷ zs)) (z ∷ put_before a b zs)) (eq-eqb a z e)

  pub put_on : (z : ℕ) (zs : List ℕ) → (a ≡ z → ⊥) → put_before a b (z ∷ zs) ≡ z ∷ put_before a b zs
  put_on z zs e = ap (λ (t : Bool). pick t (b ∷ (z ∷ zs)) (z ∷ put_before a b zs)) (ne_eqb a z e)

  pub put_none : (zs : List ℕ) → is_in a zs ≡ false → put_before a b zs ≡ zs
  put_none [] e = refl
  put_none (z ∷ zs) e = put_on z zs (not_head a z zs e) ∙ ap (λ (r : List ℕ). z ∷ r) (put_none zs (not_rest a z zs e))

  pub put_long : (zs : List ℕ) → is_in a zs ≡ true → length (put_before a b zs) ≡ suc (length zs)
  put_long [] e = absurd (in_none a e)
  put_long (z ∷ zs) e =
      ⊎_elim (λ q. ap length (put_here z zs q)) (λ q. ap length (put_on z zs q) ∙ ap suc (put_long zs (in_past a z zs q e))) (equal_or_not a z)

  pub put_last : (zs : List ℕ) → last_of (put_before a b zs) ≡ last_of zs
  put_last [] = refl
  put_last (z ∷ []) = ⊎_elim (λ q. ap last_of (put_here z [] q)) (λ q. ap last_of (put_on z [] q)) (equal_or_not a z)
  put_last (z ∷ (w ∷ ws)) =
      ⊎_elim (λ q. ap last_of (put_here z (w ∷ ws) q)) (λ q. ap last_of (put_on z (w ∷ ws) q) ∙ past (equal_or_not a w) ∙ put_last (w ∷ ws)) (equal_or_not a z)
    where
      past : (a ≡ w) ⊎ (a ≡ w → ⊥) → last_of (z ∷ put_before a b (w ∷ ws)) ≡ last_of (put_before a b (w ∷ ws))
      past (inl q) = ap (λ (r : List ℕ). last_of (z ∷ r)) (put_here w ws q) ∙ sym (ap last_of (put_here w ws q))
      past (inr q) = ap (λ (r : List ℕ). last_of (z ∷ r)) (put_on w ws q) ∙ sym (ap last_of (put_on w ws q))

  -- the members: b, if a is one, and those before
  pub put_members : (zs : List ℕ) (x : ℕ) → is_in x (put_before a b zs) ≡ true → ((x ≡ b) × (is_in a zs ≡ true)) ⊎ (is_in x zs ≡ true)
  put_members [] x e = inr e
  put_members (z ∷ zs) x e = ⊎_elim here (λ q. on q (put_members zs x)) (equal_or_not a z)
    where
      here : a ≡ z → ((x ≡ b) × (is_in a (z ∷ zs) ≡ true)) ⊎ (is_in x (z ∷ zs) ≡ true)
      here q =
          ⊎_elim (λ h. inl (h, subst (λ (y : ℕ). is_in y (z ∷ zs) ≡ true) (sym q) (in_here z zs))) inr
          (in_cases x b (z ∷ zs) (subst (λ (l : List ℕ). is_in x l ≡ true) (put_here z zs q) e))

      on : (a ≡ z → ⊥) → (is_in x (put_before a b zs) ≡ true → ((x ≡ b) × (is_in a zs ≡ true)) ⊎ (is_in x zs ≡ true)) → ((x ≡ b) × (is_in a (z ∷ zs) ≡ true)) ⊎ (is_in x (z ∷ zs) ≡ true)
      on q ih =
          ⊎_elim (λ h. inr (subst (λ (y : ℕ). is_in y (z ∷ zs) ≡ true) (sym h) (in_here z zs)))
          (λ h. ⊎_elim (λ k. inl (k.0, in_more a z zs k.1)) (λ k. inr (in_more x z zs k)) (ih h))
          (in_cases x z (put_before a b zs) (subst (λ (l : List ℕ). is_in x l ≡ true) (put_on z zs q) e))

  pub put_keeps : (zs : List ℕ) (x : ℕ) → is_in x zs ≡ true → is_in x (put_before a b zs) ≡ true
  put_keeps [] x e = absurd (in_none x e)
  put_keeps (z ∷ zs) x e =
      ⊎_elim (λ q. subst (λ (l : List ℕ). is_in x l ≡ true) (sym (put_here z zs q)) (in_more x b (z ∷ zs) e))
      (λ q. subst (λ (l : List ℕ). is_in x l ≡ true) (sym (put_on z zs q))
      (⊎_elim (λ h. subst (λ (y : ℕ). is_in y (z ∷ put_before a b zs) ≡ true) (sym h) (in_here z (put_before a b zs))) (λ h. in_more x z (put_before a b zs) (put_keeps zs x h)) (in_cases x z zs e)))
      (equal_or_not a z)

  pub put_out : (zs : List ℕ) (x : ℕ) → (x ≡ b → ⊥) → is_in x zs ≡ false → is_in x (put_before a b zs) ≡ false
  put_out zs x n e = in_out x (put_before a b zs) (λ h. ⊎_elim (λ k. n k.0) (λ k. not_both k e) (put_members zs x h))

  -- another than b is in it as before
  pub put_is_in : (zs : List ℕ) (x : ℕ) → (x ≡ b → ⊥) → is_in x (put_before a b zs) ≡ is_in x zs
  put_is_in zs x n = same_test (is_in x (put_before a b zs)) (is_in x zs) (λ h. ⊎_elim (λ k. absurd (n k.0)) (λ k. k) (put_members zs x h)) (put_keeps zs x)

  pub put_count : (zs : List ℕ) → length (put_before a b zs) ≡ length zs + when (is_in a zs) 1
  put_count zs =
      ⊎_elim (λ e. omega (arith, put_long zs e, ap (λ (t : Bool). when t 1) e)) (λ e. omega (arith, ap length (put_none zs e), ap (λ (t : Bool). when t 1) e)) (either (is_in a zs))

  pub put_distinct : (zs : List ℕ) → distinct zs ≡ true → is_in b zs ≡ false → distinct (put_before a b zs) ≡ true
  put_distinct [] d e = refl
  put_distinct (z ∷ zs) d e =
      ⊎_elim (λ q. subst (λ (l : List ℕ). distinct l ≡ true) (sym (put_here z zs q)) (distinct_more b (z ∷ zs) e d))
      (λ q. subst (λ (l : List ℕ). distinct l ≡ true) (sym (put_on z zs q))
      (distinct_more z (put_before a b zs) (put_out zs z (λ h. not_head b z zs e (sym h)) (distinct_head z zs d)) (put_distinct zs (distinct_rest z zs d) (not_rest b z zs e))))
      (equal_or_not a z)

  -- b stands before a, what was before a stands before b, and nothing else changes
  before_a : (q : ℕ) (zs : List ℕ) → is_in a zs ≡ true → (a ≡ b → ⊥) → just_before a q (put_before a b zs) ≡ b
  before_a q [] e n = absurd (in_none a e)
  before_a q (z ∷ zs) e n =
      ⊎_elim (λ h. ap (just_before a q) (put_here z zs h) ∙ before_on a q b (z ∷ zs) n ∙ before_here a b z zs h)
      (λ h. ap (just_before a q) (put_on z zs h) ∙ before_on a q z (put_before a b zs) h ∙ before_a z zs (in_past a z zs h e) n)
      (equal_or_not a z)

  before_b : (q : ℕ) (zs : List ℕ) → is_in a zs ≡ true → is_in b zs ≡ false → just_before b q (put_before a b zs) ≡ just_before a q zs
  before_b q [] e n = absurd (in_none a e)
  before_b q (z ∷ zs) e n =
      ⊎_elim (λ h. ap (just_before b q) (put_here z zs h) ∙ before_here b q b (z ∷ zs) refl ∙ sym (before_here a q z zs h))
      (λ h. ap (just_before b q) (put_on z zs h) ∙ before_on b q z (put_before a b zs) (not_head b z zs n) ∙ before_b z zs (in_past a z zs h e) (not_rest b z zs n) ∙ sym (before_on a q z zs h))
      (equal_or_not a z)

  before_else : (q : ℕ) (zs : List ℕ) (x : ℕ) → (x ≡ a → ⊥) → (x ≡ b → ⊥) → just_before x q (put_before a b zs) ≡ just_before x q zs
  before_else q [] x m n = refl
  before_else q (z ∷ zs) x m n = ⊎_elim here (λ h. on h (before_else z zs x m n) (equal_or_not x z)) (equal_or_not a z)
    where
      here : a ≡ z → just_before x q (put_before a b (z ∷ zs)) ≡ just_before x q (z ∷ zs)
      here h =
          let m' : x ≡ z → ⊥ = λ k. m (k ∙ sym h) in
          ap (just_before x q) (put_here z zs h) ∙ before_on x q b (z ∷ zs) n ∙ before_on x b z zs m' ∙ sym (before_on x q z zs m')

      on : (a ≡ z → ⊥) → just_before x z (put_before a b zs) ≡ just_before x z zs → (x ≡ z) ⊎ (x ≡ z → ⊥) → just_before x q (put_before a b (z ∷ zs)) ≡ just_before x q (z ∷ zs)
      on h ih (inl k) = ap (just_before x q) (put_on z zs h) ∙ before_here x q z (put_before a b zs) k ∙ sym (before_here x q z zs k)
      on h ih (inr k) = ap (just_before x q) (put_on z zs h) ∙ before_on x q z (put_before a b zs) k ∙ ih ∙ sym (before_on x q z zs k)

  module _ (zs : List ℕ) where
    pub round_put : is_in a zs ≡ true → (a ≡ b → ⊥) → round_before (put_before a b zs) a ≡ b
    round_put e n = before_a (last_of (put_before a b zs)) zs e n

    pub round_new : is_in a zs ≡ true → is_in b zs ≡ false → round_before (put_before a b zs) b ≡ round_before zs a
    round_new e n = before_b (last_of (put_before a b zs)) zs e n ∙ ap (λ (q : ℕ). just_before a q zs) (put_last zs)

    pub round_else : (x : ℕ) → (x ≡ a → ⊥) → (x ≡ b → ⊥) → round_before (put_before a b zs) x ≡ round_before zs x
    round_else x m n = before_else (last_of (put_before a b zs)) zs x m n ∙ ap (λ (q : ℕ). just_before x q zs) (put_last zs)

-- b in the place of a
module _ (a b : ℕ) where
  pub rename_at : (x : ℕ) → a ≡ x → rename a b x ≡ b
  rename_at x e = ap (λ (t : Bool). pick t b x) (eq-eqb a x e)

  pub rename_other : (x : ℕ) → (a ≡ x → ⊥) → rename a b x ≡ x
  rename_other x e = ap (λ (t : Bool). pick t b x) (ne_eqb a x e)

  -- one to one on what is not b
  rename_one : (x y : ℕ) → (x ≡ b → ⊥) → (y ≡ b → ⊥) → rename a b x ≡ rename a b y → x ≡ y
  rename_one x y m n e = go (equal_or_not a x) (equal_or_not a y)
    where
      go : (a ≡ x) ⊎ (a ≡ x → ⊥) → (a ≡ y) ⊎ (a ≡ y → ⊥) → x ≡ y
      go (inl h) (inl k) = sym h ∙ k
      go (inl h) (inr k) = absurd (n (sym (rename_other y k) ∙ sym e ∙ rename_at x h))
      go (inr h) (inl k) = absurd (m (sym (rename_other x h) ∙ e ∙ rename_at y k))
      go (inr h) (inr k) = sym (rename_other x h) ∙ e ∙ rename_other y k

  pub renamed_long : (zs : List ℕ) → length (renamed a b zs) ≡ length zs
  renamed_long [] = refl
  renamed_long (z ∷ zs) = ap suc (renamed_long zs)

  renamed_last : (z : ℕ) (zs : List ℕ) → last_of (renamed a b (z ∷ zs)) ≡ rename a b (last_of (z ∷ zs))
  renamed_last z [] = refl
  renamed_last z (w ∷ ws) = renamed_last w ws

  pub renamed_members : (zs : List ℕ) (x : ℕ) → is_in x (renamed a b zs) ≡ true → (y : ℕ) × (is_in y zs ≡ true) × (x ≡ rename a b y)
  renamed_members [] x e = absurd (in_none x e)
  renamed_members (z ∷ zs) x e =
      ⊎_elim (λ q. (z, in_here z zs, q)) (λ h. let (y, i, q) = renamed_members zs x h in (y, in_more y z zs i, q)) (in_cases x (rename a b z) (renamed a b zs) e)

  pub renamed_distinct : (zs : List ℕ) → distinct zs ≡ true → is_in b zs ≡ false → distinct (renamed a b zs) ≡ true
  renamed_distinct [] d e = refl
  renamed_distinct (z ∷ zs) d e =
      distinct_more (rename a b z) (renamed a b zs) (in_out (rename a b z) (renamed a b zs) twice) (renamed_distinct zs (distinct_rest z zs d) (not_rest b z zs e))
    where
      not_b : (y : ℕ) → is_in y (z ∷ zs) ≡ true → y ≡ b → ⊥
      not_b y i q = not_both (subst (λ (u : ℕ). is_in u (z ∷ zs) ≡ true) q i) e

      twice : is_in (rename a b z) (renamed a b zs) ≡ true → ⊥
      twice h =
          let (y, i, q) = renamed_members zs (rename a b z) h in
          not_both (subst (λ (u : ℕ). is_in u zs ≡ true) (sym (rename_one z y (not_b z (in_here z zs)) (not_b y (in_more y z zs i)) q)) i) (distinct_head z zs d)

  before_renamed : (q : ℕ) (zs : List ℕ) (x : ℕ) → is_in b zs ≡ false → (x ≡ b → ⊥) → just_before (rename a b x) (rename a b q) (renamed a b zs) ≡ rename a b (just_before x q zs)
  before_renamed q [] x e n = refl
  before_renamed q (z ∷ zs) x e n =
      ⊎_elim
      (λ h. before_here (rename a b x) (rename a b q) (rename a b z) (renamed a b zs) (ap (rename a b) h) ∙ sym (ap (rename a b) (before_here x q z zs h)))
      (λ h. before_on (rename a b x) (rename a b q) (rename a b z) (renamed a b zs) (λ k. h (rename_one x z n (λ r. not_head b z zs e (sym r)) k))
      ∙ before_renamed z zs x (not_rest b z zs e) n ∙ sym (ap (rename a b) (before_on x q z zs h)))
      (equal_or_not x z)

  pub round_renamed : (zs : List ℕ) (x : ℕ) → is_in x zs ≡ true → is_in b zs ≡ false → round_before (renamed a b zs) (rename a b x) ≡ rename a b (round_before zs x)
  round_renamed [] x i e = absurd (in_none x i)
  round_renamed (z ∷ zs) x i e =
      ap (λ (q : ℕ). just_before (rename a b x) q (renamed a b (z ∷ zs))) (renamed_last z zs)
      ∙ before_renamed (last_of (z ∷ zs)) (z ∷ zs) x e (λ h. not_both (subst (λ (u : ℕ). is_in u (z ∷ zs) ≡ true) h i) e)
