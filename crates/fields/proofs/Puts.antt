-- Laws of `put_at`: two puts one behind the other are one, so that fields written in turn are their bytes in a row. Assumes nothing.
use mathlib.Core.Path.{◌≡◌, refl, sym, ap, ◌∙◌}
use mathlib.Core.List.{List, [], ◌∷◌, ◌++◌, append_assoc}
use Prim.Native.Nat.{ℕ, ◌+◌, ◌≤◌, ◌<◌}
use native.Mathlib.Nat.{add-zero}
use native.Mathlib.Numerals.{add-one}
use native.Mathlib.Omega.{arith}
use lib.ListN.{length, get_or, take, drop, set, length-append, take-append-drop}
use lib.Seq.{length-take-le, take-length, take_at, drop_at, drop-drop, set_split, paste, paste-suc}
use Rattle.fields.specs.Files.{two, field}
use Rattle.fields.specs.Writing.{put_at, Written}

-- nothing put
pub put_none : (at : ℕ) (out : List ℕ) → put_at at [] out ≡ out
put_none at out = ap (λ (n : ℕ). take at out ++ drop n out) (add-zero at) ∙ take-append-drop at out

-- one byte put is a store
pub put_one : (at v : ℕ) (out : List ℕ) → at < length out → set out at v ≡ put_at at (v ∷ []) out
put_one at v out h = set_split out at v h ∙ ap (λ (n : ℕ). take at out ++ (v ∷ drop n out)) (sym (add-one at))

-- bytes put at the front
pub put_front : (xs out : List ℕ) → put_at 0 xs out ≡ xs ++ drop (length xs) out
put_front xs out =
    let e : 0 + length xs ≡ length xs = omega arith in
    ap (λ (n : ℕ). xs ++ drop n out) e

-- `paste` of lib.Seq is a copy as far as it has come: a store takes it on, and all of it is `put_at`
pub paste_more : (at i : ℕ) (xs out held : List ℕ) → held ≡ paste out at xs i → at + i < length out → i < length xs → set held (at + i) (get_or xs i 0) ≡ paste out at xs (i + 1)
paste_more at i xs out held e h l = rw (e, add-one) (paste-suc out at xs i 0 h l)

pub paste_all : (at : ℕ) (xs out : List ℕ) → paste out at xs (length xs) ≡ put_at at xs out
paste_all at xs out = rw (append_assoc, take-length)

-- what stands before, in and behind the bytes put
module _ (at : ℕ) (xs out : List ℕ) (h : at ≤ length out) where
  front_long : length (take at out ++ xs) ≡ at + length xs
  front_long = omega (arith, length-append (take at out) xs, length-take-le at out h)

  split : put_at at xs out ≡ (take at out ++ xs) ++ drop (at + length xs) out
  split = sym (append_assoc (take at out) xs (drop (at + length xs) out))

  pub take_put : take (at + length xs) (put_at at xs out) ≡ take at out ++ xs
  take_put = ap (take (at + length xs)) split ∙ take_at (take at out ++ xs) (drop (at + length xs) out) (at + length xs) front_long

  pub drop_put : drop (at + length xs) (put_at at xs out) ≡ drop (at + length xs) out
  drop_put = ap (drop (at + length xs)) split ∙ drop_at (take at out ++ xs) (drop (at + length xs) out) (at + length xs) front_long

  -- ys put behind xs
  put_behind : (ys : List ℕ) → put_at (at + length xs) ys (put_at at xs out) ≡ put_at at (xs ++ ys) out
  put_behind ys =
      let n = at + length xs in
      let e : at + length xs + length ys ≡ at + length (xs ++ ys) = omega (arith, length-append xs ys) in
      let d : drop (n + length ys) (put_at at xs out) ≡ drop (at + length (xs ++ ys)) out =
      sym (drop-drop (length ys) n (put_at at xs out)) ∙ ap (drop (length ys)) drop_put ∙ drop-drop (length ys) n out ∙ ap (λ (m : ℕ). drop m out) e in
      ap (λ (l : List ℕ). l ++ (ys ++ drop (n + length ys) (put_at at xs out))) take_put
      ∙ ap (λ (l : List ℕ). (take at out ++ xs) ++ (ys ++ l)) d
      ∙ simp append_assoc

  pub put_put : (next : ℕ) (ys : List ℕ) → next ≡ at + length xs → put_at next ys (put_at at xs out) ≡ put_at at (xs ++ ys) out
  put_put next ys e = rw e (put_behind ys)

-- a field's bytes
pub field_long : (t : ℕ) (c : List ℕ) → length (field t c) ≡ 3 + length c
field_long t c = omega arith

-- two writes, the second where the first ended; `written_none` begins a row of them
pub written_none : (at : ℕ) (out : List ℕ) → Written at [] out out at
written_none at out = record { bytes = sym (put_none at out); behind = sym (add-zero at) }

pub written_then : {at m n : ℕ} {xs ys out mid last : List ℕ} → at ≤ length out → Written at xs out mid m → Written m ys mid last n → Written at (xs ++ ys) out last n
written_then {at} {m} {n} {xs} {ys} {out} {mid} {last} h a b =
    record {
      bytes = b.bytes ∙ ap (put_at m ys) a.bytes ∙ put_put at xs out h m ys a.behind;
      behind = omega (arith, a.behind, b.behind, length-append xs ys);
    }

-- a field written in three parts: its tag stored, its length and its content copied
pub field_written : (at t : ℕ) (c out : List ℕ) {long mid last : List ℕ} → at < length out → long ≡ two (length c) → mid ≡ put_at (at + 1) long (set out at t) → last ≡ put_at (at + 3) c mid → Written at (field t c) out last (at + 3 + length c)
field_written at t c out {long} {mid} {last} h e p q =
    let head : mid ≡ put_at at (t ∷ two (length c)) out =
    rw (p, e, put_one at t out h) (put_put at (t ∷ []) out (omega arith) (at + 1) (two (length c)) refl) in
    record {
      bytes = rw (q, head) (put_put at (t ∷ two (length c)) out (omega arith) (at + 3) c refl);
      behind = omega arith;
    }
