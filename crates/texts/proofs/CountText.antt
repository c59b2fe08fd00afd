-- The words that counts give: one has both digits exactly where some strip bends both ways;
-- where none does, the text of the counts is that of their shape, and is as long as the entries of all darts. Assumes nothing.
use mathlib.Core.Path.{◌≡◌, refl, sym, ap, subst, ◌∙◌}
use mathlib.Core.Bool.{Bool, true, false}
use mathlib.Core.List.{List, []}
use Prim.Native.Nat.{ℕ, ◌%◌, ◌≤◌, ◌<◌, min}
use native.Mathlib.Omega.{arith}
use lib.ListN.{length, get_or}
use Rattle.finite.proofs.Tests.{not_both}
use Rattle.finite.proofs.Sums.{sum_below, sum_over}
use Rattle.embedding.proofs.Rotation.{Ordered, twin_even}
use Rattle.shapes.specs.Claims.{Accepted}
use Rattle.shapes.proofs.Accepted.{ordered}
use Rattle.shapes.proofs.Tamassia.{two_to_a_strip}
use Rattle.shapes.proofs.Words.{words_twins, words_rights, rights_at}
use Rattle.shapes.proofs.OneWord.{one_word}
use Rattle.shapes.proofs.Meets.{Twinned, lefts_at}
use Rattle.fields.specs.Writing.{put_at, Written}
use Rattle.plates.specs.Listing.{Gives}
use Rattle.plates.proofs.ListingRows.{gives_whole}
use Rattle.plates.specs.Plates.{Plate, is_in, twin, darts, strips}
use Rattle.plates.specs.Shapes.{rights, lefts, nth_w, rights_of, even_word, shape_of}
use Rattle.plates.specs.Text.{Entry, text_of}
use Rattle.plates.specs.Lines.{face_entries, face_text, is_mixed, some_mixed, word_of, both_ways, darts_of}
use Rattle.texts.specs.Plan.{laid, PlanHeld}
use Rattle.texts.specs.Prints.{count_word, count_entries, entry_long, long_up_to, Straight, PrintRoom}
use Rattle.texts.specs.declared.planning.Turn.{Turn}
use Rattle.texts.proofs.OneWay.{one_way, ways_none, word_one}
use Rattle.texts.proofs.OneWay as Ways
use Rattle.texts.proofs.Refill.{refill_cong, refill_unmixed, word_found, word_unmixed, plan_filled}
use Rattle.texts.proofs.Around.{plan_darts, all-below, all_there_lem, all_sum}
use Rattle.texts.proofs.TextBack.{outer_below}
use Rattle.texts.proofs.PrintLaws.{count_sum, long_sum, laid_dart}

module _ (p : Plate) (acc : Accepted p) (a r : List ℕ) (many : length r ≡ darts p) where
  abbrev ws : List (List Bool)
  ws = (shape_of p a r).words

  abbrev plan : List Entry
  plan = face_entries p [] []

  o : Ordered p
  o = ordered p acc

  counts : rights_of ws ≡ r
  counts = words_rights (strips p) r (many ∙ sym (two_to_a_strip p o))

  twinned : Twinned (darts p) ws
  twinned d l = words_twins (strips p) r d (omega (arith, two_to_a_strip p o))

  right_is : (d : ℕ) → rights (nth_w ws d) ≡ get_or r d 0
  right_is d = sym (rights_at ws d) ∙ ap (λ (c : List ℕ). get_or c d 0) counts

  left_is : (d : ℕ) → d < darts p → lefts (nth_w ws d) ≡ get_or r (twin d) 0
  left_is d l = lefts_at (darts p) ws twinned d l ∙ ap (λ (c : List ℕ). get_or c (twin d) 0) counts

  planned : (d : ℕ) → is_in d (darts_of plan) ≡ true → d < darts p
  planned d h = all-below p o (outer_below p acc) d (sym (ap (is_in d) (plan_darts p)) ∙ h)

  -- some word of the text has both digits exactly where some strip bends both ways
  even : length r % 2 ≡ 0
  even = ap (λ (n : ℕ). n % 2) many ∙ o.even

  none_mixed : both_ways r ≡ false → some_mixed (face_entries p a ws) ≡ false
  none_mixed one =
      ap some_mixed (plan_filled p a ws)
      ∙ refill_unmixed (nth_w ws) (λ d. get_or a d 0) plan (λ d h. Ways.one_word (nth_w ws d) (omega (arith, one_way r even one d (omega (arith, many, planned d h)), right_is d, left_is d (planned d h))))

  word_there : (d : ℕ) → d < darts p → word_of d (face_entries p a ws) ≡ nth_w ws d
  word_there d l = ap (word_of d) (plan_filled p a ws) ∙ word_found (nth_w ws) (λ d. get_or a d 0) d plan (ap (is_in d) (plan_darts p) ∙ all_there_lem p o (outer_below p acc) d l)

  none_both : some_mixed (face_entries p a ws) ≡ false → both_ways r ≡ false
  none_both h = ways_none r (λ d q l.
      let k : d < darts p = omega (arith, many) in
      omega (
        arith,
        word_one (nth_w ws d) (sym (ap is_mixed (word_there d k)) ∙ word_unmixed d (face_entries p a ws) h),
        right_is d,
        left_is d k,
        ap (λ (n : ℕ). get_or r n 0) (twin_even d q),
      ))

  pub mixed_words : both_ways r ≡ some_mixed (face_entries p a ws)
  mixed_words = go (both_ways r) refl (some_mixed (face_entries p a ws)) refl
    where
      go : (b : Bool) → both_ways r ≡ b → (c : Bool) → some_mixed (face_entries p a ws) ≡ c → b ≡ c
      go true e true f = refl
      go true e false f = absurd (not_both e (none_both f))
      go false e true f = absurd (not_both f (none_mixed e))
      go false e false f = refl

  -- where none does
  module _ (one : both_ways r ≡ false) where
    straight : (d : ℕ) → d < darts p → min (get_or r d 0) (get_or r (twin d) 0) ≡ 0
    straight d l = one_way r (ap (λ (n : ℕ). n % 2) many ∙ o.even) one d (omega (arith, many))

    word_is : (d : ℕ) → d < darts p → nth_w ws d ≡ count_word r d
    word_is d l =
        let right = right_is d in
        let left = left_is d l in
        one_word (nth_w ws d) (omega (arith, straight d l)) ∙ (λ i. even_word (right i) (left i))

    counted_text : face_text p a ws ≡ text_of (count_entries a r plan)
    counted_text =
        ap text_of (plan_filled p a ws ∙ refill_cong (nth_w ws) (count_word r) (λ d. get_or a d 0) (λ d. get_or a d 0) plan (λ d h. (word_is d (planned d h), refl)))

    pub counted_long : length (face_text p a ws) ≡ long_up_to (length r) r
    counted_long =
        ap length counted_text ∙ count_sum a r plan ∙ ap (λ (l : List ℕ). sum_over l (entry_long r)) (plan_darts p)
        ∙ all_sum p o (outer_below p acc) (entry_long r) ∙ ap (λ (n : ℕ). sum_below n (entry_long r)) (sym many) ∙ sym (long_sum (length r) r)

    -- a plan that is held
    module _ (q : List Turn) (held : PlanHeld p q) where
      held_text : face_text p a ws ≡ text_of (count_entries a r (laid q))
      held_text = counted_text ∙ ap (λ (l : List Entry). text_of (count_entries a r l)) (sym held)

      held_darts : (i : ℕ) (t : Turn) → i < length q → (get_or q i t).dart < length r
      held_darts i t l = omega (arith, planned (get_or q i t).dart (ap (λ (x : List Entry). is_in (get_or q i t).dart (darts_of x)) (sym held) ∙ laid_dart q i t l), many)

      pub print_room : (room : ℕ) → Straight a r → long_up_to (length r) r ≤ room → PrintRoom q a r room
      print_room room s l = record { straight = s; below = held_darts; enough = omega (arith, ap length held_text, counted_long) }

      pub printed : {n at : ℕ} → n ≡ long_up_to (length r) r → (out : List ℕ) {out' : List ℕ} → long_up_to (length r) r ≤ length out
          → Written 0 (text_of (count_entries a r (laid q))) out out' at → Gives (face_text p a ws) out out' (record { number = 0; long = n })
      printed {n} {at} e out {out'} l w =
          let t = face_text p a ws in
          let long : n ≡ length t = e ∙ sym counted_long in
          subst (λ (k : ℕ). Gives t out out' (record { number = 0; long = k })) (sym long)
          (gives_whole t out (omega (arith, counted_long)) (w.bytes ∙ ap (λ (x : List ℕ). put_at 0 x out) (sym held_text)))
