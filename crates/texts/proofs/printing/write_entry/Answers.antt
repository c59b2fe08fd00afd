-- `texts::printing::write_entry` writes the number, the word and the angle in turn.
use Rattle.std.proofs.Common.{◌≡◌, ◌∙◌, sym, ap, ℕ, ◌+◌, ◌∷◌, [], arith}
use lib.ListN.{length-set}
use Rattle.plates.specs.Plates.{pick}
use Rattle.plates.specs.Text.{angle_text}
use Rattle.texts.proofs.PrintLaws.{entry_size, entry_parts, part_written}
use Rattle.texts.proofs.printing.write_entry.Goals.{then-entry, else-entry}
use Rattle.texts.proofs.printing.write_entry.Goals as goal

pub returns : goal.returns
returns c =
    let e = c.args.entry in
    let pre = c.requires in
    let size = entry_size e.dart e.word.right e.word.left e.angle e.last in
    let number = c.write_decimal-second in
    let space = length-set number.new.out number.result 32 in
    let word = c.write_word-third in
    let end-is : c.if-entry.end ≡ pick e.last 10 32 = elim c.if-entry.branch [ then-entry w ↦ w.end-is ∙ ap (λ b. pick b 10 32) (sym w.if-entry.true) | else-entry w ↦ w.end-is ∙ ap (λ b. pick b 10 32) (sym w.if-entry.false) ] in
    let tail : c.copy_from_slice.new.self ≡ angle_text e.angle e.last = c.copy_from_slice.ensures.after ∙ ap (λ (x : ℕ). 32 ∷ ((48 + e.angle) ∷ (x ∷ []))) end-is in
    entry_parts e.dart e.word.right e.word.left e.angle e.last (omega (arith, pre.enough, size)) (omega (arith, pre.enough, size, number.ensures.behind, number.auto.out)) (omega (arith, pre.enough, size, number.ensures.behind, number.auto.out)) number.ensures word.ensures (omega (arith, pre.enough, size, number.ensures.behind, number.auto.out, space, word.ensures.behind, word.auto.out)) (part_written tail (omega arith) (omega arith))
