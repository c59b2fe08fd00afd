-- `before_in` meets its contract: what is left answers for the whole.
use mathlib.Core.Path.{◌≡◌, sym, ap, ◌∙◌}
use Prim.Native.Nat.{ℕ, ◌-◌}
use lib.ListN.{length, get_or}
use Rattle.std.proofs.Common.{rules}
use Rattle.embedding.specs.Plates.{just_before}
use Rattle.embedding.proofs.Words.{last_is}
use Rattle.embedding.proofs.order.before_in.Goals as goal

pub loop-here-init : goal.loop-here-init
loop-here-init c =
    let args = c.args in
    let told : c.unwrap_or-prev.result ≡ get_or args.s.now (length args.s.now - 1) 0 = search rules in
    ap (λ (q : ℕ). just_before args.x q args.s.now) (told ∙ sym (last_is args.s.now))
