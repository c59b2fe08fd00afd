-- `texts::scanning::read_entry`: no angle, and so no entry.
use Rattle.std.proofs.Common.{◌≡◌, sym, subst}
use Rattle.std.specs.Option.{option_map}
use Rattle.texts.specs.Parses.{entry_read}
use Rattle.texts.proofs.ScanLaws.{no_angle}
use Rattle.texts.proofs.scanning.read_entry.Goals as goal

pub returns-in_err-angle : goal.returns-in_err-angle
returns-in_err-angle c =
    let none = no_angle c.args.s.now c.in_ok-dart.ensures c.in_ok-word.ensures c.in_err-angle.ensures in
    subst (λ r. entry_read c.args.s.now ≡ option_map (λ x. (x.0, x.1.now)) r) (sym c.from_residual-in_err-angle.ensures) none
