-- `texts::counting::print_counts`: the length first, then the text.
use Rattle.std.proofs.Common.{sym, subst, arith, length}
use Rattle.embedding.specs.Read.{meant}
use Rattle.fields.specs.Writing.{Written}
use Rattle.plates.specs.Text.{text_of}
use Rattle.plates.proofs.ListingRows.{gives_short}
use Rattle.texts.specs.Plan.{laid}
use Rattle.texts.specs.Prints.{count_entries, PrintRoom}
use Rattle.texts.proofs.FaceLeads.{rights_many}
use Rattle.texts.proofs.CountText.{counted_long, print_room, printed}
use Rattle.texts.proofs.counting.print_counts.Goals as goal

pub returns-then-out-long : goal.returns-then-out-long
returns-then-out-long c =
    let q = c.args.plate in
    let k = c.args.counts in
    let many = rights_many q k.counted c.requires.many in
    gives_short _ c.args.out.now (omega (arith, c.if-out-long.true, c.text_long-long.ensures, counted_long (meant q) q.accepted k.angles.now k.rights.now many c.requires.straight.one_way))

pub write_entries-requires : goal.write_entries-requires
write_entries-requires c =
    let q = c.args.plate in
    let k = c.args.counts in
    let many = rights_many q k.counted c.requires.many in
    subst (λ ts. PrintRoom ts k.angles.now k.rights.now (length c.args.out.now)) (sym c.turns.ensures)
    (print_room (meant q) q.accepted k.angles.now k.rights.now many c.requires.straight.one_way _ c.plan_of-plan.ensures _ c.requires.straight (omega (arith, c.if-out-long.false, c.text_long-long.ensures)))

pub returns : goal.returns
returns c =
    let q = c.args.plate in
    let k = c.args.counts in
    let a = k.angles.now in
    let r = k.rights.now in
    let many = rights_many q k.counted c.requires.many in
    let long = c.text_long-long in
    let written = subst (λ ts. Written 0 (text_of (count_entries a r (laid ts))) c.args.out.now c.write_entries.new.out c.write_entries.result) c.turns.ensures c.write_entries.ensures in
    printed (meant q) q.accepted a r many c.requires.straight.one_way _ c.plan_of-plan.ensures long.ensures c.args.out.now (omega (arith, c.if-out-long.false, long.ensures)) written
