-- `texts::parsing::parse`: entry by entry; at the end, or at what is no entry, the answer.
use Rattle.std.proofs.Common.{refl, ap, rules}
use Rattle.texts.specs.Parses.{left_seen}
use Rattle.texts.proofs.FillLaws.{nothing_filled}
use Rattle.texts.proofs.ParseLaws.{parsing_start, no_form, rest_shorter, taken, parsing_more, not_closed, some_word, not_first, some_unread, all_read, form_refused}
use Rattle.texts.proofs.parsing.parse.Goals as goal

pub loop-rest-init : goal.loop-rest-init
loop-rest-init c = parsing_start _ c.args.text.now (nothing_filled _)

pub returns-in_err-entry : goal.returns-in_err-entry
returns-in_err-entry c =
    let none = rw c.in_err-entry.ensures.ok_part at c.read_entry.ensures in
    form_refused (search rules) (no_form c.loop-rest.invariant (search rules) none)

pub loop-rest-smaller : goal.loop-rest-smaller
loop-rest-smaller c =
    let read = rw c.in_ok-entry.ensures.ok_part at c.read_entry.ensures in
    rest_shorter c.loop-rest.invariant (search rules) read

pub loop-rest-preserved : goal.loop-rest-preserved
loop-rest-preserved c =
    let reading = c.loop-rest.invariant in
    let read = rw c.in_ok-entry.ensures.ok_part at c.read_entry.ensures in
    parsing_more reading (search rules) read (taken reading (search rules) read c.take_entry-left.ensures c.requires) c.is_mixed-mixed.ensures refl

pub returns-then-not-closed : goal.returns-then-not-closed
returns-then-not-closed c = not_closed c.loop-rest.invariant (search rules) c.if-not-closed.true

pub returns-then-mixed : goal.returns-then-mixed
returns-then-mixed c = some_word c.loop-rest.invariant (search rules) c.if-not-closed.false c.if-mixed.true

pub returns-in_err-unread : goal.returns-in_err-unread
returns-in_err-unread c = not_first c.loop-rest.invariant (search rules) c.if-not-closed.false c.if-mixed.false (search rules) (ap left_seen c.in_err-unread.ensures.ok_part)

pub returns-then-not-is_empty : goal.returns-then-not-is_empty
returns-then-not-is_empty c = some_unread c.loop-rest.invariant (search rules) c.if-not-closed.false c.if-mixed.false _ (search rules) (ap left_seen c.in_ok-unread.ensures.ok_part)

pub returns : goal.returns
returns c = all_read c.loop-rest.invariant (search rules) c.if-not-closed.false c.if-mixed.false _ (search rules) (ap left_seen c.in_ok-unread.ensures.ok_part)
