-- The answer of a book whose entries are its bytes six at a time.
use Rattle.std.proofs.Common.{rules, ◌≡◌, Err}
use Rattle.book.proofs.Answers.{answer_bad, answer_cut, answer_found}
use Rattle.book.proofs.current_revision.Goals as goal

pub returns-in_err-check_entries : goal.returns-in_err-check_entries
returns-in_err-check_entries c =
    let refusal = c.in_err-check_entries.field-0.0 in
    let told : c.from_residual.result ≡ Err refusal = search rules in
    answer_bad c.args.book.now c.args.model c.as_chunks.ensures.front refusal told c.in_err-check_entries.ensures

pub returns-then-not-is_empty : goal.returns-then-not-is_empty
returns-then-not-is_empty c = answer_cut c.args.book.now c.args.model c.as_chunks.ensures.front c.in_ok-check_entries.ensures c.as_chunks.ensures.back_len c.if-not-is_empty.ensures

pub returns : goal.returns
returns c = answer_found c.args.book.now c.args.model c.as_chunks.ensures.front c.in_ok-check_entries.ensures c.as_chunks.ensures.back_len c.if-not-is_empty.ensures c.latest_of.ensures
