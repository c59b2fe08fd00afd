-- Books of entries, as the crates finite and book define them: refusals 40 to 42, the current revision of a model, what the call answers, and document 02's sentences.
pub use Rattle.finite.specs.Base.{word_at}
pub use Rattle.book.specs.declared.Entry.{Entry}
pub use Rattle.book.specs.Entries.{entry_at, entries, has_model, of_model, listed_of, replaced_of, first_not_in, current, entry_fault, fault_at, entries_fault, whole, entries_of, book_fault}
pub use Rattle.book.specs.Says.{answer_of, numbered, revisions_of, AnswerIs, revision_of, RevisionIs, IsCurrent, OneCurrent, FirstBad, LastCut, Books}
