-- The last entry of the model lists the first of its revisions.
use Rattle.std.proofs.Common.{rules, ◌≡◌, ◌∙◌, ap}
use Rattle.std.specs.Prelude.{Option}
use Rattle.std.specs.Option.{option_map}
use Rattle.book.specs.declared.Entry.{Entry}
use Rattle.book.specs.Entries.{entries_in}
use Rattle.book.proofs.Scans.{latest_found}
use Rattle.book.proofs.latest_of.Goals as goal

pub returns : goal.returns
returns c =
    let told : c.map.result ≡ option_map (λ (e : Entry). e.revision) c.last_of.result = search rules in
    told ∙ ap (λ (o : Option Entry). option_map (λ (e : Entry). e.revision) o) c.last_of.ensures ∙ latest_found c.args.model (entries_in c.args.before.now)
