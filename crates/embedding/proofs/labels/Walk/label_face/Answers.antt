-- `label_face` meets its contract: the walk from dart d closes, and each of its darts is labelled.
use mathlib.Core.Path.{sym, ◌∙◌}
use Rattle.embedding.proofs.Labelling.{labelling_start, labelling_done, labelling_more}
use Rattle.embedding.proofs.labels.Walk.label_face.Goals as goal

pub loop-at-init : goal.loop-at-init
loop-at-init c =
    let w = c.args.self.now in
    labelling_start w.one c.requires.0 w.few c.requires.1 c.requires.2

pub returns-then-at-d : goal.returns-then-at-d
returns-then-at-d c =
    let w = c.args.self.now in
    labelling_done w.one c.requires.0 w.few c.loop-at.invariant (sym c.from-at.ensures ∙ c.if-at-d.true)

pub loop-at-preserved : goal.loop-at-preserved
loop-at-preserved c =
    let w = c.args.self.now in
    labelling_more w.one c.requires.0 w.few c.loop-at.invariant (λ e. c.if-at-d.false (c.from-at.ensures ∙ e)) c.from-at.ensures
