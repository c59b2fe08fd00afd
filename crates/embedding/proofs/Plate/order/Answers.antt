-- `order`: the orders of the posts before v are laid out.
use mathlib.Core.Path.{◌≡◌, refl, ap, ◌∙◌}
use Prim.Native.Nat.{ℕ}
use Rattle.embedding.specs.Edits.{laid}
use Rattle.embedding.specs.Meant.{row_in}
use Rattle.embedding.proofs.Fronted.{front_same, laying_more}
use Rattle.embedding.proofs.Holding.{held_posts, held_degrees, held_order}
use native.Mathlib.Omega.{arith}
use Rattle.embedding.proofs.Plate.order.Goals as goal

pub slice_bounds-append-end : goal.slice_bounds-append-end
slice_bounds-append-end c =
    let q = c.args.self in
    omega (arith, q.stands.four_places.size, held_posts q.stands q.accepted, held_degrees q.stands q.accepted c.loop-v.v, c.from-degree.ensures, c.loop-v-test.true)

pub loop-v-preserved : goal.loop-v-preserved
loop-v-preserved c =
    let q = c.args.self in
    let loop = c.loop-v in
    laying_more loop.invariant (held_degrees q.stands q.accepted loop.v) q.stands.four_places.size (omega (arith, held_posts q.stands q.accepted)) c.from-degree.result _ _ c.from-degree.ensures refl refl c.append-more.ensures

pub returns : goal.returns
returns c =
    let q = c.args.self in
    let loop = c.loop-v in
    let all : loop.v ≡ q.posts = omega arith in
    front_same (ap (λ (n : ℕ). laid n (row_in q.places q.degrees)) all ∙ held_order q.stands q.accepted) loop.invariant.done
