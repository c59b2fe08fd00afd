-- Slots by name: each content is that of its tag, and 6 is given where one is absent. Assumes nothing.
use mathlib.Core.Path.{◌≡◌, sym, subst, ap, ◌∙◌}
use mathlib.Core.Bool.{Bool, true, false, not}
use mathlib.Core.List.{List}
use Prim.Native.Nat.{ℕ, ◌<◌}
use Rattle.std.specs.Prelude.{Some, None, Result, Ok, option_map}
use Rattle.std.proofs.lemmas.Result.{IfOk-weaker}
use denote.Bor.{Bor}
use lib.Dec.{lit<}
use lib.ListN.{get_or}
use Rattle.finite.specs.Base.{when}
use Rattle.refusals.specs.declared.Refusal.{Refusal}
use Rattle.fields.specs.Files.{Field, content_of, walk_by, walk_all, old_walk}
use Rattle.fields.specs.Rules.{tag_at, all_met}
use Rattle.fields.specs.Says.{Placed, SlotsOf, FieldsMet, HoldsBy, ListNamed, ShapeNamed, ListThere, ShapeThere, AllThere, ListFieldsOf, ShapeFieldsOf, ListWalked, ShapeWalked}
use Rattle.fields.specs.declared.Slots.{Slots}
use Rattle.fields.specs.declared.ListFields.{ListFields}
use Rattle.fields.specs.declared.ShapeFields.{ShapeFields}
use Rattle.fields.proofs.Added.{content_by}
use Rattle.fields.proofs.Walked.{all_of}

module _ {k : Bool} {fs : List Field} {f : Slots} (h : SlotsOf k fs f) where
  -- the content of a slot that is not empty
  pub content_is : (i : ℕ) → i < 8 → (c : Bor (List ℕ)) → Some c ≡ get_or f.slots i None → c.now ≡ content_of (tag_at k i) fs
  content_is i l c e =
      let o : Some c.now ≡ option_map (λ c. c.now) (get_or f.slots i None) = ap (option_map (λ c. c.now)) e in
      content_by (tag_at k i) fs (o ∙ h.slot i l)

  -- and the places
  placed_is : (at : List ℕ) → at ≡ f.at → Placed k fs at
  placed_is at e i l = ap (λ (x : List ℕ). get_or x i 0) e ∙ h.place i l

list_named : {fs : List Field} {f : Slots} → SlotsOf false fs f → (g : ListFields) → ListNamed f g → ListFieldsOf fs g
list_named h g n =
    record {
      revision = content_is h 0 (lit< tt) g.revision n.revision;
      posts = content_is h 1 (lit< tt) g.posts n.posts;
      ends = content_is h 2 (lit< tt) g.ends n.ends;
      order = content_is h 3 (lit< tt) g.order n.order;
      outer = content_is h 4 (lit< tt) g.outer n.outer;
      remark = ap (option_map (λ c. c.now)) n.remark ∙ h.slot 5 (lit< tt);
      limits = ap (option_map (λ c. c.now)) n.limits ∙ h.slot 6 (lit< tt);
      prices = ap (option_map (λ c. c.now)) n.prices ∙ h.slot 7 (lit< tt);
      place = placed_is h g.at n.place;
    }

shape_named : {fs : List Field} {f : Slots} → SlotsOf true fs f → (g : ShapeFields) → ShapeNamed f g → ShapeFieldsOf fs g
shape_named h g n =
    record {
      revision = content_is h 0 (lit< tt) g.revision n.revision;
      total = content_is h 1 (lit< tt) g.total n.total;
      angles = content_is h 2 (lit< tt) g.angles n.angles;
      rights = content_is h 3 (lit< tt) g.rights n.rights;
      remark = ap (option_map (λ c. c.now)) n.remark ∙ h.slot 4 (lit< tt);
      sum = ap (option_map (λ c. c.now)) n.sum ∙ h.slot 5 (lit< tt);
      place = placed_is h g.at n.place;
    }

-- slots that the walk met, with 6 where one is absent: the walk's answer
module _ (o k : Bool) (s : List ℕ) (f : Slots) (m : FieldsMet o k s (Ok f)) where
  number_met : when (not (all_met k f.slots)) 6 ≡ (walk_by o k s).number
  number_met = ap (λ (b : Bool). when (not b) 6) (all_of k (walk_by o k s).fields f m.1) ∙ sym m.0

pub list_walked : (s : List ℕ) (f : Slots) (r : Result ListFields Refusal) → FieldsMet true false s (Ok f) → ListThere f r → ListWalked s r
list_walked s f r m t = record { number = t.number ∙ number_met true false s f m; fields = IfOk-weaker r (ListNamed f) (ListFieldsOf (walk_all false s).fields) (list_named m.1) t.fields }

pub shape_walked : (s : List ℕ) (f : Slots) (r : Result ShapeFields Refusal) → FieldsMet true true s (Ok f) → ShapeThere f r → ShapeWalked s r
shape_walked s f r m t = record { number = t.number ∙ number_met true true s f m; fields = IfOk-weaker r (ShapeNamed f) (ShapeFieldsOf (walk_all true s).fields) (shape_named m.1) t.fields }

pub older_walked : (k : Bool) (s : List ℕ) (f : Slots) (r : Result Slots Refusal) → FieldsMet false k s (Ok f) → AllThere k f r → HoldsBy false k s r
older_walked k s f r m t =
    record {
      number = t.number ∙ number_met false k s f m;
      slots = IfOk-weaker r (λ g. g ≡ f) (SlotsOf k (old_walk k s).fields) (λ g e. subst (SlotsOf k (old_walk k s).fields) (sym e) m.1) t.same;
    }
