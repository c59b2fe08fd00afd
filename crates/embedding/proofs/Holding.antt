-- The lists of a plate as held, and those of the plate after each step, as the journal's code makes them.
use mathlib.Core.Path.{◌≡◌, refl, sym, ap, ap₂, subst, ◌∙◌}
use mathlib.Core.Bool.{true}
use mathlib.Core.List.{List, [], ◌∷◌, ◌++◌}
use Prim.Native.Nat.{ℕ, zero, suc, ◌*◌, ◌≤◌, ◌<◌}
use native.Mathlib.Omega.{arith}
use borrow.Author.Tests.{ne_eqb, le-ltb}
use lib.ListN.{length, get_or, take, set, length-set, length-append}
use lib.Seq.{ext_get_or, get_or-take, length-take-le}
use Rattle.embedding.specs.Plates.{is_in, Plate, plate, darts, twin, ends_at, degree, part_of, distinct}
use Rattle.embedding.specs.Steps.{Few}
use Rattle.embedding.specs.Meant.{StandFor, held, row_in, Accepted}
use Rattle.embedding.specs.Read.{meant, Standing}
use Rattle.embedding.specs.declared.Plate.{Plate as Held}
use Rattle.embedding.specs.Edits.{laid, put_before, renamed, split, hang, join}
use Rattle.embedding.specs.Arrays.{Front, Appended, Listed}
use Rattle.embedding.proofs.Rotation.{Ordered, twin_dart, own_part, leaves_below}
use Rattle.embedding.proofs.Faultless.{Faultless, faultless}
use Rattle.embedding.proofs.Answers.{faces_fit}
use Rattle.embedding.proofs.Degrees.{most_over, degree_most, darts_few}
use Rattle.embedding.proofs.Counting.{few_at, few_most}
use Rattle.embedding.proofs.Whole.{PastOrder, part_held}
use Rattle.embedding.proofs.Placing.{put_is_in, put_long, renamed_long}
use Rattle.embedding.proofs.Flat.{order_laid, order_once, one_part, laid_in_lem, laid_put, laid_renamed}
use Rattle.embedding.proofs.Fronted.{front_same, front_take, front_set}
use Rattle.embedding.proofs.Editing.{accepted_ordered}

laid_cong : (n : ℕ) (f g : ℕ → List ℕ) → ((v : ℕ) → v < n → f v ≡ g v) → laid n f ≡ laid n g
laid_cong zero f g h = refl
laid_cong (suc n) f g h = ap₂ (λ (a b : List ℕ). a ++ b) (laid_cong n f g (λ v l. h v (omega arith))) (h n (omega arith))

past_order : (p : Plate) → Faultless p → {degrees : List ℕ} → Few p.posts p.ends degrees → PastOrder p degrees
past_order p f w =
    record {
      past = record {
        early = rw (ne_eqb p.posts 0 f.some_post, le-ltb 64 p.posts f.posts_most, ne_eqb (darts p) 0 f.some_dart);
        strips = λ o x. rw (f.ends_below, most_over (plate p.posts p.ends o x) p.posts w.most);
        few = w;
      };
      long = f.all_ordered;
      parts = sym f.parts-ok;
    }

-- fields that stand for a plate without fault
module _ {p : Plate} {posts count : ℕ} {ends places degrees : List ℕ} {outer : ℕ} {next face : List ℕ} {face_total : ℕ} {sizes : List ℕ} (s : StandFor p posts count ends places degrees outer next face face_total sizes) (a : Accepted p) where
  o : Ordered p
  o = accepted_ordered p a

  f : Faultless p
  f = faultless p a.no_fault

  pub held_posts : posts ≤ 64
  held_posts = omega (arith, s.same_posts, f.posts_most)

  pub held_darts : count ≤ 256
  held_darts = omega (arith, s.dart_count, darts_few p f o)

  pub held_faces : face_total ≤ 66
  held_faces = omega (arith, s.face_count, faces_fit p f o)

  few : Few p.posts p.ends degrees
  few = record { table = s.post_degrees; most = degree_most p f }

  pub held_degrees : (v : ℕ) → get_or degrees v 0 ≤ 4
  held_degrees = few_most f.posts_most few

  pub held_degree : (v : ℕ) → v < p.posts → get_or degrees v 0 ≡ degree p v
  held_degree = few_at f.posts_most few

  pub held_order : laid posts (row_in places degrees) ≡ p.order
  held_order =
      ap (λ (n : ℕ). laid n (row_in places degrees)) s.same_posts
      ∙ laid_cong p.posts (row_in places degrees) (part_of p) (part_held (past_order p f few) a.even_darts (darts_few p f o) s.four_places)
      ∙ order_laid p o

  pub held_ends : Front p.ends ends
  held_ends =
      record {
        size = s.strip_ends.size;
        front = ext_get_or 0 (take (darts p) ends) p.ends long
            (λ i k. get_or-take (darts p) ends i 0 (omega (arith, long)) ∙ s.strip_ends.at i (omega (arith, long, darts_few p f o)));
      }
    where
      long : length (take (darts p) ends) ≡ darts p
      long = length-take-le (darts p) ends (omega (arith, s.strip_ends.size, darts_few p f o))

  pub held_end : (i : ℕ) → i < count → get_or ends i 0 ≡ get_or p.ends i 0
  held_end i k = s.strip_ends.at i (omega (arith, held_darts))

  order_long : length p.order ≡ count
  order_long = f.all_ordered ∙ sym s.dart_count

  -- the plate that they stand for is this one
  pub stands-meant : held posts count ends places degrees outer ≡ p
  unfolding held
  stands-meant = λ i. record { posts = s.same_posts i; ends = front_take held_ends (sym s.dart_count) i; order = held_order i; outer = s.outer_dart i }

  pub held_stands : StandFor (held posts count ends places degrees outer) posts count ends places degrees outer next face face_total sizes
  held_stands = subst (λ (r : Plate). StandFor r posts count ends places degrees outer next face face_total sizes) (sym stands-meant) s

  pub held_accepted : Accepted (held posts count ends places degrees outer)
  held_accepted = subst Accepted (sym stands-meant) a

  -- split
  module _ (t : ℕ) (l : suc (2 * t) < count) where
    split_order : (split p t).order ≡ renamed (suc (2 * t)) (suc (darts p)) p.order ++ (suc (2 * t) ∷ (darts p ∷ []))
    split_order =
        ap (λ (r : List ℕ). r ++ (suc (2 * t) ∷ (darts p ∷ [])))
        (laid_renamed (part_of p) (suc (2 * t)) (suc (darts p)) p.posts ∙ ap (renamed (suc (2 * t)) (suc (darts p))) (order_laid p o))

    pub split_listed : (back next last end n : ℕ) {order ren new_order new-ends : List ℕ} → back ≡ suc (2 * t) → next ≡ suc (darts p) → last ≡ suc (suc (darts p)) → end ≡ get_or ends back 0 → n ≡ p.posts
        → Front p.order order
        → ((m : List ℕ) → Front m order → length m ≡ count → distinct m ≡ true → Front (renamed back next m) ren)
        → Appended count (back ∷ (count ∷ [])) ren new_order
        → Appended count (n ∷ (end ∷ [])) (set ends back n) new-ends
        → Listed (split p t) last new-ends new_order
    split_listed back next last end n {order} {ren} {new_order} {new-ends} eb en el ee ep front c2 c3 c4 =
        record {
          ends_front = front_same (ap₂ (λ (x y : List ℕ). x ++ y) (ap₂ (λ (i v : ℕ). set p.ends i v) eb ep) (ap₂ (λ (x y : ℕ). x ∷ (y ∷ [])) ep end_is)) ends_now;
          ends_long = omega (arith, length-append (set p.ends (suc (2 * t)) p.posts) (p.posts ∷ (get_or p.ends (suc (2 * t)) 0 ∷ [])), length-set p.ends (suc (2 * t)) p.posts);
          order_front = front_same (ap₂ (λ (x y : List ℕ). x ++ y) (ap₂ (λ (x y : ℕ). renamed x y p.order) eb en) (ap₂ (λ (x y : ℕ). x ∷ (y ∷ [])) eb s.dart_count) ∙ sym split_order) order_now;
          order_long = omega (arith, ap (length {A = ℕ}) split_order, length-append (renamed (suc (2 * t)) (suc (darts p)) p.order) (suc (2 * t) ∷ (darts p ∷ [])), renamed_long (suc (2 * t)) (suc (darts p)) p.order, f.all_ordered);
        }
      where
        end_is : end ≡ get_or p.ends (suc (2 * t)) 0
        end_is = ee ∙ ap (λ (i : ℕ). get_or ends i 0) eb ∙ held_end (suc (2 * t)) l

        ends_now : Front (set p.ends back n ++ (n ∷ (end ∷ []))) new-ends
        ends_now = c4 (set p.ends back n) (front_set back n held_ends (omega (arith, s.dart_count))) (omega (arith, length-set p.ends back n, s.dart_count))

        order_now : Front (renamed back next p.order ++ (back ∷ (count ∷ []))) new_order
        order_now = c3 (renamed back next p.order) (c2 p.order front order_long (order_once p o)) (renamed_long back next p.order ∙ order_long)

  -- the twin of a dart stands in the order
  in_order : (d : ℕ) → d < darts p → is_in (twin d) p.order ≡ true
  in_order d k =
      subst (λ (r : List ℕ). is_in (twin d) r ≡ true) (order_laid p o)
      (laid_in_lem (part_of p) p.posts (twin d) (ends_at p d) (leaves_below p o (twin d) (twin_dart p o d k)) (own_part p o (twin d) (twin_dart p o d k)))

  -- hang
  module _ (d : ℕ) (l : d < count) where
    dl : d < darts p
    dl = omega (arith, s.dart_count)

    hang_order : (hang p d).order ≡ put_before (twin d) (darts p) p.order ++ (suc (darts p) ∷ [])
    hang_order =
        ap (λ (r : List ℕ). r ++ (suc (darts p) ∷ []))
        (laid_put (part_of p) (twin d) (darts p) p.posts (one_part p o (twin d)) ∙ ap (put_before (twin d) (darts p)) (order_laid p o))

    put_now : length (put_before (twin d) (darts p) p.order) ≡ suc (darts p)
    put_now = put_long (twin d) (darts p) p.order (in_order d dl) ∙ ap suc f.all_ordered

    pub hang_listed : (t v next last n : ℕ) {order with new_order new-ends : List ℕ} → t ≡ twin d → v ≡ get_or ends t 0 → next ≡ suc (darts p) → last ≡ suc (suc (darts p)) → n ≡ p.posts
        → Front p.order order
        → Front (put_before t count (take count order)) with
        → Appended next (next ∷ []) with new_order
        → Appended count (v ∷ (n ∷ [])) ends new-ends
        → Listed (hang p d) last new-ends new_order
    hang_listed t v next last n {order} {with} {new_order} {new-ends} et ev en el ep front c2 c3 c4 =
        record {
          ends_front = front_same (ap₂ (λ (x y : ℕ). p.ends ++ (x ∷ (y ∷ []))) end_is ep) (c4 p.ends held_ends (sym s.dart_count));
          ends_long = omega (arith, length-append p.ends (ends_at p d ∷ (p.posts ∷ [])));
          order_front = front_same (ap (λ (x : ℕ). put_before (twin d) (darts p) p.order ++ (x ∷ [])) en ∙ sym hang_order) (c3 (put_before (twin d) (darts p) p.order) put_front (put_now ∙ sym en));
          order_long = omega (arith, ap (length {A = ℕ}) hang_order, length-append (put_before (twin d) (darts p) p.order) (suc (darts p) ∷ []), put_now);
        }
      where
        end_is : v ≡ ends_at p d
        end_is = ev ∙ ap (λ (i : ℕ). get_or ends i 0) et ∙ held_end (twin d) (omega (arith, twin_dart p o d dl, s.dart_count))

        put_front : Front (put_before (twin d) (darts p) p.order) with
        put_front =
            front_same (ap₂ (λ (x y : ℕ). put_before x y (take count order)) et s.dart_count ∙ ap (put_before (twin d) (darts p)) (front_take front order_long)) c2

  -- join
  module _ (d e : ℕ) (l : d < count) (k : e < count) where
    jd : d < darts p
    jd = omega (arith, s.dart_count)

    je : e < darts p
    je = omega (arith, s.dart_count)

    abbrev half_order : List ℕ
    half_order = put_before (twin e) (suc (darts p)) p.order

    t_not : twin d ≡ suc (darts p) → ⊥
    t_not z = omega (arith, twin_dart p o d jd)

    join_order : (join p d e).order ≡ put_before (twin d) (darts p) half_order
    join_order =
        laid_put (λ v. put_before (twin e) (suc (darts p)) (part_of p v)) (twin d) (darts p) p.posts
        (λ u v i j m n. one_part p o (twin d) u v i j (sym (put_is_in (twin e) (suc (darts p)) (part_of p u) (twin d) t_not) ∙ m) (sym (put_is_in (twin e) (suc (darts p)) (part_of p v) (twin d) t_not) ∙ n))
        ∙ ap (put_before (twin d) (darts p)) (laid_put (part_of p) (twin e) (suc (darts p)) p.posts (one_part p o (twin e)) ∙ ap (put_before (twin e) (suc (darts p))) (order_laid p o))

    half_long : length half_order ≡ suc (darts p)
    half_long = put_long (twin e) (suc (darts p)) p.order (in_order e je) ∙ ap suc f.all_ordered

    whole_long : length (put_before (twin d) (darts p) half_order) ≡ suc (suc (darts p))
    whole_long = put_long (twin d) (darts p) half_order (put_is_in (twin e) (suc (darts p)) p.order (twin d) t_not ∙ in_order d jd) ∙ ap suc half_long

    pub join_listed : (t u next last : ℕ) {order half new_order new-ends : List ℕ} → t ≡ twin d → u ≡ twin e → next ≡ suc (darts p) → last ≡ suc (suc (darts p))
        → Front p.order order
        → Front (put_before u next (take count order)) half
        → Front (put_before t count (take next half)) new_order
        → Appended count (get_or ends t 0 ∷ (get_or ends u 0 ∷ [])) ends new-ends
        → Listed (join p d e) last new-ends new_order
    join_listed t u next last {order} {half} {new_order} {new-ends} et eu en el front c2 c3 c4 =
        record {
          ends_front = front_same (ap₂ (λ (x y : ℕ). p.ends ++ (x ∷ (y ∷ []))) (end_is t d et jd) (end_is u e eu je)) (c4 p.ends held_ends (sym s.dart_count));
          ends_long = omega (arith, length-append p.ends (ends_at p d ∷ (ends_at p e ∷ [])));
          order_front = front_same (ap₂ (λ (x y : ℕ). put_before x y (take next half)) et s.dart_count ∙ ap (put_before (twin d) (darts p)) (front_take half_front (half_long ∙ sym en)) ∙ sym join_order) c3;
          order_long = ap (length {A = ℕ}) join_order ∙ whole_long ∙ sym el;
        }
      where
        end_is : (t d : ℕ) → t ≡ twin d → d < darts p → get_or ends t 0 ≡ ends_at p d
        end_is t d z m = ap (λ (i : ℕ). get_or ends i 0) z ∙ held_end (twin d) (omega (arith, twin_dart p o d m, s.dart_count))

        half_front : Front half_order half
        half_front =
            front_same (ap₂ (λ (x y : ℕ). put_before x y (take count order)) eu en ∙ ap (put_before (twin e) (suc (darts p))) (front_take front order_long)) c2

-- every plate as held stands for an accepted one
pub standing : (q : Held) → Standing q
standing q = (meant q, q.stands, q.accepted)
