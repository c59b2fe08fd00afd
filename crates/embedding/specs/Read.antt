-- What a plate that was read holds.
use Rattle.std.specs.Prelude.{◌≡◌, Result, IfOk, Bool, false, List, ℕ, ◌+◌, ◌≤◌, ◌<◌, ltb, length, get_or}
use Rattle.finite.specs.Tables.{Table, up_to}
use Rattle.refusals.specs.Numbers.{fault_of}
use Rattle.refusals.specs.declared.Refusal.{Refusal}
use Rattle.embedding.specs.Plates.{pick, Plate, plate, darts, after, face_of, faces_from, faces, plate_fault}
use Rattle.embedding.specs.Pass.{strips_fault, early_fault}
use Rattle.embedding.specs.Steps.{Few}
pub use Rattle.embedding.specs.Meant.{lead, place_of, face_number, face_size, StandFor, held, Accepted}
use Rattle.embedding.specs.declared.Plate.{Plate as Held}
use Rattle.embedding.specs.declared.labels.Labelled.{Labelled}

-- the next darts are those of p
pub record Follows (p : Plate) (n : ℕ) (next : List ℕ) : Type 0 where
  pub many : n ≡ darts p
  pub table : Table 256 (up_to (darts p) (after p)) next

-- the faces whose lowest dart is below d are labelled: each dart's face, the darts met, each face's size, how many faces
pub record Numbered (p : Plate) (d : ℕ) (face : List ℕ) (met : List Bool) (sizes : List ℕ) (count : ℕ) : Type 0 where
  pub counted : count ≡ length (faces_from d 0 p)
  pub met_at : (x : ℕ) → x < darts p → get_or met x false ≡ ltb (lead p x) d
  pub face_table : Table 256 (up_to (darts p) (λ x. pick (ltb (lead p x) d) (length (faces_from (lead p x) 0 p)) 0)) face
  pub size_table : Table 256 (up_to count (λ k. length (face_of p (get_or (faces_from d 0 p) k 0)))) sizes

-- there is a face at most for each dart below d
abbrev pub Fitting : ℕ → Labelled → Type 0
Fitting d s = s.faces ≤ d

-- the labels before dart d, and after it
pub record OneLabelled (n : ℕ) (next : List ℕ) (d : ℕ) (s s' : Labelled) : Type 0 where
  pub numbered : (p : Plate) → Follows p n next → Numbered p d s.face s.met s.sizes s.faces → Numbered p (d + 1) s'.face s'.met s'.sizes s'.faces
  pub fitting : Fitting (d + 1) s'

pub record FacesLabelled (p : Plate) (s : Labelled) : Type 0 where
  pub count : s.faces ≡ length (faces p)
  pub face : Table 256 (up_to (darts p) (face_number p)) s.face
  pub sizes : Table 256 (up_to (length (faces p)) (face_size p)) s.sizes

-- the plate that a plate as held stands for
abbrev pub meant : Held → Plate
meant q = held q.posts q.darts q.ends q.places q.degrees q.outer

-- a plate as held stands for p
abbrev pub Stands : Held → Plate → Type 0
Stands q p = StandFor p q.posts q.darts q.ends q.places q.degrees q.outer q.next q.face q.faces q.sizes

-- a plate as held stands for an accepted one
abbrev pub Standing : Held → Type 0
Standing q = (p : Plate) × Stands q p × Accepted p

-- refusals 7 to 11 not met, and the degrees
pub record Past (n : ℕ) (e degrees : List ℕ) : Type 0 where
  pub early : early_fault n e ≡ 0
  pub strips : (o : List ℕ) (x : ℕ) → strips_fault (plate n e o x) ≡ 0
  pub few : Few n e degrees

-- a list's answer: its refusal, or the plate
pub record Reads (p : Plate) (r : Result Held Refusal) : Type 0 where
  pub number : fault_of r ≡ plate_fault p
  pub plate : IfOk r (λ q. meant q ≡ p)
