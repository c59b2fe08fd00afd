-- Document 02's sentences on texts, together. Assumes nothing.
use mathlib.Core.Bool.{true}
use Rattle.finite.proofs.Tests.{first_none}
use Rattle.shapes.proofs.Accepted.{ordered}
use Rattle.plates.specs.Files.{walk_all, list_fault, plate_of}
use Rattle.plates.specs.Says.{angles_in, rights_in}
use Rattle.plates.specs.Texts.{FaceLists}
use Rattle.plates.proofs.Lists.{list_accepted}
use Rattle.plates.proofs.Sound.{sound_exactly}
use Rattle.texts.proofs.Grammar.{exact}
use Rattle.texts.proofs.Around.{by_faces}
use Rattle.texts.proofs.TextBack.{outer_below}
use Rattle.texts.proofs.CountText.{mixed_words}
use Rattle.texts.proofs.RoundTrips.{round_trips, text_short}
use Rattle.texts.proofs.Called.{called}

pub face_lists : FaceLists
face_lists = record {
  form = exact;
  by_faces = λ s e. let a = list_accepted s e in by_faces (plate_of s) (ordered (plate_of s) a) (outer_below (plate_of s) a);
  mixed_words = λ s t e.
      let none = (first_none (list_fault s) _ e).0 in
      let walked = (first_none (walk_all true t).number _ (first_none (list_fault s) _ e).1).0 in
      mixed_words (plate_of s) (list_accepted s none) (angles_in t) (rights_in t) ((sound_exactly s t none walked).0 e).0;
  round_trips = round_trips;
  called = called;
  short = text_short;
}
