-- The number of each refusal, as documents 01 and 02 give it, and the number that an answer stands for.
use Rattle.std.specs.Prelude.{ℕ, Result, Ok, Err}
use Rattle.refusals.specs.declared.Refusal.{Refusal}
use Rattle.refusals.specs.declared.Refusal.TheVariants.{FieldCut, UnknownTag, RepeatedTag, FieldLength, ContentCut, FieldAbsent, PostCount, NoStrips, EndNotAPost, OverFourPlaces, ClockwiseOrder, OuterDart, NotConnected, NotPlane, MemoryShort, ShapeLength, RevisionDiffers, AngleRange, AnglesAtPost, TurnsOfFace, TotalDiffers, LimitsLength, NoShapeWithin, LimitPassed, TagOrder, TextForm, MixedWord, TextFaces, NoSuchStep, PlateFull, PostFull, PricesWrong, SumWrong, EntryCut, RevisionListed, NotCurrent}

-- 10 is not used, nor is a number that the documents give to none
abbrev pub number_of : Refusal → ℕ
number_of FieldCut = 1
number_of UnknownTag = 2
number_of RepeatedTag = 3
number_of FieldLength = 4
number_of ContentCut = 5
number_of FieldAbsent = 6
number_of PostCount = 7
number_of NoStrips = 8
number_of EndNotAPost = 9
number_of OverFourPlaces = 11
number_of ClockwiseOrder = 12
number_of OuterDart = 13
number_of NotConnected = 14
number_of NotPlane = 15
number_of MemoryShort = 16
number_of ShapeLength = 17
number_of RevisionDiffers = 18
number_of AngleRange = 19
number_of AnglesAtPost = 20
number_of TurnsOfFace = 21
number_of TotalDiffers = 22
number_of LimitsLength = 23
number_of NoShapeWithin = 24
number_of LimitPassed = 25
number_of TagOrder = 29
number_of TextForm = 30
number_of MixedWord = 31
number_of TextFaces = 32
number_of NoSuchStep = 35
number_of PlateFull = 36
number_of PostFull = 37
number_of PricesWrong = 38
number_of SumWrong = 39
number_of EntryCut = 40
number_of RevisionListed = 41
number_of NotCurrent = 42

-- the number of an answer: 0 where nothing is refused
abbrev pub fault_of : {A : Type 0} → Result A Refusal → ℕ
fault_of (Ok x) = 0
fault_of (Err r) = number_of r
