-- What private calls of a run rest on, and what they leave.
use Rattle.std.specs.Prelude.{◌≡◌, ℕ, ◌<◌, Bool, true, false, List, ◌∷◌, length, Option}
use Rattle.ports_core.specs.{
  Slot.{Slot, is_open},
  Inputs.{CameFrom, OfContent},
  Source.{Content, Source},
  declared.fault.Fault.Fault,
}
use Rattle.tee_core.specs.{
  Run.{ComesIn, Copied, TeeRun, is_done, standings_of, tee_run},
  TeeState.TeeState,
  declared.run.Job.Job,
}

-- the run that a job asks for
abbrev pub run_for : Bool → Job → TeeRun
run_for visible job = tee_run visible job.calling job.mode job.on_broken job.names.now

-- both streams are there, and standard error is open
pub record HasStreams (slots : List Slot) (count : ℕ) : Type 0 where
  pub output : Slot
  pub error : Slot
  pub files : List Slot
  pub are : slots ≡ output ∷ error ∷ files
  pub opened : is_open error.state ≡ true
  pub files_are : length files ≡ count

-- a tee in a run, with the files of these names; nothing else was opened
pub record IsTeeOf (names : List (List ℕ)) (tee : TeeState) : Type 0 where
  pub live : tee.is_over ≡ false
  pub count : tee.count ≡ length names
  pub first : 0 < tee.count → tee.first ≡ 2

-- an input was read, and all that came was copied
pub record CopiesRead (run : TeeRun) (visible_in : Bool) (content : Content) (source : Source) (slots : List Slot)
    (fault : Option Fault) : Type 0 where
  pub pieces : List (List ℕ)
  pub read : ComesIn visible_in content source (is_done run.on_broken (standings_of slots)) pieces fault
  pub copied : Copied run pieces slots

-- the same of an input that had this source before and has this source after, as far as that is visible
abbrev pub CopiesOver : TeeRun → (visible_in : Bool) → (before after : Source) → List Slot → Option Fault → Type 0
CopiesOver run visible_in before after slots fault = OfContent visible_in before.left
    (λ content. CopiesRead run visible_in content after slots fault × CameFrom visible_in content after)
