-- A session that serves a job, and what it has served.
use Rattle.std.specs.Prelude.{◌≡◌, ℕ, List, ◌++◌, All, Contains, flat_map}
use Rattle.scan_caches.specs.Bounded.{Bounded, keyed_state}
use Rattle.scan_lookup.specs.Session.{SessionData}
use Rattle.scan_places.specs.declared.place.Place.{Place}
use Rattle.scan_multi.specs.Lawful.{IsLawful}
use Rattle.scan_opener.specs.declared.opener.MemoryOpener.{MemoryOpener}
use Rattle.scan_run.specs.FileOf.{AreFilesOf, memory_opener}
use Rattle.scan_segments.specs.MemorySource.{source_state}
use Rattle.scan_segments.specs.declared.memory_source.MemorySource.{MemorySource}
use Rattle.scan_lookup_run.specs.Replied.{IsAnswered, lookup_lines, projected}
use Rattle.scan_lookup_run.specs.Runs.{IsBound, IsEnd}
use Rattle.scan_lookup_run.specs.declared.reading.Job.{Job}

abbrev pub Session : Type 0
Session = SessionData MemoryOpener MemorySource Bounded

-- it looks the job's projection up, which binds, in the job's files
pub record Serves (j : Job) (s : Session) : Type 0 where
  pub bound : IsBound j
  pub projection : s.projection ≡ projected j
  pub files : AreFilesOf j.files s.files
  pub lawful : IsLawful memory_opener source_state s.files (keyed_state s.cache)

-- the places of a look-up are answered, and their lines stand behind what stood there
pub record HasServed (j : Job) (ps : List Place) (s : Session) (old new : List ℕ) : Type 0 where
  pub serves : Serves j s
  pub answered : All (IsAnswered j) ps
  pub lines : new ≡ old ++ lookup_lines j ps

-- so of each look-up of a job
pub record HasServedAll (j : Job) (old new : List ℕ) : Type 0 where
  pub answered : All (All (IsAnswered j)) j.lookups
  pub lines : new ≡ old ++ flat_map (lookup_lines j) j.lookups

-- a look-up that is refused ends the run, with what its status says
abbrev pub EndsBy : List Place → Session → ℕ → Type 0
EndsBy ps s status = (j : Job) → Serves j s → Contains j.lookups ps → IsEnd j status
