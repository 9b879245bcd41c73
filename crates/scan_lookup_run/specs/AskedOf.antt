-- What a job asks of its files.
use Rattle.std.specs.Prelude.{◌≡◌}
use Rattle.scan_lookup_run.specs.declared.program.Asked.{Asked}
use Rattle.scan_lookup_run.specs.declared.reading.Job.{Job}

-- the dtype, the projection and the look-ups of a job
pub record IsAsked (j : Job) (a : Asked) : Type 0 where
  pub dtype : j.dtype ≡ a.dtype
  pub projection : j.projection ≡ a.projection
  pub lookups : j.lookups ≡ a.lookups
