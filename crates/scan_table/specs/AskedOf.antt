-- What a job asks of its files.
use Rattle.std.specs.Prelude.{◌≡◌}
use Rattle.scan_table.specs.declared.program.Asked.{Asked}
use Rattle.scan_table.specs.declared.reading.Job.{Job}

-- the dtype, the table and the workers of a job
pub record IsAsked (j : Job) (a : Asked) : Type 0 where
  pub dtype : j.dtype ≡ a.dtype
  pub spec : j.spec ≡ a.spec
  pub workers : j.workers ≡ a.workers
