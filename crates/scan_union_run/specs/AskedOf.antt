-- What a manifest asks of its files.
use Rattle.std.specs.Prelude.{◌≡◌}
use Rattle.scan_manifest.specs.declared.manifest.Manifest.{Manifest}
use Rattle.scan_union_run.specs.declared.program.Asked.{Asked}

-- the dtype, the request and the workers of a manifest
pub record IsAsked (m : Manifest) (a : Asked) : Type 0 where
  pub dtype : m.dtype ≡ a.dtype
  pub request : m.request ≡ a.request
  pub workers : m.workers ≡ a.workers
