-- What a run answers where nothing that it calls can fail.
use Rattle.std.specs.Prelude.{◌≡◌, ◌⊎◌, ℕ, ◌≤◌, List, Some, false, Contains, length, map}
use Rattle.scan_multi.specs.Valid.{IsValid}
use Rattle.scan_manifest.specs.Manifest.{IsManifest}
use Rattle.scan_manifest.specs.declared.manifest.FileSpec.{FileSpec}
use Rattle.scan_manifest.specs.declared.manifest.Manifest.{Manifest}
use Rattle.scan_run.specs.Io.{InputState, OutputState}
use Rattle.scan_run.specs.Run.{CanFail, IsUnbound, told_by}

-- These bytes are to come, no more than are read, and neither the input nor the output can fail.
pub record RunsOn (bytes : List ℕ) (input : InputState) (output : OutputState) : Type 0 where
  pub told : input.left ≡ Some bytes
  pub few : length bytes ≤ 67108864
  pub reads : input.can_fail ≡ false
  pub writes : output.can_fail ≡ false

-- a manifest whose scan is valid, of whose openers and sources no call fails
pub record IsSure (m : Manifest) : Type 0 where
  pub valid : IsValid m.workers m.dtype m.request (map told_by m.files)
  pub works : (f : FileSpec) → Contains m.files f → CanFail m f → ⊥

-- What a run answers of bytes: of each of these one status, or 7.
pub record Answers (bytes : List ℕ) (status : ℕ) : Type 0 where
  -- no manifest
  pub none : ((m : Manifest) → ¬ IsManifest bytes m) → (status ≡ 2) ⊎ (status ≡ 7)
  -- a request with a fault
  pub unbound : (m : Manifest) → IsManifest bytes m → IsUnbound m → (status ≡ 3) ⊎ (status ≡ 7)
  -- a valid scan
  pub lines : (m : Manifest) → IsManifest bytes m → IsSure m → (status ≡ 0) ⊎ (status ≡ 7)
