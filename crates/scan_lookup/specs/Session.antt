-- What a session is: files, what is kept of each, a cache, and what is looked up.
use Rattle.std.specs.Prelude.{◌≡◌, ℕ, Bool, List, length, map, All, refl}
use Rattle.std.specs.Coded.{Coded, code_by, coded×, coded_list, coded_ℕ}
use Rattle.scan_expr.specs.Bound.{Bound, bound_code}
use Rattle.scan_opener.specs.Opener.{OpenerState}
use Rattle.scan_partition.specs.Partable.{IsPartable}
use Rattle.scan_segments.specs.Source.{SourceState}
use Rattle.scan_drive.specs.declared.files.ScanFile.{ScanFile}
use Rattle.scan_multi.specs.Lawful.{IsIdle}
use Rattle.scan_seek.specs.KeptData.{KeptData, unopened, kept_code}
use Rattle.scan_seek.specs.Keeps.{is_open}
use Rattle.scan_places.specs.Walks.{kept_at, AreKept}

-- contracts see this of a session
pub record SessionData (O S C : Type 0) : Type 0 where
  pub projection : Bound
  pub files : List (ScanFile O S)
  pub kept : List KeptData
  pub cache : C

abbrev pub session_data : {O S C : Type 0} → Bound → List (ScanFile O S) → List KeptData → C → SessionData O S C
session_data e files kept cache = record { projection = e; files = files; kept = kept; cache = cache }

-- nothing is opened
abbrev pub new_session : {O S C : Type 0} → Bound → List (ScanFile O S) → C → SessionData O S C
new_session e files cache = session_data e files (map (λ f. unopened) files) cache

-- whether the file at a place is open; past the last file nothing is
abbrev pub is_open_in : List KeptData → ℕ → Bool
is_open_in kept file = is_open (kept_at kept file)

-- What is kept of each file is what its opener gives, as far as it tells, and what is read of it is the projection, which may be
-- parted; and no request is live.
pub record IsSession {O S C : Type 0} (opener : O → OpenerState) (source : S → SourceState) (s : SessionData O S C) : Type 0 where
  pub parts : IsPartable s.projection
  pub even : length s.kept ≡ length s.files
  pub are_kept : AreKept opener s.projection s.files s.kept
  pub idle : All (IsIdle opener source) s.files

-- ---- its code
abbrev file_code : {O S : Type 0} → Coded O → Coded S → Coded (ScanFile O S)
file_code {O} {S} o s = code_by (O × (S × List ℕ)) (coded× o (coded× s (coded_list coded_ℕ)))
    (λ f. (f.opener, (f.source, f.source_id))) (λ p. record { opener = p.0; source = p.1.0; source_id = p.1.1 }) (λ _. refl)

abbrev pub session_code : {O S C : Type 0} → Coded O → Coded S → Coded C → Coded (SessionData O S C)
session_code {O} {S} {C} o s c =
    code_by (Bound × (List (ScanFile O S) × (List KeptData × C))) (coded× bound_code (coded× (coded_list (file_code o s)) (coded× (coded_list kept_code) c)))
    (λ a. (a.projection, (a.files, (a.kept, a.cache)))) (λ p. session_data p.0 p.1.0 p.1.1.0 p.1.1.1) (λ _. refl)
