-- What is given at places of files, and the lines of it.
use Rattle.std.specs.Prelude.{◌≡◌, ℕ, List, [], ◌∷◌, ◌++◌, true, None, Some, All, map, flat_map, slice_get}
use Rattle.scan_values.specs.DataType.{DataType}
use Rattle.scan_values.specs.Marked.{Marked}
use Rattle.scan_values.specs.Val.{Val, is_clean, read_marked}
use Rattle.scan_expr.specs.Bound.{Bound, bound_of}
use Rattle.scan_expr.specs.Infer.{infer}
use Rattle.scan_expr.specs.Typing.{bind_fault}
use Rattle.scan_lookup.specs.Causes.{OverflowsAt}
use Rattle.scan_lookup.specs.Replies.{IsThere, value_of}
use Rattle.scan_places.specs.declared.place.Place.{Place}
use Rattle.scan_multi.specs.Answer.{ToldFile}
use Rattle.scan_run.specs.Line.{line_of}
use Rattle.scan_run.specs.Run.{told_by}
use Rattle.scan_lookup_run.specs.declared.reading.Job.{Job}

-- what is looked up
abbrev pub projected : Job → Bound
projected j = bound_of j.dtype j.projection

-- what the files of a job tell
abbrev pub told_files : Job → List ToldFile
told_files j = map told_by j.files

-- the value of the projection at a place
abbrev pub value_at : Job → Place → Marked
value_at j p = value_of (projected j) p.row (slice_get (told_files j) p.file)

-- A place is answered: the file that it names has its row, at which the projection has a value without damage and does not
-- overflow.
pub record IsAnswered (j : Job) (p : Place) : Type 0 where
  pub there : IsThere j.dtype (told_files j) p
  pub clean : is_clean (value_at j p) ≡ true
  pub fits : (f : ToldFile) → slice_get (told_files j) p.file ≡ Some f → OverflowsAt (projected j) p.row f → ⊥

-- the places of all look-ups, in order
abbrev pub places_of : Job → List Place
places_of j = flat_map (λ ps. ps) j.lookups

-- the line of a place, the lines of a look-up, and those of all
abbrev pub place_line : Job → Place → List ℕ
place_line j p = line_of (infer j.dtype j.projection) p.file p.row (read_marked (value_at j p))

abbrev pub lookup_lines : Job → List Place → List ℕ
lookup_lines j ps = flat_map (place_line j) ps

abbrev pub job_lines : Job → List ℕ
job_lines j = flat_map (lookup_lines j) j.lookups

-- the lines of values of a dtype at places
abbrev pub reply_lines : DataType → List Place → List Val → List ℕ
reply_lines d [] vs = []
reply_lines d (p ∷ ps) [] = []
reply_lines d (p ∷ ps) (v ∷ vs) = line_of d p.file p.row v ++ reply_lines d ps vs

-- each place of a job is answered, and these are the lines
pub record IsTextOf (j : Job) (text : List ℕ) : Type 0 where
  pub bound : bind_fault j.dtype j.projection ≡ None
  pub answered : All (IsAnswered j) (places_of j)
  pub lines : text ≡ job_lines j
