-- No rows want nothing.
use Rattle.std.proofs.Common.{◌≡◌, Bool, true, false, List, [], ◌++◌, refl, ap, ◌∙◌}
use Rattle.std.specs.Prelude.{if◌then◌else◌}
use Rattle.scan_spelling.specs.Places.{Place, places_of}
use Rattle.scan_plans.specs.PlanTree.{PlanTree, leaf, rows, evaluate, over, constant, lists, lengths, valid, numbers, by_lengths, PlanTrees, no_plans, plan}
use Rattle.scan_plans.specs.Came.{Came, arrived}
use Rattle.scan_plans.specs.OffsetsData.{offset_places}
use Rattle.scan_plans.specs.Reads.{fails, AllDecode}
use Rattle.scan_plans.specs.Wants.{wanted, all_wanted, knows_elements}
use Rattle.scan_plans.proofs.LeafWalk.{no_rows_wanted}

either_none : (b : Bool) (ps : List Place) → ps ≡ [] → (if b then ps else []) ≡ []
either_none true ps e = e
either_none false ps e = refl

mutual
  pub nothing_wanted : (p : PlanTree) (here : Came) → wanted p here [] ≡ []
  nothing_wanted (leaf d s gs) here = no_rows_wanted 0 (places_of d s gs)
  nothing_wanted (rows d vs) here = refl
  nothing_wanted (evaluate d e p) here = nothing_wanted p here
  nothing_wanted (over d e ps) here = nothing_of_all ps here
  nothing_wanted (constant d e) here = refl
  nothing_wanted (lists d p o) here = ap (λ xs. xs ++ (if knows_elements o here [] then wanted p here [] else [])) (no_rows_wanted 0 (offset_places o)) ∙ either_none (knows_elements o here []) (wanted p here []) (nothing_wanted p here)
  nothing_wanted (lengths o) here = no_rows_wanted 0 (offset_places o)
  nothing_wanted (valid p v) here = ap (λ xs. xs ++ wanted p here []) (nothing_wanted v here) ∙ nothing_wanted p here
  nothing_wanted (numbers k) here = refl
  nothing_wanted (by_lengths d e t f p) here = nothing_wanted p here

  pub nothing_of_all : (ps : PlanTrees) (here : Came) → all_wanted ps here [] ≡ []
  nothing_of_all no_plans here = refl
  nothing_of_all (plan p ps) here = ap (λ xs. xs ++ all_wanted ps here []) (nothing_wanted p here) ∙ nothing_of_all ps here

pub nothing_found : (p : PlanTree) (here : Came) → AllDecode (wanted p here []) (arrived here)
nothing_found p here = λ id. ap (λ ps. fails ps (arrived here) id) (nothing_wanted p here)
