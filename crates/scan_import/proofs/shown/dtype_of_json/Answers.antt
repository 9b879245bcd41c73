use Rattle.std.proofs.Common.{◌≡◌, List, ℕ, Option, map, ◌∙◌, subst}
use Rattle.std.specs.Prelude.{IfSome, string_bytes}
use Rattle.serde_json.specs.View.{view}
use Rattle.serde_json.specs.declared.value.Value.{Value as Json}
use Rattle.scan_import.specs.JsonLines.{AreValuesOf, HasMembers, ShowsMembers}
use Rattle.scan_import.proofs.Columns.{if_told}
use Rattle.scan_import.proofs.shown.dtype_of_json.Goals as goal

pub returns : goal.returns
returns g c =
    let rows = map (λ r. view r.1) c.in_ok-rows.rows.items in
    if_told (g.R.Read.remaining c.args.input) (λ text. ShowsMembers text c.in_ok-dtype.dtype) (λ text e.
    let told = subst (λ (o : Option (List ℕ)). IfSome o (λ xs. string_bytes c.in-Ok.text ≡ xs)) e c.in-Ok.ensures in
    record {
      rows = rows;
      are = subst (λ (t : List ℕ). AreValuesOf t rows) (c.as_str.ensures.value ∙ told) c.in_ok-rows.ensures;
      has = subst (λ (rs : List (ℕ × Json)). HasMembers c.in_ok-dtype.dtype (map (λ r. view r.1) rs)) c.as_slice-2.ensures.value (c.has_members.ensures c.if-not-has_members.false);
    })
