use Rattle.scan_expr_tests.proofs.Scopes.{is_struct_by}
use Rattle.scan_expr_tests.proofs.parts.expanded_root.Goals as goal

pub expanded_struct_root-requires : goal.expanded_struct_root-requires
expanded_struct_root-requires g c = is_struct_by _ _ c.in-Some.ensures
