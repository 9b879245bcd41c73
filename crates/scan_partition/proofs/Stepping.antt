-- Stepping into an item, over its dtype or one that may be null at fewer places.
use Rattle.std.proofs.Common.{◌≡◌, ◌<◌, ◌^◌, ℕ, true, None, refl, ap, sym, subst}
use Rattle.scan_values.specs.DataType.{DataType}
use Rattle.scan_values.specs.Fits.{fits}
use Rattle.scan_values.specs.Marked.{Marked}
use Rattle.scan_expr.specs.Expr.{Expr}
use Rattle.scan_expr.specs.Eval.{eval}
use Rattle.scan_expr.specs.Overflow.{overflows}
use Rattle.scan_expr.specs.Infer.{infer}
use Rattle.scan_expr.specs.Typing.{typing_fault}
use Rattle.scan_partition.specs.declared.item.Item.{Item}
use Rattle.scan_partition.specs.declared.rewrite.Rewriting.TheVariants.{StepIn}
use Rattle.scan_partition.specs.Clean.{NodesKnown}
use Rattle.scan_partition.specs.Items.{spelled, AtMost, use_of, IsExpanded}
use Rattle.scan_partition.specs.Partition.{step_into}
use Rattle.scan_partition.specs.Rewrite.{rewritten, NodesHold}
use Rattle.scan_partition.specs.Rewritings.{rules_of}
use Rattle.scan_partition.specs.Shallow.{IsPart}
use Rattle.scan_partition.specs.Tighter.{IsTighter}
use Rattle.scan_partition.proofs.Calls.{stepped_seen, any_value}
use Rattle.scan_partition.proofs.Part.{part_fits, step_into_part}
use Rattle.scan_partition.proofs.Faultless.{stepped_faultless}
use Rattle.scan_partition.proofs.Kept.{steps}
use Rattle.scan_partition.proofs.Sounding.{nodes_sound}
use Rattle.scan_partition.proofs.Stepped.{step_into_known, known_overflows}
use Rattle.scan_partition.proofs.Tighter.{tighter-bare, tighter_typed, infer_tighter}
use Rattle.scan_partition.proofs.Typed.{NodesTyped, typed_nodes}

module _ (s d : DataType) (i : Item) (e : Expr) (p : IsExpanded e) (a : AtMost i (use_of e)) (tight : IsTighter d (infer s (spelled i))) (typed : typing_fault s e ≡ None) where
  pub stepped_typed : NodesTyped d (step_into e)
  stepped_typed = tighter_typed d (infer s (spelled i)) (step_into e) tight (typed_nodes (infer s (spelled i)) (step_into e) (stepped_faultless s i e p a typed))

  pub step_fits : IsPart s e → NodesHold d (rewritten (rules_of StepIn d) e)
  step_fits w = subst (NodesHold d) (sym (steps d e)) (part_fits d (step_into e) (step_into_part s d i (tighter-bare d (infer s (spelled i)) tight) e p a w) stepped_typed)

  pub step_tighter : IsTighter (infer d (step_into e)) (infer s e)
  step_tighter = subst (IsTighter (infer d (step_into e))) (ap (λ x. x.0) (stepped_seen s i e any_value 0 p a)) (infer_tighter d (infer s (spelled i)) (step_into e) tight)

  pub step_known : (v : Marked) (k : ℕ) → k < 2 ^ 64 → fits (eval s (spelled i) v k) d ≡ true → NodesKnown s e v k → eval d (step_into e) (eval s (spelled i) v k) k ≡ eval s e v k
  step_known v k small fit known = step_into_known s d v (eval s (spelled i) v k) k i (tighter-bare d (infer s (spelled i)) tight) refl e p a known (nodes_sound d (eval s (spelled i) v k) k fit small (step_into e) stepped_typed)

  pub step_known_overflows : (v : Marked) (k : ℕ) → k < 2 ^ 64 → fits (eval s (spelled i) v k) d ≡ true → NodesKnown s e v k → overflows d (step_into e) (eval s (spelled i) v k) k ≡ overflows s e v k
  step_known_overflows v k small fit known = known_overflows s d v (eval s (spelled i) v k) k i (tighter-bare d (infer s (spelled i)) tight) refl e p a known (nodes_sound d (eval s (spelled i) v k) k fit small (step_into e) stepped_typed)
