-- One arrival more.
use Rattle.std.proofs.Common.{◌≡◌, ℕ, List, Some, cond, ap, sym, ◌∙◌}
use Rattle.std.specs.Ordering.{nat_cmp, is_eq}
use Rattle.std.specs.Cmp.{nat_cmp_total, eq_by_cmp_equiv}
use Rattle.std.specs.Map.{lookup}
use Rattle.std.specs.FinMap as map
use Rattle.scan_segments.proofs.Lookups.{get-from_entries-lookup}
use Rattle.scan_splits.specs.declared.inbox.Arrival.{Arrival}

pub inserted : (es new : List (ℕ × Arrival)) (id : ℕ) (a : Arrival) → ((q : ℕ) → lookup (λ k. is_eq (nat_cmp q k)) new ≡ cond (is_eq (nat_cmp id q)) (Some a) (lookup (λ k. is_eq (nat_cmp q k)) es))
    → map.from_entries {R = nat_cmp} new ≡ map.insert (map.from_entries {R = nat_cmp} es) id a
inserted es new id a updates = map.same_map nat_cmp_total map.nat_cmp-IsAntisymmetric (map.from_entries new) (map.insert (map.from_entries es) id a) (λ q.
    get-from_entries-lookup new q ∙ updates q ∙ ap (λ b. cond b (Some a) (lookup (λ k. is_eq (nat_cmp q k)) es)) ((eq_by_cmp_equiv nat_cmp_total).symm id q)
    ∙ ap (cond (is_eq (nat_cmp q id)) (Some a)) (sym (get-from_entries-lookup es q)) ∙ sym (map.get-insert nat_cmp_total (map.from_entries es) id a q))
