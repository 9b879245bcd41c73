-- The entries of a context, as a finite map.
use Rattle.std.proofs.Common.{◌≡◌, ℕ, List, [], ◌∷◌, refl, ap, sym, ◌∙◌, Bool, true, false, cond, map, Option, Some, None}
use Rattle.std.specs.Prelude.{option_map}
use Rattle.std.specs.Arc.{arc_value}
use Rattle.std.specs.Borrow.{Bor}
use Rattle.std.specs.Cmp.{nat_cmp_total, eq_by_cmp_equiv}
use Rattle.std.specs.FinMap as fin
use Rattle.std.specs.List.{AllZip}
use Rattle.std.specs.Map.{lookup}
use Rattle.std.specs.Option.{option_copied}
use Rattle.std.specs.Ordering.{is_eq, nat_cmp}
use Rattle.std.specs.declared.alloc.Global.{Global}
use Rattle.std.specs.declared.sync.Arc.{Arc}
use Rattle.scan_segments.proofs.Lookups.{get-from_entries-lookup}
use Rattle.scan_layout.specs.Contexts.{seen}

module _ {V : Type 0} where
  seen_step : (b : Bool) (a : Arc V Global) (v : Option V) (o : Option (Arc V Global)) → v ≡ option_map arc_value o → cond b (Some (arc_value a)) v ≡ option_map arc_value (cond b (Some a) o)
  seen_step true a v o e = refl
  seen_step false a v o e = e

  lookup_seen : (test : ℕ → Bool) (es : List (ℕ × Arc V Global)) → lookup test (map (λ e. (e.0, arc_value e.1)) es) ≡ option_map arc_value (lookup test es)
  lookup_seen test [] = refl
  lookup_seen test (e ∷ es) = seen_step (test e.0) e.1 _ (lookup test es) (lookup_seen test es)

  pub get_seen : (es : List (ℕ × Arc V Global)) (id : ℕ) → fin.get (seen es) id ≡ option_map arc_value (lookup (λ k. is_eq (nat_cmp id k)) es)
  get_seen es id = get-from_entries-lookup (map (λ e. (e.0, arc_value e.1)) es) id ∙ lookup_seen (λ k. is_eq (nat_cmp id k)) es

  -- what a look-up lends
  pub lent : (r : Option (Bor (Arc V Global))) (o : Option (Arc V Global)) → option_copied r ≡ o → option_map (λ x. arc_value x.now) r ≡ option_map arc_value o
  lent None o e = ap (option_map arc_value) e
  lent (Some x) o e = ap (option_map arc_value) e

  chosen : (b : Bool) (a : Arc V Global) (o : Option (Arc V Global)) → option_map arc_value (cond b (Some a) o) ≡ cond b (Some (arc_value a)) (option_map arc_value o)
  chosen true a o = refl
  chosen false a o = refl

  pub seen_inserted : (es new : List (ℕ × Arc V Global)) (id : ℕ) (a : Arc V Global)
      → ((q : ℕ) → lookup (λ k. is_eq (nat_cmp q k)) new ≡ cond (is_eq (nat_cmp id q)) (Some a) (lookup (λ k. is_eq (nat_cmp q k)) es))
      → seen new ≡ fin.insert (seen es) id (arc_value a)
  seen_inserted es new id a updates = fin.same_map nat_cmp_total fin.nat_cmp-IsAntisymmetric (seen new) (fin.insert (seen es) id (arc_value a)) (λ q.
      get_seen new q ∙ ap (option_map arc_value) (updates q) ∙ chosen (is_eq (nat_cmp id q)) a (lookup (λ k. is_eq (nat_cmp q k)) es)
      ∙ ap (λ b. cond b (Some (arc_value a)) (option_map arc_value (lookup (λ k. is_eq (nat_cmp q k)) es))) ((eq_by_cmp_equiv nat_cmp_total).symm id q)
      ∙ ap (cond (is_eq (nat_cmp q id)) (Some (arc_value a))) (sym (get_seen es q)) ∙ sym (fin.get-insert nat_cmp_total (seen es) id (arc_value a) q))

  pub seen_clone : (es new : List (ℕ × Arc V Global)) → AllZip (λ p q. (q.0 ≡ p.0) × (arc_value q.1 ≡ arc_value p.1)) es new → seen new ≡ seen es
  seen_clone [] [] z = refl
  seen_clone [] (f ∷ new) z = absurd z
  seen_clone (e ∷ es) [] z = absurd z
  seen_clone (e ∷ es) (f ∷ new) z = rw (z.0.0, z.0.1, seen_clone es new z.1) refl
