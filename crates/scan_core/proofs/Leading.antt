-- What bound expressions use of their scopes are fields there.
use Rattle.std.proofs.Common.{◌≡◌, Bool, true, false, not, cond, ◌&&◌, List, [], ◌∷◌, ◌++◌, map, filter, Option, Some, None, refl, ap, sym, subst, ◌∙◌, bytes_eq}
use Rattle.std.specs.Prelude.{is_some, option_and_then}
use Rattle.std.specs.List.{flat_map, list_all}
use Rattle.std.specs.Prelude.{IfOk, Result, Ok, Err}
use Rattle.std.specs.declared.alloc.Global.{Global}
use Rattle.std.specs.declared.vec.Vec.{Vec}
use Rattle.std.proofs.lemmas.List.{append-nil}
use Rattle.std.proofs.lemmas.Grind.{flat_map-append}
use Rattle.std.proofs.lemmas.Slice.Eq.{bytes_eq-Decides}
use Rattle.scan_values.specs.DataType.{DataType, bool_type, int_type, utf8_type, list_type, struct_type, Name, Fields, no_fields, field, nullability_of, with_nullability}
use Rattle.scan_values.specs.declared.ptype.Nullability.{Nullability}
use Rattle.scan_values.specs.declared.field_path.FieldMask.{FieldMask}
use Rattle.scan_values.specs.declared.memory.NoMemory.{NoMemory}
use Rattle.scan_values.specs.FieldLists.{dtype_named}
use Rattle.scan_values.specs.NameFaults.{has_name}
use Rattle.scan_values.specs.Same.{same_names}
use Rattle.scan_layout.specs.Laws.{path_of}
use Rattle.scan_expr.specs.declared.op.Unary.{Unary}
use Rattle.scan_expr.specs.declared.op.Unary.TheVariants.{GetItem, Select, Exclude, Not, IsNull, IsNotNull, ListLength}
use Rattle.scan_expr.specs.declared.op.BindFault.{BindFault}
use Rattle.scan_expr.specs.declared.op.BindFault.TheVariants.{NoField, RepeatedName}
use Rattle.scan_expr.specs.Bound.{Bound}
use Rattle.scan_expr.specs.Expr.{Expr, root, row_index, literal, unary, binary, pack, Parts, no_parts, part}
use Rattle.scan_expr.specs.Infer.{infer, struct_fields, raised, either, type_or_bool, unary_type}
use Rattle.scan_expr.specs.Needs.{Demand, whole, asked, uses, uses_all, other_names}
use Rattle.scan_expr.specs.Typing.{Fault, or_fault, unless, repeats, has_field, have_fields, unary_fault, binary_fault, typing_fault, parts_typing_fault}
use Rattle.scan_readers.specs.FieldNames.{dtype_at, all_lead, name_fields}
use Rattle.scan_core.specs.FieldMasks.{demand_paths, used_paths, firsts, path_mask}

-- names that lead to a field
abbrev leads : DataType → List Name → Bool
leads d p = is_some (dtype_at p d)

-- ---- tests and faults
both : (a b : Bool) → a ≡ true → b ≡ true → (a && b) ≡ true
both true b p q = q
both false b p q = absurd cc

left : (a b : Bool) → (a && b) ≡ true → a ≡ true
left true b h = refl
left false b h = h

right : (a b : Bool) → (a && b) ≡ true → b ≡ true
right true b h = h
right false b h = absurd cc

no_first : (f g : Fault) → or_fault f g ≡ None → f ≡ None
no_first None g h = refl
no_first (Some e) g h = absurd cc

no_second : (f g : Fault) → or_fault f g ≡ None → g ≡ None
no_second None g h = h
no_second (Some e) g h = absurd cc

holds : (b : Bool) (f : BindFault) → unless b f ≡ None → b ≡ true
holds true f h = refl
holds false f h = absurd cc

module _ (t : List Name → Bool) where
  pub both_lists : (ps qs : List (List Name)) → list_all t ps ≡ true → list_all t qs ≡ true → list_all t (ps ++ qs) ≡ true
  both_lists [] qs p q = q
  both_lists (x ∷ ps) qs p q = both (t x) (list_all t (ps ++ qs)) (left (t x) (list_all t ps) p) (both_lists ps qs (right (t x) (list_all t ps) p) q)

  of_filter : (k : List Name → Bool) (ps : List (List Name)) → list_all t ps ≡ true → list_all t (filter k ps) ≡ true
  of_filter k [] h = refl
  of_filter k (x ∷ ps) h = by (k x) (of_filter k ps (right (t x) (list_all t ps) h))
    where
      by : (b : Bool) → list_all t (filter k ps) ≡ true → list_all t (cond b (x ∷ filter k ps) (filter k ps)) ≡ true
      by true g = both (t x) (list_all t (filter k ps)) (left (t x) (list_all t ps) h) g
      by false g = g

  of_firsts : (ps : List (List Name)) → list_all t ps ≡ true → list_all t (firsts ps) ≡ true
  of_firsts [] h = refl
  of_firsts (x ∷ ps) h = both (t x) (list_all t (filter (λ q. not (same_names x q)) (firsts ps))) (left (t x) (list_all t ps) h) (of_filter (λ q. not (same_names x q)) (firsts ps) (of_firsts ps (right (t x) (list_all t ps) h)))

-- ---- what an operator reads of its part
same_fields : (m : Nullability) (d : DataType) → struct_fields (with_nullability m d) ≡ struct_fields d
same_fields m (bool_type n) = refl
same_fields m (int_type p n) = refl
same_fields m (utf8_type n) = refl
same_fields m (list_type d n) = refl
same_fields m (struct_type fs n) = refl

same_leads : (m : Nullability) (d : DataType) (p : List Name) → leads (with_nullability m d) p ≡ leads d p
same_leads m d [] = refl
same_leads m d (n ∷ ns) = ap (λ fs. is_some (option_and_then (dtype_at ns) (dtype_named n fs))) (same_fields m d)

-- below a field that is there
field_leads : (o : Option DataType) (m : Nullability) (p : List Name) → is_some o ≡ true → leads (raised m (type_or_bool o)) p ≡ true → is_some (option_and_then (dtype_at p) o) ≡ true
field_leads None m p h l = absurd cc
field_leads (Some t) m p h l = sym (same_leads (either m (nullability_of t)) t p) ∙ l

item_leads : (n : Name) (fs : Fields) (k : Nullability) (ps : List (List Name)) → has_field n fs ≡ true → all_lead (unary_type (GetItem n) (struct_type fs k)) ps ≡ true → all_lead (struct_type fs k) (map (λ p. n ∷ p) ps) ≡ true
item_leads n fs k [] h l = refl
item_leads n fs k (p ∷ ps) h l =
    let t = unary_type (GetItem n) (struct_type fs k) in
    both (leads (struct_type fs k) (n ∷ p)) (all_lead (struct_type fs k) (map (λ p. n ∷ p) ps)) (field_leads (dtype_named n fs) k p h (left (leads t p) (all_lead t ps) l)) (item_leads n fs k ps h (right (leads t p) (all_lead t ps) l))

one_leads : (o : Option DataType) → is_some o ≡ true → is_some (option_and_then (dtype_at []) o) ≡ true
one_leads None h = h
one_leads (Some t) h = refl

names_lead : (ns : List Name) (fs : Fields) (k : Nullability) → have_fields ns fs ≡ true → all_lead (struct_type fs k) (map (λ n. n ∷ []) ns) ≡ true
names_lead [] fs k h = refl
names_lead (n ∷ ns) fs k h = both (leads (struct_type fs k) (n ∷ [])) (all_lead (struct_type fs k) (map (λ n. n ∷ []) ns)) (one_leads (dtype_named n fs) (left (has_field n fs) (have_fields ns fs) h)) (names_lead ns fs k (right (has_field n fs) (have_fields ns fs) h))

some_by : (b : Bool) (d : DataType) (o : Option DataType) → is_some o ≡ true → is_some (cond b (Some d) o) ≡ true
some_by true d o h = refl
some_by false d o h = h

others_have : (ns : List Name) (fs gs : Fields) → ((m : Name) → has_field m fs ≡ true → has_field m gs ≡ true) → have_fields (other_names ns fs) gs ≡ true
others_have ns no_fields gs h = refl
others_have ns (field n d fs) gs h = by (has_name n ns) (others_have ns fs gs (λ m g. h m (some_by (bytes_eq m n) d (dtype_named m fs) g)))
  where
    own : has_field n gs ≡ true
    own = h n (rw ((bytes_eq-Decides n n).1 refl) refl)

    by : (b : Bool) → have_fields (other_names ns fs) gs ≡ true → have_fields (cond b (other_names ns fs) (n ∷ other_names ns fs)) gs ≡ true
    by true g = g
    by false g = both (has_field n gs) (have_fields (other_names ns fs) gs) own g

asked_leads : (u : Unary) (d : DataType) (k : Demand) → unary_fault u d ≡ None → all_lead (unary_type u d) (demand_paths k) ≡ true → all_lead d (demand_paths (asked u (struct_fields d) k)) ≡ true
asked_leads (GetItem n) (bool_type m) k f h = absurd cc
asked_leads (GetItem n) (int_type p m) k f h = absurd cc
asked_leads (GetItem n) (utf8_type m) k f h = absurd cc
asked_leads (GetItem n) (list_type e m) k f h = absurd cc
asked_leads (GetItem n) (struct_type fs m) k f h = item_leads n fs m (demand_paths k) (holds (has_field n fs) NoField f) h
asked_leads (Select ns) (bool_type m) k f h = absurd cc
asked_leads (Select ns) (int_type p m) k f h = absurd cc
asked_leads (Select ns) (utf8_type m) k f h = absurd cc
asked_leads (Select ns) (list_type e m) k f h = absurd cc
asked_leads (Select ns) (struct_type fs m) k f h = names_lead ns fs m (holds (have_fields ns fs) NoField (no_second (unless (not (repeats [] ns)) RepeatedName) (unless (have_fields ns fs) NoField) f))
asked_leads (Exclude ns) (bool_type m) k f h = absurd cc
asked_leads (Exclude ns) (int_type p m) k f h = absurd cc
asked_leads (Exclude ns) (utf8_type m) k f h = absurd cc
asked_leads (Exclude ns) (list_type e m) k f h = absurd cc
asked_leads (Exclude ns) (struct_type fs m) k f h = names_lead (other_names ns fs) fs m (others_have ns fs fs (λ m h. h))
asked_leads Not d k f h = refl
asked_leads IsNull d k f h = refl
asked_leads IsNotNull d k f h = refl
asked_leads ListLength d k f h = refl

-- ---- the walk of an expression
mutual
  pub uses_lead : (s : DataType) (e : Expr) (k : Demand) → typing_fault s e ≡ None → all_lead (infer s e) (demand_paths k) ≡ true → all_lead s (flat_map demand_paths (uses s e k)) ≡ true
  uses_lead s root k f h = subst (λ ps. all_lead s ps ≡ true) (sym (append-nil (demand_paths k))) h
  uses_lead s row_index k f h = refl
  uses_lead s (literal d v) k f h = refl
  uses_lead s (unary u e) k f h = uses_lead s e (asked u (struct_fields (infer s e)) k) (no_first (typing_fault s e) (unary_fault u (infer s e)) f) (asked_leads u (infer s e) k (no_second (typing_fault s e) (unary_fault u (infer s e)) f) h)
  uses_lead s (binary b x y) k f h =
      let fault = or_fault (typing_fault s y) (binary_fault b (infer s x) (infer s y)) in
      let first = uses_lead s x whole (no_first (typing_fault s x) fault f) refl in
      let second = uses_lead s y whole (no_first (typing_fault s y) (binary_fault b (infer s x) (infer s y)) (no_second (typing_fault s x) fault f)) refl in
      subst (λ ps. all_lead s ps ≡ true) (sym (flat_map-append demand_paths (uses s x whole) (uses s y whole)))
      (both_lists (leads s) (flat_map demand_paths (uses s x whole)) (flat_map demand_paths (uses s y whole)) first second)
  uses_lead s (pack ps n) k f h = all_uses_lead s ps f

  all_uses_lead : (s : DataType) (ps : Parts) → parts_typing_fault s ps ≡ None → all_lead s (flat_map demand_paths (uses_all s ps)) ≡ true
  all_uses_lead s no_parts f = refl
  all_uses_lead s (part n e ps) f =
      subst (λ ps. all_lead s ps ≡ true) (sym (flat_map-append demand_paths (uses s e whole) (uses_all s ps)))
      (both_lists (leads s) (flat_map demand_paths (uses s e whole)) (flat_map demand_paths (uses_all s ps)) (uses_lead s e whole (no_first (typing_fault s e) (parts_typing_fault s ps) f) refl) (all_uses_lead s ps (no_second (typing_fault s e) (parts_typing_fault s ps) f)))

pub used_lead : (b : Bound) → typing_fault b.scope b.expr ≡ None → all_lead b.scope (used_paths b) ≡ true
used_lead b f = uses_lead b.scope b.expr whole f refl

-- ---- the masks of paths
same_path : (p : List Name) → path_of (path_mask p) ≡ p
same_path [] = refl
same_path (n ∷ ns) = refl

masks_name : (d : DataType) (ps : List (List Name)) → all_lead d ps ≡ true → name_fields d (map path_mask (firsts ps)) ≡ true
masks_name d ps h = each (firsts ps) (of_firsts (leads d) ps h)
  where
    each : (qs : List (List Name)) → all_lead d qs ≡ true → name_fields d (map path_mask qs) ≡ true
    each [] h = refl
    each (q ∷ qs) h = both (is_some (dtype_at (path_of (path_mask q)) d)) (name_fields d (map path_mask qs)) (ap (λ p. is_some (dtype_at p d)) (same_path q) ∙ left (leads d q) (all_lead d qs) h) (each qs (right (leads d q) (all_lead d qs) h))

pub more_lead : (d : DataType) (b : Bound) (old new : List (List Name)) → b.scope ≡ d → all_lead b.scope (used_paths b) ≡ true → all_lead d old ≡ true → new ≡ old ++ used_paths b → all_lead d new ≡ true
more_lead d b old new s h k e = subst (λ ps. all_lead d ps ≡ true) (sym e) (both_lists (leads d) old (used_paths b) k (subst (λ z. all_lead z (used_paths b) ≡ true) s h))

pub masks_lead : (d : DataType) (ps : List (List Name)) (r : Result (Vec FieldMask Global) NoMemory) → all_lead d ps ≡ true → IfOk r (λ v. v.items ≡ map path_mask (firsts ps)) → IfOk r (λ v. name_fields d v.items ≡ true)
masks_lead d ps (Ok v) h e = subst (λ ms. name_fields d ms ≡ true) (sym e) (masks_name d ps h)
masks_lead d ps (Err f) h e = tt
