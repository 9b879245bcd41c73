-- The places of the fields that an expression chooses.
use Rattle.std.proofs.Common.{◌≡◌, ℕ, ◌+◌, ◌<◌, ◌≤◌, List, [], ◌∷◌, ◌++◌, length, map, get_or, drop, Option, Some, None, refl, ap, sym, ◌∙◌, arith, append_assoc}
use Rattle.std.specs.Prelude.{option_map}
use Rattle.std.proofs.lemmas.List.{at_drop_more}
use Rattle.scan_values.specs.DataType.{Name, Fields}
use Rattle.scan_expr.specs.Bound.{Bound, exprs_of}
use Rattle.scan_expr.specs.Expr.{Expr, parts_of}
use Rattle.scan_partition.specs.Direct.{Choice, same_names, chose, field_of, direct_parts, Projection, place, projected, before_all, read_places}

-- ---- under their own names
own_names : (ns : List Name) → map (λ (x : Name × Name). x.0) (same_names ns) ≡ ns
own_names [] = refl
own_names (n ∷ ns) = ap (λ ms. n ∷ ms) (own_names ns)

own_places : (fs : Fields) (ns : List Name) → map (λ (x : Name × Name). place fs x.1) (same_names ns) ≡ map (place fs) ns
own_places fs [] = refl
own_places fs (n ∷ ns) = ap (λ is. place fs n ∷ is) (own_places fs ns)

pub chosen_is : (fs : Fields) (ns : List Name) (is : List ℕ) → is ≡ map (place fs) ns → ◌≡◌ {A = Projection} (record { names = ns; fields = is }) (projected fs (same_names ns))
chosen_is fs ns is h = λ i. record { names = sym (own_names ns) i; fields = (h ∙ sym (own_places fs ns)) i }

-- ---- of the parts of a pack
some_inj : {A : Type 0} {x y : A} → Some x ≡ Some y → x ≡ y
some_inj h = cc

abbrev named : List Name → List ℕ → Projection
named ns is = record { names = ns; fields = is }

pub packed_is : (fs : Fields) (ns : List Name) (es : List Expr) → length es ≡ length ns → option_map (projected fs) (direct_parts (parts_of ns es)) ≡ option_map (named ns) (read_places fs es)
packed_is fs [] [] h = refl
packed_is fs (n ∷ ns) [] h = absurd (omega arith)
packed_is fs [] (e ∷ es) h = absurd (omega arith)
packed_is fs (n ∷ ns) (e ∷ es) h = go (field_of e) (direct_parts (parts_of ns es)) (read_places fs es) (packed_is fs ns es (omega arith))
  where
    go : (o : Option Name) (d : Option Choice) (r : Option (List ℕ)) → option_map (projected fs) d ≡ option_map (named ns) r
        → option_map (projected fs) (chose n o d) ≡ option_map (named (n ∷ ns)) (before_all (option_map (place fs) o) r)
    go None d r k = refl
    go (Some f) None None k = refl
    go (Some f) None (Some is) k = cc
    go (Some f) (Some c) None k = cc
    go (Some f) (Some c) (Some is) k = ap (λ (p : Projection). Some (named (n ∷ p.names) (place fs f ∷ p.fields))) (some_inj k)

pub packed_some : (fs : Fields) (ns ms : List Name) (es : List Expr) (is : List ℕ) → length es ≡ length ns → ms ≡ ns → Some is ≡ read_places fs es → Some (named ms is) ≡ option_map (projected fs) (direct_parts (parts_of ns es))
packed_some fs ns ms es is l m h = ap (λ (xs : List Name). Some (named xs is)) m ∙ ap (option_map (named ns)) h ∙ sym (packed_is fs ns es l)

pub packed_none : (fs : Fields) (ns : List Name) (es : List Expr) → length es ≡ length ns → None ≡ read_places fs es → None ≡ option_map (projected fs) (direct_parts (parts_of ns es))
packed_none fs ns es l h = ap (option_map (named ns)) h ∙ sym (packed_is fs ns es l)

-- ---- one part after another
module _ (fs : Fields) (xs : List Bound) where
  abbrev pub IsRead : List ℕ → ℕ → Type 0
  IsRead is k = option_map (λ js. is ++ js) (read_places fs (exprs_of (drop k xs))) ≡ read_places fs (exprs_of xs)

  read_next : (k : ℕ) (x : Bound) → k < length xs → x ≡ get_or xs k x → read_places fs (exprs_of (drop k xs)) ≡ before_all (option_map (place fs) (field_of x.expr)) (read_places fs (exprs_of (drop (k + 1) xs)))
  read_next k x l e =
      at_drop_more (λ (ys : List Bound). read_places fs (exprs_of ys)) xs k x l
      ∙ ap (λ (y : Bound). before_all (option_map (place fs) (field_of y.expr)) (read_places fs (exprs_of (drop (k + 1) xs)))) (sym e)

  pub none_read : (is : List ℕ) (k : ℕ) (x : Bound) → k < length xs → x ≡ get_or xs k x → None ≡ field_of x.expr → IsRead is k → None ≡ read_places fs (exprs_of xs)
  none_read is k x l e h r =
      ap (λ (o : Option Name). option_map (λ js. is ++ js) (before_all (option_map (place fs) o) (read_places fs (exprs_of (drop (k + 1) xs))))) h
      ∙ ap (option_map (λ js. is ++ js)) (sym (read_next k x l e)) ∙ r

  joined : (is : List ℕ) (i : ℕ) (o : Option (List ℕ)) → option_map (λ js. (is ++ i ∷ []) ++ js) o ≡ option_map (λ js. is ++ js) (option_map (λ js. i ∷ js) o)
  joined is i None = refl
  joined is i (Some js) = ap Some (append_assoc is (i ∷ []) js)

  pub one_read : (is js : List ℕ) (k : ℕ) (x : Bound) (f : Name) → k < length xs → x ≡ get_or xs k x → Some f ≡ field_of x.expr → js ≡ is ++ place fs f ∷ [] → IsRead is k → IsRead js (k + 1)
  one_read is js k x f l e h j r =
      ap (λ (ys : List ℕ). option_map (λ zs. ys ++ zs) (read_places fs (exprs_of (drop (k + 1) xs)))) j
      ∙ joined is (place fs f) (read_places fs (exprs_of (drop (k + 1) xs)))
      ∙ ap (λ (o : Option Name). option_map (λ js. is ++ js) (before_all (option_map (place fs) o) (read_places fs (exprs_of (drop (k + 1) xs))))) h
      ∙ ap (option_map (λ js. is ++ js)) (sym (read_next k x l e)) ∙ r
