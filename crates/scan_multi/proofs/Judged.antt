-- A conjunct is true, or drops its row, or is not clean.
use Rattle.std.proofs.Common.{◌≡◌, ℕ, ◌&&◌, Bool, true, false, not, List, [], ◌∷◌, ◌++◌, map, Option, Some, None, refl, ap, ◌∙◌}
use Rattle.std.specs.List.{list_all}
use Rattle.scan_values.specs.DataType.{DataType, bool_type, int_type, utf8_type, list_type, struct_type}
use Rattle.scan_values.specs.Fits.{fits, is_bool_type}
use Rattle.std.specs.Prelude.{leb}
use Rattle.scan_values.specs.NameFaults.{dtype_fault}
use Rattle.scan_values.specs.Marked.{Marked, lost, null, gone, boolean, integer, text, list, struct}
use Rattle.scan_expr.specs.declared.op.BindFault.TheVariants.{Deep, NotBool}
use Rattle.scan_expr.specs.declared.op.Binary.TheVariants.{And}
use Rattle.scan_expr.specs.Eval.{eval}
use Rattle.scan_expr.specs.Expr.{Expr, root, row_index, literal, unary, binary, pack, conjuncts_of, expr_depth, filter_conjuncts}
use Rattle.scan_expr.specs.Infer.{infer}
use Rattle.scan_expr.specs.Typing.{bind_fault, filter_fault, logic_fault, or_fault, typing_fault, depth_fault, nodes_fault, of_names, unless}
use Rattle.scan_expr.specs.declared.request.ScanRequest.{ScanRequest}
use Rattle.scan_expr.proofs.Binding.{nodes_typed}
use Rattle.scan_expr.proofs.Sound.{held, no_fault}
use Rattle.scan_segments.specs.Source.{Store}
use Rattle.scan_layout.specs.Layout.{Layout}
use Rattle.scan_layout.specs.Check.{first_fault}
use Rattle.scan_layout.specs.RowValue.{row_value}
use Rattle.scan_layout.proofs.Forms.{well_formed}
use Rattle.scan_layout.proofs.RowFits.{row_fits}
use Rattle.scan_multi.specs.Asked.{IsAskable}
use Rattle.scan_multi.proofs.SplitItems.{is_judged, tests}
use Rattle.scan_multi.proofs.ValueKinds.{is_kind, value_kind}

kind_judged : (m : Marked) (d : DataType) → is_bool_type d ≡ true → is_kind m d ≡ true → is_judged m ≡ true
kind_judged lost d b k = refl
kind_judged null d b k = refl
kind_judged gone d b k = refl
kind_judged (boolean true) d b k = refl
kind_judged (boolean false) d b k = refl
kind_judged (integer z) d b k = absurd (no_kind (is_bool_type d) b k)
  where
    no_kind : (x : Bool) → x ≡ true → not x ≡ true → ⊥
    no_kind true p q = cc
    no_kind false p q = cc
kind_judged (text s) d b k = absurd (no_kind (is_bool_type d) b k)
  where
    no_kind : (x : Bool) → x ≡ true → not x ≡ true → ⊥
    no_kind true p q = cc
    no_kind false p q = cc
kind_judged (list ms) d b k = absurd (no_kind (is_bool_type d) b k)
  where
    no_kind : (x : Bool) → x ≡ true → not x ≡ true → ⊥
    no_kind true p q = cc
    no_kind false p q = cc
kind_judged (struct ms) (bool_type n) b k = cc
kind_judged (struct ms) (int_type p n) b k = cc
kind_judged (struct ms) (utf8_type n) b k = cc
kind_judged (struct ms) (list_type e n) b k = cc
kind_judged (struct ms) (struct_type fs n) b k = cc

all_append : {A : Type 0} (q : A → Bool) (xs ys : List A) → list_all q xs ≡ true → list_all q ys ≡ true → list_all q (xs ++ ys) ≡ true
all_append q [] ys h k = k
all_append q (x ∷ xs) ys h k = go (q x) h (λ r. all_append q xs ys r k)
  where
    go : (b : Bool) → (b && list_all q xs) ≡ true → (list_all q xs ≡ true → list_all q (xs ++ ys) ≡ true) → (b && list_all q (xs ++ ys)) ≡ true
    go true h on = on h
    go false h on = cc

and_one : (b : Bool) → b ≡ true → (b && true) ≡ true
and_one true h = refl
and_one false h = cc

module _ (s : DataType) (v : Marked) (i : ℕ) (fit : fits v s ≡ true) where
  -- a test of a conjunct
  abbrev pub is_judge : Expr → Bool
  is_judge e = is_judged (eval s e v i)

  one_judged : (e : Expr) → typing_fault s e ≡ None → is_bool_type (infer s e) ≡ true → list_all is_judge (e ∷ []) ≡ true
  one_judged e t b = and_one (is_judge e) (kind_judged (eval s e v i) (infer s e) b (value_kind s e v i fit t))

  parts_judged : (e : Expr) → typing_fault s e ≡ None → is_bool_type (infer s e) ≡ true → list_all is_judge (conjuncts_of e) ≡ true
  parts_judged root t b = one_judged root t b
  parts_judged row_index t b = one_judged row_index t b
  parts_judged (literal d w) t b = one_judged (literal d w) t b
  parts_judged (unary u e) t b = one_judged (unary u e) t b
  parts_judged (pack ps n) t b = one_judged (pack ps n) t b
  parts_judged (binary And x y) t b =
      let first = no_fault (typing_fault s x) (or_fault (typing_fault s y) (logic_fault (infer s x) (infer s y))) t in
      let second = no_fault (typing_fault s y) (logic_fault (infer s x) (infer s y)) first.1 in
      let bools = no_fault (unless (is_bool_type (infer s x)) NotBool) (unless (is_bool_type (infer s y)) NotBool) second.1 in
      all_append is_judge (conjuncts_of x) (conjuncts_of y) (parts_judged x first.0 (held (is_bool_type (infer s x)) NotBool bools.0)) (parts_judged y second.0 (held (is_bool_type (infer s y)) NotBool bools.1))
  parts_judged (binary o x y) t b = one_judged (binary o x y) t b

all_map : (q : Marked → Bool) (f : Expr → Marked) (xs : List Expr) → list_all q (map f xs) ≡ list_all (λ x. q (f x)) xs
all_map q f [] = refl
all_map q f (x ∷ xs) = ap (λ b. q (f x) && b) (all_map q f xs)

bound_types : (s : DataType) (e : Expr) → bind_fault s e ≡ None → typing_fault s e ≡ None
bound_types s e h =
    let p = no_fault (depth_fault s) _ h in
    let q = no_fault (of_names (dtype_fault s)) _ p.1 in
    nodes_typed s e (no_fault (unless (leb (expr_depth e) 100) Deep) (nodes_fault s e) q.1).1

-- the conjuncts of a typed filter, at each row of a well-formed layout
pub conjuncts_judged : (d : DataType) (request : ScanRequest) (l : Layout) (store : Store) → IsAskable d request → first_fault l d ≡ None → (i : ℕ) → list_all is_judged (tests d request 0 l store i) ≡ true
conjuncts_judged d request l store askable form i = all_map is_judged (λ e. eval d e (row_value l store i) i) (filter_conjuncts request.filter) ∙ go request.filter askable.filter
  where
    fit : fits (row_value l store i) d ≡ true
    fit = row_fits l d store i (well_formed l d form).1

    go : (f : Option Expr) → filter_fault d f ≡ None → list_all (λ e. is_judged (eval d e (row_value l store i) i)) (filter_conjuncts f) ≡ true
    go None h = refl
    go (Some e) h =
        let p = no_fault (bind_fault d e) (unless (is_bool_type (infer d e)) NotBool) h in
        parts_judged d (row_value l store i) i fit e (bound_types d e p.0) (held (is_bool_type (infer d e)) NotBool p.1)
