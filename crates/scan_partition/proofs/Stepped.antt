-- Stepping in, where the item's dtype has another nullability than the item has over the struct.
use Rattle.std.proofs.Common.{◌≡◌, ℕ, ℤ, Bool, true, false, cond, not, ◌||◌, List, Option, Some, None, refl, ap, sym, subst, ◌∙◌}
use Rattle.scan_values.specs.DataType.{DataType, bool_type, int_type, utf8_type, list_type, struct_type, Fields, no_fields, field, Name, is_nullable, nullability_of}
use Rattle.scan_values.specs.Damage.{damaged}
use Rattle.scan_values.specs.Fits.{fits_int}
use Rattle.scan_values.specs.Kinds.{ptype_of}
use Rattle.scan_values.specs.declared.ptype.PType.{PType}
use Rattle.scan_values.specs.declared.ptype.Nullability.TheVariants.{NonNullable}
use Rattle.scan_values.specs.declared.ptype.Nullability.{Nullability}
use Rattle.scan_expr.specs.Infer.{struct_fields, infer}
use Rattle.scan_values.specs.Marked.{Marked, lost, null, gone, boolean, integer, text, list, struct, Markeds, more}
use Rattle.scan_expr.specs.Eval.{eval, eval_all, pick, pick_all, leave, unary_value, binary_value, not_value, null_test, length_value, is_damaged, is_nothing, is_truth, logic_value, comparison_value, integer_of, combine, sum_of, arithmetic_value}
use Rattle.scan_expr.specs.Overflow.{outside, spills, overflows, any_overflows}
use Rattle.scan_partition.specs.declared.item.Item.{Item}
use Rattle.scan_partition.specs.Items.{spelled, item_of, Use, or_use, use_of, uses_of, ItemOr, IsExpanded, AreExpanded}
use Rattle.scan_partition.specs.Partition.{step_into, step_into_all, or_root}
use Rattle.scan_partition.specs.Clean.{IsKnown, NodesKnown, AllNodesKnown, IsSound, NodesSound, AllNodesSound}
use Rattle.scan_expr.specs.declared.op.Unary.{Unary}
use Rattle.scan_expr.specs.declared.op.Unary.TheVariants.{GetItem, Select, Exclude, Not, IsNull, IsNotNull, ListLength}
use Rattle.scan_expr.specs.declared.op.Binary.{Binary}
use Rattle.scan_expr.specs.declared.op.Binary.TheVariants.{Mask, And, Or, Equal, NotEqual, Less, LessOrEqual, Greater, GreaterOrEqual, CheckedAdd, CheckedSub}
use Rattle.scan_expr.specs.Expr.{Expr, root, row_index, literal, unary, binary, pack, Parts, no_parts, part}
use Rattle.scan_partition.specs.Items.{AtMost}
use Rattle.scan_partition.proofs.Through.{both-split, item_of-spelled}
use Rattle.scan_partition.proofs.Pushed.{Named, pick_named, pick_all_named, leave_named, of_struct_same}
use Rattle.scan_partition.proofs.Bare.{bare, bare_all, fields-same, step_into-bare, ptypes-same}

named-bare : (fs : Fields) → Named (bare_all fs) fs
named-bare no_fields = tt
named-bare (field n d fs) = (refl, named-bare fs)

pick_bare : (n : Name) (d e : DataType) (ms : Markeds) → bare d ≡ bare e → pick n (struct_fields d) ms ≡ pick n (struct_fields e) ms
pick_bare n d e ms h = sym (pick_named n _ _ ms (named-bare (struct_fields d))) ∙ ap (λ fs. pick n fs ms) (fields-same d e h) ∙ pick_named n _ _ ms (named-bare (struct_fields e))

pick_all_bare : (ns : List Name) (d e : DataType) (ms : Markeds) → bare d ≡ bare e → pick_all ns (struct_fields d) ms ≡ pick_all ns (struct_fields e) ms
pick_all_bare ns d e ms h = sym (pick_all_named ns _ _ ms (named-bare (struct_fields d))) ∙ ap (λ fs. pick_all ns fs ms) (fields-same d e h) ∙ pick_all_named ns _ _ ms (named-bare (struct_fields e))

leave_bare : (ns : List Name) (d e : DataType) (ms : Markeds) → bare d ≡ bare e → leave ns (struct_fields d) ms ≡ leave ns (struct_fields e) ms
leave_bare ns d e ms h = sym (leave_named ns _ _ ms (named-bare (struct_fields d))) ∙ ap (λ fs. leave ns fs ms) (fields-same d e h) ∙ leave_named ns _ _ ms (named-bare (struct_fields e))

cond-same : {A : Type 0} (b c : Bool) (x : A) → cond b x x ≡ cond c x x
cond-same true true x = refl
cond-same true false x = refl
cond-same false true x = refl
cond-same false false x = refl

null_test_same : (want : Bool) (d e : DataType) (m : Marked) → IsKnown e m → IsSound d m → cond (is_nullable d) (null_test want m) (boolean (not want)) ≡ cond (is_nullable e) (null_test want m) (boolean (not want))
null_test_same want d e lost p q = absurd p
null_test_same want d e null p q = ap (λ b. cond b (boolean want) (boolean (not want))) (q ∙ sym p)
null_test_same want d e gone p q = absurd p
null_test_same want d e (boolean b) p q = cond-same (is_nullable d) (is_nullable e) (boolean (not want))
null_test_same want d e (integer z) p q = cond-same (is_nullable d) (is_nullable e) (boolean (not want))
null_test_same want d e (text s) p q = cond-same (is_nullable d) (is_nullable e) (boolean (not want))
null_test_same want d e (list ms) p q = cond-same (is_nullable d) (is_nullable e) (boolean (not want))
null_test_same want d e (struct ms) p q = cond-same (is_nullable d) (is_nullable e) (boolean (not want))

not_same : (d e : DataType) (n o : Nullability) (m : Marked) → IsKnown e m → not_value n m ≡ not_value o m
not_same d e n o lost p = absurd p
not_same d e n o null p = refl
not_same d e n o gone p = absurd p
not_same d e n o (boolean b) p = refl
not_same d e n o (integer z) p = refl
not_same d e n o (text s) p = refl
not_same d e n o (list ms) p = refl
not_same d e n o (struct ms) p = refl

length_same : (e : DataType) (n o : Nullability) (m : Marked) → IsKnown e m → length_value n m ≡ length_value o m
length_same e n o lost p = absurd p
length_same e n o null p = refl
length_same e n o gone p = absurd p
length_same e n o (boolean b) p = refl
length_same e n o (integer z) p = refl
length_same e n o (text s) p = refl
length_same e n o (list ms) p = refl
length_same e n o (struct ms) p = refl

-- of a known value an operator makes the same, whatever its dtype's nullability
unary_same : (u : Unary) (d e : DataType) (m : Marked) → bare d ≡ bare e → IsKnown e m → IsSound d m → unary_value u d m ≡ unary_value u e m
unary_same (GetItem n) d e m h p q = of_struct_same _ _ m (λ ms. pick_bare n d e ms h)
unary_same (Select ns) d e m h p q = of_struct_same _ _ m (λ ms. ap struct (pick_all_bare ns d e ms h))
unary_same (Exclude ns) d e m h p q = of_struct_same _ _ m (λ ms. ap struct (leave_bare ns d e ms h))
unary_same Not d e m h p q = not_same d e _ _ m p
unary_same IsNull d e m h p q = null_test_same true d e m p q
unary_same IsNotNull d e m h p q = null_test_same false d e m p q
unary_same ListLength d e m h p q = length_same e _ _ m p

not_damaged : (d : DataType) (m : Marked) → IsKnown d m → is_damaged m ≡ false
not_damaged d lost p = absurd p
not_damaged d null p = refl
not_damaged d gone p = absurd p
not_damaged d (boolean b) p = refl
not_damaged d (integer z) p = refl
not_damaged d (text s) p = refl
not_damaged d (list ms) p = refl
not_damaged d (struct ms) p = refl

neither_damaged : (d e : DataType) (x y : Marked) → IsKnown d x → IsKnown e y → is_damaged x || is_damaged y ≡ false
neither_damaged d e x y p q = λ i. not_damaged d x p i || not_damaged e y q i

unless_damaged : (b : Bool) (x y z : Marked) → b ≡ false → cond b x z ≡ cond b y z
unless_damaged true x y z h = clash h
  where
    clash : true ≡ false → x ≡ y
    clash h = cc
unless_damaged false x y z h = refl

-- an integer is one of both dtypes, or of neither
int_fits : (n o : DataType) (z : ℤ) → ptype_of n ≡ ptype_of o → fits_int n z ≡ fits_int o z
int_fits n o z h = by_ptype n z ∙ ap (λ p. fits_ptype p z) h ∙ sym (by_ptype o z)
  where
    fits_ptype : Option PType → ℤ → Bool
    fits_ptype None z = false
    fits_ptype (Some p) z = fits_int (int_type p NonNullable) z

    by_ptype : (d : DataType) (z : ℤ) → fits_int d z ≡ fits_ptype (ptype_of d) z
    by_ptype (bool_type n) z = refl
    by_ptype (int_type p n) z = refl
    by_ptype (utf8_type n) z = refl
    by_ptype (list_type d n) z = refl
    by_ptype (struct_type fs n) z = refl

binary_same : (b : Binary) (n o d e : DataType) (x y : Marked) → ptype_of n ≡ ptype_of o → IsKnown d x → IsKnown e y → binary_value b n x y ≡ binary_value b o x y
binary_same b n o d e x y h p q = go b
  where
    added : (b : Binary) → arithmetic_value b n x y ≡ arithmetic_value b o x y
    added b =
        ap (λ z. cond (is_nothing x || is_nothing y) null z)
        (unless_damaged _ _ _ _ (neither_damaged d e x y p q) ∙ ap (λ z. cond (is_damaged x || is_damaged y) (damaged (nullability_of o)) z) (ap (λ c. cond c (integer (sum_of b (integer_of x) (integer_of y))) gone) (int_fits n o (sum_of b (integer_of x) (integer_of y)) h)))

    compared : (b : Binary) → comparison_value b (nullability_of n) x y ≡ comparison_value b (nullability_of o) x y
    compared b = ap (λ z. cond (is_nothing x || is_nothing y) null z) (unless_damaged _ _ _ _ (neither_damaged d e x y p q))

    logic : (b : Bool) → logic_value b (nullability_of n) x y ≡ logic_value b (nullability_of o) x y
    logic b = ap (λ z. cond (is_truth b x || is_truth b y) (boolean b) z) (unless_damaged _ _ _ _ (neither_damaged d e x y p q))

    go : (b : Binary) → binary_value b n x y ≡ binary_value b o x y
    go Mask = refl
    go And = logic false
    go Or = logic true
    go Equal = compared Equal
    go NotEqual = compared NotEqual
    go Less = compared Less
    go LessOrEqual = compared LessOrEqual
    go Greater = compared Greater
    go GreaterOrEqual = compared GreaterOrEqual
    go CheckedAdd = added CheckedAdd
    go CheckedSub = added CheckedSub

known_top : (s : DataType) (e : Expr) (v : Marked) (k : ℕ) → IsExpanded e → NodesKnown s e v k → IsKnown (infer s e) (eval s e v k)
known_top s root v k p h = absurd p
known_top s row_index v k p h = tt
known_top s (literal d m) v k p h = h
known_top s (unary u e) v k p h = h.0
known_top s (binary b x y) v k p h = h.0
known_top s (pack ps n) v k p h = tt

sound_top : (s : DataType) (e : Expr) (v : Marked) (k : ℕ) → NodesSound s e v k → IsSound (infer s e) (eval s e v k)
sound_top s root v k h = h
sound_top s row_index v k h = tt
sound_top s (literal d m) v k h = h
sound_top s (unary u e) v k h = h.0
sound_top s (binary b x y) v k h = h.0
sound_top s (pack ps n) v k h = tt

module _ (s d : DataType) (v w : Marked) (k : ℕ) (i : Item) (same : bare d ≡ bare (infer s (spelled i))) (read : w ≡ eval s (spelled i) v k) where
  step_value : (u : Unary) (x e : Expr) (o : Option Item) (j : Use) (P : Type 0) → ItemOr o P → AtMost i (or_use o j) → ((l : Item) → o ≡ Some l → spelled l ≡ unary u e) → NodesSound d (or_root o (unary u x)) w k
      → (P → AtMost i j → NodesSound d x w k → (eval d x w k ≡ eval s e v k) × (bare (infer d x) ≡ bare (infer s e)) × IsKnown (infer s e) (eval s e v k))
      → eval d (or_root o (unary u x)) w k ≡ eval s (unary u e) v k
  step_value u x e None j P p a g q f =
      let h = f p a q.1 in
      unary_same u (infer d x) (infer s e) (eval d x w k) h.1 (subst (IsKnown (infer s e)) (sym h.0) h.2) (sound_top d x w k q.1) ∙ ap (unary_value u (infer s e)) h.0
  step_value u x e (Some l) j P p a g q f = read ∙ ap (λ y. eval s (spelled y) v k) a ∙ ap (λ y. eval s y v k) (g l refl)

  mutual
    pub step_into_known : (e : Expr) → IsExpanded e → AtMost i (use_of e) → NodesKnown s e v k → NodesSound d (step_into e) w k → eval d (step_into e) w k ≡ eval s e v k
    step_into_known root p a h q = absurd p
    step_into_known row_index p a h q = refl
    step_into_known (literal t m) p a h q = refl
    step_into_known (unary u e) p a h q =
        step_value u (step_into e) e (item_of u e) (use_of e) (IsExpanded e) p a (item_of-spelled u e) q
        (λ pe ae qe. (step_into_known e pe ae h.1 qe, step_into-bare s d i e same pe ae, known_top s e v k pe h.1))
    step_into_known (binary b x y) p a h q =
        let hs = both-split i (use_of x) (use_of y) a in
        (λ j. binary_value b (infer d (step_into (binary b x y))) (step_into_known x p.0 hs.0 h.1 q.1 j) (step_into_known y p.1 hs.1 h.2 q.2 j))
        ∙ binary_same b _ _ (infer s x) (infer s y) _ _ (ptypes-same _ _ (step_into-bare s d i (binary b x y) same p a)) (known_top s x v k p.0 h.1) (known_top s y v k p.1 h.2)
    step_into_known (pack ps n) p a h q = ap struct (step_into_all_known ps p a h q)

    pub step_into_all_known : (ps : Parts) → AreExpanded ps → AtMost i (uses_of ps) → AllNodesKnown s ps v k → AllNodesSound d (step_into_all ps) w k → eval_all d (step_into_all ps) w k ≡ eval_all s ps v k
    step_into_all_known no_parts p a h q = refl
    step_into_all_known (part n e ps) p a h q =
        let hs = both-split i (use_of e) (uses_of ps) a in
        λ j. more (step_into_known e p.0 hs.0 h.0 q.0 j) (step_into_all_known ps p.1 hs.1 h.1 q.1 j)

-- ---- where it overflows
outside_same : (b : Binary) (n o : DataType) (p q : Option ℤ) → ptype_of n ≡ ptype_of o → outside b n p q ≡ outside b o p q
outside_same b n o None q h = refl
outside_same b n o (Some x) None h = refl
outside_same b n o (Some x) (Some y) h = ap not (int_fits n o (combine b x y) h)

spills_same : (b : Binary) (n o : DataType) (x y : Marked) → ptype_of n ≡ ptype_of o → spills b n x y ≡ spills b o x y
spills_same Mask n o x y h = refl
spills_same And n o x y h = refl
spills_same Or n o x y h = refl
spills_same Equal n o x y h = refl
spills_same NotEqual n o x y h = refl
spills_same Less n o x y h = refl
spills_same LessOrEqual n o x y h = refl
spills_same Greater n o x y h = refl
spills_same GreaterOrEqual n o x y h = refl
spills_same CheckedAdd n o x y h = outside_same CheckedAdd n o (integer_of x) (integer_of y) h
spills_same CheckedSub n o x y h = outside_same CheckedSub n o (integer_of x) (integer_of y) h

module _ (s d : DataType) (v w : Marked) (k : ℕ) (i : Item) (same : bare d ≡ bare (infer s (spelled i))) (read : w ≡ eval s (spelled i) v k) where
  item_calm : (u : Unary) (e : Expr) (j : Item) → item_of u e ≡ Some j → false ≡ overflows s e v k
  item_calm u root j h = refl
  item_calm u row_index j h = cc
  item_calm u (literal t m) j h = cc
  item_calm u (unary x e) j h = cc
  item_calm u (binary b x y) j h = cc
  item_calm u (pack ps n) j h = cc

  step_overflow : (u : Unary) (x e : Expr) (o : Option Item) (j : Use) (P : Type 0) → ItemOr o P → AtMost i (or_use o j) → ((l : Item) → o ≡ Some l → false ≡ overflows s e v k) → NodesSound d (or_root o (unary u x)) w k
      → (P → AtMost i j → NodesSound d x w k → overflows d x w k ≡ overflows s e v k) → overflows d (or_root o (unary u x)) w k ≡ overflows s e v k
  step_overflow u x e None j P p a g q f = f p a q.1
  step_overflow u x e (Some l) j P p a g q f = g l refl

  mutual
    pub known_overflows : (e : Expr) → IsExpanded e → AtMost i (use_of e) → NodesKnown s e v k → NodesSound d (step_into e) w k → overflows d (step_into e) w k ≡ overflows s e v k
    known_overflows root p a h q = absurd p
    known_overflows row_index p a h q = refl
    known_overflows (literal t m) p a h q = refl
    known_overflows (unary u e) p a h q = step_overflow u (step_into e) e (item_of u e) (use_of e) (IsExpanded e) p a (item_calm u e) q (λ pe ae qe. known_overflows e pe ae h.1 qe)
    known_overflows (binary b x y) p a h q =
        let hs = both-split i (use_of x) (use_of y) a in
        let fx = known_overflows x p.0 hs.0 h.1 q.1 in
        let fy = known_overflows y p.1 hs.1 h.2 q.2 in
        let vx = step_into_known s d v w k i same read x p.0 hs.0 h.1 q.1 in
        let vy = step_into_known s d v w k i same read y p.1 hs.1 h.2 q.2 in
        let here = (λ j. spills b (infer d (step_into (binary b x y))) (vx j) (vy j)) ∙ spills_same b (infer d (step_into (binary b x y))) (infer s (binary b x y)) (eval s x v k) (eval s y v k) (ptypes-same _ _ (step_into-bare s d i (binary b x y) same p a)) in
        λ j. fx j || (fy j || here j)
    known_overflows (pack ps n) p a h q = all_known_overflow ps p a h q

    all_known_overflow : (ps : Parts) → AreExpanded ps → AtMost i (uses_of ps) → AllNodesKnown s ps v k → AllNodesSound d (step_into_all ps) w k → any_overflows d (step_into_all ps) w k ≡ any_overflows s ps v k
    all_known_overflow no_parts p a h q = refl
    all_known_overflow (part n e ps) p a h q =
        let hs = both-split i (use_of e) (uses_of ps) a in
        let fx = known_overflows e p.0 hs.0 h.0 q.0 in
        let fy = all_known_overflow ps p.1 hs.1 h.1 q.1 in
        λ j. fx j || fy j
