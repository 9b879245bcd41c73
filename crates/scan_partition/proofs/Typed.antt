-- Where the conditions of an expression's nodes hold, they hold in what is written of it again.
use Rattle.std.proofs.Common.{◌≡◌, ℕ, Bool, true, false, cond, not, ◌&&◌, ◌||◌, is_some, Option, Some, None, List, [], ◌∷◌, refl, ap, sym, ◌∙◌, bytes_eq}
use Rattle.scan_values.specs.DataType.{DataType, bool_type, int_type, utf8_type, list_type, struct_type, Fields, no_fields, field, Name, nullability_of, is_null_kind}
use Rattle.scan_values.specs.FieldLists.{dtype_named}
use Rattle.scan_values.specs.Kinds.{struct_fields_of, ptype_of}
use Rattle.scan_values.specs.Fits.{is_bool_type, is_utf8_type}
use Rattle.scan_values.specs.NameFaults.{field_names, has_name}
use Rattle.scan_expr.specs.declared.op.BindFault.{BindFault}
use Rattle.scan_expr.specs.declared.op.BindFault.TheVariants.{NoField, NotBool, Operands, RepeatedName}
use Rattle.scan_expr.specs.declared.op.Unary.{Unary}
use Rattle.scan_expr.specs.declared.op.Unary.TheVariants.{GetItem, Select, Exclude, Not, IsNull, IsNotNull, ListLength}
use Rattle.scan_expr.specs.declared.op.Binary.{Binary}
use Rattle.scan_expr.specs.declared.op.Binary.TheVariants.{Mask, And, Or, Equal, NotEqual, Less, LessOrEqual, Greater, GreaterOrEqual, CheckedAdd, CheckedSub}
use Rattle.scan_expr.specs.Expr.{Expr, root, row_index, literal, unary, binary, pack, Parts, no_parts, part}
use Rattle.scan_expr.specs.Infer.{infer}
use Rattle.scan_expr.specs.Typing.{Fault, unless, or_fault, repeats, has_field, have_fields, in_struct, choice_fault, same_ptypes, literal_fault, unary_fault, binary_fault, typing_fault, parts_typing_fault}
use Rattle.scan_partition.specs.declared.item.Item.{Item}
use Rattle.scan_partition.specs.Items.{item_of, AtMost, or_use, use_of, uses_of, ItemOr, IsExpanded, AreExpanded}
use Rattle.scan_partition.specs.Partition.{Reads, or_root, step_into, step_into_all}
use Rattle.scan_partition.specs.Found.{AllFound}
use Rattle.scan_partition.proofs.Bare.{bare, bare_all, ptypes-same}
use Rattle.scan_values.specs.Marked.{Marked}
use Rattle.scan_partition.proofs.Through.{both-split, through, own_reads, through-seen, step_into-through}

-- ---- no fault
pub no_fault : (f g : Fault) → or_fault f g ≡ None → (f ≡ None) × (g ≡ None)
no_fault None g h = (refl, h)
no_fault (Some x) g h = ((cc), (cc))

pub met : (b : Bool) (f : BindFault) → unless b f ≡ None → b ≡ true
met true f h = refl
met false f h = cc

both_true : (a b : Bool) → a && b ≡ true → (a ≡ true) × (b ≡ true)
both_true true b h = (refl, h)
both_true false b h = ((cc), (cc))

abbrev mutual
  pub NodesTyped : DataType → Expr → Type 0
  NodesTyped s root = Unit {0}
  NodesTyped s row_index = Unit {0}
  NodesTyped s (literal d v) = literal_fault d v ≡ None
  NodesTyped s (unary u e) = (unary_fault u (infer s e) ≡ None) × NodesTyped s e
  NodesTyped s (binary b x y) = (binary_fault b (infer s x) (infer s y) ≡ None) × NodesTyped s x × NodesTyped s y
  NodesTyped s (pack ps n) = AllNodesTyped s ps

  pub AllNodesTyped : DataType → Parts → Type 0
  AllNodesTyped s no_parts = Unit {0}
  AllNodesTyped s (part n e ps) = NodesTyped s e × AllNodesTyped s ps

mutual
  pub typed_nodes : (s : DataType) (e : Expr) → typing_fault s e ≡ None → NodesTyped s e
  typed_nodes s root h = tt
  typed_nodes s row_index h = tt
  typed_nodes s (literal d v) h = h
  typed_nodes s (unary u e) h = let a = no_fault (typing_fault s e) (unary_fault u (infer s e)) h in (a.1, typed_nodes s e a.0)
  typed_nodes s (binary b x y) h =
      let a = no_fault (typing_fault s x) (or_fault (typing_fault s y) (binary_fault b (infer s x) (infer s y))) h in
      let c = no_fault (typing_fault s y) (binary_fault b (infer s x) (infer s y)) a.1 in
      (c.1, typed_nodes s x a.0, typed_nodes s y c.0)
  typed_nodes s (pack ps n) h = typed_parts s ps h

  typed_parts : (s : DataType) (ps : Parts) → parts_typing_fault s ps ≡ None → AllNodesTyped s ps
  typed_parts s no_parts h = tt
  typed_parts s (part n e ps) h = let a = no_fault (typing_fault s e) (parts_typing_fault s ps) h in (typed_nodes s e a.0, typed_parts s ps a.1)

-- ---- fields by their names
pub has_field-name : (n : Name) (fs : Fields) → has_field n fs ≡ has_name n (field_names fs)
has_field-name n no_fields = refl
has_field-name n (field m d fs) = go (bytes_eq n m) (has_field-name n fs)
  where
    go : (b : Bool) → has_field n fs ≡ has_name n (field_names fs) → is_some (cond b (Some d) (dtype_named n fs)) ≡ b || has_name n (field_names fs)
    go true h = refl
    go false h = h

pub get_typed : (n : Name) (fs : Fields) → has_name n (field_names fs) ≡ true → unless (has_field n fs) NoField ≡ None
get_typed n fs h = ap (λ b. unless b NoField) (has_field-name n fs ∙ h)

have_found : (ns : List Name) (fs : Fields) → have_fields ns fs ≡ true → AllFound fs ns
have_found [] fs h = tt
have_found (n ∷ ns) fs h = let a = both_true (has_field n fs) (have_fields ns fs) h in (sym (has_field-name n fs) ∙ a.0, have_found ns fs a.1)

-- the names of a choice are fields'
pub chosen_found : (ns : List Name) (fs : Fields) → choice_fault ns fs ≡ None → AllFound fs ns
chosen_found ns fs h = have_found ns fs (met (have_fields ns fs) NoField (no_fault (unless (not (repeats [] ns)) RepeatedName) (unless (have_fields ns fs) NoField) h).1)

-- ---- dtypes that are the same but for what may be null have the same faults
has_field-bare : (n : Name) (fs : Fields) → has_field n (bare_all fs) ≡ has_field n fs
has_field-bare n no_fields = refl
has_field-bare n (field m d fs) = go (bytes_eq n m) (has_field-bare n fs)
  where
    go : (b : Bool) → has_field n (bare_all fs) ≡ has_field n fs → is_some (cond b (Some (bare d)) (dtype_named n (bare_all fs))) ≡ is_some (cond b (Some d) (dtype_named n fs))
    go true h = refl
    go false h = h

have_fields-bare : (ns : List Name) (fs : Fields) → have_fields ns (bare_all fs) ≡ have_fields ns fs
have_fields-bare [] fs = refl
have_fields-bare (n ∷ ns) fs = λ i. has_field-bare n fs i && have_fields-bare ns fs i

in_struct-bare : (f : Fields → Fault) (d : DataType) → ((fs : Fields) → f (bare_all fs) ≡ f fs) → in_struct (struct_fields_of (bare d)) f ≡ in_struct (struct_fields_of d) f
in_struct-bare f (bool_type n) h = refl
in_struct-bare f (int_type p n) h = refl
in_struct-bare f (utf8_type n) h = refl
in_struct-bare f (list_type d n) h = refl
in_struct-bare f (struct_type fs n) h = h fs

choice-bare : (ns : List Name) (fs : Fields) → choice_fault ns (bare_all fs) ≡ choice_fault ns fs
choice-bare ns fs = ap (λ b. or_fault (unless (not (repeats [] ns)) RepeatedName) (unless b NoField)) (have_fields-bare ns fs)

bool-bare : (d : DataType) → is_bool_type (bare d) ≡ is_bool_type d
bool-bare (bool_type n) = refl
bool-bare (int_type p n) = refl
bool-bare (utf8_type n) = refl
bool-bare (list_type d n) = refl
bool-bare (struct_type fs n) = refl

utf8-bare : (d : DataType) → is_utf8_type (bare d) ≡ is_utf8_type d
utf8-bare (bool_type n) = refl
utf8-bare (int_type p n) = refl
utf8-bare (utf8_type n) = refl
utf8-bare (list_type d n) = refl
utf8-bare (struct_type fs n) = refl

length-bare : (d : DataType) → unary_fault ListLength (bare d) ≡ unary_fault ListLength d
length-bare (bool_type n) = refl
length-bare (int_type p n) = refl
length-bare (utf8_type n) = refl
length-bare (list_type d n) = refl
length-bare (struct_type fs n) = refl

unary_fault-bare : (u : Unary) (d : DataType) → unary_fault u (bare d) ≡ unary_fault u d
unary_fault-bare (GetItem n) d = in_struct-bare (λ fs. unless (has_field n fs) NoField) d (λ fs. ap (λ b. unless b NoField) (has_field-bare n fs))
unary_fault-bare (Select ns) d = in_struct-bare (choice_fault ns) d (choice-bare ns)
unary_fault-bare (Exclude ns) d = in_struct-bare (choice_fault ns) d (choice-bare ns)
unary_fault-bare Not d = ap (λ b. unless b NotBool) (bool-bare d)
unary_fault-bare IsNull d = refl
unary_fault-bare IsNotNull d = refl
unary_fault-bare ListLength d = length-bare d

pub unary_fault-same : (u : Unary) (d e : DataType) → bare d ≡ bare e → unary_fault u d ≡ unary_fault u e
unary_fault-same u d e h = sym (unary_fault-bare u d) ∙ ap (unary_fault u) h ∙ unary_fault-bare u e

module _ (d e f g : DataType) (h : bare d ≡ bare e) (k : bare f ≡ bare g) where
  pub bools : (d e : DataType) → bare d ≡ bare e → is_bool_type d ≡ is_bool_type e
  bools d e h = sym (bool-bare d) ∙ ap is_bool_type h ∙ bool-bare e

  utf8s : (d e : DataType) → bare d ≡ bare e → is_utf8_type d ≡ is_utf8_type e
  utf8s d e h = sym (utf8-bare d) ∙ ap is_utf8_type h ∙ utf8-bare e

  pub logics : or_fault (unless (is_bool_type d) NotBool) (unless (is_bool_type f) NotBool) ≡ or_fault (unless (is_bool_type e) NotBool) (unless (is_bool_type g) NotBool)
  logics = λ i. or_fault (unless (bools d e h i) NotBool) (unless (bools f g k i) NotBool)

  pub operands : unless (cond (is_bool_type d) (is_bool_type f) (cond (is_utf8_type d) (is_utf8_type f) (same_ptypes (ptype_of d) (ptype_of f)))) Operands
      ≡ unless (cond (is_bool_type e) (is_bool_type g) (cond (is_utf8_type e) (is_utf8_type g) (same_ptypes (ptype_of e) (ptype_of g)))) Operands
  operands = λ i. unless (cond (bools d e h i) (bools f g k i) (cond (utf8s d e h i) (utf8s f g k i) (same_ptypes (ptypes-same d e h i) (ptypes-same f g k i)))) Operands

  pub sums : unless (same_ptypes (ptype_of d) (ptype_of f)) Operands ≡ unless (same_ptypes (ptype_of e) (ptype_of g)) Operands
  sums = λ i. unless (same_ptypes (ptypes-same d e h i) (ptypes-same f g k i)) Operands

  pub binary_fault-same : (b : Binary) → nullability_of f ≡ nullability_of g → binary_fault b d f ≡ binary_fault b e g
  binary_fault-same Mask n = λ i. unless (bools f g k i && not (is_null_kind (n i))) NotBool
  binary_fault-same And n = logics
  binary_fault-same Or n = logics
  binary_fault-same Equal n = operands
  binary_fault-same NotEqual n = operands
  binary_fault-same Less n = operands
  binary_fault-same LessOrEqual n = operands
  binary_fault-same Greater n = operands
  binary_fault-same GreaterOrEqual n = operands
  binary_fault-same CheckedAdd n = sums
  binary_fault-same CheckedSub n = sums

-- ---- through the items
abbrev mutual
  pub ThroughTyped : Reads → ℕ → Expr → Type 0
  ThroughTyped r k root = Unit {0}
  ThroughTyped r k row_index = Unit {0}
  ThroughTyped r k (literal d v) = literal_fault d v ≡ None
  ThroughTyped r k (unary u e) = ItemOr (item_of u e) ((unary_fault u (through r k e).0 ≡ None) × ThroughTyped r k e)
  ThroughTyped r k (binary b x y) = (binary_fault b (through r k x).0 (through r k y).0 ≡ None) × ThroughTyped r k x × ThroughTyped r k y
  ThroughTyped r k (pack ps n) = AllThroughTyped r k ps

  pub AllThroughTyped : Reads → ℕ → Parts → Type 0
  AllThroughTyped r k no_parts = Unit {0}
  AllThroughTyped r k (part n e ps) = ThroughTyped r k e × AllThroughTyped r k ps

pub item_or : (o : Option Item) (P Q : Type 0) → ItemOr o P → (P → Q) → ItemOr o Q
item_or None P Q p f = f p
item_or (Some i) P Q p f = tt

-- of a struct itself
mutual
  pub own_typed : (s : DataType) (v : Marked) (k : ℕ) (e : Expr) → IsExpanded e → NodesTyped s e → ThroughTyped (own_reads s v k) k e
  own_typed s v k root p t = tt
  own_typed s v k row_index p t = tt
  own_typed s v k (literal d m) p t = t
  own_typed s v k (unary u e) p t =
      item_or (item_of u e) (IsExpanded e) ((unary_fault u (through (own_reads s v k) k e).0 ≡ None) × ThroughTyped (own_reads s v k) k e) p (λ q. (ap (λ x. unary_fault u x.0) (through-seen s v k e q) ∙ t.0, own_typed s v k e q t.1))
  own_typed s v k (binary b x y) p t = ((λ i. binary_fault b (through-seen s v k x p.0 i).0 (through-seen s v k y p.1 i).0) ∙ t.0, own_typed s v k x p.0 t.1, own_typed s v k y p.1 t.2)
  own_typed s v k (pack ps n) p t = own_parts_typed s v k ps p t

  own_parts_typed : (s : DataType) (v : Marked) (k : ℕ) (ps : Parts) → AreExpanded ps → AllNodesTyped s ps → AllThroughTyped (own_reads s v k) k ps
  own_parts_typed s v k no_parts p t = tt
  own_parts_typed s v k (part n e ps) p t = (own_typed s v k e p.0 t.0, own_parts_typed s v k ps p.1 t.1)

-- ---- stepping in
module _ (r : Reads) (k : ℕ) (i : Item) where
  step_unary_typed : (u : Unary) (e : Expr) (o : Option Item) → ItemOr o (IsExpanded e) → AtMost i (or_use o (use_of e)) → ItemOr o ((unary_fault u (through r k e).0 ≡ None) × ThroughTyped r k e)
      → (IsExpanded e → AtMost i (use_of e) → ThroughTyped r k e → NodesTyped (r i).0 (step_into e)) → NodesTyped (r i).0 (or_root o (unary u (step_into e)))
  step_unary_typed u e None p a t f = (ap (λ x. unary_fault u x.0) (step_into-through r k i e p a) ∙ t.0, f p a t.1)
  step_unary_typed u e (Some j) p a t f = tt

  mutual
    pub step_typed : (e : Expr) → IsExpanded e → AtMost i (use_of e) → ThroughTyped r k e → NodesTyped (r i).0 (step_into e)
    step_typed root p a t = tt
    step_typed row_index p a t = tt
    step_typed (literal d v) p a t = t
    step_typed (unary u e) p a t = step_unary_typed u e (item_of u e) p a t (step_typed e)
    step_typed (binary b x y) p a t =
        let hs = both-split i (use_of x) (use_of y) a in
        ((λ j. binary_fault b (step_into-through r k i x p.0 hs.0 j).0 (step_into-through r k i y p.1 hs.1 j).0) ∙ t.0, step_typed x p.0 hs.0 t.1, step_typed y p.1 hs.1 t.2)
    step_typed (pack ps n) p a t = step_parts_typed ps p a t

    step_parts_typed : (ps : Parts) → AreExpanded ps → AtMost i (uses_of ps) → AllThroughTyped r k ps → AllNodesTyped (r i).0 (step_into_all ps)
    step_parts_typed no_parts p a t = tt
    step_parts_typed (part n e ps) p a t =
        let hs = both-split i (use_of e) (uses_of ps) a in
        (step_typed e p.0 hs.0 t.0, step_parts_typed ps p.1 hs.1 t.1)
