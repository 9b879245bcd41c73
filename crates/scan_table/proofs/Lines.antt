-- The lines of groups, and the dtype under which they are printed.
use Rattle.std.proofs.Common.{◌≡◌, ℕ, ◌+◌, ◌<◌, ◌≤◌, List, [], ◌∷◌, ◌++◌, length, map, drop, zip, refl, sym, ap, ◌∙◌, append_assoc, append-nil}
use Rattle.std.specs.Prelude.{codes}
use Rattle.std.proofs.lemmas.List.{drop_more, length-map, map-append}
use Rattle.std.proofs.Math.ListN.{drop_of_length-le}
use Rattle.scan_values.specs.DataType.{DataType, Name, Fields, field, fields_of, bool_type, struct_type}
use Rattle.scan_values.specs.declared.ptype.Nullability.TheVariants.{Nullable, NonNullable}
use Rattle.scan_values.specs.Val.{Val, struct_val, vals_of}
use Rattle.scan_values.specs.Values.{val_of}
use Rattle.scan_values.specs.declared.value.Value.{Value}
use Rattle.scan_groups.specs.declared.group.Group.{Group}
use Rattle.scan_run.specs.Line.{value_text}
use Rattle.scan_table.specs.Runs.{group_line, group_lines, named_fields}

-- ---- the dtype of a line
abbrev pub truths : List Name → List DataType
truths ns = map (λ (n : Name). bool_type Nullable) ns

pub truths-length : (ns : List Name) → length (truths ns) ≡ length ns
truths-length ns = length-map ns (λ (n : Name). bool_type Nullable)

pub truth_more : (all made made' : List DataType) (ns : List Name) (i : ℕ) (d : DataType) → i < length ns → d ≡ bool_type Nullable → made' ≡ made ++ d ∷ []
    → made ++ truths (drop i ns) ≡ all → made' ++ truths (drop (i + 1) ns) ≡ all
truth_more all made made' ns i d lt e g inv =
    ap (λ ys. ys ++ truths (drop (i + 1) ns)) (g ∙ ap (λ y. made ++ y ∷ []) e) ∙ append_assoc made (bool_type Nullable ∷ []) (truths (drop (i + 1) ns))
    ∙ ap (λ xs. made ++ truths xs) (sym (drop_more ns i [] lt)) ∙ inv

pub truth_last : (all made : List DataType) (ns : List Name) (i : ℕ) → length ns ≤ i → made ++ truths (drop i ns) ≡ all → made ≡ all
truth_last all made ns i le inv = sym (append-nil made) ∙ ap (λ xs. made ++ truths xs) (sym (drop_of_length-le ns le)) ∙ inv

pub truths-named : (ns : List Name) → fields_of (zip ns (truths ns)) ≡ named_fields ns
truths-named [] = refl
truths-named (n ∷ ns) = ap (λ (fs : Fields). field n (bool_type Nullable) fs) (truths-named ns)

pub named_dtype : (ns : List Name) (ds : List DataType) (fs : List (Name × DataType)) (d : DataType) → ds ≡ truths ns → fs ≡ zip ns ds → d ≡ struct_type (fields_of fs) NonNullable
    → d ≡ struct_type (named_fields ns) NonNullable
named_dtype ns ds fs d e z h =
    h ∙ ap (λ xs. struct_type (fields_of xs) NonNullable) (z ∙ ap (λ xs. zip ns xs) e) ∙ ap (λ xs. struct_type xs NonNullable) (truths-named ns)

-- ---- the values of a group
pub both_values : (key measures : List Val) (a b made : List Value) → made ≡ a ++ b → map val_of a ≡ key → map val_of b ≡ measures → map val_of made ≡ key ++ measures
both_values key measures a b made e k m = ap (map val_of) e ∙ map-append val_of a b ∙ ap (λ xs. xs ++ map val_of b) k ∙ ap (λ ys. key ++ ys) m

-- ---- lines, one after the other
line_text : (names : List Name) (g : Group) (v : Val) (d : DataType) → v ≡ struct_val (vals_of (g.key ++ g.measures)) → d ≡ struct_type (named_fields names) NonNullable
    → value_text v d ++ codes "\n" ≡ group_line names g
line_text names g v d e h = ap (λ x. value_text x d ++ codes "\n") e ∙ ap (λ t. value_text (struct_val (vals_of (g.key ++ g.measures))) t ++ codes "\n") h

pub line_more : (names : List Name) (all text mid next : List ℕ) (left rest : List Group) (g : Group) (v : Val) (d : DataType) → left ≡ g ∷ rest
    → v ≡ struct_val (vals_of (g.key ++ g.measures)) → d ≡ struct_type (named_fields names) NonNullable → mid ≡ text ++ value_text v d → next ≡ mid ++ codes "\n"
    → text ++ group_lines names left ≡ all → next ++ group_lines names rest ≡ all
line_more names all text mid next left rest g v d e is t m n inv =
    let line : next ≡ text ++ group_line names g = n ∙ ap (λ xs. xs ++ codes "\n") m ∙ append_assoc text (value_text v d) (codes "\n") ∙ ap (λ xs. text ++ xs) (line_text names g v d is t) in
    ap (λ xs. xs ++ group_lines names rest) line ∙ append_assoc text (group_line names g) (group_lines names rest) ∙ ap (λ gs. text ++ group_lines names gs) (sym e) ∙ inv

pub line_last : (names : List Name) (all text : List ℕ) (left : List Group) → left ≡ [] → text ++ group_lines names left ≡ all → text ≡ all
line_last names all text left e inv = sym (append-nil text) ∙ ap (λ gs. text ++ group_lines names gs) (sym e) ∙ inv
