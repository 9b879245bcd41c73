-- What a reader has read of parts.
use Rattle.std.specs.Prelude.{◌≡◌, ◌∷◌, ◌++◌, ◌+◌, ℕ, List, true, drop, leb, map, Some}
use Rattle.std.specs.List.{list_all}
use Rattle.scan_values.specs.DataType.{DataType, Name}
use Rattle.scan_expr.specs.Expr.{Expr}
use Rattle.scan_conditions.specs.declared.operand.Operand.{Operand}
use Rattle.scan_conditions.specs.declared.operand.Operand.TheVariants as operand
use Rattle.scan_conditions.specs.Spelling.{Part, word}
use Rattle.scan_conditions.specs.Written.{Written, Said, typed, untyped, parts_of, is_ranked, level_of, said, Path, path_parts, is_path, path_names, path_name, path_expr, with_commas, names_field, field_name, is_number, digits_behind}

abbrev pub said_of : Operand → Said
said_of (operand.Typed e) = typed e
said_of (operand.Number z) = untyped z

-- from one place to another stands what says this, and binds at least as closely as this level
pub record IsRead (s : DataType) (level : ℕ) (ps : List Part) (at end : ℕ) (what : Said) : Type 0 where
  pub written : Written
  pub from : drop at ps ≡ parts_of written ++ drop end ps
  pub ranked : is_ranked written ≡ true
  pub least : leb level (level_of written) ≡ true
  pub says : said s written ≡ Some what

-- all of the parts say this
pub record SaysAll (s : DataType) (ps : List Part) (what : Said) : Type 0 where
  pub written : Written
  pub are : ps ≡ parts_of written
  pub ranked : is_ranked written ≡ true
  pub says : said s written ≡ Some what

-- from one place to another stand names of fields within one another
pub record IsPath (ps : List Part) (at end : ℕ) (names : List Name) : Type 0 where
  pub path : Path
  pub from : drop at ps ≡ path_parts path ++ drop end ps
  pub fields : is_path path ≡ true
  pub are : names ≡ path_names path

-- from one place to another stands a field, which has this name and this expression
pub record IsSelected (ps : List Part) (at end : ℕ) (n : Name) (e : Expr) : Type 0 where
  pub path : Path
  pub from : drop at ps ≡ path_parts path ++ drop end ps
  pub fields : is_path path ≡ true
  pub name : n ≡ path_name path
  pub is : e ≡ path_expr path

-- fields with commas between them, as far as they were read, and their names and expressions
pub record SelectedTo (ps : List Part) (end : ℕ) (names : List Name) (es : List Expr) : Type 0 where
  pub first : Path
  pub others : List Path
  pub from : ps ≡ (path_parts first ++ with_commas others) ++ drop end ps
  pub fields : list_all is_path (first ∷ others) ≡ true
  pub names_are : names ≡ map path_name (first ∷ others)
  pub are : es ≡ map path_expr (first ∷ others)

-- all of the parts are these fields
pub record AreSelected (ps : List Part) (names : List Name) (es : List Expr) : Type 0 where
  pub first : Path
  pub others : List Path
  pub from : ps ≡ path_parts first ++ with_commas others
  pub fields : list_all is_path (first ∷ others) ≡ true
  pub names_are : names ≡ map path_name (first ∷ others)
  pub are : es ≡ map path_expr (first ∷ others)

-- at a place stands the name of a field
pub record IsName (ps : List Part) (at : ℕ) (n : Name) : Type 0 where
  pub part : Part
  pub from : drop at ps ≡ part ∷ drop (at + 1) ps
  pub names : names_field part ≡ true
  pub is : n ≡ field_name part

-- at a place stands a number
pub record IsNumber (ps : List Part) (at n : ℕ) : Type 0 where
  pub digits : List ℕ
  pub from : drop at ps ≡ word digits ∷ drop (at + 1) ps
  pub all : is_number digits ≡ true
  pub is : n ≡ digits_behind 0 digits
