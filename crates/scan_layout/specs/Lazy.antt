-- Lazy children: what each is made of, which are made, and what a call does to them.
use Rattle.std.specs.Prelude.{◌≡◌, ℕ, length, replicate, List, Option, None, Some, is_some, true, false, slice_get, slice_index_or, slice_set}
use Rattle.scan_values.specs.DataType.{DataType, Name}
use Rattle.scan_layout.specs.declared.children.ChildTypes.{ChildTypes}
use Rattle.scan_layout.specs.declared.children.ChildTypes.TheVariants.{Each, Uniform}
use Rattle.scan_layout.specs.Contexts.{Context}
use Rattle.scan_layout.specs.Layout.{Layout}

-- there is a dtype and a name for each of so many children
abbrev pub HaveTypes : ChildTypes → ℕ → Type 0
HaveTypes (Each dtypes names) n = (length dtypes.items ≡ n) × (length names.items ≡ n)
HaveTypes (Uniform dtype name) n = Unit {0}

-- the dtypes and the names of so many children
abbrev pub dtypes_in : ChildTypes → ℕ → List DataType
dtypes_in (Each dtypes names) n = dtypes.items
dtypes_in (Uniform dtype name) n = replicate n dtype

abbrev pub names_in : ChildTypes → ℕ → List Name
names_in (Each dtypes names) n = names.items
names_in (Uniform dtype name) n = replicate n name

-- the node, the dtype and the name of each child, the context, the opener, and the children that are made
pub record Children (V K M : Type 0) : Type 0 where
  pub nodes : List Layout
  pub dtypes : List DataType
  pub names : List Name
  pub ctx : Context V
  pub opener : K
  pub made : List (Option M)

-- what an opener makes of a node, a dtype, a name and a context
abbrev pub Opens : Type 0 → Type 0 → Type 0 → Type 1
Opens V K M = K → Layout → DataType → Name → Context V → M → Type 0

module _ {V K M : Type 0} where
  -- the child of an index, where it is made
  abbrev pub child_at : Children V K M → ℕ → Option M
  child_at c i = slice_index_or c.made i None

  abbrev pub with_child : Children V K M → ℕ → M → Children V K M
  with_child c i m = record c { made = slice_set c.made i (Some m) }

  -- this is made of the node, the dtype and the name of the index, in the context
  pub record IsMadeOf (makes : Opens V K M) (c : Children V K M) (i : ℕ) (m : M) : Type 0 where
    pub node : Layout
    pub dtype : DataType
    pub name : Name
    pub is_node : slice_get c.nodes i ≡ Some node
    pub is_dtype : slice_get c.dtypes i ≡ Some dtype
    pub is_name : slice_get c.names i ≡ Some name
    pub made : makes c.opener node dtype name c.ctx m

  -- The child of the index is made: it is the one that it was where it was made before, and else it is made of what
  -- is its own. Nothing else is changed.
  pub record Makes (makes : Opens V K M) (i : ℕ) (old new : Children V K M) : Type 0 where
    pub child : M
    pub made : new ≡ with_child old i child
    pub kept : is_some (child_at old i) ≡ true → child_at old i ≡ Some child
    pub own : is_some (child_at old i) ≡ false → IsMadeOf makes old i child
