-- The order of values, and of lists of them.
use Rattle.std.specs.Prelude.{ℕ, ℤ, pos, List, [], Bool, true, false}
use Rattle.std.specs.List.{list_all}
use Rattle.std.specs.declared.cmp.Ordering.{Ordering}
use Rattle.std.specs.Ordering.{nat_cmp, int_cmp, bool_cmp, on, then_cmp, eq_by_cmp}
use Rattle.std.specs.Cmp.Lexicographic.{slice_cmp}
use Rattle.scan_values.specs.Val.{Val, null_val, bool_val, int_val, text_val, list_val, struct_val}

-- null is below truth values, these below integers, these below texts; lists and structs come last
abbrev pub kind_of : Val → ℕ
kind_of null_val = 0
kind_of (bool_val b) = 1
kind_of (int_val z) = 2
kind_of (text_val s) = 3
kind_of (list_val vs) = 4
kind_of (struct_val vs) = 5

abbrev pub truth_of : Val → Bool
truth_of (bool_val b) = b
truth_of _ = false

abbrev pub number_of : Val → ℤ
number_of (int_val z) = z
number_of _ = pos 0

abbrev pub text_of : Val → List ℕ
text_of (text_val s) = s
text_of _ = []

-- by kind, then false before true, integers by value, texts by bytes
abbrev pub value_cmp : Val → Val → Ordering
value_cmp = then_cmp (on kind_of nat_cmp) (then_cmp (on truth_of bool_cmp)
    (then_cmp (on number_of int_cmp) (on text_of (slice_cmp nat_cmp))))

-- keys by their values, in order
abbrev pub key_cmp : List Val → List Val → Ordering
key_cmp = slice_cmp value_cmp

-- two keys are the same
abbrev pub same_key : List Val → List Val → Bool
same_key = eq_by_cmp key_cmp

-- truth values, integers, texts and null
abbrev pub is_scalar : Val → Bool
is_scalar (list_val vs) = false
is_scalar (struct_val vs) = false
is_scalar _ = true

abbrev pub are_scalars : List Val → Bool
are_scalars vs = list_all is_scalar vs
