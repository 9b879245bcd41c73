-- Equality of values, which decides `≡`.
use Rattle.std.specs.Prelude.{◌≡◌, Bool, true, false, ◌&&◌, bytes_eq, ◌++◌, Decides, refl}
use Rattle.std.specs.Hash as fed
use Rattle.std.specs.Hash.{HashWrites, Alike, same_Alike, on_Alike}
use Rattle.std.specs.Ordering.{int_eq}
use Rattle.std.specs.Cmp.{IsEquivalence, IsPartialEquivalence, decided, partial_equiv_from_equiv, on_equiv}
use Rattle.std.proofs.Common.{ap, subst}
use Rattle.std.proofs.lemmas.Slice.Eq.{bytes_eq-Decides}
use Rattle.std.specs.Cmp.{signed_Decides}
use Rattle.scan_values.specs.Val.{Val, null_val, bool_val, int_val, text_val, list_val, struct_val, Vals, no_vals, val}

abbrev pub same_bool : Bool → Bool → Bool
same_bool true b = b
same_bool false true = false
same_bool false false = true

abbrev mutual
  pub same_val : Val → Val → Bool
  same_val null_val null_val = true
  same_val null_val (bool_val b') = false
  same_val null_val (int_val z') = false
  same_val null_val (text_val s') = false
  same_val null_val (list_val vs') = false
  same_val null_val (struct_val vs') = false
  same_val (bool_val b) null_val = false
  same_val (bool_val b) (bool_val b') = same_bool b b'
  same_val (bool_val b) (int_val z') = false
  same_val (bool_val b) (text_val s') = false
  same_val (bool_val b) (list_val vs') = false
  same_val (bool_val b) (struct_val vs') = false
  same_val (int_val z) null_val = false
  same_val (int_val z) (bool_val b') = false
  same_val (int_val z) (int_val z') = int_eq z z'
  same_val (int_val z) (text_val s') = false
  same_val (int_val z) (list_val vs') = false
  same_val (int_val z) (struct_val vs') = false
  same_val (text_val s) null_val = false
  same_val (text_val s) (bool_val b') = false
  same_val (text_val s) (int_val z') = false
  same_val (text_val s) (text_val s') = bytes_eq s s'
  same_val (text_val s) (list_val vs') = false
  same_val (text_val s) (struct_val vs') = false
  same_val (list_val vs) null_val = false
  same_val (list_val vs) (bool_val b') = false
  same_val (list_val vs) (int_val z') = false
  same_val (list_val vs) (text_val s') = false
  same_val (list_val vs) (list_val vs') = same_vals vs vs'
  same_val (list_val vs) (struct_val vs') = false
  same_val (struct_val vs) null_val = false
  same_val (struct_val vs) (bool_val b') = false
  same_val (struct_val vs) (int_val z') = false
  same_val (struct_val vs) (text_val s') = false
  same_val (struct_val vs) (list_val vs') = false
  same_val (struct_val vs) (struct_val vs') = same_vals vs vs'

  pub same_vals : Vals → Vals → Bool
  same_vals no_vals no_vals = true
  same_vals no_vals (val w ws) = false
  same_vals (val v vs) no_vals = false
  same_vals (val v vs) (val w ws) = same_val v w && same_vals vs ws

same_bool-is : (b c : Bool) → same_bool b c ≡ true → b ≡ c
same_bool-is true true h = refl
same_bool-is true false h = cc
same_bool-is false true h = cc
same_bool-is false false h = refl

and_left : (a b : Bool) → (a && b) ≡ true → a ≡ true
and_left true b h = refl
and_left false b h = h

and_right : (a b : Bool) → (a && b) ≡ true → b ≡ true
and_right true b h = h
and_right false b h = cc

mutual
  same_val-is : (v w : Val) → same_val v w ≡ true → v ≡ w
  same_val-is null_val null_val h = refl
  same_val-is null_val (bool_val b') h = cc
  same_val-is null_val (int_val z') h = cc
  same_val-is null_val (text_val s') h = cc
  same_val-is null_val (list_val vs') h = cc
  same_val-is null_val (struct_val vs') h = cc
  same_val-is (bool_val b) null_val h = cc
  same_val-is (bool_val b) (bool_val b') h = ap bool_val (same_bool-is b b' h)
  same_val-is (bool_val b) (int_val z') h = cc
  same_val-is (bool_val b) (text_val s') h = cc
  same_val-is (bool_val b) (list_val vs') h = cc
  same_val-is (bool_val b) (struct_val vs') h = cc
  same_val-is (int_val z) null_val h = cc
  same_val-is (int_val z) (bool_val b') h = cc
  same_val-is (int_val z) (int_val z') h = ap int_val ((signed_Decides z z').0 h)
  same_val-is (int_val z) (text_val s') h = cc
  same_val-is (int_val z) (list_val vs') h = cc
  same_val-is (int_val z) (struct_val vs') h = cc
  same_val-is (text_val s) null_val h = cc
  same_val-is (text_val s) (bool_val b') h = cc
  same_val-is (text_val s) (int_val z') h = cc
  same_val-is (text_val s) (text_val s') h = ap text_val ((bytes_eq-Decides s s').0 h)
  same_val-is (text_val s) (list_val vs') h = cc
  same_val-is (text_val s) (struct_val vs') h = cc
  same_val-is (list_val vs) null_val h = cc
  same_val-is (list_val vs) (bool_val b') h = cc
  same_val-is (list_val vs) (int_val z') h = cc
  same_val-is (list_val vs) (text_val s') h = cc
  same_val-is (list_val vs) (list_val vs') h = ap list_val (same_vals-are vs vs' h)
  same_val-is (list_val vs) (struct_val vs') h = cc
  same_val-is (struct_val vs) null_val h = cc
  same_val-is (struct_val vs) (bool_val b') h = cc
  same_val-is (struct_val vs) (int_val z') h = cc
  same_val-is (struct_val vs) (text_val s') h = cc
  same_val-is (struct_val vs) (list_val vs') h = cc
  same_val-is (struct_val vs) (struct_val vs') h = ap struct_val (same_vals-are vs vs' h)

  same_vals-are : (vs ws : Vals) → same_vals vs ws ≡ true → vs ≡ ws
  same_vals-are no_vals no_vals h = refl
  same_vals-are no_vals (val w ws) h = cc
  same_vals-are (val v vs) no_vals h = cc
  same_vals-are (val v vs) (val w ws) h = λ i. val (same_val-is v w (and_left (same_val v w) (same_vals vs ws) h) i)
      (same_vals-are vs ws (and_right (same_val v w) (same_vals vs ws) h) i)

same_bool-self : (b : Bool) → same_bool b b ≡ true
same_bool-self true = refl
same_bool-self false = refl

mutual
  same_val-self : (v : Val) → same_val v v ≡ true
  same_val-self null_val = refl
  same_val-self (bool_val b) = same_bool-self b
  same_val-self (int_val z) = (signed_Decides z z).1 refl
  same_val-self (text_val s) = (bytes_eq-Decides s s).1 refl
  same_val-self (list_val vs) = same_vals-self vs
  same_val-self (struct_val vs) = same_vals-self vs

  same_vals-self : (vs : Vals) → same_vals vs vs ≡ true
  same_vals-self no_vals = refl
  same_vals-self (val v vs) = rw (same_val-self v) (same_vals-self vs)

pub same_val-Decides : (v w : Val) → Decides (same_val v w) (v ≡ w)
same_val-Decides v w = (same_val-is v w, λ p. let P : Val → Type 0 = λ x. same_val v x ≡ true in subst P p (same_val-self v))

pub same_val-equivalence : IsEquivalence same_val
same_val-equivalence = decided same_val same_val-Decides

abbrev pub by_val : {A : Type 0} → (A → Val) → A → A → Bool
by_val f a b = same_val (f a) (f b)

-- what is fed of a value: its kind, and the content of a scalar
abbrev pub val_fed : Val → HashWrites
val_fed null_val = fed.u8 0
val_fed (bool_val b) = fed.u8 1 ++ fed.bool b
val_fed (int_val z) = fed.u8 2 ++ fed.i128 z
val_fed (text_val s) = fed.u8 3 ++ fed.str s
val_fed (list_val vs) = fed.u8 4
val_fed (struct_val vs) = fed.u8 5

pub val_Alike : {A : Type 0} (f : A → Val) → Alike (by_val f) (λ a. val_fed (f a))
val_Alike f = on_Alike f (same_Alike val_fed same_val-Decides)

pub by_val-equivalence : {A : Type 0} (f : A → Val) → IsEquivalence (by_val f)
by_val-equivalence f = on_equiv f same_val-equivalence

pub by_val-partial : {A : Type 0} (f : A → Val) → IsPartialEquivalence (by_val f)
by_val-partial f = partial_equiv_from_equiv (by_val-equivalence f)
