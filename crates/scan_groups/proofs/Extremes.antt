-- The least and the greatest of values with one more.
use Rattle.std.proofs.Common.{◌≡◌, true, false, List, [], ◌∷◌, ◌++◌, Contains, sym, ap, ◌∙◌, subst}
use Rattle.std.proofs.lemmas.List.Elements.{All-weaker, All-push, All-contains, Contains-append_left, Contains-push, All-nil}
use Rattle.std.specs.Cmp.{upto, tied_itself}
use Rattle.std.specs.Ordering.{is_gt, is_lt, ordering_reverse}
use Rattle.std.specs.declared.cmp.Ordering.{Ordering}
use Rattle.std.specs.declared.cmp.Ordering.TheVariants.{Less, Equal, Greater}
use Rattle.std.specs.Prelude.{IfOk, Result, Ok, Err}
use Rattle.scan_values.specs.Val.{Val}
use Rattle.scan_values.specs.Values.{val_of}
use Rattle.scan_values.specs.declared.value.Value.{Value}
use Rattle.scan_values.specs.declared.memory.NoMemory.{NoMemory}
use Rattle.scan_groups.specs.Order.{value_cmp}
use Rattle.scan_groups.specs.Ordered.{value_cmp-total}
use Rattle.scan_groups.specs.Rows.{IsLeast, IsGreatest, OrNull, is_null}
use Rattle.scan_groups.specs.Totals.{NoneNull}

-- a value of a nonempty list without null is not null
not_null : (w : Val) (ws : List Val) (v : Val) → NoneNull (w ∷ ws) → Contains (w ∷ ws) v → is_null v ≡ true → ⊥
not_null w ws v none c e = let f = All-contains (λ u. is_null u ≡ false) (w ∷ ws) v none c in let z : true ≡ false = sym e ∙ f in cc

reversed_gt : (r s : Ordering) → r ≡ ordering_reverse s → is_lt s ≡ false → is_gt r ≡ false
reversed_gt r Less e h = absurd (let z : true ≡ false = h in cc)
reversed_gt r Equal e h = ap is_gt e
reversed_gt r Greater e h = ap is_gt e

less_gt : (r : Ordering) → r ≡ Less → is_gt r ≡ false
less_gt r e = ap is_gt e

-- what is below a least value is the least
least_of_new : (vs : List Val) (v w : Val) → IsLeast vs v → value_cmp w v ≡ Less → IsLeast (vs ++ w ∷ []) w
least_of_new vs v w h e = record {
  among = Contains-push vs w;
  below = All-push (λ u. is_gt (value_cmp w u) ≡ false) vs w
      (All-weaker (λ u. is_gt (value_cmp v u) ≡ false) (λ u. is_gt (value_cmp w u) ≡ false) (λ u k. upto value_cmp-total w v u (less_gt (value_cmp w v) e) k) vs h.below)
      (ap is_gt (tied_itself value_cmp-total w));
}

least_stays : (vs : List Val) (v w : Val) → IsLeast vs v → is_lt (value_cmp w v) ≡ false → IsLeast (vs ++ w ∷ []) v
least_stays vs v w h e = record {
  among = Contains-append_left vs (w ∷ []) v h.among;
  below = All-push (λ u. is_gt (value_cmp v u) ≡ false) vs w h.below (reversed_gt (value_cmp v w) (value_cmp w v) (value_cmp-total.antisymm v w) e);
}

least_alone : (w : Val) → IsLeast (w ∷ []) w
least_alone w = record {
  among = Contains-push [] w;
  below = All-push (λ u. is_gt (value_cmp w u) ≡ false) [] w (All-nil (λ u. is_gt (value_cmp w u) ≡ false)) (ap is_gt (tied_itself value_cmp-total w));
}

or_null_more : (P : List Val → Val → Type 0) (vs : List Val) (w v : Val) → P (vs ++ w ∷ []) v → OrNull P (vs ++ w ∷ []) v
or_null_more P [] w v h = h
or_null_more P (u ∷ us) w v h = h

-- the first that is not null
pub least_first : (vs : List Val) (v w : Val) → is_null v ≡ true → NoneNull vs → OrNull IsLeast vs v → OrNull IsLeast (vs ++ w ∷ []) w
least_first [] v w f none h = (least_alone w)
least_first (u ∷ us) v w f none h = absurd (not_null u us v none h.among f)

-- a lesser one
pub least_less : (vs : List Val) (v w : Val) → is_null v ≡ false → value_cmp w v ≡ Less → OrNull IsLeast vs v → OrNull IsLeast (vs ++ w ∷ []) w
least_less [] v w f c h = absurd (let z : false ≡ true = sym f ∙ ap is_null h in cc)
least_less (u ∷ us) v w f c h = (least_of_new (u ∷ us) v w h c)

-- one that is not less
pub least_kept : (vs : List Val) (v w : Val) → is_null v ≡ false → is_lt (value_cmp w v) ≡ false → OrNull IsLeast vs v → OrNull IsLeast (vs ++ w ∷ []) v
least_kept [] v w f c h = absurd (let z : false ≡ true = sym f ∙ ap is_null h in cc)
least_kept (u ∷ us) v w f c h = (least_stays (u ∷ us) v w h c)

-- ---- the greatest
reversed_lt : (r s : Ordering) → r ≡ ordering_reverse s → is_gt s ≡ false → is_lt r ≡ false
reversed_lt r Less e h = ap is_lt e
reversed_lt r Equal e h = ap is_lt e
reversed_lt r Greater e h = absurd (let z : true ≡ false = h in cc)

flip_lt : (v w : Val) → is_lt (value_cmp v w) ≡ false → is_gt (value_cmp w v) ≡ false
flip_lt v w h = reversed_gt (value_cmp w v) (value_cmp v w) (value_cmp-total.antisymm w v) h

flip_gt : (v w : Val) → is_gt (value_cmp v w) ≡ false → is_lt (value_cmp w v) ≡ false
flip_gt v w h = reversed_lt (value_cmp w v) (value_cmp v w) (value_cmp-total.antisymm w v) h

greatest_of_new : (vs : List Val) (v w : Val) → IsGreatest vs v → value_cmp v w ≡ Less → IsGreatest (vs ++ w ∷ []) w
greatest_of_new vs v w h e = record {
  among = Contains-push vs w;
  above = All-push (λ u. is_lt (value_cmp w u) ≡ false) vs w
      (All-weaker (λ u. is_lt (value_cmp v u) ≡ false) (λ u. is_lt (value_cmp w u) ≡ false)
      (λ u k. flip_gt u w (upto value_cmp-total u v w (flip_lt v u k) (less_gt (value_cmp v w) e))) vs h.above)
      (ap is_lt (tied_itself value_cmp-total w));
}

greatest_stays : (vs : List Val) (v w : Val) → IsGreatest vs v → is_lt (value_cmp v w) ≡ false → IsGreatest (vs ++ w ∷ []) v
greatest_stays vs v w h e = record {
  among = Contains-append_left vs (w ∷ []) v h.among;
  above = All-push (λ u. is_lt (value_cmp v u) ≡ false) vs w h.above e;
}

greatest_alone : (w : Val) → IsGreatest (w ∷ []) w
greatest_alone w = record {
  among = Contains-push [] w;
  above = All-push (λ u. is_lt (value_cmp w u) ≡ false) [] w (All-nil (λ u. is_lt (value_cmp w u) ≡ false)) (ap is_lt (tied_itself value_cmp-total w));
}

pub greatest_first : (vs : List Val) (v w : Val) → is_null v ≡ true → NoneNull vs → OrNull IsGreatest vs v → OrNull IsGreatest (vs ++ w ∷ []) w
greatest_first [] v w f none h = (greatest_alone w)
greatest_first (u ∷ us) v w f none h = absurd (not_null u us v none h.among f)

pub greatest_more : (vs : List Val) (v w : Val) → is_null v ≡ false → value_cmp v w ≡ Less → OrNull IsGreatest vs v → OrNull IsGreatest (vs ++ w ∷ []) w
greatest_more [] v w f c h = absurd (let z : false ≡ true = sym f ∙ ap is_null h in cc)
greatest_more (u ∷ us) v w f c h = (greatest_of_new (u ∷ us) v w h c)

pub greatest_kept : (vs : List Val) (v w : Val) → is_null v ≡ false → is_lt (value_cmp v w) ≡ false → OrNull IsGreatest vs v → OrNull IsGreatest (vs ++ w ∷ []) v
greatest_kept [] v w f c h = absurd (let z : false ≡ true = sym f ∙ ap is_null h in cc)
greatest_kept (u ∷ us) v w f c h = (greatest_stays (u ∷ us) v w h c)

-- what holds of a value holds of its copy
pub of_copy : (P : Val → Type 0) (r : Result Value NoMemory) (v : Val) → P v → IfOk r (λ u. val_of u ≡ v) → IfOk r (λ u. P (val_of u))
of_copy P (Ok u) v h e = subst P (sym e) h
of_copy P (Err f) v h e = tt
