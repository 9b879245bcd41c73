-- What a cache tells, call after call: its entries, its events and its counts.
use Rattle.std.proofs.Common.{◌≡◌, ℕ, ◌+◌, ◌-◌, ◌^◌, ◌<◌, List, ◌++◌, refl, ap, subst, sym, arith, append_assoc}
use Rattle.std.specs.Prelude.{Option, None, Some, IfSome, option_map}
use Rattle.scan_segments.specs.Faults.{RaisedByOne}
use Rattle.scan_segments.specs.Cache.{Entries, Both}
use Rattle.scan_drive.specs.Traffic.{Grows}

pub both_trans : {K : Type 0} (P Q R : Entries K → Entries K → Type 0) → ((a b c : Entries K) → P a b → Q b c → R a c) → (x y z : Option (Entries K)) → Both x y P → Both y z Q → Both x z R
both_trans P Q R f None y z p q = subst (λ o. Both o z Q → z ≡ None) (sym p) (λ h. h) q
both_trans P Q R f (Some a) None z p q = absurd p
both_trans P Q R f (Some a) (Some b) None p q = absurd q
both_trans P Q R f (Some a) (Some b) (Some c) p q = f a b c p q

pub both_same : {K : Type 0} (P : Entries K → Entries K → Type 0) → ((a : Entries K) → P a a) → (x : Option (Entries K)) → Both x x P
both_same P f None = refl
both_same P f (Some a) = f a

pub both_weaker : {K : Type 0} (P Q : Entries K → Entries K → Type 0) → ((a b : Entries K) → P a b → Q a b) → (x y : Option (Entries K)) → Both x y P → Both x y Q
both_weaker P Q f None y p = p
both_weaker P Q f (Some a) None p = absurd p
both_weaker P Q f (Some a) (Some b) p = f a b p

pub ended_on : {X : Type 0} (o : Option (List X)) (a b : List X) → option_map (λ es. es ++ b) (option_map (λ es. es ++ a) o) ≡ option_map (λ es. es ++ (a ++ b)) o
ended_on None a b = refl
ended_on (Some es) a b = ap Some (append_assoc es a b)

-- ---- counts that may be told
pub grows_self : (x : Option ℕ) → Grows x x
grows_self None = tt
grows_self (Some n) = omega arith

pub grows_same : (x y z : Option ℕ) → Grows x y → z ≡ y → Grows x z
grows_same x y z g e = subst (Grows x) (sym e) g

pub grows_raised : (x y z : Option ℕ) → Grows x y → RaisedByOne y z → Grows x z
grows_raised None None None p q = tt
grows_raised None None (Some c) p q = absurd q
grows_raised None (Some b) z p q = absurd p
grows_raised (Some a) None z p q = absurd p
grows_raised (Some a) (Some b) None p q = absurd q
grows_raised (Some a) (Some b) (Some c) p q = let least = q.least in omega (arith, p)

-- so many that were asked for are there: these were put, or found no memory, or have not come yet
abbrev pub Counts : ℕ → ℕ → ℕ → Option ℕ → Option ℕ → Type 0
Counts held put live x y = IfSome x (λ before. IfSome y (λ now. now < 2 ^ 64 - 1 → held + before ≡ put + now + live))

pub counts_same : (h p o h' p' o' : ℕ) (x y z : Option ℕ) → Counts h p o x y → z ≡ y → h' + p + o ≡ h + p' + o' → Counts h' p' o' x z
counts_same h p o h' p' o' None y z c e n = tt
counts_same h p o h' p' o' (Some a) None z c e n = subst (λ w. IfSome w (λ now. now < 2 ^ 64 - 1 → h' + a ≡ p' + now + o')) (sym e) tt
counts_same h p o h' p' o' (Some a) (Some b) z c e n = subst (λ w. IfSome w (λ now. now < 2 ^ 64 - 1 → h' + a ≡ p' + now + o')) (sym e) (λ lt. let u = c lt in omega arith)

pub counts_raised : (h p o h' p' o' : ℕ) (x y z : Option ℕ) → Counts h p o x y → RaisedByOne y z → h' + p + o ≡ h + p' + o' + 1 → Counts h' p' o' x z
counts_raised h p o h' p' o' None y z c r n = tt
counts_raised h p o h' p' o' (Some a) None None c r n = tt
counts_raised h p o h' p' o' (Some a) None (Some d) c r n = absurd r
counts_raised h p o h' p' o' (Some a) (Some b) None c r n = absurd r
counts_raised h p o h' p' o' (Some a) (Some b) (Some d) c r n = λ lt.
    let least = r.least in
    let most = r.most in
    let less : b < 2 ^ 64 - 1 = omega (arith, lt) in
    let u = c less in
    omega (arith, lt)
