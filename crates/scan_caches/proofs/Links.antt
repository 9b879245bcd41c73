-- The stages of an adapter's live ids, and the live ids of its inner source.
use Rattle.std.proofs.Common.{◌≡◌, ℕ, List, Bool, true, false, cond, eqb, nat_eq, Option, Some, None, is_some, Result, Ok, Err, OnErr, inl, inr, refl, sym, ap, ◌∙◌, arith}
use Rattle.std.specs.Ordering.{nat_cmp}
use Rattle.std.specs.BTreeMap.{is_at}
use Rattle.std.proofs.lemmas.Bool.Decides.{nat_tests}
use Rattle.scan_segments.proofs.LiveSets.{at-id}
use Rattle.scan_segments.specs.Source.{SourceState, with_live, without_live}
use Rattle.scan_segments.specs.Cache.{CacheState}
use Rattle.scan_segments.specs.declared.cache.CacheGet.{CacheGet}
use Rattle.scan_caches.specs.declared.adapter.Looked.TheVariants as looked
use Rattle.scan_caches.specs.declared.adapter.Stage.{Stage}
use Rattle.scan_caches.specs.Adapter.{Looks, stage_at, has_stage, is_asked, IsLinked}

turned : (i q : ℕ) → eqb q i ≡ nat_eq i q
turned i q = go (eqb q i) (nat_eq i q) refl refl
  where
    go : (a b : Bool) → eqb q i ≡ a → nat_eq i q ≡ b → eqb q i ≡ nat_eq i q
    go true true p r = p ∙ sym r
    go true false p r = let bad : nat_eq i q ≡ true = grind (arith, nat_tests) in absurd (cc)
    go false true p r = let bad : eqb q i ≡ true = grind (arith, nat_tests) in absurd (cc)
    go false false p r = p ∙ sym r

-- a number stands in an ordered map where it is that number
pub at_is : (id q : ℕ) → is_at (nat_cmp id) q ≡ nat_eq id q
at_is id q = at-id id q ∙ turned id q

-- what a map has once the stage of one id is another
pub updated : (id : ℕ) (x : Option Stage) (es fs : List (ℕ × Stage)) → ((q : ℕ) → stage_at fs q ≡ cond (is_at (nat_cmp id) q) x (stage_at es q)) → (q : ℕ) → stage_at fs q ≡ cond (nat_eq id q) x (stage_at es q)
updated id x es fs u q = u q ∙ ap (λ b. cond b x (stage_at es q)) (at_is id q)

pub live_new : (id : ℕ) (live : ℕ → Bool) (q : ℕ) → with_live id live q ≡ cond (nat_eq id q) true (live q)
live_new id live q = ap (λ b. cond b true (live q)) (turned id q)

pub live_ended : (id : ℕ) (live : ℕ → Bool) (q : ℕ) → without_live id live q ≡ cond (nat_eq id q) false (live q)
live_ended id live q = ap (λ b. cond b false (live q)) (turned id q)

-- a choice that changes nothing
pub live_same : (id : ℕ) (live : ℕ → Bool) (v : Bool) → live id ≡ v → (q : ℕ) → live q ≡ cond (nat_eq id q) v (live q)
live_same id live v is q = go (nat_eq id q) refl
  where
    go : (b : Bool) → nat_eq id q ≡ b → live q ≡ cond (nat_eq id q) v (live q)
    go true p = let same : id ≡ q = grind (arith, nat_tests) in rw p (ap live (sym same) ∙ is)
    go false p = rw p refl

push : (b : Bool) (f : Option Stage → Bool) (x y : Option Stage) (h : Bool) → h ≡ f y → cond b (f x) h ≡ f (cond b x y)
push true f x y h is = refl
push false f x y h is = is

-- the stage of one id changes, and whether it is live in the inner source with it
pub relinked : (id : ℕ) (x : Option Stage) (inner inner' : ℕ → Bool) (es es' : List (ℕ × Stage)) → IsLinked inner es → ((q : ℕ) → inner' q ≡ cond (nat_eq id q) (is_asked x) (inner q)) → ((q : ℕ) → stage_at es' q ≡ cond (nat_eq id q) x (stage_at es q)) → IsLinked inner' es'
relinked id x inner inner' es es' l a s q = a q ∙ push (nat_eq id q) is_asked x (stage_at es q) (inner q) (l q) ∙ sym (ap is_asked (s q))

-- whether ids have a stage, once one of them got another
stage_test : (id : ℕ) (x : Option Stage) (es es' : List (ℕ × Stage)) → ((q : ℕ) → stage_at es' q ≡ cond (nat_eq id q) x (stage_at es q)) → (q : ℕ) → has_stage es' q ≡ cond (nat_eq id q) (is_some x) (has_stage es q)
stage_test id x es es' s q = ap is_some (s q) ∙ sym (push (nat_eq id q) is_some x (stage_at es q) (has_stage es q) refl)

pub staged : (id : ℕ) (x : Stage) (es es' : List (ℕ × Stage)) → ((q : ℕ) → stage_at es' q ≡ cond (nat_eq id q) (Some x) (stage_at es q)) → has_stage es' ≡ with_live id (has_stage es)
staged id x es es' s = λ i q. (stage_test id (Some x) es es' s q ∙ sym (live_new id (has_stage es) q)) i

pub unstaged : (id : ℕ) (es es' : List (ℕ × Stage)) → ((q : ℕ) → stage_at es' q ≡ cond (nat_eq id q) None (stage_at es q)) → has_stage es' ≡ without_live id (has_stage es)
unstaged id es es' s = λ i q. (stage_test id None es es' s q ∙ sym (live_ended id (has_stage es) q)) i

pub restaged : (id : ℕ) (x : Stage) (es es' : List (ℕ × Stage)) → has_stage es id ≡ true → ((q : ℕ) → stage_at es' q ≡ cond (nat_eq id q) (Some x) (stage_at es q)) → has_stage es' ≡ has_stage es
restaged id x es es' h s = λ i q. (stage_test id (Some x) es es' s q ∙ sym (live_same id (has_stage es) true h q)) i

-- a stage that came and went
pub passed : (id : ℕ) (live mid new : ℕ → Bool) → live id ≡ false → mid ≡ with_live id live → new ≡ without_live id mid → new ≡ live
passed id live mid new h m n = n ∙ ap (without_live id) m ∙ (λ i q. both q i)
  where
    both : (q : ℕ) → without_live id (with_live id live) q ≡ live q
    both q = go (nat_eq q id) refl
      where
        go : (b : Bool) → nat_eq q id ≡ b → cond (nat_eq q id) false (cond (nat_eq q id) true (live q)) ≡ live q
        go true p = let same : q ≡ id = grind (arith, nat_tests) in rw p (sym (ap live same ∙ h))
        go false p = rw p refl

twice : (b : Bool) (x y z : Option Stage) → cond b x (cond b y z) ≡ cond b x z
twice true x y z = refl
twice false x y z = refl

pub set_twice : (id : ℕ) (x y : Option Stage) (es fs gs : List (ℕ × Stage)) → ((q : ℕ) → stage_at fs q ≡ cond (nat_eq id q) y (stage_at es q)) → ((q : ℕ) → stage_at gs q ≡ cond (nat_eq id q) x (stage_at fs q)) → (q : ℕ) → stage_at gs q ≡ cond (nat_eq id q) x (stage_at es q)
set_twice id x y es fs gs f g q = g q ∙ ap (cond (nat_eq id q) x) (f q) ∙ twice (nat_eq id q) x y (stage_at es q)

pub set_here : (id : ℕ) (x : Option Stage) (es fs : List (ℕ × Stage)) → ((q : ℕ) → stage_at fs q ≡ cond (nat_eq id q) x (stage_at es q)) → stage_at fs id ≡ x
set_here id x es fs f = f id ∙ (let yes : nat_eq id id ≡ true = grind (arith, nat_tests) in rw yes refl)

no_stage : (o : Option Stage) → is_some o ≡ false → o ≡ None
no_stage None h = refl
no_stage (Some x) h = absurd (cc)

-- an id that is not live has no stage, and is not live in the inner source
pub idle : (id : ℕ) (inner : ℕ → Bool) (es : List (ℕ × Stage)) → IsLinked inner es → has_stage es id ≡ false → (stage_at es id ≡ None) × (inner id ≡ false)
idle id inner es l h = let none = no_stage (stage_at es id) h in (none, l id ∙ ap is_asked none)

pub always_err : {U N : Type 0} (r : Result U N) (P : Type 0) → P → OnErr r P
always_err (Ok x) P p = tt
always_err (Err e) P p = p

-- a lookup that asked nothing leaves the live ids of the source
pub no_memory_live : {C S : Type 0} (cache : C → CacheState ℕ) (gets : C → ℕ → C → CacheGet → Type 0) (source : S → SourceState) (id : ℕ) (c d : C) (s t : S) → Looks cache gets source id c d s t looked.NoMemory → (source t).live ≡ (source s).live
no_memory_live cache gets source id c d s t (inl l) = ap (λ x. (source x).live) l.1
no_memory_live cache gets source id c d s t (inr l) = l.1.live
