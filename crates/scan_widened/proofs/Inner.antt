-- A source under another dtype keeps the file's own.
use Rattle.std.proofs.Common.{◌≡◌, ℕ, zero, suc, ◌<◌, ◌≤◌, ◌^◌, ◌+◌, ◌-◌, List, [], ◌∷◌, ◌++◌, length, take, map, arith, refl, sym, subst, ap, ◌∙◌, Bool, true, false, Option, Some, None, All, Contains, IfSome, is_some, length-append, append_assoc}
use Rattle.std.specs.Prelude.{nat_lt, option_map, slice_get, option_and_then}
use Rattle.std.proofs.lemmas.Bool.{le-ltb}
use Rattle.std.proofs.lemmas.List.Elements.{All-weaker}
use Rattle.scan_segments.specs.Faults.{Rose}
use Rattle.scan_segments.specs.Source.{Store, SourceState, none_live}
use Rattle.scan_sharing.specs.declared.holder.SharedAnswer.{SharedAnswer}
use Rattle.scan_sharing.specs.Sharing.{Held, entry_at, is_live}
use Rattle.scan_widen.specs.declared.behind.Behind.{Behind}
use Rattle.scan_widen.specs.Stores.{inner_id}
use Rattle.scan_widened.specs.Identity.{marks, beside, code_of, inner_of, UnionParts, union_state, first_asked}
use Rattle.scan_widened.specs.Follows.{StandsBehind, HasInner, IsUnion, Moves, IsFresh, Follows}
use Rattle.scan_widened.specs.Sources.{has_stage, IsTied, IsWhole, UnionState, parts_of, fresh, Follow}
use Rattle.scan_widened.specs.declared.stage.Stage.{Stage}
use Rattle.scan_widened.proofs.Told.{front}

-- ---- lists that are known by their lengths
app_same : (xs ys us vs : List ℕ) → length xs ≡ length us → xs ++ ys ≡ us ++ vs → (xs ≡ us) × (ys ≡ vs)
app_same [] ys [] vs h e = (refl, e)
app_same [] ys (u ∷ us) vs h e = absurd (omega (arith, h))
app_same (x ∷ xs) ys [] vs h e = absurd (omega (arith, h))
app_same (x ∷ xs) ys (u ∷ us) vs h e =
    let head : x ≡ u = cc in
    let tail : xs ++ ys ≡ us ++ vs = cc in
    let more = app_same xs ys us vs (omega (arith, h)) tail in
    ((λ i. head i ∷ more.0 i), more.1)

pub record Same (b c : ℕ) (f g m n xs ys : List ℕ) : Type 0 where
  pub before : b ≡ c
  pub first : f ≡ g
  pub codes : m ≡ n
  pub rest : xs ≡ ys

pub marks_same : (b c : ℕ) (f g m n xs ys : List ℕ) → marks b f m ++ xs ≡ marks c g n ++ ys → Same b c f g m n xs ys
marks_same b c f g m n xs ys e =
    let lf : length f ≡ length g = cc in
    let lm : length m ≡ length n = cc in
    let bc : b ≡ c = cc in
    let all : (f ++ m) ++ xs ≡ (g ++ n) ++ ys = cc in
    let both : length (f ++ m) ≡ length (g ++ n) = length-append f m ∙ (λ i. lf i + lm i) ∙ sym (length-append g n) in
    let outer = app_same (f ++ m) xs (g ++ n) ys both all in
    let inner = app_same f m g n lf outer.0 in
    record { before = bc; first = inner.0; codes = inner.1; rest = outer.1 }

-- ---- what is held
past : (behind : List Behind) (s : Store) (id : ℕ) → beside behind s (id + 2 ^ 32) ≡ s id
past behind s id =
    let above : nat_lt (id + 2 ^ 32) (2 ^ 32) ≡ false = le-ltb (id + 2 ^ 32) (2 ^ 32) (omega arith) in
    let back : id + 2 ^ 32 - 2 ^ 32 ≡ id = omega arith in
    rw above (ap s back)

held_same : (a b : List Behind) (s t : Option Store) → option_map (beside a) s ≡ option_map (beside b) t → s ≡ t
held_same a b None None e = refl
held_same a b None (Some t) e = absurd cc
held_same a b (Some s) None e = absurd cc
held_same a b (Some s) (Some t) e =
    let same : beside a s ≡ beside b t = cc in
    ap Some (λ i id. (sym (past a s id) ∙ ap (λ f. f (id + 2 ^ 32)) same ∙ past b t id) i)

-- ---- what stands behind
code_same : (o p : Option ℕ) → code_of o ≡ code_of p → o ≡ p
code_same None None e = refl
code_same None (Some n) e = absurd (omega (arith, e))
code_same (Some m) None e = absurd (omega (arith, e))
code_same (Some m) (Some n) e = let is : m ≡ n = omega (arith, e) in ap Some is

codes_same : (a b : List Behind) → map (λ x. code_of (inner_id x)) a ≡ map (λ x. code_of (inner_id x)) b → (k : ℕ)
    → option_and_then inner_id (slice_get a k) ≡ option_and_then inner_id (slice_get b k)
codes_same [] [] e k = refl
codes_same [] (y ∷ b) e k = absurd cc
codes_same (x ∷ a) [] e k = absurd cc
codes_same (x ∷ a) (y ∷ b) e zero = let head : code_of (inner_id x) ≡ code_of (inner_id y) = cc in code_same (inner_id x) (inner_id y) head
codes_same (x ∷ a) (y ∷ b) e (suc k) = let tail : map (λ z. code_of (inner_id z)) a ≡ map (λ z. code_of (inner_id z)) b = cc in codes_same a b tail k

append_nil : (xs : List ℕ) → xs ++ [] ≡ xs
append_nil [] = refl
append_nil (x ∷ xs) = ap (λ ys. x ∷ ys) (append_nil xs)

-- ---- the law
-- the source that it stands over is known by what it tells as a source
same_marks : (u v : UnionParts) (m : Moves (union_state u) (union_state v))
    → Same v.before u.before (first_asked v) (first_asked u) (map (λ b. code_of (inner_id b)) v.behind) (map (λ b. code_of (inner_id b)) u.behind) v.asked (u.asked ++ m.ids)
same_marks u v m =
    let codes_u : List ℕ = map (λ b. code_of (inner_id b)) u.behind in
    let codes_v : List ℕ = map (λ b. code_of (inner_id b)) v.behind in
    marks_same v.before u.before (first_asked v) (first_asked u) codes_v codes_u v.asked (u.asked ++ m.ids)
    (m.asked ∙ append_assoc (marks u.before (first_asked u) codes_u) u.asked m.ids)

-- the same segments stand behind
pub stands_same : (u v : UnionParts) → Moves (union_state u) (union_state v) → (k : ℕ) → inner_of v.behind k ≡ inner_of u.behind k
stands_same u v m k = codes_same v.behind u.behind (same_marks u v m).codes k

pub inner_follows : (u v : UnionParts) → IsFresh u → IsUnion v → (v.live ≡ none_live → v.inner.live ≡ none_live)
    → (m : Moves (union_state u) (union_state v)) → Follows u.behind m.ids (union_state u) (union_state v) u.inner v.inner
inner_follows u v fresh iv idle m =
    let same = same_marks u v m in
    let all : first_asked u ≡ u.inner.asked = (λ i. take (length u.inner.asked - length (fresh.inner_asked i)) u.inner.asked) ∙ front u.inner.asked [] u.inner.asked (sym (append_nil u.inner.asked)) in
    let ids : v.asked ≡ m.ids = same.rest ∙ ap (λ xs. xs ++ m.ids) fresh.asked in
    let before : v.before ≡ u.inner.faults = same.before ∙ fresh.before in
    record {
      holds = held_same v.behind u.behind v.inner.holds u.inner.holds m.holds;
      faults = subst (λ n. n ≤ v.inner.faults) before iv.least;
      turns = m.turns;
      can_fail = m.can_fail;
      idle = idle (m.live ∙ fresh.live);
      inner_ids = v.inner_asked;
      asked = iv.asks ∙ ap (λ xs. xs ++ v.inner_asked) (same.first ∙ all);
      from = All-weaker (StandsBehind v.behind v.asked) (StandsBehind u.behind m.ids)
          (λ id h. (h.0, subst (λ xs. Contains xs h.0) ids h.1, sym (stands_same u v m h.0) ∙ h.2)) v.inner_asked iv.behind;
      each = subst (λ xs. All (HasInner u.behind v.inner_asked) xs) ids (All-weaker (HasInner v.behind v.inner_asked) (HasInner u.behind v.inner_asked)
          (λ k h. subst (λ o. IfSome o (λ id. Contains v.inner_asked id)) (stands_same u v m k) h) v.asked iv.each);
      failed = λ rose. let none = fresh.faults in let some : 0 < v.faults = omega (arith, rose, none) in subst (λ n. Rose n v.inner.faults) before (iv.failed some).0;
    }

-- nothing is live there where nothing is live here
no_entry : (s : SourceState) (b : ℕ) (behind : List Behind) (t : List (ℕ × Held SharedAnswer)) (st : List (ℕ × Stage)) → IsTied s b behind t st → has_stage st ≡ none_live → (id : ℕ) → s.live id ≡ none_live id
no_entry s b behind t st tied none id = tied.agree id ∙ go (entry_at t id) refl
  where
    go : (o : Option (Held SharedAnswer)) → entry_at t id ≡ o → is_live o ≡ false
    go None e = refl
    go (Some h) e =
        let there : is_some (entry_at t id) ≡ true = ap is_some e in
        let one = tied.some id there in
        let staged = tied.each id one.0 one.1 in
        let yes : has_stage st staged.0 ≡ true = ap is_some staged.1 in
        let bad : true ≡ false = sym yes ∙ ap (λ (f : ℕ → Bool). f staged.0) none in
        absurd cc

no_stage : (k : ℕ) → has_stage [] k ≡ none_live k
no_stage k = refl

module _ {S : Type 0} (source : S → SourceState) where
  pub follows : (u : UnionState S) → IsWhole source u → Follow source u
  follows u whole = λ inner behind m. inner_follows (parts_of source (fresh source inner behind)) (parts_of source u)
      (record { before = refl; asked = refl; inner_asked = refl; live = λ i k. no_stage k i; faults = refl }) whole.union
      (λ none. λ i id. no_entry (source u.inner) u.before u.behind u.table u.stages whole.tied none id i) m
