-- A list of entries under rising ids as a table: what a write, a new entry and a removal do.
use Rattle.std.proofs.Common.{◌≡◌, ℕ, ◌+◌, ◌≤◌, List, [], ◌∷◌, length, Bool, true, false, ◌||◌, cond, eqb, nat_lt, Option, Some, None, is_some, refl, sym, ap, ◌∙◌, arith}
use Rattle.std.specs.Prelude.{IfSome}
use Rattle.std.specs.List.{list_any}
use Rattle.std.specs.Ordering.{nat_cmp}
use Rattle.std.specs.BTreeMap.{is_at, insert_entry}
use Rattle.std.specs.Map.{lookup, values_of, remove_entry, set_value}
use Rattle.std.proofs.lemmas.Bool.Decides.{nat_tests}
use Rattle.scan_segments.specs.Source.{without, has}
use Rattle.scan_sharing.specs.Sharing.{Held, joined, kept, left, answered, with_holder, with_answer, without_holder, is_held, open_of, entry_at, owed, Same}
use Rattle.scan_sharing.specs.declared.holder.SharedAnswer.{SharedAnswer}
use Rattle.scan_sharing.specs.SharedTables.{Moves, begun, without_number, has_others}
use Rattle.scan_segments.proofs.LiveSets.{at-id}

abbrev pub Entries : Type 0
Entries = List (ℕ × Held SharedAnswer)

pub moved : (id : ℕ) (x : Option (Held SharedAnswer)) (es fs : Entries) → Moves id x es fs → (q : ℕ) → entry_at fs q ≡ cond (eqb q id) x (entry_at es q)
moved id x es fs m q = m q ∙ ap (λ b. cond b x (entry_at es q)) (at-id id q)

pub here : (id : ℕ) (x : Option (Held SharedAnswer)) (es fs : Entries) → Moves id x es fs → entry_at fs id ≡ x
here id x es fs m = moved id x es fs m id ∙ (let same : eqb id id ≡ true = grind (arith, nat_tests) in rw same refl)

pub joins : (id n : ℕ) (e : Held SharedAnswer) (es fs : Entries) → entry_at es id ≡ Some e → Moves id (Some (joined n (Some e))) es fs → Same (entry_at fs) (with_holder n id (entry_at es))
joins id n e es fs there m i = moved id _ es fs m i ∙ ap (λ x. cond (eqb i id) (Some (joined n x)) (entry_at es i)) (sym there)

pub begins : (id n : ℕ) (es fs : Entries) → entry_at es id ≡ None → Moves id (Some (begun n)) es fs → Same (entry_at fs) (with_holder n id (entry_at es))
begins id n es fs none m i = moved id _ es fs m i ∙ ap (λ x. cond (eqb i id) (Some (joined n x)) (entry_at es i)) (sym none)

pub answers : (id : ℕ) (a : SharedAnswer) (e f : Held SharedAnswer) (es fs : Entries) → entry_at es id ≡ Some e → f ≡ record { holders = e.holders; answer = Some a } → Moves id (Some f) es fs → Same (entry_at fs) (with_answer id a (entry_at es))
answers id a e f es fs there is m i = moved id _ es fs m i ∙ ap (λ x. cond (eqb i id) (Some x) (entry_at es i)) is ∙ ap (λ x. cond (eqb i id) (answered a x) (entry_at es i)) (sym there)

kept_some : (ns : List ℕ) (a : Option SharedAnswer) → nat_lt 0 (length ns) ≡ true → kept ns a ≡ Some (record { holders = ns; answer = a })
kept_some [] a h = absurd (cc)
kept_some (n ∷ ns) a h = refl

kept_none : (ns : List ℕ) (a : Option SharedAnswer) → nat_lt 0 (length ns) ≡ false → kept ns a ≡ None
kept_none [] a h = refl
kept_none (n ∷ ns) a h = let some : nat_lt 0 (length (n ∷ ns)) ≡ true = grind (arith, nat_tests) in absurd (cc)

-- what is left of an entry, where it has other holders and where it has none
pub left_some : (n : ℕ) (e : Option (Held SharedAnswer)) → is_held n e ≡ true → has_others (without_number n e) ≡ true → left n e ≡ Some (without_number n e)
left_some n None held h = absurd (cc)
left_some n (Some e) held h = kept_some (without n e.holders) e.answer h

pub left_none : (n : ℕ) (e : Option (Held SharedAnswer)) → has_others (without_number n e) ≡ false → left n e ≡ None
left_none n None h = refl
left_none n (Some e) h = kept_none (without n e.holders) e.answer h

pub leaves : (id n : ℕ) (x : Option (Held SharedAnswer)) (es fs : Entries) → left n (entry_at es id) ≡ x → Moves id x es fs → Same (entry_at fs) (without_holder n id (entry_at es))
leaves id n x es fs is m i = moved id _ es fs m i ∙ ap (λ y. cond (eqb i id) y (entry_at es i)) (sym is)

twice : (b : Bool) (x y z : Option (Held SharedAnswer)) → cond b x (cond b y z) ≡ cond b x z
twice true x y z = refl
twice false x y z = refl

-- an entry that was written, and is then taken out
pub moves_twice : (id : ℕ) (x y : Option (Held SharedAnswer)) (es fs gs : Entries) → Moves id y es fs → Moves id x fs gs → Moves id x es gs
moves_twice id x y es fs gs m k q = k q ∙ ap (cond (is_at (nat_cmp id) q) x) (m q) ∙ twice (is_at (nat_cmp id) q) x y (entry_at es q)

-- what one entry owes
abbrev pub debt : Held SharedAnswer → ℕ
debt e = length e.holders + open_of e.answer

some_is : {X : Type 0} (x y : X) → Some x ≡ Some y → x ≡ y
some_is x y e = cc

set_step : (b : Bool) (t : ℕ → Bool) (e : ℕ × Held SharedAnswer) (es : Entries) (v w : Held SharedAnswer) → t e.0 ≡ b → (lookup t es ≡ Some v → owed (set_value t es w) + debt v ≡ owed es + debt w) → lookup t (e ∷ es) ≡ Some v → owed (set_value t (e ∷ es) w) + debt v ≡ owed (e ∷ es) + debt w
set_step true t e es v w eq ih h = let k : Some e.1 ≡ Some v = rw eq at h in let same = ap debt (some_is e.1 v k) in rw eq (omega arith)
set_step false t e es v w eq ih h = let k : lookup t es ≡ Some v = rw eq at h in let i = ih k in rw eq (omega arith)

pub owed-set : (t : ℕ → Bool) (es : Entries) (v w : Held SharedAnswer) → lookup t es ≡ Some v → owed (set_value t es w) + debt v ≡ owed es + debt w
owed-set t [] v w h = absurd (cc)
owed-set t (e ∷ es) v w h = set_step (t e.0) t e es v w refl (owed-set t es v w) h

remove_step : (b : Bool) (t : ℕ → Bool) (e : ℕ × Held SharedAnswer) (es : Entries) → t e.0 ≡ b → owed (remove_entry t es) ≤ owed es → owed (remove_entry t (e ∷ es)) ≤ owed (e ∷ es)
remove_step true t e es eq ih = rw eq (omega arith)
remove_step false t e es eq ih = rw eq (omega arith)

pub owed-remove : (t : ℕ → Bool) (es : Entries) → owed (remove_entry t es) ≤ owed es
owed-remove t [] = omega arith
owed-remove t (e ∷ es) = remove_step (t e.0) t e es refl (owed-remove t es)

insert_step : (a b : Bool) (id : ℕ) (e : ℕ × Held SharedAnswer) (es : Entries) (v : Held SharedAnswer) → nat_lt id e.0 ≡ a → eqb id e.0 ≡ b
    → (entry_at es id ≡ None → owed (insert_entry nat_cmp es id v) ≡ owed es + debt v) → entry_at (e ∷ es) id ≡ None
    → owed (insert_entry nat_cmp (e ∷ es) id v) ≡ owed (e ∷ es) + debt v
insert_step true b id e es v p q ih h = rw p (omega arith)
insert_step false true id e es v p q ih h = let k : Some e.1 ≡ None = rw (p, q) at h in absurd (cc)
insert_step false false id e es v p q ih h = let k : entry_at es id ≡ None = rw (p, q) at h in let i = ih k in rw (p, q) (omega arith)

pub owed-insert : (es : Entries) (id : ℕ) (v : Held SharedAnswer) → entry_at es id ≡ None → owed (insert_entry nat_cmp es id v) ≡ owed es + debt v
owed-insert [] id v h = omega arith
owed-insert (e ∷ es) id v h = insert_step (nat_lt id e.0) (eqb id e.0) id e es v refl refl (owed-insert es id v) h

undo_step : (a b : Bool) (id : ℕ) (e : ℕ × Held SharedAnswer) (es : Entries) (v : Held SharedAnswer) → nat_lt id e.0 ≡ a → eqb id e.0 ≡ b
    → (entry_at es id ≡ None → remove_entry (is_at (nat_cmp id)) (insert_entry nat_cmp es id v) ≡ es) → entry_at (e ∷ es) id ≡ None
    → remove_entry (is_at (nat_cmp id)) (insert_entry nat_cmp (e ∷ es) id v) ≡ e ∷ es
undo_step true b id e es v p q ih h = let same : is_at (nat_cmp id) id ≡ true = at-id id id ∙ grind (arith, nat_tests) in rw p (ap (λ t. cond t (e ∷ es) ((id, v) ∷ remove_entry (is_at (nat_cmp id)) (e ∷ es))) same)
undo_step false true id e es v p q ih h = let k : Some e.1 ≡ None = rw (p, q) at h in absurd (cc)
undo_step false false id e es v p q ih h = let k : entry_at es id ≡ None = rw (p, q) at h in rw (p, q) (rw (p, q) (ap (λ fs. e ∷ fs) (ih k)))

-- a new entry that is taken out again
pub undone : (es : Entries) (id : ℕ) (v : Held SharedAnswer) → entry_at es id ≡ None → remove_entry (is_at (nat_cmp id)) (insert_entry nat_cmp es id v) ≡ es
undone [] id v h = let same : is_at (nat_cmp id) id ≡ true = at-id id id ∙ grind (arith, nat_tests) in ap (λ t. cond t [] ((id, v) ∷ [])) same
undone (e ∷ es) id v h = undo_step (nat_lt id e.0) (eqb id e.0) id e es v refl refl (undone es id v) h

same_step : (b : Bool) (t : ℕ → Bool) (e : ℕ × Held SharedAnswer) (es : Entries) (v : Held SharedAnswer) → t e.0 ≡ b → (lookup t es ≡ Some v → set_value t es v ≡ es) → lookup t (e ∷ es) ≡ Some v → set_value t (e ∷ es) v ≡ e ∷ es
same_step true t e es v eq ih h = let k : Some e.1 ≡ Some v = rw eq at h in rw eq (ap (λ x. (e.0, x) ∷ es) (sym (some_is e.1 v k)))
same_step false t e es v eq ih h = let k : lookup t es ≡ Some v = rw eq at h in rw eq (ap (λ fs. e ∷ fs) (ih k))

-- an entry that is written as it was
pub unwritten : (t : ℕ → Bool) (es : Entries) (v : Held SharedAnswer) → lookup t es ≡ Some v → set_value t es v ≡ es
unwritten t [] v h = absurd (cc)
unwritten t (e ∷ es) v h = same_step (t e.0) t e es v refl (unwritten t es v) h

without_le : (n : ℕ) (xs : List ℕ) → length (without n xs) ≤ length xs
without_le n [] = omega arith
without_le n (x ∷ xs) = go (eqb x n) refl (without_le n xs)
  where
    go : (b : Bool) → eqb x n ≡ b → length (without n xs) ≤ length xs → length (without n (x ∷ xs)) ≤ length (x ∷ xs)
    go true eq ih = rw eq (omega arith)
    go false eq ih = rw eq (omega arith)

without_step : (b : Bool) (n x : ℕ) (xs : List ℕ) → eqb x n ≡ b → (has n xs ≡ true → length (without n xs) + 1 ≤ length xs) → has n (x ∷ xs) ≡ true → length (without n (x ∷ xs)) + 1 ≤ length (x ∷ xs)
without_step true n x xs eq ih h = let le = without_le n xs in rw eq (omega arith)
without_step false n x xs eq ih h = let k = ih (rw eq at h) in rw eq (omega arith)

-- one that is there is taken out
without_one : (n : ℕ) (xs : List ℕ) → has n xs ≡ true → length (without n xs) + 1 ≤ length xs
without_one n [] h = absurd (cc)
without_one n (x ∷ xs) h = without_step (eqb x n) n x xs refl (without_one n xs) h

-- an entry owes less without one of its holders
pub lighter : (n : ℕ) (e : Held SharedAnswer) → has n e.holders ≡ true → debt (without_number n (Some e)) + 1 ≤ debt e
lighter n e h = let one = without_one n e.holders h in omega arith

neither : (a b : Bool) → (a || b) ≡ false → (a ≡ false) × (b ≡ false)
neither true b e = absurd (cc)
neither false b e = (refl, e)

unused_step : (b : Bool) (n i : ℕ) (e : ℕ × Held SharedAnswer) (es : Entries) → is_at (nat_cmp i) e.0 ≡ b → has n e.1.holders ≡ false → is_held n (entry_at es i) ≡ false → is_held n (cond (is_at (nat_cmp i) e.0) (Some e.1) (entry_at es i)) ≡ false
unused_step true n i e es eq none rest = rw eq none
unused_step false n i e es eq none rest = rw eq rest

-- a number that no entry has is that of no holder
unused : (n : ℕ) (es : Entries) (i : ℕ) → list_any (λ (e : Held SharedAnswer). has n e.holders) (values_of es) ≡ false → is_held n (entry_at es i) ≡ false
unused n [] i h = refl
unused n (e ∷ es) i h = let k = neither _ _ h in unused_step (is_at (nat_cmp i) e.0) n i e es refl k.0 (unused n es i k.1)

pub unused_if : (o : Option ℕ) (es : Entries) → IfSome o (λ n. list_any (λ (e : Held SharedAnswer). has n e.holders) (values_of es) ≡ false) → IfSome o (λ n. (i : ℕ) → is_held n (entry_at es i) ≡ false)
unused_if None es h = tt
unused_if (Some n) es h = λ i. unused n es i h

pub some_entry : (o : Option (Held SharedAnswer)) (n : ℕ) → is_held n o ≡ true → is_some o ≡ true
some_entry None n h = absurd (cc)
some_entry (Some e) n h = refl

pub none_entry : (o : Option (Held SharedAnswer)) (b : Bool) → b ≡ is_some o → b ≡ false → o ≡ None
none_entry None b is off = refl
none_entry (Some e) b is off = absurd (cc)
