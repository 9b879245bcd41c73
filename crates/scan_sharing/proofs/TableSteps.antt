-- What the calls of a table do to its entries, as steps of the table.
use Rattle.std.proofs.Common.{◌≡◌, ℕ, ◌+◌, ◌≤◌, List, [], ◌∷◌, length, Bool, true, false, cond, nat_lt, Option, Some, None, is_none, is_some, Result, Ok, Err, OnOk, OnErr, inl, inr, refl, sym, ap, ◌∙◌, subst, arith}
use Rattle.std.specs.Ordering.{nat_cmp}
use Rattle.std.proofs.lemmas.Bool.Decides.{nat_tests}
use Rattle.std.specs.BTreeMap.{is_at}
use Rattle.std.specs.Map.{set_value}
use Rattle.scan_segments.specs.Source.{SourceState, without, without_live}
use Rattle.scan_sharing.specs.Sharing.{Held, joined, kept, with_holder, without_holder, is_held, is_live, open_of, entry_at, owed, Same, Agree}
use Rattle.scan_sharing.specs.declared.holder.SharedAnswer.{SharedAnswer}
use Rattle.scan_sharing.specs.SharedTables.{Moves, without_number, has_others, Rests, PollsEntry, Polls}
use Rattle.scan_sharing.proofs.Agrees.{agrees_ended, agrees_stay, agrees_last}
use Rattle.scan_sharing.proofs.Holders.{insert_long}
use Rattle.scan_sharing.proofs.Slots.{Entries, joins, answers, debt, owed-set, unwritten, lighter}

module _ {U N : Type 0} where
  pub joins_ok : (r : Result U N) (id n : ℕ) (e f : Held SharedAnswer) (es fs : Entries) → entry_at es id ≡ Some e → OnOk r (f ≡ joined n (Some e)) → Moves id (Some f) es fs → OnOk r (Same (entry_at fs) (with_holder n id (entry_at es)))
  joins_ok (Ok x) id n e f es fs there is m = joins id n e es fs there (subst (λ (y : Held SharedAnswer). Moves id (Some y) es fs) is m)
  joins_ok (Err x) id n e f es fs there is m = tt

  pub joins_err : (r : Result U N) (id : ℕ) (e f : Held SharedAnswer) (es fs : Entries) → entry_at es id ≡ Some e → OnErr r (f ≡ e) → fs ≡ set_value (is_at (nat_cmp id)) es f → OnErr r (fs ≡ es)
  joins_err (Ok x) id e f es fs there is m = tt
  joins_err (Err x) id e f es fs there is m = m ∙ ap (set_value (is_at (nat_cmp id)) es) is ∙ unwritten (is_at (nat_cmp id)) es e there

  pub joins_owed : (r : Result U N) (id n : ℕ) (e f : Held SharedAnswer) (es fs : Entries) → entry_at es id ≡ Some e → OnOk r (f ≡ joined n (Some e)) → fs ≡ set_value (is_at (nat_cmp id)) es f → OnOk r (owed fs ≤ owed es + 1)
  joins_owed (Ok x) id n e f es fs there is m =
      let o = owed-set (is_at (nat_cmp id)) es e f there in
      let s = ap owed m in
      let d = ap debt is in
      let l = insert_long n e.holders in
      omega arith
  joins_owed (Err x) id n e f es fs there is m = tt

open_none : (o : Option SharedAnswer) → is_none o ≡ true → open_of o ≡ 1
open_none None h = refl
open_none (Some a) h = absurd (cc)

pub polls : (fits : ℕ → List ℕ → Type 0) (old new : SourceState) (id : ℕ) (e f : Held SharedAnswer) (es fs : Entries) → entry_at es id ≡ Some e → PollsEntry fits id old new e f → Moves id (Some f) es fs → fs ≡ set_value (is_at (nat_cmp id)) es f → Polls fits old new es fs id
polls fits old new id e f es fs there (inl p) m is = inl (is ∙ ap (set_value (is_at (nat_cmp id)) es) p.0 ∙ unwritten (is_at (nat_cmp id)) es e there, subst (Rests old new) (sym there) p.1)
polls fits old new id e f es fs there (inr p) m is =
    let o = owed-set (is_at (nat_cmp id)) es e f there in
    let s = ap owed is in
    let d = ap debt p.kept in
    let n = open_none e.answer p.was_live in
    inr (record { answer = p.answer; was_live = ap is_live there ∙ p.was_live; source = p.source; found = p.found; step = answers id p.answer e f es fs there p.kept m; lighter = omega arith })

pub polls_agree : (fits : ℕ → List ℕ → Type 0) (old new : SourceState) (id : ℕ) (es fs : Entries) → Agree old.live (entry_at es) → Polls fits old new es fs id → Agree new.live (entry_at fs)
polls_agree fits old new id es fs h (inr p) = agrees_ended old.live new.live (entry_at es) (entry_at fs) id p.answer p.source.live h p.step
polls_agree fits old new id es fs h (inl p) = subst (λ (q : (ℕ → Bool) × Entries). Agree q.0 (entry_at q.1)) (λ i. (sym (same p.1) i, sym p.0 i)) h
  where
    same : Rests old new (entry_at es id) → new.live ≡ old.live
    same (inl r) = ap (λ (s : SourceState). s.live) r.1
    same (inr r) = r.1.live

pub takes : (id n : ℕ) (e f : Held SharedAnswer) (es fs : Entries) → entry_at es id ≡ Some e → f ≡ without_number n (Some e) → Moves id (Some f) es fs → Moves id (Some (without_number n (entry_at es id))) es fs
takes id n e f es fs there is m = subst (λ (y : Held SharedAnswer). Moves id (Some y) es fs) (is ∙ ap (without_number n) (sym there)) m

pub takes_owed : (id n : ℕ) (e f : Held SharedAnswer) (es fs : Entries) → is_held n (entry_at es id) ≡ true → entry_at es id ≡ Some e → f ≡ without_number n (Some e) → fs ≡ set_value (is_at (nat_cmp id)) es f → owed fs + 1 ≤ owed es
takes_owed id n e f es fs held there is m =
    let o = owed-set (is_at (nat_cmp id)) es e f there in
    let s = ap owed m in
    let d = ap debt is in
    let l = lighter n e (sym (ap (is_held n) there) ∙ held) in
    omega arith

pub takes_others : (n : ℕ) (e f : Held SharedAnswer) (o : Option (Held SharedAnswer)) (b : Bool) → o ≡ Some e → f ≡ without_number n (Some e) → b ≡ has_others f → b ≡ has_others (without_number n o)
takes_others n e f o b there is h = h ∙ ap has_others (is ∙ ap (without_number n) (sym there))

kept_is : (ns : List ℕ) (a : Option SharedAnswer) (b : Bool) → nat_lt 0 (length ns) ≡ b → is_some (kept ns a) ≡ b
kept_is [] a b h = h
kept_is (n ∷ ns) a b h = let some : nat_lt 0 (length (n ∷ ns)) ≡ true = grind (arith, nat_tests) in sym some ∙ h

gone : (ns : List ℕ) (a : Option SharedAnswer) → nat_lt 0 (length ns) ≡ false → kept ns a ≡ None
gone [] a h = refl
gone (n ∷ ns) a h = let some : nat_lt 0 (length (n ∷ ns)) ≡ true = grind (arith, nat_tests) in absurd (cc)

-- a holder went, and others are left
pub stays_agree : (live : ℕ → Bool) (id n : ℕ) (es fs : Entries) → Agree live (entry_at es) → is_held n (entry_at es id) ≡ true → has_others (without_number n (entry_at es id)) ≡ true → Same (entry_at fs) (without_holder n id (entry_at es)) → Agree live (entry_at fs)
stays_agree live id n es fs h held others same = go (entry_at es id) refl
  where
    go : (o : Option (Held SharedAnswer)) → entry_at es id ≡ o → Agree live (entry_at fs)
    go None there = let no = sym (ap (is_held n) there) ∙ held in absurd (cc)
    go (Some e) there = agrees_stay live (entry_at es) (entry_at fs) n id e h there (kept_is (without n e.holders) e.answer true (sym (ap (λ x. has_others (without_number n x)) there) ∙ others)) same

-- the last holder went
pub ends_agree : (live live' : ℕ → Bool) (id n : ℕ) (b : Bool) (es fs : Entries) → Agree live (entry_at es) → is_held n (entry_at es id) ≡ true
    → has_others (without_number n (entry_at es id)) ≡ false → is_live (entry_at es id) ≡ b → live' ≡ cond b (without_live id live) live
    → Same (entry_at fs) (without_holder n id (entry_at es)) → Agree live' (entry_at fs)
ends_agree live live' id n b es fs h held others dead is same = go (entry_at es id) refl
  where
    go : (o : Option (Held SharedAnswer)) → entry_at es id ≡ o → Agree live' (entry_at fs)
    go None there = let no = sym (ap (is_held n) there) ∙ held in absurd (cc)
    go (Some e) there =
        let none : is_none e.answer ≡ b = sym (ap is_live there) ∙ dead in
        agrees_last live live' (entry_at es) (entry_at fs) n id e h there (gone (without n e.holders) e.answer (sym (ap (λ x. has_others (without_number n x)) there) ∙ others)) same
        (is ∙ ap (λ c. cond c (without_live id live) live) (sym none))

-- whether a request is live without one of its holders
pub live_without : (n : ℕ) (o : Option (Held SharedAnswer)) → is_held n o ≡ true → is_live (Some (without_number n o)) ≡ is_live o
live_without n None h = absurd (cc)
live_without n (Some e) h = refl
