-- What a run answers of its input, where all went well.
use Rattle.std.proofs.Common.{◌≡◌, inl, inr, ℕ, List, Option, None, Some, refl, sym, ◌∙◌, subst}
use Rattle.std.specs.Prelude.{All, IfSome}
use Rattle.scan_expr.specs.Typing.{Fault}
use Rattle.scan_expr.specs.declared.op.BindFault.{BindFault}
use Rattle.scan_run.specs.Io.{InputState, OutputState}
use Rattle.scan_lookup_run.specs.Jobs.{IsJob}
use Rattle.scan_lookup_run.specs.Replied.{IsAnswered, places_of}
use Rattle.scan_lookup_run.specs.Runs.{Answers, EndsLookup, IsBound, IsGiven, IsLookupReady, IsSound, IsUnbound, NeverFails, WentWell}
use Rattle.scan_lookup_run.specs.declared.reading.Job.{Job}
use Rattle.scan_lookup_run.proofs.Parsing.{one_job}

told_of : (P : List ℕ → Type 0) (bytes : List ℕ) (left : Option (List ℕ)) → left ≡ Some bytes → IfSome left P → P bytes
told_of P bytes left e h = subst (λ o. IfSome o P) e h

given_asks : (bytes : List ℕ) (old new : InputState) (j : Job) → old.left ≡ Some bytes → IsGiven j old new → IsJob bytes j
given_asks bytes old new j e g = subst (λ xs. IsJob xs j) (subst (λ o. IfSome o (λ told. g.bytes ≡ told)) e g.all.all) g.asks

-- want of memory answers anything
out_of_memory : (bytes : List ℕ) (s : ℕ) → s ≡ 7 → Answers bytes s
out_of_memory bytes s e = record { none = λ h. inr e; unbound = λ j is f. inr e; unanswered = λ j is b n h. inr e; lines = λ j is ok n. inr e }

no_clash : {X : Type 0} (f : Fault) (e : BindFault) → f ≡ None → f ≡ Some e → X
no_clash f e h k = absurd (let c : ◌≡◌ {A = Option BindFault} None (Some e) = sym h ∙ k in cc)

module _ (bytes : List ℕ) (old new : InputState) (output output' : OutputState) (w : WentWell bytes old new output output') where
  module _ (s : ℕ) (j : Job) (g : IsGiven j old new) where
    here : IsJob bytes j
    here = given_asks bytes old new j w.told g

    -- whatever job these bytes ask for, it is this one
    of_job : (P : Job → Type 0) (k : Job) → IsJob bytes k → P k → P j
    of_job P k is h = subst P (one_job bytes k j is here) h

    unbound_answers : s ≡ 3 → IsUnbound j → Answers bytes s
    unbound_answers e (f, h) = record {
      none = λ n. absurd (n j here);
      unbound = λ k is x. inl e;
      unanswered = λ k is b n x. no_clash _ f (of_job IsBound k is b) h;
      lines = λ k is ok n. no_clash _ f (of_job IsBound k is ok.bound) h;
    }

    -- a place that is bad
    bad_answers : s ≡ 4 → IsBound j → (IsSound j → ⊥) → Answers bytes s
    bad_answers e b bad = record {
      none = λ n. absurd (n j here);
      unbound = λ k is x. let u = of_job IsUnbound k is x in no_clash _ u.0 b u.1;
      unanswered = λ k is c n x. inl e;
      lines = λ k is ok n. absurd (bad (of_job IsSound k is ok));
    }

    -- what can fail
    failed_answers : IsBound j → (NeverFails j → ⊥) → Answers bytes s
    failed_answers b can = record {
      none = λ n. absurd (n j here);
      unbound = λ k is x. let u = of_job IsUnbound k is x in no_clash _ u.0 b u.1;
      unanswered = λ k is c n x. absurd (can (of_job NeverFails k is n));
      lines = λ k is ok n. absurd (can (of_job NeverFails k is n));
    }

  pub ready_answers : (text : List ℕ) → IsLookupReady text old new → Answers bytes 0
  ready_answers text (j, g, t) = record {
    none = λ n. absurd (n j (here 0 j g));
    unbound = λ k is x. let u = of_job 0 j g IsUnbound k is x in no_clash _ u.0 t.bound u.1;
    unanswered = λ k is b n x. absurd (of_job 0 j g (λ l. All (IsAnswered l) (places_of l) → ⊥) k is x t.answered);
    lines = λ k is ok n. inl refl;
  }

  pub end_answers : (s : ℕ) → EndsLookup s old new → Answers bytes s
  end_answers s (inl (inl (e, r))) =
      let none = told_of (λ xs. (j : Job) → ¬ IsJob xs j) bytes old.left w.told r.is in
      record { none = λ h. inl e; unbound = λ j is x. absurd (none j is); unanswered = λ j is b n h. absurd (none j is); lines = λ j is ok n. absurd (none j is) }
  end_answers s (inl (inr (inl (e, inl r)))) = absurd (w.read r)
  end_answers s (inl (inr (inl (e, inr t)))) = absurd (w.short t)
  end_answers s (inl (inr (inr e))) = out_of_memory bytes s e
  end_answers s (inr (j, g, inl (e, f))) = unbound_answers s j g e f
  end_answers s (inr (j, g, inr (inl (e, u)))) = bad_answers s j g e u.bound (λ ok. ok.good u.place u.among u.bad)
  end_answers s (inr (j, g, inr (inr (inl (e, f))))) = failed_answers s j g f.bound (λ n. n f.place f.file f.named f.failing)
  end_answers s (inr (j, g, inr (inr (inr e)))) = out_of_memory bytes s e

pub short_answers : (bytes : List ℕ) → Answers bytes 7
short_answers bytes = out_of_memory bytes 7 refl
