-- What printers write of the chunks that they take.
use Rattle.std.proofs.Common.{refl, sym, ap, ◌∙◌, append-nil, append_assoc, subst}
use Rattle.std.proofs.Math.Nat.{le_refl, le_trans}
use Rattle.std.proofs.lemmas.List.Concat.{flat_map-append}
use Rattle.std.specs.Prelude.{◌≡◌, ◌≤◌, ◌++◌, ℕ, List, [], Bool, true, false, Option, None, Some, option_map}
use Rattle.scan_drive.specs.Taking.{IsTaking}
use Rattle.scan_multi.specs.Output.{ChunkData}
use Rattle.scan_run.specs.Io.{OutputState}
use Rattle.scan_run.specs.Printed.{chunk_lines, chunks_lines}
use Rattle.scan_run.specs.WriteAll.{WroteFront}

-- what an output took, whether a write was refused, and which output it is
module _ {S N : Type 0} (out : S → OutputState) (failed : S → Bool) (name : S → N) where
  -- Once a write was refused nothing more is written.
  pub record Stops (old : S) (ts : List ChunkData) (new : S) : Type 0 where
    pub same : name new ≡ name old
    pub over : failed old ≡ true → (failed new ≡ true) × (out new ≡ out old)

  pub stops_taking : IsTaking Stops
  stops_taking = record {
    none = λ s. record { same = refl; over = λ h. (h, refl) };
    more = λ a b c xs ys p q. record { same = q.same ∙ p.same; over = λ h. ((q.over (p.over h).0).0, (q.over (p.over h).0).1 ∙ (p.over h).1) };
  }

  nothing_more : (o : Option (List ℕ)) → o ≡ option_map (λ b. b ++ []) o
  nothing_more None = refl
  nothing_more (Some b) = ap Some (sym (append-nil b))

  -- A front of the chunks' lines was written; where no write was refused, all of them.
  pub record Prints (old : S) (ts : List ChunkData) (new : S) : Type 0 where
    pub same : name new ≡ name old
    pub front : WroteFront (chunks_lines ts) (out old) (out new)
    pub whole : failed new ≡ false → (failed old ≡ false) × ((out new).written ≡ option_map (λ before. before ++ chunks_lines ts) (out old).written)
    -- once one was refused nothing more is written
    pub over : failed old ≡ true → (failed new ≡ true) × (out new ≡ out old)

  lines_both : (xs ys : List ChunkData) → chunks_lines (xs ++ ys) ≡ chunks_lines xs ++ chunks_lines ys
  lines_both xs ys = flat_map-append chunk_lines xs ys

  written_both : (a b : List ℕ) (o p q : Option (List ℕ)) → p ≡ option_map (λ w. w ++ a) o → q ≡ option_map (λ w. w ++ b) p → q ≡ option_map (λ w. w ++ (a ++ b)) o
  written_both a b None p q h k = k ∙ ap (option_map (λ w. w ++ b)) h
  written_both a b (Some w) p q h k = k ∙ (ap (option_map (λ v. v ++ b)) h ∙ ap Some (append_assoc w a b))

  -- nothing more is written behind what was written
  front_ends : (a b c : S) (xs ys : List ChunkData) → out c ≡ out b → WroteFront (chunks_lines xs) (out a) (out b) → WroteFront (chunks_lines (xs ++ ys)) (out a) (out c)
  front_ends a b c xs ys e f = record {
    front = f.front;
    rest = f.rest ++ chunks_lines ys;
    parts = lines_both xs ys ∙ (ap (λ t. t ++ chunks_lines ys) f.parts ∙ append_assoc f.front f.rest (chunks_lines ys));
    written = ap (λ o. o.written) e ∙ f.written;
    faults = subst (λ o. (out a).faults ≤ o.faults) (sym e) f.faults;
    short = subst (λ o. (out a).short ≤ o.short) (sym e) f.short;
    can_fail = ap (λ o. o.can_fail) e ∙ f.can_fail;
  }

  -- a front is written behind all lines of the chunks before
  front_goes : (a b c : S) (xs ys : List ChunkData) → WroteFront (chunks_lines xs) (out a) (out b) → (out b).written ≡ option_map (λ before. before ++ chunks_lines xs) (out a).written
      → WroteFront (chunks_lines ys) (out b) (out c) → WroteFront (chunks_lines (xs ++ ys)) (out a) (out c)
  front_goes a b c xs ys f w g = record {
    front = chunks_lines xs ++ g.front;
    rest = g.rest;
    parts = lines_both xs ys ∙ (ap (λ t. chunks_lines xs ++ t) g.parts ∙ sym (append_assoc (chunks_lines xs) g.front g.rest));
    written = written_both (chunks_lines xs) g.front (out a).written (out b).written (out c).written w g.written;
    faults = le_trans f.faults g.faults;
    short = le_trans f.short g.short;
    can_fail = g.can_fail ∙ f.can_fail;
  }

  whole_lines : (a b c : S) (xs ys : List ChunkData) → (out b).written ≡ option_map (λ before. before ++ chunks_lines xs) (out a).written
      → (out c).written ≡ option_map (λ before. before ++ chunks_lines ys) (out b).written → (out c).written ≡ option_map (λ before. before ++ chunks_lines (xs ++ ys)) (out a).written
  whole_lines a b c xs ys p q =
      written_both (chunks_lines xs) (chunks_lines ys) (out a).written (out b).written (out c).written p q
      ∙ ap (λ t. option_map (λ before. before ++ t) (out a).written) (sym (lines_both xs ys))

  front_of : (a b c : S) (xs ys : List ChunkData) (stopped : Bool) → failed b ≡ stopped → Prints a xs b → Prints b ys c → WroteFront (chunks_lines (xs ++ ys)) (out a) (out c)
  front_of a b c xs ys true e p q = front_ends a b c xs ys (q.over e).1 p.front
  front_of a b c xs ys false e p q = front_goes a b c xs ys p.front (p.whole e).1 q.front

  pub prints_taking : IsTaking Prints
  prints_taking = record {
    none = λ s. record {
      same = refl;
      front = record { front = []; rest = []; parts = refl; written = nothing_more (out s).written; faults = le_refl (out s).faults; short = le_refl (out s).short; can_fail = refl };
      whole = λ h. (h, nothing_more (out s).written);
      over = λ h. (h, refl);
    };
    more = λ a b c xs ys p q. record {
      same = q.same ∙ p.same;
      front = front_of a b c xs ys (failed b) refl p q;
      whole = λ h. let k = q.whole h in let j = p.whole k.0 in (j.0, whole_lines a b c xs ys j.1 k.1);
      over = λ h. let k = p.over h in let j = q.over k.0 in (j.0, j.1 ∙ k.1);
    };
  }
