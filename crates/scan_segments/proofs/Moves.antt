-- What the calls of a source in memory do to it as a source.
use Rattle.std.proofs.Common.{◌≡◌, ℕ, ◌≤◌, List, [], ◌∷◌, ◌++◌, Bool, refl, ap, ◌∙◌}
use Rattle.std.proofs.Math.Nat.{le_refl}
use Rattle.std.specs.Ordering.{nat_cmp}
use Rattle.std.specs.BTreeSet.{insert_key}
use Rattle.scan_values.specs.Selections.{is_among}
use Rattle.scan_segments.specs.Source.{has, Begins, Ends, with_live, without_live}
use Rattle.std.specs.Prelude.{true, false, Option, None, Some, if◌then◌else◌}
use Rattle.std.specs.FinMap as map
use Rattle.scan_segments.specs.Script.{ScriptState, turns_left, has_number}
use Rattle.scan_segments.specs.MemorySource.{MemoryState, source_state, ended, stepped, answer_of}
use Rattle.scan_segments.specs.Outcomes.{outcome_of, outcome_at}
use Rattle.scan_segments.specs.declared.script.Outcome.TheVariants.{Goes, Waits, Fails}
use Rattle.scan_segments.specs.declared.source.Polled.TheVariants.{Bytes, Missing}

-- an answer ends the request
pub ends : (id : ℕ) (s t : MemoryState) (script : ScriptState) (faults : ℕ) → t ≡ record s { script = script; live = ended id s.live; faults = faults }
    → ◌≡◌ {A = ℕ → Bool} (λ k. has k (ended id s.live)) (without_live id (λ k. has k s.live)) → turns_left script ≤ turns_left s.script
    → script.failing ≡ s.script.failing → s.faults ≤ faults → Ends id (source_state s) (source_state t)
ends id s t script faults e l h same f = rw e (record { holds = refl; asked = refl; live = l; faults = f; turns = h; can_fail = ap has_number same })

-- a request that was made
pub begins : (id : ℕ) (s : MemoryState) (asked live : List ℕ) → asked ≡ s.asked ++ id ∷ [] → live ≡ insert_key nat_cmp s.live id → ◌≡◌ {A = ℕ → Bool} (λ k. has k (insert_key nat_cmp s.live id)) (with_live id (λ k. has k s.live))
    → Begins id (source_state s) (source_state (record s { asked = asked; live = live }))
begins id s asked live a l law =
    let seen : List ℕ → ℕ → Bool = λ ks k. has k ks in
    record { holds = refl; asked = a; live = ap seen l ∙ law; faults = le_refl s.faults; turns = le_refl (turns_left s.script); can_fail = refl }

-- the state after an answer, where the script has stepped
pub stepped_over : (id : ℕ) (s : MemoryState) (script : ScriptState) → script ≡ stepped s.script → record s { script = script; live = ended id s.live } ≡ record s { script = stepped s.script; live = ended id s.live }
stepped_over id s script e = ap (λ (t : ScriptState). record s { script = t; live = ended id s.live }) e

pub answers-missing : (id : ℕ) (s : MemoryState) → outcome_of s.script ≡ Goes → map.get s.segments id ≡ None → Missing ≡ answer_of id s
answers-missing id s e f = rw (e, f) refl

pub answers-bytes : (id : ℕ) (bytes : List ℕ) (s : MemoryState) → outcome_of s.script ≡ Goes → map.get s.segments id ≡ Some bytes → Bytes bytes ≡ answer_of id s
answers-bytes id bytes s e f = rw (e, f) refl

-- only a script with a number of a call that fails has a call that fails
pub can_fail : (s : ScriptState) → outcome_of s ≡ Fails → has_number s.failing ≡ true
can_fail s is = go s.next s.failing s.pending is
  where
    go : (next : Option ℕ) (failing pending : List ℕ) → outcome_at next failing pending ≡ Fails → has_number failing ≡ true
    go next (k ∷ ks) pending is = refl
    go None [] pending is = absurd (cc)
    go (Some k) [] pending is = later (is_among pending k) is
      where
        later : (b : Bool) → (if b then Waits else Goes) ≡ Fails → has_number [] ≡ true
        later true is = absurd (cc)
        later false is = absurd (cc)
