-- A source in memory, as contracts see it.
use Rattle.std.specs.Prelude.{◌≡◌, ◌⊎◌, ℕ, List, [], ◌∷◌, ◌++◌, Option, None, Some, refl}
use Rattle.std.specs.Ordering.{nat_cmp}
use Rattle.std.specs.Coded.{Coded, code_by, coded×, coded_ℕ, coded_list, coded_option}
use Rattle.std.specs.FinMap as map
use Rattle.std.specs.BTreeMap.{is_at}
use Rattle.std.specs.BTreeSet.{insert_key}
use Rattle.std.specs.Set.{remove_key}
use Rattle.scan_segments.specs.Faults.{one_more}
use Rattle.scan_segments.specs.Source.{SourceState, has}
use Rattle.scan_segments.specs.Script.{ScriptState, turns_left, number_after, has_number}
use Rattle.scan_segments.specs.Outcomes.{outcome_of}
use Rattle.scan_segments.specs.declared.script.Outcome.{Outcome}
use Rattle.scan_segments.specs.declared.script.Outcome.TheVariants.{Goes, Waits, Fails}
use Rattle.scan_segments.specs.declared.source.Polled.{Polled}
use Rattle.scan_segments.specs.declared.source.Polled.TheVariants.{Pending, Bytes, Missing, Failed, NoMemory}

pub record MemoryState : Type 0 where
  pub segments : map.FinMap nat_cmp (List ℕ)
  pub script : ScriptState
  pub asked : List ℕ
  -- the ids with a request that has not ended, rising
  pub live : List ℕ
  pub faults : ℕ

abbrev pub Parts : Type 0
Parts = (map.FinMap nat_cmp (List ℕ) × (List ℕ × (List ℕ × Option ℕ))) × ((List ℕ × List ℕ) × ℕ)

abbrev pub parts : MemoryState → Parts
parts s = ((s.segments, (s.script.failing, (s.script.pending, s.script.next))), ((s.asked, s.live), s.faults))

abbrev pub of_parts : Parts → MemoryState
of_parts p = record {
  segments = p.0.0;
  script = record { failing = p.0.1.0; pending = p.0.1.1.0; next = p.0.1.1.1 };
  asked = p.1.0.0;
  live = p.1.0.1;
  faults = p.1.1;
}

-- a state is stored as the tuple of its fields
abbrev pub memory_code : Coded MemoryState
memory_code = code_by Parts (coded× (coded× (map.code coded_ℕ (coded_list coded_ℕ))
    (coded× (coded_list coded_ℕ) (coded× (coded_list coded_ℕ) (coded_option coded_ℕ))))
    (coded× (coded× (coded_list coded_ℕ) (coded_list coded_ℕ)) coded_ℕ)) parts of_parts (λ _. refl)

-- it tells what it holds
abbrev pub source_state : MemoryState → SourceState
source_state s = record {
  holds = Some (λ id. map.get s.segments id);
  asked = s.asked;
  live = λ id. has id s.live;
  faults = s.faults;
  turns = turns_left s.script;
  can_fail = has_number s.script.failing;
}

-- the rising ids without this one
abbrev pub ended : ℕ → List ℕ → List ℕ
ended id ids = remove_key (is_at (nat_cmp id)) ids

-- one more id was asked, and is live
abbrev pub asked_also : ℕ → MemoryState → MemoryState
asked_also id s = record s { asked = s.asked ++ id ∷ []; live = insert_key nat_cmp s.live id }

-- what a segment that was looked for gives
abbrev pub found : Option (List ℕ) → Polled
found None = Missing
found (Some bytes) = Bytes bytes

-- what a poll of a call with this outcome gives
abbrev pub answer_at : Outcome → ℕ → MemoryState → Polled
answer_at Fails id s = Failed
answer_at Waits id s = Pending
answer_at Goes id s = found (map.get s.segments id)

-- what the next poll gives, where there is memory
abbrev pub answer_of : ℕ → MemoryState → Polled
answer_of id s = answer_at (outcome_of s.script) id s

-- one more call has its number
abbrev pub stepped : ScriptState → ScriptState
stepped s = record s { next = number_after s.next }

-- the source after a poll that gave this
abbrev pub polled_memory : ℕ → Polled → MemoryState → MemoryState
polled_memory id Pending s = record s { script = stepped s.script }
polled_memory id (Bytes bytes) s = record s { script = stepped s.script; live = ended id s.live }
polled_memory id Missing s = record s { script = stepped s.script; live = ended id s.live }
polled_memory id Failed s = record s { script = stepped s.script; live = ended id s.live; faults = one_more s.faults }
polled_memory id NoMemory s = record s { script = stepped s.script }

-- one poll: the answer is that of the script and the segments, where there is memory
abbrev pub PollsMemory : ℕ → MemoryState → MemoryState → Polled → Type 0
PollsMemory id old new r = ((r ≡ answer_of id old) ⊎ ((r ≡ NoMemory) × (outcome_of old.script ≡ Goes))) × (new ≡ polled_memory id r old)
