-- The law of sessions: of every session newly opened with its book's edition, after every run of calls.
-- After m ss v: v is such a session over m after the steps ss
-- left m cs: the options that the tally of the calls leaves
-- Admitted: neither 5 nor 6 is due to the screening
-- LargestConsistent: a consistent set among the options u inside which every other such set lies
-- Layout m f: f gives each item one option, and options of linked items stand together
-- Settled: what the law says of one screening; Alike: what it says of two
-- Holds: what it says of one session; LawfulRun: what it says of a whole run
use Rattle.std.specs.Prelude.{◌≡◌, ℕ, ◌-◌, ◌*◌, ◌<◌, ◌≤◌, false, T, ◌⊎◌, ◌↔◌, List, [], ◌∷◌, ◌++◌, Some, Ok, Err, slice_index}
use Rattle.meaning.specs.Meaning.{Meaning}
use Rattle.meaning.specs.declared.refusal.Refusal.TheVariants.{NothingConsistent}
use Rattle.levels.specs.Sets.{Set, Inside}
use Rattle.levels.specs.Levels.{Condition, Linked, level_on}
use Rattle.levels.specs.Counts.{level_numbered}
use Rattle.levels.specs.Closed.{Consistent}
use Rattle.levels.specs.declared.level.Level.{Level}
use Rattle.runs.specs.declared.call.Call.{Call}
use Rattle.runs.specs.declared.call.Call.TheVariants.{Strike, Choose, Restore, Screen}
use Rattle.runs.specs.Answers.{Answer}
use Rattle.runs.specs.declared.call.Outcome.{Outcome}
use Rattle.runs.specs.State.{State, opened, unstruck}
use Rattle.levels.specs.Counted.{Counted}
use Rattle.levels.specs.Size.{size}
use Rattle.runs.specs.Outcome.{FindsNone}
use Rattle.runs.specs.Screening.{Room, roomy}
use Rattle.runs.specs.Runs.{Did, Step, Run, calls, tallied}

pub record After (m : Meaning) (ss : List Step) (v : State) : Type 0 where
  pub edition_least : 1 ≤ m.edition
  pub edition_most : m.edition ≤ 9999
  pub run : Run m (opened m m.edition) ss v

abbrev pub left : Meaning → List Call → Set
left m cs = unstruck m (tallied m cs)

abbrev pub Admitted : Meaning → ℕ → Room → Type 0
Admitted m level q = (level ≤ 2) × T (roomy m q)

pub record LargestConsistent (C : Condition) (m : Meaning) (u k : Set) : Type 0 where
  pub inside : Inside m k u
  pub consistent : Consistent C m k
  pub largest : (s : Set) → Inside m s u → Consistent C m s → Inside m s k

pub record Layout (m : Meaning) (f : ℕ → ℕ) : Type 0 where
  pub an_option : (i : ℕ) → i < m.items → f i < m.options i
  pub together : (i j : ℕ) → i < m.items → Linked m i j → T (m.together i (f i) j (f j))

-- there is a consistent set of the condition among the options u
abbrev pub SomeConsistent : Condition → Meaning → Set → Type 0
SomeConsistent C m u = (s : Set) × Inside m s u × Consistent C m s

abbrev pub Succeeded : Answer → Type 0
Succeeded r = (o : Outcome) × (r ≡ Ok (Some o))

abbrev pub SaysNone : Answer → Type 0
SaysNone r = (i : ℕ) × (r ≡ Err (NothingConsistent i))

-- a screening at level l, after calls cs, that was answered r and left q' and v'
pub record Settled (l : Level) (m : Meaning) (cs : List Call) (admitted : Type 0) (r : Answer) (q' : Room) (v' : State) : Type 0 where
  pub keeps : Succeeded r → LargestConsistent (level_on l) m (left m cs) v'.kept
  pub layouts : Succeeded r → (f : ℕ → ℕ) → Layout m f → ((i : ℕ) → i < m.items → tallied m cs i (f i) ≡ false) → (i : ℕ) → i < m.items → T (v'.kept i (f i))
  pub none : admitted → SaysNone r ↔ (SomeConsistent (level_on l) m (left m cs) → ⊥)
  pub either : admitted → Succeeded r ⊎ SaysNone r
  pub numbers : (o : Outcome) → r ≡ Ok (Some o) → (o.kept ≡ size m v'.kept) × (o.crossed ≡ size m (left m cs) - size m v'.kept) × Counted m v'.kept q'.bytes
  pub item : (i : ℕ) → r ≡ Err (NothingConsistent i) → FindsNone (level_on l) m (left m cs) i × ((k : ℕ) → k < 1024 * m.items → slice_index q'.bytes k ≡ 0)

-- a session shows as struck what the tally says, and settles every screening
pub record Holds (m : Meaning) (ss : List Step) (v : State) : Type 0 where
  pub told : (i a : ℕ) → v.struck i a ≡ tallied m (calls ss) i a
  pub settles : (level : ℕ) (l : Level) → level_numbered level ≡ Ok l → (q q' : Room) (r : Answer) (v' : State) → Did m (Screen level) q v r q' v' → Settled l m (calls ss) (Admitted m level q) r q' v'

abbrev pub SessionLaw : Type 0
SessionLaw = (m : Meaning) (ss : List Step) (v : State) → After m ss v → Holds m ss v

-- what the law says of one step after the calls cs that left the session v
abbrev pub StepSettled : Meaning → List Call → Call → Room → Answer → Room → State → Type 0
StepSettled m cs (Strike i a) q r q' v = Unit {0}
StepSettled m cs (Choose i a) q r q' v = Unit {0}
StepSettled m cs (Restore i a) q r q' v = Unit {0}
StepSettled m cs (Screen level) q r q' v = (l : Level) → level_numbered level ≡ Ok l → Settled l m cs (Admitted m level q) r q' v

-- a run after the calls cs, each session of which shows as struck what the tally says and each screening of which is settled
abbrev pub LawfulRun : Meaning → List Call → State → List Step → State → Type 0
LawfulRun m cs v [] v' = (v' ≡ v) × ((i a : ℕ) → v.struck i a ≡ tallied m cs i a)
LawfulRun m cs v (s ∷ ss) v' =
    (mid : State) × Did m s.call s.handed v s.answer s.left mid × ((i a : ℕ) → v.struck i a ≡ tallied m cs i a)
    × StepSettled m cs s.call s.handed s.answer s.left mid × LawfulRun m (cs ++ s.call ∷ []) mid ss v'

-- every run of a session newly opened with its book's edition is such a run
abbrev pub RunLaw : Type 0
RunLaw = (m : Meaning) (ss : List Step) (v : State) → After m ss v → LawfulRun m [] (opened m m.edition) ss v

pub record Alike (m : Meaning) (r s : Answer) (p q : Room) (v w : State) : Type 0 where
  pub answers : r ≡ s
  pub bytes : (k : ℕ) → k < 1024 * m.items → slice_index p.bytes k ≡ slice_index q.bytes k
  pub kept : Succeeded r → (i a : ℕ) → v.kept i a ≡ w.kept i a
  pub struck : Succeeded r → (i a : ℕ) → v.struck i a ≡ w.struck i a

-- two sessions over books of one meaning, after runs that strike the same options, answer admitted screenings of one level alike
abbrev pub EqualLaw : Type 0
EqualLaw = (m m₂ : Meaning) → m ≡ m₂ → (ss ss₂ : List Step) (v w : State) → After m ss v → After m₂ ss₂ w
    → ((i a : ℕ) → tallied m (calls ss) i a ≡ tallied m₂ (calls ss₂) i a)
    → (level : ℕ) (p q p' q' : Room) (r s : Answer) (v' w' : State) → Admitted m level p → Admitted m₂ level q
    → Did m (Screen level) p v r p' v' → Did m₂ (Screen level) q w s q' w' → Alike m r s p' q' v' w'
