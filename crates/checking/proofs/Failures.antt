-- The first item on which the count's test fails is the first on which the level fails, and rules the option out.
use Rattle.std.proofs.Common.{◌≡◌, ℕ, Bool, false, not, leb, List, is_some, Some, None, Ok, Option, Result, subst, arith}
use Rattle.std.proofs.lemmas.Bool.Decides.{nat_tests}
use Rattle.bits.proofs.Belows.{every_e, every_fails}
use Rattle.bits.proofs.Tests.{if_then_e, if_then_not, of_true, of_false}
use Rattle.meaning.specs.Meaning.{Meaning, Lawful}
use Rattle.meaning.specs.declared.refusal.Refusal.{Refusal}
use Rattle.levels.specs.Sets.{Set, words}
use Rattle.levels.specs.Levels.{Linked}
use Rattle.levels.specs.Counts.{count_of}
use Rattle.levels.specs.Tests.{meets_test, on_test, on_linked_test}
use Rattle.levels.specs.declared.level.Level.{Level}
use Rattle.levels.proofs.Decide.{meets_dec, on_e, on_i}
use Rattle.levels.proofs.IsCount.{is_count}
use Rattle.levels.proofs.Theories.{levels_theory}
use Rattle.checking.specs.Tests.{FirstFailure}
use Rattle.checking.specs.Verdicts.{FailsFirst, Points, RuledOut, due, option_due}

-- no failure is found exactly where the option meets the count
pub none_found : (c : ℕ) (m : Meaning) (s : Set) (i a : ℕ) (r : Option ℕ) (b : Bool) → FirstFailure c m s i a r → is_some r ≡ not b → b ≡ meets_test c m s i a
none_found c m s i a None b h e = grind (arith, nat_tests)
none_found c m s i a (Some j) b h e = let f = every_fails m.items (on_linked_test c m s i a) j h.0 h.1 in grind (arith, nat_tests)

pub fails_first : (l : Level) (n : ℕ) → n ≡ count_of l → (m : Meaning) → Lawful m → (s : Set) (i a : ℕ) (r : Option ℕ) → FirstFailure n m s i a r → FailsFirst l m s i a r
fails_first l n e m lawful s i a None h = λ j k. (is_count l n e m lawful s i a j k).1 ((meets_dec n m s i a).0 (of_true h) j k)
fails_first l n e m lawful s i a (Some j) h =
    let f = if_then_not (m.linked i j) (on_test n m s i a j) (of_false h.1) in
    let k : Linked m i j = (h.0, f.0) in (
      k,
      (λ x. f.1 (on_i m s i a j n k ((is_count l n e m lawful s i a j k).0 x))),
      λ x lt y. (is_count l n e m lawful s i a x y).1 (on_e m s i a x n y (if_then_e (m.linked i x) (on_test n m s i a x) (every_e j (on_linked_test n m s i a) (of_true h.2) x lt) y.1)),
    )

-- what is admitted for the set is admitted for an option that is there
pub option_admitted : (m : Meaning) (number : ℕ) (ws : List ℕ) (i a : ℕ) (l : Level) → Ok l ≡ due m number ws → leb m.items i ≡ false → leb (m.options i) a ≡ false → Ok l ≡ option_due m number ws i a
option_admitted m number ws i a l h x y = rw (x, y) h

pub points : (l : Level) (m : Meaning) (ws : List ℕ) (i a : ℕ) (d : Result Level Refusal) → Ok l ≡ d → (r : Option ℕ) → FailsFirst l m (words ws) i a r → Points m ws i a d (Ok r)
points l m ws i a d e r h = subst (λ (x : Result Level Refusal). Points m ws i a x (Ok r)) e h

pub ruled_out : (l : Level) (m : Meaning) → Lawful m → (ws : List ℕ) (i a : ℕ) (d : Result Level Refusal) → Ok l ≡ d → (r : Option ℕ) → FailsFirst l m (words ws) i a r → RuledOut m ws i a d (Ok r)
ruled_out l m lawful ws i a d e None h = subst (λ (x : Result Level Refusal). RuledOut m ws i a x (Ok None)) e tt
ruled_out l m lawful ws i a d e (Some j) h =
    subst (λ (x : Result Level Refusal). RuledOut m ws i a x (Ok (Some j))) e
    (λ s inside closed has. (levels_theory l m lawful).failing_out s (words ws) inside closed i a (λ meets. h.1 (meets j h.0)) has)
