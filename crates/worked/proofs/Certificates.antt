-- What every session answers to a screening, by one test that computes from a list of crossings.
-- rest m cs xs: what the crossings xs leave of the options that are left after the calls cs
-- leaves_largest: each crossing fails at its turn, and the rest is closed
-- has_option: an item has an option in the set; has_sizes: the rest has n options, and x are crossed out; is_lowest_empty: i is the lowest item with none
-- keeps_exactly: the rest is what is kept, n options, with x crossed out; says_none: nothing is consistent, and item i says so
use Rattle.std.proofs.Common.{◌≡◌, ℕ, zero, suc, ◌-◌, ◌<◌, Bool, not, ◌&&◌, T, eqb, ltb, List, [], ◌∷◌, Ok, sym, refl, ap, ◌∙◌, subst, inl, inr, arith, eqb→eq, ltb→lt}
use Rattle.bits.specs.Below.{every, some}
use Rattle.bits.proofs.Belows.{every_e, some_e}
use Rattle.bits.proofs.Tests.{and_l, and_r, not_e}
use Rattle.meaning.specs.Meaning.{Meaning, Lawful}
use Rattle.levels.specs.Sets.{Set, Has}
use Rattle.levels.specs.Levels.{level_on}
use Rattle.levels.specs.Counts.{count_on, count_of, level_numbered}
use Rattle.levels.specs.Closed.{LargestClosed}
use Rattle.levels.specs.Tests.{closed_test}
use Rattle.levels.specs.declared.level.Level.{Level}
use Rattle.levels.specs.declared.level.Level.TheVariants.{Arc, RestrictedPath, MaxRestrictedPath}
use Rattle.levels.proofs.Crossing.{without, is_same, crossed, all_fail, certificate}
use Rattle.levels.proofs.IsCount.{level_count}
use Rattle.levels.proofs.Theories.{largest_from}
use Rattle.runs.specs.declared.call.Call.{Call}
use Rattle.runs.specs.declared.call.Call.TheVariants.{Screen}
use Rattle.runs.specs.Answers.{Answer, screened}
use Rattle.runs.specs.State.{State, is_option, unstruck}
use Rattle.levels.specs.Size.{size}
use Rattle.runs.specs.Outcome.{Keeps, FindsNone}
use Rattle.runs.specs.Screening.{Room}
use Rattle.runs.specs.Runs.{tallied}
use Rattle.runs.specs.Law.{Admitted, left}
use Rattle.runs.proofs.Tally.{Shows, after_shows}
use Rattle.runs.proofs.Outcomes.{not_both, same_kept, same_item}
use Rattle.runs.proofs.Endings.{Ended, admitted_ended}
use Rattle.worked.specs.Nine.{Made, Leaves, Answers, nothing_at}

abbrev pub rest : Meaning → List Call → List (ℕ × ℕ) → Set
rest m cs xs = crossed (left m cs) xs

abbrev pub leaves_largest : Level → Meaning → List Call → List (ℕ × ℕ) → Bool
leaves_largest l m cs xs = all_fail (count_of l) m (left m cs) xs && closed_test (count_of l) m (rest m cs xs)

abbrev pub has_option : Meaning → Set → ℕ → Bool
has_option m s i = some (m.options i) (s i)

abbrev pub has_sizes : Meaning → List Call → List (ℕ × ℕ) → ℕ → ℕ → Bool
has_sizes m cs xs n x = eqb (size m (rest m cs xs)) n && eqb (size m (left m cs) - size m (rest m cs xs)) x

abbrev pub keeps_exactly : Level → Meaning → List Call → List (ℕ × ℕ) → ℕ → ℕ → Bool
keeps_exactly l m cs xs n x = leaves_largest l m cs xs && (every m.items (has_option m (rest m cs xs)) && has_sizes m cs xs n x)

abbrev pub is_lowest_empty : Meaning → Set → ℕ → Bool
is_lowest_empty m s i = ltb i m.items && (every (m.options i) (λ a. not (s i a)) && every i (has_option m s))

abbrev pub says_none : Level → Meaning → List Call → List (ℕ × ℕ) → ℕ → Bool
says_none l m cs xs i = leaves_largest l m cs xs && is_lowest_empty m (rest m cs xs) i

crossed_in : (s : Set) (xs : List (ℕ × ℕ)) (i a : ℕ) → T (crossed s xs i a) → T (s i a)
crossed_in s [] i a t = t
crossed_in s (x ∷ xs) i a t = and_l (s i a) (not (is_same x.0 x.1 i a)) (crossed_in (without s x.0 x.1) xs i a t)

pub made_shows : (m : Meaning) (cs : List Call) (c : Call) (q : Room) (r : Answer) (v : State) (d : Made m cs c q r v)
    → Shows d.session (tallied m cs)
made_shows m cs c q r v d =
    subst (λ (x : List Call). Shows d.session (tallied m x)) d.their_calls (after_shows m d.steps d.session d.after)

module _ (l : Level) (m : Meaning) (lawful : Lawful m) (cs : List Call) (xs : List (ℕ × ℕ)) where
  abbrev k : Set
  k = rest m cs xs

  largest_rest : T (leaves_largest l m cs xs) → LargestClosed (level_on l) m (left m cs) k
  largest_rest t =
      largest_from (level_on l) (count_on (count_of l)) m (level_count l m lawful) (left m cs) k
      (certificate (count_of l) m (left m cs) xs (and_l (all_fail (count_of l) m (left m cs) xs) _ t) (and_r (all_fail (count_of l) m (left m cs) xs) _ t))

  some_has : (n : ℕ) → T (every n (has_option m k)) → (i : ℕ) → i < n → i < m.items → (a : ℕ) × Has m k i a
  some_has n t i lt il = let r = some_e (m.options i) (k i) (every_e n (has_option m k) t i lt) in (r.0, (il, r.1, r.2))

  module _ (level : ℕ) (le : level_numbered level ≡ Ok l) where
    made_ended : (q : Room) (r : Answer) (v : State) → Admitted m level q → (d : Made m cs (Screen level) q r v) → Ended l m q d.session r d.left v
    made_ended q r v ad d =
        admitted_ended l m q d.session d.left v level le (made_shows m cs (Screen level) q r v d).0 r ad d.did

    pub keeps : (n x : ℕ) → T (keeps_exactly l m cs xs n x) → Leaves m cs level (λ r v. (r ≡ screened n x) × (v.kept ≡ k))
    keeps n x t q r v ad d =
        let t1 : T (every m.items (has_option m k) && has_sizes m cs xs n x) = and_r (leaves_largest l m cs xs) _ t in
        let t2 : T (has_sizes m cs xs n x) = and_r (every m.items (has_option m k)) _ t1 in
        let en : size m k ≡ n = eqb→eq (size m k) n (and_l (eqb (size m k) n) _ t2) in
        let ex : size m (left m cs) - size m k ≡ x = eqb→eq (size m (left m cs) - size m k) x (and_r (eqb (size m k) n) _ t2) in
        let told : d.session.struck ≡ tallied m cs = (made_shows m cs (Screen level) q r v d).1 in
        let here : Keeps (level_on l) m (left m cs) k = record {
          largest = largest_rest (and_l (leaves_largest l m cs xs) _ t);
          none_empty = λ i lt. some_has m.items (and_l (every m.items (has_option m k)) _ t1) i lt lt;
        } in
        let there : Keeps (level_on l) m (unstruck m d.session.struck) k =
        subst (λ (s : Set). Keeps (level_on l) m (unstruck m s) k) (sym told) here in
        elim (made_ended q r v ad d) [
          | inr f ↦ absurd (not_both (level_on l) m (unstruck m d.session.struck) k f.0 there f.2.none)
          | inl s ↦
              (let kept : v.kept ≡ k =
              same_kept (level_on l) m (unstruck m d.session.struck) v.kept k s.2.only_options
              (λ i a h. and_l (is_option m i a) _ (crossed_in (left m cs) xs i a h)) s.2.keeps there in
              let n_is : s.0.kept ≡ n = s.2.number_kept ∙ ap (size m) kept ∙ en in
              let x_is : s.0.crossed ≡ x =
              s.2.number_crossed ∙ ap (λ (u : Set). size m (unstruck m u) - size m v.kept) told
              ∙ ap (λ (u : Set). size m (left m cs) - size m u) kept ∙ ex in
              (s.1 ∙ ap (λ (y : ℕ). screened y s.0.crossed) n_is ∙ ap (screened n) x_is, kept))
        ]

    pub keeps_so_many : (n x : ℕ) → T (keeps_exactly l m cs xs n x) → Answers m cs level (screened n x)
    keeps_so_many n x t q r v ad d = (keeps n x t q r v ad d).0

    pub finds_none : (i : ℕ) → T (says_none l m cs xs i) → Answers m cs level (nothing_at i)
    finds_none i t q r v ad d =
        let t1 : T (is_lowest_empty m k i) = and_r (leaves_largest l m cs xs) _ t in
        let t2 : T (every (m.options i) (λ a. not (k i a)) && every i (has_option m k)) = and_r (ltb i m.items) _ t1 in
        let il : i < m.items = ltb→lt i m.items (and_l (ltb i m.items) _ t1) in
        let told : d.session.struck ≡ tallied m cs = (made_shows m cs (Screen level) q r v d).1 in
        let here : FindsNone (level_on l) m (left m cs) i = record {
          closed = k;
          largest = largest_rest (and_l (leaves_largest l m cs xs) _ t);
          there = il;
          empty = λ a h. not_e (k i a) (every_e (m.options i) (λ b. not (k i b)) (and_l (every (m.options i) (λ b. not (k i b))) _ t2) a h.1) h.2;
          lowest = λ j ji. some_has i (and_r (every (m.options i) (λ b. not (k i b))) _ t2) j ji (omega arith);
        } in
        let there : FindsNone (level_on l) m (unstruck m d.session.struck) i =
        subst (λ (s : Set). FindsNone (level_on l) m (unstruck m s) i) (sym told) here in
        elim (made_ended q r v ad d) [
          | inl s ↦ absurd (not_both (level_on l) m (unstruck m d.session.struck) v.kept i s.2.keeps there)
          | inr f ↦ f.1 ∙ ap nothing_at (same_item (level_on l) m (unstruck m d.session.struck) f.0 i f.2.none there)
        ]

-- no level above 2 is admitted
pub finds_none_ever : (m : Meaning) → Lawful m → (cs : List Call) (xs : List (ℕ × ℕ)) (i : ℕ)
    → T (says_none Arc m cs xs i) → T (says_none RestrictedPath m cs xs i) → T (says_none MaxRestrictedPath m cs xs i)
    → (level : ℕ) → Answers m cs level (nothing_at i)
finds_none_ever m law cs xs i t0 t1 t2 zero = finds_none Arc m law cs xs 0 refl i t0
finds_none_ever m law cs xs i t0 t1 t2 (suc zero) = finds_none RestrictedPath m law cs xs 1 refl i t1
finds_none_ever m law cs xs i t0 t1 t2 (suc (suc zero)) = finds_none MaxRestrictedPath m law cs xs 2 refl i t2
finds_none_ever m law cs xs i t0 t1 t2 (suc (suc (suc n))) = λ q r v ad d. let le = ad.0 in absurd (omega arith)
