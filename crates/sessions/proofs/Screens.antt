-- What the propagation leaves is what an admitted screening comes to.
use Rattle.std.proofs.Common.{◌≡◌, ℕ, ◌-◌, ◌*◌, ◌<◌, ◌≤◌, Bool, true, false, not, T, eqb, ltb, leb, length, get_or, Ok, refl, ap, ◌∙◌, subst, arith, eqb→eq, ltb→lt, lt→ltb, leb→le}
use mathlib.Core.Path.{fun_ext}
use mathlib.Core.Bool.{and-true}
use Rattle.std.proofs.lemmas.Bool.Decides.{nat_tests}
use Rattle.bits.proofs.Tests.{and_l, and_r, and_i, of_true, to_false}
use Rattle.bags.specs.Bags.{none, size as number}
use Rattle.bags.proofs.BagLaws.{size_none}
use Rattle.meaning.specs.Meaning.{Meaning, Lawful}
use Rattle.levels.specs.Sets.{Set}
use Rattle.levels.specs.Levels.{level_on}
use Rattle.levels.specs.Counts.{count_of, count_on, level_numbered}
use Rattle.levels.specs.Closed.{LargestClosed, NoneEmpty}
use Rattle.levels.specs.Counted.{Counted}
use Rattle.levels.specs.Size.{size}
use Rattle.levels.specs.declared.level.Level.{Level}
use Rattle.levels.proofs.IsCount.{is_count}
use Rattle.levels.proofs.Theories.{largest_from}
use Rattle.levels.proofs.Sizes.{size_mono}
use Rattle.propagation.specs.State.{There}
use Rattle.runs.specs.State.{nothing, is_option, unstruck}
use Rattle.runs.specs.Screening.{Room, roomy, screen_due, Tidy, Succeeds, Fails}
use Rattle.sessions.specs.Empty.{LowestEmpty}
use Rattle.sessions.specs.Said.{at}

-- the largest closed set of the level's count is that of the level
pub of_level : (l : Level) (n : ℕ) → n ≡ count_of l → (m : Meaning) → Lawful m → (u k : Set) → LargestClosed (count_on n) m u k → LargestClosed (level_on l) m u k
of_level l n e m lawful u k h = largest_from (level_on l) (count_on n) m (is_count l n e m lawful) u k h

-- what room enough says
pub record Enough (m : Meaning) (q : Room) : Type 0 where
  pub long : 1024 * m.items ≤ length q.bytes
  pub items : m.items ≤ q.items_room
  pub options : size m (is_option m) ≤ q.options_room
  pub no_items : q.items_waiting ≡ none
  pub no_options : q.options_waiting ≡ none

pub enough : (m : Meaning) (q : Room) → roomy m q ≡ true → Enough m q
enough m q e =
    let t : T (roomy m q) = of_true e in
    let t1 = and_r (leb (1024 * m.items) (length q.bytes)) _ t in
    let t2 = and_r (leb m.items q.items_room) _ t1 in
    let t3 = and_r (leb (size m (is_option m)) q.options_room) _ t2 in
    record {
      long = leb→le _ _ (and_l (leb (1024 * m.items) (length q.bytes)) _ t);
      items = leb→le _ _ (and_l (leb m.items q.items_room) _ t1);
      options = leb→le _ _ (and_l (leb (size m (is_option m)) q.options_room) _ t2);
      no_items = size_none q.items_waiting (eqb→eq _ _ (and_l (eqb (number q.items_waiting) 0) _ t3));
      no_options = size_none q.options_waiting (eqb→eq _ _ (and_r (eqb (number q.items_waiting) 0) _ t3));
    }

-- where nothing is struck, all options are unstruck
pub all_unstruck : (m : Meaning) → unstruck m nothing ≡ is_option m
all_unstruck m = fun_ext (λ i. fun_ext (λ a. and-true (is_option m i a)))

pub unstruck_there : (m : Meaning) (t : Set) → There m (unstruck m t)
unstruck_there m t i a x =
    let o : T (is_option m i a) = and_l (is_option m i a) (not (t i a)) x in
    (ltb→lt i m.items (and_l (ltb i m.items) (ltb a (m.options i)) o), ltb→lt a (m.options i) (and_r (ltb i m.items) (ltb a (m.options i)) o), x)

-- the options that are not struck are no more than the book has
pub unstruck_few : (m : Meaning) (t : Set) → size m (unstruck m t) ≤ size m (is_option m)
unstruck_few m t = size_mono m (unstruck m t) (is_option m) (λ i a h. (h.0, h.1, and_l (is_option m i a) (not (t i a)) h.2))

-- a screening at level l, whose partner count is n, with the options t struck: u is what it starts from, and k what is left
module _ (l : Level) (n : ℕ) (e : n ≡ count_of l) (m : Meaning) (lawful : Lawful m) (t u k : Set) (start : u ≡ unstruck m t)
    (largest : LargestClosed (count_on n) m u k) (there : There m k) (q q' : Room) (tidy : Tidy m q q') where
  level_largest : LargestClosed (level_on l) m (unstruck m t) k
  level_largest = subst (λ (s : Set). LargestClosed (level_on l) m s k) start (of_level l n e m lawful u k largest)

  only_options : (i a : ℕ) → T (k i a) → T (is_option m i a)
  only_options i a x =
      let h = there i a x in
      and_i (ltb i m.items) (ltb a (m.options i)) (lt→ltb i m.items h.0) (lt→ltb a (m.options i) h.1)

  pub succeeds : NoneEmpty m k → Counted m k q'.bytes → (number whole : ℕ) → number ≡ size m k → whole ≡ size m u
      → (b : Bool) (old : Set) → Succeeds l m q (at b t old) (record { kept = number; crossed = whole - number }) q' (at b t k)
  succeeds ne counted number whole en ew b old = record {
    keeps = record { largest = level_largest; none_empty = ne };
    only_options = only_options;
    struck = refl;
    barred = refl;
    number_kept = en;
    number_crossed = ap (λ (x : ℕ). x - number) (ew ∙ ap (size m) start) ∙ ap (λ (x : ℕ). size m (unstruck m t) - x) en;
    bytes = counted;
    tidy = tidy;
  }

  pub fails : (i : ℕ) → LowestEmpty m k i → ((x : ℕ) → x < 1024 * m.items → get_or q'.bytes x 0 ≡ 0)
      → (b : Bool) (old : Set) → Fails l m q (at b t old) i q' (at b t old)
  fails i empty zeros b old = record {
    none = record { closed = k; largest = level_largest; there = empty.there; empty = empty.empty; lowest = empty.lowest };
    same = refl;
    zero_bytes = zeros;
    tidy = tidy;
  }

-- an unbarred session with room enough admits a level that is there
pub screen_admitted : (m : Meaning) (barred : Bool) (level : ℕ) (q : Room) (l : Level) → barred ≡ false → Ok l ≡ level_numbered level → roomy m q ≡ true
    → Ok l ≡ screen_due m barred level q
screen_admitted m barred level q l b e r =
    let few : ltb 2 level ≡ false = to_false (ltb 2 level) (λ t. no_level level l (ltb→lt 2 level t) e) in
    rw (b, few, r) e
  where
    no_level : (level : ℕ) (l : Level) → 2 < level → Ok l ≡ level_numbered level → ⊥
    no_level level l lt e = grind (arith, nat_tests)
