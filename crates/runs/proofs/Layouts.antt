-- The one option that a layout gives each item makes a consistent set at every level, so a largest consistent set has them all.
-- only f: the set with the option f i of each item i
use Rattle.std.proofs.Common.{◌≡◌, ℕ, ◌<◌, false, not, T, eqb, sym, subst, eqb→eq, lt→ltb}
use lib.Dec.{eqb_refl}
use Rattle.bits.proofs.Tests.{and_i, not_i, of_false}
use Rattle.meaning.specs.Meaning.{Meaning}
use Rattle.levels.specs.Sets.{Set, Has, Inside}
use Rattle.levels.specs.Levels.{Linked, PathPartner, level_on}
use Rattle.levels.specs.Closed.{Consistent}
use Rattle.levels.specs.declared.level.Level.{Level}
use Rattle.levels.specs.declared.level.Level.TheVariants.{Arc, RestrictedPath, MaxRestrictedPath}
use Rattle.runs.specs.State.{is_option, unstruck}
use Rattle.runs.specs.Law.{Layout, LargestConsistent}

abbrev pub only : (ℕ → ℕ) → Set
only f i a = eqb a (f i)

module _ (m : Meaning) (f : ℕ → ℕ) (y : Layout m f) where
  only_has : (i : ℕ) → i < m.items → Has m (only f) i (f i)
  only_has i il = (il, y.an_option i il, eqb_refl (f i))

  only_path : (i j : ℕ) → i < m.items → Linked m i j → PathPartner m (only f) i (f i) j (f j)
  only_path i j il ij = (
    (only_has j ij.0, y.together i j il ij),
    λ k ki kj ik jk. (f k, (only_has k ik.0, y.together i k il ik, y.together j k ij.0 jk)),
  )

  only_meets : (l : Level) (i j : ℕ) → i < m.items → Linked m i j → level_on l m (only f) i (f i) j
  only_meets Arc i j il ij = (f j, (only_path i j il ij).0)
  only_meets RestrictedPath i j il ij = (
    (f j, (only_path i j il ij).0),
    λ b lone.
        let same : f j ≡ b = lone.1 (f j) (only_path i j il ij).0 in
        subst (λ (x : ℕ). PathPartner m (only f) i (f i) j x) same (only_path i j il ij),
  )
  only_meets MaxRestrictedPath i j il ij = (f j, only_path i j il ij)

  only_consistent : (l : Level) → Consistent (level_on l) m (only f)
  only_consistent l = (
    (λ i a h j ij. subst (λ (x : ℕ). level_on l m (only f) i x j) (sym (eqb→eq a (f i) h.2)) (only_meets l i j h.0 ij)),
    λ i il. (f i, only_has i il),
  )

  only_inside : (t : Set) → ((i : ℕ) → i < m.items → t i (f i) ≡ false) → Inside m (only f) (unstruck m t)
  only_inside t free i a h =
      let same : f i ≡ a = sym (eqb→eq a (f i) h.2) in
      let unmarked : T (not (t i a)) = not_i (t i a) (of_false (subst (λ (x : ℕ). t i x ≡ false) same (free i h.0))) in
      (h.0, h.1, and_i (is_option m i a) (not (t i a)) (and_i _ _ (lt→ltb i m.items h.0) (lt→ltb a (m.options i) h.1)) unmarked)

  pub layout_kept : (l : Level) (t k : Set) → LargestConsistent (level_on l) m (unstruck m t) k
      → ((i : ℕ) → i < m.items → t i (f i) ≡ false) → (i : ℕ) → i < m.items → T (k i (f i))
  layout_kept l t k h free i il = (h.largest (only f) (only_inside t free) (only_consistent l) i (f i) (only_has i il)).2
