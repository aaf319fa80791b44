-- The tests of a partner count say the same as the definitions.
use Rattle.std.proofs.Common.{ℕ, ◌<◌, not, ◌&&◌, T, eqb, ltb, ◌≢◌, ◌↔◌, subst, inl, inr, eqb→eq, ltb→lt, lt→ltb}
use lib.Dec.{eqb_refl}
use Rattle.bits.specs.Below.{every}
use Rattle.bits.proofs.Belows.{every_e, every_i, some_e, some_i}
use Rattle.bits.proofs.Tests.{and_l, and_r, and_i, or_cases, or_l, or_r, not_e, not_i, if_then_e, if_then_i}
use Rattle.meaning.specs.Meaning.{Meaning}
use Rattle.levels.specs.Sets.{Set}
use Rattle.levels.specs.Levels.{Linked, PathPartner, Meets}
use Rattle.levels.specs.Counts.{partners, count_on}
use Rattle.levels.specs.Closed.{Closed}
use Rattle.levels.specs.Tests.{partner_test, witness_test, third_test, witnessed_test, path_test, on_test, on_linked_test, meets_test, kept_meets_test, closed_test}
use Rattle.levels.proofs.Counts.{partner_e, partner_i, more_or_path}

module _ (m : Meaning) (i j : ℕ) where
  third_e : (k : ℕ) → k < m.items → T (third_test m i j k) → (k ≢ i) × (k ≢ j) × Linked m i k × Linked m j k
  third_e k kn t =
      let t1 : T (not (eqb k j) && (m.linked i k && m.linked j k)) = and_r (not (eqb k i)) _ t in
      let t2 : T (m.linked i k && m.linked j k) = and_r (not (eqb k j)) _ t1 in (
        (λ e. not_e (eqb k i) (and_l (not (eqb k i)) _ t) (subst (λ (z : ℕ). T (eqb k z)) e (eqb_refl k))),
        (λ e. not_e (eqb k j) (and_l (not (eqb k j)) _ t1) (subst (λ (z : ℕ). T (eqb k z)) e (eqb_refl k))),
        (kn, and_l (m.linked i k) (m.linked j k) t2),
        (kn, and_r (m.linked i k) (m.linked j k) t2),
      )

  third_i : (k : ℕ) → k ≢ i → k ≢ j → Linked m i k → Linked m j k → T (third_test m i j k)
  third_i k ki kj ik jk =
      and_i (not (eqb k i)) _ (not_i (eqb k i) (λ t. ki (eqb→eq k i t)))
      (and_i (not (eqb k j)) _ (not_i (eqb k j) (λ t. kj (eqb→eq k j t)))
      (and_i (m.linked i k) (m.linked j k) ik.1 jk.1))

module _ (m : Meaning) (s : Set) (i a j : ℕ) where
  pub path_e : (b : ℕ) → j < m.items → b < m.options j → T (path_test m s i a j b) → PathPartner m s i a j b
  path_e b jn bo t =
      let ts : T (every m.items (witnessed_test m s i a j b)) = and_r (partner_test m s i a j b) _ t in (
        partner_e m s i a j b jn bo (and_l (partner_test m s i a j b) _ t),
        λ k ki kj ik jk.
            let h = some_e (m.options k) (witness_test m s i a j b k)
            (if_then_e (third_test m i j k) _ (every_e m.items (witnessed_test m s i a j b) ts k ik.0) (third_i m i j k ki kj ik jk)) in
            let w : ℕ = h.0 in
            let r : T (m.together i a k w && m.together j b k w) = and_r (s k w) _ h.2 in (
              w,
              (
                (ik.0, h.1, and_l (s k w) _ h.2),
                and_l (m.together i a k w) (m.together j b k w) r,
                and_r (m.together i a k w) (m.together j b k w) r,
              ),
            ),
      )

  pub path_i : (b : ℕ) → PathPartner m s i a j b → T (path_test m s i a j b)
  path_i b p =
      and_i (partner_test m s i a j b) _ (partner_i m s i a j b p.0)
      (every_i m.items (witnessed_test m s i a j b) (λ k kn. if_then_i (third_test m i j k) _ (λ t.
      let h = third_e m i j k kn t in
      let x = p.1 k h.0 h.1 h.2 h.3 in
      let w : ℕ = x.0 in
      some_i (m.options k) (witness_test m s i a j b k) w x.1.0.1
      (and_i (s k w) _ x.1.0.2 (and_i (m.together i a k w) (m.together j b k w) x.1.1 x.1.2)))))

  pub on_e : (c : ℕ) → Linked m i j → T (on_test c m s i a j) → count_on c m s i a j
  on_e c l t =
      (more_or_path c m s i a j l).1 (elim (or_cases (ltb c (partners m s i a j)) _ t) [
        | inl more ↦ inl (ltb→lt c (partners m s i a j) more)
        | inr p ↦ (let q = some_e (m.options j) (path_test m s i a j) p in inr (q.0, path_e q.0 l.0 q.1 q.2))
      ])

  pub on_i : (c : ℕ) → Linked m i j → count_on c m s i a j → T (on_test c m s i a j)
  on_i c l h =
      elim ((more_or_path c m s i a j l).0 h) [
        | inl more ↦ or_l (ltb c (partners m s i a j)) _ (lt→ltb c (partners m s i a j) more)
        | inr p ↦ or_r (ltb c (partners m s i a j)) _ (some_i (m.options j) (path_test m s i a j) p.0 p.1.0.0.1 (path_i p.0 p.1))
      ]

module _ (c : ℕ) (m : Meaning) (s : Set) where
  pub meets_dec : (i a : ℕ) → T (meets_test c m s i a) ↔ Meets (count_on c) m s i a
  meets_dec i a = (
    (λ t j l. on_e m s i a j c l (if_then_e (m.linked i j) _ (every_e m.items (on_linked_test c m s i a) t j l.0) l.1)),
    λ h. every_i m.items (on_linked_test c m s i a) (λ j jn. if_then_i (m.linked i j) _ (λ t. on_i m s i a j c (jn, t) (h j (jn, t)))),
  )

  pub closed_e : T (closed_test c m s) → Closed (count_on c) m s
  closed_e t i a h =
      let ti : T (every (m.options i) (kept_meets_test c m s i)) = every_e m.items (λ x. every (m.options x) (kept_meets_test c m s x)) t i h.0 in
      (meets_dec i a).0 (if_then_e (s i a) _ (every_e (m.options i) (kept_meets_test c m s i) ti a h.1) h.2)
