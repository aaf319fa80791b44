-- The three levels are the partner counts 0, 1 and 32.
use Rattle.std.proofs.Common.{◌≡◌, ℕ, ◌<◌, ◌≤◌, sym, subst, le_trans, arith}
use native.Mathlib.Decide.{ℕ_discrete, dec_lt}
use Rattle.bits.proofs.Counts.{count_le, count_two, count_lone}
use Rattle.meaning.specs.Meaning.{Meaning}
use Rattle.levels.specs.Sets.{Set}
use Rattle.levels.specs.Levels.{Partner, PathPartner, Lone}
use Rattle.levels.specs.Counts.{partners, count_of}
use Rattle.levels.specs.Theory.{IsCount}
use Rattle.levels.specs.declared.level.Level.{Level}
use Rattle.levels.specs.declared.level.Level.TheVariants.{Arc, RestrictedPath, MaxRestrictedPath}
use Rattle.levels.specs.Tests.{partner_test}
use Rattle.levels.proofs.Counts.{partner_e, partner_i, partner_counts}

-- where there is a partner there are more than 0, so the count 0 asks nothing further
arc_count : IsCount Arc 0
arc_count m lawful s i a j l = (
  (λ p. (p, λ few. let one : 1 ≤ partners m s i a j = partner_counts m s i a j p.0 p.1 in absurd (omega arith))),
  λ h. h.0,
)

module _ (m : Meaning) (s : Set) (i a j : ℕ) where
  two_partners : (b c : ℕ) → b < c → Partner m s i a j b → Partner m s i a j c → 2 ≤ partners m s i a j
  two_partners b c lt p q =
      count_two (m.options j) (partner_test m s i a j) b c lt q.0.1 (partner_i m s i a j b p) (partner_i m s i a j c q)

  few_lone : (b : ℕ) → Partner m s i a j b → partners m s i a j ≤ 1 → Lone m s i a j b
  few_lone b p few = (
    p,
    λ c q. elim (ℕ_discrete c b) [
      | yes e ↦ e
      | no ne ↦ elim (dec_lt c b) [
        | yes lt ↦ (let two : 2 ≤ partners m s i a j = two_partners c b lt q p in absurd (omega arith))
        | no nlt ↦ (let two : 2 ≤ partners m s i a j = two_partners b c (omega arith) p q in absurd (omega arith))
      ]
    ],
  )

  lone_few : (b : ℕ) → j < m.items → Lone m s i a j b → partners m s i a j ≤ 1
  lone_few b jn lone =
      count_lone (m.options j) (partner_test m s i a j) b (λ k kn t. lone.1 k (partner_e m s i a j k jn kn t))

restricted_count : IsCount RestrictedPath 1
restricted_count m lawful s i a j l = (
  (λ h. let p = h.0 in (p, λ few. (p.0, h.1 p.0 (few_lone m s i a j p.0 p.1 few)))),
  λ h. (
    h.0,
    λ b lone.
        let q = h.1 (lone_few m s i a j b l.0 lone) in
        subst (λ (x : ℕ). PathPartner m s i a j x) (lone.1 q.0 q.1.0) q.1,
  ),
)

-- no item has more than 32 options, so the count 32 always asks for a path partner
max_count : IsCount MaxRestrictedPath 32
max_count m lawful s i a j l = (
  (λ p. ((p.0, p.1.0), λ few. p)),
  λ h. h.1 (le_trans (count_le (m.options j) (partner_test m s i a j)) (lawful.options_most j)),
)

pub level_count : (l : Level) → IsCount l (count_of l)
level_count Arc = arc_count
level_count RestrictedPath = restricted_count
level_count MaxRestrictedPath = max_count

pub is_count : (l : Level) (n : ℕ) → n ≡ count_of l → IsCount l n
is_count l n e = subst (λ (x : ℕ). IsCount l x) (sym e) (level_count l)
