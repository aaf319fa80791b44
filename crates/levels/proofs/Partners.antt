-- What a crossing-out of b of j takes from the number of partners of an option: one on j where it stands with b, and nothing elsewhere.
use Rattle.std.proofs.Common.{◌≡◌, ℕ, ◌+◌, ◌<◌, Bool, true, false, not, ◌&&◌, T, eqb, ◌≢◌, sym, refl, ap, ◌∙◌, subst}
use Rattle.bits.proofs.Counts.{count_cong, count_drop}
use Rattle.bits.proofs.Tests.{and_i, eqb_yes}
use Rattle.meaning.specs.Meaning.{Meaning}
use Rattle.levels.specs.Sets.{Set}
use Rattle.levels.specs.Counts.{partners}
use Rattle.levels.specs.Tests.{partner_test}
use Rattle.levels.proofs.Crossing.{is_same, without, same_e, without_else}

swap_and : (x y z : Bool) → ((x && y) && z) ≡ ((x && z) && y)
swap_and true true z = elim z as (λ v. v ≡ (v && true)) [ true ↦ refl | false ↦ refl ]
swap_and true false z = elim z as (λ v. false ≡ (v && false)) [ true ↦ refl | false ↦ refl ]
swap_and false y z = refl

same_count : (x y z : Bool) → (T y → T z → ⊥) → ((x && not y) && z) ≡ (x && z)
same_count true true true h = absurd (h tt tt)
same_count true true false h = refl
same_count true false z h = refl
same_count false y z h = refl

module _ (m : Meaning) (s : Set) (i a j b : ℕ) where
  pub partners_drop : b < m.options j → T (s j b) → T (m.together i a j b) → partners m s i a j ≡ partners m (without s j b) i a j + 1
  partners_drop bo t u =
      count_drop (m.options j) (partner_test m s i a j) (partner_test m (without s j b) i a j) b bo (and_i (s j b) (m.together i a j b) t u)
      (λ x xl. ap (λ (z : Bool). (s j x && not (z && eqb b x)) && m.together i a j x) (eqb_yes j j refl) ∙ swap_and (s j x) (not (eqb b x)) (m.together i a j x))

  pub partners_stay : (T (m.together i a j b) → ⊥) → partners m s i a j ≡ partners m (without s j b) i a j
  partners_stay n =
      count_cong (m.options j) (partner_test m s i a j) (partner_test m (without s j b) i a j)
      (λ x xl. sym (same_count (s j x) (is_same j b j x) (m.together i a j x) (λ e t. let q = same_e j b j x e in n (subst (λ (y : ℕ). T (m.together i a j y)) (sym q.1) t))))

  pub partners_else : (k : ℕ) → k ≢ j → partners m s i a k ≡ partners m (without s j b) i a k
  partners_else k ne =
      count_cong (m.options k) (partner_test m s i a k) (partner_test m (without s j b) i a k)
      (λ x xl. ap (λ (z : Bool). z && m.together i a k x) (sym (without_else s j b k x ne)))
