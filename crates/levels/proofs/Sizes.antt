-- A set has one option fewer once one of them is crossed out.
use Rattle.std.proofs.Common.{◌≡◌, ℕ, zero, suc, ◌+◌, ◌<◌, ◌≤◌, Bool, not, ◌&&◌, eqb, ◌≢◌, sym, refl, ap, subst, le_refl, not-suc-le-zero, arith}
use native.Mathlib.Decide.{ℕ_discrete}
use Rattle.bits.specs.Below.{count}
use Rattle.bits.proofs.Counts.{count_mono, count_cong, count_drop}
use Rattle.bits.proofs.Tests.{eqb_yes}
use Rattle.meaning.specs.Meaning.{Meaning}
use Rattle.levels.specs.Sets.{Set, Has, Inside}
use Rattle.levels.specs.Size.{sum, size}
use Rattle.levels.proofs.Crossing.{without, without_inside, without_else}

sum_mono : (n : ℕ) (f g : ℕ → ℕ) → ((k : ℕ) → k < n → f k ≤ g k) → sum n f ≤ sum n g
sum_mono zero f g h = le_refl 0
sum_mono (suc n) f g h =
    let p : f n ≤ g n = h n (le_refl (suc n)) in
    let q : sum n f ≤ sum n g = sum_mono n f g (λ k lt. h k (omega arith)) in
    omega arith

sum_less : (n : ℕ) (f g : ℕ → ℕ) → ((k : ℕ) → k < n → f k ≤ g k) → (i : ℕ) → i < n → f i < g i → sum n f < sum n g
sum_less zero f g h i lt l = absurd (not-suc-le-zero lt)
sum_less (suc n) f g h i lt l =
    elim (ℕ_discrete i n) [
      | yes e ↦
          (let p : f n < g n = subst (λ (x : ℕ). f x < g x) e l in
          let q : sum n f ≤ sum n g = sum_mono n f g (λ k kl. h k (omega arith)) in
          omega arith)
      | no ne ↦
          (let p : f n ≤ g n = h n (le_refl (suc n)) in
          let q : sum n f < sum n g = sum_less n f g (λ k kl. h k (omega arith)) i (omega arith) l in
          omega arith)
    ]

sum_cong : (n : ℕ) (f g : ℕ → ℕ) → ((x : ℕ) → x < n → f x ≡ g x) → sum n f ≡ sum n g
sum_cong zero f g h = refl
sum_cong (suc n) f g h =
    let p : f n ≡ g n = h n (le_refl (suc n)) in
    let q : sum n f ≡ sum n g = sum_cong n f g (λ k lt. h k (omega arith)) in
    omega arith

sum_drop : (n : ℕ) (f g : ℕ → ℕ) (i : ℕ) → i < n → f i ≡ g i + 1 → ((x : ℕ) → x ≢ i → f x ≡ g x) → sum n f ≡ sum n g + 1
sum_drop zero f g i lt e h = absurd (not-suc-le-zero lt)
sum_drop (suc n) f g i lt e h =
    elim (ℕ_discrete i n) [
      | yes is ↦
          (let p : f n ≡ g n + 1 = subst (λ (x : ℕ). f x ≡ g x + 1) is e in
          let q : sum n f ≡ sum n g = sum_cong n f g (λ x xl. let ne : x ≢ i = omega arith in h x ne) in
          omega arith)
      | no ne ↦
          (let ni : n ≢ i = omega arith in
          let p : f n ≡ g n = h n ni in
          let q : sum n f ≡ sum n g + 1 = sum_drop n f g i (omega arith) e h in
          omega arith)
    ]

pub size_drop : (m : Meaning) (s : Set) (i a : ℕ) → Has m s i a → size m s ≡ size m (without s i a) + 1
size_drop m s i a h =
    sum_drop m.items (λ j. count (m.options j) (s j)) (λ j. count (m.options j) (without s i a j)) i h.0
    (count_drop (m.options i) (s i) (without s i a i) a h.1 h.2 (λ b bl. ap (λ (z : Bool). s i b && not (z && eqb a b)) (eqb_yes i i refl)))
    (λ x ne. count_cong (m.options x) (s x) (without s i a x) (λ b bl. sym (without_else s i a x b ne)))

pub size_falls : (m : Meaning) (s : Set) (i a : ℕ) → Has m s i a → size m (without s i a) < size m s
size_falls m s i a h =
    let f : ℕ → ℕ = λ j. count (m.options j) (without s i a j) in
    let g : ℕ → ℕ = λ j. count (m.options j) (s j) in
    let one_less : count (m.options i) (s i) ≡ count (m.options i) (without s i a i) + 1 =
    count_drop (m.options i) (s i) (without s i a i) a h.1 h.2 (λ b bl. ap (λ (z : Bool). s i b && not (z && eqb a b)) (eqb_yes i i refl)) in
    sum_less m.items f g
    (λ j jl. count_mono (m.options j) (without s i a j) (s j) (λ b bl t. (without_inside m s i a j b (jl, bl, t)).2))
    i h.0 (omega arith)

pub size_mono : (m : Meaning) (s t : Set) → Inside m s t → size m s ≤ size m t
size_mono m s t st =
    sum_mono m.items (λ j. count (m.options j) (s j)) (λ j. count (m.options j) (t j))
    (λ j jl. count_mono (m.options j) (s j) (t j) (λ b bl x. (st j b (jl, bl, x)).2))
