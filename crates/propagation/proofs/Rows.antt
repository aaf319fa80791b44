-- The table of support words: how it is filled, and that counts and witnesses read from it are those of the book.
use Rattle.std.proofs.Common.{◌≡◌, ℕ, ◌+◌, ◌/◌, ◌%◌, ◌<◌, ◌≤◌, Bool, true, false, ◌&&◌, T, List, length, get_or, set, sym, refl, ap, ◌∙◌, subst, arith, get_or-set_other, get_or-set_same}
use native.Mathlib.Decide.{ℕ_discrete, dec_lt}
use lib.Bits.{bit_and}
use Rattle.bits.specs.Below.{count, some}
use Rattle.bits.specs.Bits.{bit}
use Rattle.bits.proofs.Belows.{some_e, some_i}
use Rattle.bits.proofs.Counts.{count_cong, count_cut}
use Rattle.bits.proofs.Tests.{and_l, and_r, of_false, same_T}
use Rattle.bits.proofs.Words.{bit_of_and}
use Rattle.meaning.specs.Meaning.{Meaning, Lawful}
use Rattle.levels.specs.Sets.{words}
use Rattle.levels.specs.Levels.{Linked}
use Rattle.levels.specs.Counts.{partners}
use Rattle.levels.specs.Tests.{partner_test, third_test, witness_test}
use Rattle.levels.specs.Counted.{place}
use Rattle.propagation.specs.Supports.{Supports, SupportsBelow}
use Rattle.propagation.proofs.Bytes.{at_place}
use Rattle.propagation.proofs.Testing.{third_links}

-- Bits below n of the word t are what f says, and it has none from there on.
abbrev pub Bits : (ℕ → Bool) → (ℕ → Bool) → ℕ → Type 0
Bits f t n = ((x : ℕ) → x < n → t x ≡ f x) × ((x : ℕ) → n ≤ x → t x ≡ false)

pub and_swap : (a b : Bool) → (a && b) ≡ (b && a)
and_swap true true = refl
and_swap true false = refl
and_swap false true = refl
and_swap false false = refl

module _ (m : Meaning) (law : Lawful m) where
  pub linked_there : (i j : ℕ) → T (m.linked i j) → Linked m i j
  linked_there i j l = (
    (elim (dec_lt j m.items) [
      | yes lt ↦ lt
      | no nlt ↦ absurd (of_false (law.linked_missing j i (omega arith)) (subst T (law.linked_mutual i j) l))
    ]),
    l,
  )

  linked_back : (i k : ℕ) → i < m.items → Linked m i k → Linked m k i
  linked_back i k il l = (il, subst T (law.linked_mutual i k) l.1)

  missing : (i a k w : ℕ) → m.options k ≤ w → m.together i a k w ≡ false
  missing i a k w h = law.together_mutual i a k w ∙ law.together_missing k w i a h

  -- the word at an earlier place, read the other way round
  pub support_back : (n : ℕ) (rows : List ℕ) (i a k w : ℕ) → SupportsBelow m n rows → i < m.items → w < 32 → Linked m i k → place k w i < n
      → bit (get_or rows (place k w i) 0) a ≡ m.together i a k w
  support_back n rows i a k w sup il wl l lt = sup k w i a l.0 wl (linked_back i k il l) lt ∙ law.together_mutual k w i a

  -- the partners of an option on a linked item are the bits that its word shares with the set
  pub support_count : (n : ℕ) (rows ws : List ℕ) (i a j : ℕ) → SupportsBelow m n rows → i < m.items → a < 32 → Linked m i j → place i a j < n
      → count 32 (λ b. words ws j b && bit (get_or rows (place i a j) 0) b) ≡ partners m (words ws) i a j
  support_count n rows ws i a j sup il al l lt =
      count_cong 32 (λ b. words ws j b && bit (get_or rows (place i a j) 0) b) (partner_test m (words ws) i a j)
      (λ b bl. ap (λ (z : Bool). words ws j b && z) (sup i a j b il al l lt))
      ∙ count_cut (m.options j) 32 (partner_test m (words ws) i a j) (law.options_most j)
      (λ b bl. ap (λ (z : Bool). words ws j b && z) (missing i a j b bl) ∙ and_no (words ws j b))
    where
      and_no : (b : Bool) → (b && false) ≡ false
      and_no true = refl
      and_no false = refl

  -- the bit of a partner in the word that is shared with the set
  pub partner_word : (rows ws : List ℕ) (i a j b : ℕ) → Supports m rows → (i < m.items) × (a < 32) → Linked m i j
      → bit (bit_and (get_or rows (place i a j) 0) (get_or ws j 0)) b ≡ partner_test m (words ws) i a j b
  partner_word rows ws i a j b sup ia l =
      let most = law.items_most in
      bit_of_and (get_or rows (place i a j) 0) (get_or ws j 0) b
      ∙ (ap (λ (z : Bool). z && words ws j b) (sup i a j b ia.0 ia.1 l (omega (arith, most, ia.0, ia.1, l.0))) ∙ and_swap (m.together i a j b) (words ws j b))

  -- the witnesses on a third item are the bits that two words share with the set
  module _ (rows ws : List ℕ) (i a j b k : ℕ) (sup : Supports m rows) (ia : (i < m.items) × (a < 32)) (jb : (j < m.items) × (b < 32)) (kl : k < m.items)
      (third : T (third_test m i j k)) where
    two : (w : ℕ) → (words ws k w && (bit (get_or rows (place i a k) 0) w && bit (get_or rows (place j b k) 0) w)) ≡ witness_test m (words ws) i a j b k w
    two w =
        let ls = third_links m i j k third in
        let most = law.items_most in
        ap (λ (z : Bool). words ws k w && (z && bit (get_or rows (place j b k) 0) w)) (sup i a k w ia.0 ia.1 (kl, ls.0) (omega (arith, most, ia.0, ia.1, kl)))
        ∙ ap (λ (z : Bool). words ws k w && (m.together i a k w && z)) (sup j b k w jb.0 jb.1 (kl, ls.1) (omega (arith, most, jb.0, jb.1, kl)))

    pub witness_word : (r : Bool) → r ≡ some 32 (λ w. words ws k w && (bit (get_or rows (place i a k) 0) w && bit (get_or rows (place j b k) 0) w))
        → r ≡ some (m.options k) (witness_test m (words ws) i a j b k)
    witness_word r e =
        let f : ℕ → Bool = λ w. words ws k w && (bit (get_or rows (place i a k) 0) w && bit (get_or rows (place j b k) 0) w) in
        let g : ℕ → Bool = witness_test m (words ws) i a j b k in
        same_T r (some (m.options k) g)
        (λ t. let x = some_e 32 f (subst T e t) in let h : T (g x.0) = subst T (two x.0) x.2 in some_i (m.options k) g x.0 (there x.0 h) h)
        (λ t. let x = some_e (m.options k) g t in subst T (sym e) (some_i 32 f x.0 (omega (arith, x.1, law.options_most k)) (subst T (sym (two x.0)) x.2)))
      where
        there : (w : ℕ) → T (witness_test m (words ws) i a j b k w) → w < m.options k
        there w h =
            elim (dec_lt w (m.options k)) [
              | yes lt ↦ lt
              | no nlt ↦ absurd (of_false (missing i a k w (omega arith)) (and_l (m.together i a k w) (m.together j b k w) (and_r (words ws k w) _ h)))
            ]

-- one more word of the table
module _ (m : Meaning) (law : Lawful m) (n : ℕ) (rows : List ℕ) (sup : SupportsBelow m n rows) where
  at_n : (i a k : ℕ) → a < 32 → k < 32 → place i a k ≡ n → (P : ℕ → ℕ → ℕ → Type 0) → P (n / 1024) (n / 32 % 32) (n % 32) → P i a k
  at_n i a k al kl e P h = at_place P i a k al kl (subst (λ (z : ℕ). P (z / 1024) (z / 32 % 32) (z % 32)) (sym e) h)

  pub supports_set : (v : ℕ) → n < length rows → ((w : ℕ) → bit v w ≡ m.together (n / 1024) (n / 32 % 32) (n % 32) w) → SupportsBelow m (n + 1) (set rows n v)
  supports_set v lt h i a k w il al l pl =
      let kl : k < 32 = omega (arith, law.items_most, l.0) in
      elim (ℕ_discrete (place i a k) n) [
        | yes e ↦
            subst (λ (z : ℕ). bit (get_or (set rows n v) z 0) w ≡ m.together i a k w) (sym e)
            (ap (λ (z : ℕ). bit z w) (get_or-set_same rows n v 0 lt) ∙ at_n i a k al kl e (λ x y z. bit v w ≡ m.together x y z w) (h w))
        | no ne ↦ ap (λ (z : ℕ). bit z w) (get_or-set_other rows n (place i a k) v 0 ne) ∙ sup i a k w il al l (omega arith)
      ]

  pub supports_skip : (m.linked (n / 1024) (n % 32) ≡ false) → SupportsBelow m (n + 1) rows
  supports_skip un i a k w il al l pl =
      let kl : k < 32 = omega (arith, law.items_most, l.0) in
      elim (ℕ_discrete (place i a k) n) [
        | yes e ↦ absurd (of_false (at_n i a k al kl e (λ x y z. m.linked x z ≡ false) un) l.1)
        | no ne ↦ sup i a k w il al l (omega arith)
      ]
