-- The options of a lawful book as bits of words, and as numbers.
use Rattle.std.proofs.Common.{◌≡◌, ℕ, ◌+◌, ◌^◌, ◌<◌, ◌≤◌, Bool, true, false, not, eqb, eqb→eq, inl, inr, ◌&&◌, T, ltb, List, length, sym, ap, ◌∙◌, subst, add-one, arith, ltb→lt, lt→ltb, Some, None, Option, MatchOption}
use mathlib.Core.Path.{fun_ext}
use mathlib.Core.Bool.{and_comm, and-true}
use native.Mathlib.Decide.{ℕ_discrete, dec_lt}
use lib.Count.{ones}
use lib.ListN.{get_or-eq_default}
use Rattle.bits.specs.Below.{count, some}
use Rattle.bits.specs.Bits.{bit}
use Rattle.bits.proofs.Counts.{count_cong, count_cut}
use Rattle.bits.proofs.Ones.{ones_count}
use Rattle.bits.proofs.Tests.{and_i, and_l, and_r, not_e, not_i, of_true, of_false, same_T, eqb_yes, T_or_not}
use Rattle.bits.proofs.Belows.{some_e, some_i}
use Rattle.bits.proofs.Words.{bit_none, some_bit}
use Rattle.meaning.specs.Meaning.{Meaning, Lawful}
use Rattle.levels.specs.Sets.{Set, Has, words}
use Rattle.levels.specs.Size.{sum}
use Rattle.runs.specs.State.{is_option, unstruck}
use Rattle.sessions.specs.Empty.{Empties}
use Rattle.sessions.proofs.Masks.{ltb_yes, ltb_no}

option_is : (m : Meaning) → Lawful m → (i a : ℕ) → ltb a (m.options i) ≡ is_option m i a
option_is m law i a =
    elim (dec_lt i m.items) [
      | yes l ↦ ap (λ (z : Bool). z && ltb a (m.options i)) (sym (ltb_yes i m.items l))
      | no n ↦
          (let e : m.options i ≡ 0 = law.options_missing i (omega arith) in
          ltb_no a (m.options i) (omega arith) ∙ ap (λ (z : Bool). z && ltb a (m.options i)) (sym (ltb_no i m.items (omega arith))))
    ]

-- the options of item i without a, where the word one has the bit a and no other
pub but_others : (m : Meaning) → Lawful m → (i a b all one : ℕ) → bit all b ≡ is_option m i b → bit one b ≡ (eqb a b && ltb b 32)
    → (bit all b && not (bit one b)) ≡ (not (eqb a b) && is_option m i b)
but_others m law i a b all one e f =
    elim (dec_lt b 32) [
      | yes l ↦
          (let bits : bit one b ≡ eqb a b = f ∙ ap (λ (z : Bool). eqb a b && z) (ltb_yes b 32 l) ∙ and-true (eqb a b) in
          ap (λ (z : Bool). z && not (bit one b)) e ∙ ap (λ (z : Bool). is_option m i b && not z) bits ∙ and_comm (is_option m i b) (not (eqb a b)))
      | no n ↦
          (let most : m.options i ≤ 32 = law.options_most i in
          let none : is_option m i b ≡ false = sym (option_is m law i b) ∙ ltb_no b (m.options i) (omega arith) in
          ap (λ (z : Bool). z && not (bit one b)) (e ∙ none) ∙ sym (ap (λ (z : Bool). not (eqb a b) && z) none ∙ and_comm (not (eqb a b)) false))
    ]

-- 32 words are all that a book has
pub words_all : (m : Meaning) → Lawful m → (ws : List ℕ) (s : Set) → length ws ≡ 32 → ((k : ℕ) → k < 32 → (a : ℕ) → words ws k a ≡ unstruck m s k a)
    → words ws ≡ unstruck m s
words_all m law ws s len below =
    fun_ext (λ i. fun_ext (λ a. elim (dec_lt i 32) [
      | yes l ↦ below i l a
      | no n ↦
          (let most : m.items ≤ 32 = law.items_most in
          ap (λ (z : ℕ). bit z a) (get_or-eq_default ws 0 (omega arith))
          ∙ (bit_none a ∙ ap (λ (z : Bool). (z && ltb a (m.options i)) && not (s i a)) (sym (ltb_no i m.items (omega arith)))))
    ]))

-- a word with the options of item i that are in the set s
abbrev pub ItemWord : Meaning → Set → ℕ → ℕ → Type 0
ItemWord m s i w = (a : ℕ) → bit w a ≡ (is_option m i a && s i a)

module _ (m : Meaning) (s : Set) (i w : ℕ) (is : ItemWord m s i w) where
  bit_of : Lawful m → (a : ℕ) → bit w a ≡ (ltb a (m.options i) && s i a)
  bit_of law a = is a ∙ ap (λ (z : Bool). z && s i a) (sym (option_is m law i a))

  pub word_count : Lawful m → w < 2 ^ 32 → ones w ≡ count (m.options i) (s i)
  word_count law h =
      ones_count 32 w h
      ∙ (count_cut (m.options i) 32 (bit w) (law.options_most i) (λ a ge. bit_of law a ∙ ap (λ (z : Bool). z && s i a) (ltb_no a (m.options i) ge))
      ∙ count_cong (m.options i) (bit w) (s i) (λ a lt. bit_of law a ∙ ap (λ (z : Bool). z && s i a) (ltb_yes a (m.options i) lt)))

  pub word_empty : Lawful m → eqb w 0 ≡ not (some (m.options i) (s i))
  word_empty law =
      same_T (eqb w 0) (not (some (m.options i) (s i)))
      (λ z. not_i (some (m.options i) (s i)) (λ t.
      let r = some_e (m.options i) (s i) t in
      let has : (ltb r.0 (m.options i) && s i r.0) ≡ false = sym (bit_of law r.0) ∙ ap (λ (k : ℕ). bit k r.0) (eqb→eq w 0 z) ∙ bit_none r.0 in
      of_false has (and_i (ltb r.0 (m.options i)) (s i r.0) (lt→ltb r.0 (m.options i) r.1) r.2)))
      (λ n. elim (ℕ_discrete w 0) [
        | yes z ↦ of_true (eqb_yes w 0 z)
        | no o ↦
            (let r = some_bit w o in
            let t : T (ltb r.0 (m.options i) && s i r.0) = subst T (bit_of law r.0) r.1 in
            absurd (not_e (some (m.options i) (s i)) n (some_i (m.options i) (s i) r.0 (ltb→lt r.0 (m.options i) (and_l (ltb r.0 (m.options i)) (s i r.0) t)) (and_r (ltb r.0 (m.options i)) (s i r.0) t))))
      ])

-- the first item that is empty is the lowest one
module _ (m : Meaning) (s : Set) where
  abbrev pub Empty : ℕ → Bool → Type 0
  Empty i b = b ≡ not (some (m.options i) (s i))

  has : (i : ℕ) → Empty i false → i < m.items → (a : ℕ) × Has m s i a
  has i e l =
      let t : T (some (m.options i) (s i)) = elim (T_or_not (some (m.options i) (s i))) [ inl y ↦ y | inr n ↦ absurd (of_false (sym e) (not_i (some (m.options i) (s i)) n)) ] in
      let r = some_e (m.options i) (s i) t in
      (r.0, (l, r.1, r.2))

  has_none : (i : ℕ) → Empty i true → (a : ℕ) → Has m s i a → ⊥
  has_none i e a h = not_e (some (m.options i) (s i)) (of_true (sym e)) (some_i (m.options i) (s i) a h.1 h.2)

  pub empties : (n : ℕ) → n ≡ m.items → (r : Option ℕ)
      → MatchOption r ((k : ℕ) → 0 ≤ k → k < n → Empty k false) (λ i. (0 ≤ i) × (i < n) × Empty i true × ((k : ℕ) → 0 ≤ k → k < i → Empty k false))
      → Empties m s r
  empties n e None h = λ i l. has i (h i (omega arith) (omega arith)) l
  empties n e (Some i) h = record { there = omega arith; empty = has_none i h.2; lowest = λ j l. has j (h.3 j (omega arith) l) (omega arith) }

pub sum_more : (n : ℕ) (f : ℕ → ℕ) → sum (n + 1) f ≡ f n + sum n f
sum_more n f = rw add-one
