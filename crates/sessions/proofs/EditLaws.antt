-- What the words of options that an edit puts or takes make of a set.
use Rattle.std.proofs.Common.{◌≡◌, ℕ, ◌<◌, Bool, true, false, cond, not, ◌&&◌, ◌||◌, eqb, ltb, leb, Ok, Err, Result, T, sym, ap, ◌∙◌, arith}
use mathlib.Core.Path.{fun_ext}
use native.Mathlib.Decide.{ℕ_discrete}
use Rattle.bits.specs.Bits.{bit}
use Rattle.bits.proofs.Tests.{eqb_no}
use Rattle.std.proofs.Math.Dec.{nleb→lt}
use Rattle.meaning.specs.Meaning.{Meaning, Lawful}
use Rattle.meaning.specs.declared.refusal.Refusal.{Refusal}
use Rattle.meaning.specs.declared.refusal.Refusal.TheVariants.{NoSuchItem, NoSuchOption, AlreadyStruck, NotStruck, Barred}
use Rattle.levels.specs.Sets.{Set}
use Rattle.runs.specs.State.{State, is_option, unstruck}
use Rattle.runs.specs.Edits.{with_one, without_one, with_others, without_others, is_this, is_other, edit_due, edited, strike_due, restore_due, struck_by, chosen_by, restored_by}
use Rattle.sessions.specs.Words.{with_word, without_word}
use Rattle.sessions.proofs.Masks.{one_bit}

-- the word w of option a alone
module _ (i a w : ℕ) (is : (b : ℕ) → bit w b ≡ eqb a b) where
  one_word : (j b : ℕ) → (eqb i j && bit w b) ≡ is_this i a j b
  one_word j b = ap (λ (z : Bool). eqb i j && z) (is b)

  pub with_one_word : (s : Set) → with_word s i w ≡ with_one s i a
  with_one_word s = fun_ext (λ j. fun_ext (λ b. ap (λ (z : Bool). s j b || z) (one_word j b)))

  pub without_one_word : (s : Set) → without_word s i w ≡ without_one s i a
  without_one_word s = fun_ext (λ j. fun_ext (λ b. ap (λ (z : Bool). s j b && not z) (one_word j b)))

-- the word w of the other options
module _ (m : Meaning) (i a w : ℕ) (others : (b : ℕ) → bit w b ≡ (not (eqb a b) && is_option m i b)) where
  other_word : (j b : ℕ) → (eqb i j && bit w b) ≡ is_other m i a j b
  other_word j b =
      elim (ℕ_discrete i j) [
        | yes e ↦ ap (λ (z : Bool). eqb i j && z) (others b ∙ ap (λ (k : ℕ). not (eqb a b) && is_option m k b) e)
        | no n ↦
            ap (λ (z : Bool). z && bit w b) (eqb_no i j n) ∙ sym (ap (λ (z : Bool). z && (not (eqb a b) && is_option m j b)) (eqb_no i j n))
      ]

  pub with_others_word : (s : Set) → with_word s i w ≡ with_others m s i a
  with_others_word s = fun_ext (λ j. fun_ext (λ b. ap (λ (z : Bool). s j b || z) (other_word j b)))

  pub without_others_word : (s : Set) → without_word s i w ≡ without_others m s i a
  without_others_word s = fun_ext (λ j. fun_ext (λ b. ap (λ (z : Bool). s j b && not z) (other_word j b)))

pub same_state : (b : Bool) (s t k l : Set) → s ≡ t → k ≡ l → ◌≡◌ {A = State} (record { barred = b; struck = s; kept = k }) (record { barred = b; struck = t; kept = l })
same_state b s t k l e f = λ i. record { barred = b; struck = e i; kept = f i }

ends : (x y z bad : Bool) (last : Refusal)
    → cond x (Err Barred) (cond y (Err NoSuchItem) (cond z (Err NoSuchOption) (cond bad (Err last) (Ok (tt {0}))))) ≡ Ok (tt {0}) → T (not z)
ends true y z bad last e = let f : ◌≡◌ {A = ℕ} 0 1 = cc in absurd (omega arith)
ends false true z bad last e = let f : ◌≡◌ {A = ℕ} 0 1 = cc in absurd (omega arith)
ends false false true bad last e = let f : ◌≡◌ {A = ℕ} 0 1 = cc in absurd (omega arith)
ends false false false bad last e = tt

-- an edit that is not refused is of an option that is there
pub there : (m : Meaning) (v : State) (i a : ℕ) (bad : Bool) (last : Refusal) → edit_due m v i a bad last ≡ Ok tt → a < m.options i
there m v i a bad last e = nleb→lt (m.options i) a (ends v.barred (leb m.items i) (leb (m.options i) a) bad last e)

-- an edit that is not refused leaves what it makes
pub leaves : (due : Result (Unit {0}) Refusal) (v x : State) → due ≡ Ok tt → x ≡ edited due v x
leaves due v x ok = ap (λ (r : Result (Unit {0}) Refusal). edited r v x) (sym ok)

-- the word of one option that is there strikes that option
pub strikes_one : (m : Meaning) → Lawful m → (v : State) (i a w : ℕ) → ((b : ℕ) → bit w b ≡ (eqb a b && ltb b 32)) → strike_due m v i a ≡ Ok tt
    → (s k : Set) → s ≡ with_word v.struck i w → k ≡ without_word v.kept i w → ◌≡◌ {A = State} (record { barred = v.barred; struck = s; kept = k }) (edited (strike_due m v i a) v (struck_by v i a))
strikes_one m law v i a w is ok s k e f =
    let few : a < 32 = let l = there m v i a (v.struck i a) AlreadyStruck ok in let most = law.options_most i in omega arith in
    let one = λ (b : ℕ). is b ∙ one_bit a b few in
    same_state v.barred _ _ _ _ (e ∙ with_one_word i a w one v.struck) (f ∙ without_one_word i a w one v.kept) ∙ leaves (strike_due m v i a) v (struck_by v i a) ok

-- the word of the other options strikes those
pub strikes_others : (m : Meaning) (v : State) (i a w : ℕ) → ((b : ℕ) → bit w b ≡ (not (eqb a b) && is_option m i b)) → strike_due m v i a ≡ Ok tt
    → (s k : Set) → s ≡ with_word v.struck i w → k ≡ without_word v.kept i w → ◌≡◌ {A = State} (record { barred = v.barred; struck = s; kept = k }) (edited (strike_due m v i a) v (chosen_by m v i a))
strikes_others m v i a w is ok s k e f =
    same_state v.barred _ _ _ _ (e ∙ with_others_word m i a w is v.struck) (f ∙ without_others_word m i a w is v.kept)
    ∙ leaves (strike_due m v i a) v (chosen_by m v i a) ok

-- the word of one option that is there restores that option
pub restores_one : (m : Meaning) → Lawful m → (v : State) (i a w : ℕ) → ((b : ℕ) → bit w b ≡ (eqb a b && ltb b 32)) → restore_due m v i a ≡ Ok tt
    → (s k : Set) → s ≡ without_word v.struck i w → k ≡ unstruck m s → ◌≡◌ {A = State} (record { barred = v.barred; struck = s; kept = k }) (edited (restore_due m v i a) v (restored_by m v i a))
restores_one m law v i a w is ok s k e f =
    let few : a < 32 = let l = there m v i a (not (v.struck i a)) NotStruck ok in let most = law.options_most i in omega arith in
    let one = λ (b : ℕ). is b ∙ one_bit a b few in
    let struck : s ≡ without_one v.struck i a = e ∙ without_one_word i a w one v.struck in
    same_state v.barred _ _ _ _ struck (f ∙ ap (unstruck m) struck) ∙ leaves (restore_due m v i a) v (restored_by m v i a) ok
