-- What one changed word makes of the set.
use Rattle.std.proofs.Common.{◌≡◌, ℕ, zero, suc, refl, ◌+◌, ◌-◌, ◌^◌, ◌<◌, ◌≤◌, Bool, false, not, ◌&&◌, ◌||◌, eqb, List, length, get_or, set, replicate, sym, ap, ◌∙◌, subst, arith, get_or-set_other, get_or-set_same}
use mathlib.Core.Path.{fun_ext}
use mathlib.Core.Bool.{or-false, and-true}
use native.Mathlib.Decide.{ℕ_discrete, dec_lt}
use lib.Bits.{bit_and, bit_or}
use lib.ListN.{length-replicate, get_or-replicate, get_or-eq_default}
use denote.Param.Members.{Mut}
use Rattle.std.specs.Array.{IsFromFnResult, IsFromFnResultFrom}
use Rattle.std.specs.Fn.{Called}
use Rattle.bits.specs.Bits.{bit}
use Rattle.bits.proofs.Tests.{eqb_yes, eqb_no}
use Rattle.bits.proofs.Words.{bit_none, bit_of_or}
use Rattle.levels.specs.Sets.{words}
use Rattle.runs.specs.State.{nothing}
use Rattle.sessions.specs.Words.{with_word, without_word}
use Rattle.sessions.proofs.Masks.{bit_minus}

-- the word at i becomes v, which combines each of its bits with one of w
changed : (f : Bool → Bool → Bool) → ((x : Bool) → f x false ≡ x) → (ws : List ℕ) (i v w : ℕ) → i < length ws
    → ((b : ℕ) → bit v b ≡ f (bit (get_or ws i 0) b) (bit w b)) → words (set ws i v) ≡ (λ j b. f (words ws j b) (eqb i j && bit w b))
changed f none ws i v w lt is =
    fun_ext (λ j. fun_ext (λ b. elim (ℕ_discrete i j) [
      | yes e ↦
          (let here : get_or (set ws i v) j 0 ≡ v = subst (λ (k : ℕ). get_or (set ws i v) k 0 ≡ v) e (get_or-set_same ws i v 0 lt) in
          ap (λ (z : ℕ). bit z b) here
          ∙ (is b
          ∙ (ap (λ (k : ℕ). f (bit (get_or ws k 0) b) (bit w b)) e ∙ ap (λ (z : Bool). f (words ws j b) (z && bit w b)) (sym (eqb_yes i j e)))))
      | no n ↦
          ap (λ (z : ℕ). bit z b) (get_or-set_other ws i j v 0 (λ e. n (sym e)))
          ∙ (sym (none (words ws j b)) ∙ ap (λ (z : Bool). f (words ws j b) (z && bit w b)) (sym (eqb_no i j n)))
    ]))

pub words_with : (ws : List ℕ) (i w : ℕ) → i < length ws → words (set ws i (bit_or (get_or ws i 0) w)) ≡ with_word (words ws) i w
words_with ws i w lt = changed ◌||◌ or-false ws i _ w lt (bit_of_or (get_or ws i 0) w)

pub words_without : (ws : List ℕ) (i w : ℕ) → i < length ws → get_or ws i 0 < 2 ^ 32 → w < 2 ^ 32
    → words (set ws i (bit_and (get_or ws i 0) (2 ^ 32 - 1 - w))) ≡ without_word (words ws) i w
words_without ws i w lt hx hw =
    changed (λ x y. x && not y) and-true ws i _ w lt (λ b. bit_minus (get_or ws i 0) w b hx hw)

pub words_none : (n : ℕ) → words (replicate n 0) ≡ nothing
words_none n =
    fun_ext (λ i. fun_ext (λ a. elim (dec_lt i n) [
      | yes l ↦ ap (λ (z : ℕ). bit z a) (get_or-replicate n i 0 0 l) ∙ bit_none a
      | no g ↦
          (let len : length (replicate {A = ℕ} n 0) ≤ i = rw length-replicate (omega arith) in
          ap (λ (z : ℕ). bit z a) (get_or-eq_default (replicate n 0) 0 len) ∙ bit_none a)
    ]))

-- an array made of its indices has at each of them what the closure answers there
module _ {F B : Type 0} (g : Mut F (ℕ × Unit {0}) B) (f : F) (P : ℕ → B → Type 0) (call : (x : ℕ) (y : B) (q : F) → Called g f (x, tt) y q → (q ≡ f) × P x y) where
  made_from : (ys : List B) (i n : ℕ) (q : F) → q ≡ f → IsFromFnResultFrom g q ys i n → (k : ℕ) (d : B) → i ≤ k → k < i + n → P k (get_or ys k d)
  made_from ys i zero q e h k d l u = absurd (omega arith)
  made_from ys i (suc n) q e h k d l u =
      let here = call i h.1 h.0 (subst (λ (p : F). Called g p (i, tt) h.1 h.0) e h.3) in
      elim (ℕ_discrete i k) [
        | yes z ↦ subst (λ (x : ℕ). P x (get_or ys x d)) z (subst (P i) (sym (h.2.1 d)) here.1)
        | no o ↦ made_from ys (i + 1) n h.0 here.0 h.4 k d (omega arith) (omega arith)
      ]

  pub made_at : (ys : List B) (n : ℕ) → IsFromFnResult g f ys n → (k : ℕ) (d : B) → k < n → P k (get_or ys k d)
  made_at ys n h k d l = made_from ys 0 n f refl h.each k d (omega arith) (omega arith)
