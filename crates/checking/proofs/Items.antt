-- The test of every item says that the words are a consistent set of the level.
use Rattle.std.proofs.Common.{◌≡◌, ℕ, ◌^◌, ◌<◌, Bool, not, ◌&&◌, T, eqb, ltb, ◌↔◌, List, get_or, Ok, Result, sym, ◌∙◌, subst, arith, eqb→eq, ltb→lt, lt→ltb}
use native.Mathlib.Decide.{dec_lt}
use Rattle.bits.specs.Below.{every}
use Rattle.bits.specs.Bits.{bit}
use Rattle.bits.proofs.Belows.{every_e, every_i}
use Rattle.bits.proofs.Tests.{and_l, and_r, and_i, if_then_i, if_then_e, not_e, not_i, to_true, of_true, of_false, eqb_yes}
use Rattle.bits.proofs.Words.{bit_high, bit_there, high_bit, some_bit}
use Rattle.meaning.specs.Meaning.{Meaning, Lawful}
use Rattle.meaning.specs.declared.refusal.Refusal.{Refusal}
use Rattle.levels.specs.Sets.{Proper, words}
use Rattle.levels.specs.Counts.{count_of, count_on}
use Rattle.levels.specs.Closed.{Closed, NoneEmpty}
use Rattle.levels.specs.Tests.{kept_meets_test, meets_test}
use Rattle.levels.specs.declared.level.Level.{Level}
use Rattle.levels.proofs.Decide.{meets_dec}
use Rattle.levels.proofs.IsCount.{is_count}
use Rattle.checking.specs.Tests.{is_item}
use Rattle.checking.specs.Verdicts.{ConsistentSet, Judges}

module _ (c : ℕ) (m : Meaning) (ws : List ℕ) where
  abbrev word : ℕ → ℕ
  word i = get_or ws i 0

  abbrev is_rest : ℕ → Bool
  is_rest i = ltb (get_or ws i 0) (2 ^ m.options i) && every (m.options i) (kept_meets_test c m (words ws) i)

  proper : T (every m.items (is_item c m ws)) → Proper m (words ws)
  proper t i a lt b =
      let s : T (ltb (word i) (2 ^ m.options i)) = and_l (ltb (word i) (2 ^ m.options i)) _ (and_r (not (eqb (word i) 0)) (is_rest i) (every_e m.items (is_item c m ws) t i lt)) in
      elim (dec_lt a (m.options i)) [
        | yes h ↦ h
        | no h ↦ absurd (of_false (bit_high (word i) (m.options i) a (ltb→lt (word i) (2 ^ m.options i) s) (omega arith)) b)
      ]

  closed : T (every m.items (is_item c m ws)) → Closed (count_on c) m (words ws)
  closed t i a h =
      let s : T (every (m.options i) (kept_meets_test c m (words ws) i)) = and_r (ltb (word i) (2 ^ m.options i)) _ (and_r (not (eqb (word i) 0)) (is_rest i) (every_e m.items (is_item c m ws) t i h.0)) in
      (meets_dec c m (words ws) i a).0 (if_then_e (words ws i a) (meets_test c m (words ws) i a) (every_e (m.options i) (kept_meets_test c m (words ws) i) s a h.1) h.2)

  none_empty : T (every m.items (is_item c m ws)) → NoneEmpty m (words ws)
  none_empty t i lt =
      let n : T (not (eqb (word i) 0)) = and_l (not (eqb (word i) 0)) (is_rest i) (every_e m.items (is_item c m ws) t i lt) in
      let b = some_bit (word i) (λ e. not_e (eqb (word i) 0) n (of_true (eqb_yes (word i) 0 e))) in
      (b.0, (lt, proper t i b.0 lt b.1, b.1))

  item_holds : Proper m (words ws) → Closed (count_on c) m (words ws) → NoneEmpty m (words ws) → (i : ℕ) → i < m.items → T (is_item c m ws i)
  item_holds p cl ne i lt =
      let b = ne i lt in
      and_i (not (eqb (word i) 0)) (is_rest i) (not_i (eqb (word i) 0) (λ e. bit_there (word i) b.0 b.1.2 (eqb→eq (word i) 0 e)))
      (and_i (ltb (word i) (2 ^ m.options i)) _ (small (word i) (m.options i) (λ a t. p i a lt t))
      (every_i (m.options i) (kept_meets_test c m (words ws) i) (λ a al. if_then_i (words ws i a) (meets_test c m (words ws) i a) (λ t. (meets_dec c m (words ws) i a).1 (cl i a (lt, al, t))))))
    where
      -- a word without bits from n on is below that power of two
      small : (w n : ℕ) → ((a : ℕ) → T (bit w a) → a < n) → T (ltb w (2 ^ n))
      small w n h =
          elim (dec_lt w (2 ^ n)) [
            | yes lt ↦ lt→ltb w (2 ^ n) lt
            | no ge ↦ (let k = high_bit w n (omega arith) in let lt : k.0 < n = h k.0 k.2 in absurd (omega arith))
          ]

-- by the level's partner count n
pub judged : (l : Level) (n : ℕ) → n ≡ count_of l → (m : Meaning) → Lawful m → (ws : List ℕ) → T (every m.items (is_item n m ws)) ↔ ConsistentSet l m ws
judged l n e m lawful ws = (
  (λ t. (proper n m ws t, ((λ i a h j k. (is_count l n e m lawful (words ws) i a j k).1 (closed n m ws t i a h j k)), none_empty n m ws t))),
  λ h. every_i m.items (is_item n m ws) (item_holds n m ws h.0 (λ i a x j k. (is_count l n e m lawful (words ws) i a j k).0 (h.1.0 i a x j k)) h.1.1),
)

pub judges : (l : Level) (n : ℕ) → n ≡ count_of l → (m : Meaning) → Lawful m → (ws : List ℕ) (d : Result Level Refusal) → Ok l ≡ d → (b : Bool) → b ≡ every m.items (is_item n m ws) → Judges m ws d (Ok b)
judges l n e m lawful ws d is b says =
    let all = judged l n e m lawful ws in
    subst (λ (x : Result Level Refusal). Judges m ws x (Ok b)) is
    ((λ t. all.0 (of_true (sym says ∙ t))), λ h. says ∙ to_true (every m.items (is_item n m ws)) (all.1 h))
